-- The text of a plain tree reads as that tree.
use Rattle.std.proofs.Common.{◌≡◌, ℕ, suc, ◌^◌, ◌<◌, ◌≤◌, ◌==◌, false, get_or, decimal, pos, negsuc, List, [], ◌∷◌, Some, Greater, nat_cmp, refl, sym, ap, ◌∙◌, subst, append-nil, arith}
use Rattle.std.specs.Prelude.{option_map, option_and_then}
use Rattle.std.specs.Cmp.Lexicographic.{slice_cmp}
use Rattle.std.specs.Ordering.{ordering_reverse}
use Rattle.std.proofs.lemmas.Cmp.{nat_list_cmp_total}
use Rattle.json.specs.Json as json
use Rattle.json.specs.Tree as tree
use Rattle.json.proofs.Printed.Trees.{value-json_tokens, ArePrintable-json_tokens}
use Rattle.json.specs.Print.{IsNumber}
use Rattle.json.specs.Word.{after_number}
use Rattle.json.proofs.Printed.Decimals.{IsNumber-decimal}
use Rattle.std.proofs.lemmas.Bool.{ne_eqb}
use Rattle.std.proofs.lemmas.Fmt.{first_decimal}
use Rattle.serde_json.specs.Data.{Data, null, boolean, number, unsigned, negative, float, string, array, object, Items, no_items, item, Members, no_members, member, put, depth, items_depth, members_depth}
use Rattle.serde_json.specs.Read.{of_json, of_items, of_members, max_depth}
use Rattle.serde_json.specs.Written.{outline, items_outline, members_outline}
use Rattle.serde_json.proofs.Numbers.{number_of-decimal, number_of-negative}
use Rattle.tf_value_json.specs.Plain.{IsPlain, ArePlain, ArePlainMembers, AreAbove, TextReadsBack}
use Rattle.tf_value_json.proofs.Gaps.{tokens-pretty}

-- ---- numbers

-- a number that begins with a digit other than 0 is one behind a minus, too
negative_number : (s : List ℕ) → 48 < get_or s 0 0 → IsNumber s → IsNumber (45 ∷ s)
unfolding after_number
negative_number [] first h = absurd (omega arith)
negative_number (d ∷ s) first h = let other : (d == 45) ≡ false = ne_eqb d 45 (λ e. omega arith) in rw other at h

mutual
  HasNumbers-outline : (d : Data) → IsPlain d → tree.HasNumbers (outline d)
  HasNumbers-outline null h = tt
  HasNumbers-outline (boolean b) h = tt
  HasNumbers-outline (number (unsigned n)) h = IsNumber-decimal n h
  HasNumbers-outline (number (negative (pos n))) h = absurd h
  HasNumbers-outline (number (negative (negsuc n))) h =
      let some : 0 < suc n = omega arith in
      let fits : suc n < 2 ^ 64 = omega arith in
      negative_number (decimal (suc n)) (first_decimal (suc n) some fits) (IsNumber-decimal (suc n) fits)
  HasNumbers-outline (number (float x)) h = absurd h
  HasNumbers-outline (string s) h = tt
  HasNumbers-outline (array ds) h = ItemsHaveNumbers-outline ds h
  HasNumbers-outline (object ms) h = MembersHaveNumbers-outline ms h

  ItemsHaveNumbers-outline : (ds : Items) → ArePlain ds → tree.ItemsHaveNumbers (items_outline ds)
  ItemsHaveNumbers-outline no_items h = tt
  ItemsHaveNumbers-outline (item d ds) h = (HasNumbers-outline d h.0, ItemsHaveNumbers-outline ds h.1)

  MembersHaveNumbers-outline : (ms : Members) → ArePlainMembers ms → tree.MembersHaveNumbers (members_outline ms)
  MembersHaveNumbers-outline no_members h = tt
  MembersHaveNumbers-outline (member k d ms) h = (HasNumbers-outline d h.1, MembersHaveNumbers-outline ms h.2)

-- ---- depth

mutual
  depth-outline : (d : Data) → tree.depth (outline d) ≡ depth d
  depth-outline null = refl
  depth-outline (boolean b) = refl
  depth-outline (number n) = refl
  depth-outline (string s) = refl
  depth-outline (array ds) = ap (λ n. suc n) (items_depth-outline ds)
  depth-outline (object ms) = ap (λ n. suc n) (members_depth-outline ms)

  items_depth-outline : (ds : Items) → tree.items_depth (items_outline ds) ≡ items_depth ds
  items_depth-outline no_items = refl
  items_depth-outline (item d ds) = rw (depth-outline d, items_depth-outline ds) refl

  members_depth-outline : (ms : Members) → tree.members_depth (members_outline ms) ≡ members_depth ms
  members_depth-outline no_members = refl
  members_depth-outline (member k d ms) = rw (depth-outline d, members_depth-outline ms) refl

-- ---- members in order

abbrev join : Members → Members → Members
join no_members ns = ns
join (member k d ms) ns = member k d (join ms ns)

join_assoc : (ms ns os : Members) → join (join ms ns) os ≡ join ms (join ns os)
join_assoc no_members ns os = refl
join_assoc (member k d ms) ns os = ap (member k d) (join_assoc ms ns os)

join_nothing : (ms : Members) → join ms no_members ≡ ms
join_nothing no_members = refl
join_nothing (member k d ms) = ap (member k d) (join_nothing ms)

-- a key is above each of these
abbrev AreBelow : Members → List ℕ → Type 0
AreBelow no_members k = Unit {0}
AreBelow (member l d ms) k = (slice_cmp nat_cmp k l ≡ Greater) × AreBelow ms k

-- and so is each of some keys
abbrev AllBelow : Members → Members → Type 0
AllBelow found no_members = Unit {0}
AllBelow found (member k d ms) = AreBelow found k × AllBelow found ms

put-last : (k : List ℕ) (d : Data) (found : Members) → AreBelow found k → put k d found ≡ join found (member k d no_members)
put-last k d no_members h = refl
put-last k d (member l e ms) h = rw h.0 (ap (member l e) (put-last k d ms h.1))

AreBelow-join : (found : Members) (l : List ℕ) (d : Data) (k : List ℕ) → AreBelow found k → slice_cmp nat_cmp k l ≡ Greater → AreBelow (join found (member l d no_members)) k
AreBelow-join no_members l d k h e = (e, tt)
AreBelow-join (member m c ms) l d k h e = (h.0, AreBelow-join ms l d k h.1 e)

AllBelow-join : (found : Members) (l : List ℕ) (d : Data) (ms : Members) → AllBelow found ms → AreAbove l ms → AllBelow (join found (member l d no_members)) ms
AllBelow-join found l d no_members h a = tt
AllBelow-join found l d (member k e ms) h a = (AreBelow-join found l d k h.0 (nat_list_cmp_total.antisymm k l ∙ ap ordering_reverse a.0), AllBelow-join found l d ms h.1 a.1)

AllBelow-nothing : (ms : Members) → AllBelow no_members ms
AllBelow-nothing no_members = tt
AllBelow-nothing (member k d ms) = (tt, AllBelow-nothing ms)

mutual
  of_json-outline : (d : Data) → IsPlain d → of_json (outline d) ≡ Some d
  of_json-outline null h = refl
  of_json-outline (boolean b) h = refl
  of_json-outline (number (unsigned n)) h = ap (option_map number) (number_of-decimal n h)
  of_json-outline (number (negative (pos n))) h = absurd h
  of_json-outline (number (negative (negsuc n))) h = ap (option_map number) (number_of-negative n h)
  of_json-outline (number (float x)) h = absurd h
  of_json-outline (string s) h = refl
  of_json-outline (array ds) h = ap (option_map array) (of_items-outline ds h)
  of_json-outline (object ms) h = ap (option_map object) (of_members-outline ms no_members h (AllBelow-nothing ms))

  of_items-outline : (ds : Items) → ArePlain ds → of_items (items_outline ds) ≡ Some ds
  of_items-outline no_items h = refl
  of_items-outline (item d ds) h = rw (of_json-outline d h.0, of_items-outline ds h.1) refl

  of_members-outline : (ms found : Members) → ArePlainMembers ms → AllBelow found ms → of_members (members_outline ms) found ≡ Some (join found ms)
  of_members-outline no_members found h b = ap Some (sym (join_nothing found))
  of_members-outline (member k d ms) found h b =
      rw (of_json-outline d h.1, put-last k d found b.0)
      (of_members-outline ms (join found (member k d no_members)) h.2 (AllBelow-join found k d ms b.1 h.0) ∙ ap Some (join_assoc found (member k d no_members) ms))

pub text_reads_back : TextReadsBack
text_reads_back d plain shallow =
    let j = outline d in
    let printable = ArePrintable-json_tokens j (HasNumbers-outline d plain) in
    let fits : tree.depth j ≤ max_depth = subst (λ n. n ≤ max_depth) (sym (depth-outline d)) shallow in
    ap (λ o. option_and_then of_json (option_and_then (λ p. json.if_last p.0 p.1) o))
    (ap (json.value max_depth) (tokens-pretty (tree.json_tokens j) printable ∙ sym (append-nil (tree.json_tokens j))) ∙ value-json_tokens j max_depth [] fits) ∙ of_json-outline d plain
