-- What a text is read as is sorted.
use Rattle.std.proofs.Common.{◌≡◌, ℕ, List, Option, Some, None, Ordering, Less, Equal, Greater, subst}
use Rattle.std.specs.Prelude.{option_map, option_and_then, ⊤}
use Rattle.std.specs.Ordering.{match_ordering}
use Rattle.json.specs.Json as json
use Rattle.json.specs.Lex.{tokens}
use Rattle.serde_json.specs.Data.{Data, number, array, object, item, Members, no_members, member, put}
use Rattle.serde_json.specs.Find.{get, get_member}
use Rattle.serde_json.specs.Read.{number_of, of_json, of_items, of_members, max_depth}
use Rattle.tf_value_json.specs.Plain.{IsAny, IsSorted, AreOrderly, AreOrderlyMembers, ReadIsSorted}
use Rattle.tf_value_json.proofs.Puts.{cmp, orderly-put}

-- what is there has a property
abbrev OfSome : {A : Type 0} → (A → Type 0) → Option A → Type 0
OfSome P None = ⊤
OfSome P (Some a) = P a

of_map : {A B : Type 0} (P : A → Type 0) (Q : B → Type 0) (f : A → B) → ((a : A) → P a → Q (f a)) → (o : Option A) → OfSome P o → OfSome Q (option_map f o)
of_map P Q f step None h = tt
of_map P Q f step (Some a) h = step a h

of_then : {A B : Type 0} (P : A → Type 0) (Q : B → Type 0) (f : A → Option B) → ((a : A) → P a → OfSome Q (f a)) → (o : Option A) → OfSome P o → OfSome Q (option_and_then f o)
of_then P Q f step None h = tt
of_then P Q f step (Some a) h = step a h

any : {A : Type 0} (o : Option A) → OfSome (λ _. ⊤) o
any None = tt
any (Some a) = tt

mutual
  sorted-of_json : (j : json.Json) → OfSome IsSorted (of_json j)
  sorted-of_json json.null = tt
  sorted-of_json (json.boolean b) = tt
  sorted-of_json (json.number s) = of_map (λ _. ⊤) IsSorted number (λ n h. tt) (number_of s) (any (number_of s))
  sorted-of_json (json.string s) = tt
  sorted-of_json (json.array js) = of_map (AreOrderly IsAny) IsSorted array (λ ds h. h) (of_items js) (sorted-of_items js)
  sorted-of_json (json.object ms) = of_map (AreOrderlyMembers IsAny) IsSorted object (λ ns h. h) (of_members ms no_members) (sorted-of_members ms no_members tt)

  sorted-of_items : (js : json.Items) → OfSome (AreOrderly IsAny) (of_items js)
  sorted-of_items json.no_items = tt
  sorted-of_items (json.item j js) =
      of_then IsSorted (AreOrderly IsAny) (λ d. option_map (item d) (of_items js)) (λ d h. of_map (AreOrderly IsAny) (AreOrderly IsAny) (item d) (λ ds k. (h, k)) (of_items js) (sorted-of_items js)) (of_json j) (sorted-of_json j)

  sorted-of_members : (ms : json.Members) (found : Members) → AreOrderlyMembers IsAny found → OfSome (AreOrderlyMembers IsAny) (of_members ms found)
  sorted-of_members json.no_members found h = h
  sorted-of_members (json.member k j ms) found h =
      of_then IsSorted (AreOrderlyMembers IsAny) (λ d. of_members ms (put k d found)) (λ d p. sorted-of_members ms (put k d found) (orderly-put IsAny k d found p h)) (of_json j) (sorted-of_json j)

pub read_is_sorted : ReadIsSorted
read_is_sorted text d e =
    let parsed = option_and_then (λ p. json.if_last p.0 p.1) (json.value max_depth (tokens text)) in
    subst (OfSome IsSorted) e (of_then (λ _. ⊤) IsSorted of_json (λ j h. sorted-of_json j) parsed (any parsed))

member_at : (o : Ordering) (k : List ℕ) (d : Data) (ms : Members) (e : Data) → IsSorted d → (get_member k ms ≡ Some e → IsSorted e) → match_ordering o (get_member k ms) (Some d) (get_member k ms) ≡ Some e → IsSorted e
member_at Less k d ms e p more is = more is
member_at Equal k d ms e p more is = let same : d ≡ e = cc in subst IsSorted same p
member_at Greater k d ms e p more is = more is

sorted-get_member : (k : List ℕ) (ms : Members) (e : Data) → AreOrderlyMembers IsAny ms → get_member k ms ≡ Some e → IsSorted e
sorted-get_member k no_members e h is = absurd (cc)
sorted-get_member k (member l d ms) e h is = member_at (cmp k l) k d ms e h.1 (sorted-get_member k ms e h.2) is

-- what stands at a key of a sorted tree is sorted
pub sorted-get : (k : List ℕ) (d e : Data) → IsSorted d → get k d ≡ Some e → IsSorted e
sorted-get k (object ms) e h is = sorted-get_member k ms e h is
sorted-get k _ e h is = absurd (cc)
