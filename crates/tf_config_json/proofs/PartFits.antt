-- The parts that hold no properties of their own: what is demanded of each fits what it says.
use Rattle.std.proofs.Common.{◌≡◌, ℕ, ◌+◌, Bool, true, false, cond, is_some, Option, None, Some, List, ◌∷◌, refl, sym, ◌∙◌}
use Rattle.std.specs.Fmt.{decimal}
use Rattle.serde_json.specs.Data.{Data, null, boolean, number, string, array, object, Items, no_items, item, Members, no_members, member}
use Rattle.tf_config_address.specs.ResourceAddr.{ResourceAddrView}
use Rattle.tf_config_data.specs.declared.variable.VariableType.{VariableType}
use Rattle.tf_expr_json.proofs.Faultless.{expr_met, expr_from_met, expr_one}
use Rattle.tf_expr_json.proofs.Within.{AllMet-demanded_as, AllMet-from_demanded_as}
use Rattle.tf_expr_json.specs.Reading.{expr_checks, IsExpr}
use Rattle.tf_config_refusal.proofs.Checks.{AllMet-append, AllMet-left, AllMet-right}
use Rattle.tf_expr_syntax.specs.ExprTree.{Tree}
use Rattle.tf_value_data.proofs.Conjunction.{and-first, and-second, and-both}
use Rattle.tf_value_data.proofs.Storing.{within-true, within-limits}
use Rattle.tf_value_json.specs.Json.{tree_from, items_from, entries_from, value_from}
use Rattle.tf_value_data.specs.Known.{known, known_items, known_entries}
use Rattle.tf_value_data.specs.Tree as values
use Rattle.tf_config_json.proofs.Fits.{Fits}
use Rattle.tf_config_json.specs.Demand.{AreMet, IsMet, of_expression}
use Rattle.tf_config_json.specs.Parts.{expression_checks, text_checks, IsText, flag_checks, IsFlag, found_checks, Finds, type_text_checks, NamesType, number_checks, item_number_checks, member_number_checks, literal_checks, IsLiteral, name_checks, IsNameText, address_checks, IsAddressText}
use Rattle.tf_config_json.specs.Words.{addr_in, type_in}

pub expression_fits : Fits Tree expression_checks IsExpr
expression_fits =
    record {
      met = λ place d e h. AllMet-demanded_as IsMet of_expression (λ demand met. met) (expr_checks place d) (expr_met place d e h);
      from_met = λ place d h. expr_from_met place d (AllMet-from_demanded_as IsMet of_expression (λ demand met. met) (expr_checks place d) h);
      same = expr_one;
    }

-- ---- scalars

text_met : (place : List (List ℕ)) (d : Data) (s : List ℕ) → IsText d s → AreMet (text_checks place d)
text_met place null s h = absurd (cc)
text_met place (boolean x) s h = absurd (cc)
text_met place (number x) s h = absurd (cc)
text_met place (string x) s h = tt
text_met place (array x) s h = absurd (cc)
text_met place (object x) s h = absurd (cc)

text_from_met : (place : List (List ℕ)) (d : Data) → AreMet (text_checks place d) → (s : List ℕ) × IsText d s
text_from_met place null h = absurd h.0
text_from_met place (boolean x) h = absurd h.0
text_from_met place (number x) h = absurd h.0
text_from_met place (string x) h = (x, refl)
text_from_met place (array x) h = absurd h.0
text_from_met place (object x) h = absurd h.0

one_text : (s t : List ℕ) → string s ≡ string t → s ≡ t
one_text s t h = cc

pub text_fits : Fits (List ℕ) text_checks IsText
text_fits = record { met = text_met; from_met = text_from_met; same = λ d s t h j. one_text s t (sym h ∙ j) }

flag_met : (place : List (List ℕ)) (d : Data) (b : Bool) → IsFlag d b → AreMet (flag_checks place d)
flag_met place null b h = absurd (cc)
flag_met place (boolean x) b h = tt
flag_met place (number x) b h = absurd (cc)
flag_met place (string x) b h = absurd (cc)
flag_met place (array x) b h = absurd (cc)
flag_met place (object x) b h = absurd (cc)

flag_from_met : (place : List (List ℕ)) (d : Data) → AreMet (flag_checks place d) → (b : Bool) × IsFlag d b
flag_from_met place null h = absurd h.0
flag_from_met place (boolean x) h = (x, refl)
flag_from_met place (number x) h = absurd h.0
flag_from_met place (string x) h = absurd h.0
flag_from_met place (array x) h = absurd h.0
flag_from_met place (object x) h = absurd h.0

one_flag : (b c : Bool) → boolean b ≡ boolean c → b ≡ c
one_flag b c h = cc

pub flag_fits : Fits Bool flag_checks IsFlag
flag_fits = record { met = flag_met; from_met = flag_from_met; same = λ d b c h j. one_flag b c (sym h ∙ j) }

-- what is found stands there, and one thing at most
pub is_there : {A : Type 0} (o : Option A) (x : A) → o ≡ Some x → is_some o ≡ true
is_there o x h = rw h refl

pub what_is_there : {A : Type 0} (o : Option A) → is_some o ≡ true → (x : A) × (o ≡ Some x)
what_is_there None h = absurd (cc)
what_is_there (Some x) h = (x, refl)

pub one_there : {A : Type 0} (o : Option A) (x y : A) → o ≡ Some x → o ≡ Some y → x ≡ y
one_there o x y h j = let both : Some x ≡ Some y = sym h ∙ j in cc

module _ {A : Type 0} (find : List ℕ → Option A) where
  found_met : (place : List (List ℕ)) (d : Data) (x : A) → Finds find d x → AreMet (found_checks find place d)
  found_met place null x h = absurd h
  found_met place (boolean b) x h = absurd h
  found_met place (number n) x h = absurd h
  found_met place (string s) x h = (is_there (find s) x h, tt)
  found_met place (array ds) x h = absurd h
  found_met place (object ms) x h = absurd h

  found_from_met : (place : List (List ℕ)) (d : Data) → AreMet (found_checks find place d) → (x : A) × Finds find d x
  found_from_met place null h = absurd h.0
  found_from_met place (boolean b) h = absurd h.0
  found_from_met place (number n) h = absurd h.0
  found_from_met place (string s) h = what_is_there (find s) h.0
  found_from_met place (array ds) h = absurd h.0
  found_from_met place (object ms) h = absurd h.0

  found_same : (d : Data) (x y : A) → Finds find d x → Finds find d y → x ≡ y
  found_same null x y h j = absurd h
  found_same (boolean b) x y h j = absurd h
  found_same (number n) x y h j = absurd h
  found_same (string s) x y h j = one_there (find s) x y h j
  found_same (array ds) x y h j = absurd h
  found_same (object ms) x y h j = absurd h

  pub found_fits : Fits A (found_checks find) (Finds find)
  found_fits = record { met = found_met; from_met = found_from_met; same = found_same }

pub type_fits : Fits VariableType type_text_checks NamesType
type_fits = found_fits type_in

-- ---- elements of arrays

name_met : (place : List (List ℕ)) (d : Data) (s : List ℕ) → IsNameText d s → AreMet (name_checks place d)
name_met place null s h = let no = h.0 in absurd (cc)
name_met place (boolean x) s h = let no = h.0 in absurd (cc)
name_met place (number x) s h = let no = h.0 in absurd (cc)
name_met place (string x) s h = (rw (one_text x s h.0) h.1, tt)
name_met place (array x) s h = let no = h.0 in absurd (cc)
name_met place (object x) s h = let no = h.0 in absurd (cc)

name_from_met : (place : List (List ℕ)) (d : Data) → AreMet (name_checks place d) → (s : List ℕ) × IsNameText d s
name_from_met place null h = absurd h.0
name_from_met place (boolean x) h = absurd h.0
name_from_met place (number x) h = absurd h.0
name_from_met place (string x) h = (x, (refl, h.0))
name_from_met place (array x) h = absurd h.0
name_from_met place (object x) h = absurd h.0

pub name_fits : Fits (List ℕ) name_checks IsNameText
name_fits = record { met = name_met; from_met = name_from_met; same = λ d s t h j. one_text s t (sym h.0 ∙ j.0) }

pub address_fits : Fits ResourceAddrView address_checks IsAddressText
address_fits = found_fits addr_in

-- ---- literal values

mutual
  pub numbers_met : (place : List (List ℕ)) (d : Data) → known (tree_from d) ≡ true → AreMet (number_checks place d)
  numbers_met place null h = tt
  numbers_met place (boolean b) h = tt
  numbers_met place (number n) h = (h, tt)
  numbers_met place (string s) h = tt
  numbers_met place (array ds) h = item_numbers_met place 0 ds h
  numbers_met place (object ms) h = member_numbers_met place ms h

  item_numbers_met : (place : List (List ℕ)) (n : ℕ) (ds : Items) → known_items (items_from ds) ≡ true → AreMet (item_number_checks place n ds)
  item_numbers_met place n no_items h = tt
  item_numbers_met place n (item d ds) h =
      AllMet-append IsMet (number_checks (decimal n ∷ place) d) (item_number_checks place (n + 1) ds)
      (numbers_met (decimal n ∷ place) d (and-first (known (tree_from d)) (known_items (items_from ds)) h))
      (item_numbers_met place (n + 1) ds (and-second (known (tree_from d)) (known_items (items_from ds)) h))

  member_numbers_met : (place : List (List ℕ)) (ms : Members) → known_entries (entries_from ms) ≡ true → AreMet (member_number_checks place ms)
  member_numbers_met place no_members h = tt
  member_numbers_met place (member k d ms) h =
      AllMet-append IsMet (number_checks (k ∷ place) d) (member_number_checks place ms)
      (numbers_met (k ∷ place) d (and-first (known (tree_from d)) (known_entries (entries_from ms)) h))
      (member_numbers_met place ms (and-second (known (tree_from d)) (known_entries (entries_from ms)) h))

mutual
  pub numbers_known : (place : List (List ℕ)) (d : Data) → AreMet (number_checks place d) → known (tree_from d) ≡ true
  numbers_known place null h = refl
  numbers_known place (boolean b) h = refl
  numbers_known place (number n) h = h.0
  numbers_known place (string s) h = refl
  numbers_known place (array ds) h = item_numbers_known place 0 ds h
  numbers_known place (object ms) h = member_numbers_known place ms h

  item_numbers_known : (place : List (List ℕ)) (n : ℕ) (ds : Items) → AreMet (item_number_checks place n ds) → known_items (items_from ds) ≡ true
  item_numbers_known place n no_items h = refl
  item_numbers_known place n (item d ds) h =
      let own = number_checks (decimal n ∷ place) d in
      let others = item_number_checks place (n + 1) ds in
      and-both (known (tree_from d)) (known_items (items_from ds)) (numbers_known (decimal n ∷ place) d (AllMet-left IsMet own others h))
      (item_numbers_known place (n + 1) ds (AllMet-right IsMet own others h))

  member_numbers_known : (place : List (List ℕ)) (ms : Members) → AreMet (member_number_checks place ms) → known_entries (entries_from ms) ≡ true
  member_numbers_known place no_members h = refl
  member_numbers_known place (member k d ms) h =
      let own = number_checks (k ∷ place) d in
      let others = member_number_checks place ms in
      and-both (known (tree_from d)) (known_entries (entries_from ms)) (numbers_known (k ∷ place) d (AllMet-left IsMet own others h))
      (member_numbers_known place ms (AllMet-right IsMet own others h))

pub known_value : (b : Bool) (t u : values.Tree) → cond b (Some t) None ≡ Some u → (b ≡ true) × (t ≡ u)
known_value true t u h = (refl, one_there (Some t) t u refl h)
known_value false t u h = absurd (cc)

literal_met : (place : List (List ℕ)) (d : Data) (t : values.Tree) → IsLiteral d t → AreMet (literal_checks place d)
literal_met place d t h =
    let is = known_value (known (tree_from d)) (tree_from d) t h.0 in
    AllMet-append IsMet (number_checks place d) _ (numbers_met place d is.0) (rw is.1 (within-true t h.1), tt)

literal_from_met : (place : List (List ℕ)) (d : Data) → AreMet (literal_checks place d) → (t : values.Tree) × IsLiteral d t
literal_from_met place d h =
    let numbers = AllMet-left IsMet (number_checks place d) _ h in
    let within = AllMet-right IsMet (number_checks place d) _ h in
    (tree_from d, (rw (numbers_known place d numbers) refl, within-limits (tree_from d) within.0))

pub literal_fits : Fits values.Tree literal_checks IsLiteral
literal_fits = record { met = literal_met; from_met = literal_from_met; same = λ d t u h j. one_there (value_from d) t u h.0 j.0 }
