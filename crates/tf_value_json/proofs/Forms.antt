-- The JSON forms of values: which there are, and that they are one.
use Rattle.std.proofs.Common.{◌≡◌, ◌<◌, ◌^◌, ℕ, ℤ, pos, negsuc, List, [], ◌∷◌, Bool, true, false, Some, None, nat_lt, cond, refl, sym, ap, ◌∙◌, subst, rules, arith}
use Rattle.std.proofs.lemmas.Bool.{ltb-true, lt-ltb}
use Rattle.std.proofs.lemmas.Int.{ints}
use Rattle.std.specs.Prelude.{◌↔◌, FitsSigned}
use Rattle.std.specs.Int.{w64}
use Rattle.serde_json.specs.Data as json
use Rattle.serde_json.specs.Find.{of_integer}
use Rattle.tf_value_data.specs.Tree.{Tree, null, boolean, whole, text, list, map, set, unknown, Items, no_items, item, Entries, no_entries, entry, text_items, IsHeld, AreHeld, AreHeldEntries}
use Rattle.tf_value_data.specs.Known.{known, known_items, known_entries}
use Rattle.tf_value_json.specs.Json.{IsJson, IsArray, IsObject, AreTexts, value_data, items_data, entries_data, texts_data, value_from, whole_from, tree_from, items_from, entries_from}
use Rattle.tf_value_data.specs.Parts.{items_have_only, entries_have_only, items_rewritten, entries_rewritten}
use Rattle.tf_value_data.specs.Sets.{has_no_set, with_lists}
use Rattle.tf_value_data.proofs.Conjunction.{and-first, and-second, and-both}
use Rattle.tf_value_data.proofs.WithLists.{no_set-lists, lists-known}

-- texts have a form, one alone, as which they read
form_of_texts : (ss : List (List ℕ)) → AreTexts ss (texts_data ss)
form_of_texts [] = tt
form_of_texts (s ∷ ss) = (refl, form_of_texts ss)

texts-one_form : (ss : List (List ℕ)) (ds es : json.Items) → AreTexts ss ds → AreTexts ss es → ds ≡ es
texts-one_form [] json.no_items json.no_items h g = refl
texts-one_form (s ∷ ss) (json.item (json.string t) ds) (json.item (json.string u) es) h g =
    let a = h.0 in let b = g.0 in let q = texts-one_form ss ds es h.1 g.1 in cc
texts-one_form _ _ _ h g = absurd (assumption)

items_from-texts : (ss : List (List ℕ)) (ds : json.Items) → AreTexts ss ds → items_from ds ≡ text_items ss
items_from-texts [] json.no_items h = refl
items_from-texts (s ∷ ss) (json.item (json.string t) ds) h = let a = h.0 in let q = items_from-texts ss ds h.1 in cc
items_from-texts _ _ h = absurd (assumption)

-- a known value has a form
mutual
  pub form_of : (t : Tree) → IsHeld t → known t ≡ true → IsJson t (value_data t)
  form_of null h e = tt
  form_of (boolean b) h e = refl
  form_of (whole z) h e = (h, refl)
  form_of (text s) h e = refl
  form_of (list ts) h e = form_of_items ts h e
  form_of (map es) h e = form_of_entries es h e
  form_of (set ss) h e = form_of_texts ss
  form_of unknown h e = absurd (cc)

  pub form_of_items : (ts : Items) → AreHeld ts → known_items ts ≡ true → IsArray ts (items_data ts)
  form_of_items no_items h e = tt
  form_of_items (item t ts) h e = (form_of t h.0 (and-first _ _ e), form_of_items ts h.1 (and-second _ _ e))

  pub form_of_entries : (es : Entries) → AreHeldEntries es → known_entries es ≡ true → IsObject es (entries_data es)
  form_of_entries no_entries h e = tt
  form_of_entries (entry k t es) h e = (refl, form_of t h.0 (and-first _ _ e), form_of_entries es h.1 (and-second _ _ e))

pub form_along : (t : Tree) (d : json.Data) → IsHeld t → known t ≡ true → d ≡ value_data t → IsJson t d
form_along t d h e is = subst (IsJson t) (sym is) (form_of t h e)

pub object_along : (es : Entries) (ms : json.Members) → AreHeldEntries es → known_entries es ≡ true → ms ≡ entries_data es → IsObject es ms
object_along es ms h e is = subst (IsObject es) (sym is) (form_of_entries es h e)

-- two forms of one value are the same
mutual
  pub IsJson-one_form : (t : Tree) (d e : json.Data) → IsJson t d → IsJson t e → d ≡ e
  IsJson-one_form null json.null json.null h g = refl
  IsJson-one_form (boolean b) (json.boolean c) (json.boolean d) h g = ap json.boolean (sym h ∙ g)
  IsJson-one_form (whole z) (json.number n) (json.number m) h g = ap json.number (h.1 ∙ sym g.1)
  IsJson-one_form (text r) (json.string s) (json.string t) h g = ap json.string (sym h ∙ g)
  IsJson-one_form (list ts) (json.array ds) (json.array es) h g = ap json.array (IsArray-one_form ts ds es h g)
  IsJson-one_form (set ss) (json.array ds) (json.array es) h g = ap json.array (texts-one_form ss ds es h g)
  IsJson-one_form (map ts) (json.object ms) (json.object ns) h g = ap json.object (IsObject-one_form ts ms ns h g)
  IsJson-one_form _ _ _ h g = absurd (assumption)

  pub IsArray-one_form : (ts : Items) (ds es : json.Items) → IsArray ts ds → IsArray ts es → ds ≡ es
  IsArray-one_form no_items json.no_items json.no_items h g = refl
  IsArray-one_form (item t ts) (json.item d ds) (json.item e es) h g =
      let p = IsJson-one_form t d e h.0 g.0 in let q = IsArray-one_form ts ds es h.1 g.1 in cc
  IsArray-one_form _ _ _ h g = absurd (assumption)

  pub IsObject-one_form : (ts : Entries) (ms ns : json.Members) → IsObject ts ms → IsObject ts ns → ms ≡ ns
  IsObject-one_form no_entries json.no_members json.no_members h g = refl
  IsObject-one_form (entry k t ts) (json.member l d ms) (json.member m e ns) h g =
      let a = h.0 in let b = g.0 in let p = IsJson-one_form t d e h.1 g.1 in let q = IsObject-one_form ts ms ns h.2 g.2 in cc
  IsObject-one_form _ _ _ h g = absurd (assumption)

-- what has a form is known
mutual
  pub IsJson-known : (t : Tree) (d : json.Data) → IsJson t d → known t ≡ true
  IsJson-known null d h = refl
  IsJson-known (boolean b) d h = refl
  IsJson-known (whole z) d h = refl
  IsJson-known (text s) d h = refl
  IsJson-known (list ts) (json.array ds) h = IsArray-known ts ds h
  IsJson-known (set ss) d h = refl
  IsJson-known (map es) (json.object ms) h = IsObject-known es ms h
  IsJson-known _ _ h = absurd (assumption)

  pub IsArray-known : (ts : Items) (ds : json.Items) → IsArray ts ds → known_items ts ≡ true
  IsArray-known no_items d h = refl
  IsArray-known (item t ts) (json.item d ds) h = and-both _ _ (IsJson-known t d h.0) (IsArray-known ts ds h.1)
  IsArray-known _ _ h = absurd (assumption)

  pub IsObject-known : (es : Entries) (ms : json.Members) → IsObject es ms → known_entries es ≡ true
  IsObject-known no_entries d h = refl
  IsObject-known (entry k t es) (json.member l d ms) h = and-both _ _ (IsJson-known t d h.1) (IsObject-known es ms h.2)
  IsObject-known _ _ h = absurd (assumption)

-- and its whole numbers are those of 64 bits
mutual
  pub form-held : (t : Tree) (d : json.Data) → IsJson t d → IsHeld t
  form-held null d h = tt
  form-held (boolean b) d h = tt
  form-held (whole z) (json.number n) h = h.0
  form-held (text u) d h = tt
  form-held (list ts) (json.array ds) h = array-held ts ds h
  form-held (map es) (json.object ms) h = object-held es ms h
  form-held (set ss) d h = tt
  form-held unknown d h = tt
  form-held _ _ h = absurd (assumption)

  array-held : (ts : Items) (ds : json.Items) → IsArray ts ds → AreHeld ts
  array-held no_items d h = tt
  array-held (item t ts) (json.item d ds) h = (form-held t d h.0, array-held ts ds h.1)
  array-held _ _ h = absurd (assumption)

  object-held : (es : Entries) (ms : json.Members) → IsObject es ms → AreHeldEntries es
  object-held no_entries d h = tt
  object-held (entry k t es) (json.member l d ms) h = (form-held t d h.1, object-held es ms h.2)
  object-held _ _ h = absurd (assumption)

below_pos : (n : ℕ) → FitsSigned w64 (pos n) → n < 2 ^ 63
below_pos n h = first_of (omega (arith, ints), grind (arith, ints), search rules)

below_negsuc : (n : ℕ) → FitsSigned w64 (negsuc n) → n < 2 ^ 63
below_negsuc n h = first_of (omega (arith, ints), grind (arith, ints), search rules)

fits_pos : (n : ℕ) → n < 2 ^ 63 → FitsSigned w64 (pos n)
fits_pos n h = first_of (omega (arith, ints), grind (arith, ints), search rules)

fits_negsuc : (n : ℕ) → n < 2 ^ 63 → FitsSigned w64 (negsuc n)
fits_negsuc n h = first_of (omega (arith, ints), grind (arith, ints), search rules)

picks : (b : Bool) (n : ℕ) (z : ℤ) → nat_lt n (2 ^ 63) ≡ b → n < 2 ^ 63 → cond b (whole z) unknown ≡ whole z
picks true n z e h = refl
picks false n z e h = absurd (let k : false ≡ true = sym e ∙ lt-ltb n (2 ^ 63) h in cc)

tested : (b : Bool) (n : ℕ) (z : ℤ) (m : json.Num) → nat_lt n (2 ^ 63) ≡ b → (n < 2 ^ 63 → IsJson (whole z) (json.number m)) → known (cond b (whole z) unknown) ≡ true → IsJson (cond b (whole z) unknown) (json.number m)
tested true n z m e h k = h (ltb-true n (2 ^ 63) e)
tested false n z m e h k = absurd (cc)

-- the number that a whole number is written as reads back
whole_from-of_integer : (z : ℤ) → FitsSigned w64 z → whole_from (of_integer z) ≡ whole z
whole_from-of_integer (pos n) h = picks _ n (pos n) refl (below_pos n h)
whole_from-of_integer (negsuc n) h = picks _ n (negsuc n) refl (below_negsuc n h)

-- a form reads as its value, with a list for each set
mutual
  pub tree_from-form : (t : Tree) (d : json.Data) → IsJson t d → tree_from d ≡ with_lists t
  tree_from-form null json.null h = refl
  tree_from-form (boolean b) (json.boolean c) h = ap boolean (sym h)
  tree_from-form (whole z) (json.number n) h = ap whole_from h.1 ∙ whole_from-of_integer z h.0
  tree_from-form (text s) (json.string t) h = ap text (sym h)
  tree_from-form (list ts) (json.array ds) h = ap list (items_from-form ts ds h)
  tree_from-form (set ss) (json.array ds) h = ap list (items_from-texts ss ds h)
  tree_from-form (map es) (json.object ms) h = ap map (entries_from-form es ms h)
  tree_from-form _ _ h = absurd (assumption)

  pub items_from-form : (ts : Items) (ds : json.Items) → IsArray ts ds → items_from ds ≡ items_rewritten false true ts
  items_from-form no_items json.no_items h = refl
  items_from-form (item t ts) (json.item d ds) h =
      let p = tree_from-form t d h.0 in let q = items_from-form ts ds h.1 in cc
  items_from-form _ _ h = absurd (assumption)

  pub entries_from-form : (es : Entries) (ms : json.Members) → IsObject es ms → entries_from ms ≡ entries_rewritten false true es
  entries_from-form no_entries json.no_members h = refl
  entries_from-form (entry k t es) (json.member l d ms) h =
      let a = h.0 in let p = tree_from-form t d h.1 in let q = entries_from-form es ms h.2 in cc
  entries_from-form _ _ h = absurd (assumption)

whole_number : (n : json.Num) → known (whole_from n) ≡ true → IsJson (whole_from n) (json.number n)
whole_number (json.unsigned n) e = tested _ n (pos n) (json.unsigned n) refl (λ h. (fits_pos n h, refl)) e
whole_number (json.negative (pos n)) e = absurd (cc)
whole_number (json.negative (negsuc n)) e = tested _ n (negsuc n) (json.negative (negsuc n)) refl (λ h. (fits_negsuc n h, refl)) e
whole_number (json.float x) e = absurd (cc)

-- what reads without an unknown part is a form
mutual
  pub form-tree_from : (d : json.Data) → known (tree_from d) ≡ true → IsJson (tree_from d) d
  form-tree_from json.null e = tt
  form-tree_from (json.boolean b) e = refl
  form-tree_from (json.number n) e = whole_number n e
  form-tree_from (json.string s) e = refl
  form-tree_from (json.array ds) e = form-items_from ds e
  form-tree_from (json.object ms) e = form-entries_from ms e

  pub form-items_from : (ds : json.Items) → known_items (items_from ds) ≡ true → IsArray (items_from ds) ds
  form-items_from json.no_items e = tt
  form-items_from (json.item d ds) e = (form-tree_from d (and-first _ _ e), form-items_from ds (and-second _ _ e))

  pub form-entries_from : (ms : json.Members) → known_entries (entries_from ms) ≡ true → IsObject (entries_from ms) ms
  form-entries_from json.no_members e = tt
  form-entries_from (json.member k d ms) e = (refl, form-tree_from d (and-first _ _ e), form-entries_from ms (and-second _ _ e))

-- whole numbers have no set
whole_if-no_set : (b : Bool) (z : ℤ) → has_no_set (cond b (whole z) unknown) ≡ true
whole_if-no_set true z = refl
whole_if-no_set false z = refl

whole_from-no_set : (n : json.Num) → has_no_set (whole_from n) ≡ true
whole_from-no_set (json.unsigned n) = whole_if-no_set (nat_lt n (2 ^ 63)) (pos n)
whole_from-no_set (json.negative (pos n)) = refl
whole_from-no_set (json.negative (negsuc n)) = whole_if-no_set (nat_lt n (2 ^ 63)) (negsuc n)
whole_from-no_set (json.float x) = refl

-- what reads has no set
mutual
  pub tree_from-no_set : (d : json.Data) → has_no_set (tree_from d) ≡ true
  tree_from-no_set json.null = refl
  tree_from-no_set (json.boolean b) = refl
  tree_from-no_set (json.number n) = whole_from-no_set n
  tree_from-no_set (json.string s) = refl
  tree_from-no_set (json.array ds) = items_from-no_set ds
  tree_from-no_set (json.object ms) = entries_from-no_set ms

  items_from-no_set : (ds : json.Items) → items_have_only true false (items_from ds) ≡ true
  items_from-no_set json.no_items = refl
  items_from-no_set (json.item d ds) = and-both _ _ (tree_from-no_set d) (items_from-no_set ds)

  entries_from-no_set : (ms : json.Members) → entries_have_only true false (entries_from ms) ≡ true
  entries_from-no_set json.no_members = refl
  entries_from-no_set (json.member k d ms) = and-both _ _ (tree_from-no_set d) (entries_from-no_set ms)

pub tree_from-value : (t : Tree) (d : json.Data) → has_no_set t ≡ true → IsJson t d → tree_from d ≡ t
tree_from-value t d none h = tree_from-form t d h ∙ no_set-lists t none

-- two values of one form are the same
pub IsJson-one_value : (t u : Tree) (d : json.Data) → has_no_set t ≡ true → has_no_set u ≡ true → IsJson t d → IsJson u d → t ≡ u
IsJson-one_value t u d p q h g = sym (tree_from-value t d p h) ∙ tree_from-value u d q g

some_of : (b : Bool) (t u : Tree) → cond b (Some t) None ≡ Some u → (b ≡ true) × (t ≡ u)
some_of true t u e = (refl, cc)
some_of false t u e = absurd (cc)

some_if : (b : Bool) (t u : Tree) → b ≡ true → t ≡ u → cond b (Some t) None ≡ Some u
some_if true t u e f = ap Some f
some_if false t u e f = absurd (cc)

-- a JSON tree reads as a value exactly where it is its form and there is no set in the value
pub value_from-form : (t : Tree) (d : json.Data) → (value_from d ≡ Some t) ↔ (IsJson t d × (has_no_set t ≡ true))
value_from-form t d = (
  λ e. let k = some_of (known (tree_from d)) (tree_from d) t e in subst (λ u. IsJson u d × (has_no_set u ≡ true)) k.1 (form-tree_from d k.0, tree_from-no_set d),
  λ h. let e = tree_from-value t d h.1 h.0 in some_if _ _ t (ap known e ∙ IsJson-known t d h.0) e,
)

-- the form of a value is read
form-is_read : (t : Tree) (d : json.Data) → IsJson t d → value_from d ≡ Some (with_lists t)
form-is_read t d h =
    let e = tree_from-form t d h in some_if _ _ (with_lists t) (ap known e ∙ lists-known t ∙ IsJson-known t d h) e

none_unless : (b : Bool) (t : Tree) → (b ≡ true → ⊥) → cond b (Some t) None ≡ None
none_unless true t never = absurd (never refl)
none_unless false t never = refl

pub value_from-none : (d : json.Data) → (value_from d ≡ None) ↔ ((t : Tree) → ¬ IsJson t d)
value_from-none d = (
  λ e t h. absurd (let k : Some (with_lists t) ≡ None = sym (form-is_read t d h) ∙ e in cc),
  λ never. none_unless (known (tree_from d)) (tree_from d) (λ e. never (tree_from d) (form-tree_from d e)),
)

pub value_from-value_data : (t : Tree) → IsHeld t → known t ≡ true → value_from (value_data t) ≡ Some (with_lists t)
value_from-value_data t h e = form-is_read t (value_data t) (form_of t h e)
