-- How many items and members are sent.
use Rattle.std.proofs.Common.{◌≡◌, ◌≤◌, ◌<◌, ◌+◌, ◌-◌, ℕ, suc, Bool, true, false, List, [], ◌∷◌, ◌++◌, String, Global, length, get_or, take, map, string_bytes, refl, sym, ap, ◌∙◌, subst, append_assoc, arith}
use Rattle.std.proofs.lemmas.List.{flat_map_more, map-append, take_more}
use Rattle.std.specs.Int.{from_bool}
use Rattle.std.specs.List.{flat_map}
use Rattle.std.specs.Prelude.{if◌then◌else◌}
use Rattle.serde_json.specs.Data.{Data, Members, member}
use Rattle.serde_json.specs.Events.{items_len, members_len}
use Rattle.serde_json.specs.View.{items_of}
use Rattle.tf_plan_json.specs.Members.{members_by}
use Rattle.tf_plan_json.specs.Parts.{false_items, is_leaf, known_data, known_items, known_members, unknown_data, unknown_items, unknown_members}
use Rattle.tf_state_data.specs.State.{outputs_of}
use Rattle.tf_state_data.specs.declared.object.Object.{Object}
use Rattle.tf_value_data.specs.Tree.{Tree, entries_view, is_unknown, items_view, texts_view, tree_of}
use Rattle.tf_value_data.specs.declared.value.Value.{Value}
use Rattle.tf_value_data.proofs.Views.{Entry}

pub known_items_len : (vs : List Value) → items_len (known_items (items_view vs)) ≡ length vs
known_items_len [] = refl
known_items_len (v ∷ vs) = ap suc (known_items_len vs)

pub unknown_items_len : (vs : List Value) → items_len (unknown_items (items_view vs)) ≡ length vs
unknown_items_len [] = refl
unknown_items_len (v ∷ vs) = ap suc (unknown_items_len vs)

pub false_items_len : (ss : List (String Global)) → items_len (false_items (texts_view ss)) ≡ length ss
false_items_len [] = refl
false_items_len (s ∷ ss) = ap suc (false_items_len ss)

pub variables_len : (form : Tree → Data) (es : List Entry) → members_len (members_by form (entries_view es)) ≡ length es
variables_len form [] = refl
variables_len form (e ∷ es) = ap suc (variables_len form es)

pub outputs_len : (form : Tree → Data) (es : List (String Global × Object)) → members_len (members_by form (outputs_of es)) ≡ length es
outputs_len form [] = refl
outputs_len form (e ∷ es) = ap suc (outputs_len form es)

pub items_len-each : {A : Type 0} (f : A → Data) (xs : List A) → items_len (items_of (map f xs)) ≡ length xs
items_len-each f [] = refl
items_len-each f (x ∷ xs) = ap suc (items_len-each f xs)

-- one more member at most
longer : (left_out : Bool) (k : List ℕ) (d : Data) (ms : Members) (n : ℕ) → members_len ms ≤ n → members_len (if left_out then ms else member k d ms) ≤ suc n
longer true k d ms n h = omega (arith, h)
longer false k d ms n h = omega (arith, h)

pub known_le : (es : List Entry) → members_len (known_members (entries_view es)) ≤ length es
known_le [] = omega arith
known_le (e ∷ es) = longer (is_unknown (tree_of e.1)) (string_bytes e.0) (known_data (tree_of e.1)) (known_members (entries_view es)) (length es) (known_le es)

pub unknown_le : (es : List Entry) → members_len (unknown_members (entries_view es)) ≤ length es
unknown_le [] = omega arith
unknown_le (e ∷ es) = longer (is_leaf (tree_of e.1)) (string_bytes e.0) (unknown_data (tree_of e.1)) (unknown_members (entries_view es)) (length es) (unknown_le es)

pub items_len-map : {A B : Type 0} (f : B → Data) (g : A → B) (xs : List A) → items_len (items_of (map f (map g xs))) ≡ length xs
items_len-map f g [] = refl
items_len-map f g (x ∷ xs) = ap suc (items_len-map f g xs)

-- ---- a count of those that are sent, from the number of all down

counts_down : (b : Bool) (k : List ℕ) (d : Data) (ms : Members) (n count total len : ℕ) → n ≡ from_bool b → members_len ms ≤ len → count + members_len (if b then ms else member k d ms) ≡ total + suc len
    → (n ≤ count) × ((count - n) + members_len ms ≡ total + len)
counts_down true k d ms n count total len gives le h = (omega (arith, gives, le, h), omega (arith, gives, le, h))
counts_down false k d ms n count total len gives le h = (omega (arith, gives, le, h), omega (arith, gives, le, h))

pub known_step : (left rest : List Entry) (e : Entry) (n count total : ℕ) → left ≡ e ∷ rest → n ≡ from_bool (is_unknown (tree_of e.1)) → count + members_len (known_members (entries_view left)) ≡ total + length left
    → (n ≤ count) × ((count - n) + members_len (known_members (entries_view rest)) ≡ total + length rest)
known_step left rest e n count total is gives h =
    counts_down (is_unknown (tree_of e.1)) (string_bytes e.0) (known_data (tree_of e.1)) (known_members (entries_view rest)) n count total (length rest) gives (known_le rest)
    (subst (λ es. count + members_len (known_members (entries_view es)) ≡ total + length es) is h)

pub unknown_step : (left rest : List Entry) (e : Entry) (n count total : ℕ) → left ≡ e ∷ rest → n ≡ from_bool (is_leaf (tree_of e.1)) → count + members_len (unknown_members (entries_view left)) ≡ total + length left
    → (n ≤ count) × ((count - n) + members_len (unknown_members (entries_view rest)) ≡ total + length rest)
unknown_step left rest e n count total is gives h =
    counts_down (is_leaf (tree_of e.1)) (string_bytes e.0) (unknown_data (tree_of e.1)) (unknown_members (entries_view rest)) n count total (length rest) gives (unknown_le rest)
    (subst (λ es. count + members_len (unknown_members (entries_view es)) ≡ total + length es) is h)

-- ---- one element more of a list

pub listed : {A B C D : Type 0} (view : A → D) (form : C → D) (see : B → C) (before : List D) (made more : List A) (xs : List B) (i : ℕ) (x : B) (a : A) → i < length xs → x ≡ get_or xs i x → map view made ≡ before ++ map form (map see (take i xs))
    → more ≡ made ++ a ∷ [] → view a ≡ form (see x) → map view more ≡ before ++ map form (map see (take (i + 1) xs))
listed view form see before made more xs i x a within is so_far pushed shown =
    let front = map form (map see (take i xs)) in
    let all = ap (λ ys. map form (map see ys)) (take_more xs i x within ∙ ap (λ y. take i xs ++ y ∷ []) (sym is)) ∙ ap (map form) (map-append see (take i xs) (x ∷ [])) ∙ map-append form (map see (take i xs)) (see x ∷ []) in
    ap (map view) pushed ∙ map-append view made (a ∷ []) ∙ ap (λ ys. ys ++ view a ∷ []) so_far ∙ append_assoc before front (view a ∷ []) ∙ ap (λ d. before ++ (front ++ d ∷ [])) shown ∙ ap (λ ys. before ++ ys) (sym all)

-- the parts of one element more
pub gathered : {B C D : Type 0} (parts : C → List D) (see : B → C) (old new : List D) (xs : List B) (i : ℕ) (x : B) → i < length xs → x ≡ get_or xs i x → old ≡ flat_map parts (map see (take i xs)) → new ≡ old ++ parts (see x)
    → new ≡ flat_map parts (map see (take (i + 1) xs))
gathered parts see old new xs i x within is so_far added =
    let all = ap (map see) (take_more xs i x within ∙ ap (λ y. take i xs ++ y ∷ []) (sym is)) ∙ map-append see (take i xs) (x ∷ []) in
    added ∙ ap (λ ys. ys ++ parts (see x)) so_far ∙ flat_map_more parts [] (map see (take i xs)) (see x) ∙ ap (flat_map parts) (sym all)
