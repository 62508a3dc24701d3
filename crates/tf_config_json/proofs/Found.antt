-- An output's body says a value exactly where it has one.
use Rattle.std.proofs.Common.{◌≡◌, ℕ, Bool, true, false, cond, is_eq, is_some, Option, None, Some, List, Ordering, Less, Equal, Greater, nat_cmp, codes, refl, sym, ap, ◌∙◌, subst}
use Rattle.std.proofs.lemmas.Map.Text.{is_eq-slice_cmp}
use Rattle.std.proofs.lemmas.Slice.Eq.{bytes_eq-Decides}
use Rattle.std.specs.Cmp.Lexicographic.{slice_cmp}
use Rattle.std.specs.Ordering.{match_ordering}
use Rattle.std.specs.Str.{bytes_eq}
use Rattle.serde_json.specs.Data.{Data, null, boolean, number, string, array, object, Members, no_members, member}
use Rattle.serde_json.specs.Find.{get_member}
use Rattle.tf_config_refusal.proofs.Walks.{Builds-keeps}
use Rattle.tf_config_refusal.specs.Walk.{Builds}
use Rattle.tf_expr_syntax.specs.ExprTree.{Tree}
use Rattle.tf_config_json.specs.Building.{AddsInOutput, AddsOutputProperty, BuildsOutput, BuildsFrom}
use Rattle.tf_config_json.specs.Configuration.{has}
use Rattle.tf_config_json.specs.Words.{output_property_of}
use Rattle.tf_config_json.specs.declared.words.OutputProperty.{OutputProperty}
use Rattle.tf_config_json.specs.declared.words.OutputProperty.TheVariants as in_output

abbrev value_name : List ℕ
value_name = codes "value"

-- ---- which property is the value

same_name : (k : List ℕ) → slice_cmp nat_cmp value_name k ≡ Equal → value_name ≡ k
same_name k h = (bytes_eq-Decides value_name k).0 (sym (is_eq-slice_cmp value_name k) ∙ ap is_eq h)

is_value : (k : List ℕ) → slice_cmp nat_cmp value_name k ≡ Equal → output_property_of k ≡ in_output.Value
is_value k h = subst (λ name. output_property_of name ≡ in_output.Value) (same_name k h) refl

named_value_at : (comment value description : Bool) → cond comment in_output.Comment (cond value in_output.Value (cond description in_output.Description in_output.Other)) ≡ in_output.Value → value ≡ true
named_value_at true value description h = absurd (cc)
named_value_at false true description h = refl
named_value_at false false true h = absurd (cc)
named_value_at false false false h = absurd (cc)

named_value : (k : List ℕ) → output_property_of k ≡ in_output.Value → slice_cmp nat_cmp value_name k ≡ Equal
named_value k h =
    let same = (bytes_eq-Decides k value_name).0 (named_value_at (bytes_eq k (codes "//")) (bytes_eq k value_name) (bytes_eq k (codes "description")) h) in
    subst (λ name. slice_cmp nat_cmp value_name name ≡ Equal) (sym same) refl

-- ---- what each property adds

keeps_at : (p : OutputProperty) (d : Data) (a b : Option Tree) → AddsInOutput p d a b → is_some a ≡ true → is_some b ≡ true
keeps_at in_output.Comment d a b h some = subst (λ o. is_some o ≡ true) h some
keeps_at in_output.Value d a b h some = subst (λ o. is_some o ≡ true) h.2 refl
keeps_at in_output.Description d a b h some = subst (λ o. is_some o ≡ true) h.2 some
keeps_at in_output.Other d a b h some = absurd h

finds_at : (p : OutputProperty) (d : Data) (a b : Option Tree) → AddsInOutput p d a b → p ≡ in_output.Value → is_some b ≡ true
finds_at in_output.Comment d a b h is = absurd (cc)
finds_at in_output.Value d a b h is = subst (λ o. is_some o ≡ true) h.2 refl
finds_at in_output.Description d a b h is = absurd (cc)
finds_at in_output.Other d a b h is = absurd h

-- a property that isn't the value leaves none where there is none
misses_at : (p : OutputProperty) (d : Data) (a b : Option Tree) → AddsInOutput p d a b → (p ≡ in_output.Value → ⊥) → is_some a ≡ false → is_some b ≡ false
misses_at in_output.Comment d a b h other none = subst (λ o. is_some o ≡ false) h none
misses_at in_output.Value d a b h other none = absurd (other refl)
misses_at in_output.Description d a b h other none = subst (λ o. is_some o ≡ false) h.2 none
misses_at in_output.Other d a b h other none = absurd h

-- ---- members

finds_next : (o : Ordering) (k : List ℕ) (d : Data) (ms : Members) (a c b : Option Tree) → slice_cmp nat_cmp value_name k ≡ o → AddsOutputProperty k d a c → Builds AddsOutputProperty ms c b
    → (is_some (get_member value_name ms) ≡ true → is_some b ≡ true) → is_some (match_ordering o (get_member value_name ms) (Some d) (get_member value_name ms)) ≡ true → is_some b ≡ true
finds_next Less k d ms a c b is adds builds later some = later some
finds_next Equal k d ms a c b is adds builds later some =
    Builds-keeps AddsOutputProperty (λ o. is_some o ≡ true) (λ l. keeps_at (output_property_of l)) ms c b builds (finds_at (output_property_of k) d a c adds (is_value k is))
finds_next Greater k d ms a c b is adds builds later some = later some

finds : (ms : Members) (a b : Option Tree) → Builds AddsOutputProperty ms a b → is_some (get_member value_name ms) ≡ true → is_some b ≡ true
finds no_members a b builds some = absurd (cc)
finds (member k d ms) a b builds some =
    finds_next (slice_cmp nat_cmp value_name k) k d ms a builds.0 b refl builds.1 builds.2 (finds ms builds.0 b builds.2) some

has_next : (o : Ordering) (k : List ℕ) (d : Data) (ms : Members) (a c : Option Tree) → slice_cmp nat_cmp value_name k ≡ o → AddsOutputProperty k d a c → is_some a ≡ false
    → (is_some c ≡ false → is_some (get_member value_name ms) ≡ true) → is_some (match_ordering o (get_member value_name ms) (Some d) (get_member value_name ms)) ≡ true
has_next Less k d ms a c is adds none later = later (misses_at (output_property_of k) d a c adds (λ value. let no = sym is ∙ named_value k value in absurd (cc)) none)
has_next Equal k d ms a c is adds none later = refl
has_next Greater k d ms a c is adds none later = later (misses_at (output_property_of k) d a c adds (λ value. let no = sym is ∙ named_value k value in absurd (cc)) none)

has_one : (ms : Members) (a b : Option Tree) → Builds AddsOutputProperty ms a b → is_some a ≡ false → is_some b ≡ true → is_some (get_member value_name ms) ≡ true
has_one no_members a b same none some = absurd (let no : true ≡ false = sym some ∙ ap is_some (sym same) ∙ none in cc)
has_one (member k d ms) a b builds none some =
    has_next (slice_cmp nat_cmp value_name k) k d ms a builds.0 refl builds.1 none (λ still. has_one ms builds.0 b builds.2 still some)

-- ---- bodies

-- a body that says a value has it
pub value_there : (d : Data) (e : Tree) → BuildsOutput d e → has value_name d ≡ true
value_there null e h = absurd h
value_there (boolean x) e h = absurd h
value_there (number x) e h = absurd h
value_there (string x) e h = absurd h
value_there (array x) e h = absurd h
value_there (object ms) e h = has_one ms None (Some e) h refl refl

-- a body that has a value doesn't leave none
pub value_missing : (d : Data) → has value_name d ≡ true → BuildsFrom AddsOutputProperty d None None → ⊥
value_missing null h builds = absurd builds
value_missing (boolean x) h builds = absurd builds
value_missing (number x) h builds = absurd builds
value_missing (string x) h builds = absurd builds
value_missing (array x) h builds = absurd builds
value_missing (object ms) h builds = let no = finds ms None None builds h in absurd (cc)
