-- What the walk over the properties of a body builds is what the body says, property by property.
use Rattle.std.proofs.Common.{◌≡◌, ◌⊎◌, inl, inr, ℕ, true, not, ◌&&◌, is_some, Option, None, Some, List, [], ◌∷◌, codes, refl, sym, ap, ◌∙◌, subst}
use Rattle.std.proofs.lemmas.Cmp.{nat_list_cmp_total}
use Rattle.std.proofs.lemmas.Map.Lookups.{exact_bytes}
use Rattle.std.specs.Option.{MatchOption}
use Rattle.serde_json.specs.Data.{Data, null, boolean, number, string, array, object, Members, no_members, member}
use Rattle.serde_json.specs.Find.{get, get_member}
use Rattle.tf_config_address.specs.ResourceAddr.{ResourceAddrView}
use Rattle.tf_config_data.specs.Config.{single, count, for_each, LifecycleView}
use Rattle.tf_config_refusal.specs.Walk.{Builds}
use Rattle.tf_expr_json.proofs.Faultless.{expr_one}
use Rattle.tf_expr_json.specs.Reading.{IsExpr}
use Rattle.tf_expr_syntax.specs.ExprTree.{Tree, Entries}
use Rattle.tf_value_json.specs.Plain.{IsAny, IsSorted, AreOrderlyMembers}
use Rattle.tf_config_json.proofs.AtPath.{path_first, path_on, one_at}
use Rattle.tf_config_json.proofs.Inside.{IsNamed, named, AreFound, all_found, sorted_at, Takes, takes, collects, reached}
use Rattle.tf_config_json.proofs.KeyedLists as keyed
use Rattle.tf_config_json.proofs.KeyedLists.{Collected, collected_none, collected_as, collected_put}
use Rattle.tf_config_json.proofs.OnlyWords.{only_type, only_default, only_value, only_create_before_destroy, only_prevent_destroy, only_ignore_changes, only_count, only_for_each, only_depends_on, only_lifecycle}
use Rattle.tf_config_json.proofs.Pairs.{Pair, name_of, name_cmp, pairs_of, pairs-put, CollectedEntries, entries_finished, one_pair}
use Rattle.tf_config_json.specs.Building.{AddsInVariable, AddsVariableProperty, BuildsVariable, AddsInOutput, AddsOutputProperty, BuildsOutput, AddsInLifecycle, AddsLifecycleProperty, BuildsLifecycle, AddsInBlock, AddsBlockProperty, BuildsBlock}
use Rattle.tf_config_json.specs.Config.{VariableBody, plain_variable, variable_with, BlockBody, plain_block, plain_lifecycle, block_with}
use Rattle.tf_config_json.specs.Configuration.{HasOr, IsDefault, IsVariable, IsRepetition, IsLifecycle, IsArgument, IsBlock, AreEntriesOf}
use Rattle.tf_config_json.specs.Parts.{NamesType, IsFlag, SaysList, IsNameText, IsAddressText}
use Rattle.tf_config_json.specs.Words.{variable_property_of, output_property_of, lifecycle_property_of, block_property_of}
use Rattle.tf_config_json.specs.declared.words.BlockProperty.{BlockProperty}
use Rattle.tf_config_json.specs.declared.words.BlockProperty.TheVariants as in_block
use Rattle.tf_config_json.specs.declared.words.LifecycleProperty.{LifecycleProperty}
use Rattle.tf_config_json.specs.declared.words.LifecycleProperty.TheVariants as in_lifecycle
use Rattle.tf_config_json.specs.declared.words.OutputProperty.{OutputProperty}
use Rattle.tf_config_json.specs.declared.words.OutputProperty.TheVariants as in_output
use Rattle.tf_config_json.specs.declared.words.VariableProperty.{VariableProperty}
use Rattle.tf_config_json.specs.declared.words.VariableProperty.TheVariants as in_variable

-- ---- variables

type_stays : (p : VariableProperty) (d : Data) (a b : VariableBody) → (p ≡ in_variable.Type → ⊥) → AddsInVariable p d a b → b.value_type ≡ a.value_type
type_stays in_variable.Comment d a b apart h = ap (λ (x : VariableBody). x.value_type) (sym h)
type_stays in_variable.Type d a b apart h = absurd (apart refl)
type_stays in_variable.Default d a b apart h = ap (λ (x : VariableBody). x.value_type) (sym h.2)
type_stays in_variable.Description d a b apart h = ap (λ (x : VariableBody). x.value_type) (sym h.2)
type_stays in_variable.Other d a b apart h = absurd h

default_stays : (p : VariableProperty) (d : Data) (a b : VariableBody) → (p ≡ in_variable.Default → ⊥) → AddsInVariable p d a b → b.default ≡ a.default
default_stays in_variable.Comment d a b apart h = ap (λ (x : VariableBody). x.default) (sym h)
default_stays in_variable.Type d a b apart h = ap (λ (x : VariableBody). x.default) (sym h.2)
default_stays in_variable.Default d a b apart h = absurd (apart refl)
default_stays in_variable.Description d a b apart h = ap (λ (x : VariableBody). x.default) (sym h.2)
default_stays in_variable.Other d a b apart h = absurd h

takes_type : (ms : Members) (body : VariableBody) → AreOrderlyMembers IsAny ms → Builds AddsVariableProperty ms plain_variable body → HasOr NamesType plain_variable.value_type (codes "type") (object ms) body.value_type
takes_type ms body sorted builds =
    takes AddsVariableProperty (λ (x : VariableBody). x.value_type) (codes "type") (λ d x y. NamesType d y)
    (λ d a b h. subst (λ (x : VariableBody). NamesType d x.value_type) h.2 h.1)
    (λ k d a b apart h. type_stays (variable_property_of k) d a b (λ is. apart (only_type k is)) h) ms plain_variable body sorted builds

takes_default : (ms : Members) (body : VariableBody) → AreOrderlyMembers IsAny ms → Builds AddsVariableProperty ms plain_variable body → HasOr IsDefault plain_variable.default (codes "default") (object ms) body.default
takes_default ms body sorted builds =
    takes AddsVariableProperty (λ (x : VariableBody). x.default) (codes "default") (λ d x y. IsDefault d y)
    (λ d a b h. (h.0, h.1, ap (λ (x : VariableBody). x.default) (sym h.2)))
    (λ k d a b apart h. default_stays (variable_property_of k) d a b (λ is. apart (only_default k is)) h) ms plain_variable body sorted builds

pub variable_built : (d : Data) (name : List ℕ) (body : VariableBody) → IsSorted d → BuildsVariable d body → IsVariable d (variable_with name body)
variable_built null name body sorted builds = absurd builds
variable_built (boolean x) name body sorted builds = absurd builds
variable_built (number x) name body sorted builds = absurd builds
variable_built (string x) name body sorted builds = absurd builds
variable_built (array x) name body sorted builds = absurd builds
variable_built (object ms) name body sorted builds = record { value_type = takes_type ms body sorted builds; default = takes_default ms body sorted builds }

-- ---- outputs

value_stays : (p : OutputProperty) (d : Data) (a b : Option Tree) → (p ≡ in_output.Value → ⊥) → AddsInOutput p d a b → b ≡ a
value_stays in_output.Comment d a b apart h = sym h
value_stays in_output.Value d a b apart h = absurd (apart refl)
value_stays in_output.Description d a b apart h = sym h.2
value_stays in_output.Other d a b apart h = absurd h

value_at : (o : Option Data) (e : Tree) → MatchOption o (Some e ≡ None) (λ d. (f : Tree) × IsExpr d f × (Some f ≡ Some e)) → (d : Data) × (o ≡ Some d) × IsExpr d e
value_at None e h = absurd (cc)
value_at (Some d) e h = let same : h.0 ≡ e = (let is : ◌≡◌ {A = Option Tree} (Some h.0) (Some e) = h.2 in cc) in (d, refl, subst (λ f. IsExpr d f) same h.1)

pub output_built : (d : Data) (e : Tree) → IsSorted d → BuildsOutput d e → (value : Data) × (get (codes "value") d ≡ Some value) × IsExpr value e
output_built null e sorted builds = absurd builds
output_built (boolean x) e sorted builds = absurd builds
output_built (number x) e sorted builds = absurd builds
output_built (string x) e sorted builds = absurd builds
output_built (array x) e sorted builds = absurd builds
output_built (object ms) e sorted builds =
    value_at (get_member (codes "value") ms) e
    (takes AddsOutputProperty (λ (x : Option Tree). x) (codes "value") (λ d x y. (f : Tree) × IsExpr d f × (Some f ≡ y)) (λ d a b h. h)
    (λ k d a b apart h. value_stays (output_property_of k) d a b (λ is. apart (only_value k is)) h) ms None (Some e) sorted builds)

-- ---- lifecycles

create_stays : (p : LifecycleProperty) (d : Data) (a b : LifecycleView) → (p ≡ in_lifecycle.CreateBeforeDestroy → ⊥) → AddsInLifecycle p d a b → b.create_before_destroy ≡ a.create_before_destroy
create_stays in_lifecycle.Comment d a b apart h = ap (λ (x : LifecycleView). x.create_before_destroy) (sym h)
create_stays in_lifecycle.CreateBeforeDestroy d a b apart h = absurd (apart refl)
create_stays in_lifecycle.PreventDestroy d a b apart h = ap (λ (x : LifecycleView). x.create_before_destroy) (sym h.2)
create_stays in_lifecycle.IgnoreChanges d a b apart h = ap (λ (x : LifecycleView). x.create_before_destroy) (sym h.2)
create_stays in_lifecycle.Other d a b apart h = absurd h

prevent_stays : (p : LifecycleProperty) (d : Data) (a b : LifecycleView) → (p ≡ in_lifecycle.PreventDestroy → ⊥) → AddsInLifecycle p d a b → b.prevent_destroy ≡ a.prevent_destroy
prevent_stays in_lifecycle.Comment d a b apart h = ap (λ (x : LifecycleView). x.prevent_destroy) (sym h)
prevent_stays in_lifecycle.CreateBeforeDestroy d a b apart h = ap (λ (x : LifecycleView). x.prevent_destroy) (sym h.2)
prevent_stays in_lifecycle.PreventDestroy d a b apart h = absurd (apart refl)
prevent_stays in_lifecycle.IgnoreChanges d a b apart h = ap (λ (x : LifecycleView). x.prevent_destroy) (sym h.2)
prevent_stays in_lifecycle.Other d a b apart h = absurd h

ignore_stays : (p : LifecycleProperty) (d : Data) (a b : LifecycleView) → (p ≡ in_lifecycle.IgnoreChanges → ⊥) → AddsInLifecycle p d a b → b.ignore_changes ≡ a.ignore_changes
ignore_stays in_lifecycle.Comment d a b apart h = ap (λ (x : LifecycleView). x.ignore_changes) (sym h)
ignore_stays in_lifecycle.CreateBeforeDestroy d a b apart h = ap (λ (x : LifecycleView). x.ignore_changes) (sym h.2)
ignore_stays in_lifecycle.PreventDestroy d a b apart h = ap (λ (x : LifecycleView). x.ignore_changes) (sym h.2)
ignore_stays in_lifecycle.IgnoreChanges d a b apart h = absurd (apart refl)
ignore_stays in_lifecycle.Other d a b apart h = absurd h

lifecycle_object : (ms : Members) (l : LifecycleView) → AreOrderlyMembers IsAny ms → Builds AddsLifecycleProperty ms plain_lifecycle l → IsLifecycle (object ms) l
lifecycle_object ms l sorted builds =
    record {
      create_before_destroy = takes AddsLifecycleProperty (λ (x : LifecycleView). x.create_before_destroy) (codes "create_before_destroy") (λ d x y. IsFlag d y)
          (λ d a b h. subst (λ (x : LifecycleView). IsFlag d x.create_before_destroy) h.2 h.1)
          (λ k d a b apart h. create_stays (lifecycle_property_of k) d a b (λ is. apart (only_create_before_destroy k is)) h) ms plain_lifecycle l sorted builds;
      prevent_destroy = takes AddsLifecycleProperty (λ (x : LifecycleView). x.prevent_destroy) (codes "prevent_destroy") (λ d x y. IsFlag d y)
          (λ d a b h. subst (λ (x : LifecycleView). IsFlag d x.prevent_destroy) h.2 h.1)
          (λ k d a b apart h. prevent_stays (lifecycle_property_of k) d a b (λ is. apart (only_prevent_destroy k is)) h) ms plain_lifecycle l sorted builds;
      ignore_changes = takes AddsLifecycleProperty (λ (x : LifecycleView). x.ignore_changes) (codes "ignore_changes") (λ d x y. SaysList IsNameText d y)
          (λ d a b h. subst (λ (x : LifecycleView). SaysList IsNameText d x.ignore_changes) h.2 h.1)
          (λ k d a b apart h. ignore_stays (lifecycle_property_of k) d a b (λ is. apart (only_ignore_changes k is)) h) ms plain_lifecycle l sorted builds;
    }

pub lifecycle_built : (d : Data) (l : LifecycleView) → IsSorted d → BuildsLifecycle d l → IsLifecycle d l
lifecycle_built null l sorted builds = absurd builds
lifecycle_built (boolean x) l sorted builds = absurd builds
lifecycle_built (number x) l sorted builds = absurd builds
lifecycle_built (string x) l sorted builds = absurd builds
lifecycle_built (array x) l sorted builds = absurd builds
lifecycle_built (object ms) l sorted builds = lifecycle_object ms l sorted builds

-- ---- blocks

depends_stays : (p : BlockProperty) (k : List ℕ) (d : Data) (a b : BlockBody) → (p ≡ in_block.DependsOn → ⊥) → AddsInBlock p k d a b → b.depends_on ≡ a.depends_on
depends_stays in_block.Comment k d a b apart h = ap (λ (x : BlockBody). x.depends_on) (sym h)
depends_stays in_block.Count k d a b apart h = ap (λ (x : BlockBody). x.depends_on) (sym h.2)
depends_stays in_block.ForEach k d a b apart h = ap (λ (x : BlockBody). x.depends_on) (sym h.2)
depends_stays in_block.DependsOn k d a b apart h = absurd (apart refl)
depends_stays in_block.Lifecycle k d a b apart h = ap (λ (x : BlockBody). x.depends_on) (sym h.2)
depends_stays in_block.Refused k d a b apart h = absurd h
depends_stays in_block.Argument k d a b apart h = ap (λ (x : BlockBody). x.depends_on) (sym h.1.2)

lifecycle_stays : (p : BlockProperty) (k : List ℕ) (d : Data) (a b : BlockBody) → (p ≡ in_block.Lifecycle → ⊥) → AddsInBlock p k d a b → b.lifecycle ≡ a.lifecycle
lifecycle_stays in_block.Comment k d a b apart h = ap (λ (x : BlockBody). x.lifecycle) (sym h)
lifecycle_stays in_block.Count k d a b apart h = ap (λ (x : BlockBody). x.lifecycle) (sym h.2)
lifecycle_stays in_block.ForEach k d a b apart h = ap (λ (x : BlockBody). x.lifecycle) (sym h.2)
lifecycle_stays in_block.DependsOn k d a b apart h = ap (λ (x : BlockBody). x.lifecycle) (sym h.2)
lifecycle_stays in_block.Lifecycle k d a b apart h = absurd (apart refl)
lifecycle_stays in_block.Refused k d a b apart h = absurd h
lifecycle_stays in_block.Argument k d a b apart h = ap (λ (x : BlockBody). x.lifecycle) (sym h.1.2)

arguments_stay : (p : BlockProperty) (k : List ℕ) (d : Data) (a b : BlockBody) → (p ≡ in_block.Argument → ⊥) → AddsInBlock p k d a b → b.arguments ≡ a.arguments
arguments_stay in_block.Comment k d a b apart h = ap (λ (x : BlockBody). x.arguments) (sym h)
arguments_stay in_block.Count k d a b apart h = ap (λ (x : BlockBody). x.arguments) (sym h.2)
arguments_stay in_block.ForEach k d a b apart h = ap (λ (x : BlockBody). x.arguments) (sym h.2)
arguments_stay in_block.DependsOn k d a b apart h = ap (λ (x : BlockBody). x.arguments) (sym h.2)
arguments_stay in_block.Lifecycle k d a b apart h = ap (λ (x : BlockBody). x.arguments) (sym h.2)
arguments_stay in_block.Refused k d a b apart h = absurd h
arguments_stay in_block.Argument k d a b apart h = absurd (apart refl)

repetition_stays : (p : BlockProperty) (k : List ℕ) (d : Data) (a b : BlockBody) → (p ≡ in_block.Count → ⊥) → (p ≡ in_block.ForEach → ⊥) → AddsInBlock p k d a b → b.repetition ≡ a.repetition
repetition_stays in_block.Comment k d a b apart other h = ap (λ (x : BlockBody). x.repetition) (sym h)
repetition_stays in_block.Count k d a b apart other h = absurd (apart refl)
repetition_stays in_block.ForEach k d a b apart other h = absurd (other refl)
repetition_stays in_block.DependsOn k d a b apart other h = ap (λ (x : BlockBody). x.repetition) (sym h.2)
repetition_stays in_block.Lifecycle k d a b apart other h = ap (λ (x : BlockBody). x.repetition) (sym h.2)
repetition_stays in_block.Refused k d a b apart other h = absurd h
repetition_stays in_block.Argument k d a b apart other h = ap (λ (x : BlockBody). x.repetition) (sym h.1.2)

takes_depends_on : (ms : Members) (body : BlockBody) → AreOrderlyMembers IsAny ms → Builds AddsBlockProperty ms plain_block body → HasOr (SaysList IsAddressText) [] (codes "depends_on") (object ms) body.depends_on
takes_depends_on ms body sorted builds =
    takes AddsBlockProperty (λ (x : BlockBody). x.depends_on) (codes "depends_on") (λ d x y. SaysList IsAddressText d y)
    (λ d a b h. subst (λ (x : BlockBody). SaysList IsAddressText d x.depends_on) h.2 h.1)
    (λ k d a b apart h. depends_stays (block_property_of k) k d a b (λ is. apart (only_depends_on k is)) h) ms plain_block body sorted builds

lifecycle_at : (o : Option Data) (l : LifecycleView) → ((d : Data) → o ≡ Some d → IsSorted d) → MatchOption o (l ≡ plain_lifecycle) (λ d. BuildsLifecycle d l) → MatchOption o (l ≡ plain_lifecycle) (λ d. IsLifecycle d l)
lifecycle_at None l sorted h = h
lifecycle_at (Some d) l sorted h = lifecycle_built d l (sorted d refl) h

takes_lifecycle : (ms : Members) (body : BlockBody) → AreOrderlyMembers IsAny ms → Builds AddsBlockProperty ms plain_block body → HasOr IsLifecycle plain_lifecycle (codes "lifecycle") (object ms) body.lifecycle
takes_lifecycle ms body sorted builds =
    lifecycle_at (get_member (codes "lifecycle") ms) body.lifecycle (λ d is. sorted_at (codes "lifecycle") ms d sorted is)
    (takes AddsBlockProperty (λ (x : BlockBody). x.lifecycle) (codes "lifecycle") (λ d x y. BuildsLifecycle d y)
    (λ d a b h. subst (λ (x : BlockBody). BuildsLifecycle d x.lifecycle) h.2 h.1)
    (λ k d a b apart h. lifecycle_stays (block_property_of k) k d a b (λ is. apart (only_lifecycle k is)) h) ms plain_block body sorted builds)

-- ---- the instances of a block

-- a step of a member that hasn't this name
abbrev Without : {B : Type 0} → List ℕ → (List ℕ → Data → B → B → Type 0) → List ℕ → Data → B → B → Type 0
Without v Adds k d a b = Adds k d a b × (k ≡ v → ⊥)

not_named : (v : List ℕ) (ms : Members) → get_member v ms ≡ None → (k : List ℕ) (d : Data) → get_member k ms ≡ Some d → k ≡ v → ⊥
not_named v ms none k d there same = let no : ◌≡◌ {A = Option Data} (Some d) None = sym there ∙ (ap (λ n. get_member n ms) same ∙ none) in absurd (cc)

builds_without : {B : Type 0} (v : List ℕ) (Adds : List ℕ → Data → B → B → Type 0) (at : List ℕ → Option Data) → ((k : List ℕ) (d : Data) → at k ≡ Some d → k ≡ v → ⊥)
    → (ms : Members) (a b : B) → AreFound at ms → Builds Adds ms a b → Builds (Without v Adds) ms a b
builds_without v Adds at apart no_members a b found builds = builds
builds_without v Adds at apart (member k d ms) a b found (m, adds, builds) = (m, (adds, apart k d found.0), builds_without v Adds at apart ms m b found.1 builds)

counts : (ms : Members) (body : BlockBody) → AreOrderlyMembers IsAny ms → get_member (codes "for_each") ms ≡ None → Builds AddsBlockProperty ms plain_block body
    → Takes (λ d x y. (e : Tree) × IsExpr d e × (y ≡ count e)) (get_member (codes "count") ms) single body.repetition
counts ms body sorted none builds =
    takes (Without (codes "for_each") AddsBlockProperty) (λ (x : BlockBody). x.repetition) (codes "count") (λ d x y. (e : Tree) × IsExpr d e × (y ≡ count e))
    (λ d a b h. (h.0.0, h.0.1, ap (λ (x : BlockBody). x.repetition) (sym h.0.2)))
    (λ k d a b apart h. repetition_stays (block_property_of k) k d a b (λ is. apart (only_count k is)) (λ is. h.1 (only_for_each k is)) h.0)
    ms plain_block body sorted
    (builds_without (codes "for_each") AddsBlockProperty (λ k. get_member k ms) (not_named (codes "for_each") ms none) ms plain_block body (all_found ms sorted) builds)

for_eaches : (ms : Members) (body : BlockBody) → AreOrderlyMembers IsAny ms → get_member (codes "count") ms ≡ None → Builds AddsBlockProperty ms plain_block body
    → Takes (λ d x y. (e : Tree) × IsExpr d e × (y ≡ for_each e)) (get_member (codes "for_each") ms) single body.repetition
for_eaches ms body sorted none builds =
    takes (Without (codes "count") AddsBlockProperty) (λ (x : BlockBody). x.repetition) (codes "for_each") (λ d x y. (e : Tree) × IsExpr d e × (y ≡ for_each e))
    (λ d a b h. (h.0.0, h.0.1, ap (λ (x : BlockBody). x.repetition) (sym h.0.2)))
    (λ k d a b apart h. repetition_stays (block_property_of k) k d a b (λ is. h.1 (only_count k is)) (λ is. apart (only_for_each k is)) h.0)
    ms plain_block body sorted
    (builds_without (codes "count") AddsBlockProperty (λ k. get_member k ms) (not_named (codes "count") ms none) ms plain_block body (all_found ms sorted) builds)

repetition_at : (o p : Option Data) (ms : Members) (body : BlockBody) → get_member (codes "count") ms ≡ o → get_member (codes "for_each") ms ≡ p → not (is_some o && is_some p) ≡ true
    → AreOrderlyMembers IsAny ms → Builds AddsBlockProperty ms plain_block body → IsRepetition (object ms) body.repetition
repetition_at None None ms body is js once sorted builds =
    let plain : body.repetition ≡ single = subst (λ o. Takes (λ d x y. (e : Tree) × IsExpr d e × (y ≡ count e)) o single body.repetition) is (counts ms body sorted js builds) in
    subst (IsRepetition (object ms)) (sym plain) (is, js)
repetition_at (Some d) None ms body is js once sorted builds =
    let counted = subst (λ o. Takes (λ d x y. (e : Tree) × IsExpr d e × (y ≡ count e)) o single body.repetition) is (counts ms body sorted js builds) in
    subst (IsRepetition (object ms)) (sym counted.2) (d, path_on (codes "count") [] (object ms) d d is refl, counted.1)
repetition_at None (Some d) ms body is js once sorted builds =
    let keyed = subst (λ o. Takes (λ d x y. (e : Tree) × IsExpr d e × (y ≡ for_each e)) o single body.repetition) js (for_eaches ms body sorted is builds) in
    subst (IsRepetition (object ms)) (sym keyed.2) (d, path_on (codes "for_each") [] (object ms) d d js refl, keyed.1)
repetition_at (Some d) (Some e) ms body is js once sorted builds = absurd (cc)

-- ---- the arguments of a block

module _ (ms : Members) (sorted : AreOrderlyMembers IsAny ms) where
  abbrev ArgumentsSoFar : (List ℕ → Type 0) → BlockBody → Type 0
  ArgumentsSoFar Met body = CollectedEntries (IsArgument (object ms)) Met (pairs_of body.arguments)

  no_argument : (p : BlockProperty) (k : List ℕ) (d : Data) (a b : BlockBody) (Met : List ℕ → Type 0) → (p ≡ in_block.Argument → ⊥) → block_property_of k ≡ p → AddsInBlock p k d a b → ArgumentsSoFar Met a
      → ArgumentsSoFar (λ x. (x ≡ k) ⊎ Met x) b
  no_argument p k d a b Met apart is h c =
      let other = collected_as name_of name_cmp nat_list_cmp_total exact_bytes (λ (x : Pair). IsArgument (object ms) x.0 x.1) Met (λ x. (x ≡ k) ⊎ Met x) (pairs_of a.arguments)
      (λ x argument met. elim met [ inl here ↦ absurd (apart (sym is ∙ (ap block_property_of (sym here) ∙ argument.0))) | inr met ↦ met ]) c in
      subst (λ (es : Entries). CollectedEntries (IsArgument (object ms)) (λ x. (x ≡ k) ⊎ Met x) (pairs_of es)) (sym (arguments_stay p k d a b apart h)) other

  one : (n : List ℕ) (e f : Tree) → IsArgument (object ms) n e → IsArgument (object ms) n f → e ≡ f
  one n e f h j = one_at IsExpr expr_one (n ∷ []) (object ms) e f h.1 j.1

  argument_step : (p : BlockProperty) (k : List ℕ) (d : Data) (a b : BlockBody) (Met : List ℕ → Type 0) → block_property_of k ≡ p → get_member k ms ≡ Some d → AddsInBlock p k d a b → ArgumentsSoFar Met a
      → ArgumentsSoFar (λ x. (x ≡ k) ⊎ Met x) b
  argument_step in_block.Argument k d a b Met is there h c =
      let put_in : pairs_of b.arguments ≡ keyed.put name_of name_cmp nat_list_cmp_total exact_bytes (k, h.1.0) (pairs_of a.arguments) =
      ap (λ (x : BlockBody). pairs_of x.arguments) (sym h.1.2) ∙ pairs-put k h.1.0 a.arguments in
      subst (λ (ps : List Pair). CollectedEntries (IsArgument (object ms)) (λ x. (x ≡ k) ⊎ Met x) ps) (sym put_in)
      (collected_put name_of name_cmp nat_list_cmp_total exact_bytes (λ (x : Pair). IsArgument (object ms) x.0 x.1) (one_pair (IsArgument (object ms)) one) Met (pairs_of a.arguments) (k, h.1.0) (is, (d, path_on k [] (object ms) d d there refl, h.1.1)) c)
  argument_step in_block.Comment k d a b Met is there h c = no_argument in_block.Comment k d a b Met (λ e. absurd (cc)) is h c
  argument_step in_block.Count k d a b Met is there h c = no_argument in_block.Count k d a b Met (λ e. absurd (cc)) is h c
  argument_step in_block.ForEach k d a b Met is there h c = no_argument in_block.ForEach k d a b Met (λ e. absurd (cc)) is h c
  argument_step in_block.DependsOn k d a b Met is there h c = no_argument in_block.DependsOn k d a b Met (λ e. absurd (cc)) is h c
  argument_step in_block.Lifecycle k d a b Met is there h c = no_argument in_block.Lifecycle k d a b Met (λ e. absurd (cc)) is h c
  argument_step in_block.Refused k d a b Met is there h c = absurd h

  there_named : (n : List ℕ) (e : Tree) → IsArgument (object ms) n e → IsNamed n ms
  there_named n e h = let found = path_first n [] (object ms) h.1.0 h.1.1 in named n ms found.0 found.1

  arguments_built : (body : BlockBody) → Builds AddsBlockProperty ms plain_block body → AreEntriesOf (IsArgument (object ms)) body.arguments
  arguments_built body builds =
      let start : ArgumentsSoFar (λ x. ⊥) plain_block = collected_none name_of name_cmp nat_list_cmp_total exact_bytes (λ (x : Pair). IsArgument (object ms) x.0 x.1) (λ x. ⊥) (λ x is met. met) in
      let step = λ (k : List ℕ) (d : Data) (a b : BlockBody) (Met : List ℕ → Type 0) (there : get_member k ms ≡ Some d) (adds : AddsBlockProperty k d a b) (c : ArgumentsSoFar Met a).
      argument_step (block_property_of k) k d a b Met refl there adds c in
      entries_finished (IsArgument (object ms)) _ body.arguments
      (λ n e is. inl (reached name_of name_cmp (λ (x : Pair). IsArgument (object ms) x.0 x.1) AddsBlockProperty (λ (x : BlockBody). pairs_of x.arguments) (λ k x. x ≡ k) (λ k. get_member k ms) step n n ms refl (there_named n e is)))
      (collects name_of name_cmp (λ (x : Pair). IsArgument (object ms) x.0 x.1) AddsBlockProperty (λ (x : BlockBody). pairs_of x.arguments) (λ k x. x ≡ k) (λ k. get_member k ms) step ms plain_block body (λ x. ⊥) (all_found ms sorted) builds start)

pub block_built : (d : Data) (addr : ResourceAddrView) (body : BlockBody) → IsSorted d → BuildsBlock d body → IsBlock d (block_with addr body)
block_built null addr body sorted builds = absurd builds.1
block_built (boolean x) addr body sorted builds = absurd builds.1
block_built (number x) addr body sorted builds = absurd builds.1
block_built (string x) addr body sorted builds = absurd builds.1
block_built (array x) addr body sorted builds = absurd builds.1
block_built (object ms) addr body sorted builds =
    record {
      repetition = repetition_at (get_member (codes "count") ms) (get_member (codes "for_each") ms) ms body refl refl builds.0 sorted builds.1;
      depends_on = takes_depends_on ms body sorted builds.1;
      lifecycle = takes_lifecycle ms body sorted builds.1;
      arguments = arguments_built ms sorted body builds.1;
    }
