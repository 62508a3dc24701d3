-- Each word of the format is the only name that has its meaning.
use Rattle.std.proofs.Common.{◌≡◌, ℕ, Bool, true, false, cond, bytes_eq, List, [], ◌∷◌, codes, refl, ◌∙◌, ap}
use Rattle.std.proofs.lemmas.Slice.Eq.{bytes_eq-Decides}
use Rattle.std.specs.List.{list_any}
use Rattle.std.specs.Prelude.{⊤}
use Rattle.tf_config_address.specs.Name.{is_name}
use Rattle.tf_config_json.specs.Words.{is_comment, among, section_of, variable_property_of, locals_property_of, output_property_of, block_property_of, refused_properties, lifecycle_property_of}
use Rattle.tf_config_json.specs.declared.words.BlockProperty.{BlockProperty}
use Rattle.tf_config_json.specs.declared.words.BlockProperty.TheVariants as in_block
use Rattle.tf_config_json.specs.declared.words.LifecycleProperty.{LifecycleProperty}
use Rattle.tf_config_json.specs.declared.words.LifecycleProperty.TheVariants as in_lifecycle
use Rattle.tf_config_json.specs.declared.words.LocalsProperty.TheVariants as in_locals
use Rattle.tf_config_json.specs.declared.words.OutputProperty.{OutputProperty}
use Rattle.tf_config_json.specs.declared.words.OutputProperty.TheVariants as in_output
use Rattle.tf_config_json.specs.declared.words.Section.{Section}
use Rattle.tf_config_json.specs.declared.words.Section.TheVariants as sections
use Rattle.tf_config_json.specs.declared.words.VariableProperty.{VariableProperty}
use Rattle.tf_config_json.specs.declared.words.VariableProperty.TheVariants as in_variable

-- of some words, only this one has this meaning
abbrev IsOnly : {P : Type 0} → P → List ℕ → List (List ℕ × P) → Type 0
IsOnly p w [] = ⊤
IsOnly p w (word ∷ words) = (word.1 ≡ p → word.0 ≡ w) × IsOnly p w words

among_at : {P : Type 0} (b : Bool) (p : P) (w k word : List ℕ) (q rest : P) → bytes_eq k word ≡ b → (q ≡ p → word ≡ w) → (rest ≡ p → k ≡ w) → cond b q rest ≡ p → k ≡ w
among_at true p w k word q rest is own later h = (bytes_eq-Decides k word).0 is ∙ own h
among_at false p w k word q rest is own later h = later h

among_only : {P : Type 0} (p : P) (w : List ℕ) (words : List (List ℕ × P)) (other : P) (k : List ℕ) → IsOnly p w words → (other ≡ p → ⊥) → among words other k ≡ p → k ≡ w
among_only p w [] other k only never h = absurd (never h)
among_only p w (word ∷ words) other k only never h = among_at (bytes_eq k word.0) p w k word.0 word.1 (among words other k) refl only.0 (among_only p w words other k only.1 never) h

no_comment : {P : Type 0} (b : Bool) (p comment rest : P) (w k : List ℕ) → (comment ≡ p → ⊥) → (rest ≡ p → k ≡ w) → cond b comment rest ≡ p → k ≡ w
no_comment true p comment rest w k never only h = absurd (never h)
no_comment false p comment rest w k never only h = only h

-- ---- variables

abbrev variable_words : List (List ℕ × VariableProperty)
variable_words = (codes "type", in_variable.Type) ∷ (codes "default", in_variable.Default) ∷ (codes "description", in_variable.Description) ∷ []

in_variable_only : (p : VariableProperty) (w k : List ℕ) → IsOnly p w variable_words → (in_variable.Comment ≡ p → ⊥) → (in_variable.Other ≡ p → ⊥) → variable_property_of k ≡ p → k ≡ w
in_variable_only p w k only comment other h =
    no_comment (is_comment k) p in_variable.Comment (among variable_words in_variable.Other k) w k comment (among_only p w variable_words in_variable.Other k only other) h

pub only_type : (k : List ℕ) → variable_property_of k ≡ in_variable.Type → k ≡ codes "type"
only_type k h = in_variable_only in_variable.Type (codes "type") k ((λ e. refl), ((λ e. absurd (cc)), ((λ e. absurd (cc)), tt))) (λ e. absurd (cc)) (λ e. absurd (cc)) h

pub only_default : (k : List ℕ) → variable_property_of k ≡ in_variable.Default → k ≡ codes "default"
only_default k h = in_variable_only in_variable.Default (codes "default") k ((λ e. absurd (cc)), ((λ e. refl), ((λ e. absurd (cc)), tt))) (λ e. absurd (cc)) (λ e. absurd (cc)) h

-- ---- outputs

abbrev output_words : List (List ℕ × OutputProperty)
output_words = (codes "value", in_output.Value) ∷ (codes "description", in_output.Description) ∷ []

pub only_value : (k : List ℕ) → output_property_of k ≡ in_output.Value → k ≡ codes "value"
only_value k h =
    no_comment (is_comment k) in_output.Value in_output.Comment (among output_words in_output.Other k) (codes "value") k (λ e. absurd (cc))
    (among_only in_output.Value (codes "value") output_words in_output.Other k ((λ e. refl), ((λ e. absurd (cc)), tt)) (λ e. absurd (cc))) h

-- ---- lifecycles

abbrev lifecycle_words : List (List ℕ × LifecycleProperty)
lifecycle_words =
    (codes "create_before_destroy", in_lifecycle.CreateBeforeDestroy) ∷ (codes "prevent_destroy", in_lifecycle.PreventDestroy) ∷ (codes "ignore_changes", in_lifecycle.IgnoreChanges) ∷ []

in_lifecycle_only : (p : LifecycleProperty) (w k : List ℕ) → IsOnly p w lifecycle_words → (in_lifecycle.Comment ≡ p → ⊥) → (in_lifecycle.Other ≡ p → ⊥) → lifecycle_property_of k ≡ p → k ≡ w
in_lifecycle_only p w k only comment other h =
    no_comment (is_comment k) p in_lifecycle.Comment (among lifecycle_words in_lifecycle.Other k) w k comment (among_only p w lifecycle_words in_lifecycle.Other k only other) h

pub only_create_before_destroy : (k : List ℕ) → lifecycle_property_of k ≡ in_lifecycle.CreateBeforeDestroy → k ≡ codes "create_before_destroy"
only_create_before_destroy k h =
    in_lifecycle_only in_lifecycle.CreateBeforeDestroy (codes "create_before_destroy") k ((λ e. refl), ((λ e. absurd (cc)), ((λ e. absurd (cc)), tt))) (λ e. absurd (cc)) (λ e. absurd (cc)) h

pub only_prevent_destroy : (k : List ℕ) → lifecycle_property_of k ≡ in_lifecycle.PreventDestroy → k ≡ codes "prevent_destroy"
only_prevent_destroy k h =
    in_lifecycle_only in_lifecycle.PreventDestroy (codes "prevent_destroy") k ((λ e. absurd (cc)), ((λ e. refl), ((λ e. absurd (cc)), tt))) (λ e. absurd (cc)) (λ e. absurd (cc)) h

pub only_ignore_changes : (k : List ℕ) → lifecycle_property_of k ≡ in_lifecycle.IgnoreChanges → k ≡ codes "ignore_changes"
only_ignore_changes k h =
    in_lifecycle_only in_lifecycle.IgnoreChanges (codes "ignore_changes") k ((λ e. absurd (cc)), ((λ e. absurd (cc)), ((λ e. refl), tt))) (λ e. absurd (cc)) (λ e. absurd (cc)) h

-- ---- blocks

abbrev block_words : List (List ℕ × BlockProperty)
block_words =
    (codes "count", in_block.Count) ∷ (codes "for_each", in_block.ForEach) ∷ (codes "depends_on", in_block.DependsOn) ∷ (codes "lifecycle", in_block.Lifecycle) ∷ []

refused_or_argument : (b : Bool) (p : BlockProperty) → (in_block.Refused ≡ p → ⊥) → (in_block.Argument ≡ p → ⊥) → cond b in_block.Refused in_block.Argument ≡ p → ⊥
refused_or_argument true p refused argument h = refused h
refused_or_argument false p refused argument h = argument h

in_block_only : (p : BlockProperty) (w k : List ℕ) → IsOnly p w block_words → (in_block.Comment ≡ p → ⊥) → (in_block.Refused ≡ p → ⊥) → (in_block.Argument ≡ p → ⊥) → block_property_of k ≡ p → k ≡ w
in_block_only p w k only comment refused argument h =
    let other = cond (list_any (bytes_eq k) refused_properties) in_block.Refused in_block.Argument in
    no_comment (is_comment k) p in_block.Comment (among block_words other k) w k comment
    (among_only p w block_words other k only (refused_or_argument (list_any (bytes_eq k) refused_properties) p refused argument)) h

pub only_count : (k : List ℕ) → block_property_of k ≡ in_block.Count → k ≡ codes "count"
only_count k h =
    in_block_only in_block.Count (codes "count") k ((λ e. refl), ((λ e. absurd (cc)), ((λ e. absurd (cc)), ((λ e. absurd (cc)), tt)))) (λ e. absurd (cc)) (λ e. absurd (cc)) (λ e. absurd (cc)) h

pub only_for_each : (k : List ℕ) → block_property_of k ≡ in_block.ForEach → k ≡ codes "for_each"
only_for_each k h =
    in_block_only in_block.ForEach (codes "for_each") k ((λ e. absurd (cc)), ((λ e. refl), ((λ e. absurd (cc)), ((λ e. absurd (cc)), tt)))) (λ e. absurd (cc)) (λ e. absurd (cc)) (λ e. absurd (cc)) h

pub only_depends_on : (k : List ℕ) → block_property_of k ≡ in_block.DependsOn → k ≡ codes "depends_on"
only_depends_on k h =
    in_block_only in_block.DependsOn (codes "depends_on") k ((λ e. absurd (cc)), ((λ e. absurd (cc)), ((λ e. refl), ((λ e. absurd (cc)), tt)))) (λ e. absurd (cc)) (λ e. absurd (cc)) (λ e. absurd (cc)) h

pub only_lifecycle : (k : List ℕ) → block_property_of k ≡ in_block.Lifecycle → k ≡ codes "lifecycle"
only_lifecycle k h =
    in_block_only in_block.Lifecycle (codes "lifecycle") k ((λ e. absurd (cc)), ((λ e. absurd (cc)), ((λ e. absurd (cc)), ((λ e. refl), tt)))) (λ e. absurd (cc)) (λ e. absurd (cc)) (λ e. absurd (cc)) h

-- ---- sections

abbrev section_words : List (List ℕ × Section)
section_words = (codes "variable", sections.Variables) ∷ (codes "locals", sections.Locals) ∷ (codes "output", sections.Outputs) ∷ (codes "resource", sections.Resources) ∷ []

section_only : (p : Section) (w k : List ℕ) → IsOnly p w section_words → (sections.Comment ≡ p → ⊥) → (sections.Other ≡ p → ⊥) → section_of k ≡ p → k ≡ w
section_only p w k only comment other h =
    no_comment (is_comment k) p sections.Comment (among section_words sections.Other k) w k comment (among_only p w section_words sections.Other k only other) h

pub only_variable : (k : List ℕ) → section_of k ≡ sections.Variables → k ≡ codes "variable"
only_variable k h = section_only sections.Variables (codes "variable") k ((λ e. refl), ((λ e. absurd (cc)), ((λ e. absurd (cc)), ((λ e. absurd (cc)), tt)))) (λ e. absurd (cc)) (λ e. absurd (cc)) h

pub only_locals : (k : List ℕ) → section_of k ≡ sections.Locals → k ≡ codes "locals"
only_locals k h = section_only sections.Locals (codes "locals") k ((λ e. absurd (cc)), ((λ e. refl), ((λ e. absurd (cc)), ((λ e. absurd (cc)), tt)))) (λ e. absurd (cc)) (λ e. absurd (cc)) h

pub only_output : (k : List ℕ) → section_of k ≡ sections.Outputs → k ≡ codes "output"
only_output k h = section_only sections.Outputs (codes "output") k ((λ e. absurd (cc)), ((λ e. absurd (cc)), ((λ e. refl), ((λ e. absurd (cc)), tt)))) (λ e. absurd (cc)) (λ e. absurd (cc)) h

pub only_resource : (k : List ℕ) → section_of k ≡ sections.Resources → k ≡ codes "resource"
only_resource k h = section_only sections.Resources (codes "resource") k ((λ e. absurd (cc)), ((λ e. absurd (cc)), ((λ e. absurd (cc)), ((λ e. refl), tt)))) (λ e. absurd (cc)) (λ e. absurd (cc)) h

-- ---- locals

comment_at : (b : Bool) (k : List ℕ) → bytes_eq k (codes "//") ≡ b → cond b in_locals.Comment in_locals.Local ≡ in_locals.Comment → is_name k ≡ false
comment_at true k is h = ap is_name ((bytes_eq-Decides k (codes "//")).0 is)
comment_at false k is h = absurd (cc)

-- a comment is no name
pub no_name : (k : List ℕ) → locals_property_of k ≡ in_locals.Comment → is_name k ≡ false
no_name k h = comment_at (is_comment k) k refl h
