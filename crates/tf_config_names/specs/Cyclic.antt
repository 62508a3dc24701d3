-- How a configuration whose names need themselves is refused.
use Rattle.std.specs.Prelude.{◌≡◌, ℕ, List, [], MatchResult, Result, codes}
use Rattle.tf_config_data.specs.Names.{NameView}
use Rattle.tf_config_refusal.specs.declared.code.Code.TheVariants as code
use Rattle.tf_config_refusal.specs.Refusal.{DetailView, RefusalView, no_memory, workers, fault, refusal_of}
use Rattle.tf_config_refusal.specs.Refusal as refusals
use Rattle.tf_config_refusal.specs.declared.refusal.Refusal.{Refusal}
use Rattle.tf_expr_syntax.specs.TemplateNames.{Pair}
use Rattle.tf_config_names.specs.Needs.{Needs, AreCyclic}

-- 5, Cycle, at the whole configuration, with exactly the names that need themselves, at least one; or out of memory
abbrev pub RefusesCycle : List NameView → RefusalView → Type 0
RefusesCycle names no_memory = Unit {0}
RefusesCycle names workers = ⊥
RefusesCycle names (fault code' place detail) =
    (code' ≡ code.Cycle) × (place ≡ codes "configuration")
    × ((texts : List (List ℕ)) × (detail ≡ refusals.names texts) × AreCyclic names texts × (texts ≡ [] → ⊥))

-- no name needs itself, or the refusal lists those that do
abbrev pub JudgesCycles : {T : Type 0} → List NameView → Result T Refusal → Type 0
JudgesCycles names answer = MatchResult answer (λ _. (pair : Pair) → Needs names pair pair → ⊥) (λ refusal. RefusesCycle names (refusal_of refusal))
