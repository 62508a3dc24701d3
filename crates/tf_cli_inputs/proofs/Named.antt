-- No name of a configuration needs itself, where none does by its table of dependence.
use Rattle.std.proofs.Common.{◌≡◌, ℕ, true, false, Option, Some, None, List, Result, Ok, Err, IfOk, OnOk, refl}
use Rattle.std.specs.Prelude.{IsSome}
use Rattle.tf_config_data.specs.Config.{ConfigView}
use Rattle.tf_config_data.specs.Names.{NameView, names_of, place_of}
use Rattle.tf_graph.specs.Path.{Path, direct, onward}
use Rattle.tf_config_names.specs.Judging.{AllAreKnown}
use Rattle.tf_config_names.specs.Needs.{IsAcyclic, IsDependence, Needs, RefersTo, needs_in}
use Rattle.tf_config_names.specs.declared.dependence.Dependence.{Dependence}
use Rattle.tf_config_refusal.specs.declared.refusal.Refusal.{Refusal}
use Rattle.tf_expr_syntax.specs.TemplateNames.{Pair}
use Rattle.tf_cli_inputs.specs.Texts.{AreNamesGood}

-- what is needed is declared
is_placed : (names : List NameView) (a b : Pair) → Path (RefersTo names) a b → IsSome (place_of names b)
is_placed names _ _ (direct a b h) = h.1
is_placed names _ c (onward a b _ h p) = is_placed names b c p

at_place : (names : List NameView) (d : Dependence) (pair : Pair) (place : Option ℕ) → IsDependence names d → IsAcyclic d → Needs names pair pair → place_of names pair ≡ place → IsSome place → ⊥
at_place names d pair None is acyclic needs at h = absurd (cc)
at_place names d pair (Some n) is acyclic needs at h =
    let yes : needs_in d n n ≡ true = (is.needed pair pair n n at at).1 needs in
    let no : needs_in d n n ≡ false = acyclic n in
    absurd (cc (yes, no))

pub are_good : (config : ConfigView) (d : Dependence) → AllAreKnown config → IsDependence (names_of config) d → IsAcyclic d → AreNamesGood config
are_good config d known is acyclic =
    let names = names_of config in
    record {
      known = known;
      acyclic = λ pair needs. at_place names d pair (place_of names pair) is acyclic needs refl (is_placed names pair pair needs);
    }

-- the same of what the check of names answers
pub are_good_where_ok : (config : ConfigView) (answer : Result Dependence Refusal) → OnOk answer (AllAreKnown config) → IfOk answer (IsDependence (names_of config)) → IfOk answer IsAcyclic → OnOk answer (AreNamesGood config)
are_good_where_ok config (Ok d) known is acyclic = are_good config d known is acyclic
are_good_where_ok config (Err refusal) known is acyclic = tt
