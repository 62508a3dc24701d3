-- Reading is a function: the same texts read as the same configuration, the same values of its variables and the same prior state. What was read is sound.
use Rattle.std.proofs.Common.{◌≡◌, ◌∙◌, ℕ, List, [], ◌∷◌, Option, Some, None, Less, map, refl, sym, ap, subst}
use Rattle.std.specs.List.{AllByRecursion}
use Rattle.std.specs.List.Sorted.{IsStrictlySortedBy}
use Rattle.serde_json.specs.Data.{Data}
use Rattle.tf_config_address.specs.ResourceAddr.{addr_cmp}
use Rattle.tf_config_json.specs.Config.{address_cmp}
use Rattle.tf_config_json.specs.Configuration.{IsConfiguration}
use Rattle.tf_config_json.specs.Laws.{BlocksAreInOrder, StandsForOne}
use Rattle.tf_config_json.specs.Reading.{IsTree}
use Rattle.tf_config_data.specs.Config.{BlockView, ConfigView}
use Rattle.tf_cli_inputs.specs.Texts.{AreTheValues, IsPrior, IsRead, ReadAs, Texts}
use Rattle.tf_state.specs.Laws.{EmptyIsValid, ReadIsValid, TextIsOfOne}
use Rattle.tf_state.specs.Valid.{IsValid}
use Rattle.tf_state_data.specs.State.{StateView}
use Rattle.tf_value_data.specs.Tree.{Entries}
use Rattle.tf_config_json.specs.VariableLaws.{ValuesAreOne}
use Rattle.tf_config_json.specs.VariablesRead.{IsFileOf}
use Rattle.tf_config_json.specs.Values.{AreValues}
use Rattle.tf_laws.specs.Readings.{TextsReadAsOne, TextsReadAsOneApart, without_lineage}

-- ---- the same texts

pub one_tree : (bytes : List ℕ) (s t : Data) → IsTree bytes s → IsTree bytes t → s ≡ t
one_tree bytes s t h k = let same : ◌≡◌ {A = Option Data} (Some s) (Some t) = sym h.1 ∙ k.1 in cc

pub one_config : StandsForOne → (bytes : List ℕ) (config other : ConfigView) → IsRead bytes config → IsRead bytes other → config ≡ other
one_config law bytes config other h k = law k.tree config other (subst (λ (t : Data). IsConfiguration t config) (one_tree bytes h.tree k.tree h.is_tree k.is_tree) h.stands) k.stands

pub one_file : (vars : Option (List ℕ)) (file other : Option Data) → IsFileOf vars file → IsFileOf vars other → file ≡ other
one_file None None None h k = refl
one_file None None (Some u) h k = absurd k
one_file None (Some t) other h k = absurd h
one_file (Some bytes) None other h k = absurd h
one_file (Some bytes) (Some t) None h k = absurd k
one_file (Some bytes) (Some t) (Some u) h k = ap (λ (d : Data). Some d) (one_tree bytes t u h.1 k.1)

pub one_values : ValuesAreOne → (vars : Option (List ℕ)) (config : ConfigView) (values others : Entries) → AreTheValues vars config values → AreTheValues vars config others → values ≡ others
one_values law vars config values others h k =
    law k.file config.variables values others (subst (λ (f : Option Data). AreValues f config.variables values) (one_file vars h.file k.file h.is_file k.is_file) h.valued) k.valued

-- ---- what a prior state has

-- the resources of prior states of one text are the same, of whatever lineages where there is none
pub one_resources : TextIsOfOne → (state : Option (List ℕ)) (lineage other : List ℕ) (prior again : StateView) → IsPrior state lineage prior → IsPrior state other again → again.resources ≡ prior.resources
one_resources law None lineage other prior again h k = ap (λ (s : StateView). s.resources) k ∙ sym (ap (λ (s : StateView). s.resources) h)
one_resources law (Some bytes) lineage other prior again h k = ap (λ (s : StateView). s.resources) (law bytes again prior k.0 h.0)

pub prior_valid : ReadIsValid → EmptyIsValid → (state : Option (List ℕ)) (lineage : List ℕ) (prior : StateView) → IsPrior state lineage prior → IsValid prior
prior_valid read empty None lineage prior h = subst IsValid (sym h) (empty lineage)
prior_valid read empty (Some bytes) lineage prior h = read bytes prior h.0

-- ---- blocks

addrs_after : (first : BlockView) (blocks : List BlockView) → AllByRecursion (λ b. address_cmp first b ≡ Less) blocks → AllByRecursion (λ l. addr_cmp first.addr l ≡ Less) (map (λ b. b.addr) blocks)
addrs_after first [] h = tt
addrs_after first (b ∷ blocks) h = (h.0, addrs_after first blocks h.1)

addrs_in_order : (blocks : List BlockView) → IsStrictlySortedBy address_cmp blocks → IsStrictlySortedBy addr_cmp (map (λ b. b.addr) blocks)
unfolding IsStrictlySortedBy
addrs_in_order [] h = tt
addrs_in_order (b ∷ blocks) h = (addrs_after b blocks h.0, addrs_in_order blocks h.1)

pub read_in_order : BlocksAreInOrder → (tree : Data) (config : ConfigView) → IsConfiguration tree config → IsStrictlySortedBy addr_cmp (map (λ b. b.addr) config.blocks)
read_in_order law tree config h = addrs_in_order config.blocks (law tree config h)

-- ---- the same prior state

pub one_prior : TextIsOfOne → (state : Option (List ℕ)) (lineage : List ℕ) (prior again : StateView) → IsPrior state lineage prior → IsPrior state lineage again → again ≡ prior
one_prior law None lineage prior again h k = k ∙ sym h
one_prior law (Some bytes) lineage prior again h k = law bytes again prior k.0 h.0

pub prior_apart : TextIsOfOne → (state : Option (List ℕ)) (lineage other : List ℕ) (prior again : StateView) → IsPrior state lineage prior → IsPrior state other again → without_lineage again ≡ without_lineage prior
prior_apart law None lineage other prior again h k = ap without_lineage k ∙ sym (ap without_lineage h)
prior_apart law (Some bytes) lineage other prior again h k = ap without_lineage (law bytes again prior k.0 h.0)

-- ---- what texts read as

module _ (one : StandsForOne) (values_law : ValuesAreOne) (texts : Texts) (lineage other : List ℕ) (config again : ConfigView) (values others : Entries) (prior before : StateView)
    (h : ReadAs texts lineage config values prior) (k : ReadAs texts other again others before) where
  pub same_config : again ≡ config
  same_config = one_config one texts.config again config k.read h.read

  pub same_values : others ≡ values
  same_values = one_values values_law texts.vars config others values (subst (λ (c : ConfigView). AreTheValues texts.vars c others) same_config k.valued) h.valued

pub stand_for_one : StandsForOne → ValuesAreOne → TextIsOfOne → TextsReadAsOne
stand_for_one one law state texts lineage config again values others prior before h k = (
  same_config one law texts lineage lineage config again values others prior before h k,
  same_values one law texts lineage lineage config again values others prior before h k,
  one_prior state texts.state lineage prior before h.before k.before,
)

pub stand_apart : StandsForOne → ValuesAreOne → TextIsOfOne → TextsReadAsOneApart
stand_apart one law state texts lineage other config again values others prior before h k = (
  same_config one law texts lineage other config again values others prior before h k,
  same_values one law texts lineage other config again values others prior before h k,
  prior_apart state texts.state lineage other prior before h.before k.before,
)
