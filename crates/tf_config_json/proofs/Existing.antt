-- A tree that keeps the format reads as a configuration, whether or not its names are in order and each there once.
use Rattle.std.proofs.Common.{◌≡◌, ◌⊎◌, inl, inr, ℕ, true, false, Option, None, Some, List, [], ◌∷◌, Ordering, codes, refl, sym, ap, ◌∙◌, subst}
use Rattle.std.proofs.lemmas.Cmp.{nat_list_cmp_total}
use Rattle.std.proofs.lemmas.Map.Lookups.{exact_bytes}
use Rattle.std.specs.Option.{MatchOption}
use Rattle.serde_json.specs.Data.{Data, null, boolean, number, string, array, object, Members, no_members, member}
use Rattle.serde_json.specs.Find.{get, get_member}
use Rattle.tf_config_address.specs.ResourceAddr.{ResourceAddrView, addr_cmp}
use Rattle.tf_config_data.specs.Config.{RepetitionView, single, count, for_each, LifecycleView, VariableView, BlockView, ConfigView}
use Rattle.tf_expr_json.specs.Reading.{IsExpr}
use Rattle.tf_expr_syntax.specs.ExprTree.{Tree, Entries}
use Rattle.tf_value_data.specs.Tree as values
use Rattle.tf_config_json.proofs.AtPath.{path_first, path_on, no_section, in_section, met_inside, met_section}
use Rattle.tf_config_json.proofs.Fits.{list_fits}
use Rattle.tf_config_json.proofs.Inside.{IsNamed, named}
use Rattle.tf_config_json.proofs.KeyedLists as keyed
use Rattle.tf_config_json.proofs.KeyedLists.{Collected, collected_none, collected_as, collected_put, finished}
use Rattle.tf_config_json.proofs.One.{addr_exact, addr_total, one_variable_of, one_local, one_output, one_block, one_argument}
use Rattle.tf_config_json.proofs.OnlyWords.{no_name}
use Rattle.tf_config_json.proofs.Pairs.{Pair, name_of, name_cmp, entries_of, pairs-entries_of, CollectedEntries, entries_finished, one_pair}
use Rattle.tf_config_json.proofs.PartFits.{expression_fits, flag_fits, type_fits, name_fits, address_fits, literal_fits, what_is_there}
use Rattle.tf_config_json.specs.Config.{Blocks, plain_lifecycle, plain_variable, variable_cmp, address_cmp}
use Rattle.tf_config_json.specs.Configuration.{object_checks, variable_checks, variable_property_checks, local_checks, output_checks, output_property_checks, output_body_checks, lifecycle_property_checks, block_property_checks, block_body_checks, checks_in_block, checks_in_locals, resource_checks, type_checks, configuration_checks, at_path, HasAt, IsDefault, IsVariable, IsRepetition, IsLifecycle, IsArgument, IsBlock, IsVariableOf, IsLocalOf, IsOutputOf, IsBlockOf, AreEntriesOf, IsListOf, IsConfiguration}
use Rattle.tf_config_json.specs.Demand.{AreMet}
use Rattle.tf_config_json.specs.Parts.{NamesType, IsFlag, IsLiteral, SaysList, name_checks, IsNameText, address_checks, IsAddressText}
use Rattle.tf_config_json.specs.Words.{locals_property_of, block_property_of}
use Rattle.tf_config_json.specs.declared.words.BlockProperty.{BlockProperty}
use Rattle.tf_config_json.specs.declared.words.BlockProperty.TheVariants as in_block
use Rattle.tf_config_json.specs.declared.words.LocalsProperty.{LocalsProperty}
use Rattle.tf_config_json.specs.declared.words.LocalsProperty.TheVariants as in_locals

abbrev variable_name : VariableView → List ℕ
variable_name v = v.name

abbrev addr_at : BlockView → ResourceAddrView
addr_at b = b.addr

abbrev address : List ℕ → List ℕ → ResourceAddrView
address type_name name = record { type_name = type_name; name = name }

-- ---- one item after another

-- items are collected for the names of some members, one name after another
module _ {A K : Type 0} (key : A → K) (cmp : K → K → Ordering) (Is : A → Type 0) (Reaches : List ℕ → K → Type 0)
    (step : (k : List ℕ) (xs : List A) (Met : K → Type 0) → Collected key cmp Is Met xs → (ys : List A) × Collected key cmp Is (λ x. Reaches k x ⊎ Met x) ys) where
  abbrev IsGathered : Members → K → Type 0
  IsGathered no_members x = ⊥
  IsGathered (member k d ms) x = Reaches k x ⊎ IsGathered ms x

  gathered_next : (k : List ℕ) (d : Data) (ms : Members) (Met : K → Type 0) (x : K) → IsGathered (member k d ms) x ⊎ Met x → IsGathered ms x ⊎ (Reaches k x ⊎ Met x)
  gathered_next k d ms Met x (inl (inl here)) = inr (inl here)
  gathered_next k d ms Met x (inl (inr later)) = inl later
  gathered_next k d ms Met x (inr met) = inr (inr met)

  gathers : (ms : Members) (xs : List A) (Met : K → Type 0) → Collected key cmp Is Met xs → (ys : List A) × Collected key cmp Is (λ x. IsGathered ms x ⊎ Met x) ys
  gathers no_members xs Met c = (xs, record { order = c.order; sound = c.sound; whole = λ x is met. elim met [ inl none ↦ absurd none | inr met ↦ c.whole x is met ] })
  gathers (member k d ms) xs Met c =
      let first = step k xs Met c in
      let later = gathers ms first.0 (λ x. Reaches k x ⊎ Met x) first.1 in
      (later.0, record { order = later.1.order; sound = later.1.sound; whole = λ x is met. later.1.whole x is (gathered_next k d ms Met (key x) met) })

  gathered : (k : List ℕ) (x : K) (ms : Members) → Reaches k x → IsNamed k ms → IsGathered ms x
  gathered k x no_members reaches is = absurd is
  gathered k x (member l d ms) reaches (inl same) = inl (subst (λ n. Reaches n x) same reaches)
  gathered k x (member l d ms) reaches (inr is) = inr (gathered k x ms reaches is)

-- ---- bodies

or_at : {A : Type 0} (ReadsAs : Data → A → Type 0) (default : A) (o : Option Data) → ((e : Data) → o ≡ Some e → (x : A) × ReadsAs e x) → (x : A) × MatchOption o (x ≡ default) (λ e. ReadsAs e x)
or_at ReadsAs default None h = (default, refl)
or_at ReadsAs default (Some e) h = h e refl

some_default : (d : Data) → ((t : values.Tree) × IsLiteral d t) → (o : Option values.Tree) × IsDefault d o
some_default d t = (Some t.0, (t.0, t.1, refl))

a_variable : (place : List (List ℕ)) (name : List ℕ) (d : Data) → AreMet (object_checks variable_property_checks place d) → (v : VariableView) × (v.name ≡ name) × IsVariable d v
a_variable place name d met =
    let of_type = or_at NamesType plain_variable.value_type (get (codes "type") d) (λ e is. type_fits.from_met (codes "type" ∷ place) e (met_inside variable_property_checks place (codes "type") d e met is)) in
    let default = or_at IsDefault None (get (codes "default") d) (λ e is. some_default e (literal_fits.from_met (codes "default" ∷ place) e (met_inside variable_property_checks place (codes "default") d e met is))) in
    (record { name = name; value_type = of_type.0; default = default.0 }, refl, record { value_type = of_type.1; default = default.1 })

an_output : (place : List (List ℕ)) (d : Data) → AreMet (output_body_checks place d) → (e : Tree) × HasAt IsExpr (codes "value" ∷ []) d e
an_output place d met =
    let value = what_is_there (get (codes "value") d) met.0 in
    let e = expression_fits.from_met (codes "value" ∷ place) value.0 (met_inside output_property_checks place (codes "value") d value.0 met.1 value.1) in
    (e.0, (value.0, path_on (codes "value") [] d value.0 value.0 value.1 refl, e.1))

a_lifecycle : (place : List (List ℕ)) (d : Data) → AreMet (object_checks lifecycle_property_checks place d) → (l : LifecycleView) × IsLifecycle d l
a_lifecycle place d met =
    let creates = or_at IsFlag false (get (codes "create_before_destroy") d)
    (λ e is. flag_fits.from_met (codes "create_before_destroy" ∷ place) e (met_inside lifecycle_property_checks place (codes "create_before_destroy") d e met is)) in
    let prevents = or_at IsFlag false (get (codes "prevent_destroy") d)
    (λ e is. flag_fits.from_met (codes "prevent_destroy" ∷ place) e (met_inside lifecycle_property_checks place (codes "prevent_destroy") d e met is)) in
    let ignores = or_at (SaysList IsNameText) [] (get (codes "ignore_changes") d)
    (λ e is. (list_fits (List ℕ) name_checks IsNameText name_fits).from_met (codes "ignore_changes" ∷ place) e (met_inside lifecycle_property_checks place (codes "ignore_changes") d e met is)) in
    (record { create_before_destroy = creates.0; prevent_destroy = prevents.0; ignore_changes = ignores.0 }, record { create_before_destroy = creates.1; prevent_destroy = prevents.1; ignore_changes = ignores.1 })

repetition_at : (o p : Option Data) (d : Data) → get (codes "count") d ≡ o → get (codes "for_each") d ≡ p → ((e : Data) → o ≡ Some e → (x : Tree) × IsExpr e x) → ((e : Data) → p ≡ Some e → (x : Tree) × IsExpr e x)
    → (r : RepetitionView) × IsRepetition d r
repetition_at None None d is js h j = (single, (is, js))
repetition_at (Some e) p d is js h j = let x = h e refl in (count x.0, (e, path_on (codes "count") [] d e e is refl, x.1))
repetition_at None (Some e) d is js h j = let x = j e refl in (for_each x.0, (e, path_on (codes "for_each") [] d e e js refl, x.1))

a_repetition : (place : List (List ℕ)) (d : Data) → AreMet (object_checks block_property_checks place d) → (r : RepetitionView) × IsRepetition d r
a_repetition place d met =
    repetition_at (get (codes "count") d) (get (codes "for_each") d) d refl refl
    (λ e is. expression_fits.from_met (codes "count" ∷ place) e (met_inside block_property_checks place (codes "count") d e met is))
    (λ e is. expression_fits.from_met (codes "for_each" ∷ place) e (met_inside block_property_checks place (codes "for_each") d e met is))

-- ---- names with expressions

-- pairs that are collected are entries
as_entries : (Is : List ℕ → Tree → Type 0) (Met : List ℕ → Type 0) → ((n : List ℕ) (e : Tree) → Is n e → Met n) → ((ps : List Pair) × CollectedEntries Is Met ps) → (es : Entries) × AreEntriesOf Is es
as_entries Is Met all found =
    (entries_of found.0, entries_finished Is Met (entries_of found.0) all (subst (λ (ps : List Pair). CollectedEntries Is Met ps) (sym (pairs-entries_of found.0)) found.1))

module _ (Is : List ℕ → Tree → Type 0) (one : (n : List ℕ) (e f : Tree) → Is n e → Is n f → e ≡ f) where
  -- one more name, which has an expression or none
  one_more : (k : List ℕ) → ((e : Tree) × Is k e) ⊎ ((e : Tree) → Is k e → ⊥) → (ps : List Pair) (Met : List ℕ → Type 0) → CollectedEntries Is Met ps → (qs : List Pair) × CollectedEntries Is (λ x. (x ≡ k) ⊎ Met x) qs
  one_more k (inl e) ps Met c =
      (keyed.put name_of name_cmp nat_list_cmp_total exact_bytes (k, e.0) ps, collected_put name_of name_cmp nat_list_cmp_total exact_bytes (λ (x : Pair). Is x.0 x.1) (one_pair Is one) Met ps (k, e.0) e.1 c)
  one_more k (inr none) ps Met c = (
    ps,
    collected_as name_of name_cmp nat_list_cmp_total exact_bytes (λ (x : Pair). Is x.0 x.1) Met (λ x. (x ≡ k) ⊎ Met x) ps
        (λ x is met. elim met [ inl here ↦ absurd (none x.1 (subst (λ (n : List ℕ). Is n x.1) here is)) | inr met ↦ met ]) c,
  )

  all_entries : (ms : Members) → ((k : List ℕ) → ((e : Tree) × Is k e) ⊎ ((e : Tree) → Is k e → ⊥)) → ((n : List ℕ) (e : Tree) → Is n e → IsNamed n ms) → (es : Entries) × AreEntriesOf Is es
  all_entries ms decided inside =
      let step = λ (k : List ℕ) (ps : List Pair) (Met : List ℕ → Type 0) (c : CollectedEntries Is Met ps). one_more k (decided k) ps Met c in
      as_entries Is _ (λ n e is. inl (gathered name_of name_cmp (λ (x : Pair). Is x.0 x.1) (λ k x. x ≡ k) step n n ms refl (inside n e is)))
      (gathers name_of name_cmp (λ (x : Pair). Is x.0 x.1) (λ k x. x ≡ k) step ms [] (λ x. ⊥) (collected_none name_of name_cmp nat_list_cmp_total exact_bytes (λ (x : Pair). Is x.0 x.1) (λ x. ⊥) (λ x is met. met)))

-- ---- blocks

module _ (place : List (List ℕ)) (ms : Members) (met : AreMet (object_checks block_property_checks place (object ms))) where
  argument_at : (o : Option Data) (p : BlockProperty) (k : List ℕ) → get_member k ms ≡ o → block_property_of k ≡ p → ((e : Tree) × IsArgument (object ms) k e) ⊎ ((e : Tree) → IsArgument (object ms) k e → ⊥)
  argument_at None p k is js = inr (λ e h. let found = path_first k [] (object ms) h.1.0 h.1.1 in let no : ◌≡◌ {A = Option Data} None (Some found.0) = sym is ∙ found.1 in absurd (cc))
  argument_at (Some d) in_block.Argument k is js =
      let all : AreMet (checks_in_block in_block.Argument (k ∷ place) k d) = subst (λ p. AreMet (checks_in_block p (k ∷ place) k d)) js (met_inside block_property_checks place k (object ms) d met is) in
      let e = expression_fits.from_met (k ∷ place) d all.1 in
      inl (e.0, (js, (d, path_on k [] (object ms) d d is refl, e.1)))
  argument_at (Some d) in_block.Comment k is js = inr (λ e h. let no : in_block.Comment ≡ in_block.Argument = sym js ∙ h.0 in absurd (cc))
  argument_at (Some d) in_block.Count k is js = inr (λ e h. let no : in_block.Count ≡ in_block.Argument = sym js ∙ h.0 in absurd (cc))
  argument_at (Some d) in_block.ForEach k is js = inr (λ e h. let no : in_block.ForEach ≡ in_block.Argument = sym js ∙ h.0 in absurd (cc))
  argument_at (Some d) in_block.DependsOn k is js = inr (λ e h. let no : in_block.DependsOn ≡ in_block.Argument = sym js ∙ h.0 in absurd (cc))
  argument_at (Some d) in_block.Lifecycle k is js = inr (λ e h. let no : in_block.Lifecycle ≡ in_block.Argument = sym js ∙ h.0 in absurd (cc))
  argument_at (Some d) in_block.Refused k is js = inr (λ e h. let no : in_block.Refused ≡ in_block.Argument = sym js ∙ h.0 in absurd (cc))

  arguments : (es : Entries) × AreEntriesOf (IsArgument (object ms)) es
  arguments =
      all_entries (IsArgument (object ms)) (λ n e f h j. one_argument (object ms) n e f h j) ms (λ k. argument_at (get_member k ms) (block_property_of k) k refl refl)
      (λ n e is. let found = path_first n [] (object ms) is.1.0 is.1.1 in named n ms found.0 found.1)

a_block : (place : List (List ℕ)) (addr : ResourceAddrView) (d : Data) → AreMet (block_body_checks place d) → (b : BlockView) × (b.addr ≡ addr) × IsBlock d b
a_block place addr null met = absurd met.1.0
a_block place addr (boolean x) met = absurd met.1.0
a_block place addr (number x) met = absurd met.1.0
a_block place addr (string x) met = absurd met.1.0
a_block place addr (array x) met = absurd met.1.0
a_block place addr (object ms) met =
    let repeats = a_repetition place (object ms) met.1 in
    let depends = or_at (SaysList IsAddressText) [] (get (codes "depends_on") (object ms))
    (λ e is. (list_fits ResourceAddrView address_checks IsAddressText address_fits).from_met (codes "depends_on" ∷ place) e (met_inside block_property_checks place (codes "depends_on") (object ms) e met.1 is)) in
    let rules = or_at IsLifecycle plain_lifecycle (get (codes "lifecycle") (object ms))
    (λ e is. a_lifecycle (codes "lifecycle" ∷ place) e (met_inside block_property_checks place (codes "lifecycle") (object ms) e met.1 is)) in
    let all = arguments place ms met.1 in (
      record { addr = addr; repetition = repeats.0; depends_on = depends.0; lifecycle = rules.0; arguments = all.0 },
      refl,
      record { repetition = repeats.1; depends_on = depends.1; lifecycle = rules.1; arguments = all.1 },
    )

-- ---- sections

module _ (tree : Data) (met : AreMet (configuration_checks tree)) where
  -- ---- variables

  module _ (ms : Members) (there : get (codes "variable") tree ≡ Some (object ms)) where
    variable_more : (o : Option Data) (k : List ℕ) (vs : List VariableView) (Met : List ℕ → Type 0) → get_member k ms ≡ o → Collected variable_name name_cmp (IsVariableOf tree) Met vs
        → (ws : List VariableView) × Collected variable_name name_cmp (IsVariableOf tree) (λ x. (x ≡ k) ⊎ Met x) ws
    variable_more None k vs Met is c = (
      vs,
      collected_as variable_name name_cmp nat_list_cmp_total exact_bytes (IsVariableOf tree) Met (λ x. (x ≡ k) ⊎ Met x) vs
          (λ v h met. elim met [
            | inl here ↦
                (let found = in_section tree (codes "variable") v.name [] ms h.0 there h.1 in
                let no : ◌≡◌ {A = Option Data} None (Some found.0) = sym is ∙ (ap (λ (n : List ℕ). get_member n ms) (sym here) ∙ found.1) in
                absurd (cc))
            | inr met ↦ met
          ]) c,
    )
    variable_more (Some d) k vs Met is c =
        let all = met_inside variable_checks (codes "variable" ∷ []) k (object ms) d (met_section (codes "variable") tree (object ms) met there) is in
        let v = a_variable (k ∷ codes "variable" ∷ []) k d all.1 in
        let path : at_path (codes "variable" ∷ k ∷ []) tree ≡ Some d = path_on (codes "variable") (k ∷ []) tree (object ms) d there (path_on k [] (object ms) d d is refl) in
        let is_one : IsVariableOf tree v.0 = (d, subst (λ (n : List ℕ). at_path (codes "variable" ∷ n ∷ []) tree ≡ Some d) (sym v.1) path, v.2) in
        let put_in = collected_put variable_name name_cmp nat_list_cmp_total exact_bytes (IsVariableOf tree) (one_variable_of tree) Met vs v.0 is_one c in (
          keyed.put variable_name name_cmp nat_list_cmp_total exact_bytes v.0 vs,
          collected_as variable_name name_cmp nat_list_cmp_total exact_bytes (IsVariableOf tree) (λ x. (x ≡ v.0.name) ⊎ Met x) (λ x. (x ≡ k) ⊎ Met x) (keyed.put variable_name name_cmp nat_list_cmp_total exact_bytes v.0 vs)
              (λ w h met. elim met [ inl here ↦ inl (here ∙ sym v.1) | inr met ↦ inr met ]) put_in,
        )

    variables_there : (vs : List VariableView) × IsListOf variable_cmp (IsVariableOf tree) vs
    variables_there =
        let step = λ (k : List ℕ) (vs : List VariableView) (Met : List ℕ → Type 0) (c : Collected variable_name name_cmp (IsVariableOf tree) Met vs). variable_more (get_member k ms) k vs Met refl c in
        let all = gathers variable_name name_cmp (IsVariableOf tree) (λ k x. x ≡ k) step ms [] (λ x. ⊥) (collected_none variable_name name_cmp nat_list_cmp_total exact_bytes (IsVariableOf tree) (λ x. ⊥) (λ x is met. met)) in (
          all.0,
          finished variable_name name_cmp nat_list_cmp_total exact_bytes (IsVariableOf tree) _ all.0
              (λ v is. let found = in_section tree (codes "variable") v.name [] ms is.0 there is.1 in inl (gathered variable_name name_cmp (IsVariableOf tree) (λ k x. x ≡ k) step v.name v.name ms refl (named v.name ms found.0 found.1))) all.1,
        )

  variables_at : (o : Option Data) → get (codes "variable") tree ≡ o → (vs : List VariableView) × IsListOf variable_cmp (IsVariableOf tree) vs
  variables_at None is = (
    [],
    finished variable_name name_cmp nat_list_cmp_total exact_bytes (IsVariableOf tree) (λ x. ⊥) [] (λ v here. no_section tree (codes "variable") (v.name ∷ []) here.0 is here.1)
        (collected_none variable_name name_cmp nat_list_cmp_total exact_bytes (IsVariableOf tree) (λ x. ⊥) (λ x is met. met)),
  )
  variables_at (Some null) is = absurd (met_section (codes "variable") tree null met is).0
  variables_at (Some (boolean x)) is = absurd (met_section (codes "variable") tree (boolean x) met is).0
  variables_at (Some (number x)) is = absurd (met_section (codes "variable") tree (number x) met is).0
  variables_at (Some (string x)) is = absurd (met_section (codes "variable") tree (string x) met is).0
  variables_at (Some (array x)) is = absurd (met_section (codes "variable") tree (array x) met is).0
  variables_at (Some (object ms)) is = variables_there ms is

  -- ---- locals

  no_entries_of : (Is : List ℕ → Tree → Type 0) → ((n : List ℕ) (e : Tree) → Is n e → ⊥) → (es : Entries) × AreEntriesOf Is es
  no_entries_of Is none = as_entries Is (λ x. ⊥) none ([], collected_none name_of name_cmp nat_list_cmp_total exact_bytes (λ (x : Pair). Is x.0 x.1) (λ x. ⊥) (λ x is met. met))

  module _ (ms : Members) (there : get (codes "locals") tree ≡ Some (object ms)) where
    local_at : (o : Option Data) (p : LocalsProperty) (k : List ℕ) → get_member k ms ≡ o → locals_property_of k ≡ p → ((e : Tree) × IsLocalOf tree k e) ⊎ ((e : Tree) → IsLocalOf tree k e → ⊥)
    local_at None p k is js =
        inr (λ e h. let found = in_section tree (codes "locals") k [] ms h.1.0 there h.1.1 in let no : ◌≡◌ {A = Option Data} None (Some found.0) = sym is ∙ found.1 in absurd (cc))
    local_at (Some d) in_locals.Comment k is js = inr (λ e h. let no : false ≡ true = sym (no_name k js) ∙ h.0 in absurd (cc))
    local_at (Some d) in_locals.Local k is js =
        let all : AreMet (checks_in_locals in_locals.Local (k ∷ codes "locals" ∷ []) k d) =
        subst (λ p. AreMet (checks_in_locals p (k ∷ codes "locals" ∷ []) k d)) js (met_inside local_checks (codes "locals" ∷ []) k (object ms) d (met_section (codes "locals") tree (object ms) met there) is) in
        let e = expression_fits.from_met (k ∷ codes "locals" ∷ []) d all.1 in
        inl (e.0, (all.0, (d, path_on (codes "locals") (k ∷ []) tree (object ms) d there (path_on k [] (object ms) d d is refl), e.1)))

  locals_at : (o : Option Data) → get (codes "locals") tree ≡ o → (es : Entries) × AreEntriesOf (IsLocalOf tree) es
  locals_at None is = no_entries_of (IsLocalOf tree) (λ n e here. no_section tree (codes "locals") (n ∷ []) here.1.0 is here.1.1)
  locals_at (Some null) is = absurd (met_section (codes "locals") tree null met is).0
  locals_at (Some (boolean x)) is = absurd (met_section (codes "locals") tree (boolean x) met is).0
  locals_at (Some (number x)) is = absurd (met_section (codes "locals") tree (number x) met is).0
  locals_at (Some (string x)) is = absurd (met_section (codes "locals") tree (string x) met is).0
  locals_at (Some (array x)) is = absurd (met_section (codes "locals") tree (array x) met is).0
  locals_at (Some (object ms)) is =
      all_entries (IsLocalOf tree) (one_local tree) ms (λ k. local_at ms is (get_member k ms) (locals_property_of k) k refl refl)
      (λ n e h. let found = in_section tree (codes "locals") n [] ms h.1.0 is h.1.1 in named n ms found.0 found.1)

  -- ---- outputs

  output_at : (ms : Members) (there : get (codes "output") tree ≡ Some (object ms)) (o : Option Data) (k : List ℕ) → get_member k ms ≡ o → ((e : Tree) × IsOutputOf tree k e) ⊎ ((e : Tree) → IsOutputOf tree k e → ⊥)
  output_at ms there None k is =
      inr (λ e h. let found = in_section tree (codes "output") k (codes "value" ∷ []) ms h.0 there h.1 in let no : ◌≡◌ {A = Option Data} None (Some found.0) = sym is ∙ found.1 in absurd (cc))
  output_at ms there (Some d) k is =
      let all = met_inside output_checks (codes "output" ∷ []) k (object ms) d (met_section (codes "output") tree (object ms) met there) is in
      let e = an_output (k ∷ codes "output" ∷ []) d all.1 in
      inl (e.0, (e.1.0, path_on (codes "output") (k ∷ codes "value" ∷ []) tree (object ms) e.1.0 there (path_on k (codes "value" ∷ []) (object ms) d e.1.0 is e.1.1), e.1.2))

  outputs_at : (o : Option Data) → get (codes "output") tree ≡ o → (es : Entries) × AreEntriesOf (IsOutputOf tree) es
  outputs_at None is = no_entries_of (IsOutputOf tree) (λ n e here. no_section tree (codes "output") (n ∷ codes "value" ∷ []) here.0 is here.1)
  outputs_at (Some null) is = absurd (met_section (codes "output") tree null met is).0
  outputs_at (Some (boolean x)) is = absurd (met_section (codes "output") tree (boolean x) met is).0
  outputs_at (Some (number x)) is = absurd (met_section (codes "output") tree (number x) met is).0
  outputs_at (Some (string x)) is = absurd (met_section (codes "output") tree (string x) met is).0
  outputs_at (Some (array x)) is = absurd (met_section (codes "output") tree (array x) met is).0
  outputs_at (Some (object ms)) is =
      all_entries (IsOutputOf tree) (one_output tree) ms (λ k. output_at ms is (get_member k ms) k refl)
      (λ n e h. let found = in_section tree (codes "output") n (codes "value" ∷ []) ms h.0 is h.1 in named n ms found.0 found.1)

  -- ---- blocks

  abbrev BlocksSoFar : (ResourceAddrView → Type 0) → Blocks → Type 0
  BlocksSoFar Met bs = Collected {A = BlockView} {K = ResourceAddrView} addr_at addr_cmp (IsBlockOf tree) Met bs

  none_so_far : BlocksSoFar (λ x. ⊥) []
  none_so_far = collected_none addr_at addr_cmp addr_total addr_exact (IsBlockOf tree) (λ x. ⊥) (λ x is met. met)

  module _ (ms : Members) (there : get (codes "resource") tree ≡ Some (object ms)) where
    -- a block's body is in the object of its type
    type_found : (t : List ℕ) (b : BlockView) → b.addr.type_name ≡ t → (h : IsBlockOf tree b) → (d : Data) × (get_member t ms ≡ Some d) × (at_path (b.addr.name ∷ []) d ≡ Some h.0)
    type_found t b same h =
        let found = in_section tree (codes "resource") b.addr.type_name (b.addr.name ∷ []) ms h.0 there h.1 in
        (found.0, subst (λ (n : List ℕ). get_member n ms ≡ Some found.0) same found.1, found.2)

    module _ (t : List ℕ) (ns : Members) (of_type : get_member t ms ≡ Some (object ns)) where
      name_found : (b : BlockView) → b.addr.type_name ≡ t → IsBlockOf tree b → (d : Data) × (get_member b.addr.name ns ≡ Some d)
      name_found b same h =
          let found = type_found t b same h in
          let both : ◌≡◌ {A = Option Data} (Some found.0) (Some (object ns)) = sym found.1 ∙ of_type in
          let names : found.0 ≡ object ns = (cc) in
          let body = path_first b.addr.name [] (object ns) h.0 (subst (λ d. at_path (b.addr.name ∷ []) d ≡ Some h.0) names found.2) in
          (body.0, body.1)

      block_more : (o : Option Data) (k : List ℕ) (bs : Blocks) (Met : ResourceAddrView → Type 0) → get_member k ns ≡ o → BlocksSoFar Met bs → (cs : Blocks) × BlocksSoFar (λ x. (x ≡ address t k) ⊎ Met x) cs
      block_more None k bs Met is c = (
        bs,
        collected_as addr_at addr_cmp addr_total addr_exact (IsBlockOf tree) Met (λ x. (x ≡ address t k) ⊎ Met x) bs
            (λ b h met. elim met [
              | inl here ↦
                  (let found = name_found b (ap (λ (a : ResourceAddrView). a.type_name) here) h in
                  let no : ◌≡◌ {A = Option Data} None (Some found.0) = sym is ∙ (ap (λ (a : ResourceAddrView). get_member a.name ns) (sym here) ∙ found.1) in
                  absurd (cc))
              | inr met ↦ met
            ]) c,
      )
      block_more (Some d) k bs Met is c =
          let types = met_inside type_checks (codes "resource" ∷ []) t (object ms) (object ns) (met_section (codes "resource") tree (object ms) met there) of_type in
          let all = met_inside resource_checks (t ∷ codes "resource" ∷ []) k (object ns) d types.1 is in
          let b = a_block (k ∷ t ∷ codes "resource" ∷ []) (address t k) d all.1 in
          let path : at_path (codes "resource" ∷ t ∷ k ∷ []) tree ≡ Some d =
          path_on (codes "resource") (t ∷ k ∷ []) tree (object ms) d there (path_on t (k ∷ []) (object ms) (object ns) d of_type (path_on k [] (object ns) d d is refl)) in
          let is_one : IsBlockOf tree b.0 = (d, subst (λ (a : ResourceAddrView). at_path (codes "resource" ∷ a.type_name ∷ a.name ∷ []) tree ≡ Some d) (sym b.1) path, b.2) in
          let put_in = collected_put addr_at addr_cmp addr_total addr_exact (IsBlockOf tree) (one_block tree met) Met bs b.0 is_one c in (
            keyed.put addr_at addr_cmp addr_total addr_exact b.0 bs,
            collected_as addr_at addr_cmp addr_total addr_exact (IsBlockOf tree) (λ x. (x ≡ b.0.addr) ⊎ Met x) (λ x. (x ≡ address t k) ⊎ Met x) (keyed.put addr_at addr_cmp addr_total addr_exact b.0 bs)
                (λ x h met. elim met [ inl here ↦ inl (here ∙ sym b.1) | inr met ↦ inr met ]) put_in,
          )

      names_more : (bs : Blocks) (Met : ResourceAddrView → Type 0) → BlocksSoFar Met bs → (cs : Blocks) × BlocksSoFar (λ x. (x.type_name ≡ t) ⊎ Met x) cs
      names_more bs Met c =
          let step = λ (k : List ℕ) (bs : Blocks) (Met : ResourceAddrView → Type 0) (c : BlocksSoFar Met bs). block_more (get_member k ns) k bs Met refl c in
          let all = gathers addr_at addr_cmp (IsBlockOf tree) (λ k x. x ≡ address t k) step ns bs Met c in (
            all.0,
            collected_as addr_at addr_cmp addr_total addr_exact (IsBlockOf tree) _ (λ x. (x.type_name ≡ t) ⊎ Met x) all.0
                (λ b is met. elim met [
                  | inl same ↦
                      (let found = name_found b same is in
                      inl (gathered addr_at addr_cmp (IsBlockOf tree) (λ k x. x ≡ address t k) step b.addr.name b.addr ns (ap (λ (n : List ℕ). address n b.addr.name) same) (named b.addr.name ns found.0 found.1)))
                  | inr met ↦ inr met
                ]) all.1,
          )

    no_type : (t : List ℕ) (d : Data) → get_member t ms ≡ Some d → AreMet (object_checks resource_checks (t ∷ codes "resource" ∷ []) d)
    no_type t d is = (met_inside type_checks (codes "resource" ∷ []) t (object ms) d (met_section (codes "resource") tree (object ms) met there) is).1

    type_more : (o : Option Data) (t : List ℕ) (bs : Blocks) (Met : ResourceAddrView → Type 0) → get_member t ms ≡ o → BlocksSoFar Met bs → (cs : Blocks) × BlocksSoFar (λ x. (x.type_name ≡ t) ⊎ Met x) cs
    type_more None t bs Met is c = (
      bs,
      collected_as addr_at addr_cmp addr_total addr_exact (IsBlockOf tree) Met (λ x. (x.type_name ≡ t) ⊎ Met x) bs
          (λ b h met. elim met [
            | inl same ↦ (let found = type_found t b same h in let no : ◌≡◌ {A = Option Data} None (Some found.0) = sym is ∙ found.1 in absurd (cc))
            | inr met ↦ met
          ]) c,
    )
    type_more (Some null) t bs Met is c = absurd (no_type t null is).0
    type_more (Some (boolean x)) t bs Met is c = absurd (no_type t (boolean x) is).0
    type_more (Some (number x)) t bs Met is c = absurd (no_type t (number x) is).0
    type_more (Some (string x)) t bs Met is c = absurd (no_type t (string x) is).0
    type_more (Some (array x)) t bs Met is c = absurd (no_type t (array x) is).0
    type_more (Some (object ns)) t bs Met is c = names_more t ns is bs Met c

    blocks_there : (bs : Blocks) × IsListOf address_cmp (IsBlockOf tree) bs
    blocks_there =
        let step = λ (t : List ℕ) (bs : Blocks) (Met : ResourceAddrView → Type 0) (c : BlocksSoFar Met bs). type_more (get_member t ms) t bs Met refl c in
        let all = gathers addr_at addr_cmp (IsBlockOf tree) (λ t x. x.type_name ≡ t) step ms [] (λ x. ⊥) none_so_far in (
          all.0,
          finished addr_at addr_cmp addr_total addr_exact (IsBlockOf tree) _ all.0
              (λ b is. let found = type_found b.addr.type_name b refl is in inl (gathered addr_at addr_cmp (IsBlockOf tree) (λ t x. x.type_name ≡ t) step b.addr.type_name b.addr ms refl (named b.addr.type_name ms found.0 found.1))) all.1,
        )

  blocks_at : (o : Option Data) → get (codes "resource") tree ≡ o → (bs : Blocks) × IsListOf address_cmp (IsBlockOf tree) bs
  blocks_at None is = ([], finished addr_at addr_cmp addr_total addr_exact (IsBlockOf tree) (λ x. ⊥) [] (λ b here. no_section tree (codes "resource") (b.addr.type_name ∷ b.addr.name ∷ []) here.0 is here.1) none_so_far)
  blocks_at (Some null) is = absurd (met_section (codes "resource") tree null met is).0
  blocks_at (Some (boolean x)) is = absurd (met_section (codes "resource") tree (boolean x) met is).0
  blocks_at (Some (number x)) is = absurd (met_section (codes "resource") tree (number x) met is).0
  blocks_at (Some (string x)) is = absurd (met_section (codes "resource") tree (string x) met is).0
  blocks_at (Some (array x)) is = absurd (met_section (codes "resource") tree (array x) met is).0
  blocks_at (Some (object ms)) is = blocks_there ms is

-- a tree that keeps the format reads as a configuration
pub configuration_there : (tree : Data) → AreMet (configuration_checks tree) → (config : ConfigView) × IsConfiguration tree config
configuration_there tree met =
    let variables = variables_at tree met (get (codes "variable") tree) refl in
    let locals = locals_at tree met (get (codes "locals") tree) refl in
    let outputs = outputs_at tree met (get (codes "output") tree) refl in
    let blocks = blocks_at tree met (get (codes "resource") tree) refl in (
      record { variables = variables.0; locals = locals.0; outputs = outputs.0; blocks = blocks.0 },
      record { checks = met; variables = variables.1; locals = locals.1; outputs = outputs.1; blocks = blocks.1 },
    )
