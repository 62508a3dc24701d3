-- What the walk over a tree builds is the configuration that the tree reads as.
use Rattle.std.proofs.Common.{◌≡◌, ◌⊎◌, inl, inr, ℕ, true, false, Option, None, Some, List, [], ◌∷◌, Ordering, Less, Equal, Greater, nat_cmp, codes, refl, sym, ap, ◌∙◌, subst}
use Rattle.std.proofs.lemmas.Cmp.{nat_list_cmp_total}
use Rattle.std.proofs.lemmas.Map.Lookups.{exact_bytes}
use Rattle.std.specs.Cmp.Lexicographic.{slice_cmp}
use Rattle.std.specs.Ordering.{match_ordering}
use Rattle.serde_json.specs.Data.{Data, null, boolean, number, string, array, object, Members}
use Rattle.serde_json.specs.Find.{get, get_member}
use Rattle.tf_config_address.specs.Name.{is_name}
use Rattle.tf_config_address.specs.ResourceAddr.{ResourceAddrView, addr_cmp}
use Rattle.tf_config_data.specs.Config.{VariableView, BlockView, ConfigView}
use Rattle.tf_config_refusal.specs.Walk.{Builds}
use Rattle.tf_expr_syntax.specs.ExprTree.{Tree, Entries, no_entries}
use Rattle.tf_value_json.proofs.Sorted.{read_is_sorted}
use Rattle.tf_value_json.specs.Plain.{IsAny, IsSorted, AreOrderlyMembers}
use Rattle.tf_config_json.proofs.AtPath.{path_first, path_on, no_section, in_section}
use Rattle.tf_config_json.proofs.BuiltBodies.{variable_built, output_built, block_built}
use Rattle.tf_config_json.proofs.Sound.{configuration_met}
use Rattle.tf_config_json.proofs.Inside.{IsNamed, named, all_found, sorted_at, Takes, takes, collects, reached}
use Rattle.tf_config_json.proofs.KeyedLists as keyed
use Rattle.tf_config_json.proofs.KeyedLists.{Collected, collected_none, collected_as, collected_put, finished}
use Rattle.tf_config_json.proofs.One.{addr_exact, addr_total, one_variable_of, one_local, one_output, one_block}
use Rattle.tf_config_json.proofs.OnlyWords.{only_variable, only_locals, only_output, only_resource, no_name}
use Rattle.tf_config_json.proofs.Pairs.{Pair, name_of, name_cmp, pairs_of, pairs-put, CollectedEntries, entries_finished, one_pair}
use Rattle.tf_config_json.specs.Building.{BuildsFrom, AddsVariable, AddsInLocals, AddsLocal, AddsOutput, AddsResource, AddsType, AddsOfSection, AddsSection, BuildsConfiguration}
use Rattle.tf_config_json.specs.Config.{Blocks, variable_cmp, variable_with, put_variable, address_cmp, block_with, put_block, plain_config}
use Rattle.tf_config_json.specs.Configuration.{configuration_checks, at_path, IsVariableOf, IsLocalOf, IsOutputOf, IsBlockOf, IsListOf, AreEntriesOf, IsConfiguration}
use Rattle.tf_config_json.specs.Demand.{AreMet}
use Rattle.tf_config_json.specs.Reading.{IsTree}
use Rattle.tf_config_json.specs.Words.{section_of, locals_property_of}
use Rattle.tf_config_json.specs.declared.words.LocalsProperty.{LocalsProperty}
use Rattle.tf_config_json.specs.declared.words.LocalsProperty.TheVariants as in_locals
use Rattle.tf_config_json.specs.declared.words.Section.{Section}
use Rattle.tf_config_json.specs.declared.words.Section.TheVariants as sections

abbrev variable_name : VariableView → List ℕ
variable_name v = v.name

abbrev addr_at : BlockView → ResourceAddrView
addr_at b = b.addr

-- ---- puts

variable_put_at : (o : Ordering) (v w : VariableView) (vs later : List VariableView) → slice_cmp nat_cmp v.name w.name ≡ o → put_variable v vs ≡ later
    → match_ordering o (v ∷ w ∷ vs) (record v { name = w.name } ∷ vs) (w ∷ put_variable v vs) ≡ match_ordering o (v ∷ w ∷ vs) (v ∷ vs) (w ∷ later)
variable_put_at Less v w vs later is more = refl
variable_put_at Equal v w vs later is more = ap (λ (n : List ℕ). record v { name = n } ∷ vs) (sym (exact_bytes v.name w.name is))
variable_put_at Greater v w vs later is more = ap (λ rest. w ∷ rest) more

variable-put : (v : VariableView) (vs : List VariableView) → put_variable v vs ≡ keyed.put variable_name name_cmp nat_list_cmp_total exact_bytes v vs
variable-put v [] = refl
variable-put v (w ∷ vs) = variable_put_at (slice_cmp nat_cmp v.name w.name) v w vs (keyed.put variable_name name_cmp nat_list_cmp_total exact_bytes v vs) refl (variable-put v vs)

block_put_at : (o : Ordering) (b c : BlockView) (bs later : Blocks) → addr_cmp b.addr c.addr ≡ o → put_block b bs ≡ later
    → match_ordering o (b ∷ c ∷ bs) (record b { addr = c.addr } ∷ bs) (c ∷ put_block b bs) ≡ match_ordering o (b ∷ c ∷ bs) (b ∷ bs) (c ∷ later)
block_put_at Less b c bs later is more = refl
block_put_at Equal b c bs later is more = ap (λ (a : ResourceAddrView). record b { addr = a } ∷ bs) (sym (addr_exact b.addr c.addr is))
block_put_at Greater b c bs later is more = ap (λ rest. c ∷ rest) more

block-put : (b : BlockView) (bs : Blocks) → put_block b bs ≡ keyed.put addr_at addr_cmp addr_total addr_exact b bs
block-put b [] = refl
block-put b (c ∷ bs) = block_put_at (addr_cmp b.addr c.addr) b c bs (keyed.put addr_at addr_cmp addr_total addr_exact b bs) refl (block-put b bs)

module _ (tree : Data) (sorted : IsSorted tree) (checks : AreMet (configuration_checks tree)) where
  section_sorted : (tree : Data) (k : List ℕ) (d : Data) → IsSorted tree → get k tree ≡ Some d → IsSorted d
  section_sorted null k d s h = absurd (cc)
  section_sorted (boolean x) k d s h = absurd (cc)
  section_sorted (number x) k d s h = absurd (cc)
  section_sorted (string x) k d s h = absurd (cc)
  section_sorted (array x) k d s h = absurd (cc)
  section_sorted (object ms) k d s h = sorted_at k ms d s h

  -- ---- variables

  module _ (ms : Members) (there : get (codes "variable") tree ≡ Some (object ms)) where
    variables_sorted : AreOrderlyMembers IsAny ms
    variables_sorted = section_sorted tree (codes "variable") (object ms) sorted there

    variable_step : (k : List ℕ) (d : Data) (a b : List VariableView) (Met : List ℕ → Type 0) → get_member k ms ≡ Some d → AddsVariable k d a b
        → Collected variable_name name_cmp (IsVariableOf tree) Met a → Collected variable_name name_cmp (IsVariableOf tree) (λ x. (x ≡ k) ⊎ Met x) b
    variable_step k d a b Met is adds c =
        let v = variable_with k adds.1.0 in
        let path : at_path (codes "variable" ∷ k ∷ []) tree ≡ Some d = path_on (codes "variable") (k ∷ []) tree (object ms) d there (path_on k [] (object ms) d d is refl) in
        let put_in : b ≡ keyed.put variable_name name_cmp nat_list_cmp_total exact_bytes v a = sym adds.1.2 ∙ variable-put v a in
        subst (λ (vs : List VariableView). Collected variable_name name_cmp (IsVariableOf tree) (λ x. (x ≡ k) ⊎ Met x) vs) (sym put_in)
        (collected_put variable_name name_cmp nat_list_cmp_total exact_bytes (IsVariableOf tree) (one_variable_of tree) Met a v (d, path, variable_built d k adds.1.0 (sorted_at k ms d variables_sorted is) adds.1.1) c)

    variable_named : (v : VariableView) → IsVariableOf tree v → IsNamed v.name ms
    variable_named v h = let body = in_section tree (codes "variable") v.name [] ms h.0 there h.1 in named v.name ms body.0 body.1

    variables_built : (vs : List VariableView) → Builds AddsVariable ms [] vs → IsListOf variable_cmp (IsVariableOf tree) vs
    variables_built vs builds =
        finished variable_name name_cmp nat_list_cmp_total exact_bytes (IsVariableOf tree) _ vs
        (λ v is. inl (reached variable_name name_cmp (IsVariableOf tree) AddsVariable (λ (x : List VariableView). x) (λ k x. x ≡ k) (λ k. get_member k ms) variable_step v.name v.name ms refl (variable_named v is)))
        (collects variable_name name_cmp (IsVariableOf tree) AddsVariable (λ (x : List VariableView). x) (λ k x. x ≡ k) (λ k. get_member k ms) variable_step ms [] vs (λ x. ⊥) (all_found ms variables_sorted) builds
        (collected_none variable_name name_cmp nat_list_cmp_total exact_bytes (IsVariableOf tree) (λ x. ⊥) (λ x is met. met)))

  variables_at : (o : Option Data) (vs : List VariableView) → get (codes "variable") tree ≡ o → Takes (BuildsFrom AddsVariable) o [] vs → IsListOf variable_cmp (IsVariableOf tree) vs
  variables_at None vs is h =
      subst (IsListOf variable_cmp (IsVariableOf tree)) (sym h)
      (finished variable_name name_cmp nat_list_cmp_total exact_bytes (IsVariableOf tree) (λ x. ⊥) [] (λ v here. no_section tree (codes "variable") (v.name ∷ []) here.0 is here.1)
      (collected_none variable_name name_cmp nat_list_cmp_total exact_bytes (IsVariableOf tree) (λ x. ⊥) (λ x is met. met)))
  variables_at (Some null) vs is h = absurd h
  variables_at (Some (boolean x)) vs is h = absurd h
  variables_at (Some (number x)) vs is h = absurd h
  variables_at (Some (string x)) vs is h = absurd h
  variables_at (Some (array x)) vs is h = absurd h
  variables_at (Some (object ms)) vs is h = variables_built ms is vs h

  -- ---- locals

  module _ (ms : Members) (there : get (codes "locals") tree ≡ Some (object ms)) where
    local_step : (p : LocalsProperty) (k : List ℕ) (d : Data) (a b : Entries) (Met : List ℕ → Type 0) → locals_property_of k ≡ p → get_member k ms ≡ Some d → AddsInLocals p k d a b
        → CollectedEntries (IsLocalOf tree) Met (pairs_of a) → CollectedEntries (IsLocalOf tree) (λ x. (x ≡ k) ⊎ Met x) (pairs_of b)
    local_step in_locals.Comment k d a b Met p is adds c =
        let other = collected_as name_of name_cmp nat_list_cmp_total exact_bytes (λ (x : Pair). IsLocalOf tree x.0 x.1) Met (λ x. (x ≡ k) ⊎ Met x) (pairs_of a)
        (λ x local met. elim met [ inl here ↦ (let no : false ≡ true = sym (no_name k p) ∙ (ap is_name (sym here) ∙ local.0) in absurd (cc)) | inr met ↦ met ]) c in
        subst (λ (es : Entries). CollectedEntries (IsLocalOf tree) (λ x. (x ≡ k) ⊎ Met x) (pairs_of es)) adds other
    local_step in_locals.Local k d a b Met p is adds c =
        let path : at_path (codes "locals" ∷ k ∷ []) tree ≡ Some d = path_on (codes "locals") (k ∷ []) tree (object ms) d there (path_on k [] (object ms) d d is refl) in
        let put_in : pairs_of b ≡ keyed.put name_of name_cmp nat_list_cmp_total exact_bytes (k, adds.1.0) (pairs_of a) = ap pairs_of (sym adds.1.2) ∙ pairs-put k adds.1.0 a in
        subst (λ (ps : List Pair). CollectedEntries (IsLocalOf tree) (λ x. (x ≡ k) ⊎ Met x) ps) (sym put_in)
        (collected_put name_of name_cmp nat_list_cmp_total exact_bytes (λ (x : Pair). IsLocalOf tree x.0 x.1) (one_pair (IsLocalOf tree) (one_local tree)) Met (pairs_of a) (k, adds.1.0) (adds.0, (d, path, adds.1.1)) c)

    locals_built : (es : Entries) → Builds AddsLocal ms no_entries es → AreEntriesOf (IsLocalOf tree) es
    locals_built es builds =
        let step = λ (k : List ℕ) (d : Data) (a b : Entries) (Met : List ℕ → Type 0) (is : get_member k ms ≡ Some d) (adds : AddsLocal k d a b) (c : CollectedEntries (IsLocalOf tree) Met (pairs_of a)).
        local_step (locals_property_of k) k d a b Met refl is adds c in
        entries_finished (IsLocalOf tree) _ es
        (λ n e is. let found = in_section tree (codes "locals") n [] ms is.1.0 there is.1.1 in
        inl (reached name_of name_cmp (λ (x : Pair). IsLocalOf tree x.0 x.1) AddsLocal pairs_of (λ k x. x ≡ k) (λ k. get_member k ms) step n n ms refl (named n ms found.0 found.1)))
        (collects name_of name_cmp (λ (x : Pair). IsLocalOf tree x.0 x.1) AddsLocal pairs_of (λ k x. x ≡ k) (λ k. get_member k ms) step ms no_entries es (λ x. ⊥)
        (all_found ms (section_sorted tree (codes "locals") (object ms) sorted there)) builds
        (collected_none name_of name_cmp nat_list_cmp_total exact_bytes (λ (x : Pair). IsLocalOf tree x.0 x.1) (λ x. ⊥) (λ x is met. met)))

  no_pairs : (Is : List ℕ → Tree → Type 0) (es : Entries) → ((n : List ℕ) (e : Tree) → Is n e → ⊥) → es ≡ no_entries → AreEntriesOf Is es
  no_pairs Is es none h =
      subst (AreEntriesOf Is) (sym h)
      (entries_finished Is (λ x. ⊥) no_entries (λ n e is. none n e is) (collected_none name_of name_cmp nat_list_cmp_total exact_bytes (λ (x : Pair). Is x.0 x.1) (λ x. ⊥) (λ x is met. met)))

  locals_at : (o : Option Data) (es : Entries) → get (codes "locals") tree ≡ o → Takes (BuildsFrom AddsLocal) o no_entries es → AreEntriesOf (IsLocalOf tree) es
  locals_at None es is h = no_pairs (IsLocalOf tree) es (λ n e here. no_section tree (codes "locals") (n ∷ []) here.1.0 is here.1.1) h
  locals_at (Some null) es is h = absurd h
  locals_at (Some (boolean x)) es is h = absurd h
  locals_at (Some (number x)) es is h = absurd h
  locals_at (Some (string x)) es is h = absurd h
  locals_at (Some (array x)) es is h = absurd h
  locals_at (Some (object ms)) es is h = locals_built ms is es h

  -- ---- outputs

  module _ (ms : Members) (there : get (codes "output") tree ≡ Some (object ms)) where
    outputs_sorted : AreOrderlyMembers IsAny ms
    outputs_sorted = section_sorted tree (codes "output") (object ms) sorted there

    output_step : (k : List ℕ) (d : Data) (a b : Entries) (Met : List ℕ → Type 0) → get_member k ms ≡ Some d → AddsOutput k d a b
        → CollectedEntries (IsOutputOf tree) Met (pairs_of a) → CollectedEntries (IsOutputOf tree) (λ x. (x ≡ k) ⊎ Met x) (pairs_of b)
    output_step k d a b Met is adds c =
        let value = output_built d adds.1.0 (sorted_at k ms d outputs_sorted is) adds.1.1 in
        let path : at_path (codes "output" ∷ k ∷ codes "value" ∷ []) tree ≡ Some value.0 =
        path_on (codes "output") (k ∷ codes "value" ∷ []) tree (object ms) value.0 there (path_on k (codes "value" ∷ []) (object ms) d value.0 is (path_on (codes "value") [] d value.0 value.0 value.1 refl)) in
        let put_in : pairs_of b ≡ keyed.put name_of name_cmp nat_list_cmp_total exact_bytes (k, adds.1.0) (pairs_of a) = ap pairs_of (sym adds.1.2) ∙ pairs-put k adds.1.0 a in
        subst (λ (ps : List Pair). CollectedEntries (IsOutputOf tree) (λ x. (x ≡ k) ⊎ Met x) ps) (sym put_in)
        (collected_put name_of name_cmp nat_list_cmp_total exact_bytes (λ (x : Pair). IsOutputOf tree x.0 x.1) (one_pair (IsOutputOf tree) (one_output tree)) Met (pairs_of a) (k, adds.1.0) (value.0, path, value.2) c)

    outputs_built : (es : Entries) → Builds AddsOutput ms no_entries es → AreEntriesOf (IsOutputOf tree) es
    outputs_built es builds =
        entries_finished (IsOutputOf tree) _ es
        (λ n e is. let found = in_section tree (codes "output") n (codes "value" ∷ []) ms is.0 there is.1 in
        inl (reached name_of name_cmp (λ (x : Pair). IsOutputOf tree x.0 x.1) AddsOutput pairs_of (λ k x. x ≡ k) (λ k. get_member k ms) output_step n n ms refl (named n ms found.0 found.1)))
        (collects name_of name_cmp (λ (x : Pair). IsOutputOf tree x.0 x.1) AddsOutput pairs_of (λ k x. x ≡ k) (λ k. get_member k ms) output_step ms no_entries es (λ x. ⊥) (all_found ms outputs_sorted) builds
        (collected_none name_of name_cmp nat_list_cmp_total exact_bytes (λ (x : Pair). IsOutputOf tree x.0 x.1) (λ x. ⊥) (λ x is met. met)))

  outputs_at : (o : Option Data) (es : Entries) → get (codes "output") tree ≡ o → Takes (BuildsFrom AddsOutput) o no_entries es → AreEntriesOf (IsOutputOf tree) es
  outputs_at None es is h = no_pairs (IsOutputOf tree) es (λ n e here. no_section tree (codes "output") (n ∷ codes "value" ∷ []) here.0 is here.1) h
  outputs_at (Some null) es is h = absurd h
  outputs_at (Some (boolean x)) es is h = absurd h
  outputs_at (Some (number x)) es is h = absurd h
  outputs_at (Some (string x)) es is h = absurd h
  outputs_at (Some (array x)) es is h = absurd h
  outputs_at (Some (object ms)) es is h = outputs_built ms is es h

  -- ---- blocks

  abbrev BlocksSoFar : (ResourceAddrView → Type 0) → Blocks → Type 0
  BlocksSoFar Met bs = Collected {A = BlockView} {K = ResourceAddrView} addr_at addr_cmp (IsBlockOf tree) Met bs

  abbrev address : List ℕ → List ℕ → ResourceAddrView
  address type_name name = record { type_name = type_name; name = name }

  module _ (ms : Members) (there : get (codes "resource") tree ≡ Some (object ms)) where
    types_sorted : AreOrderlyMembers IsAny ms
    types_sorted = section_sorted tree (codes "resource") (object ms) sorted there

    module _ (t : List ℕ) (ns : Members) (of_type : get_member t ms ≡ Some (object ns)) where
      names_sorted : AreOrderlyMembers IsAny ns
      names_sorted = sorted_at t ms (object ns) types_sorted of_type

      block_step : (k : List ℕ) (d : Data) (a b : Blocks) (Met : ResourceAddrView → Type 0) → get_member k ns ≡ Some d → AddsResource t k d a b → BlocksSoFar Met a → BlocksSoFar (λ x. (x ≡ address t k) ⊎ Met x) b
      block_step k d a b Met is adds c =
          let added = block_with (address t k) adds.1.0 in
          let path : at_path (codes "resource" ∷ t ∷ k ∷ []) tree ≡ Some d =
          path_on (codes "resource") (t ∷ k ∷ []) tree (object ms) d there (path_on t (k ∷ []) (object ms) (object ns) d of_type (path_on k [] (object ns) d d is refl)) in
          let put_in : b ≡ keyed.put addr_at addr_cmp addr_total addr_exact added a = sym adds.1.2 ∙ block-put added a in
          subst (λ (bs : Blocks). BlocksSoFar (λ x. (x ≡ address t k) ⊎ Met x) bs) (sym put_in)
          (collected_put addr_at addr_cmp addr_total addr_exact (IsBlockOf tree) (one_block tree checks) Met a added (d, path, block_built d (address t k) adds.1.0 (sorted_at k ns d names_sorted is) adds.1.1) c)

      block_named : (b : BlockView) → IsBlockOf tree b → b.addr.type_name ≡ t → IsNamed b.addr.name ns
      block_named b h same =
          let found = in_section tree (codes "resource") b.addr.type_name (b.addr.name ∷ []) ms h.0 there h.1 in
          let here : get_member t ms ≡ Some found.0 = subst (λ (n : List ℕ). get_member n ms ≡ Some found.0) same found.1 in
          let both : ◌≡◌ {A = Option Data} (Some found.0) (Some (object ns)) = sym here ∙ of_type in
          let names : found.0 ≡ object ns = (cc) in
          let body = path_first b.addr.name [] (object ns) h.0 (subst (λ d. at_path (b.addr.name ∷ []) d ≡ Some h.0) names found.2) in
          named b.addr.name ns body.0 body.1

      names_built : (a b : Blocks) (Met : ResourceAddrView → Type 0) → Builds (AddsResource t) ns a b → BlocksSoFar Met a → BlocksSoFar (λ x. (x.type_name ≡ t) ⊎ Met x) b
      names_built a b Met builds c =
          let collected = collects addr_at addr_cmp (IsBlockOf tree) (AddsResource t) (λ (x : Blocks). x) (λ k x. x ≡ address t k) (λ k. get_member k ns) block_step ns a b Met (all_found ns names_sorted) builds c in
          collected_as addr_at addr_cmp addr_total addr_exact (IsBlockOf tree) _ (λ x. (x.type_name ≡ t) ⊎ Met x) b
          (λ x is met. elim met [
            | inl same ↦ inl (reached addr_at addr_cmp (IsBlockOf tree) (AddsResource t) (λ (x : Blocks). x) (λ k x. x ≡ address t k) (λ k. get_member k ns) block_step x.addr.name x.addr ns (ap (λ (n : List ℕ). address n x.addr.name) same) (block_named x is same))
            | inr met ↦ inr met
          ]) collected

    type_step : (t : List ℕ) (d : Data) (a b : Blocks) (Met : ResourceAddrView → Type 0) → get_member t ms ≡ Some d → AddsType t d a b → BlocksSoFar Met a → BlocksSoFar (λ x. (x.type_name ≡ t) ⊎ Met x) b
    type_step t null a b Met is adds c = absurd adds.1
    type_step t (boolean x) a b Met is adds c = absurd adds.1
    type_step t (number x) a b Met is adds c = absurd adds.1
    type_step t (string x) a b Met is adds c = absurd adds.1
    type_step t (array x) a b Met is adds c = absurd adds.1
    type_step t (object ns) a b Met is adds c = names_built t ns is a b Met adds.1 c

    blocks_built : (bs : Blocks) → Builds AddsType ms [] bs → IsListOf address_cmp (IsBlockOf tree) bs
    blocks_built bs builds =
        finished addr_at addr_cmp addr_total addr_exact (IsBlockOf tree) _ bs
        (λ b is. let found = in_section tree (codes "resource") b.addr.type_name (b.addr.name ∷ []) ms is.0 there is.1 in
        inl (reached addr_at addr_cmp (IsBlockOf tree) AddsType (λ (x : Blocks). x) (λ t x. x.type_name ≡ t) (λ t. get_member t ms) type_step b.addr.type_name b.addr ms refl (named b.addr.type_name ms found.0 found.1)))
        (collects addr_at addr_cmp (IsBlockOf tree) AddsType (λ (x : Blocks). x) (λ t x. x.type_name ≡ t) (λ t. get_member t ms) type_step ms [] bs (λ x. ⊥) (all_found ms types_sorted) builds
        (collected_none addr_at addr_cmp addr_total addr_exact (IsBlockOf tree) (λ x. ⊥) (λ x is met. met)))

  blocks_at : (o : Option Data) (bs : Blocks) → get (codes "resource") tree ≡ o → Takes (BuildsFrom AddsType) o [] bs → IsListOf address_cmp (IsBlockOf tree) bs
  blocks_at None bs is h =
      subst (IsListOf address_cmp (IsBlockOf tree)) (sym h)
      (finished addr_at addr_cmp addr_total addr_exact (IsBlockOf tree) (λ x. ⊥) [] (λ b here. no_section tree (codes "resource") (b.addr.type_name ∷ b.addr.name ∷ []) here.0 is here.1)
      (collected_none addr_at addr_cmp addr_total addr_exact (IsBlockOf tree) (λ x. ⊥) (λ x is met. met)))
  blocks_at (Some null) bs is h = absurd h
  blocks_at (Some (boolean x)) bs is h = absurd h
  blocks_at (Some (number x)) bs is h = absurd h
  blocks_at (Some (string x)) bs is h = absurd h
  blocks_at (Some (array x)) bs is h = absurd h
  blocks_at (Some (object ms)) bs is h = blocks_built ms is bs h

-- ---- the whole file

variables_stay : (p : Section) (d : Data) (a b : ConfigView) → (p ≡ sections.Variables → ⊥) → AddsOfSection p d a b → b.variables ≡ a.variables
variables_stay sections.Comment d a b apart h = ap (λ (c : ConfigView). c.variables) (sym h)
variables_stay sections.Variables d a b apart h = absurd (apart refl)
variables_stay sections.Locals d a b apart h = ap (λ (c : ConfigView). c.variables) (sym h.2)
variables_stay sections.Outputs d a b apart h = ap (λ (c : ConfigView). c.variables) (sym h.2)
variables_stay sections.Resources d a b apart h = ap (λ (c : ConfigView). c.variables) (sym h.2)
variables_stay sections.Other d a b apart h = absurd h

locals_stay : (p : Section) (d : Data) (a b : ConfigView) → (p ≡ sections.Locals → ⊥) → AddsOfSection p d a b → b.locals ≡ a.locals
locals_stay sections.Comment d a b apart h = ap (λ (c : ConfigView). c.locals) (sym h)
locals_stay sections.Variables d a b apart h = ap (λ (c : ConfigView). c.locals) (sym h.2)
locals_stay sections.Locals d a b apart h = absurd (apart refl)
locals_stay sections.Outputs d a b apart h = ap (λ (c : ConfigView). c.locals) (sym h.2)
locals_stay sections.Resources d a b apart h = ap (λ (c : ConfigView). c.locals) (sym h.2)
locals_stay sections.Other d a b apart h = absurd h

outputs_stay : (p : Section) (d : Data) (a b : ConfigView) → (p ≡ sections.Outputs → ⊥) → AddsOfSection p d a b → b.outputs ≡ a.outputs
outputs_stay sections.Comment d a b apart h = ap (λ (c : ConfigView). c.outputs) (sym h)
outputs_stay sections.Variables d a b apart h = ap (λ (c : ConfigView). c.outputs) (sym h.2)
outputs_stay sections.Locals d a b apart h = ap (λ (c : ConfigView). c.outputs) (sym h.2)
outputs_stay sections.Outputs d a b apart h = absurd (apart refl)
outputs_stay sections.Resources d a b apart h = ap (λ (c : ConfigView). c.outputs) (sym h.2)
outputs_stay sections.Other d a b apart h = absurd h

blocks_stay : (p : Section) (d : Data) (a b : ConfigView) → (p ≡ sections.Resources → ⊥) → AddsOfSection p d a b → b.blocks ≡ a.blocks
blocks_stay sections.Comment d a b apart h = ap (λ (c : ConfigView). c.blocks) (sym h)
blocks_stay sections.Variables d a b apart h = ap (λ (c : ConfigView). c.blocks) (sym h.2)
blocks_stay sections.Locals d a b apart h = ap (λ (c : ConfigView). c.blocks) (sym h.2)
blocks_stay sections.Outputs d a b apart h = ap (λ (c : ConfigView). c.blocks) (sym h.2)
blocks_stay sections.Resources d a b apart h = absurd (apart refl)
blocks_stay sections.Other d a b apart h = absurd h

file_built : (ms : Members) (config : ConfigView) → AreOrderlyMembers IsAny ms → AreMet (configuration_checks (object ms)) → Builds AddsSection ms plain_config config → IsConfiguration (object ms) config
file_built ms config sorted checks builds =
    let variables = takes AddsSection (λ (c : ConfigView). c.variables) (codes "variable") (BuildsFrom AddsVariable)
    (λ d a b h. subst (λ (c : ConfigView). BuildsFrom AddsVariable d a.variables c.variables) h.2 h.1)
    (λ k d a b apart h. variables_stay (section_of k) d a b (λ is. apart (only_variable k is)) h) ms plain_config config sorted builds in
    let locals = takes AddsSection (λ (c : ConfigView). c.locals) (codes "locals") (BuildsFrom AddsLocal)
    (λ d a b h. subst (λ (c : ConfigView). BuildsFrom AddsLocal d a.locals c.locals) h.2 h.1)
    (λ k d a b apart h. locals_stay (section_of k) d a b (λ is. apart (only_locals k is)) h) ms plain_config config sorted builds in
    let outputs = takes AddsSection (λ (c : ConfigView). c.outputs) (codes "output") (BuildsFrom AddsOutput)
    (λ d a b h. subst (λ (c : ConfigView). BuildsFrom AddsOutput d a.outputs c.outputs) h.2 h.1)
    (λ k d a b apart h. outputs_stay (section_of k) d a b (λ is. apart (only_output k is)) h) ms plain_config config sorted builds in
    let blocks = takes AddsSection (λ (c : ConfigView). c.blocks) (codes "resource") (BuildsFrom AddsType)
    (λ d a b h. subst (λ (c : ConfigView). BuildsFrom AddsType d a.blocks c.blocks) h.2 h.1)
    (λ k d a b apart h. blocks_stay (section_of k) d a b (λ is. apart (only_resource k is)) h) ms plain_config config sorted builds in
    record {
      checks = checks;
      variables = variables_at (object ms) sorted checks (get_member (codes "variable") ms) config.variables refl variables;
      locals = locals_at (object ms) sorted checks (get_member (codes "locals") ms) config.locals refl locals;
      outputs = outputs_at (object ms) sorted checks (get_member (codes "output") ms) config.outputs refl outputs;
      blocks = blocks_at (object ms) sorted checks (get_member (codes "resource") ms) config.blocks refl blocks;
    }

-- what is built from the tree of a text is what the tree reads as
pub configuration_built : (tree : Data) (config : ConfigView) → IsSorted tree → BuildsConfiguration tree config → IsConfiguration tree config
configuration_built null config sorted builds = absurd builds
configuration_built (boolean x) config sorted builds = absurd builds
configuration_built (number x) config sorted builds = absurd builds
configuration_built (string x) config sorted builds = absurd builds
configuration_built (array x) config sorted builds = absurd builds
configuration_built (object ms) config sorted builds = file_built ms config sorted (configuration_met (object ms) config builds) builds

pub text_built : (bytes : List ℕ) (tree : Data) (config : ConfigView) → IsTree bytes tree → BuildsConfiguration tree config → IsConfiguration tree config
text_built bytes tree config is builds = configuration_built tree config (read_is_sorted bytes tree is.1) builds
