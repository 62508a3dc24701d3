-- Resources at rest are so whatever their records' flags are.
use Rattle.std.proofs.Common.{◌≡◌, ◌∙◌, ℕ, true, List, [], ◌∷◌, Some, map, refl, sym, ap, subst}
use Rattle.std.specs.List.{AllByRecursion}
use Rattle.tf_config_address.specs.ObjectId.{InstanceKeyView}
use Rattle.tf_config_data.specs.Config.{BlockView}
use Rattle.tf_config_data.specs.Names.{NameView}
use Rattle.tf_plan_decision.specs.Stage.{records_at}
use Rattle.tf_plan_decision.specs.Decision.{change}
use Rattle.tf_expand_keys.specs.InstanceKeys.{InstanceKeysView, instance_keys}
use Rattle.tf_expr_eval.specs.Environment.{Environment}
use Rattle.tf_plan_order.specs.Members.{is_among, records_of}
use Rattle.tf_provider_protocol.specs.Meaning.{Meaning}
use Rattle.tf_plan_order.specs.ResourceIndex.{has_block}
use Rattle.tf_state_data.specs.Record.{RecordView}
use Rattle.tf_state_data.specs.Resource.{ResourceView}
use Rattle.tf_value_data.specs.Tree.{Tree, Entries}
use Rattle.tf_laws.proofs.Flagless.{all_back, all_to, instance_flagless, records_flagless}
use Rattle.tf_laws.specs.Rest.{AreAtRest, IsResting}
use Rattle.tf_laws.specs.Twice.{record_without_flag, resource_without_flags}

-- one record is one whatever its flag is
one_flagless : (others : List RecordView) (only : RecordView) → map record_without_flag others ≡ record_without_flag only ∷ [] → (o : RecordView) × (others ≡ o ∷ []) × (record_without_flag o ≡ record_without_flag only)
one_flagless [] only e = absurd (cc)
one_flagless (o ∷ []) only e = let same : record_without_flag o ≡ record_without_flag only = (cc) in (o, refl, same)
one_flagless (o ∷ p ∷ ps) only e = absurd (cc)

module _ (ms : List Meaning) (block : BlockView) (key : InstanceKeyView) (env : Environment) (object : Tree) (records others : List RecordView) (rest : IsResting ms block key env object records)
    (same : map record_without_flag others ≡ map record_without_flag records) where
  pub resting_still : IsResting ms block key env object others
  resting_still =
      let o = one_flagless others rest.only (same ∙ ap (map record_without_flag) rest.alone) in
      record {
        only = o.0;
        alone = o.1;
        current = ap (λ (r : RecordView). r.id.deposed) o.2 ∙ rest.current;
        stands = ap (λ (r : RecordView). r.attributes) o.2 ∙ rest.stands;
        rests = λ schema made has makes.
            ap (λ (r : RecordView). change schema block.lifecycle.ignore_changes (Some r) made) o.2 ∙ rest.rests schema made has makes;
      }

module _ (ms : List Meaning) (variables : Entries) (names : List NameView) (shapes : ℕ → InstanceKeysView) (objects : ℕ → InstanceKeyView → Tree) (rs qs : List ResourceView)
    (still : AreAtRest ms variables names shapes objects rs) (same : map resource_without_flags qs ≡ map resource_without_flags rs) where
  records_alike : (block : BlockView) → map record_without_flag (records_at block.addr qs) ≡ map record_without_flag (records_at block.addr rs)
  records_alike block = sym (records_flagless block.addr qs) ∙ ap (records_at block.addr) same ∙ records_flagless block.addr rs

  instance_alike : (block : BlockView) (key : InstanceKeyView) → map record_without_flag (records_of key (records_at block.addr qs)) ≡ map record_without_flag (records_of key (records_at block.addr rs))
  instance_alike block key = sym (instance_flagless key (records_at block.addr qs)) ∙ ap (records_of key) (records_alike block) ∙ instance_flagless key (records_at block.addr rs)

  pub rest_still : AreAtRest ms variables names shapes objects qs
  rest_still = record {
    blocks =
        all_back resource_without_flags (λ r. has_block names r.addr ≡ true) qs (λ r h. h)
        (subst (AllByRecursion (λ (r : ResourceView). has_block names r.addr ≡ true)) (sym same) (all_to resource_without_flags (λ r. has_block names r.addr ≡ true) rs (λ r h. h) still.blocks));
    declared = λ n block meant.
        all_back record_without_flag (λ x. is_among (instance_keys (shapes n)) x.id.key ≡ true) (records_at block.addr qs) (λ x h. h)
        (subst (AllByRecursion (λ (x : RecordView). is_among (instance_keys (shapes n)) x.id.key ≡ true)) (sym (records_alike block))
        (all_to record_without_flag (λ x. is_among (instance_keys (shapes n)) x.id.key ≡ true) (records_at block.addr rs) (λ x h. h) (still.declared n block meant)));
    rest = λ resolved_names solves n block key meant among.
        resting_still ms block key _ (objects n key) (records_of key (records_at block.addr rs)) (records_of key (records_at block.addr qs)) (still.rest resolved_names solves n block key meant among) (instance_alike block key);
  }
