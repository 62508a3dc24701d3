use Rattle.std.proofs.Common.{◌∙◌, List, ap, inl, inr, map, option_map, refl, rules}
use Rattle.tf_provider_local.specs.Answers.{file_meaning}
use Rattle.tf_provider_log.specs.LogEntry.{log_entry_of}
use Rattle.tf_provider_log.specs.Replayed.{replayed}
use Rattle.tf_provider_protocol.specs.Meaning.{Meaning}
use Rattle.tf_provider_remote.specs.Types.{remote_meaning, type_of}
use Rattle.tf_provider_sim.specs.Table.{sim_meaning}
use Rattle.tf_recovery.proofs.Outcomes.{is_outcome}
use Rattle.tf_recovery.proofs.Replaying.{by_three}
use Rattle.tf_recovery.specs.Outcome.{IsOutcome}
use Rattle.tf_session.specs.Outside.{outside_replayed}
use denote.Param.Object.{read_made}
use Rattle.tf_recovery.proofs.walking.apply_over_log.OwnLists as lists
use Rattle.tf_recovery.proofs.walking.apply_over_log.Goals as goal

pub returns : goal.returns
returns c =
    let remote = read_made lists.own-1 _ (inl tt) refl Meaning (λ j v. j.1.meaning v) c.into_dyn_box.result.vtable c.into_dyn_box.result.value c.in_ok-new.field-0.value c.into_dyn_box.ensures.1
    ∙ ap (λ a. replayed (map log_entry_of a.entries.items) (remote_meaning (map type_of a.provider.types.value.items))) c.in_ok-new.ensures.ok in
    let sim = read_made lists.own-1 _ (inr (inl tt)) refl Meaning (λ j v. j.1.meaning v) c.into_dyn_box-in_ok-new-2.result.vtable c.into_dyn_box-in_ok-new-2.result.value c.in_ok-new-2.field-0.value c.into_dyn_box-in_ok-new-2.ensures.1
    ∙ ap (λ a. replayed (map log_entry_of a.entries.items) sim_meaning) c.in_ok-new-2.ensures.ok in
    let files = read_made lists.own-1 _ (inr (inr (inl tt))) refl Meaning (λ j v. j.1.meaning v) c.into_dyn_box-in_ok-new-3.result.vtable c.into_dyn_box-in_ok-new-3.result.value c.in_ok-new-3.field-0.value c.into_dyn_box-in_ok-new-3.ensures.1
    ∙ ap (λ a. replayed (map log_entry_of a.entries.items) file_meaning) c.in_ok-new-3.ensures.ok in
    by_three _ c.as_slice-2.result.now (λ (ms : List Meaning). IsOutcome ms c.args.given.now c.apply_one-answer.result) _ _ _ (outside_replayed (remote_meaning (map type_of c.args.types.now.types.value.items)) (map log_entry_of c.args.entries.now)) c.into_dyn_box.result c.into_dyn_box-in_ok-new-2.result c.into_dyn_box-in_ok-new-3.result
    (is_outcome _ c.args.given.now c.as_slice.result.now (option_map (λ s. s.now) c.vars_bytes.result) (option_map (λ s. s.now) c.state_bytes.result) c.as_str.result.now c.apply_one-answer.result
    c.as_slice.ensures.value c.vars_bytes.ensures c.state_bytes.ensures c.as_str.ensures.value c.apply_one-answer.ensures.applied c.apply_one-answer.ensures.refused)
    (c.in_ok-remote.ensures ∙ ap (outside_replayed (remote_meaning (map type_of c.args.types.now.types.value.items))) c.in_ok-copied.ensures) (search rules) remote sim files
