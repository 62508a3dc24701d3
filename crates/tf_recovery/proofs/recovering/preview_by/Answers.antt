use Rattle.std.proofs.Common.{◌∙◌, List, ap, inl, inr, map, refl, rules}
use Rattle.std.specs.Prelude.{IfOk}
use Rattle.tf_cli_program.specs.Recovery.{ContinuesFrom}
use Rattle.tf_provider_local.specs.Answers.{file_meaning}
use Rattle.tf_provider_log.specs.LogEntry.{log_entry_of}
use Rattle.tf_provider_log.specs.Replayed.{replayed}
use Rattle.tf_provider_protocol.specs.Meaning.{Meaning}
use Rattle.tf_provider_remote.specs.Types.{remote_meaning, type_of}
use Rattle.tf_provider_sim.specs.Table.{sim_meaning}
use Rattle.tf_recovery.proofs.Replaying.{by_three}
use Rattle.tf_session.specs.Outside.{outside_replayed}
use denote.Param.Object.{read_made}
use Rattle.tf_recovery.proofs.recovering.preview_by.OwnLists as lists
use Rattle.tf_recovery.proofs.recovering.preview_by.Goals as goal

pub returns-clause-recovered : goal.returns-clause-recovered
returns-clause-recovered g c =
    let remote = read_made lists.own-1 _ (inl tt) refl Meaning (λ j v. j.1.meaning v) c.into_dyn_box.result.vtable c.into_dyn_box.result.value c.in_ok-new.field-0.value c.into_dyn_box.ensures.1
    ∙ ap (λ r. replayed (map log_entry_of r.entries.items) (remote_meaning (map type_of r.provider.types.value.items))) c.in_ok-new.ensures.ok in
    let sim = read_made lists.own-1 _ (inr (inl tt)) refl Meaning (λ j v. j.1.meaning v) c.into_dyn_box-in_ok-new-2.result.vtable c.into_dyn_box-in_ok-new-2.result.value c.in_ok-new-2.field-0.value c.into_dyn_box-in_ok-new-2.ensures.1
    ∙ ap (λ r. replayed (map log_entry_of r.entries.items) sim_meaning) c.in_ok-new-2.ensures.ok in
    let files = read_made lists.own-1 _ (inr (inr (inl tt))) refl Meaning (λ j v. j.1.meaning v) c.into_dyn_box-in_ok-new-3.result.vtable c.into_dyn_box-in_ok-new-3.result.value c.in_ok-new-3.field-0.value c.into_dyn_box-in_ok-new-3.ensures.1
    ∙ ap (λ r. replayed (map log_entry_of r.entries.items) file_meaning) c.in_ok-new-3.ensures.ok in
    by_three _ c.as_slice.result.now (λ (ms : List Meaning). IfOk c.preview_recovery.result (λ _. ContinuesFrom ms c.args.unfinished.now c.args.given.now c.preview_recovery.new.given)) _ _ _ (outside_replayed (remote_meaning (map type_of c.args.types.now.types.value.items)) (map log_entry_of c.args.entries.items)) c.into_dyn_box.result c.into_dyn_box-in_ok-new-2.result c.into_dyn_box-in_ok-new-3.result
    c.preview_recovery.ensures.from c.in_ok-remote.ensures (search rules) remote sim files
