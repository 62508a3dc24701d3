use Rattle.std.proofs.Common.{◌≡◌, ◌∙◌, true, length, sym, ap}
use Rattle.std.specs.Prelude.{nat_eq}
use Rattle.std.proofs.lemmas.Bool.{true≢false}
use Rattle.tf_walk_report.specs.Told.{verdict_told}
use Rattle.tf_walk_report.proofs.Counts.{told-below, same_told, same_count, nat_eq-is, nat_eq-are}
use Rattle.tf_walk_report.proofs.TellingWhatWasCalled.{as-told, told-all, told-many}
use Rattle.tf_walk_report.proofs.comparing.are_calls_told.Goals as goal

pub returns-then-not-all-clause-torn : goal.returns-then-not-all-clause-torn
returns-then-not-all-clause-torn c = λ _ is.
    let r = c.args.report.now in
    let told = verdict_told r.outcomes.items r.excused.items in
    c.are_told-all.ensures.missed c.if-not-all.true
    (same_told c.as_slice-outcomes.ensures.value c.as_slice-excused.ensures.value c.entries-entries.ensures.entries (told-all told r.journal.entries is.in_order.once is.verdicts))

pub returns-clause-told : goal.returns-clause-told
returns-clause-told c = λ same.
    let r = c.args.report.now in
    let told = verdict_told r.outcomes.items r.excused.items in
    let allowed = c.entries-entries.ensures.allowed in
    let all = same_told (sym c.as_slice-outcomes.ensures.value) (sym c.as_slice-excused.ensures.value) (sym c.entries-entries.ensures.entries) (c.are_told-all.ensures.told c.if-not-all.false) in
    let many = same_count c.as_slice-outcomes.ensures.value c.as_slice-excused.ensures.value c.count_told.result c.count_told.ensures in
    record {
      in_order = allowed;
      verdicts = as-told told (length r.outcomes.items) r.journal.entries allowed.once (told-below r.outcomes.items r.excused.items) all
          (ap length (sym c.entries-entries.ensures.entries) ∙ (nat_eq-is (length c.entries-entries.result.now) c.count_told.result same ∙ many));
    }

pub returns-clause-torn : goal.returns-clause-torn
returns-clause-torn c = λ differs is.
    let r = c.args.report.now in
    let told = verdict_told r.outcomes.items r.excused.items in
    let many = same_count c.as_slice-outcomes.ensures.value c.as_slice-excused.ensures.value c.count_told.result c.count_told.ensures in
    let as_many = told-many told (length r.outcomes.items) r.journal.entries is.in_order.once (told-below r.outcomes.items r.excused.items) is.verdicts in
    let same : nat_eq (length c.entries-entries.result.now) c.count_told.result ≡ true =
    nat_eq-are (length c.entries-entries.result.now) c.count_told.result (ap length c.entries-entries.ensures.entries ∙ (as_many ∙ sym many)) in
    absurd (true≢false (sym same ∙ differs))
