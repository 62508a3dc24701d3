-- Journals that say the same of each action have the same entries.
use Rattle.std.proofs.Common.{◌≡◌, ◌≢◌, ◌∙◌, ◌<◌, ◌==◌, ℕ, zero, suc, true, false, List, [], ◌∷◌, length, Some, refl, sym, ap, subst, arith, inl, inr, eq-eqb, ne_eqb}
use Rattle.std.proofs.lemmas.Bool.{cases_eq}
use Rattle.std.specs.List.{AllByRecursion}
use Rattle.std.specs.Prelude.{Contains, slice_get, slice_index}
use Rattle.tf_plan_data.specs.Action.{ActionView}
use Rattle.tf_walk_action.specs.Journal.{IsOfAction, entered_verdict, op_at, verdict_in}
use Rattle.tf_walk_action.specs.Outcome.{ActionResultView, done_at}
use Rattle.tf_provider_protocol.specs.declared.verdict.Verdict.{Verdict}
use Rattle.tf_provider.specs.Entries.{actions_of}
use Rattle.tf_provider.specs.declared.journal.Entry.{Entry}
use Rattle.tf_laws.proofs.ListsOfEntries.{AreDistinct, all_got, in_cases, in_got, in_head, in_tail, nothing_in, same_elements}
use Rattle.tf_laws.specs.Journals.{JournalsAgree}
use Rattle.tf_laws.specs.One.{ReportsAreOne}

-- no action is entered twice
abbrev pub AreOnce : List ℕ → Type 0
AreOnce actions = (i j : ℕ) → i < j → j < length actions → slice_index actions i ≢ slice_index actions j

later_once : (n : ℕ) (actions : List ℕ) → AreOnce (n ∷ actions) → AreOnce actions
later_once n actions once i j less inside = once (suc i) (suc j) (omega arith) (omega arith)

pub action_of_entry : (entries : List Entry) (k : ℕ) (e : Entry) → slice_get entries k ≡ Some e → (k < length (actions_of entries)) × (slice_index (actions_of entries) k ≡ e.action)
action_of_entry [] k e at = absurd (cc)
action_of_entry (x ∷ entries) zero e at = let same : x ≡ e = (cc) in (omega arith, ap (λ (y : Entry). y.action) same)
action_of_entry (x ∷ entries) (suc k) e at = let rest = action_of_entry entries k e at in (omega (arith, rest.0), rest.1)

-- an entry's action isn't that of one behind it
differs : (x : Entry) (entries : List Entry) → AreOnce (actions_of (x ∷ entries)) → (e : Entry) → Contains entries e → x.action ≢ e.action
differs x entries once e c =
    let at = in_got entries e c in
    let own = action_of_entry entries at.0 e at.1 in
    λ same. once 0 (suc at.0) (omega arith) (omega (arith, own.0)) (same ∙ sym own.1)

pub once-distinct : (entries : List Entry) → AreOnce (actions_of entries) → AreDistinct entries
once-distinct [] once = tt
once-distinct (x ∷ entries) once = ((λ c. differs x entries once x c refl), once-distinct entries (later_once x.action (actions_of entries) once))

-- an action's entry is found by its action
pub verdict_of_entry : (entries : List Entry) → AreOnce (actions_of entries) → (e : Entry) → Contains entries e → verdict_in entries e.action ≡ Some e.verdict
verdict_of_entry [] once e c = absurd (nothing_in e c)
verdict_of_entry (x ∷ entries) once e c = elim (in_cases e x entries c) [
  | inl same ↦
      let here : (x.action == e.action) ≡ true = eq-eqb x.action e.action (ap (λ (y : Entry). y.action) same) in
      rw here (ap (λ (y : Entry). Some y.verdict) same)
  | inr later ↦
      let other : (x.action == e.action) ≡ false = ne_eqb x.action e.action (differs x entries once e later) in
      rw other (verdict_of_entry entries (later_once x.action (actions_of entries) once) e later)
]

-- and what is found is an entry of the action
pub record IsEntered (entries : List Entry) (n : ℕ) (v : Verdict) : Type 0 where
  pub entry : Entry
  pub there : Contains entries entry
  pub action : entry.action ≡ n
  pub verdict : entry.verdict ≡ v

entered_later : (x : Entry) (entries : List Entry) (n : ℕ) (v : Verdict) → IsEntered entries n v → IsEntered (x ∷ entries) n v
entered_later x entries n v is = record { entry = is.entry; there = in_tail is.entry x entries is.there; action = is.action; verdict = is.verdict }

pub entry_of_verdict : (entries : List Entry) (n : ℕ) (v : Verdict) → verdict_in entries n ≡ Some v → IsEntered entries n v
entry_of_verdict [] n v e = absurd (cc)
entry_of_verdict (x ∷ entries) n v e = elim (cases_eq x.action n) [
  | inl same ↦
      let here : (x.action == n) ≡ true = eq-eqb x.action n same in
      let found : Some x.verdict ≡ Some v = rw here at e in
      let verdict : x.verdict ≡ v = (cc) in
      record { entry = x; there = in_head x x entries refl; action = same; verdict = verdict }
  | inr other ↦
      let not : (x.action == n) ≡ false = ne_eqb x.action n other in
      entered_later x entries n v (entry_of_verdict entries n v (rw not at e))
]

op_of_entry : (actions : List ActionView) (entries : List Entry) → AllByRecursion (IsOfAction actions) entries → (e : Entry) → Contains entries e → op_at actions e.action ≡ Some e.op
op_of_entry actions entries all e c = let at = in_got entries e c in all_got (IsOfAction actions) entries all at.0 e at.1

module _ (actions : List ActionView) (entries others : List Entry) (once : AreOnce (actions_of entries)) (ops : AllByRecursion (IsOfAction actions) entries) (other_ops : AllByRecursion (IsOfAction actions) others)
    (same : (n : ℕ) → verdict_in entries n ≡ verdict_in others n) where
  entry_too : (e : Entry) → Contains entries e → Contains others e
  entry_too e c =
      let is = entry_of_verdict others e.action e.verdict (sym (same e.action) ∙ verdict_of_entry entries once e c) in
      let both : Some is.entry.op ≡ Some e.op = sym (op_of_entry actions others other_ops is.entry is.there) ∙ ap (op_at actions) is.action ∙ op_of_entry actions entries ops e c in
      let op : is.entry.op ≡ e.op = (cc) in
      let alike : is.entry ≡ e = λ i. record { action = is.action i; op = op i; verdict = is.verdict i } in
      subst (λ (x : Entry). Contains others x) alike is.there

pub journals_agree : ReportsAreOne → JournalsAgree
journals_agree law ms plan report other founded one two x =
    let done = (law ms plan report other founded one.reported two.reported x).0 in
    let first = one.journal in
    let second = two.journal in
    let same : (n : ℕ) → verdict_in report.journal.entries n ≡ verdict_in other.journal.entries n =
    λ n. first.verdicts n ∙ ap (λ (d : List ActionResultView). entered_verdict (done_at d n)) done ∙ sym (second.verdicts n) in
    record {
      verdicts = same;
      reordered =
          same_elements report.journal.entries other.journal.entries (once-distinct report.journal.entries first.in_order.once) (once-distinct other.journal.entries second.in_order.once)
          (entry_too plan.actions report.journal.entries other.journal.entries first.in_order.once first.ops second.ops same)
          (entry_too plan.actions other.journal.entries report.journal.entries second.in_order.once second.ops first.ops (λ n. sym (same n)));
    }
