-- An apply with providers outside the program, one turn after another.
use Rattle.std.proofs.Common.{◌≡◌, ◌∙◌, ◌<◌, ◌⊎◌, ◌∷◌, [], ℕ, zero, suc, Bool, true, false, List, Option, Some, None, ap, arith, inl, inr, length, map, refl, replicate, subst, sym, take}
use Rattle.std.proofs.lemmas.List.{length-map, take-map}
use Rattle.std.proofs.lemmas.List.Elements.{All-head, All-tail}
use Rattle.std.specs.List.{All, Contains}
use Rattle.std.specs.Prelude.{is_some}
use Rattle.tf_plan_data.specs.Plan.{PlanView}
use Rattle.tf_provider_log.specs.LogEntry.{LogEntryView, log_entry_of}
use Rattle.tf_provider_protocol.specs.Meaning.{Asked, Meaning, asked}
use Rattle.tf_provider_protocol.specs.declared.request.Request.{Request}
use Rattle.tf_recovery.specs.Calls.{AreDue, IsCarriedOut}
use Rattle.tf_session.proofs.Kept.{kept_same, kept_then}
use Rattle.tf_session.proofs.Served.{made_then}
use Rattle.tf_session.specs.Calls.{AreKept, Continues, IsMade, calls_taken_up}
use Rattle.tf_session.specs.declared.calls.Calls.{Calls}
use Rattle.tf_session.specs.declared.session.Session.{Session}
use Rattle.tf_walk_requests.proofs.Later.{due_later, is_pending_at_first, reached_at_first, reached_later}
use Rattle.tf_walk_requests.specs.Progress.{AreReached, AreReturned, IsRound}
use Rattle.tf_walk_requests.specs.Stages.{StageView, pending, requested, stage_in}

-- what the log of a session says
abbrev entries_in : Session → List LogEntryView
entries_in s = map log_entry_of s.calls.entries.items

-- After some turns: no call is forgotten, each that was taken up is due, the stages are reached, and each request was made.
pub record IsTurn (ms : List Meaning) (plan : PlanView) (first s : Session) (stages : List StageView) : Type 0 where
  pub kept : AreKept first.calls s.calls
  pub due : AreDue ms plan first s
  pub reached : AreReached ms plan (entries_in s) stages
  pub made : (n : ℕ) (q : Asked) → stage_in stages n ≡ requested q → IsMade q s

-- what holds of each of some requests holds of one that is among them
holds_of : (P : Asked → Type 0) (rs : List Request) (q : Asked) → All (λ r. P (asked r)) rs → Contains (map asked rs) q → P q
holds_of P [] q all (k, within, at) = absurd (omega (arith, within))
holds_of P (r ∷ rs) q all (zero, within, at) = subst P at (All-head (λ r. P (asked r)) r rs all)
holds_of P (r ∷ rs) q all (suc k, within, at) = holds_of P rs q (All-tail (λ r. P (asked r)) r rs all) (k, omega (arith, within), at)

-- a log begins with what it said before
begins : (c d : Calls) → AreKept c d → take (length (map log_entry_of c.entries.items)) (map log_entry_of d.entries.items) ≡ map log_entry_of c.entries.items
begins c d kept =
    ap (λ n. take n (map log_entry_of d.entries.items)) (length-map c.entries.items log_entry_of)
    ∙ take-map log_entry_of (length c.entries.items) d.entries.items
    ∙ ap (map log_entry_of) kept.ended

pub first_turn : (ms : List Meaning) (plan : PlanView) (s : Session) (count : ℕ) (stages : List StageView) → stages ≡ replicate count pending → count ≡ length plan.actions → IsTurn ms plan s s stages
first_turn ms plan s count stages are long = record {
  kept = kept_same s.calls s.calls refl refl;
  due = λ q h. inl h;
  reached = reached_at_first ms plan (entries_in s) count stages are long;
  made = λ n q h. absurd (is_pending_at_first count n q (subst (λ ss. stage_in ss n ≡ requested q) are h));
}

pub next_turn : (ms : List Meaning) (plan : PlanView) (first s t : Session) (old new : List StageView) (rs : List Request) → IsTurn ms plan first s old → IsRound ms plan (entries_in s) old new (map asked rs)
    → Continues (map asked rs) s t → All (λ r. IsMade (asked r) t) rs → IsTurn ms plan first t new
next_turn ms plan first s t old new rs turn round on made =
    let more = begins s.calls t.calls on.calls in
    record {
      kept = kept_then first.calls s.calls t.calls turn.kept on.calls;
      due = λ q h. elim (on.only.each q h) [
        | inl before ↦ (elim (turn.due q before) [ inl old ↦ inl old | inr is ↦ inr (due_later ms plan (entries_in s) (entries_in t) q more is) ])
        | inr there ↦ inr (due_later ms plan (entries_in s) (entries_in t) q more (round.due q there))
      ];
      reached = reached_later ms plan (entries_in s) (entries_in t) new more round.reached;
      made = λ n q is. elim (round.returned n q is) [ inl before ↦ made_then (map asked rs) s t q on (turn.made n q before) | inr there ↦ holds_of (λ q. IsMade q t) rs q made there ];
    }

-- a request of the last turn was made before
before_last : (old new : List StageView) (rs : List Request) (n : ℕ) (q : Asked) → AreReturned old new (map asked rs) → rs ≡ [] → stage_in new n ≡ requested q → stage_in old n ≡ requested q
before_last old new rs n q returned none is =
    elim (returned n q is) [
      | inl before ↦ before
      | inr there ↦ (let nowhere = (subst (λ xs. Contains (map asked xs) q) none there).1 in absurd (omega (arith, nowhere)))
    ]

-- a turn that returns no request is the last one
pub last_turn : (ms : List Meaning) (plan : PlanView) (first s : Session) (old new : List StageView) (rs : List Request) → IsTurn ms plan first s old → IsRound ms plan (entries_in s) old new (map asked rs) → rs ≡ [] → IsCarriedOut ms plan s
last_turn ms plan first s old new rs turn round none = record {
  stages = new;
  reached = round.reached;
  none_left = round.none_left;
  made = λ n q is. turn.made n q (before_last old new rs n q round.returned none is);
  no_reply = λ n q is. sym (round.noted n q (before_last old new rs n q round.returned none is)) ∙ is;
}

pub none_from : (o : Option ℕ) → is_some o ≡ false → o ≡ None
none_from None h = refl
none_from (Some n) h = absurd (cc)
