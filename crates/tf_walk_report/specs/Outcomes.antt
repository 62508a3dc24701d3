-- How actions ended, and which of them are excused.
use Rattle.std.specs.Prelude.{ℕ, ◌+◌, Bool, true, false, List, [], ◌∷◌, ◌++◌}
use Rattle.tf_plan_data.specs.Action.{ActionView}
use Rattle.tf_walk_action.specs.Excuse.{before_call, during_call, by_stop}
use Rattle.tf_walk_action.specs.Outcome.{ActionResultView, skipped, excused, faulted, called, is_good, op_of}
use Rattle.tf_walk_action.specs.declared.excuse.Excuse.{Excuse}
use Rattle.tf_walk_action.specs.declared.excuse.Excuse.TheVariants.{Before, During, Left}
use Rattle.tf_walk_action.specs.declared.excuse.Outcome.{Outcome}
use Rattle.tf_walk_action.specs.declared.excuse.Outcome.TheVariants as outcome
use Rattle.tf_provider_protocol.specs.declared.request.Op.{Op}
use Rattle.tf_provider_protocol.specs.declared.request.Op.TheVariants.{Create, Update, Destroy}

-- how an action ended
abbrev pub outcome_of : ActionResultView → Outcome
outcome_of skipped = outcome.Skipped
outcome_of (excused moment) = outcome.Excused
outcome_of (faulted why) = outcome.ArgumentFault
outcome_of (called asked answer v) = outcome.Judged v

-- the excuse of the action at an index, if it is excused
abbrev pub excuses_at : ℕ → ActionResultView → List Excuse
excuses_at n (excused before_call) = Before n ∷ []
excuses_at n (excused during_call) = During n ∷ []
excuses_at n (excused by_stop) = Left n ∷ []
excuses_at n _ = []

-- the excuses of the excused actions, each once and in action order, if the first action has the given index
abbrev pub excuses_from : ℕ → List ActionResultView → List Excuse
excuses_from n [] = []
excuses_from n (d ∷ done) = excuses_at n d ++ excuses_from (n + 1) done

-- numbers of good creates, updates and destroys, with one more action, if that is good
abbrev pub counted_one : ℕ × ℕ × ℕ → Op → Bool → ℕ × ℕ × ℕ
counted_one totals op false = totals
counted_one totals Create true = (totals.0 + 1, totals.1, totals.2)
counted_one totals Update true = (totals.0, totals.1 + 1, totals.2)
counted_one totals Destroy true = (totals.0, totals.1, totals.2 + 1)

-- How many creates (replacements among them), updates and destroys are good.
abbrev pub good_totals : List ActionView → List ActionResultView → ℕ × ℕ × ℕ
good_totals (a ∷ actions) (d ∷ done) = counted_one (good_totals actions done) (op_of a.step) (is_good d)
good_totals _ _ = (0, 0, 0)
