use Rattle.std.proofs.Common.{rules, ◌≡◌, ◌≤◌, ◌+◌, ◌-◌, ◌∙◌, ℕ, [], refl, sym, ap, subst, vec_len, arith}
use Rattle.std.proofs.lemmas.List.Elements.{All-push}
use Rattle.tf_tally.specs.declared.holding.Holding.{Holding}
use Rattle.tf_tally.specs.Holdings.{HeldPart}
use Rattle.tf_walk_workers.specs.Calls.{HasParts}
use Rattle.tf_walk_workers.specs.Sharing.{IsWorkerState}
use Rattle.tf_walk_workers.specs.declared.call_record.CallRecord.{CallRecord}
use Rattle.tf_walk_workers.proofs.Parts.{stays, goes, said}
use Rattle.tf_walk.proofs.prepared_many.team_of.Goals as goal

pub loop-made-preserved : goal.loop-made-preserved
loop-made-preserved g c =
    let table = c.args.tally.now in
    let all = c.args.part.now.holding.parts in
    let so_far = c.loop-made.invariant in
    let many = vec_len c.loop-made.others in
    let new = c.in_ok-worker_state_of.field-0 in
    let seat : new.seat.table ≡ c.args.claims.now.table = ap (λ s. s.table) c.in_ok-worker_state_of.ensures.seat ∙ c.in_ok-other.ensures.new.0 in
    let given = goes table (all - many) [] [] c.loop-made.part c.split_off-own.result so_far.part c.split_off-own.ensures.new c.split_off-own.ensures.going in
    let part = subst (λ (p : HeldPart CallRecord). HasParts table 1 [] [] p) (sym c.in_ok-worker_state_of.ensures.part) given in
    let left = stays table (all - many) [] [] c.loop-made.part c.split_off-own.new.part so_far.part c.split_off-own.ensures.same c.split_off-own.ensures.staying in
    let more : vec_len c.push.new.self ≡ many + 1 = search rules in
    record {
      seat = search rules;
      others = rw c.in_ok-push.ensures.items (All-push (IsWorkerState c.args.claims.now.table table) c.loop-made.others.items new so_far.others (record { seat = seat; part = part }));
      counted = let e = so_far.counted in omega (arith, more);
      most = let lt = c.loop-made-test.true in omega arith;
      part = said table ((all - many) - 1) (all - vec_len c.push.new.self) [] [] [] [] c.split_off-own.new.part (omega (arith, more)) refl refl left;
      whole = ap (λ (v : Holding CallRecord). v.whole) c.split_off-own.ensures.staying ∙ so_far.whole;
    }

pub returns-clause-counted : goal.returns-clause-counted
returns-clause-counted g c =
    let e = c.loop-made.invariant.counted in
    let m = c.loop-made.invariant.most in
    let past = c.loop-made-test.false in
    omega arith

pub returns-clause-part : goal.returns-clause-part
returns-clause-part g c =
    let table = c.args.tally.now in
    let all = c.args.part.now.holding.parts in
    let many = vec_len c.loop-made.others in
    let e = c.loop-made.invariant.counted in
    let m = c.loop-made.invariant.most in
    let past = c.loop-made-test.false in
    let left = stays table (all - many) [] [] c.loop-made.part c.split_off-first.new.part c.loop-made.invariant.part c.split_off-first.ensures.same c.split_off-first.ensures.staying in
    said table ((all - many) - 1) (all - c.args.workers) [] [] [] [] c.split_off-first.new.part (omega arith) refl refl left
