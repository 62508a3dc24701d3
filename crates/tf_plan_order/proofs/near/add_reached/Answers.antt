use Rattle.std.proofs.Common.{◌≡◌, ◌<◌, ◌∙◌, length, arith, inl, inr}
use Rattle.std.proofs.lemmas.Bool.{cases_eq, cases_lt, both_ways}
use Rattle.tf_graph.proofs.Rows.{row_read}
use Rattle.tf_graph.specs.Closure.{reaches}
use Rattle.tf_graph.specs.Lists.{row}
use Rattle.tf_plan_order.proofs.Keeping.{grown-on}
use Rattle.tf_plan_order.proofs.near.add_reached.Goals as goal

pub add_places-requires : goal.add_places-requires
add_places-requires c =
    let own = c.args.own.now in
    let other = c.in-Some.other in
    let inside : other < length own = omega (arith, c.in-Some.ensures.nodes.1, c.requires.nodes) in
    let same : c.as_slice.result.now ≡ row own other = c.as_slice.ensures.value ∙ row_read own other c.index-own-other.result inside c.index-own-other.is in
    λ k h. omega (arith, c.requires.within other k (rw same at h), c.loop-other.invariant.grown.long)

pub loop-other-preserved : goal.loop-other-preserved
loop-other-preserved c =
    let own = c.args.own.now in
    let other = c.in-Some.other in
    let l = c.loop-other in
    let more = c.add_places.ensures in
    let inside : other < length own = omega (arith, c.in-Some.ensures.nodes.1, c.requires.nodes) in
    let same : c.as_slice.result.now ≡ row own other = c.as_slice.ensures.value ∙ row_read own other c.index-own-other.result inside c.index-own-other.is in
    record {
      within = omega (arith, c.in-Some.ensures.nodes.1);
      inside = λ r h reached. elim (cases_lt r l.from) [
        | inl early ↦ l.invariant.inside r early reached
        | inr late ↦ elim (cases_eq r other) [
          | inl here ↦ rw here inside
          | inr apart ↦ absurd (both_ways (reaches c.args.table.now c.args.resource r) (c.in-Some.ensures.first.2 r late (omega (arith, h, apart))) reached)
        ]
      ];
      grown = grown-on _ _ _ l.invariant.grown more.grown;
      added = λ r k h reached held. elim (cases_lt r l.from) [
        | inl early ↦ more.grown.kept k (l.invariant.added r k early reached held)
        | inr late ↦ elim (cases_eq r other) [
          | inl here ↦ more.added k (rw (same, ← here) held)
          | inr apart ↦ absurd (both_ways (reaches c.args.table.now c.args.resource r) (c.in-Some.ensures.first.2 r late (omega (arith, h, apart))) reached)
        ]
      ];
    }
