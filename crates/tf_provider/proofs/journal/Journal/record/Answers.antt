use Rattle.std.proofs.Common.{◌≡◌, ◌<◌, true, false, arith, length, vec_capacity, ◌++◌, ◌∷◌, []}
use Rattle.tf_provider.specs.declared.journal.Entry.{Entry}
use Rattle.std.specs.List.{list_all}
use Rattle.std.proofs.lemmas.Grind.{common_steps}
use Rattle.tf_graph.specs.Digraph.{predecessors_of}
use Rattle.tf_provider.specs.Entries.{is_marked}
use Rattle.tf_provider.proofs.Marks.{kept-more, room-for}
use Rattle.tf_provider.proofs.journal.Journal.record.Goals as goal

pub unwrap-requires : goal.unwrap-requires
unwrap-requires c =
    let within : c.action-action.result < c.self.inside.graph.nodes = grind (arith, common_steps) in
    let new : is_marked c.self.inside.marks.items c.action-action.result ≡ false = grind (arith, common_steps) in
    let room : length c.self.inside.entries.items < vec_capacity c.self.inside.entries =
    room-for c.self.inside.graph c.self.inside.marks.items c.self.inside.entries.items _ c.action-action.result c.self.invariant within new in
    grind (arith, common_steps)

pub invariant_of-self : goal.invariant_of-self
invariant_of-self c =
    let within : c.action-action.result < c.self.inside.graph.nodes = grind (arith, common_steps) in
    let new : is_marked c.self.inside.marks.items c.action-action.result ≡ false = grind (arith, common_steps) in
    let e : Entry = record { action = c.action-action.result; op = c.op.result; verdict = c.verdict.result } in
    let ready : list_all (is_marked c.self.inside.marks.items) (predecessors_of c.self.inside.graph c.action-action.result) ≡ true = grind (arith, common_steps) in
    let pushed : c.push.new.self.items ≡ c.self.inside.entries.items ++ e ∷ [] = grind (arith, common_steps) in
    rw pushed (kept-more c.self.inside.graph c.self.inside.marks.items c.self.inside.entries.items _ _ e c.self.invariant c.push.ensures.capacity within ready new)

pub returns-clause-allowed : goal.returns-clause-allowed
returns-clause-allowed c = (invariant_of-self c).allowed
