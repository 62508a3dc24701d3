use Rattle.std.proofs.Common.{◌≡◌, ◌∙◌, ap, map, option_map, subst, sym}
use Rattle.std.specs.List.Sorted.{IsStrictlySortedBy}
use Rattle.tf_config_address.specs.ResourceAddr.{addr_of}
use Rattle.tf_config_address.specs.ObjectId.{instance_key_cmp}
use Rattle.tf_config_data.specs.Config.{block_at}
use Rattle.tf_plan_decision.proofs.Finding.{block_sorted, decided_by, standing_by}
use Rattle.tf_plan_decision.proofs.planned_values.decide_block.Goals as goal
use Rattle.tf_plan_decision.specs.Outcome.{member_outcome}
use Rattle.tf_plan_decision.specs.Settling.{settled_from, settled_key, settled_of}
use Rattle.tf_plan_decision.specs.Stage.{block_members}
use Rattle.tf_expand_keys.specs.Views.{shape_of, resolved_of}
use Rattle.tf_plan_order.specs.MemberViews.{member_of}
use Rattle.tf_provider_protocol.specs.Meaning.{schema_in}
use Rattle.tf_plan_decision.specs.Deciding.{decided_of}
use Rattle.tf_state_data.specs.State.{state_of}

pub settled_standing-requires : goal.settled_standing-requires
settled_standing-requires g c =
    let block = block_at (addr_of c.args.resource.now.addr.now) c.args.resource.now.block.now in
    let becomes = member_outcome (option_map (λ s. s.now) c.schema_for-schema.result) block (g.S.Scope.environment c.args.resource.now.scope.now) in
    let listed = ap (map member_of) c.as_slice.ensures.value ∙ c.in_ok-members.ensures in
    let all : map settled_of c.as_slice-2.result.now ≡ settled_from becomes 0 (block_members (shape_of c.args.shape.now) block (state_of c.args.stage.now.state.now).resources) =
    ap (map settled_of) c.as_slice-2.ensures.value ∙ (c.in_ok-settled.ensures ∙ ap (settled_from becomes 0) listed) in
    subst (λ xs. IsStrictlySortedBy instance_key_cmp (map settled_key xs)) (sym all) (block_sorted becomes (shape_of c.args.shape.now) block (state_of c.args.stage.now.state.now).resources)

pub returns : goal.returns
returns g c =
    let ms = map (λ b. (goal.Provider-dyn g (b.vtable, b.value)).meaning b.value) c.args.stage.now.providers.now in
    let resources = (state_of c.args.stage.now.state.now).resources in
    let block = block_at (addr_of c.args.resource.now.addr.now) c.args.resource.now.block.now in
    let env = g.S.Scope.environment c.args.resource.now.scope.now in
    let found = option_map (λ s. s.now) c.schema_for-schema.result in
    let same = c.schema_for-schema.ensures ∙ ap (λ t. schema_in t ms) c.as_str.ensures.value in
    let listed = ap (map member_of) c.as_slice.ensures.value ∙ c.in_ok-members.ensures in
    let settled = c.in_ok-settled.ensures ∙ ap (settled_from (member_outcome found block env) 0) listed in
    record {
      resolved =
          standing_by ms resources c.args.resource.now.place block env (shape_of c.args.shape.now) found (map settled_of c.as_slice-2.result.now) same (ap (map settled_of) c.as_slice-2.ensures.value ∙ settled)
          c.args.is_wanted (resolved_of c.in_ok-resolved.resolved) c.in_ok-resolved.ensures;
      decided =
          decided_by ms resources c.args.resource.now.place block env (shape_of c.args.shape.now) found (map settled_of c.in_ok-settled.settled.items) same settled
          c.version_of.result (decided_of c.add_settled.new.self) (decided_of c.nothing-decided.result) c.version_of.ensures c.nothing-decided.ensures c.in_ok-add_settled.ensures;
    }
