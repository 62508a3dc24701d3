use Rattle.std.proofs.Common.{◌∙◌, [], ap, map, option_map}
use Rattle.tf_config_address.specs.ResourceAddr.{addr_of}
use Rattle.tf_plan_decision.proofs.Adding.{orphan_added}
use Rattle.tf_plan_decision.proofs.collecting.Decided.add_orphan.Goals as goal
use Rattle.tf_plan_decision.specs.Deciding.{decided_of}
use Rattle.tf_plan_order.proofs.Listing.{those_members}
use Rattle.tf_plan_order.specs.Members.{members}
use Rattle.tf_plan_order.specs.MemberViews.{member_of}
use Rattle.tf_provider_protocol.specs.Meaning.{schema_in}
use Rattle.tf_state_data.specs.Record.{record_of}
use Rattle.tf_state_data.specs.Resource.{resource_of}

pub returns : goal.returns
returns g c =
    let ms = map (λ b. (goal.Provider-dyn g (b.vtable, b.value)).meaning b.value) c.args.providers.now in
    let r = resource_of c.args.orphan.now in
    let schema = option_map (λ s. s.now) c.schema_for-schema.result in
    let found = c.schema_for-schema.ensures ∙ ap (λ t. schema_in t ms) (c.as_str.ensures.value ∙ ap (λ l. l.type_name) c.addr.ensures) in
    let listed = ap (map member_of) c.as_slice.ensures.value ∙ (those_members [] (map record_of c.records.result.now) (map member_of c.in_ok-members.members.items) c.in_ok-members.ensures ∙ ap (members []) c.records.ensures.records) in
    orphan_added c.args.place (addr_of c.addr-2.result.now) r.addr c.version_of.result schema (schema_in r.addr.type_name ms) c.addr-2.ensures c.version_of.ensures found c.add_gone.result (decided_of c.add_gone.new.decided)
    (decided_of c.args.self.now) (map member_of c.as_slice.result.now) (members [] r.records) listed c.add_gone.ensures
