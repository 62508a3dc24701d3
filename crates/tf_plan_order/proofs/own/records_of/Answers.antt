use Rattle.std.proofs.Common.{◌≡◌, ◌∙◌, ltb, leb, rules}
use Rattle.std.proofs.lemmas.List.Sorted.{IsPartitionPoint-from_clause, IsPartitionedBy-leb, IsPartitionedBy-ltb}
use Rattle.std.specs.Ordering.{is_lt, is_le}
use Rattle.tf_config_address.specs.ObjectId.{instance_key_of}
use Rattle.tf_config_address.specs.contracts.object_id.InstanceKeyOrd.TheImpl as keys
use Rattle.tf_plan_order.proofs.Parting.{below_is, not_above_is, own_part, part_rises, rank, ranks_rise, take_rest}
use Rattle.tf_plan_order.proofs.own.records_of.Goals as goal

pub returns : goal.returns
returns c =
    let k = instance_key_of c.args.key.now in
    let rs = c.args.records.now in
    let i = c.partition_point-start.result in
    let first = IsPartitionPoint-from_clause (λ r. ltb (rank k r) 1) rs i c.partition_point-start.ensures.partitioned (IsPartitionedBy-ltb (rank k) rs 1 (ranks_rise k rs c.requires)) (λ a r g called. let said : r ≡ is_lt ((keys.cmp-value).it a.0.now.id.key c.args.key.now) = search rules in (said ∙ below_is a.0.now c.args.key.now, search rules)) in
    let rest = take_rest rs i in
    let second = IsPartitionPoint-from_clause (λ r. leb (rank k r) 1) _ c.partition_point-count.result c.partition_point-count.ensures.partitioned (IsPartitionedBy-leb (rank k) _ 1 (part_rises k rs i _ rest c.requires)) (λ a r g called. let said : r ≡ is_le ((keys.cmp-value).it a.0.now.id.key c.args.key.now) = search rules in (said ∙ not_above_is a.0.now c.args.key.now, search rules)) in
    own_part k rs i c.partition_point-count.result _ rest c.partition_point-start.ensures.bound c.partition_point-count.ensures.bound first second
