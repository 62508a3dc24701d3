use Rattle.std.proofs.lemmas.Result.{err_from_is_err_and}
use Rattle.tf_config_data.specs.Config.{block_of, blocks_of}
use Rattle.tf_config_names.proofs.NameWalks.{left_more, left_refused}
use Rattle.tf_config_names.specs.KnownNames.{declared_of, block_checks, block_place, body_checks, body_of}
use Rattle.tf_config_names.proofs.known_names.demand_blocks.Goals as goal

pub loop-addr-preserved : goal.loop-addr-preserved
loop-addr-preserved c =
    let block = block_of (c.in-Some.addr.now, c.in-Some.block.now) in
    let left = rw c.in-Some.ensures.steps at c.loop-addr.invariant in
    left_more (declared_of c.args.known) (block_checks (blocks_of c.args.blocks.now.entries)) (body_checks (block_place block.addr) (body_of block)) (block_checks (blocks_of c.next.new.self)) left c.in_ok-demand_resource.ensures

pub returns-in_err-demand_resource : goal.returns-in_err-demand_resource
returns-in_err-demand_resource c =
    let block = block_of (c.in-Some.addr.now, c.in-Some.block.now) in
    let p = err_from_is_err_and c.from_residual.result c.from_residual.ensures.1 in
    let left = rw c.in-Some.ensures.steps at c.loop-addr.invariant in
    rw (p.1, p.2)
    (left_refused (declared_of c.args.known) (block_checks (blocks_of c.args.blocks.now.entries)) (body_checks (block_place block.addr) (body_of block)) (block_checks (blocks_of c.next.new.self)) _ left c.in_err-demand_resource.ensures)
