-- What a write took is added to what was there.
use Rattle.std.proofs.Common.{rules}
use Rattle.tf_cli_lines.proofs.Writes.{appends_as, appends_then, take_further}
use Rattle.std.proofs.Common.{take, drop, ◌+◌, ◌-◌, length}
use Rattle.tf_cli_lines.proofs.saving.save.Goals as goal

pub loop-at-preserved : goal.loop-at-preserved
loop-at-preserved g c =
    let bytes = c.as_bytes-bytes.result.now in
    let old = g.W.Write.contents c.args.writer.now in
    let before = g.W.Write.contents c.loop-at.writer in
    let after = g.W.Write.contents c.write.new.self in (
      search rules,
      appends_as old after _ (take (c.loop-at.at + c.in-Ok.count) bytes) (take_further bytes c.loop-at.at c.in-Ok.count c.loop-at.invariant.0)
          (appends_then old before after (take c.loop-at.at bytes) (take c.in-Ok.count (take (length bytes - c.loop-at.at) (drop c.loop-at.at bytes))) c.loop-at.invariant.1 c.in-Ok.ensures.bytes),
    )
