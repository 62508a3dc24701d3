use Rattle.tf_config_names.proofs.Rings.{put_text-map}
use Rattle.tf_config_names.proofs.cycles.note.Goals as goal

pub returns-in_ok-insert : goal.returns-in_ok-insert
returns-in_ok-insert c =
    rw (c.in_ok-insert.ensures.keys, c.if-needs_itself.true, ← c.in_ok-text_of.ensures) (put_text-map c.args.found.now.keys c.in_ok-text_of.field-0)
