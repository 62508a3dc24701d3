use Rattle.std.proofs.Common.{◌≡◌, map, drop, string_bytes}
use Rattle.tf_value_data.specs.Tree.{entries_view, no_entries}
use Rattle.tf_expand_keys.proofs.Laying.{put_rest}
use Rattle.tf_expand_keys.proofs.collecting.mapped.Given as goal

-- what is put in so far, and what is to be put in
abbrev pub invariant-loop-name : goal.invariant-loop-name
invariant-loop-name g l =
    put_rest (g.K.Keyed.object l.keyed) (map string_bytes l.names) no_entries
    ≡ put_rest (g.K.Keyed.object l.keyed) (map string_bytes (drop l.name-index l.names)) (entries_view l.objects.entries)
