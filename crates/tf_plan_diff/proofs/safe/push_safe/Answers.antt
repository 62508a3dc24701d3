use Rattle.std.proofs.Common.{◌++◌, ◌∷◌, [], string_bytes, encode_utf8_all, ◌∙◌, ap, sym, map-id}
use Rattle.std.proofs.lemmas.Grind.{flat_map-append}
use Rattle.std.proofs.lemmas.Iterator.{YieldsList-from_chars}
use Rattle.std.proofs.lemmas.Iterator.Consumers.{YieldsList-end}
use Rattle.std.proofs.lemmas.Str.{encodes-append}
use Rattle.tf_plan_diff.proofs.Pushed.{pushed_twice}
use Rattle.tf_plan_diff.specs.Safe.{safe_chars}
use Rattle.tf_plan_diff.proofs.safe.push_safe.Goals as goal

pub loop-c-preserved : goal.loop-c-preserved
loop-c-preserved c =
    rw (flat_map-append, encodes-append)
    (pushed_twice (string_bytes c.args.out.now) (string_bytes c.loop-c.out) (string_bytes c.push_char.new.out)
    (encode_utf8_all (safe_chars c.loop-c.yielded)) (encode_utf8_all (safe_chars (c.in-Some.c ∷ [])))
    c.loop-c.invariant c.in_ok-push_char.ensures)

pub returns : goal.returns
returns c =
    let done = YieldsList-end (YieldsList-from_chars c.args.text.now c.utf8.text cc) c.loop-c.yielded _ c.loop-c.yielded_by _ _ c.in-None.is c.next.ensures.steps in
    c.loop-c.invariant ∙ ap (λ cs. string_bytes c.args.out.now ++ encode_utf8_all (safe_chars cs)) (sym (map-id c.loop-c.yielded) ∙ done.0)
