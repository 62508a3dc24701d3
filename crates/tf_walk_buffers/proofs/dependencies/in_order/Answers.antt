use Rattle.std.proofs.Common.{◌≡◌, ◌∙◌, List, String, Global, ap, string_cmp}
use Rattle.std.proofs.IntoIterSteps.{All-taken}
use Rattle.std.proofs.lemmas.Result.{IfOk-weaker}
use Rattle.std.specs.List.{list_any}
use Rattle.std.specs.Ordering.{eq_by_cmp}
use Rattle.tf_walk_buffers.proofs.Ordered.{together}
use Rattle.tf_walk_buffers.proofs.dependencies.in_order.Goals as goal

pub returns : goal.returns
returns c =
    IfOk-weaker c.from_iter.result _ _
    (λ found h.
    let last = h.3.2 tt in
    let all : h.1 ≡ c.args.texts.items = All-taken h.0 h.1 (last.0, (h.3.0, h.3.1, last.1)) ∙ h.2.0 in
    together found.keys c.args.texts.items h.4.1 (λ key. h.4.0 key ∙ ap (λ (texts : List (String Global)). list_any (eq_by_cmp string_cmp key) texts) all))
    c.from_iter.ensures.ran
