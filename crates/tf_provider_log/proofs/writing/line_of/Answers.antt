use Rattle.std.proofs.Common.{◌≡◌, ◌++◌, ◌∷◌, [], string_bytes, rules, arith}
use Rattle.std.proofs.lemmas.Str.{IsUtf8-had}
use Rattle.serde_json.specs.View.{view}
use Rattle.tf_provider_log.proofs.OneLine.{tree_line}
use Rattle.tf_provider_log.proofs.writing.line_of.Goals as goal

pub returns : goal.returns
returns c =
    let ends : string_bytes c.push.new.self ≡ string_bytes c.in_ok-text.text ++ 10 ∷ [] = first_of (search rules, grind (arith)) in
    tree_line (view c.args.tree.now) (string_bytes c.in_ok-text.text) (string_bytes c.push.new.self) (IsUtf8-had _ c.in_ok-text.text.ok) c.in_ok-text.ensures.text c.in_ok-text.ensures.reads_back ends
