use Rattle.std.proofs.Common.{◌≡◌, [], ◌∷◌, sym, ap, ◌∙◌, rules}
use Rattle.std.specs.Map.{keys_of}
use Rattle.tf_plan_outputs.proofs.Named.{named_more}
use Rattle.tf_plan_outputs.specs.Changes.{names_with}
use Rattle.tf_value_data.specs.Tree.{texts_view}
use Rattle.tf_plan_outputs.proofs.names.add_keys.Goals as goal

pub loop-key-init : goal.loop-key-init
loop-key-init g c =
    let all : c.into_iter-key-iterator.result ≡ keys_of c.args.entries.now.entries = search rules in
    ap (λ ks. names_with (texts_view c.args.names.now.keys) (texts_view ks)) all

pub loop-key-preserved : goal.loop-key-preserved
loop-key-preserved g c =
    named_more c.loop-key.names.keys c.insert.new.self.keys c.next.new.self c.in-Some.key.now c.in_ok-clone.field-0 c.in_ok-insert.ensures.keys c.in_ok-clone.ensures.cases
    ∙ ap (λ ks. names_with (texts_view c.loop-key.names.keys) (texts_view ks)) (sym c.in-Some.ensures.steps)
    ∙ c.loop-key.invariant

pub returns : goal.returns
returns g c =
    let none : c.loop-key.key-iterator ≡ [] = search rules in
    ap (λ ks. names_with (texts_view c.loop-key.names.keys) (texts_view ks)) (sym none) ∙ c.loop-key.invariant
