use Rattle.std.proofs.Common.{◌≡◌, ℕ, List, [], ◌∷◌, map, refl, ap, ◌∙◌, string_bytes}
use Rattle.tf_provider_protocol.specs.Schema.{SchemaView}
use Rattle.tf_value_data.specs.Tree.{Tree, entry, tree_of, entries_view}
use Rattle.tf_value_data.proofs.Views.{Entry, shown}
use Rattle.tf_plan_object.specs.Kept.{kept_entries, kept_value}
use Rattle.tf_plan_object.proofs.Shown.{entries_all, entry_more, keyed}
use Rattle.tf_plan_object.proofs.kept.kept_entries.Goals as goal

-- the value that an entry stands for
abbrev value_at : SchemaView → List (List ℕ) → Tree → Entry → Tree
value_at schema ignored prior e = kept_value schema ignored prior (string_bytes e.0) (tree_of e.1)

kept_shown : (schema : SchemaView) (ignored : List (List ℕ)) (prior : Tree) (es : List Entry) → shown (value_at schema ignored prior) (keyed es) ≡ kept_entries schema ignored prior (entries_view es)
kept_shown schema ignored prior [] = refl
kept_shown schema ignored prior (e ∷ es) = ap (entry (string_bytes e.0) (value_at schema ignored prior e)) (kept_shown schema ignored prior es)

pub loop-key-preserved : goal.loop-key-preserved
loop-key-preserved c =
    let schema = c.args.schema.now in
    let ignored = map string_bytes c.args.ignored.now in
    let prior = tree_of c.args.prior.now in
    let is : tree_of c.in_ok-value.value ≡ value_at schema ignored prior (c.in-Some.key.now, c.in-Some.value.now) =
    c.in_ok-value.ensures.cases ∙ (c.kept_value.ensures ∙ ap (λ (n : List ℕ). kept_value schema ignored prior n (tree_of c.in-Some.value.now)) c.as_str.ensures.value) in
    entry_more (value_at schema ignored prior) c.args.planned.now.entries _ c.next.new.self (c.in-Some.key.now, c.in-Some.value.now) _ _ _ _ c.iter-key-items.ensures.ordered c.in-Some.ensures.steps c.in_ok-insert.ensures.entries c.in_ok-name.ensures.cases
    is c.loop-key.invariant

pub returns : goal.returns
returns c =
    let schema = c.args.schema.now in
    let ignored = map string_bytes c.args.ignored.now in
    let prior = tree_of c.args.prior.now in
    entries_all (value_at schema ignored prior) c.args.planned.now.entries _ _ c.in-None.ensures.steps.0 c.loop-key.invariant ∙ kept_shown schema ignored prior c.args.planned.now.entries
