use Rattle.std.proofs.Common.{◌≡◌, rules, ap, ◌∙◌, refl}
use Rattle.std.specs.Prelude.{string_bytes}
use Rattle.tf_value_data.specs.declared.value.Value.{Text, the_lemmas}
use Rattle.tf_value_data.specs.Tree.{map as mapped, text, put, tree_of, entries_view}
use Rattle.tf_value_data.proofs.Views.{entries_view-insert_entry, tree_of-Map}
use Rattle.tf_provider_local.proofs.answers.with_text.Goals as goal

pub returns-in_ok-insert-in-Map : goal.returns-in_ok-insert-in-Map
returns-in_ok-insert-in-Map c =
    let key = c.in_ok-key-in-Map.key in
    let before = c.in-Map.entries in
    let named : string_bytes key ≡ c.args.key.now = c.in_ok-key-in-Map.ensures.ok in
    let inner : tree_of (Text c.args.text) ≡ text (string_bytes c.args.text) = search (rules, the_lemmas) in
    let put_is : entries_view c.insert.new.self.entries ≡ put (string_bytes key) (text (string_bytes c.args.text)) (entries_view before.entries) =
    ap entries_view c.in_ok-insert-in-Map.ensures.entries ∙ entries_view-insert_entry before.entries key (Text c.args.text) ∙ rw inner refl in
    let was : tree_of c.args.value ≡ mapped (entries_view before.entries) = ap tree_of c.in-Map.is ∙ tree_of-Map before in
    tree_of-Map c.insert.new.self ∙ ap mapped put_is ∙ rw (was, named) refl
