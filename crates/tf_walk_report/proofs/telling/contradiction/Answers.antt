use Rattle.std.proofs.Common.{◌≡◌, ◌∙◌, sym, ap, ap₂, ◌+◌, true, length, string_bytes, option_map, arith}
use Rattle.std.proofs.lemmas.Bool.Decides.{nat_tests}
use Rattle.std.specs.Prelude.{Some, nat_le, ◌++◌, codes, string_len, string_capacity, slice_index_or, []}
use Rattle.std.specs.List.{list_all}
use Rattle.tf_value_data.specs.Tree.{keys_of, entries_view, tree_of}
use Rattle.tf_value_data.specs.Tree as tree
use Rattle.tf_value_data.proofs.Views.{tree_of-Map}
use Rattle.tf_walk_report.specs.Diagnostics.{name_at}
use Rattle.tf_walk_action.specs.Room.{message_fits}
use Rattle.tf_value_data.proofs.Conjunction.{and-second}
use Rattle.tf_walk_report.proofs.Named.{named-there, holds-there, named-beyond, pushed}
use Rattle.tf_walk_report.proofs.telling.contradiction.Goals as goal

-- src/reporting.rt:104:13
pub unwrap-requires-in-Some-nth : goal.unwrap-requires-in-Some-nth
unwrap-requires-in-Some-nth c =
    let ran = c.in-Some-nth.ensures.ran in
    let seen : option_map tree_of c.args.object.now ≡ Some (tree.map (entries_view c.in-Map.attributes.entries)) = ap (option_map tree_of) c.in-Some.is ∙ ap Some (ap tree_of c.in-Map.is ∙ tree_of-Map c.in-Map.attributes) in
    let names : list_all (λ k. nat_le (12 + length k) (string_capacity c.args.message)) (keys_of (entries_view c.iter.result)) ≡ true
    = ap (λ e. list_all (λ k. nat_le (12 + length k) (string_capacity c.args.message)) (keys_of (entries_view e))) c.iter.ensures.rest ∙ and-second (nat_le 15 (string_capacity c.args.message)) (list_all (λ k. nat_le (12 + length k) (string_capacity c.args.message)) (keys_of (entries_view c.in-Map.attributes.entries))) (ap (message_fits (string_capacity c.args.message)) (sym seen) ∙ c.requires.fits) in
    let room : nat_le (12 + length (string_bytes c.in-Some-nth.name.now)) (string_capacity c.args.message) ≡ true
    = holds-there (λ k. nat_le (12 + length k) (string_capacity c.args.message)) c.iter.result ran.1.0 c.nth.new.self ran.0 (c.in-Some-nth.name.now, c.in-Some-nth.field-0-1.now) ran.1.1 ran.1.2 names in
    let first : string_bytes c.push_str.new.self ≡ codes "contradicts " = pushed c.push_str.result c.unwrap.result (string_bytes c.push_str.new.self) (string_bytes c.args.message) (codes "contradicts ") c.push_str.ensures.bytes c.unwrap.ensures ∙ ap (λ b. b ++ codes "contradicts ") c.requires.blank in
    let len : string_len c.push_str.new.self ≡ 12 = search in
    let kept = c.push_str.ensures.capacity in
    let name : length c.as_str.result.now ≡ length (string_bytes c.in-Some-nth.name.now) = ap length c.as_str.ensures.value in
    c.push_str-in-Some-nth.ensures.succeeds (grind (arith, nat_tests))

-- src/reporting.rt:96:1
pub returns-in-Some-nth : goal.returns-in-Some-nth
returns-in-Some-nth c =
    let ran = c.in-Some-nth.ensures.ran in
    let named : slice_index_or (keys_of (entries_view c.iter.result)) (length ran.0) [] ≡ string_bytes c.in-Some-nth.name.now
    = named-there c.iter.result _ _ ran.0 _ ran.1.1 ran.1.2 in
    let seen : option_map tree_of c.args.object.now ≡ Some (tree.map (entries_view c.in-Map.attributes.entries)) = ap (option_map tree_of) c.in-Some.is ∙ ap Some (ap tree_of c.in-Map.is ∙ tree_of-Map c.in-Map.attributes) in
    let name : name_at (option_map tree_of c.args.object.now) c.args.place ≡ string_bytes c.in-Some-nth.name.now
    = ap (λ o. name_at o c.args.place) seen ∙ ap (λ e. slice_index_or (keys_of (entries_view e)) c.args.place []) (sym c.iter.ensures.rest) ∙ ap (λ n. slice_index_or (keys_of (entries_view c.iter.result)) n []) (sym ran.2) ∙ named in
    let first : string_bytes c.push_str.new.self ≡ codes "contradicts " = pushed c.push_str.result c.unwrap.result (string_bytes c.push_str.new.self) (string_bytes c.args.message) (codes "contradicts ") c.push_str.ensures.bytes c.unwrap.ensures ∙ ap (λ b. b ++ codes "contradicts ") c.requires.blank in
    pushed c.push_str-in-Some-nth.result c.unwrap-in-Some-nth.result (string_bytes c.push_str-in-Some-nth.new.self) (string_bytes c.push_str.new.self) c.as_str.result.now c.push_str-in-Some-nth.ensures.bytes c.unwrap-in-Some-nth.ensures ∙ ap₂ (λ a b. a ++ b) first (c.as_str.ensures.value ∙ sym name)

-- src/reporting.rt:96:1
pub returns-in_default-nth : goal.returns-in_default-nth
returns-in_default-nth c =
    let ran = c.in_default-nth.ensures.ran in
    let none : slice_index_or (keys_of (entries_view c.iter.result)) c.args.place [] ≡ [] = named-beyond c.iter.result _ ran.0 _ ran.1.1 ran.1.2.0 ran.2 in
    let seen : option_map tree_of c.args.object.now ≡ Some (tree.map (entries_view c.in-Map.attributes.entries)) = ap (option_map tree_of) c.in-Some.is ∙ ap Some (ap tree_of c.in-Map.is ∙ tree_of-Map c.in-Map.attributes) in
    let name : name_at (option_map tree_of c.args.object.now) c.args.place ≡ []
    = ap (λ o. name_at o c.args.place) seen ∙ ap (λ e. slice_index_or (keys_of (entries_view e)) c.args.place []) (sym c.iter.ensures.rest) ∙ none in
    let first : string_bytes c.push_str.new.self ≡ codes "contradicts " = pushed c.push_str.result c.unwrap.result (string_bytes c.push_str.new.self) (string_bytes c.args.message) (codes "contradicts ") c.push_str.ensures.bytes c.unwrap.ensures ∙ ap (λ b. b ++ codes "contradicts ") c.requires.blank in
    first ∙ ap (λ b. codes "contradicts " ++ b) (sym name)
