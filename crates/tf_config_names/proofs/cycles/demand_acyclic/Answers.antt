use Rattle.std.proofs.Common.{◌≡◌, length, map, string_bytes, refl, rules}
use Rattle.tf_config_names.proofs.Rings.{acyclic-no_texts, some_texts}
use Rattle.tf_config_names.specs.Table.{names_in}
use Rattle.tf_config_names.proofs.cycles.demand_acyclic.Goals as goal

pub returns-then-is_empty-clause-acyclic : goal.returns-then-is_empty-clause-acyclic
returns-then-is_empty-clause-acyclic c =
    let texts = c.in_ok-texts.texts.items in
    let empty : length texts ≡ 0 = search rules in
    acyclic-no_texts (names_in c.args.names.now) c.args.dependence.now texts c.requires c.in_ok-texts.ensures empty

pub returns-clause-judged : goal.returns-clause-judged
returns-clause-judged c =
    let texts = c.in_ok-texts.texts.items in
    let some : length texts ≡ 0 → ⊥ = search rules in
    (refl, c.in_ok-place.ensures.ok, (map string_bytes texts, refl, c.in_ok-texts.ensures, some_texts texts some))
