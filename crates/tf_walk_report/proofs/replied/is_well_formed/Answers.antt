use Rattle.std.proofs.Common.{◌≡◌, true, ◌&&◌, sym, ap, ◌∙◌}
use Rattle.std.specs.List.{list_all}
use Rattle.tf_provider_protocol.specs.Verdict.{has_attributes}
use Rattle.tf_value_data.specs.Tree.{tree_of}
use Rattle.tf_walk_action.specs.Storable.{has_stored_attributes}
use Rattle.tf_walk_report.specs.Formed.{allowed_in}
use Rattle.tf_walk_report.proofs.Formed.{stored-formed, not_stored-formed}
use Rattle.tf_walk_report.proofs.replied.is_well_formed.Goals as goal
use Rattle.tf_walk_report.proofs.replied.is_well_formed.Goals.{then-stored, else-stored}

pub returns-then-has_attributes-clause-exact : goal.returns-then-has_attributes-clause-exact
returns-then-has_attributes-clause-exact c =
    let s = c.args.schema.now in
    let t = tree_of c.args.value.now in
    elim c.if-stored.branch [
      | then-stored w ↦
          let there : has_attributes s t ≡ true = sym w.has_attributes.ensures ∙ (sym w.value-is ∙ c.if-has_attributes.true) in
          let stored : has_stored_attributes t ≡ true = sym c.has_stored_attributes-stored.ensures.exact ∙ w.if-stored.true in
          c.all_allowed.ensures ∙ ap (list_all (allowed_in t)) c.attributes-attributes.ensures.attributes
          ∙ sym (stored-formed s t stored ∙ ap (λ b. b && list_all (allowed_in t) s.attributes) there)
      | else-stored w ↦ absurd (cc)
    ]

pub returns-else-has_attributes-clause-exact : goal.returns-else-has_attributes-clause-exact
returns-else-has_attributes-clause-exact c =
    let s = c.args.schema.now in
    let t = tree_of c.args.value.now in
    c.if-has_attributes.false ∙ sym (elim c.if-stored.branch [
      | then-stored w ↦
          let there = sym w.has_attributes.ensures ∙ (sym w.value-is ∙ c.if-has_attributes.false) in
          let stored : has_stored_attributes t ≡ true = sym c.has_stored_attributes-stored.ensures.exact ∙ w.if-stored.true in
          stored-formed s t stored ∙ ap (λ b. b && list_all (allowed_in t) s.attributes) there
      | else-stored w ↦ not_stored-formed s t c.attributes-attributes.ensures.kept (sym c.has_stored_attributes-stored.ensures.exact ∙ w.if-stored.false)
    ])
