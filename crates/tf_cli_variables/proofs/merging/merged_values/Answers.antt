-- Each source adds its values, and the first one without values is reported.
use Rattle.std.proofs.Common.{◌≡◌, ◌++◌, [], ◌∷◌, length, Some, rules, refl, sym, ap, ◌∙◌, subst}
use Rattle.std.proofs.lemmas.Option.{slice_get_read}
use Rattle.std.specs.List.{slice_get}
use Rattle.std.specs.Prelude.{MatchOption}
use Rattle.serde_json.specs.Data.{no_members}
use Rattle.serde_json.specs.View.{view, members_view}
use Rattle.tf_cli_variables.specs.Merge.{put_each}
use Rattle.tf_cli_variables.specs.Values.{GivesValues, IsBadSource}
use Rattle.tf_cli_variables.proofs.Given.{each_gives-next}
use Rattle.tf_cli_variables.proofs.Puts.{put_all-more}
use Rattle.tf_cli_variables.proofs.merging.merged_values.Goals as goal

pub returns-in-Err-clause-fault : goal.returns-in-Err-clause-fault
returns-in-Err-clause-fault c =
    let source = c.index-sources-position.result in
    let found : slice_get c.args.sources.now c.loop-position.position ≡ Some source =
    slice_get_read c.args.sources.now (length c.args.sources.now) c.loop-position.position source refl c.loop-position-test.true c.index-sources-position.is in
    let bad : IsBadSource (view c.args.config.now) source c.in-Err.cause = search rules in
    ((c.loop-position.invariant.0, c.loop-position.invariant.1), subst (λ o. MatchOption o ⊥ (λ s. IsBadSource (view c.args.config.now) s c.in-Err.cause)) (sym found) bad)

pub loop-position-preserved : goal.loop-position-preserved
loop-position-preserved c =
    let given = c.loop-position.invariant.0 in
    let values = members_view c.in-Ok.given.entries in
    let gives : GivesValues (view c.args.config.now) c.index-sources-position.result values = search rules in
    let put_in : members_view c.put_each.new.values.entries ≡ put_each values (members_view c.loop-position.values.entries) = search rules in (
      given ++ values ∷ [],
      each_gives-next (view c.args.config.now) c.args.sources.now c.loop-position.position given c.index-sources-position.result values c.loop-position-test.true c.index-sources-position.is c.loop-position.invariant.1 gives,
      put_in ∙ ap (put_each values) c.loop-position.invariant.2 ∙ sym (put_all-more given values no_members),
    )
