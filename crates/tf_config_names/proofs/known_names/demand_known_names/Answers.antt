use Rattle.std.proofs.Common.{[], ◌∷◌, codes}
use Rattle.std.proofs.lemmas.Result.{err_from_is_err_and}
use Rattle.tf_config_data.specs.Config.{config_of}
use Rattle.tf_config_refusal.proofs.Places.{place_of-Root, place_of-Member}
use Rattle.tf_config_names.proofs.NameWalks.{first_refused, second_refused, third_refused, three_known}
use Rattle.tf_config_names.specs.KnownNames.{declared_in, entry_name_checks, output_checks, block_checks}
use Rattle.tf_config_names.specs.declared.known_names.Context.TheVariants.{Plain}
use Rattle.tf_config_names.proofs.known_names.demand_known_names.Goals as goal

pub returns-in_err-demand_entries : goal.returns-in_err-demand_entries
returns-in_err-demand_entries c =
    let cfg = config_of c.args.config.now in
    let e = err_from_is_err_and c.from_residual.result c.from_residual.ensures.1 in
    let first = rw (place_of-Member, place_of-Root, c.requires) at c.in_err-demand_entries.ensures in
    rw (e.1, e.2) (first_refused (declared_in cfg) (entry_name_checks Plain (codes "locals" ∷ []) cfg.locals) (output_checks cfg.outputs) (block_checks cfg.blocks) _ first)

pub returns-in_err-demand_outputs : goal.returns-in_err-demand_outputs
returns-in_err-demand_outputs c =
    let cfg = config_of c.args.config.now in
    let e = err_from_is_err_and c.from_residual-in_err-demand_outputs.result c.from_residual-in_err-demand_outputs.ensures.1 in
    let locals = rw (place_of-Member, place_of-Root, c.requires) at c.in_ok-demand_entries.ensures in
    rw (e.1, e.2) (second_refused (declared_in cfg) (entry_name_checks Plain (codes "locals" ∷ []) cfg.locals) (output_checks cfg.outputs) (block_checks cfg.blocks) _ locals (rw c.requires at c.in_err-demand_outputs.ensures))

pub returns-in_err-demand_blocks : goal.returns-in_err-demand_blocks
returns-in_err-demand_blocks c =
    let cfg = config_of c.args.config.now in
    let e = err_from_is_err_and c.from_residual-in_err-demand_blocks.result c.from_residual-in_err-demand_blocks.ensures.1 in
    let locals = rw (place_of-Member, place_of-Root, c.requires) at c.in_ok-demand_entries.ensures in
    rw (e.1, e.2) (third_refused (declared_in cfg) (entry_name_checks Plain (codes "locals" ∷ []) cfg.locals) (output_checks cfg.outputs) (block_checks cfg.blocks) _ locals
    (rw c.requires at c.in_ok-demand_outputs.ensures) (rw c.requires at c.in_err-demand_blocks.ensures))

pub returns : goal.returns
returns c =
    let cfg = config_of c.args.config.now in
    three_known (declared_in cfg) (entry_name_checks Plain (codes "locals" ∷ []) cfg.locals) (output_checks cfg.outputs) (block_checks cfg.blocks)
    (rw (place_of-Member, place_of-Root, c.requires) at c.in_ok-demand_entries.ensures) (rw c.requires at c.in_ok-demand_outputs.ensures) (rw c.requires at c.in_ok-demand_blocks.ensures)
