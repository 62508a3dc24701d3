use Rattle.std.proofs.Common.{◌≡◌, ◌&&◌, true, string_bytes, rules}
use Rattle.serde_json.specs.View.{view}
use Rattle.tf_provider_protocol.specs.Meaning.{asked, answered}
use Rattle.tf_provider_log.specs.Fit.{request_fits, answer_fits}
use Rattle.tf_provider_log.proofs.ReadBack.{replied_is_line}
use Rattle.tf_provider_log.proofs.writing.answered_line.Goals as goal

pub returns-clause-ok : goal.returns-clause-ok
returns-clause-ok c =
    let r = asked c.args.request.now in
    let a = answered c.args.reply.now in
    let fit : (request_fits r && answer_fits a) ≡ true = search rules in
    replied_is_line r a (view c.in_ok-form.form) (string_bytes c.in_ok-line.line) c.in_ok-form.ensures.request_held c.in_ok-form.ensures.answer_held fit c.in_ok-form.ensures.value c.in_ok-line.ensures
