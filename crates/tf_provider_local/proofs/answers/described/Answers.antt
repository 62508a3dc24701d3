use Rattle.std.proofs.Common.{◌≡◌, ◌∙◌, ap, ℕ, List}
use Rattle.std.specs.Prelude.{codes}
use Rattle.std.proofs.lemmas.Result.{IfOk-weaker}
use Rattle.base64.specs.Engines.{standard}
use Rattle.base64.specs.GeneralPurpose.{encode_of}
use Rattle.hex.specs.Hex.{encode_lower}
use Rattle.md5.specs.Md5.{md5}
use Rattle.sha1.specs.Sha1.{sha1}
use Rattle.sha2.specs.Sha256.{sha256}
use Rattle.tf_value_data.specs.Tree.{Tree}
use Rattle.tf_provider_local.specs.Answers.{with_text}
use Rattle.tf_provider_local.proofs.answers.described.Goals as goal

-- one text more, where the text and what it is put into are known by other names
step : (f : List ℕ → List ℕ → Tree → Tree) (key x y : List ℕ) (after before t : Tree) → after ≡ f key x before → x ≡ y → before ≡ t → after ≡ f key y t
step f key x y after before t h same was = h ∙ ap (λ z. f key z before) same ∙ ap (f key y) was

pub returns : goal.returns
returns c =
    let content = c.args.content.now in
    let id = step with_text (codes "id") _ (encode_lower (sha1 content)) _ _ _ c.in_ok-value-2.ensures c.in_ok-sha1_of.ensures c.in_ok-value.ensures in
    let first = step with_text (codes "content_sha1") _ (encode_lower (sha1 content)) _ _ _ c.in_ok-value-3.ensures c.in_ok-sha1_of-2.ensures id in
    let second = step with_text (codes "content_md5") _ (encode_lower (md5 content)) _ _ _ c.in_ok-value-4.ensures c.in_ok-md5_of.ensures first in
    let third = step with_text (codes "content_sha256") _ (encode_lower (sha256 content)) _ _ _ c.in_ok-value-5.ensures c.in_ok-sha256_of.ensures second in
    let base64 = c.in_ok-base64.ensures.text ∙ ap (encode_of standard) c.digest.ensures in
    IfOk-weaker c.with_text-5.result _ _ (λ v h. step with_text (codes "content_base64sha256") _ (encode_of standard (sha256 content)) _ _ _ h base64 third) c.with_text-5.ensures
