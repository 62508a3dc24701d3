-- What holds of states and their texts.
use Rattle.std.proofs.Common.{◌≡◌, Some, sym, ap, ◌∙◌}
use Rattle.serde_json.specs.Data.{Data}
use Rattle.serde_json.specs.Read.{read}
use Rattle.tf_value_json.proofs.ReadsBack.{text_reads_back}
use Rattle.tf_state.specs.Laws.{TextIsOfOne, TextReadsAsState, StateOfTextIsOne}
use Rattle.tf_state.specs.Reading.{state_in}
use Rattle.tf_state_data.specs.State.{StateView}
use Rattle.tf_state.specs.Text.{state_data, state_text}
use Rattle.tf_state.specs.Valid.{IsValid}
use Rattle.tf_state.proofs.ByTable.{state_said, state_says}
use Rattle.tf_state.proofs.Plainness.{state-plain, state-depth}
use Rattle.tf_state.proofs.StateBack.{state-back}

same_data : (d e : Data) → Some d ≡ Some e → d ≡ e
same_data d e h = cc

same_state : (s t : StateView) → Some s ≡ Some t → s ≡ t
same_state s t h = cc

pub text_is_of_one : TextIsOfOne
text_is_of_one bytes s t reads also =
    let same : reads.0 ≡ also.0 = same_data reads.0 also.0 (sym reads.2 ∙ also.2) in same_state s t (sym (state_said reads.0 s reads.3) ∙ ap state_in same ∙ state_said also.0 t also.3)

text-data : (s : StateView) → IsValid s → read (state_text s) ≡ Some (state_data s)
text-data s h = text_reads_back (state_data s) (state-plain s h) (state-depth s h)

pub text_reads_as_state : TextReadsAsState
text_reads_as_state s h utf8 = (state_data s, utf8, text-data s h, state_says (state_data s) s (state-back s h))

pub state_of_text_is_one : StateOfTextIsOne
state_of_text_is_one s t h k e =
    let same = same_data (state_data s) (state_data t) (sym (text-data s h) ∙ ap read e ∙ text-data t k) in same_state s t (sym (state-back s h) ∙ ap state_in same ∙ state-back t k)
