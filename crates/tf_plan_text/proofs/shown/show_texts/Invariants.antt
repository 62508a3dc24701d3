-- the text so far, with what is left to show
use Rattle.std.proofs.Common.{◌≡◌, ◌∷◌, ◌++◌, false, string_bytes}
use Rattle.tf_plan_text.specs.Shown.{shown_texts}
use Rattle.tf_value_data.specs.Tree.{texts_view}
use Rattle.tf_plan_text.proofs.shown.show_texts.Given as goal

abbrev pub invariant-loop-content : goal.invariant-loop-content
invariant-loop-content l =
    string_bytes l.text ++ shown_texts l.later (texts_view l.content-iterator) ≡ string_bytes l.fn.text ++ 91 ∷ shown_texts false (texts_view l.contents.keys)
