-- The text of some actions: their changes in order, and the last line.
use Rattle.std.proofs.Common.{◌≡◌, ◌∙◌, ℕ, Bool, false, List, [], ◌∷◌, ◌++◌, length, map, refl, ap}
use Rattle.std.proofs.lemmas.Bool.{eqb-false}
use Rattle.std.specs.List.{flat_map}
use Rattle.std.specs.Prelude.{◌==◌}
use Rattle.tf_plan_changes.specs.Changes.{ChangeView, changes}
use Rattle.tf_plan_data.specs.Action.{ActionView, action_of}
use Rattle.tf_plan_data.specs.declared.action.Action.{Action}
use Rattle.tf_plan_diff.specs.Diff.{change_lines, lines_of}
use Rattle.tf_plan_diff.specs.declared.headings.Colours.{Colours}
use Rattle.tf_plan_text.specs.Text.{adds, changes as updates, destroys, count_of, summary_line}

abbrev pub last_line : List ActionView → List ℕ
last_line actions = summary_line (count_of adds actions) (count_of updates actions) (count_of destroys actions)

pub shown_in_order : (colours : Colours) (late : ℕ → Bool) (xs : List Action) (old mid new : List ℕ) (made : List ChangeView) → (length xs == 0) ≡ false → made ≡ changes late (map action_of xs) → old ≡ []
    → mid ≡ old ++ flat_map (change_lines colours) made → new ≡ mid ++ last_line (map action_of xs) → new ≡ lines_of colours late (map action_of xs)
shown_in_order colours late [] old mid new made some is none then_changes then_last = absurd (eqb-false 0 0 some refl)
shown_in_order colours late (x ∷ xs) old mid new made some is none then_changes then_last =
    then_last ∙ ap (λ text. text ++ last_line (map action_of (x ∷ xs))) (then_changes ∙ ap (λ text. text ++ flat_map (change_lines colours) made) none ∙ ap (flat_map (change_lines colours)) is)
