-- What a report tells, by what its parts tell.
use Rattle.std.proofs.Common.{◌≡◌, ◌∙◌, ℕ, suc, Bool, List, [], ◌∷◌, length, refl, sym, ap, subst}
use Rattle.std.proofs.lemmas.List.{length-map}
use Rattle.tf_config_address.specs.ObjectId.{InstanceKeyView}
use Rattle.tf_config_data.specs.Names.{NameView}
use Rattle.tf_expand_keys.specs.InstanceKeys.{InstanceKeysView}
use Rattle.tf_walk_action.specs.Outcome.{ActionResultView}
use Rattle.tf_walk_outputs.specs.Outputs.{AreOutputsDone, AreOutputsEnded, OutputResultView, end_of}
use Rattle.tf_walk_outputs.specs.declared.ends.OutputResult.{OutputResult}
use Rattle.tf_plan_data.specs.Action.{ActionView}
use Rattle.tf_state_data.specs.State.{StateView}
use Rattle.tf_expr_syntax.specs.ExprTree as expr
use Rattle.tf_value_data.specs.Tree.{Entries, Tree}
use Rattle.tf_walk_report.specs.OutputsBuffers.{places_in, places_of}
use Rattle.tf_walk_report.specs.Settling.{AreEnded}
use Rattle.tf_walk_report.specs.declared.settling.OutputValues.{OutputValues}
use Rattle.tf_walk_report.specs.declared.settling.Settling.{Settling}
use Rattle.tf_walk_report.specs.declared.texts.OutputTexts.{OutputTexts}

done-sized : (variables : Entries) (names : List NameView) (shapes : ℕ → InstanceKeysView) (objects : ℕ → InstanceKeyView → Tree) (settled : ℕ → Bool) (es : expr.Entries) (ds : List OutputResultView) → AreOutputsDone variables names shapes objects settled es ds → length (places_of es) ≡ length ds
done-sized variables names shapes objects settled expr.no_entries [] h = refl
done-sized variables names shapes objects settled expr.no_entries (d ∷ ds) h = absurd h
done-sized variables names shapes objects settled (expr.entry key e es) [] h = absurd h
done-sized variables names shapes objects settled (expr.entry key e es) (d ∷ ds) h = ap suc (done-sized variables names shapes objects settled es ds h.1)

texts_sized : (texts : List OutputTexts) → length (places_in texts) ≡ length texts
texts_sized [] = refl
texts_sized (t ∷ texts) = ap suc (texts_sized texts)

-- there are texts for each output that ended
pub ends-sized : (variables : Entries) (names : List NameView) (shapes : ℕ → InstanceKeysView) (objects : ℕ → InstanceKeyView → Tree) (settled : ℕ → Bool) (kept : Entries) (es : expr.Entries) (ends : List OutputResult) (saved : Entries) (texts : List OutputTexts)
    → AreOutputsEnded variables names shapes objects settled kept es ends saved → places_in texts ≡ places_of es → length texts ≡ length ends
ends-sized variables names shapes objects settled kept es ends saved texts ended places =
    sym (texts_sized texts) ∙ (ap length places ∙ (done-sized variables names shapes objects settled es ended.dones ended.each ∙ (sym (length-map ended.dones end_of) ∙ ap length (sym ended.told))))

-- the same of equal parts
pub ended-as : (s : Settling) (o : OutputValues) (v w : Entries) (ns ms : List NameView) (h k : ℕ → InstanceKeysView) (p q : StateView) (xs ys : List ActionView) (ds es : List ActionResultView) → AreEnded v ns h p xs ds s o → v ≡ w → ns ≡ ms → h ≡ k → p ≡ q → xs ≡ ys → ds ≡ es → AreEnded w ms k q ys es s o
ended-as s o v w ns ms h k p q xs ys ds es e f g r u t z =
    subst (λ (x : List ActionResultView). AreEnded w ms k q ys x s o) z
    (subst (λ (x : List ActionView). AreEnded w ms k q x ds s o) t
    (subst (λ (x : StateView). AreEnded w ms k x xs ds s o) u
    (subst (λ (x : ℕ → InstanceKeysView). AreEnded w ms x p xs ds s o) r
    (subst (λ (x : List NameView). AreEnded w x h p xs ds s o) g (subst (λ (x : Entries). AreEnded x ns h p xs ds s o) f e)))))
