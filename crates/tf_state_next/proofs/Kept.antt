-- Nothing is forgotten.
use Rattle.std.proofs.Common.{◌≡◌, ℕ, ◌⊎◌, inl, inr, Bool, true, false, cond, List, Option, Some, None, option_map, refl, sym, ap, ◌∙◌}
use Rattle.std.proofs.lemmas.Slice.Eq.{bytes_eq-Decides}
use Rattle.std.specs.Option.{option_eq, option_or}
use Rattle.std.specs.Prelude.{bytes_eq}
use Rattle.tf_state_next.specs.After.{Places, after_destroy, as_deposed, current_after, deposed_anew, destroy_under, record_of_saved, renewed}
use Rattle.tf_state_next.specs.Ends.{SavedView, LeftView, gone, changed, unchanged, ApplyResultView, unwanted, unplanned, nothing, saved, InstanceResultView, RecordInputView}
use Rattle.tf_state_next.specs.ObjectLaws.{DeposedStay, IsKept, IsOrderly, NothingIsForgotten, Tells, destroy_at}
use Rattle.tf_state_data.specs.Record.{RecordView}

-- a key that is given and the one of a deposed object
given_same : (to : Option (List ℕ)) (key : List ℕ) → option_eq bytes_eq to (Some key) ≡ true → to ≡ Some key
given_same None key e = absurd (cc)
given_same (Some k) key e = ap Some ((bytes_eq-Decides k key).0 e)

same_itself : (key : List ℕ) → bytes_eq key key ≡ true
same_itself key = (bytes_eq-Decides key key).1 refl

-- no object becomes deposed under the key of one that is deposed
none_at : (key : List ℕ) (left : Option RecordView) (to : Option (List ℕ)) (b : Bool) → option_eq bytes_eq to (Some key) ≡ b → ¬ (to ≡ Some key) → cond b (option_map (as_deposed key) left) None ≡ None
none_at key left to true e not = absurd (not (given_same to key e))
none_at key left to false e not = refl

none_anew : (g : RecordInputView) (a : ApplyResultView) (left : Option RecordView) (key : List ℕ) → ¬ (g.deposed_key ≡ Some key) → deposed_anew g a left key ≡ None
none_anew g (saved s) left key not = none_at key left g.deposed_key (option_eq bytes_eq g.deposed_key (Some key)) refl not
none_anew g unplanned left key not = refl
none_anew g nothing left key not = refl
none_anew g unwanted left key not = refl

pub deposed_stay : DeposedStay
deposed_stay g ends before key old orderly is =
    let not : ¬ (g.deposed_key ≡ Some key) = λ e. let none : Some old ≡ None = sym is ∙ orderly.free key e in absurd (cc) in
    ap (λ o. option_or o (after_destroy (destroy_under key ends.deposed) (before (Some key)))) (none_anew g ends.applied (after_destroy ends.destroyed (before None)) key not)
    ∙ ap (after_destroy (destroy_under key ends.deposed)) is

-- what is left of a record, unless it is gone
record IsLeft (destroyed : Option LeftView) (old : RecordView) : Type 0 where
  new : RecordView
  is : after_destroy destroyed (Some old) ≡ Some new
  tells : (new.attributes ≡ old.attributes) ⊎ (destroyed ≡ Some (changed new.attributes))

left : (destroyed : Option LeftView) (old : RecordView) → ¬ (destroyed ≡ Some gone) → IsLeft destroyed old
left None old not = record { new = old; is = refl; tells = inl refl }
left (Some gone) old not = absurd (not refl)
left (Some (changed t)) old not = record { new = record old { attributes = t }; is = refl; tells = inr refl }
left (Some unchanged) old not = record { new = old; is = refl; tells = inl refl }

-- a record that is left and is changed otherwise tells the same
told : (ends : InstanceResultView) (place : Option (List ℕ)) (old new : RecordView) → (new.attributes ≡ old.attributes) ⊎ (destroy_at ends place ≡ Some (changed new.attributes)) → Tells ends place old new
told ends place old new (inl e) = inl e
told ends place old new (inr e) = inr (inl e)

kept_deposed : (g : RecordInputView) (ends : InstanceResultView) (before : Places) (key : List ℕ) (old : RecordView) → IsOrderly g ends before → before (Some key) ≡ Some old → ¬ (destroy_under key ends.deposed ≡ Some gone) → IsKept g ends before (Some key) old
kept_deposed g ends before key old orderly is not =
    let l = left (destroy_under key ends.deposed) old not in
    record { where_now = Some key; new = l.new; there = deposed_stay g ends before key old orderly is ∙ l.is; in_place = inl refl; tells = told ends (Some key) old l.new l.tells }

-- the current object, where it is what its destroy left
stays_current : (g : RecordInputView) (ends : InstanceResultView) (before : Places) (old : RecordView) (change : RecordView → RecordView) → ((r : RecordView) → (change r).attributes ≡ r.attributes) → before None ≡ Some old
    → ((o : Option RecordView) → current_after g ends.applied o ≡ option_map change o) → ¬ (ends.destroyed ≡ Some gone) → IsKept g ends before None old
stays_current g ends before old change same is what not =
    let l = left ends.destroyed old not in
    record {
      where_now = None;
      new = change l.new;
      there = what (after_destroy ends.destroyed (before None)) ∙ ap (λ o. option_map change (after_destroy ends.destroyed o)) is ∙ ap (option_map change) l.is;
      in_place = inl refl;
      tells = told ends None old (change l.new) (elim l.tells [ inl e ↦ inl (same l.new ∙ e) | inr e ↦ inr (e ∙ ap (λ t. Some (changed t)) (sym (same l.new))) ]);
    }

as_it_was : (o : Option RecordView) → o ≡ option_map (λ r. r) o
as_it_was None = refl
as_it_was (Some r) = refl

-- the old object, where another was saved in its place
becomes_deposed : (g : RecordInputView) (ends : InstanceResultView) (before : Places) (old : RecordView) (s : SavedView) (key : List ℕ) → before None ≡ Some old → ends.applied ≡ saved s → g.deposed_key ≡ Some key
    → ¬ (ends.destroyed ≡ Some gone) → IsKept g ends before None old
becomes_deposed g ends before old s key is applied given not =
    let l = left ends.destroyed old not in
    let left_is : after_destroy ends.destroyed (before None) ≡ Some l.new = ap (after_destroy ends.destroyed) is ∙ l.is in
    let at : deposed_anew g ends.applied (after_destroy ends.destroyed (before None)) key ≡ Some (as_deposed key l.new) =
    ap (λ a. deposed_anew g a (after_destroy ends.destroyed (before None)) key) applied
    ∙ ap (λ to. cond (option_eq bytes_eq to (Some key)) (option_map (as_deposed key) (after_destroy ends.destroyed (before None))) None) given
    ∙ ap (λ b. cond b (option_map (as_deposed key) (after_destroy ends.destroyed (before None))) None) (same_itself key) ∙ ap (option_map (as_deposed key)) left_is in
    record {
      where_now = Some key;
      new = as_deposed key l.new;
      there = ap (λ o. option_or o (after_destroy (destroy_under key ends.deposed) (before (Some key)))) at;
      in_place = inr (refl, sym given);
      tells = told ends None old (as_deposed key l.new) l.tells;
    }

-- an object that was updated
updated : (g : RecordInputView) (ends : InstanceResultView) (before : Places) (old : RecordView) (s : SavedView) → ends.applied ≡ saved s → ends.destroyed ≡ None → IsKept g ends before None old
updated g ends before old s applied destroyed =
    record {
      where_now = None;
      new = record_of_saved g s;
      there = ap (λ a. current_after g a (after_destroy ends.destroyed (before None))) applied;
      in_place = inl refl;
      tells = inr (inr (destroyed, applied));
    }

replaced : (g : RecordInputView) (ends : InstanceResultView) (before : Places) (old : RecordView) (s : SavedView) (l : LeftView) (to : Option (List ℕ)) → IsOrderly g ends before → before None ≡ Some old → ends.applied ≡ saved s
    → ends.destroyed ≡ Some l → g.deposed_key ≡ to → ¬ (ends.destroyed ≡ Some gone) → IsKept g ends before None old
replaced g ends before old s l None orderly is applied destroyed given not = absurd (not (destroyed ∙ ap Some (orderly.first s l given applied destroyed)))
replaced g ends before old s l (Some key) orderly is applied destroyed given not = becomes_deposed g ends before old s key is applied given not

kept_current : (g : RecordInputView) (ends : InstanceResultView) (before : Places) (old : RecordView) (a : ApplyResultView) (d : Option LeftView) → ends.applied ≡ a → ends.destroyed ≡ d → IsOrderly g ends before → before None ≡ Some old
    → ¬ (ends.destroyed ≡ Some gone) → IsKept g ends before None old
kept_current g ends before old (saved s) None applied destroyed orderly is not = updated g ends before old s applied destroyed
kept_current g ends before old (saved s) (Some l) applied destroyed orderly is not = replaced g ends before old s l g.deposed_key orderly is applied destroyed refl not
kept_current g ends before old unplanned d applied destroyed orderly is not =
    stays_current g ends before old (renewed g.dependencies g.create_before_destroy) (λ r. refl) is (λ o. ap (λ a. current_after g a o) applied) not
kept_current g ends before old nothing d applied destroyed orderly is not =
    stays_current g ends before old (λ r. r) (λ r. refl) is (λ o. ap (λ a. current_after g a o) applied ∙ as_it_was o) not
kept_current g ends before old unwanted d applied destroyed orderly is not =
    stays_current g ends before old (λ r. r) (λ r. refl) is (λ o. ap (λ a. current_after g a o) applied ∙ as_it_was o) not

pub none_forgotten : NothingIsForgotten
none_forgotten g ends before None old orderly is not = kept_current g ends before old ends.applied ends.destroyed refl refl orderly is not
none_forgotten g ends before (Some key) old orderly is not = kept_deposed g ends before key old orderly is not
