-- Reading and judging member after member, and element after element.
use Rattle.std.proofs.Common.{◌≡◌, refl, [], ℕ, zero, suc, ◌+◌, ◌<◌, List, ◌∷◌, ◌++◌, length, get_or, take, string_bytes, sym, ap, ◌∙◌, subst, append_assoc, add-one, arith}
use Rattle.std.specs.Fmt.{decimal}
use Rattle.serde_json.proofs.Views.{Entry}
use Rattle.serde_json.specs.Data.{Data}
use Rattle.serde_json.specs.View.{view, items_view, members_view}
use Rattle.serde_json.specs.declared.value.Value.{Value}
use Rattle.tf_config_refusal.proofs.Walks.{Builds-met, builds_more}
use Rattle.tf_config_refusal.specs.Walk.{each, each_item, Builds}
use Rattle.tf_config_json.proofs.Fits.{items_met}
use Rattle.tf_config_json.proofs.Refusals.{Refuses-at, Refuses-at_item}
use Rattle.tf_config_json.specs.Building.{IsSound}
use Rattle.tf_config_json.specs.Configuration.{PropertyChecks, below}
use Rattle.tf_config_json.specs.Demand.{IsMet, Refuses}
use Rattle.tf_config_json.specs.Parts.{PartChecks, IsPartSound, element_checks, EachSays}
use Rattle.tf_config_refusal.specs.Refusal.{RefusalView}

-- some members were passed, left is what comes behind them, and this holds of those passed
abbrev pub ArePassed : (List Entry → Type 0) → (all left : List Entry) → Type 0
ArePassed Holds all left = (done : List Entry) × (all ≡ done ++ left) × Holds done

module _ (B : Type 0) (Step : List ℕ → Data → B → B → Type 0) (a : B) where
  -- some members were read
  abbrev pub AreRead : (all left : List Entry) (b : B) → Type 0
  AreRead all left b = ArePassed (λ done. Builds Step (members_view done) a b) all left

  -- the first fault of an object is that of the next member, where that can't be read
  pub refused_next : (checks : PropertyChecks) → IsSound Step checks → (place : List (List ℕ)) (all left : List Entry) (e : Entry) (more : List Entry) (b : B) (t : RefusalView)
      → AreRead all left b → left ≡ e ∷ more → Refuses (checks (string_bytes e.0 ∷ place) (string_bytes e.0) (view e.1)) t → Refuses (each (below checks place) (members_view all)) t
  refused_next checks sound place all left e more b t (done, is, builds) steps first =
      rw (is ∙ ap (λ es. done ++ es) steps)
      (Refuses-at (below checks place) done e more t (Builds-met Step IsMet (below checks place) (λ k d a b. sound k (k ∷ place) d a b) (members_view done) a b builds) first)

  -- one member more was read
  pub read_next : (all left : List Entry) (e : Entry) (more : List Entry) (b c : B) → AreRead all left b → left ≡ e ∷ more → Step (string_bytes e.0) (view e.1) b c → AreRead all more c
  read_next all left e more b c (done, is, builds) steps adds =
      (done ++ e ∷ [], is ∙ ap (λ es. done ++ es) steps ∙ sym (append_assoc done (e ∷ []) more), builds_more Step done e a b c builds adds)

-- one element more says what it says
says_more_at : {A : Type 0} (Says : Data → A → Type 0) (vs : List Value) (xs : List A) (i : ℕ) (v : Value) (x : A) → i < length vs → v ≡ get_or vs i v
    → EachSays Says (items_view (take i vs)) xs → Says (view v) x → EachSays Says (items_view (take (suc i) vs)) (xs ++ x ∷ [])
says_more_at Says [] xs i v x within is h more = absurd (omega arith)
says_more_at Says (w ∷ vs) [] zero v x within is h more = (subst (λ y. Says (view y) x) is more, tt)
says_more_at Says (w ∷ vs) (y ∷ xs) zero v x within is h more = absurd h
says_more_at Says (w ∷ vs) [] (suc i) v x within is h more = absurd h
says_more_at Says (w ∷ vs) (y ∷ xs) (suc i) v x within is h more = (h.0, says_more_at Says vs xs i v x (omega arith) is h.1 more)

says_more : {A : Type 0} (Says : Data → A → Type 0) (vs : List Value) (xs : List A) (i : ℕ) (v : Value) (x : A) → i < length vs → v ≡ get_or vs i v
    → EachSays Says (items_view (take i vs)) xs → Says (view v) x → EachSays Says (items_view (take (i + 1) vs)) (xs ++ x ∷ [])
says_more Says vs xs i v x within is h more = rw add-one (says_more_at Says vs xs i v x within is h more)

module _ (A : Type 0) (checks : PartChecks) (Says : Data → A → Type 0)
    (vs : List Value) (xs : List A) (i : ℕ) (v : Value) (within : i < length vs) (is : v ≡ get_or vs i v) (read : EachSays Says (items_view (take i vs)) xs) where
  -- one element more was read
  pub element_more : (x : A) → Says (view v) x → EachSays Says (items_view (take (i + 1) vs)) (xs ++ x ∷ [])
  element_more x more = says_more Says vs xs i v x within is read more

  -- the first fault of an array is that of the next element, where that can't be read
  pub element_refused : IsPartSound Says checks → (place : List (List ℕ)) (t : RefusalView) → Refuses (checks (decimal i ∷ place) (view v)) t → Refuses (each_item (element_checks checks place) 0 (items_view vs)) t
  element_refused sound place t first =
      let here : 0 + i ≡ i = omega arith in
      let at_place : element_checks checks place i (view v) ≡ element_checks checks place (0 + i) (view (get_or vs i v)) = rw (here, ← is) refl in
      Refuses-at_item (element_checks checks place) vs 0 i v t within (items_met A checks Says sound place 0 (items_view (take i vs)) xs read) (subst (λ cs. Refuses cs t) at_place first)
