-- What came of an instance's actions in an apply that went well.
use Rattle.std.proofs.Common.{◌≡◌, ◌∙◌, ◌&&◌, ◌⊎◌, inl, inr, ℕ, zero, suc, Bool, true, false, cond, if◌then◌else◌, List, [], ◌∷◌, ◌++◌, Option, Some, None, option_map, map, refl, sym, ap, subst}
use Rattle.std.specs.List.{AllByRecursion, cons_option, filter_map, find}
use Rattle.std.specs.Option.{option_eq, option_or}
use Rattle.std.specs.Prelude.{Contains, slice_get}
use Rattle.std.specs.Str.{bytes_eq}
use Rattle.tf_plan_data.specs.Action.{ActionView}
use Rattle.tf_walk_report.specs.Change.{ChangeView, applied_of_done, applies_in, change_by, changes_in, destroys_in, left_of_done}
use Rattle.tf_walk_buffers.specs.Head.{AreHeads, Head, IsHeadOf, IsKeyFor, Target, an_instance, an_object, given_with, key_in}
use Rattle.tf_config_address.specs.ResourceAddr.{ResourceAddrView}
use Rattle.tf_config_address.specs.ObjectId.{InstanceKeyView, ObjectIdView}
use Rattle.tf_config_address.specs.Same.{addr_Decides, object_id_Decides, same_instance_key, same_addr, same_object_id}
use Rattle.tf_graph.proofs.Edges.{contains_cases, contains_head, contains_tail}
use Rattle.tf_state_next.proofs.Finding.{found_holds, found_joined}
use Rattle.tf_state_next.specs.Events.{ApplyView, DestroyView, MetadataUpdateView, apply_of_instance, as_apply, is_instance, left_of_deposed, left_of_object}
use Rattle.tf_walk_action.specs.Objects.{object_of}
use Rattle.tf_walk_action.specs.Outcome.{ActionResultView, done_at}
use Rattle.tf_plan_planner.proofs.Objects.{one_key}
use Rattle.tf_plan_data.specs.Fits.{deposed_key, is_apply}
use Rattle.tf_plan_data.specs.Plan.{PlanView}
use Rattle.tf_provider_protocol.specs.Meaning.{Meaning}
use Rattle.tf_state_next.specs.After.{destroy_under, object_at}
use Rattle.tf_state_next.specs.Ends.{ApplyResultView, RecordInputView, LeftView, gone, saved, unplanned}
use Rattle.tf_value_data.proofs.Conjunction.{and-both, and-first, and-second}
use Rattle.tf_laws.proofs.Lists.{nothing_in}
use Rattle.tf_laws.proofs.Members.{same_key}
use Rattle.tf_laws.proofs.Well.{IsDoneWell}

-- each action was done well
abbrev pub AreDoneWell : List Meaning → List ActionView → List ActionResultView → Type 0
AreDoneWell ms [] done = Unit {0}
AreDoneWell ms (a ∷ actions) [] = ⊥
AreDoneWell ms (a ∷ actions) (d ∷ done) = IsDoneWell ms a d × AreDoneWell ms actions done

-- ---- creates and updates

-- an action creates or updates an instance
pub record IsApplyAt (addr : ResourceAddrView) (key : InstanceKeyView) (a : ActionView) : Type 0 where
  pub applies : is_apply a.step ≡ true
  pub addr_is : a.addr ≡ addr
  pub key_is : a.key ≡ key

-- what is found of an instance that an action created or updated
pub record IsApplied (plan : PlanView) (addr : ResourceAddrView) (key : InstanceKeyView) (actions : List ActionView) (done : List ActionResultView) (o : Option ApplyView) : Type 0 where
  pub k : ℕ
  pub a : ActionView
  pub at : slice_get actions k ≡ Some a
  pub is : IsApplyAt addr key a
  pub deposed : Option (List ℕ)
  pub key_for : IsKeyFor plan a deposed
  pub found : o ≡ Some (record { addr = a.addr; given = given_with plan a deposed; applied = saved (object_of (done_at done k), false) })

-- no action created or updated it
pub record IsUnapplied (addr : ResourceAddrView) (key : InstanceKeyView) (actions : List ActionView) (o : Option ApplyView) : Type 0 where
  pub none : (k : ℕ) (a : ActionView) → slice_get actions k ≡ Some a → IsApplyAt addr key a → ⊥
  pub nothing : o ≡ None

module _ (ms : List Meaning) (plan : PlanView) (addr : ResourceAddrView) (key : InstanceKeyView) where
  abbrev test : ApplyView → Bool
  test x = is_instance addr key x.addr x.given.key

  later : (a : ActionView) (actions : List ActionView) (d : ActionResultView) (done : List ActionResultView) (o : Option ApplyView) → (IsApplyAt addr key a → ⊥)
      → IsApplied plan addr key actions done o ⊎ IsUnapplied addr key actions o → IsApplied plan addr key (a ∷ actions) (d ∷ done) o ⊎ IsUnapplied addr key (a ∷ actions) o
  later a actions d done o other (inl x) = inl (record { k = suc x.k; a = x.a; at = x.at; is = x.is; deposed = x.deposed; key_for = x.key_for; found = x.found })
  later a actions d done o other (inr x) = inr (record { none = none; nothing = x.nothing })
    where
      none : (k : ℕ) (b : ActionView) → slice_get (a ∷ actions) k ≡ Some b → IsApplyAt addr key b → ⊥
      none zero b at is = let same : a ≡ b = (cc) in other (subst (IsApplyAt addr key) (sym same) is)
      none (suc k) b at is = x.none k b at is

  found_first : (x : ApplyView) (xs : List ApplyView) (b : Bool) → test x ≡ b → find (λ y. is_instance addr key y.addr y.given.key) (x ∷ xs) ≡ cond b (Some x) (find (λ y. is_instance addr key y.addr y.given.key) xs)
  found_first x xs b e = ap (λ (c : Bool). cond c (Some x) (find (λ y. is_instance addr key y.addr y.given.key) xs)) e

  -- one action, which creates or updates
  one_apply : (a : ActionView) (actions : List ActionView) (h : Head) (d : ActionResultView) (done : List ActionResultView) (rest : List ApplyView) → IsHeadOf plan a h → IsDoneWell ms a d → is_apply a.step ≡ true
      → IsApplied plan addr key actions done (find (λ y. is_instance addr key y.addr y.given.key) rest) ⊎ IsUnapplied addr key actions (find (λ y. is_instance addr key y.addr y.given.key) rest)
      → (o : Option ApplyView) → o ≡ find (λ y. is_instance addr key y.addr y.given.key) (record { addr = h.addr; given = given_with plan a (key_in h.target); applied = applied_of_done ms h.op d } ∷ rest)
      → IsApplied plan addr key (a ∷ actions) (d ∷ done) o ⊎ IsUnapplied addr key (a ∷ actions) o
  one_apply a actions h d done rest head well applies again o e = by_test (is_instance addr key h.addr a.key) refl
    where
      made : ApplyView
      made = record { addr = h.addr; given = given_with plan a (key_in h.target); applied = applied_of_done ms h.op d }

      by_test : (b : Bool) → is_instance addr key h.addr a.key ≡ b → IsApplied plan addr key (a ∷ actions) (d ∷ done) o ⊎ IsUnapplied addr key (a ∷ actions) o
      by_test true is =
          let addr_same : h.addr ≡ addr = (addr_Decides h.addr addr).0 (and-first (same_addr h.addr addr) (same_instance_key a.key key) is) in
          let key_same : a.key ≡ key = one_key a.key key (and-second (same_addr h.addr addr) (same_instance_key a.key key) is) in
          inl
          (record {
            k = 0;
            a = a;
            at = refl;
            is = record { applies = applies; addr_is = sym head.addr ∙ addr_same; key_is = key_same };
            deposed = key_in h.target;
            key_for = head.target.key;
            found =
                e ∙ found_first (record { addr = h.addr; given = given_with plan a (key_in h.target); applied = applied_of_done ms h.op d }) rest true is
                ∙ ap Some (λ i. record { addr = head.addr i; given = given_with plan a (key_in h.target); applied = (ap (λ (op : _). applied_of_done ms op d) head.op ∙ well.applied applies) i });
          })
      by_test false is =
          let same : o ≡ find (λ y. is_instance addr key y.addr y.given.key) rest =
          e ∙ found_first (record { addr = h.addr; given = given_with plan a (key_in h.target); applied = applied_of_done ms h.op d }) rest false is in
          subst (λ (x : Option ApplyView). IsApplied plan addr key (a ∷ actions) (d ∷ done) x ⊎ IsUnapplied addr key (a ∷ actions) x) (sym same)
          (later a actions d done (find (λ y. is_instance addr key y.addr y.given.key) rest)
          (λ at. let yes : is_instance addr key h.addr a.key ≡ true = and-both (same_addr h.addr addr) (same_instance_key a.key key) ((addr_Decides h.addr addr).1 (head.addr ∙ at.addr_is)) (subst (λ (x : InstanceKeyView). same_instance_key a.key x ≡ true) at.key_is (same_key a.key)) in absurd (cc))
          again)

  by_target : (a : ActionView) (h : Head) (b : Bool) (id : ObjectIdView) (applied : ApplyResultView) (left : LeftView) (rest : List ChangeView) → h.target ≡ (if b then an_instance (given_with plan a (key_in h.target)) else an_object id)
      → (b ≡ true → applies_in (change_by h.addr h.target applied left ∷ rest) ≡ record { addr = h.addr; given = given_with plan a (key_in h.target); applied = applied } ∷ applies_in rest)
      × (b ≡ false → applies_in (change_by h.addr h.target applied left ∷ rest) ≡ applies_in rest)
  by_target a h true id applied left rest e = (λ is. ap (λ (t : Target). applies_in (change_by h.addr t applied left ∷ rest)) e, λ is. absurd (cc))
  by_target a h false id applied left rest e = (λ is. absurd (cc), λ is. ap (λ (t : Target). applies_in (change_by h.addr t applied left ∷ rest)) e)

  applied_in : (actions : List ActionView) (heads : List Head) (done : List ActionResultView) → AreHeads plan actions heads → AreDoneWell ms actions done
      → IsApplied plan addr key actions done (find (λ y. is_instance addr key y.addr y.given.key) (applies_in (changes_in ms heads done)))
      ⊎ IsUnapplied addr key actions (find (λ y. is_instance addr key y.addr y.given.key) (applies_in (changes_in ms heads done)))
  applied_in [] [] done are well = inr (record { none = λ k a at is. absurd (cc); nothing = refl })
  applied_in [] (h ∷ heads) done are well = absurd are
  applied_in (a ∷ actions) [] done are well = absurd are
  applied_in (a ∷ actions) (h ∷ heads) [] are well = absurd well
  applied_in (a ∷ actions) (h ∷ heads) (d ∷ done) are well = by_test (is_apply a.step) refl (applied_in actions heads done are.1 well.1)
    where
      by_test : (b : Bool) → is_apply a.step ≡ b
          → IsApplied plan addr key actions done (find (λ y. is_instance addr key y.addr y.given.key) (applies_in (changes_in ms heads done)))
          ⊎ IsUnapplied addr key actions (find (λ y. is_instance addr key y.addr y.given.key) (applies_in (changes_in ms heads done)))
          → IsApplied plan addr key (a ∷ actions) (d ∷ done) (find (λ y. is_instance addr key y.addr y.given.key) (applies_in (changes_in ms (h ∷ heads) (d ∷ done))))
          ⊎ IsUnapplied addr key (a ∷ actions) (find (λ y. is_instance addr key y.addr y.given.key) (applies_in (changes_in ms (h ∷ heads) (d ∷ done))))
      by_test true is again =
          let listed = (by_target a h (is_apply a.step) (object_at a.key (deposed_key a.step)) (applied_of_done ms h.op d) (left_of_done ms d) (changes_in ms heads done) are.0.target.same).0 is in
          one_apply a actions h d done (applies_in (changes_in ms heads done)) are.0 well.0 is again
          (find (λ y. is_instance addr key y.addr y.given.key) (applies_in (changes_in ms (h ∷ heads) (d ∷ done)))) (ap (find (λ y. is_instance addr key y.addr y.given.key)) listed)
      by_test false is again =
          let listed = (by_target a h (is_apply a.step) (object_at a.key (deposed_key a.step)) (applied_of_done ms h.op d) (left_of_done ms d) (changes_in ms heads done) are.0.target.same).1 is in
          subst
          (λ (xs : List ApplyView). IsApplied plan addr key (a ∷ actions) (d ∷ done) (find (λ y. is_instance addr key y.addr y.given.key) xs) ⊎ IsUnapplied addr key (a ∷ actions) (find (λ y. is_instance addr key y.addr y.given.key) xs))
          (sym listed)
          (later a actions d done (find (λ y. is_instance addr key y.addr y.given.key) (applies_in (changes_in ms heads done))) (λ at. let yes = at.applies in absurd (cc)) again)

  -- what a metadata update tells of an instance saves nothing
  abbrev pub IsUnsaved : Option ApplyView → Type 0
  IsUnsaved o = (o ≡ None) ⊎ ((x : ApplyView) × (o ≡ Some x) × (x.applied ≡ unplanned))

  renewals_unplanned : (rs : List MetadataUpdateView) → AllByRecursion (λ x. x.applied ≡ unplanned) (map as_apply rs)
  renewals_unplanned [] = tt
  renewals_unplanned (r ∷ rs) = (refl, renewals_unplanned rs)

  found_renewal : (rs : List MetadataUpdateView) (o : Option ApplyView) → find (λ y. is_instance addr key y.addr y.given.key) (map as_apply rs) ≡ o → IsUnsaved o
  found_renewal rs None e = inl refl
  found_renewal rs (Some x) e = inr (x, refl, found_holds (λ y. y.applied ≡ unplanned) (λ y. is_instance addr key y.addr y.given.key) (map as_apply rs) x (renewals_unplanned rs) e)

  -- What is known of an instance: an action created or updated it, and saved what was answered; or none did, and it is told
  -- what the metadata updates say.
  pub told_in : (actions : List ActionView) (heads : List Head) (done : List ActionResultView) (rs : List MetadataUpdateView) → AreHeads plan actions heads → AreDoneWell ms actions done
      → IsApplied plan addr key actions done (apply_of_instance addr key (applies_in (changes_in ms heads done) ++ map as_apply rs))
      ⊎ (((k : ℕ) (a : ActionView) → slice_get actions k ≡ Some a → IsApplyAt addr key a → ⊥)
      × (apply_of_instance addr key (applies_in (changes_in ms heads done) ++ map as_apply rs) ≡ apply_of_instance addr key (map as_apply rs)))
  told_in actions heads done rs are well =
      let test_of = λ (y : ApplyView). is_instance addr key y.addr y.given.key in
      let applies = applies_in (changes_in ms heads done) in
      let joined = found_joined test_of applies (map as_apply rs) in
      elim (applied_in actions heads done are well) [
        | inl x ↦ inl (record { k = x.k; a = x.a; at = x.at; is = x.is; deposed = x.deposed; key_for = x.key_for; found = joined ∙ ap (λ (o : Option ApplyView). option_or o (find test_of (map as_apply rs))) x.found })
        | inr x ↦ inr (x.none, joined ∙ ap (λ (o : Option ApplyView). option_or o (find test_of (map as_apply rs))) x.nothing)
      ]

  -- so either it was saved or nothing was
  pub wanted_in : (actions : List ActionView) (heads : List Head) (done : List ActionResultView) (rs : List MetadataUpdateView) → AreHeads plan actions heads → AreDoneWell ms actions done
      → IsApplied plan addr key actions done (apply_of_instance addr key (applies_in (changes_in ms heads done) ++ map as_apply rs))
      ⊎ (((k : ℕ) (a : ActionView) → slice_get actions k ≡ Some a → IsApplyAt addr key a → ⊥) × IsUnsaved (apply_of_instance addr key (applies_in (changes_in ms heads done) ++ map as_apply rs)))
  wanted_in actions heads done rs are well = elim (told_in actions heads done rs are well) [
    | inl x ↦ inl x
    | inr x ↦ inr (x.0, subst IsUnsaved (sym x.1) (found_renewal rs (apply_of_instance addr key (map as_apply rs)) refl))
  ]

-- ---- destroys

-- an action destroys an object
pub record IsDestroyOf (addr : ResourceAddrView) (id : ObjectIdView) (a : ActionView) : Type 0 where
  pub destroys : is_apply a.step ≡ false
  pub addr_is : a.addr ≡ addr
  pub object_is : object_at a.key (deposed_key a.step) ≡ id

module _ (ms : List Meaning) (plan : PlanView) (addr : ResourceAddrView) (id : ObjectIdView) where
  abbrev pub IsLeft : List ActionView → Option LeftView → Type 0
  IsLeft actions o = ((a : ActionView) × Contains actions a × IsDestroyOf addr id a × (o ≡ Some gone)) ⊎ (((a : ActionView) → Contains actions a → IsDestroyOf addr id a → ⊥) × (o ≡ None))

  left_later : (a : ActionView) (actions : List ActionView) (o : Option LeftView) → (IsDestroyOf addr id a → ⊥) → IsLeft actions o → IsLeft (a ∷ actions) o
  left_later a actions o other (inl x) = inl (x.0, contains_tail x.0 a actions x.1, x.2, x.3)
  left_later a actions o other (inr x) = inr (none, x.1)
    where
      none : (b : ActionView) → Contains (a ∷ actions) b → IsDestroyOf addr id b → ⊥
      none b c is = elim (contains_cases b a actions c) [
        | inl here ↦ other (subst (IsDestroyOf addr id) (sym here) is)
        | inr rest ↦ x.0 b rest is
      ]

  left_first : (d : DestroyView) (ds : List DestroyView) (b : Bool) → (same_addr d.addr addr && same_object_id d.id id) ≡ b → left_of_object addr id (d ∷ ds) ≡ cond b (Some d.left) (left_of_object addr id ds)
  left_first d ds true e = ap (λ (c : Bool). option_map (λ (x : DestroyView). x.left) (cond c (Some d) (find (λ x. same_addr x.addr addr && same_object_id x.id id) ds))) e
  left_first d ds false e = ap (λ (c : Bool). option_map (λ (x : DestroyView). x.left) (cond c (Some d) (find (λ x. same_addr x.addr addr && same_object_id x.id id) ds))) e

  one_destroy : (a : ActionView) (actions : List ActionView) (h : Head) (left : LeftView) (rest : List DestroyView) → h.addr ≡ a.addr → left ≡ gone → is_apply a.step ≡ false → IsLeft actions (left_of_object addr id rest)
      → IsLeft (a ∷ actions) (left_of_object addr id (record { addr = h.addr; id = object_at a.key (deposed_key a.step); left = left } ∷ rest))
  one_destroy a actions h left rest head is_gone destroys again = by_test (same_addr h.addr addr && same_object_id (object_at a.key (deposed_key a.step)) id) refl
    where
      by_test : (b : Bool) → (same_addr h.addr addr && same_object_id (object_at a.key (deposed_key a.step)) id) ≡ b
          → IsLeft (a ∷ actions) (left_of_object addr id (record { addr = h.addr; id = object_at a.key (deposed_key a.step); left = left } ∷ rest))
      by_test true is =
          let addr_same : h.addr ≡ addr = (addr_Decides h.addr addr).0 (and-first (same_addr h.addr addr) (same_object_id (object_at a.key (deposed_key a.step)) id) is) in
          let object_same : object_at a.key (deposed_key a.step) ≡ id = (object_id_Decides (object_at a.key (deposed_key a.step)) id).0 (and-second (same_addr h.addr addr) (same_object_id (object_at a.key (deposed_key a.step)) id) is) in
          inl (
            a,
            contains_head a a actions refl,
            record { destroys = destroys; addr_is = sym head ∙ addr_same; object_is = object_same },
            left_first (record { addr = h.addr; id = object_at a.key (deposed_key a.step); left = left }) rest true is ∙ ap Some is_gone,
          )
      by_test false is =
          subst (IsLeft (a ∷ actions)) (sym (left_first (record { addr = h.addr; id = object_at a.key (deposed_key a.step); left = left }) rest false is))
          (left_later a actions (left_of_object addr id rest)
          (λ of.
          let yes = and-both (same_addr h.addr addr) (same_object_id (object_at a.key (deposed_key a.step)) id) ((addr_Decides h.addr addr).1 (head ∙ of.addr_is)) ((object_id_Decides (object_at a.key (deposed_key a.step)) id).1 of.object_is) in
          absurd (cc))
          again)

  destroys_by_target : (a : ActionView) (h : Head) (b : Bool) (given : RecordInputView) (applied : ApplyResultView) (left : LeftView) (rest : List ChangeView) → h.target ≡ (if b then an_instance given else an_object (object_at a.key (deposed_key a.step)))
      → (b ≡ false → destroys_in (change_by h.addr h.target applied left ∷ rest) ≡ record { addr = h.addr; id = object_at a.key (deposed_key a.step); left = left } ∷ destroys_in rest)
      × (b ≡ true → destroys_in (change_by h.addr h.target applied left ∷ rest) ≡ destroys_in rest)
  destroys_by_target a h true given applied left rest e = (λ is. absurd (cc), λ is. ap (λ (t : Target). destroys_in (change_by h.addr t applied left ∷ rest)) e)
  destroys_by_target a h false given applied left rest e = (λ is. ap (λ (t : Target). destroys_in (change_by h.addr t applied left ∷ rest)) e, λ is. absurd (cc))

  -- What is left of an object: it is gone where an action destroyed it, and nothing is told of it where none did.
  pub left_in : (actions : List ActionView) (heads : List Head) (done : List ActionResultView) → AreHeads plan actions heads → AreDoneWell ms actions done → IsLeft actions (left_of_object addr id (destroys_in (changes_in ms heads done)))
  left_in [] [] done are well = inr (λ a c is. nothing_in a c, refl)
  left_in [] (h ∷ heads) done are well = absurd are
  left_in (a ∷ actions) [] done are well = absurd are
  left_in (a ∷ actions) (h ∷ heads) [] are well = absurd well
  left_in (a ∷ actions) (h ∷ heads) (d ∷ done) are well = by_test (is_apply a.step) refl (left_in actions heads done are.1 well.1)
    where
      by_test : (b : Bool) → is_apply a.step ≡ b → IsLeft actions (left_of_object addr id (destroys_in (changes_in ms heads done))) → IsLeft (a ∷ actions) (left_of_object addr id (destroys_in (changes_in ms (h ∷ heads) (d ∷ done))))
      by_test false is again =
          let listed = (destroys_by_target a h (is_apply a.step) (given_with plan a (key_in h.target)) (applied_of_done ms h.op d) (left_of_done ms d) (changes_in ms heads done) are.0.target.same).0 is in
          subst (λ (xs : List DestroyView). IsLeft (a ∷ actions) (left_of_object addr id xs)) (sym listed)
          (one_destroy a actions h (left_of_done ms d) (destroys_in (changes_in ms heads done)) are.0.addr (well.0.destroyed is) is again)
      by_test true is again =
          let listed = (destroys_by_target a h (is_apply a.step) (given_with plan a (key_in h.target)) (applied_of_done ms h.op d) (left_of_done ms d) (changes_in ms heads done) are.0.target.same).1 is in
          subst (λ (xs : List DestroyView). IsLeft (a ∷ actions) (left_of_object addr id xs)) (sym listed)
          (left_later a actions (left_of_object addr id (destroys_in (changes_in ms heads done))) (λ of. let no = of.destroys in absurd (cc)) again)

-- ---- what is told of a deposed object by its key

deposed_step : (x y : Bool) (o : Option (List ℕ)) (left : LeftView) (k : List ℕ) (rest : List (List ℕ × LeftView)) (found : Option LeftView) → destroy_under k rest ≡ found
    → destroy_under k (cons_option (if x && y then option_map (λ s. (s, left)) o else None) rest) ≡ cond (x && (y && option_eq bytes_eq o (Some k))) (Some left) found
deposed_step false y o left k rest found h = h
deposed_step true false o left k rest found h = h
deposed_step true true None left k rest found h = h
deposed_step true true (Some s) left k rest found h = by_test (bytes_eq s k)
  where
    by_test : (b : Bool) → option_map (λ (d : List ℕ × LeftView). d.1) (cond b (Some (s, left)) (find (λ d. bytes_eq d.0 k) rest)) ≡ cond b (Some left) found
    by_test true = refl
    by_test false = h

-- it is what is told of the object
pub deposed_left : (addr : ResourceAddrView) (key : InstanceKeyView) (k : List ℕ) (ds : List DestroyView) → destroy_under k (filter_map (left_of_deposed addr key) ds) ≡ left_of_object addr (object_at key (Some k)) ds
deposed_left addr key k [] = refl
deposed_left addr key k (d ∷ ds) =
    deposed_step (same_addr d.addr addr) (same_instance_key d.id.key key) d.id.deposed d.left k (filter_map (left_of_deposed addr key) ds) (left_of_object addr (object_at key (Some k)) ds) (deposed_left addr key k ds)
    ∙ sym (turned (same_addr d.addr addr && same_object_id d.id (object_at key (Some k))))
  where
    turned : (b : Bool) → option_map (λ (x : DestroyView). x.left) (cond b (Some d) (find (λ x. same_addr x.addr addr && same_object_id x.id (object_at key (Some k))) ds)) ≡ cond b (Some d.left) (left_of_object addr (object_at key (Some k)) ds)
    turned true = refl
    turned false = refl
