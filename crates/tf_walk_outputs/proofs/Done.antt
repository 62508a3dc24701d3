-- What comes of an output, and of one after another.
use Rattle.std.proofs.Common.{◌≡◌, ℕ, nat_cmp, cond, Bool, true, false, if◌then◌else◌, List, [], ◌∷◌, ◌++◌, length, map, String, Ok, Err, Ordering, Less, Equal, Greater, MatchBool, string_bytes, string_cmp, inl, inr, refl, sym, ap, subst, ◌∙◌, append_assoc, ◌+◌, arith}
use Rattle.std.proofs.lemmas.List.{append-nil, length_push}
use Rattle.std.proofs.lemmas.Map.Text.{is_eq-slice_cmp}
use Rattle.std.specs.BTreeMap.{insert_entry, is_at}
use Rattle.std.specs.Map.{remove_entry}
use Rattle.std.specs.Cmp.Lexicographic.{slice_cmp}
use Rattle.std.specs.List.{AllByRecursion}
use Rattle.std.specs.List.Sorted.{IsStrictlySortedBy}
use Rattle.std.specs.Str.{bytes_eq}
use Rattle.std.specs.Ordering.{match_ordering}
use Rattle.std.specs.declared.alloc.Global.{Global}
use Rattle.tf_config_address.specs.ObjectId.{InstanceKeyView}
use Rattle.tf_config_data.specs.Names.{NameView, places, directly_before}
use Rattle.tf_expand_keys.specs.InstanceKeys.{InstanceKeysView}
use Rattle.tf_expand_keys.specs.Stages.{applying}
use Rattle.tf_expand_keys.specs.Resolved.{ResolvedView, AreResolvedNames, environment, rule}
use Rattle.tf_expr_eval.specs.ExprMeaning.{meaning}
use Rattle.tf_graph.proofs.Solving.{solution-exists}
use Rattle.tf_graph.specs.Solutions.{Ranked, seen_by}
use Rattle.tf_expr_operators.specs.Answer.{Answer}
use Rattle.tf_expr_syntax.specs.declared.fault.EvalFault.{EvalFault}
use Rattle.tf_expr_syntax.specs.declared.fault.EvalFault.TheVariants.{TooLarge}
use Rattle.tf_walk_outputs.specs.Keeping.{IsKept, IsSameOrExcused, MayBeSaved}
use Rattle.tf_walk_outputs.specs.Outputs.{OutputResultView, not_evaluated, excused, valued, faulted, done_with, IsEvaluated, IsMeant, IsOutputDone, AreOutputsDone, AreOutputsEnded, end_of, is_null, with_output, with_outputs, without}
use Rattle.tf_walk_outputs.specs.Settled.{all_settled, names_are_settled}
use Rattle.tf_walk_outputs.specs.declared.ends.OutputResult.{OutputResult}
use Rattle.tf_walk_names.specs.Resolving.{IsOutput, without_sets}
use Rattle.tf_state_data.specs.State.{outputs_of}
use Rattle.tf_state_data.specs.declared.object.Object.{Object}
use Rattle.tf_expr_syntax.specs.ExprNames.{named_by}
use Rattle.tf_expr_syntax.specs.ExprTree as expr
use Rattle.tf_value_data.proofs.Tables.{table-put}
use Rattle.tf_value_data.proofs.WithLists.{lists-no_set}
use Rattle.tf_value_data.specs.Measure.{is_within}
use Rattle.tf_value_data.specs.Nulls.{with_nulls}
use Rattle.tf_value_data.specs.Sets.{has_no_set, with_lists}
use Rattle.tf_value_data.specs.Stored.{EachMayBeStored, IsTable}
use Rattle.tf_value_data.specs.Tree.{Tree, Entries, no_entries, entry, keys_of, put, tree_of}
use Rattle.tf_value_data.specs.declared.value.Value.{Value}

outputs_of-match_ordering : (o : Ordering) (a b c : List (String Global × Object)) → outputs_of (match_ordering o a b c) ≡ match_ordering o (outputs_of a) (outputs_of b) (outputs_of c)
outputs_of-match_ordering Less a b c = refl
outputs_of-match_ordering Equal a b c = refl
outputs_of-match_ordering Greater a b c = refl

-- an output that is put into a map
pub outputs_of-insert_entry : (es : List (String Global × Object)) (k : String Global) (o : Object) → outputs_of (insert_entry string_cmp es k o) ≡ put (string_bytes k) (tree_of o.value) (outputs_of es)
outputs_of-insert_entry [] k o = refl
outputs_of-insert_entry (e ∷ es) k o = outputs_of-match_ordering (string_cmp k e.0) _ _ _ ∙ rw (outputs_of-insert_entry es k o)

-- an output that is taken out of a map
outputs_of-cond : (b : Bool) (xs ys : List (String Global × Object)) → outputs_of (cond b xs ys) ≡ (if b then outputs_of xs else outputs_of ys)
outputs_of-cond true xs ys = refl
outputs_of-cond false xs ys = refl

pub outputs_of-remove_entry : (es : List (String Global × Object)) (test : String Global → Bool) (name : List ℕ) → ((k : String Global) → test k ≡ bytes_eq name (string_bytes k)) → outputs_of (remove_entry test es) ≡ without name (outputs_of es)
outputs_of-remove_entry [] test name same = refl
outputs_of-remove_entry (e ∷ es) test name same = outputs_of-cond (test e.0) es (e ∷ remove_entry test es) ∙ rw (same e.0, outputs_of-remove_entry es test name same) refl

-- the same where the name is compared as a text
pub outputs_of-removed : (es : List (String Global × Object)) (text name : List ℕ) → text ≡ name → outputs_of (remove_entry (is_at (λ k. slice_cmp nat_cmp text (string_bytes k))) es) ≡ without name (outputs_of es)
outputs_of-removed es text name same =
    outputs_of-remove_entry es (is_at (λ k. slice_cmp nat_cmp text (string_bytes k))) name (λ k. is_eq-slice_cmp text (string_bytes k) ∙ ap (λ t. bytes_eq t (string_bytes k)) same)

pub null_left : (b : Bool) (es fs : Entries) → b ≡ true → ◌≡◌ {A = Entries} es (if b then es else fs)
null_left true es fs h = refl
null_left false es fs h = absurd (cc)

pub other_put : (b : Bool) (es fs : Entries) → b ≡ false → ◌≡◌ {A = Entries} fs (if b then es else fs)
other_put false es fs h = refl
other_put true es fs h = absurd (cc)

-- null takes what was there away, and any other value is put
pub kept_null : (name : List ℕ) (t : Tree) (end : OutputResult) (before after : Entries) → is_null t ≡ true → end ≡ end_of (valued t) → after ≡ without name before → IsKept name (valued t) end before after
kept_null name t end before after null told same =
    record { kept = valued t; same = inl refl; told = told; saves = same ∙ null_left (is_null t) (without name before) (put name t before) null }

pub kept_value : (name : List ℕ) (t : Tree) (end : OutputResult) (before after : Entries) → is_null t ≡ false → end ≡ end_of (valued t) → after ≡ put name t before → IsKept name (valued t) end before after
kept_value name t end before after other told put_in =
    record { kept = valued t; same = inl refl; told = told; saves = put_in ∙ other_put (is_null t) (without name before) (put name t before) other }

-- a value without sets
pub listed_no_set : (a : Answer) (t : Tree) → without_sets a ≡ Ok t → has_no_set t ≡ true
listed_no_set (Ok u) t h = let is : with_lists u ≡ t = (cc) in subst (λ v. has_no_set v ≡ true) is (lists-no_set u)
listed_no_set (Err why) t h = absurd (cc)

match_true : (b : Bool) (P Q : Type 0) → b ≡ true → P → MatchBool b P Q
match_true true P Q h p = p
match_true false P Q h p = absurd (cc)

match_false : (b : Bool) (P Q : Type 0) → b ≡ false → Q → MatchBool b P Q
match_false false P Q h q = q
match_false true P Q h q = absurd (cc)

module _ (variables : Entries) (names : List NameView) (shapes : ℕ → InstanceKeysView) (objects : ℕ → InstanceKeyView → Tree) where
  abbrev pub OutputMeans : expr.Tree → Answer → Type 0
  OutputMeans e a = (resolved_names : ℕ → ResolvedView) → AreResolvedNames (applying shapes objects) variables names resolved_names → without_sets (meaning (environment variables names resolved_names) e) ≡ a

  -- the value of an output has no set in it
  pub output_no_set : Ranked (directly_before names) → (e : expr.Tree) (v : Value) → IsOutput variables names shapes objects e (Ok v) → has_no_set (tree_of v) ≡ true
  output_no_set ranked e v output =
      let there = solution-exists (length names) (directly_before names) (rule (applying shapes objects) variables names) ranked in
      listed_no_set (meaning (environment variables names there.0) e) (tree_of v) (output there.0 there.1)

  -- where no name needs itself, names stand for something
  meant_by : Ranked (directly_before names) → (e : expr.Tree) (d : OutputResultView)
      → ((resolved_names : ℕ → ResolvedView) → AreResolvedNames (applying shapes objects) variables names resolved_names → d ≡ done_with (without_sets (meaning (environment variables names resolved_names) e)))
      → IsMeant variables names shapes objects e d
  meant_by ranked e d means =
      let there = solution-exists (length names) (directly_before names) (rule (applying shapes objects) variables names) ranked in
      record { resolved_names = there.0; are_standings = there.1; means = means }

  evaluated_value : Ranked (directly_before names) → (e : expr.Tree) (t : Tree) (b : Bool) (d : OutputResultView) → is_within t ≡ b → OutputMeans e (Ok t)
      → IsSameOrExcused (if b then valued (with_nulls t) else faulted TooLarge) d → IsEvaluated variables names shapes objects e d
  evaluated_value ranked e t true d within means (inl is) =
      subst (IsEvaluated variables names shapes objects e) (sym is) (meant_by ranked e (valued (with_nulls t)) (λ resolved_names stand. rw (means resolved_names stand, within) refl))
  evaluated_value ranked e t true d within means (inr is) = subst (IsEvaluated variables names shapes objects e) (sym is) tt
  evaluated_value ranked e t false d within means is =
      subst (IsEvaluated variables names shapes objects e) (sym is) (meant_by ranked e (faulted TooLarge) (λ resolved_names stand. rw (means resolved_names stand, within) refl))

  module _ (settled : ℕ → Bool) (e : expr.Tree) where
    pub done_unsettled : (ps : List ℕ) (b : Bool) → ps ≡ places names (named_by e) → b ≡ all_settled (seen_by settled ps) → b ≡ false → IsOutputDone variables names shapes objects settled e not_evaluated
    done_unsettled ps b are is not =
        match_false (names_are_settled names settled e) _ (not_evaluated ≡ not_evaluated) (ap (λ qs. all_settled (seen_by settled qs)) (sym are) ∙ sym is ∙ not) refl

    done_settled : (ps : List ℕ) (b : Bool) (d : OutputResultView) → ps ≡ places names (named_by e) → b ≡ all_settled (seen_by settled ps) → b ≡ true
        → IsEvaluated variables names shapes objects e d → IsOutputDone variables names shapes objects settled e d
    done_settled ps b d are is so evaluated =
        match_true (names_are_settled names settled e) (IsEvaluated variables names shapes objects e d) (d ≡ not_evaluated) (ap (λ qs. all_settled (seen_by settled qs)) (sym are) ∙ sym is ∙ so) evaluated

    -- memory is refused
    pub done_refused : (ps : List ℕ) (b : Bool) → ps ≡ places names (named_by e) → b ≡ all_settled (seen_by settled ps) → b ≡ true → IsOutputDone variables names shapes objects settled e excused
    done_refused ps b are is so = done_settled ps b excused are is so tt

    -- a fault
    pub done_faulted : Ranked (directly_before names) → (ps : List ℕ) (b : Bool) (why : EvalFault) → ps ≡ places names (named_by e) → b ≡ all_settled (seen_by settled ps) → b ≡ true
        → IsOutput variables names shapes objects e (Err why) → IsOutputDone variables names shapes objects settled e (faulted why)
    done_faulted ranked ps b why are is so output = done_settled ps b (faulted why) are is so (meant_by ranked e (faulted why) (λ resolved_names stand. rw (output resolved_names stand) refl))

    -- a value
    pub done_valued : Ranked (directly_before names) → (ps : List ℕ) (b : Bool) (v : Value) (d : OutputResultView) → ps ≡ places names (named_by e) → b ≡ all_settled (seen_by settled ps) → b ≡ true
        → IsOutput variables names shapes objects e (Ok v) → IsSameOrExcused (done_with (Ok (tree_of v))) d → IsOutputDone variables names shapes objects settled e d
    done_valued ranked ps b v d are is so output same = done_settled ps b d are is so (evaluated_value ranked e (tree_of v) (is_within (tree_of v)) d refl output same)

    -- an output whose entry found no memory is excused
    done_kept : (d kept : OutputResultView) → IsSameOrExcused d kept → IsOutputDone variables names shapes objects settled e d → IsOutputDone variables names shapes objects settled e kept
    done_kept not_evaluated kept same done = subst (IsOutputDone variables names shapes objects settled e) (sym same) done
    done_kept excused kept same done = subst (IsOutputDone variables names shapes objects settled e) (sym same) done
    done_kept (faulted why) kept same done = subst (IsOutputDone variables names shapes objects settled e) (sym same) done
    done_kept (valued t) kept (inl same) done = subst (IsOutputDone variables names shapes objects settled e) (sym same) done
    done_kept (valued t) kept (inr same) done =
        subst (IsOutputDone variables names shapes objects settled e) (sym same) (excused_too (names_are_settled names settled e) done)
      where
        excused_too : (b : Bool) → MatchBool b (IsEvaluated variables names shapes objects e (valued t)) (valued t ≡ not_evaluated)
            → MatchBool b (IsEvaluated variables names shapes objects e excused) (excused ≡ not_evaluated)
        excused_too true h = tt
        excused_too false h = absurd (cc)

  -- what is told and saved so far, whatever comes of those that are left
  abbrev pub EndsWith : (ℕ → Bool) → Entries → expr.Entries → expr.Entries → List OutputResult → Entries → Type 0
  EndsWith settled kept all left ends saved =
      (dones : List OutputResultView) → AreOutputsDone variables names shapes objects settled left dones
      → AreOutputsEnded variables names shapes objects settled kept all (ends ++ map end_of dones) (with_outputs left dones saved)

  pub ends_start : (settled : ℕ → Bool) (kept : Entries) (all left : expr.Entries) (ends : List OutputResult) → left ≡ all → ends ≡ [] → EndsWith settled kept all left ends kept
  ends_start settled kept all left ends given none =
      subst (λ es. EndsWith settled kept all es ends kept) (sym given) (λ dones each. rw none (record { dones = dones; each = each; told = refl; saves = refl }))

  -- one output more
  pub ends_more : (settled : ℕ → Bool) (kept : Entries) (all : expr.Entries) (name : List ℕ) (e : expr.Tree) (left : expr.Entries) (ends now : List OutputResult) (saved after : Entries) (d : OutputResultView) (end : OutputResult)
      → IsOutputDone variables names shapes objects settled e d → IsKept name d end saved after → now ≡ ends ++ end ∷ []
      → EndsWith settled kept all (expr.entry name e left) ends saved → EndsWith settled kept all left now after
  ends_more settled kept all name e left ends now saved after d end done k more before dones each =
      let whole = before (k.kept ∷ dones) (done_kept settled e d k.kept k.same done, each) in
      let told : now ++ map end_of dones ≡ ends ++ end_of k.kept ∷ map end_of dones =
      ap (λ xs. xs ++ map end_of dones) (more ∙ ap (λ x. ends ++ x ∷ []) k.told) ∙ append_assoc ends (end_of k.kept ∷ []) (map end_of dones) in
      rw (told, k.saves) whole

  -- none is left
  pub ends_all : (settled : ℕ → Bool) (kept : Entries) (all left : expr.Entries) (ends : List OutputResult) (saved : Entries) → left ≡ expr.no_entries → EndsWith settled kept all left ends saved
      → AreOutputsEnded variables names shapes objects settled kept all ends saved
  ends_all settled kept all expr.no_entries ends saved none before =
      subst (λ xs. AreOutputsEnded variables names shapes objects settled kept all xs saved) (append-nil ends) (before [] tt)
  ends_all settled kept all (expr.entry name e es) ends saved none before = absurd (cc)

-- what is left of a table is one
later_at : (b : Bool) (l k : List ℕ) (t : Tree) (es left : Entries) → AllByRecursion (λ m. slice_cmp nat_cmp l m ≡ Less) (keys_of (entry k t es)) → AllByRecursion (λ m. slice_cmp nat_cmp l m ≡ Less) (keys_of left)
    → AllByRecursion (λ m. slice_cmp nat_cmp l m ≡ Less) (keys_of (if b then es else entry k t left))
later_at true l k t es left h rest = h.1
later_at false l k t es left h rest = (h.0, rest)

later_without : (l name : List ℕ) (es : Entries) → AllByRecursion (λ k. slice_cmp nat_cmp l k ≡ Less) (keys_of es) → AllByRecursion (λ k. slice_cmp nat_cmp l k ≡ Less) (keys_of (without name es))
later_without l name no_entries h = tt
later_without l name (entry k t es) h = later_at (bytes_eq name k) l k t es (without name es) h (later_without l name es h.1)

sorted_at : (b : Bool) (k : List ℕ) (t : Tree) (es left : Entries) → IsStrictlySortedBy (slice_cmp nat_cmp) (keys_of (entry k t es))
    → AllByRecursion (λ m. slice_cmp nat_cmp k m ≡ Less) (keys_of left) → IsStrictlySortedBy (slice_cmp nat_cmp) (keys_of left)
    → IsStrictlySortedBy (slice_cmp nat_cmp) (keys_of (if b then es else entry k t left))
unfolding IsStrictlySortedBy
sorted_at true k t es left h later rest = h.1
sorted_at false k t es left h later rest = (later, rest)

sorted_without : (name : List ℕ) (es : Entries) → IsStrictlySortedBy (slice_cmp nat_cmp) (keys_of es) → IsStrictlySortedBy (slice_cmp nat_cmp) (keys_of (without name es))
unfolding IsStrictlySortedBy
sorted_without name no_entries h = h
sorted_without name (entry k t es) h = sorted_at (bytes_eq name k) k t es (without name es) h (later_without k name es h.0) (sorted_without name es h.1)

stored_at : (b : Bool) (k : List ℕ) (t : Tree) (es left : Entries) → EachMayBeStored (entry k t es) → EachMayBeStored left → EachMayBeStored (if b then es else entry k t left)
stored_at true k t es left h rest = h.1
stored_at false k t es left h rest = (h.0, rest)

stored_without : (name : List ℕ) (es : Entries) → EachMayBeStored es → EachMayBeStored (without name es)
stored_without name no_entries h = h
stored_without name (entry k t es) h = stored_at (bytes_eq name k) k t es (without name es) h (stored_without name es h.1)

table_without : (name : List ℕ) (es : Entries) → IsTable es → IsTable (without name es)
table_without name es h = (sorted_without name es h.0, stored_without name es h.1)

-- the values that are saved may be stored
kept_table : (name : List ℕ) (d kept : OutputResultView) (found : Entries) → MayBeSaved d → IsSameOrExcused d kept → IsTable found → IsTable (with_output name kept found)
kept_table name not_evaluated kept found may same table = rw same table
kept_table name excused kept found may same table = rw same table
kept_table name (faulted why) kept found may same table = rw same table
kept_table name (valued t) kept found may (inr same) table = rw same table
kept_table name (valued t) kept found may (inl same) table = rw same (by_null (is_null t))
  where
    by_null : (b : Bool) → IsTable (if b then without name found else put name t found)
    by_null true = table_without name found table
    by_null false = table-put name t found may table

pub table_more : (name : List ℕ) (d : OutputResultView) (end : OutputResult) (saved after : Entries) → MayBeSaved d → IsKept name d end saved after → IsTable saved → IsTable after
table_more name d end saved after may k table = subst IsTable (sym k.saves) (kept_table name d k.kept saved may k.same table)

pub none_listed : {A : Type 0} (xs : List A) → length xs ≡ 0 → xs ≡ []
none_listed [] h = refl
none_listed (x ∷ xs) h = absurd (omega (arith, h))

pub rooms_less : {A : Type 0} (all left : List A) (x : A) → all ≡ x ∷ left → length all ≡ length left + 1
rooms_less all left x h = ap length h ∙ omega arith

pub one_longer : {A : Type 0} (all front : List A) (x : A) → all ≡ front ++ x ∷ [] → length all ≡ length front + 1
one_longer all front x h = ap length h ∙ length_push front x
