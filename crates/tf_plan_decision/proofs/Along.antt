-- What is decided of names, kept one after another.
use Rattle.std.proofs.Common.{◌≡◌, ◌≢◌, ◌<◌, ◌≤◌, ◌+◌, ℕ, Bool, true, if◌then◌else◌, List, [], ◌∷◌, map, length, get_or, set, take, drop, Some, None, Option, refl, sym, ap, subst, ◌∙◌, arith, inl, inr}
use Rattle.std.proofs.lemmas.Bool.{cases_eq}
use Rattle.std.proofs.lemmas.List.{at_drop_more, get_or_default, get_or-set_same, get_or-set_other, map-set, length-map, length-set, take_all}
use Rattle.std.proofs.lemmas.List.Sums.{fold_more}
use Rattle.std.specs.List.{AllByRecursion}
use Rattle.std.specs.Prelude.{Contains, slice_get, slice_index, slice_index_or}
use Rattle.tf_config_data.specs.Config.{BlockView}
use Rattle.tf_config_data.specs.Names.{NameView, Meant, a_local, a_block, block_refers, directly_before, meant_at, places, refers_at}
use Rattle.tf_plan_decision.proofs.Appending.{collected, collected_is}
use Rattle.tf_plan_decision.proofs.Local.{block_local, stage_local}
use Rattle.tf_plan_decision.specs.Collecting.{with_row}
use Rattle.tf_plan_decision.specs.Deciding.{DecidedView, decided_of, decisions_on}
use Rattle.tf_plan_decision.specs.Rows.{AreDecided, AreOnce, NeedsAreWanted, gathered, nothing_decided, row, rows_of}
use Rattle.tf_plan_decision.specs.Stage.{deciding}
use Rattle.tf_plan_decision.specs.declared.collecting.Decided.{Decided}
use Rattle.tf_expand_keys.proofs.Keeping.{AreKept, earlier, kept_more, kept_start, next_standing, stood_is}
use Rattle.tf_expand_keys.proofs.Seen.{agree_on}
use Rattle.tf_expand_keys.specs.Kept.{AreClosed, AreResolved}
use Rattle.tf_expand_keys.specs.InstanceKeys.{InstanceKeysView}
use Rattle.tf_expand_keys.specs.Resolved.{ResolvedView, all_stand, environment}
use Rattle.tf_expand_keys.specs.Views.{resolved_of, resolved_names_of}
use Rattle.tf_expand_keys.specs.declared.resolved.Resolved.{Resolved}
use Rattle.tf_graph.proofs.Solving.{all_by_both, seen_by-same}
use Rattle.tf_graph.specs.NodeSet.{has}
use Rattle.tf_graph.specs.Order.{IsInOrder}
use Rattle.tf_plan_order.specs.ResourceIndex.{ResourceRefView, a_name, an_orphan}
use Rattle.tf_provider_protocol.specs.Meaning.{Meaning}
use Rattle.tf_state_data.specs.Resource.{ResourceView}
use Rattle.tf_value_data.specs.Tree.{Entries}

-- ---- rows

pub row_same : (rows : List Decided) (p : ℕ) (d : Decided) → p < length rows → rows_of (set rows p d) p ≡ decided_of d
row_same rows p d h =
    let inside : p < length (map decided_of rows) = rw (length-map rows decided_of) h in
    ap (λ xs. get_or xs p nothing_decided) (map-set decided_of rows p d) ∙ get_or-set_same (map decided_of rows) p (decided_of d) nothing_decided inside

pub row_other : (rows : List Decided) (p n : ℕ) (d : Decided) → n ≢ p → rows_of (set rows p d) n ≡ rows_of rows n
row_other rows p n d h = ap (λ xs. get_or xs n nothing_decided) (map-set decided_of rows p d) ∙ get_or-set_other (map decided_of rows) p n (decided_of d) nothing_decided h

-- a block is meant
abbrev BlockAt : Option Meant → Type 0
BlockAt m = (block : BlockView) × (m ≡ Some (a_block block))

module _ (ms : List Meaning) (resources : List ResourceView) (variables : Entries) (names : List NameView) (shapes : ℕ → InstanceKeysView) where
  -- where what a block refers to stands for the same, the same is decided of it
  seen_same : (kept resolved_names : ℕ → ResolvedView) (p : ℕ) (m : Option Meant) → meant_at names p ≡ m
      → ((block : BlockAt m) → AllByRecursion (λ a. kept a ≡ resolved_names a) (directly_before names p))
      → row ms resources variables names shapes kept p m ≡ row ms resources variables names shapes resolved_names p m
  seen_same kept resolved_names p None here same = refl
  seen_same kept resolved_names p (Some (a_local e)) here same = refl
  seen_same kept resolved_names p (Some (a_block block)) here same =
      let along = same (block, refl) in
      let seen = seen_by-same kept resolved_names (directly_before names p) along in
      let agree = agree_on variables names kept resolved_names (block_refers block) (subst (λ (x : Option Meant). AllByRecursion (λ a. kept a ≡ resolved_names a) (places names (refers_at x))) here along) in
      let decides = block_local ms resources p block (environment variables names kept) (environment variables names resolved_names) (shapes p) agree in
      (λ i. decisions_on (if all_stand (seen i) then decides i else []))

  -- what is kept once the names before a place of the order are done
  pub record AreLooked (order : List ℕ) (wanted : List Bool) (i : ℕ) (kept : List Resolved) (rows : List Decided) : Type 0 where
    pub resolved : AreKept (deciding ms resources shapes) variables names order wanted i kept
    pub long : length rows ≡ length names
    pub each : AreDecided ms resources variables names shapes (take i order) (rows_of rows)

  rows_start : (order : List ℕ) (rows : List Decided) → AreDecided ms resources variables names shapes (take 0 order) (rows_of rows)
  rows_start order rows resolved_names solves n held = let inside : held.0 < length {A = ℕ} [] = held.1 in absurd (omega arith)

  -- one name more
  pub rows_more : (order : List ℕ) (wanted : List Bool) (i p : ℕ) (kept : ℕ → ResolvedView) (rows now : List Decided) (d : Decided) → IsInOrder (directly_before names) order → NeedsAreWanted names wanted
      → i < length order → p ≡ slice_index order i → p < length rows → now ≡ set rows p d → decided_of d ≡ row ms resources variables names shapes kept p (meant_at names p)
      → AreResolved (deciding ms resources shapes) variables names (take i order) wanted kept → AreDecided ms resources variables names shapes (take i order) (rows_of rows)
      → AreDecided ms resources variables names shapes (take (i + 1) order) (rows_of now)
  rows_more order wanted i p kept rows now d ordered needed h is inside changed decides have done resolved_names solves n held = elim (cases_eq n p) [
    | inl here ↦
        let same : BlockAt (meant_at names p) → AllByRecursion (λ a. kept a ≡ resolved_names a) (directly_before names p) =
        λ block. all_by_both (λ a. Contains (take i order) a) (λ a. has wanted a ≡ true) (λ a. kept a ≡ resolved_names a) (directly_before names p)
        (λ a before wants. have resolved_names solves a before wants) (rw is (ordered.after i h)) (needed p block.0 block.1) in
        ap (λ xs. rows_of xs n) changed ∙ ap (rows_of (set rows p d)) here ∙ row_same rows p d inside ∙ decides ∙ seen_same kept resolved_names p (meant_at names p) refl same
        ∙ ap (λ x. row ms resources variables names shapes resolved_names x (meant_at names x)) (sym here)
    | inr other ↦
        ap (λ xs. rows_of xs n) changed ∙ row_other rows p n d other ∙ done resolved_names solves n (earlier order i p n h is other held)
  ]

  -- all names are done
  pub rows_all : (order : List ℕ) (i : ℕ) (rows : List Decided) → length order ≤ i → AreDecided ms resources variables names shapes (take i order) (rows_of rows) → AreDecided ms resources variables names shapes order (rows_of rows)
  rows_all order i rows h done resolved_names solves n held = done resolved_names solves n (subst (λ xs. Contains xs n) (sym (take_all i order h)) held)

  pub looked_start : (order : List ℕ) (wanted : List Bool) (kept : List Resolved) (rows : List Decided) → length kept ≡ length names → ((n : ℕ) → resolved_names_of kept n ≡ None) → length rows ≡ length names
      → AreLooked order wanted 0 kept rows
  looked_start order wanted kept rows long none same = record {
    resolved = kept_start (deciding ms resources shapes) variables names order wanted kept long none;
    long = same;
    each = rows_start order rows;
  }

  pub looked_more : (order : List ℕ) (wanted : List Bool) (i p : ℕ) (kept kept_now : List Resolved) (rows rows_now : List Decided) (s : Resolved) (d : Decided) (is_wanted : Bool) (seen : List Resolved)
      → IsInOrder (directly_before names) order → AreClosed names wanted → NeedsAreWanted names wanted → i < length order → p ≡ slice_index order i → p < length names → kept_now ≡ set kept p s → rows_now ≡ set rows p d
      → is_wanted ≡ has wanted p → seen ≡ kept
      → resolved_of s ≡ (if is_wanted then next_standing (deciding ms resources shapes) variables names (resolved_names_of seen) p else None)
      → decided_of d ≡ row ms resources variables names shapes (resolved_names_of seen) p (meant_at names p)
      → AreLooked order wanted i kept rows → AreLooked order wanted (i + 1) kept_now rows_now
  looked_more order wanted i p kept kept_now rows rows_now s d is_wanted seen ordered closed needed h is inside set_kept set_rows wants same stood decides inv = record {
    resolved =
        kept_more (deciding ms resources shapes) variables names order wanted i p kept kept_now s (stage_local ms resources shapes) ordered closed h is inside set_kept
        (stood_is (deciding ms resources shapes) variables names wanted p is_wanted seen kept (resolved_of s) stood wants same) inv.resolved;
    long = ap (λ (xs : List Decided). length xs) set_rows ∙ length-set rows p d ∙ inv.long;
    each =
        rows_more order wanted i p (resolved_names_of kept) rows rows_now d ordered needed h is (subst (λ m. p < m) (sym inv.long) inside) set_rows
        (decides ∙ ap (λ xs. row ms resources variables names shapes (resolved_names_of xs) p (meant_at names p)) same) inv.resolved.have inv.each;
  }

-- a place of an order over as many names as a list has items is one of the list
pub place_within : (order : List ℕ) (count : ℕ) → ((n : ℕ) → Contains order n → n < count) → (i : ℕ) → i < length order → (long : ℕ) → long ≡ count → slice_index_or order i 0 < long
place_within order count within i below long same =
    let p : ℕ = slice_index_or order i 0 in
    subst (λ m. p < m) (sym same) (within p (i, below, get_or_default order i p 0 below))

-- ---- what is gathered

with_row_same : (ms : List Meaning) (rows others : ℕ → DecidedView) (n : ℕ) (o : Option ResourceRefView) (d : DecidedView) → rows n ≡ others n → with_row ms rows n o d ≡ with_row ms others n o d
with_row_same ms rows others n None d e = refl
with_row_same ms rows others n (Some (a_name name)) d e = ap (λ r. with_row ms (λ m. r) n (Some (a_name name)) d) e
with_row_same ms rows others n (Some (an_orphan r)) d e = refl

still_same : (rows now kept : ℕ → DecidedView) (p : ℕ) (ns : List ℕ) → ((n : ℕ) → n ≢ p → now n ≡ rows n) → AllByRecursion (λ n. n ≢ p) ns → AllByRecursion (λ n. rows n ≡ kept n) ns → AllByRecursion (λ n. now n ≡ kept n) ns
still_same rows now kept p [] others apart same = tt
still_same rows now kept p (n ∷ ns) others apart same = (others n apart.0 ∙ same.0, still_same rows now kept p ns others apart.1 same.1)

-- what is collected of the places so far, where the rows of those to come are still there
pub record AreGathered (ms : List Meaning) (all : List ResourceRefView) (order : List ℕ) (kept : ℕ → DecidedView) (i : ℕ) (rows : ℕ → DecidedView) (d : DecidedView) : Type 0 where
  pub made : d ≡ collected ms kept all (take i order)
  pub left : AllByRecursion (λ n. rows n ≡ kept n) (drop i order)
  pub once : AreOnce (drop i order)

all_itself : (kept : ℕ → DecidedView) (ns : List ℕ) → AllByRecursion (λ n. kept n ≡ kept n) ns
all_itself kept [] = tt
all_itself kept (n ∷ ns) = (refl, all_itself kept ns)

pub gather_start : (ms : List Meaning) (all : List ResourceRefView) (order : List ℕ) (kept : ℕ → DecidedView) (d : DecidedView) → AreOnce order → d ≡ nothing_decided → AreGathered ms all order kept 0 kept d
gather_start ms all order kept d once e = record { made = e; left = all_itself kept order; once = once }

pub gather_more : (ms : List Meaning) (all : List ResourceRefView) (order : List ℕ) (kept : ℕ → DecidedView) (i p : ℕ) (rows now : ℕ → DecidedView) (d new : DecidedView) → i < length order → p ≡ get_or order i 0
    → new ≡ with_row ms rows p (slice_get all p) d → ((n : ℕ) → n ≢ p → now n ≡ rows n) → AreGathered ms all order kept i rows d → AreGathered ms all order kept (i + 1) now new
gather_more ms all order kept i p rows now d new h is added others inv =
    let here : drop i order ≡ p ∷ drop (i + 1) order = at_drop_more (λ (xs : List ℕ). xs) order i 0 h ∙ ap (λ x. x ∷ drop (i + 1) order) (sym is) in
    let left : AllByRecursion (λ n. rows n ≡ kept n) (p ∷ drop (i + 1) order) = subst (AllByRecursion (λ n. rows n ≡ kept n)) here inv.left in
    let once : AreOnce (p ∷ drop (i + 1) order) = subst AreOnce here inv.once in
    record {
      made =
          added ∙ with_row_same ms rows kept p (slice_get all p) d left.0 ∙ ap (with_row ms kept p (slice_get all p)) inv.made
          ∙ ap (λ x. with_row ms kept x (slice_get all x) (collected ms kept all (take i order))) is
          ∙ sym (fold_more (λ (e : DecidedView) (n : ℕ). with_row ms kept n (slice_get all n) e) nothing_decided order i 0 h);
      left = still_same rows now kept p (drop (i + 1) order) others once.0 left.1;
      once = once.1;
    }

pub gather_all : (ms : List Meaning) (all : List ResourceRefView) (order : List ℕ) (kept : ℕ → DecidedView) (i : ℕ) (rows : ℕ → DecidedView) (d : DecidedView) → length order ≤ i → AreGathered ms all order kept i rows d
    → d ≡ gathered ms kept all order
gather_all ms all order kept i rows d h inv = inv.made ∙ ap (collected ms kept all) (take_all i order h) ∙ collected_is ms kept all order
