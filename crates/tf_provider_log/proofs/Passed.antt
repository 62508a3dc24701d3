-- Loops over the entries of a log and over providers.
use Rattle.std.proofs.Common.{◌≡◌, ◌∙◌, sym, ap, ℕ, ◌+◌, ◌<◌, Bool, cond, not, List, [], ◌∷◌, ◌++◌, map, take, drop, length, get_or, filter, Option, Some, None, append_assoc}
use Rattle.std.specs.Prelude.{filter_map, count_by}
use Rattle.std.specs.List.{cons_option}
use Rattle.std.proofs.lemmas.List.{map_more, map_push, drop_more, append-nil}
use Rattle.std.proofs.lemmas.List.Elements.{filter_map-append}
use Rattle.std.proofs.lemmas.List.Sums.{sum_by_push}
use Rattle.tf_provider_log.specs.LogEntry.{LogEntryView}
use Rattle.tf_provider_log.specs.Replayed.{own_entries, has_its_type}
use Rattle.tf_provider_protocol.specs.Meaning.{Meaning}

-- one item more of which something may be kept
kept_more : {X Y Z : Type 0} (f : X → Y) (h : Y → Option Z) (xs : List X) (i : ℕ) (x : X) → i < length xs → x ≡ get_or xs i x
    → filter_map h (map f (take (i + 1) xs)) ≡ filter_map h (map f (take i xs)) ++ cons_option (h (f x)) []
kept_more f h xs i x lt is =
    ap (filter_map h) (map_more f xs i x lt)
    ∙ (filter_map-append h (map f (take i xs)) (f (get_or xs i x) ∷ [])
    ∙ ap (λ y. filter_map h (map f (take i xs)) ++ cons_option (h (f y)) []) (sym is))

-- one item more that may be counted
pub counted_more : {X Y : Type 0} (f : X → Y) (p : Y → Bool) (xs : List X) (i : ℕ) (x : X) → i < length xs → x ≡ get_or xs i x
    → count_by p (map f (take (i + 1) xs)) ≡ count_by p (map f (take i xs)) + cond (p (f x)) 1 0
counted_more f p xs i x lt is =
    ap (count_by p) (map_more f xs i x lt)
    ∙ (sum_by_push (λ y. cond (p y) 1 0) (map f (take i xs)) (f (get_or xs i x))
    ∙ ap (λ y. count_by p (map f (take i xs)) + cond (p (f y)) 1 0) (sym is))

-- the entries of one provider more
pub split_more : {B L : Type 0} (meaning_of : B → Meaning) (view : L → List LogEntryView) (ps : List B) (i : ℕ) (p : B) (lists : List L) (own : L) (es others : List LogEntryView) (all : List (List LogEntryView))
    → i < length ps → p ≡ get_or ps i p
    → map view lists ++ own_entries (map meaning_of (drop i ps)) es ≡ all
    → view own ≡ filter (has_its_type (meaning_of p)) es
    → others ≡ filter (λ e. not (has_its_type (meaning_of p) e)) es
    → map view (lists ++ own ∷ []) ++ own_entries (map meaning_of (drop (i + 1) ps)) others ≡ all
split_more meaning_of view ps i p lists own es others all lt is before its left =
    let rest = map meaning_of (drop (i + 1) ps) in
    let next : drop i ps ≡ p ∷ drop (i + 1) ps = drop_more ps i p lt ∙ ap (λ q. q ∷ drop (i + 1) ps) (sym is) in
    ap (λ ls. ls ++ own_entries rest others) (map_push view lists own)
    ∙ (append_assoc (map view lists) (view own ∷ []) (own_entries rest others)
    ∙ (ap (λ (l : List LogEntryView). map view lists ++ l ∷ own_entries rest others) its
    ∙ (ap (λ (l : List LogEntryView). map view lists ++ filter (has_its_type (meaning_of p)) es ∷ own_entries rest l) left
    ∙ (ap (λ (qs : List _). map view lists ++ own_entries (map meaning_of qs) es) (sym next)
    ∙ before))))

-- one entry more of which a request is kept, where a copy of it was added
pub kept_and_added : {X Y Z R : Type 0} (f : X → Y) (h : Y → Option Z) (view : R → Z) (xs : List X) (i : ℕ) (x : X) (rs : List R) (r : R) → i < length xs → x ≡ get_or xs i x
    → map view rs ≡ filter_map h (map f (take i xs)) → Some (view r) ≡ h (f x)
    → map view (rs ++ r ∷ []) ≡ filter_map h (map f (take (i + 1) xs))
kept_and_added f h view xs i x rs r lt is before added =
    map_push view rs r
    ∙ (ap (λ zs. zs ++ view r ∷ []) before
    ∙ (ap (λ o. filter_map h (map f (take i xs)) ++ cons_option o []) added
    ∙ sym (kept_more f h xs i x lt is)))

-- and where nothing was added
pub kept_no_more : {X Y Z R : Type 0} (f : X → Y) (h : Y → Option Z) (view : R → Z) (xs : List X) (i : ℕ) (x : X) (rs : List R) → i < length xs → x ≡ get_or xs i x
    → map view rs ≡ filter_map h (map f (take i xs)) → None ≡ h (f x)
    → map view rs ≡ filter_map h (map f (take (i + 1) xs))
kept_no_more f h view xs i x rs lt is before none =
    before
    ∙ (sym (append-nil (filter_map h (map f (take i xs))))
    ∙ (ap (λ o. filter_map h (map f (take i xs)) ++ cons_option o []) none
    ∙ sym (kept_more f h xs i x lt is)))
