-- What a put leaves: what is found, the order of keys and the kind of numbers, depth.
use Rattle.std.proofs.Common.{◌≡◌, ℕ, ◌≤◌, false, List, Option, Some, None, Ordering, Less, Equal, Greater, nat_cmp, is_eq, refl, sym, ap, ◌∙◌, subst, arith}
use Rattle.std.specs.Cmp.Lexicographic.{slice_cmp}
use Rattle.std.specs.Ordering.{match_ordering}
use Rattle.std.proofs.lemmas.Cmp.{nat_list_cmp_total, tied_itself}
use Rattle.std.proofs.lemmas.Map.Lookups.{exact_bytes}
use Rattle.serde_json.specs.Data.{Data, Num, Members, no_members, member, put, depth, members_depth}
use Rattle.serde_json.specs.Find.{get_member}
use Rattle.tf_value_json.specs.Plain.{IsOrderly, AreOrderlyMembers, IsWhole, IsPlain, ArePlainMembers, AreAbove}

abbrev pub cmp : List ℕ → List ℕ → Ordering
cmp = slice_cmp nat_cmp

-- ---- what is found

found_at : (o : Ordering) (k m : List ℕ) (d e : Data) (ms : Members) → cmp k m ≡ o → get_member k (put k d ms) ≡ Some d → get_member k (match_ordering o (member k d (member m e ms)) (member m d ms) (member m e (put k d ms))) ≡ Some d
found_at Less k m d e ms is more = rw (tied_itself nat_list_cmp_total k) refl
found_at Equal k m d e ms is more = rw is refl
found_at Greater k m d e ms is more = rw is more

-- what was put at a key is found there
pub get-put : (k : List ℕ) (d : Data) (ms : Members) → get_member k (put k d ms) ≡ Some d
get-put k d no_members = rw (tied_itself nat_list_cmp_total k) refl
get-put k d (member m e ms) = found_at (cmp k m) k m d e ms refl (get-put k d ms)

skip : (o : Ordering) (a b : Option Data) → is_eq o ≡ false → match_ordering o a b a ≡ a
skip Less a b e = refl
skip Equal a b e = absurd (cc)
skip Greater a b e = refl

other_at : (o : Ordering) (k l m : List ℕ) (d e : Data) (ms : Members) → cmp l m ≡ o → is_eq (cmp k l) ≡ false → get_member k (put l d ms) ≡ get_member k ms
    → get_member k (match_ordering o (member l d (member m e ms)) (member m d ms) (member m e (put l d ms))) ≡ get_member k (member m e ms)
other_at Less k l m d e ms is apart more = skip (cmp k l) (get_member k (member m e ms)) (Some d) apart
other_at Equal k l m d e ms is apart more =
    let same = exact_bytes l m is in
    let far : is_eq (cmp k m) ≡ false = subst (λ n. is_eq (cmp k n) ≡ false) same apart in
    skip (cmp k m) (get_member k ms) (Some d) far ∙ sym (skip (cmp k m) (get_member k ms) (Some e) far)
other_at Greater k l m d e ms is apart more = ap (λ o. match_ordering (cmp k m) o (Some e) o) more

-- and the others stay
pub get-put_other : (k l : List ℕ) (d : Data) (ms : Members) → is_eq (cmp k l) ≡ false → get_member k (put l d ms) ≡ get_member k ms
get-put_other k l d no_members apart = skip (cmp k l) None (Some d) apart
get-put_other k l d (member m e ms) apart = other_at (cmp l m) k l m d e ms refl apart (get-put_other k l d ms apart)

-- ---- the order of keys

pub above_later : (k l : List ℕ) (ms : Members) → cmp k l ≡ Less → AreAbove l ms → AreAbove k ms
above_later k l no_members e h = tt
above_later k l (member m d ms) e h = (nat_list_cmp_total.trans k l m e h.0, above_later k l ms e h.1)

above_at : (o : Ordering) (l k m : List ℕ) (d e : Data) (ms : Members) → cmp l k ≡ Less → AreAbove l (member m e ms) → AreAbove l (put k d ms)
    → AreAbove l (match_ordering o (member k d (member m e ms)) (member m d ms) (member m e (put k d ms)))
above_at Less l k m d e ms below h more = (below, h)
above_at Equal l k m d e ms below h more = h
above_at Greater l k m d e ms below h more = (h.0, more)

pub above-put : (l k : List ℕ) (d : Data) (ms : Members) → cmp l k ≡ Less → AreAbove l ms → AreAbove l (put k d ms)
above-put l k d no_members below h = (below, tt)
above-put l k d (member m e ms) below h = above_at (cmp k m) l k m d e ms below h (above-put l k d ms below h.1)

orderly_at : (P : Num → Type 0) (o : Ordering) (k m : List ℕ) (d e : Data) (ms : Members) → cmp k m ≡ o → IsOrderly P d → AreOrderlyMembers P (member m e ms)
    → AreOrderlyMembers P (put k d ms) → AreOrderlyMembers P (match_ordering o (member k d (member m e ms)) (member m d ms) (member m e (put k d ms)))
orderly_at P Less k m d e ms is p h more = ((is, above_later k m ms is h.0), p, h)
orderly_at P Equal k m d e ms is p h more = (h.0, p, h.2)
orderly_at P Greater k m d e ms is p h more =
    let below : cmp m k ≡ Less = nat_list_cmp_total.antisymm m k ∙ rw is refl in (above-put m k d ms below h.0, h.1, more)

-- a put of an orderly tree leaves orderly members
pub orderly-put : (P : Num → Type 0) (k : List ℕ) (d : Data) (ms : Members) → IsOrderly P d → AreOrderlyMembers P ms → AreOrderlyMembers P (put k d ms)
orderly-put P k d no_members p h = (tt, p, tt)
orderly-put P k d (member m e ms) p h = orderly_at P (cmp k m) k m d e ms refl p h (orderly-put P k d ms p h.2)

pub plain-put : (k : List ℕ) (d : Data) (ms : Members) → IsPlain d → ArePlainMembers ms → ArePlainMembers (put k d ms)
plain-put k d ms p h = orderly-put IsWhole k d ms p h

-- ---- depth

depth_at : (o : Ordering) (a b c : Members) (n : ℕ) → members_depth a ≤ n → members_depth b ≤ n → members_depth c ≤ n → members_depth (match_ordering o a b c) ≤ n
depth_at Less a b c n p q r = p
depth_at Equal a b c n p q r = q
depth_at Greater a b c n p q r = r

-- a put nests no deeper than what was there and what was put
pub depth-put : (k : List ℕ) (d : Data) (ms : Members) (n : ℕ) → depth d ≤ n → members_depth ms ≤ n → members_depth (put k d ms) ≤ n
depth-put k d no_members n p q = omega arith
depth-put k d (member l e ms) n p q =
    depth_at (cmp k l) (member k d (member l e ms)) (member l d ms) (member l e (put k d ms)) n (omega arith) (omega arith) (omega (arith, depth-put k d ms n p (omega arith)))
