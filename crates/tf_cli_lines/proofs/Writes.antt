-- Texts that are written one after another.
use Rattle.std.proofs.Common.{◌≡◌, ◌≤◌, ◌<◌, ◌+◌, ◌∷◌, get_or, add-one, drop-cons, subst, ◌-◌, ◌∙◌, ℕ, List, [], ◌++◌, length, take, drop, Option, Some, None, sym, ap, append_assoc, rules, arith}
use Rattle.std.proofs.Common.{ap₂}
use Rattle.std.proofs.lemmas.List.{take-append-drop, take_all, length-drop}
use Rattle.std.proofs.Math.Seq.{take-append-add}
use Rattle.std.specs.Io.KnownBytes.{Appends}
use Rattle.std.specs.Prelude.{Result, Ok, Err, MatchResult, OnOk}
use Rattle.std.specs.List.{flat_map}
use Rattle.std.proofs.lemmas.List.{length-append, take-append-le}
use Rattle.std.proofs.lemmas.List.Concat.{flat_map-append}
use Rattle.tf_cli_lines.specs.Saved.{AppendsStart}

pub appends_then : (u v w : Option (List ℕ)) (a b : List ℕ) → Appends u v a → Appends v w b → Appends u w (a ++ b)
appends_then None v w a b x y = tt
appends_then (Some xs) None w a b x y = absurd x
appends_then (Some xs) (Some ys) None a b x y = y
appends_then (Some xs) (Some ys) (Some zs) a b x y = y ∙ ap (λ (t : List ℕ). t ++ b) x ∙ append_assoc xs a b

pub appends_none : (u : Option (List ℕ)) → Appends u u []
appends_none None = tt
appends_none (Some xs) = search rules

pub appends_as : (u v : Option (List ℕ)) (a b : List ℕ) → a ≡ b → Appends u v a → Appends u v b
appends_as u v a b e x = rw (← e) x

-- the part of a text from some place on is all that is left
all_left : (xs : List ℕ) (i : ℕ) → take (length xs - i) (drop i xs) ≡ drop i xs
all_left xs i = take_all (length xs - i) (drop i xs) (omega (arith, length-drop i xs))

pub take_further : (xs : List ℕ) (i n : ℕ) → i ≤ length xs → take i xs ++ take n (take (length xs - i) (drop i xs)) ≡ take (i + n) xs
take_further xs i n le =
    let len : length (take i xs) ≡ i = search rules in
    ap (λ (t : List ℕ). take i xs ++ take n t) (all_left xs i)
    ∙ sym (take-append-add (take i xs) (drop i xs) n) ∙ ap₂ take (ap (λ k. k + n) len) (take-append-drop i xs)

-- what is written of a first text is a beginning of it with another behind it
pub start_before : (u v : Option (List ℕ)) (a b : List ℕ) → AppendsStart u v a → AppendsStart u v (a ++ b)
start_before u v a b (n, le, h) = (n, omega (arith, length-append a b), appends_as u v (take n a) (take n (a ++ b)) (sym (take-append-le n a b le)) h)

-- what is written of a text behind a whole one is a beginning of both
pub start_behind : (u v w : Option (List ℕ)) (a b : List ℕ) → Appends u v a → AppendsStart v w b → AppendsStart u w (a ++ b)
start_behind u v w a b x (n, le, h) = (
  length a + n,
  omega (arith, length-append a b),
  appends_as u w (a ++ take n b) (take (length a + n) (a ++ b)) (sym (take-append-add a b n)) (appends_then u v w a (take n b) x h),
)

-- texts one after another: those before a place, the one there and those behind it
split_at : {X : Type 0} (f : X → List ℕ) (xs : List X) (i : ℕ) (d : X) → i < length xs → flat_map f (take i xs) ++ (f (get_or xs i d) ++ flat_map f (drop (i + 1) xs)) ≡ flat_map f xs
split_at f xs i d lt =
    let here : drop i xs ≡ get_or xs i d ∷ drop (i + 1) xs = rw add-one (drop-cons xs i d lt) in
    sym (ap (flat_map f) (sym (take-append-drop i xs)) ∙ (flat_map-append f (take i xs) (drop i xs) ∙ ap (λ ys. flat_map f (take i xs) ++ flat_map f ys) here))

-- what is written of one of some texts, behind all that stand before it, is a beginning of them all
pub start_within : {X : Type 0} (f : X → List ℕ) (xs : List X) (i : ℕ) (d : X) (u v w : Option (List ℕ)) → i < length xs → Appends u v (flat_map f (take i xs)) → AppendsStart v w (f (get_or xs i d)) → AppendsStart u w (flat_map f xs)
start_within f xs i d u v w lt before part =
    subst (AppendsStart u w) (split_at f xs i d lt) (start_behind u v w (flat_map f (take i xs)) _ before (start_before v w (f (get_or xs i d)) (flat_map f (drop (i + 1) xs)) part))

pub start_at : {X : Type 0} (f : X → List ℕ) (xs : List X) (i : ℕ) (x : X) (u v w : Option (List ℕ)) → x ≡ get_or xs i x → i < length xs → Appends u v (flat_map f (take i xs)) → AppendsStart v w (f x) → AppendsStart u w (flat_map f xs)
start_at f xs i x u v w e lt before part = start_within f xs i x u v w lt before (subst (λ y. AppendsStart v w (f y)) e part)

-- what is written of two texts, of which the second is left out where the first wasn't written whole
pub both_part : {F : Type 0} (p : Result (Unit {0}) F) (u v w : Option (List ℕ)) (a b : List ℕ) → OnOk p (Appends u v a) → AppendsStart u v a → MatchResult p (λ _. AppendsStart v w b) (λ _. w ≡ v) → AppendsStart u w (a ++ b)
both_part (Ok x) u v w a b h s k = start_behind u v w a b h k
both_part (Err e) u v w a b h s k = subst (λ x. AppendsStart u x (a ++ b)) (sym k) (start_before u v a b s)

-- what is written of three texts one after another
pub three_whole : (u v w x : Option (List ℕ)) (a b c : List ℕ) → Appends u v a → Appends v w b → Appends w x c → Appends u x (a ++ (b ++ c))
three_whole u v w x a b c first second third = appends_then u v x a (b ++ c) first (appends_then v w x b c second third)

pub first_part : (u v : Option (List ℕ)) (a b c : List ℕ) → AppendsStart u v a → AppendsStart u v (a ++ (b ++ c))
first_part u v a b c part = start_before u v a (b ++ c) part

pub second_part : (u v w : Option (List ℕ)) (a b c : List ℕ) → Appends u v a → AppendsStart v w b → AppendsStart u w (a ++ (b ++ c))
second_part u v w a b c first part = start_behind u v w a (b ++ c) first (start_before v w b c part)

pub third_part : (u v w x : Option (List ℕ)) (a b c : List ℕ) → Appends u v a → Appends v w b → AppendsStart w x c → AppendsStart u x (a ++ (b ++ c))
third_part u v w x a b c first second part = start_behind u v x a (b ++ c) first (start_behind v w x b c second part)
