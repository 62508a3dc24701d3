-- Pieces of literals.
use Rattle.std.proofs.Common.{◌≡◌, ℕ, zero, suc, ◌<◌, ◌≤◌, Bool, true, false, List, [], ◌∷◌, ◌++◌, length, get_or, take, drop, refl, subst, sym, ap, ◌∙◌, arith, append_assoc, length-drop}
use Rattle.std.proofs.lemmas.Bool.Decides.{nat_tests}
use Rattle.std.proofs.lemmas.Grind.{common_steps}
use Rattle.std.proofs.lemmas.List.{append-nil}
use Rattle.std.proofs.lemmas.List.Sums.{prefix_len_passes, prefix_len_stops}
use Rattle.std.specs.List.{prefix_len}
use Rattle.tf_expr_template.specs.Bytes.{is_plain}
use Rattle.tf_expr_template.specs.Literal.{Piece, stands, opens, closes, wrong, piece, begun, Literal, nothing, more}

pub piece_from : (quoted : Bool) (s : List ℕ) → 0 < length s → piece quoted s ≡ begun quoted (get_or s 0 0) (drop 1 s)
piece_from quoted [] h = absurd (omega arith)
piece_from quoted (b ∷ s) h = refl

-- a byte that is plain stands for itself
pub begun-plain : (quoted : Bool) (b : ℕ) (s : List ℕ) → is_plain b ≡ true → begun quoted b s ≡ stands (b ∷ []) s
unfolding begun
begun-plain quoted b s h = grind (arith, nat_tests)

run_head : (p : ℕ → Bool) (b : ℕ) (s : List ℕ) (n : ℕ) → suc n ≤ prefix_len p (b ∷ s) → (p b ≡ true) × (n ≤ prefix_len p s)
run_head p b s n h =
    let e : p b ≡ true = prefix_len_passes p (b ∷ s) 0 0 (omega arith) in
    (e, omega (arith, rw e at h))

-- plain bytes stand for themselves
pub plain_run : (quoted : Bool) (s : List ℕ) (n : ℕ) → n ≤ prefix_len is_plain s → Literal quoted (take n s) s (drop n s)
plain_run quoted s zero h = nothing
plain_run quoted [] (suc n) h = absurd (omega arith)
plain_run quoted (b ∷ s) (suc n) h =
    let both = run_head is_plain b s n h in
    more {bytes = b ∷ []} {text = take n s} {s = b ∷ s} {r = s} {p = drop n s} (begun-plain quoted b s both.0) (plain_run quoted s n both.1)

-- text after text
pub Literal-append : (quoted : Bool) (a b s p r : List ℕ) → Literal quoted a s p → Literal quoted b p r → Literal quoted (a ++ b) s r
Literal-append quoted _ b _ _ r nothing k = k
Literal-append quoted _ b s p r (more {bytes} {text} {r = m} e h) k =
    let after = Literal-append quoted text b m p r h k in
    let at : List ℕ → Type 0 = λ t. Literal quoted t s r in
    subst at (sym (append_assoc bytes text b)) (more e after)

-- one piece more
pub Literal-then : (quoted : Bool) (a bytes s p r : List ℕ) → Literal quoted a s p → piece quoted p ≡ stands bytes r → Literal quoted (a ++ bytes) s r
Literal-then quoted a bytes s p r h e =
    Literal-append quoted a bytes s p r h (subst (λ t. Literal quoted t p r) (append-nil bytes) (more e nothing))

-- what follows plain bytes isn't plain
pub run_stops : (s : List ℕ) (n : ℕ) → n ≡ prefix_len is_plain s → 0 < length (drop n s) → is_plain (get_or (drop n s) 0 0) ≡ false
run_stops s n e h =
    let within : n < length s = omega (arith, length-drop n s) in
    let stops : is_plain (get_or s (prefix_len is_plain s) 0) ≡ false = prefix_len_stops is_plain s 0 (omega arith) in
    let here : get_or (drop n s) 0 0 ≡ get_or s (prefix_len is_plain s) 0 = grind (arith, common_steps) in
    subst (λ b. is_plain b ≡ false) (sym here) stops

-- plain bytes more
pub after_plain : (quoted : Bool) (a s r : List ℕ) (n : ℕ) (plain others b : List ℕ) → Literal quoted a s r → n ≡ prefix_len is_plain r → plain ≡ take n r → others ≡ drop n r → b ≡ a ++ plain → Literal quoted b s others
after_plain quoted a s r n plain others b h e p o j =
    let whole = Literal-append quoted a (take n r) s r (drop n r) h (plain_run quoted r n (omega arith)) in
    let text : b ≡ a ++ take n r = j ∙ ap (λ x. a ++ x) p in
    subst (λ x. Literal quoted x s others) (sym text) (subst (Literal quoted (a ++ take n r) s) (sym o) whole)

pub after_piece : (quoted : Bool) (a bytes s p r b : List ℕ) → Literal quoted a s p → stands bytes r ≡ piece quoted p → b ≡ a ++ bytes → Literal quoted b s r
after_piece quoted a bytes s p r b h e j =
    subst (λ x. Literal quoted x s r) (sym j) (Literal-then quoted a bytes s p r h (sym e))

-- a piece that isn't text
abbrev pub IsEnd : Piece → Type 0
IsEnd (stands bytes r) = ⊥
IsEnd (opens r) = Unit {0}
IsEnd (closes r) = Unit {0}
IsEnd wrong = Unit {0}

pub at_closes : {x : Piece} {r : List ℕ} → x ≡ closes r → IsEnd x
at_closes e = subst IsEnd (sym e) tt

pub at_opens : {x : Piece} {r : List ℕ} → x ≡ opens r → IsEnd x
at_opens e = subst IsEnd (sym e) tt

pub at_wrong : {x : Piece} → x ≡ wrong → IsEnd x
at_wrong e = subst IsEnd (sym e) tt

-- literal text up to a piece that isn't text is one text
pub Literal-same : (quoted : Bool) (a b s p r : List ℕ) → Literal quoted a s p → Literal quoted b s r → IsEnd (piece quoted p) → IsEnd (piece quoted r) → (a ≡ b) × (p ≡ r)
Literal-same quoted _ _ s _ _ nothing nothing i j = (refl, refl)
Literal-same quoted _ b s _ r nothing (more {bytes} {text} {r = m} e h) i j = absurd (subst IsEnd e i)
Literal-same quoted a _ s p _ (more {bytes} {text} {r = m} e h) nothing i j = absurd (subst IsEnd e j)
Literal-same quoted _ _ s p r (more {bytes} {text} {r = m} e h) (more {bytes = bytes'} {text = text'} {r = m'} e' h') i j =
    let both : stands bytes m ≡ stands bytes' m' = sym e ∙ e' in
    let first : bytes ≡ bytes' = cc in
    let place : m' ≡ m = cc in
    let others = Literal-same quoted text text' m p r h (subst (λ x. Literal quoted text' x r) place h') i j in
    (ap (λ x. x ++ text) first ∙ ap (λ x. bytes' ++ x) others.0, others.1)

-- outside quotes only the end of the text ends a template
begun-open : (b : ℕ) (s r : List ℕ) → begun false b s ≡ closes r → ⊥
unfolding begun
begun-open b s r h = grind (arith, nat_tests)

pub closes-end : (s r : List ℕ) → piece false s ≡ closes r → r ≡ []
closes-end [] r h = cc
closes-end (b ∷ s) r h = absurd (begun-open b s r h)
