-- What values are joined to, one value after the other.
use Rattle.std.proofs.Common.{◌≡◌, ◌||◌, ℕ, List, [], ◌++◌, length-append, String, string_bytes, Result, is_ok, OnOk, Bool, true, false, cond, Option, Some, None, Ok, Err, refl, sym, ap, ◌∙◌, append_assoc, arith}
use Rattle.std.proofs.lemmas.List.{append-nil}
use Rattle.std.specs.declared.alloc.Global.{Global}
use Rattle.std.specs.Fmt.{◌++?◌}
use Rattle.tf_value_data.specs.Tree.{Tree, text, unknown, Items, no_items, item}
use Rattle.tf_value_data.specs.Measure.{IsWithinLimits}
use Rattle.tf_expr_operators.specs.declared.joining.Joined.{Joined}
use Rattle.tf_expr_operators.specs.declared.joining.Joined.TheVariants as states
use Rattle.tf_expr_operators.specs.declared.joining.Joined.TheVariants.{Text, Unknown}
use Rattle.tf_expr_syntax.specs.declared.fault.EvalFault.TheVariants.{WrongKind, TooLarge}
use Rattle.tf_expr_operators.specs.Answer.{Answer, any_unknown, is_unknown, items_behind, item_behind, limited}
use Rattle.tf_expr_operators.specs.Joiner.{joined_so_far}
use Rattle.tf_expr_operators.proofs.Limits.{limited-value, limited-fault, limited-large, limited-within, limited-beyond}
use Rattle.tf_expr_operators.specs.Joining.{text_of, joined_text, text_value, joined_value}

-- the answer, of whether a value is unknown and of the text
abbrev pub answer_of : Bool → Option (List ℕ) → Answer
answer_of b o = cond b (Ok unknown) (text_value o)

or-assoc : (a b c : Bool) → ((a || b) || c) ≡ (a || (b || c))
or-assoc true b c = refl
or-assoc false b c = refl

or-false : (b : Bool) → (b || false) ≡ b
or-false true = refl
or-false false = refl

append-assoc : (o p q : Option (List ℕ)) → ((o ++? p) ++? q) ≡ (o ++? (p ++? q))
append-assoc None p q = refl
append-assoc (Some s) None q = refl
append-assoc (Some s) (Some r) None = refl
append-assoc (Some s) (Some r) (Some t) = ap Some (append_assoc s r t)

append-empty : (o : Option (List ℕ)) → (o ++? Some []) ≡ o
append-empty None = refl
append-empty (Some s) = ap Some (append-nil s)

any_unknown-behind : (ts us : Items) → any_unknown (items_behind ts us) ≡ (any_unknown ts || any_unknown us)
any_unknown-behind no_items us = refl
any_unknown-behind (item t ts) us = ap (λ b. is_unknown t || b) (any_unknown-behind ts us) ∙ sym (or-assoc (is_unknown t) (any_unknown ts) (any_unknown us))

some-empty : (o : Option (List ℕ)) → (Some [] ++? o) ≡ o
some-empty None = refl
some-empty (Some s) = refl

joined_text-behind : (ts us : Items) → joined_text (items_behind ts us) ≡ (joined_text ts ++? joined_text us)
joined_text-behind no_items us = sym (some-empty (joined_text us))
joined_text-behind (item t ts) us = ap (λ o. text_of t ++? o) (joined_text-behind ts us) ∙ sym (append-assoc (text_of t) (joined_text ts) (joined_text us))

-- one more value behind the others
pub joined_value-behind : (ts : Items) (t : Tree) → joined_value (item_behind ts t) ≡ answer_of (any_unknown ts || is_unknown t) (joined_text ts ++? text_of t)
joined_value-behind ts t =
    let b : any_unknown (item_behind ts t) ≡ (any_unknown ts || is_unknown t) = any_unknown-behind ts (item t no_items) ∙ ap (λ c. any_unknown ts || c) (or-false (is_unknown t)) in
    let o : joined_text (item_behind ts t) ≡ (joined_text ts ++? text_of t) = joined_text-behind ts (item t no_items) ∙ ap (λ p. joined_text ts ++? p) (append-empty (text_of t)) in
    ap (λ c. answer_of c (joined_text (item_behind ts t))) b ∙ ap (answer_of (any_unknown ts || is_unknown t)) o

-- values of one text are joined to one text
pub joined_value-same : (ts : Items) (t u : Tree) → is_unknown t ≡ is_unknown u → text_of t ≡ text_of u → joined_value (item_behind ts t) ≡ joined_value (item_behind ts u)
joined_value-same ts t u e f =
    joined_value-behind ts t ∙ ap (λ c. answer_of (any_unknown ts || c) (joined_text ts ++? text_of t)) e ∙ ap (λ p. answer_of (any_unknown ts || is_unknown u) (joined_text ts ++? p)) f
    ∙ sym (joined_value-behind ts u)

-- no text is joined to what is unknown, or of a wrong kind
text-known : (s : List ℕ) → Ok unknown ≡ limited (text s) → ⊥
text-known s e = let same : text s ≡ unknown = limited-value (text s) unknown (sym e) in absurd (cc)

text-right : (s : List ℕ) → Err WrongKind ≡ limited (text s) → ⊥
text-right s e = limited-fault (text s) (sym e)

-- what is unknown stays so, and becomes so behind an unknown value
unknown-after : (b c : Bool) (o p : Option (List ℕ)) → Ok unknown ≡ answer_of b o → Ok unknown ≡ answer_of (b || c) (o ++? p)
unknown-after true c o p e = refl
unknown-after false c None p e = absurd (cc)
unknown-after false c (Some s) p e = absurd (text-known s e)

unknown-behind : (b : Bool) (o : Option (List ℕ)) → Ok unknown ≡ answer_of (b || true) o
unknown-behind true o = refl
unknown-behind false o = refl

-- a value that has no text makes the kind wrong, unless the answer is unknown
misfit-after : (b : Bool) (o : Option (List ℕ)) (a : Answer) → a ≡ answer_of b o → (a ≡ Ok unknown → ⊥) → Err WrongKind ≡ answer_of (b || false) (o ++? None)
misfit-after true o a e n = absurd (n e)
misfit-after false None a e n = refl
misfit-after false (Some s) a e n = refl

wrong-after : (b : Bool) (o p : Option (List ℕ)) → Err WrongKind ≡ answer_of b o → Err WrongKind ≡ answer_of (b || false) (o ++? p)
wrong-after true o p e = absurd (cc)
wrong-after false None p e = refl
wrong-after false (Some s) p e = absurd (text-right s e)

longer-beyond : (s r : List ℕ) → IsWithinLimits (text (s ++ r)) → IsWithinLimits (text s)
longer-beyond s r h = let l = length-append s r in let w = h.0 in (omega (arith, l, w), h.1)

large-after : (b : Bool) (o : Option (List ℕ)) (r : List ℕ) → Err TooLarge ≡ answer_of b o → Err TooLarge ≡ answer_of (b || false) (o ++? Some r)
large-after true o r e = absurd (cc)
large-after false None r e = absurd (cc)
large-after false (Some s) r e = sym (limited-beyond (text (s ++ r)) (λ h. limited-large (text s) (sym e) (longer-beyond s r h)))

text-after : (b : Bool) (o : Option (List ℕ)) (s r : List ℕ) → Ok (text s) ≡ answer_of b o → answer_of (b || false) (o ++? Some r) ≡ limited (text (s ++ r))
text-after true o s r e = absurd (cc)
text-after false None s r e = absurd (cc)
text-after false (Some q) s r e =
    let same : text q ≡ text s = limited-value (text q) (text s) (sym e) in
    let bytes : q ≡ s = cc in
    ap (λ t. limited (text (t ++ r))) bytes

-- a text behind a text
pub text-joins : (ts : Items) (s r : List ℕ) → Ok (text s) ≡ joined_value ts → joined_value (item_behind ts (text r)) ≡ limited (text (s ++ r))
text-joins ts s r e = joined_value-behind ts (text r) ∙ text-after (any_unknown ts) (joined_text ts) s r e

-- where there is no text within the limits, one more text changes nothing
pub others-stay : (j : Joined) (ts : Items) (r : List ℕ) → ((s : String Global) → j ≡ Text s → ⊥) → joined_so_far j ≡ joined_value ts → joined_so_far j ≡ joined_value (item_behind ts (text r))
others-stay (Text s) ts r n e = absurd (n s refl)
others-stay states.TooLarge ts r n e = large-after (any_unknown ts) (joined_text ts) r e ∙ sym (joined_value-behind ts (text r))
others-stay states.WrongKind ts r n e = wrong-after (any_unknown ts) (joined_text ts) (Some r) e ∙ sym (joined_value-behind ts (text r))
others-stay Unknown ts r n e = unknown-after (any_unknown ts) false (joined_text ts) (Some r) e ∙ sym (joined_value-behind ts (text r))

pub unknown-joins : (ts : Items) → Ok unknown ≡ joined_value (item_behind ts unknown)
unknown-joins ts = unknown-behind (any_unknown ts) (joined_text ts ++? None) ∙ sym (joined_value-behind ts unknown)

along : (ts : Items) (t : Tree) → is_unknown t ≡ false → text_of t ≡ None → answer_of (any_unknown ts || false) (joined_text ts ++? None) ≡ joined_value (item_behind ts t)
along ts t u n = ap (λ c. answer_of (any_unknown ts || c) (joined_text ts ++? None)) (sym u) ∙ ap (λ p. answer_of (any_unknown ts || is_unknown t) (joined_text ts ++? p)) (sym n) ∙ sym (joined_value-behind ts t)

-- a value that has no text
pub misfit-joins : (a : Answer) (ts : Items) (t : Tree) → is_unknown t ≡ false → text_of t ≡ None → (a ≡ Ok unknown → ⊥) → a ≡ joined_value ts → Err WrongKind ≡ joined_value (item_behind ts t)
misfit-joins a ts t u n other e = misfit-after (any_unknown ts) (joined_text ts) a e other ∙ along ts t u n

-- a value that has no text, where the answer is unknown
pub unknown-stays : (ts : Items) (t : Tree) → Ok unknown ≡ joined_value ts → Ok unknown ≡ joined_value (item_behind ts t)
unknown-stays ts t e = unknown-after (any_unknown ts) (is_unknown t) (joined_text ts) (text_of t) e ∙ sym (joined_value-behind ts t)

-- a text pushed behind the text so far
pub text-pushed : {T E : Type 0} (r : Result T E) (j : Joined) (s : String Global) (old literal new : List ℕ) → j ≡ Text s → old ≡ string_bytes s → new ≡ cond (is_ok r) (string_bytes s ++ literal) (string_bytes s)
    → IsWithinLimits (text (old ++ literal)) → OnOk r ((ts : Items) → joined_so_far j ≡ joined_value ts → Ok (text new) ≡ joined_value (item_behind ts (text literal)))
text-pushed (Ok u) j s old literal new is same e w = λ ts h.
    let before : Ok (text (string_bytes s)) ≡ joined_value ts = sym (ap joined_so_far is) ∙ h in
    let within : limited (text (string_bytes s ++ literal)) ≡ Ok (text (string_bytes s ++ literal)) = rw (← same) (limited-within (text (old ++ literal)) w) in
    ap (λ b. Ok (text b)) e ∙ sym within ∙ sym (text-joins ts (string_bytes s) literal before)
text-pushed (Err x) j s old literal new is same e w = tt

-- a text that is too long behind the text so far
pub text-refused : (j : Joined) (s : String Global) (old literal : List ℕ) → j ≡ Text s → old ≡ string_bytes s → (IsWithinLimits (text (old ++ literal)) → ⊥)
    → (ts : Items) → joined_so_far j ≡ joined_value ts → Err TooLarge ≡ joined_value (item_behind ts (text literal))
text-refused j s old literal is same n ts h =
    let before : Ok (text (string_bytes s)) ≡ joined_value ts = sym (ap joined_so_far is) ∙ h in
    let beyond : limited (text (string_bytes s ++ literal)) ≡ Err TooLarge = rw (← same) (limited-beyond (text (old ++ literal)) n) in
    sym beyond ∙ sym (text-joins ts (string_bytes s) literal before)

-- a value pushed as another of the same text
pub pushed-as : {T E : Type 0} (r : Result T E) (old new : Answer) (t u : Tree) → is_unknown t ≡ is_unknown u → text_of t ≡ text_of u
    → OnOk r ((ts : Items) → old ≡ joined_value ts → new ≡ joined_value (item_behind ts t)) → OnOk r ((ts : Items) → old ≡ joined_value ts → new ≡ joined_value (item_behind ts u))
pushed-as (Ok x) old new t u e f h = λ ts before. h ts before ∙ joined_value-same ts t u e f
pushed-as (Err x) old new t u e f h = tt

-- only one state is unknown
pub known-states : (j : Joined) → (j ≡ Unknown → ⊥) → joined_so_far j ≡ Ok unknown → ⊥
known-states (Text s) n e = absurd (cc)
known-states states.TooLarge n e = absurd (cc)
known-states states.WrongKind n e = absurd (cc)
known-states Unknown n e = n refl
