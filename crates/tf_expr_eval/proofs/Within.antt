-- Values are within the limits, from part to part.
use Rattle.std.proofs.Common.{◌≡◌, ℕ, ℤ, pos, Bool, true, false, Option, Some, None, List, [], ◌∷◌, Result, Ok, Err, refl, subst, arith, if◌then◌else◌, ◌&&◌, nat_le, nat_lt, ◌^◌}
use Rattle.std.proofs.lemmas.Bool.{leb-true}
use Rattle.tf_expr_syntax.specs.ExprTree as exprs
use Rattle.tf_expr_syntax.specs.TemplateTree as syntax
use Rattle.tf_value_data.specs.Tree.{Tree, null, boolean, whole, text, unknown, items_of}
use Rattle.tf_value_data.specs.Measure.{weight, depth, max_weight, max_depth, IsWithinLimits}
use Rattle.tf_expr_operators.specs.Answer.{Answer, limited, item_behind, list_value, map_value}
use Rattle.tf_expr_operators.specs.Functions.{call_value}
use Rattle.tf_expr_syntax.specs.Function.{takes, function_named}
use Rattle.tf_expr_operators.specs.Joining.{joined_value}
use Rattle.tf_expr_operators.specs.Laws.{OperatorsAreWithinLimits, PartsAreWithinLimits, CollectionsAreWithinLimits, CallsAreWithinLimits, AreWithinLimits}
use Rattle.tf_expr_operators.specs.Operators.{unary_value, binary_value}
use Rattle.tf_expr_operators.specs.Parts.{attribute_value, index_value}
use Rattle.tf_expr_syntax.specs.declared.fault.EvalFault.{EvalFault}
use Rattle.tf_expr_syntax.specs.declared.fault.EvalFault.TheVariants.{Arity, Overflow, TooLarge}
use Rattle.tf_expr_syntax.specs.declared.function.Function.{Function}
use Rattle.tf_expr_eval.specs.Environment.{Environment}
use Rattle.tf_expr_eval.specs.ExprMeaning as expr
use Rattle.tf_expr_eval.specs.Meaning.{and_then, between, called, choice, chosen, count, laid, meaning, meanings, woven}
use Rattle.tf_expr_eval.proofs.Alone.{split, split_two}

-- what operations answer is within the limits
pub record Bounds : Type 0 where
  pub operators : OperatorsAreWithinLimits
  pub parts : PartsAreWithinLimits
  pub collections : CollectionsAreWithinLimits
  pub calls : CallsAreWithinLimits

-- a scalar is within the limits
scalar : (t v : Tree) → weight t ≡ 1 → depth t ≡ 0 → ◌≡◌ {A = Answer} (Ok t) (Ok v) → IsWithinLimits v
scalar t v w d e = let same : t ≡ v = (cc) in subst IsWithinLimits same (omega (arith, w), omega (arith, d))

whole_within : (fits : Bool) (z : ℤ) (v : Tree) → ◌≡◌ {A = Answer} (if fits then Ok (whole z) else Err Overflow) (Ok v) → IsWithinLimits v
whole_within true z v e = scalar (whole z) v refl refl e
whole_within false z v e = absurd (cc)

limited_within : (fits_weight fits_depth : Bool) (t v : Tree) → (fits_weight ≡ true → fits_depth ≡ true → IsWithinLimits t)
    → ◌≡◌ {A = Answer} (if fits_weight && fits_depth then Ok t else Err TooLarge) (Ok v) → IsWithinLimits v
limited_within true true t v h e = let same : t ≡ v = (cc) in subst IsWithinLimits same (h refl refl)
limited_within true false t v h e = absurd (cc)
limited_within false b t v h e = absurd (cc)

-- what a name stands for is within the limits
name_within : (t v : Tree) → limited t ≡ Ok v → IsWithinLimits v
name_within t v e = limited_within (nat_le (weight t) max_weight) (nat_le (depth t) max_depth) t v (λ p q. (leb-true (weight t) max_weight p, leb-true (depth t) max_depth q)) e

-- each value behind a text is within the limits
abbrev pub ArePiecesWithin : List (List ℕ × Tree) → Type 0
ArePiecesWithin [] = Unit {0}
ArePiecesWithin (p ∷ ps) = IsWithinLimits p.1 × ArePiecesWithin ps

joined_within : (bounds : Bounds) (ps : List (List ℕ × Tree)) (last : List ℕ) (v : Tree) → joined_value (item_behind (laid ps) (text last)) ≡ Ok v → IsWithinLimits v
joined_within bounds ps last v e = bounds.collections.2 (item_behind (laid ps) (text last)) v e

woven_within : (bounds : Bounds) (ps : List (List ℕ × Tree)) (last : List ℕ) (v : Tree) → ArePiecesWithin ps → woven ps last ≡ Ok v → IsWithinLimits v
woven_within bounds [] last v h e = joined_within bounds [] last v e
woven_within bounds (([], t) ∷ []) [] v h e = let same : t ≡ v = (cc) in subst IsWithinLimits same h.0
woven_within bounds (([], t) ∷ []) (c ∷ last) v h e = joined_within bounds (([], t) ∷ []) (c ∷ last) v e
woven_within bounds ((c ∷ s, t) ∷ []) last v h e = joined_within bounds ((c ∷ s, t) ∷ []) last v e
woven_within bounds (([], t) ∷ q ∷ ps) last v h e = joined_within bounds (([], t) ∷ q ∷ ps) last v e
woven_within bounds ((c ∷ s, t) ∷ q ∷ ps) last v h e = joined_within bounds ((c ∷ s, t) ∷ q ∷ ps) last v e

taken_within : (bounds : Bounds) (f : Function) (enough : Bool) (vs : Result (List Tree) EvalFault) (v : Tree) → ((ts : List Tree) → vs ≡ Ok ts → AreWithinLimits (items_of ts))
    → ◌≡◌ {A = Answer} (if enough then and_then vs (λ ts. call_value f (items_of ts)) else Err Arity) (Ok v) → IsWithinLimits v
taken_within bounds f true vs v h e = let x = split vs (λ ts. call_value f (items_of ts)) v e in bounds.calls f (items_of x.0) v (h x.0 x.1) x.2
taken_within bounds f false vs v h e = absurd (cc)

called_within : (bounds : Bounds) (name : Option Function) (n : ℕ) (vs : Result (List Tree) EvalFault) (v : Tree) → ((ts : List Tree) → vs ≡ Ok ts → AreWithinLimits (items_of ts))
    → called name n vs ≡ Ok v → IsWithinLimits v
called_within bounds None n vs v h e = absurd (cc)
called_within bounds (Some f) n vs v h e = taken_within bounds f (takes f n) vs v h e

chosen_within : (k : Option Bool) (a b : Answer) (v : Tree) → ((x : Tree) → a ≡ Ok x → IsWithinLimits x) → ((x : Tree) → b ≡ Ok x → IsWithinLimits x) → chosen k a b ≡ Ok v → IsWithinLimits v
chosen_within None a b v first second e = scalar unknown v refl refl e
chosen_within (Some true) a b v first second e = first v e
chosen_within (Some false) a b v first second e = second v e

mutual
  within : (bounds : Bounds) (env : Environment) (t : syntax.Tree) (v : Tree) → meaning env t ≡ Ok v → IsWithinLimits v
  within bounds env (syntax.number n) v e = whole_within (nat_lt n (2 ^ 63)) (pos n) v e
  within bounds env (syntax.truth b) v e = scalar (boolean b) v refl refl e
  within bounds env syntax.null v e = scalar null v refl refl e
  within bounds env (syntax.quoted ps last) v e =
      let x = split (between env ps) (λ valued. woven valued last) v e in
      woven_within bounds x.0 last v (pieces_within bounds env ps x.0 x.1) x.2
  within bounds env (syntax.reference a b) v e = let x = split (env a b) limited v e in name_within x.0 v x.2
  within bounds env (syntax.call name ts) v e =
      called_within bounds (function_named name) (count ts) (meanings env ts) v (λ vs h. all_within bounds env ts vs h) e
  within bounds env (syntax.group t) v e = within bounds env t v e
  within bounds env (syntax.listed ts) v e =
      let x = split (meanings env ts) (λ vs. list_value (items_of vs)) v e in bounds.collections.0 (items_of x.0) v x.2
  within bounds env (syntax.attribute t name) v e =
      let x = split (meaning env t) (λ u. attribute_value u name) v e in bounds.parts.0 x.0 name v (within bounds env t x.0 x.1) x.2
  within bounds env (syntax.index t i) v e =
      let x = split (meaning env t) (λ u. and_then (meaning env i) (λ k. index_value u k)) v e in
      let y = split (meaning env i) (λ k. index_value x.0 k) v x.2 in
      bounds.parts.1 x.0 y.0 v (within bounds env t x.0 x.1) y.2
  within bounds env (syntax.unary op t) v e =
      let x = split (meaning env t) (λ u. unary_value op u) v e in bounds.operators.0 op x.0 v x.2
  within bounds env (syntax.binary op a b) v e =
      let x = split (meaning env a) (λ u. and_then (meaning env b) (λ k. binary_value op u k)) v e in
      let y = split (meaning env b) (λ k. binary_value op x.0 k) v x.2 in
      bounds.operators.1 op x.0 y.0 v y.2
  within bounds env (syntax.conditional c a b) v e =
      let x = split (meaning env c) (λ u. and_then (choice u) (λ k. chosen k (meaning env a) (meaning env b))) v e in
      let y = split (choice x.0) (λ k. chosen k (meaning env a) (meaning env b)) v x.2 in
      chosen_within y.0 (meaning env a) (meaning env b) v (λ u h. within bounds env a u h) (λ u h. within bounds env b u h) y.2

  all_within : (bounds : Bounds) (env : Environment) (ts : syntax.Trees) (vs : List Tree) → meanings env ts ≡ Ok vs → AreWithinLimits (items_of vs)
  all_within bounds env syntax.no_trees vs e = let x : [] ≡ vs = (cc) in rw (← x) tt
  all_within bounds env (syntax.tree t ts) vs e =
      let x = split_two (meaning env t) (meanings env ts) (λ v others. v ∷ others) vs e in
      let a : x.0 ∷ x.1 ≡ vs = x.4 in
      rw (← a) (within bounds env t x.0 x.2, all_within bounds env ts x.1 x.3)

  pieces_within : (bounds : Bounds) (env : Environment) (ps : syntax.Parts) (vs : List (List ℕ × Tree)) → between env ps ≡ Ok vs → ArePiecesWithin vs
  pieces_within bounds env syntax.no_parts vs e = let x : [] ≡ vs = (cc) in rw (← x) tt
  pieces_within bounds env (syntax.part before t ps) vs e =
      let x = split_two (meaning env t) (between env ps) (λ v others. (before, v) ∷ others) vs e in
      let a : (before, x.0) ∷ x.1 ≡ vs = x.4 in
      rw (← a) (within bounds env t x.0 x.2, pieces_within bounds env ps x.1 x.3)

-- a template's value is within the limits
pub template_within : (bounds : Bounds) (env : Environment) (template : syntax.Woven) (v : Tree) → and_then (between env template.0) (λ valued. woven valued template.1) ≡ Ok v → IsWithinLimits v
template_within bounds env template v e = within bounds env (syntax.quoted template.0 template.1) v e

-- an expression's value is within the limits
pub expr_within : (bounds : Bounds) (env : Environment) (t : exprs.Tree) (v : Tree) → expr.meaning env t ≡ Ok v → IsWithinLimits v
expr_within bounds env exprs.null v e = scalar null v refl refl e
expr_within bounds env (exprs.boolean b) v e = scalar (boolean b) v refl refl e
expr_within bounds env (exprs.whole z) v e = scalar (whole z) v refl refl e
expr_within bounds env (exprs.template w) v e = template_within bounds env w v e
expr_within bounds env (exprs.list ts) v e =
    let x = split (expr.meanings env ts) (λ vs. list_value (items_of vs)) v e in bounds.collections.0 (items_of x.0) v x.2
expr_within bounds env (exprs.map es) v e = let x = split (expr.below env es) (λ vs. map_value vs) v e in bounds.collections.1 x.0 v x.2
