-- Where all that names stand for is known, so is what expressions mean.
use Rattle.std.proofs.Common.{◌≡◌, ◌∙◌, ℕ, ℤ, pos, Bool, true, false, Option, Some, None, List, [], ◌∷◌, Result, Ok, Err, refl, ap, subst, if◌then◌else◌, ◌&&◌, nat_le, nat_lt, ◌^◌}
use Rattle.tf_expr_syntax.specs.ExprTree as exprs
use Rattle.tf_expr_syntax.specs.TemplateTree as syntax
use Rattle.tf_value_data.specs.Known.{known, known_items, known_entries}
use Rattle.tf_value_data.specs.Measure.{weight, depth, max_weight, max_depth}
use Rattle.tf_value_data.specs.Tree.{Tree, null, boolean, whole, text, unknown, Items, no_items, item, Entries, no_entries, entry, items_of}
use Rattle.tf_value_data.proofs.Conjunction.{and-first, and-second, and-both}
use Rattle.tf_expr_operators.specs.Answer.{Answer, limited, item_behind, items_behind, list_value, map_value}
use Rattle.tf_expr_operators.specs.Functions.{call_value}
use Rattle.tf_expr_syntax.specs.Function.{takes, function_named}
use Rattle.tf_expr_operators.specs.Joining.{joined_value}
use Rattle.tf_expr_operators.specs.Laws.{OperatorsKeepKnown, PartsKeepKnown, CollectionsKeepKnown, CallsKeepKnown}
use Rattle.tf_expr_operators.specs.Operators.{unary_value, binary_value}
use Rattle.tf_expr_operators.specs.Parts.{attribute_value, index_value}
use Rattle.tf_expr_syntax.specs.declared.fault.EvalFault.{EvalFault}
use Rattle.tf_expr_syntax.specs.declared.fault.EvalFault.TheVariants.{Arity, Overflow, TooLarge}
use Rattle.tf_expr_syntax.specs.declared.function.Function.{Function}
use Rattle.tf_expr_eval.specs.Environment.{Environment}
use Rattle.tf_expr_eval.specs.ExprMeaning as expr
use Rattle.tf_expr_eval.specs.Meaning.{and_then, between, called, choice, chosen, count, laid, meaning, meanings, woven}
use Rattle.tf_expr_eval.proofs.Alone.{split, split_two}
use Rattle.tf_laws.specs.Known.{IsKnown, ExpressionsStayKnown}

-- what operations answer to known operands is known
pub record Keeps : Type 0 where
  pub operators : OperatorsKeepKnown
  pub parts : PartsKeepKnown
  pub collections : CollectionsKeepKnown
  pub calls : CallsKeepKnown

known_same : (t v : Tree) → known t ≡ true → ◌≡◌ {A = Answer} (Ok t) (Ok v) → known v ≡ true
known_same t v k e = let same : t ≡ v = (cc) in subst (λ (x : Tree). known x ≡ true) same k

whole_known : (fits : Bool) (z : ℤ) (v : Tree) → ◌≡◌ {A = Answer} (if fits then Ok (whole z) else Err Overflow) (Ok v) → known v ≡ true
whole_known true z v e = known_same (whole z) v refl e
whole_known false z v e = absurd (cc)

limited_known : (fits_weight fits_depth : Bool) (t v : Tree) → known t ≡ true → ◌≡◌ {A = Answer} (if fits_weight && fits_depth then Ok t else Err TooLarge) (Ok v) → known v ≡ true
limited_known true true t v k e = known_same t v k e
limited_known true false t v k e = absurd (cc)
limited_known false b t v k e = absurd (cc)

name_known : (t v : Tree) → known t ≡ true → limited t ≡ Ok v → known v ≡ true
name_known t v k e = limited_known (nat_le (weight t) max_weight) (nat_le (depth t) max_depth) t v k e

-- each value behind a text is known
abbrev ArePiecesKnown : List (List ℕ × Tree) → Type 0
ArePiecesKnown [] = Unit {0}
ArePiecesKnown (p ∷ ps) = (known p.1 ≡ true) × ArePiecesKnown ps

behind_known : (ts us : Items) → known_items ts ≡ true → known_items us ≡ true → known_items (items_behind ts us) ≡ true
behind_known no_items us h k = k
behind_known (item t ts) us h k = and-both (known t) (known_items (items_behind ts us)) (and-first (known t) _ h) (behind_known ts us (and-second (known t) _ h) k)

laid_known : (ps : List (List ℕ × Tree)) → ArePiecesKnown ps → known_items (laid ps) ≡ true
laid_known [] h = refl
laid_known ((s, t) ∷ ps) h = and-both (known t) (known_items (laid ps)) h.0 (laid_known ps h.1)

joined_known : (keeps : Keeps) (ps : List (List ℕ × Tree)) (last : List ℕ) (v : Tree) → ArePiecesKnown ps → joined_value (item_behind (laid ps) (text last)) ≡ Ok v → known v ≡ true
joined_known keeps ps last v h e = keeps.collections.2 (item_behind (laid ps) (text last)) v (behind_known (laid ps) (item (text last) no_items) (laid_known ps h) refl) e

woven_known : (keeps : Keeps) (ps : List (List ℕ × Tree)) (last : List ℕ) (v : Tree) → ArePiecesKnown ps → woven ps last ≡ Ok v → known v ≡ true
woven_known keeps [] last v h e = joined_known keeps [] last v h e
woven_known keeps (([], t) ∷ []) [] v h e = known_same t v h.0 e
woven_known keeps (([], t) ∷ []) (c ∷ last) v h e = joined_known keeps (([], t) ∷ []) (c ∷ last) v h e
woven_known keeps ((c ∷ s, t) ∷ []) last v h e = joined_known keeps ((c ∷ s, t) ∷ []) last v h e
woven_known keeps (([], t) ∷ q ∷ ps) last v h e = joined_known keeps (([], t) ∷ q ∷ ps) last v h e
woven_known keeps ((c ∷ s, t) ∷ q ∷ ps) last v h e = joined_known keeps ((c ∷ s, t) ∷ q ∷ ps) last v h e

taken_known : (keeps : Keeps) (f : Function) (enough : Bool) (vs : Result (List Tree) EvalFault) (v : Tree) → ((ts : List Tree) → vs ≡ Ok ts → known_items (items_of ts) ≡ true)
    → ◌≡◌ {A = Answer} (if enough then and_then vs (λ ts. call_value f (items_of ts)) else Err Arity) (Ok v) → known v ≡ true
taken_known keeps f true vs v h e = let x = split vs (λ ts. call_value f (items_of ts)) v e in keeps.calls f (items_of x.0) v (h x.0 x.1) x.2
taken_known keeps f false vs v h e = absurd (cc)

called_known : (keeps : Keeps) (name : Option Function) (n : ℕ) (vs : Result (List Tree) EvalFault) (v : Tree) → ((ts : List Tree) → vs ≡ Ok ts → known_items (items_of ts) ≡ true)
    → called name n vs ≡ Ok v → known v ≡ true
called_known keeps None n vs v h e = absurd (cc)
called_known keeps (Some f) n vs v h e = taken_known keeps f (takes f n) vs v h e

-- a known condition chooses a branch
branch_known : (b : Bool) (k : Option Bool) (x y : Answer) (v : Tree) → ◌≡◌ {A = Result (Option Bool) EvalFault} (Ok (Some b)) (Ok k) → ((t : Tree) → x ≡ Ok t → known t ≡ true) → ((t : Tree) → y ≡ Ok t → known t ≡ true)
    → chosen k x y ≡ Ok v → known v ≡ true
branch_known true k x y v c first second e = let is : Some true ≡ k = (cc) in first v (ap (λ (o : Option Bool). chosen o x y) is ∙ e)
branch_known false k x y v c first second e = let is : Some false ≡ k = (cc) in second v (ap (λ (o : Option Bool). chosen o x y) is ∙ e)

chosen_known : (t : Tree) (k : Option Bool) (x y : Answer) (v : Tree) → known t ≡ true → choice t ≡ Ok k → ((u : Tree) → x ≡ Ok u → known u ≡ true) → ((u : Tree) → y ≡ Ok u → known u ≡ true)
    → chosen k x y ≡ Ok v → known v ≡ true
chosen_known (boolean b) k x y v h c first second e = branch_known b k x y v c first second e
chosen_known unknown k x y v h c first second e = absurd (cc)
chosen_known _ k x y v h c first second e = absurd (cc)

mutual
  template_known : (keeps : Keeps) (env : Environment) → IsKnown env → (t : syntax.Tree) (v : Tree) → meaning env t ≡ Ok v → known v ≡ true
  template_known keeps env is (syntax.number n) v e = whole_known (nat_lt n (2 ^ 63)) (pos n) v e
  template_known keeps env is (syntax.truth b) v e = known_same (boolean b) v refl e
  template_known keeps env is syntax.null v e = known_same null v refl e
  template_known keeps env is (syntax.quoted ps last) v e =
      let x = split (between env ps) (λ valued. woven valued last) v e in
      woven_known keeps x.0 last v (pieces_known keeps env is ps x.0 x.1) x.2
  template_known keeps env is (syntax.reference a b) v e = let x = split (env a b) limited v e in name_known x.0 v (is a b x.0 x.1) x.2
  template_known keeps env is (syntax.call name ts) v e =
      called_known keeps (function_named name) (count ts) (meanings env ts) v (λ vs h. all_known keeps env is ts vs h) e
  template_known keeps env is (syntax.group t) v e = template_known keeps env is t v e
  template_known keeps env is (syntax.listed ts) v e =
      let x = split (meanings env ts) (λ vs. list_value (items_of vs)) v e in keeps.collections.0 (items_of x.0) v (all_known keeps env is ts x.0 x.1) x.2
  template_known keeps env is (syntax.attribute t name) v e =
      let x = split (meaning env t) (λ u. attribute_value u name) v e in keeps.parts.0 x.0 name v (template_known keeps env is t x.0 x.1) x.2
  template_known keeps env is (syntax.index t i) v e =
      let x = split (meaning env t) (λ u. and_then (meaning env i) (λ k. index_value u k)) v e in
      let y = split (meaning env i) (λ k. index_value x.0 k) v x.2 in
      keeps.parts.1 x.0 y.0 v (template_known keeps env is t x.0 x.1) (template_known keeps env is i y.0 y.1) y.2
  template_known keeps env is (syntax.unary op t) v e =
      let x = split (meaning env t) (λ u. unary_value op u) v e in keeps.operators.0 op x.0 v (template_known keeps env is t x.0 x.1) x.2
  template_known keeps env is (syntax.binary op a b) v e =
      let x = split (meaning env a) (λ u. and_then (meaning env b) (λ k. binary_value op u k)) v e in
      let y = split (meaning env b) (λ k. binary_value op x.0 k) v x.2 in
      keeps.operators.1 op x.0 y.0 v (template_known keeps env is a x.0 x.1) (template_known keeps env is b y.0 y.1) y.2
  template_known keeps env is (syntax.conditional c a b) v e =
      let x = split (meaning env c) (λ u. and_then (choice u) (λ k. chosen k (meaning env a) (meaning env b))) v e in
      let y = split (choice x.0) (λ k. chosen k (meaning env a) (meaning env b)) v x.2 in
      chosen_known x.0 y.0 (meaning env a) (meaning env b) v (template_known keeps env is c x.0 x.1) y.1 (λ u h. template_known keeps env is a u h) (λ u h. template_known keeps env is b u h) y.2

  all_known : (keeps : Keeps) (env : Environment) → IsKnown env → (ts : syntax.Trees) (vs : List Tree) → meanings env ts ≡ Ok vs → known_items (items_of vs) ≡ true
  all_known keeps env is syntax.no_trees vs e = let x : [] ≡ vs = (cc) in rw (← x) refl
  all_known keeps env is (syntax.tree t ts) vs e =
      let x = split_two (meaning env t) (meanings env ts) (λ v others. v ∷ others) vs e in
      let a : x.0 ∷ x.1 ≡ vs = x.4 in
      rw (← a) (and-both (known x.0) (known_items (items_of x.1)) (template_known keeps env is t x.0 x.2) (all_known keeps env is ts x.1 x.3))

  pieces_known : (keeps : Keeps) (env : Environment) → IsKnown env → (ps : syntax.Parts) (vs : List (List ℕ × Tree)) → between env ps ≡ Ok vs → ArePiecesKnown vs
  pieces_known keeps env is syntax.no_parts vs e = let x : [] ≡ vs = (cc) in rw (← x) tt
  pieces_known keeps env is (syntax.part before t ps) vs e =
      let x = split_two (meaning env t) (between env ps) (λ v others. (before, v) ∷ others) vs e in
      let a : (before, x.0) ∷ x.1 ≡ vs = x.4 in
      rw (← a) (template_known keeps env is t x.0 x.2, pieces_known keeps env is ps x.1 x.3)

mutual
  expr_known : (keeps : Keeps) (env : Environment) → IsKnown env → (t : exprs.Tree) (v : Tree) → expr.meaning env t ≡ Ok v → known v ≡ true
  expr_known keeps env is exprs.null v e = known_same null v refl e
  expr_known keeps env is (exprs.boolean b) v e = known_same (boolean b) v refl e
  expr_known keeps env is (exprs.whole z) v e = known_same (whole z) v refl e
  expr_known keeps env is (exprs.template w) v e = template_known keeps env is (syntax.quoted w.0 w.1) v e
  expr_known keeps env is (exprs.list ts) v e =
      let x = split (expr.meanings env ts) (λ vs. list_value (items_of vs)) v e in keeps.collections.0 (items_of x.0) v (exprs_known keeps env is ts x.0 x.1) x.2
  expr_known keeps env is (exprs.map es) v e = let x = split (expr.below env es) (λ vs. map_value vs) v e in keeps.collections.1 x.0 v (below_known keeps env is es x.0 x.1) x.2

  exprs_known : (keeps : Keeps) (env : Environment) → IsKnown env → (ts : exprs.Trees) (vs : List Tree) → expr.meanings env ts ≡ Ok vs → known_items (items_of vs) ≡ true
  exprs_known keeps env is exprs.no_trees vs e = let x : [] ≡ vs = (cc) in rw (← x) refl
  exprs_known keeps env is (exprs.tree t ts) vs e =
      let x = split_two (expr.meaning env t) (expr.meanings env ts) (λ v others. v ∷ others) vs e in
      let a : x.0 ∷ x.1 ≡ vs = x.4 in
      rw (← a) (and-both (known x.0) (known_items (items_of x.1)) (expr_known keeps env is t x.0 x.2) (exprs_known keeps env is ts x.1 x.3))

  below_known : (keeps : Keeps) (env : Environment) → IsKnown env → (es : exprs.Entries) (vs : Entries) → expr.below env es ≡ Ok vs → known_entries vs ≡ true
  below_known keeps env is exprs.no_entries vs e = let x : no_entries ≡ vs = (cc) in rw (← x) refl
  below_known keeps env is (exprs.entry k t es) vs e =
      let x = split_two (expr.meaning env t) (expr.below env es) (λ v others. entry k v others) vs e in
      let a : entry k x.0 x.1 ≡ vs = x.4 in
      rw (← a) (and-both (known x.0) (known_entries x.1) (expr_known keeps env is t x.0 x.2) (below_known keeps env is es x.1 x.3))

pub expressions_known : Keeps → ExpressionsStayKnown
expressions_known keeps env e v is h = expr_known keeps env is e v h
