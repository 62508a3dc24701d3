-- Knowledge only grows, from part to part.
use Rattle.std.proofs.Common.{◌≡◌, refl, ◌⊎◌, ℕ, Bool, true, false, Option, Some, None, List, [], ◌∷◌, Result, Ok, Err, sym, inl, inr, subst, if◌then◌else◌, ◌&&◌, nat_le}
use Rattle.tf_expr_syntax.specs.TemplateTree as syntax
use Rattle.tf_value_data.specs.Tree.{Tree, null, boolean, whole, text, list, map, set, unknown, items_of}
use Rattle.tf_value_data.specs.Measure.{weight, depth, max_weight, max_depth}
use Rattle.tf_value_data.specs.Refinement.{Refines, RefinesItems}
use Rattle.tf_expr_operators.specs.Answer.{Answer, limited, item_behind, list_value}
use Rattle.tf_expr_operators.specs.Functions.{call_value}
use Rattle.tf_expr_syntax.specs.Function.{takes, function_named}
use Rattle.tf_expr_operators.specs.Joining.{joined_value}
use Rattle.tf_expr_operators.specs.Laws.{UnaryGrows, BinaryGrows, AttributeGrows, IndexGrows, ListGrows, JoinedGrows, CallGrows}
use Rattle.tf_expr_operators.specs.Operators.{unary_value, binary_value}
use Rattle.tf_expr_operators.specs.Parts.{attribute_value, index_value}
use Rattle.tf_expr_syntax.specs.declared.fault.EvalFault.{EvalFault}
use Rattle.tf_expr_syntax.specs.declared.fault.EvalFault.TheVariants.{Arity, TooLarge}
use Rattle.tf_expr_syntax.specs.declared.function.Function.{Function}
use Rattle.tf_expr_eval.specs.Environment.{Environment, RefinesTo}
use Rattle.tf_expr_eval.specs.Meaning.{and_then, between, called, choice, chosen, count, laid, meaning, meanings, woven}
use Rattle.tf_expr_eval.proofs.Alone.{split, split_two}

-- what holds of the operations, and that a value refines to itself
pub record Laws : Type 0 where
  pub same : (t : Tree) → Refines t t
  pub unary : UnaryGrows
  pub binary : BinaryGrows
  pub attribute : AttributeGrows
  pub index : IndexGrows
  pub listed : ListGrows
  pub joined : JoinedGrows
  pub call : CallGrows

one_answer : (laws : Laws) (r : Answer) (v w : Tree) → r ≡ Ok v → r ≡ Ok w → Refines v w
one_answer laws r v w p q = let e : v ≡ w = (cc) in rw (← e) (laws.same v)

-- the same texts, and values that refine
abbrev pub RefinesPieces : List (List ℕ × Tree) → List (List ℕ × Tree) → Type 0
RefinesPieces [] [] = Unit {0}
RefinesPieces (p ∷ ps) (q ∷ qs) = (p.0 ≡ q.0) × Refines p.1 q.1 × RefinesPieces ps qs
RefinesPieces _ _ = ⊥

laid_grow : (ps qs : List (List ℕ × Tree)) (last : List ℕ) → RefinesPieces ps qs → RefinesItems (item_behind (laid ps) (text last)) (item_behind (laid qs) (text last))
laid_grow [] [] last h = (refl, tt)
laid_grow [] (q ∷ qs) last h = absurd h
laid_grow (p ∷ ps) [] last h = absurd h
laid_grow (p ∷ ps) (q ∷ qs) last h = (h.0, (h.1, laid_grow ps qs last h.2))

joined_grow : (laws : Laws) (ps qs : List (List ℕ × Tree)) (last : List ℕ) (v w : Tree) → RefinesPieces ps qs → joined_value (item_behind (laid ps) (text last)) ≡ Ok v
    → joined_value (item_behind (laid qs) (text last)) ≡ Ok w → Refines v w
joined_grow laws ps qs last v w h p q = laws.joined (item_behind (laid ps) (text last)) (item_behind (laid qs) (text last)) v w (laid_grow ps qs last h) p q

alone_grows : (laws : Laws) (s : List ℕ) (a b : Tree) (last : List ℕ) (v w : Tree) → Refines a b → woven ((s, a) ∷ []) last ≡ Ok v → woven ((s, b) ∷ []) last ≡ Ok w → Refines v w
alone_grows laws [] a b [] v w h p q = let e : a ≡ v = (cc) in let f : b ≡ w = (cc) in rw (← e, ← f) h
alone_grows laws [] a b (c ∷ last) v w h p q = joined_grow laws (([], a) ∷ []) (([], b) ∷ []) (c ∷ last) v w (refl, h, tt) p q
alone_grows laws (c ∷ s) a b last v w h p q = joined_grow laws ((c ∷ s, a) ∷ []) ((c ∷ s, b) ∷ []) last v w (refl, h, tt) p q

several_grow : (laws : Laws) (s : List ℕ) (a b : Tree) (x y : List ℕ × Tree) (xs ys : List (List ℕ × Tree)) (last : List ℕ) (v w : Tree) → Refines a b → RefinesPieces (x ∷ xs) (y ∷ ys)
    → woven ((s, a) ∷ x ∷ xs) last ≡ Ok v → woven ((s, b) ∷ y ∷ ys) last ≡ Ok w → Refines v w
several_grow laws [] a b x y xs ys last v w h r p q = joined_grow laws (([], a) ∷ x ∷ xs) (([], b) ∷ y ∷ ys) last v w (refl, h, r) p q
several_grow laws (c ∷ s) a b x y xs ys last v w h r p q = joined_grow laws ((c ∷ s, a) ∷ x ∷ xs) ((c ∷ s, b) ∷ y ∷ ys) last v w (refl, h, r) p q

woven_grows : (laws : Laws) (ps qs : List (List ℕ × Tree)) (last : List ℕ) (v w : Tree) → RefinesPieces ps qs → woven ps last ≡ Ok v → woven qs last ≡ Ok w → Refines v w
woven_grows laws [] [] last v w h p q = one_answer laws _ v w p q
woven_grows laws [] (y ∷ ys) last v w h p q = absurd h
woven_grows laws (x ∷ xs) [] last v w h p q = absurd h
woven_grows laws (x ∷ []) (y ∷ []) last v w h p q = alone_grows laws x.0 x.1 y.1 last v w h.1 p (rw h.0 q)
woven_grows laws (x ∷ []) (y ∷ z ∷ ys) last v w h p q = absurd h.2
woven_grows laws (x ∷ z ∷ xs) (y ∷ []) last v w h p q = absurd h.2
woven_grows laws (x ∷ z ∷ xs) (y ∷ u ∷ ys) last v w h p q = several_grow laws x.0 x.1 y.1 z u xs ys last v w h.1 h.2 p (rw h.0 q)

within_is : (enough : Bool) (t v : Tree) → ◌≡◌ {A = Answer} (if enough then Ok t else Err TooLarge) (Ok v) → t ≡ v
within_is true t v h = cc
within_is false t v h = absurd (cc)

limited_is : (t v : Tree) → limited t ≡ Ok v → t ≡ v
limited_is t v h = within_is (nat_le (weight t) max_weight && nat_le (depth t) max_depth) t v h

-- what a function with so many arguments answers
taken_grows : (laws : Laws) (f : Function) (enough : Bool) (before after : Result (List Tree) EvalFault) (v w : Tree)
    → ((vs ws : List Tree) → before ≡ Ok vs → after ≡ Ok ws → RefinesItems (items_of vs) (items_of ws))
    → ◌≡◌ {A = Answer} (if enough then and_then before (λ vs. call_value f (items_of vs)) else Err Arity) (Ok v) → ◌≡◌ {A = Answer} (if enough then and_then after (λ vs. call_value f (items_of vs)) else Err Arity) (Ok w) → Refines v w
taken_grows laws f false before after v w grow p q = absurd (cc)
taken_grows laws f true before after v w grow p q =
    let x = split before (λ vs. call_value f (items_of vs)) v p in
    let y = split after (λ vs. call_value f (items_of vs)) w q in
    laws.call f (items_of x.0) (items_of y.0) v w (grow x.0 y.0 x.1 y.1) x.2 y.2

called_grows : (laws : Laws) (name : Option Function) (n : ℕ) (before after : Result (List Tree) EvalFault) (v w : Tree)
    → ((vs ws : List Tree) → before ≡ Ok vs → after ≡ Ok ws → RefinesItems (items_of vs) (items_of ws)) → called name n before ≡ Ok v → called name n after ≡ Ok w → Refines v w
called_grows laws None n before after v w grow p q = absurd (cc)
called_grows laws (Some f) n before after v w grow p q = taken_grows laws f (takes f n) before after v w grow p q

-- a condition of which more is known chooses the same, unless nothing was chosen
choice_grows : (a b : Tree) (k l : Option Bool) → Refines a b → choice a ≡ Ok k → choice b ≡ Ok l → (k ≡ None) ⊎ (k ≡ l)
choice_grows unknown b k l h p q = inl (cc)
choice_grows (boolean x) (boolean y) k l h p q = inr (cc)
choice_grows (boolean x) null k l h p q = absurd h
choice_grows (boolean x) (whole z) k l h p q = absurd h
choice_grows (boolean x) (text s) k l h p q = absurd h
choice_grows (boolean x) (list ts) k l h p q = absurd h
choice_grows (boolean x) (map es) k l h p q = absurd h
choice_grows (boolean x) (set ss) k l h p q = absurd h
choice_grows (boolean x) unknown k l h p q = absurd h
choice_grows null b k l h p q = absurd (cc)
choice_grows (whole z) b k l h p q = absurd (cc)
choice_grows (text s) b k l h p q = absurd (cc)
choice_grows (list ts) b k l h p q = absurd (cc)
choice_grows (map es) b k l h p q = absurd (cc)
choice_grows (set ss) b k l h p q = absurd (cc)

-- the branches grow, so what is chosen of them does
chosen_grows : (k l : Option Bool) (a b c d : Answer) (v w : Tree) → ((x y : Tree) → a ≡ Ok x → b ≡ Ok y → Refines x y) → ((x y : Tree) → c ≡ Ok x → d ≡ Ok y → Refines x y)
    → (k ≡ None) ⊎ (k ≡ l) → chosen k a c ≡ Ok v → chosen l b d ≡ Ok w → Refines v w
chosen_grows None l a b c d v w first second e p q = let is : unknown ≡ v = (cc) in rw (← is) tt
chosen_grows (Some true) l a b c d v w first second (inl e) p q = absurd (cc)
chosen_grows (Some false) l a b c d v w first second (inl e) p q = absurd (cc)
chosen_grows (Some true) l a b c d v w first second (inr e) p q = first v w p (subst (λ k. chosen k b d ≡ Ok w) (sym e) q)
chosen_grows (Some false) l a b c d v w first second (inr e) p q = second v w p (subst (λ k. chosen k b d ≡ Ok w) (sym e) q)

mutual
  pub grows : (laws : Laws) (before after : Environment) → RefinesTo before after → (t : syntax.Tree) (v w : Tree) → meaning before t ≡ Ok v → meaning after t ≡ Ok w → Refines v w
  grows laws e f h (syntax.number n) v w p q = one_answer laws _ v w p q
  grows laws e f h (syntax.truth b) v w p q = one_answer laws _ v w p q
  grows laws e f h syntax.null v w p q = one_answer laws _ v w p q
  grows laws e f h (syntax.quoted ps last) v w p q =
      let x = split (between e ps) (λ valued. woven valued last) v p in
      let y = split (between f ps) (λ valued. woven valued last) w q in
      woven_grows laws x.0 y.0 last v w (between_grow laws e f h ps x.0 y.0 x.1 y.1) x.2 y.2
  grows laws e f h (syntax.reference a b) v w p q =
      let x = split (e a b) limited v p in
      let y = split (f a b) limited w q in
      rw (← limited_is x.0 v x.2, ← limited_is y.0 w y.2) (h a b x.0 y.0 x.1 y.1)
  grows laws e f h (syntax.call name ts) v w p q =
      called_grows laws (function_named name) (count ts) (meanings e ts) (meanings f ts) v w (λ vs ws m n. all_grow laws e f h ts vs ws m n) p q
  grows laws e f h (syntax.group t) v w p q = grows laws e f h t v w p q
  grows laws e f h (syntax.listed ts) v w p q =
      let x = split (meanings e ts) (λ vs. list_value (items_of vs)) v p in
      let y = split (meanings f ts) (λ vs. list_value (items_of vs)) w q in
      laws.listed (items_of x.0) (items_of y.0) v w (all_grow laws e f h ts x.0 y.0 x.1 y.1) x.2 y.2
  grows laws e f h (syntax.attribute t name) v w p q =
      let x = split (meaning e t) (λ u. attribute_value u name) v p in
      let y = split (meaning f t) (λ u. attribute_value u name) w q in
      laws.attribute x.0 y.0 name v w (grows laws e f h t x.0 y.0 x.1 y.1) x.2 y.2
  grows laws e f h (syntax.index t i) v w p q =
      let x = split (meaning e t) (λ u. and_then (meaning e i) (λ k. index_value u k)) v p in
      let y = split (meaning f t) (λ u. and_then (meaning f i) (λ k. index_value u k)) w q in
      let r = split (meaning e i) (λ k. index_value x.0 k) v x.2 in
      let s = split (meaning f i) (λ k. index_value y.0 k) w y.2 in
      laws.index x.0 y.0 r.0 s.0 v w (grows laws e f h t x.0 y.0 x.1 y.1) (grows laws e f h i r.0 s.0 r.1 s.1) r.2 s.2
  grows laws e f h (syntax.unary op t) v w p q =
      let x = split (meaning e t) (λ u. unary_value op u) v p in
      let y = split (meaning f t) (λ u. unary_value op u) w q in
      laws.unary op x.0 y.0 v w (grows laws e f h t x.0 y.0 x.1 y.1) x.2 y.2
  grows laws e f h (syntax.binary op a b) v w p q =
      let x = split (meaning e a) (λ u. and_then (meaning e b) (λ k. binary_value op u k)) v p in
      let y = split (meaning f a) (λ u. and_then (meaning f b) (λ k. binary_value op u k)) w q in
      let r = split (meaning e b) (λ k. binary_value op x.0 k) v x.2 in
      let s = split (meaning f b) (λ k. binary_value op y.0 k) w y.2 in
      laws.binary op x.0 y.0 r.0 s.0 v w (grows laws e f h a x.0 y.0 x.1 y.1) (grows laws e f h b r.0 s.0 r.1 s.1) r.2 s.2
  grows laws e f h (syntax.conditional c a b) v w p q =
      let x = split (meaning e c) (λ u. and_then (choice u) (λ k. chosen k (meaning e a) (meaning e b))) v p in
      let y = split (meaning f c) (λ u. and_then (choice u) (λ k. chosen k (meaning f a) (meaning f b))) w q in
      let r = split (choice x.0) (λ k. chosen k (meaning e a) (meaning e b)) v x.2 in
      let s = split (choice y.0) (λ k. chosen k (meaning f a) (meaning f b)) w y.2 in
      chosen_grows r.0 s.0 (meaning e a) (meaning f a) (meaning e b) (meaning f b) v w (λ m n i j. grows laws e f h a m n i j) (λ m n i j. grows laws e f h b m n i j)
      (choice_grows x.0 y.0 r.0 s.0 (grows laws e f h c x.0 y.0 x.1 y.1) r.1 s.1) r.2 s.2

  all_grow : (laws : Laws) (before after : Environment) → RefinesTo before after → (ts : syntax.Trees) (vs ws : List Tree) → meanings before ts ≡ Ok vs → meanings after ts ≡ Ok ws
      → RefinesItems (items_of vs) (items_of ws)
  all_grow laws e f h syntax.no_trees vs ws p q = let x : [] ≡ vs = (cc) in let y : [] ≡ ws = (cc) in rw (← x, ← y) tt
  all_grow laws e f h (syntax.tree t ts) vs ws p q =
      let x = split_two (meaning e t) (meanings e ts) (λ v others. v ∷ others) vs p in
      let y = split_two (meaning f t) (meanings f ts) (λ v others. v ∷ others) ws q in
      let a : x.0 ∷ x.1 ≡ vs = x.4 in
      let b : y.0 ∷ y.1 ≡ ws = y.4 in
      rw (← a, ← b) (grows laws e f h t x.0 y.0 x.2 y.2, all_grow laws e f h ts x.1 y.1 x.3 y.3)

  pub between_grow : (laws : Laws) (before after : Environment) → RefinesTo before after → (ps : syntax.Parts) (xs ys : List (List ℕ × Tree)) → between before ps ≡ Ok xs → between after ps ≡ Ok ys
      → RefinesPieces xs ys
  between_grow laws e f h syntax.no_parts xs ys p q = let x : [] ≡ xs = (cc) in let y : [] ≡ ys = (cc) in rw (← x, ← y) tt
  between_grow laws e f h (syntax.part before t ps) xs ys p q =
      let x = split_two (meaning e t) (between e ps) (λ v others. (before, v) ∷ others) xs p in
      let y = split_two (meaning f t) (between f ps) (λ v others. (before, v) ∷ others) ys q in
      let a : (before, x.0) ∷ x.1 ≡ xs = x.4 in
      let b : (before, y.0) ∷ y.1 ≡ ys = y.4 in
      rw (← a, ← b) (refl, grows laws e f h t x.0 y.0 x.2 y.2, between_grow laws e f h ps x.1 y.1 x.3 y.3)

-- the value of a template grows
pub template_grows : (laws : Laws) (before after : Environment) → RefinesTo before after → (ps : syntax.Parts) (last : List ℕ) (v w : Tree)
    → and_then (between before ps) (λ valued. woven valued last) ≡ Ok v → and_then (between after ps) (λ valued. woven valued last) ≡ Ok w → Refines v w
template_grows laws e f h ps last v w p q = grows laws e f h (syntax.quoted ps last) v w p q
