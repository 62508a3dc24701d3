-- What is spelled, by the token that it begins with.
use Rattle.std.proofs.Common.{◌≡◌, true, false, ℕ, ◌<◌, List, Result, Ok, Err, refl, sym, ap, ◌∙◌, subst, arith, ◌^◌}
use Rattle.tf_expr_template.specs.Reads.{Answers, Fails, Makes, Turns, IsOperand, Stops, begins, binding, closing}
use Rattle.tf_expr_template.specs.Spelling.{Spells, SpellsParts, Takes}
use Rattle.tf_expr_template.specs.Token.{token_kind, token_word, after_token}
use Rattle.tf_expr_syntax.specs.TemplateTree.{Tree, number, truth, null, quoted, reference, call, group, listed, attribute, index, unary, binary, conditional, Parts, level, level_of, parts_depth, tree_depth}
use Rattle.tf_expr_template.specs.Word.{decimal}
use Rattle.tf_expr_template.proofs.Growing.{turns_kind}
use Rattle.tf_expr_template.specs.declared.fault.TemplateFault.{TemplateFault}
use Rattle.tf_expr_template.specs.declared.make.ReadTerm.{ReadTerm}
use Rattle.tf_expr_template.specs.declared.token.Bracket.{Bracket}
use Rattle.tf_expr_template.specs.declared.token.Bracket.TheVariants.{Round, Square}
use Rattle.tf_expr_template.specs.declared.token.TokenKind.{TokenKind}
use Rattle.tf_expr_template.specs.declared.token.TokenKind.TheVariants.{Name, Number, Quote, Bang, Binary, Question, Colon, OpenParen, CloseParen, OpenBracket, CloseBracket, Comma, Wrong}
use Rattle.tf_expr_syntax.specs.declared.operator.Operator.{Operator}
use Rattle.tf_expr_syntax.specs.declared.tree.Prefix.TheVariants.{Not, Negate}

pub closing_plain : (b : Bracket) → binding (closing b) ≡ 0
closing_plain Round = refl
closing_plain Square = refl

pub closing_last : (b : Bracket) → begins (closing b) ≡ false
closing_last Round = refl
closing_last Square = refl

pub closing_other : (b : Bracket) → closing b ≡ Comma → ⊥
closing_other Round e = cc
closing_other Square e = cc

-- the sort of token that an operand begins with: a sign before it is a sign, whichever
abbrev pub kind_sort : TokenKind → TokenKind
kind_sort (Binary op) = Bang
kind_sort k = k

abbrev pub sort_of : Tree → TokenKind
sort_of (number n) = Number
sort_of (quoted ps last) = Quote
sort_of (group t) = OpenParen
sort_of (unary op t) = Bang
sort_of (listed ts) = OpenBracket
sort_of (attribute t name) = Wrong
sort_of (index t i) = Wrong
sort_of (binary op a b) = Wrong
sort_of (conditional c a b) = Wrong
sort_of _ = Name

pub sort_is : (t : Tree) (s m : List ℕ) → IsOperand t → Spells t s m → kind_sort (token_kind s) ≡ sort_of t
sort_is (reference a b) s m o h = ap kind_sort h.1.2.kind_is
sort_is (call f ts) s m o h = ap kind_sort h.1.2.kind_is
sort_is (quoted ps last) s m o h = ap kind_sort h.1.kind_is
sort_is (group t) s m o h = ap kind_sort h.2.kind_is
sort_is (listed ts) s m o h = ap kind_sort h.1.kind_is
sort_is (unary Not t) s m o h = ap kind_sort h.1.kind_is
sort_is (unary Negate t) s m o h = ap kind_sort h.1.kind_is
sort_is (number n) s m o h = ap kind_sort h.0.kind_is
sort_is (truth b) s m o h = ap kind_sort h.0.kind_is
sort_is null s m o h = ap kind_sort h.0.kind_is
sort_is t s m o h = absurd o

-- a quoted template
pub record Quotes (t : Tree) (s rest : List ℕ) : Type 0 where
  pub parts : Parts
  pub last : List ℕ
  pub is : t ≡ quoted parts last
  pub spelled : SpellsParts true parts last (after_token s) rest
  pub deeper : parts_depth parts < tree_depth t

pub at_quote : (t : Tree) (s rest : List ℕ) → IsOperand t → Spells t s rest → token_kind s ≡ Quote → Quotes t s rest
at_quote (quoted ps last) s rest o h e = record { parts = ps; last = last; is = refl; spelled = subst (λ x. SpellsParts true ps last x rest) (sym h.1.after_is) h.2; deeper = omega arith }
at_quote t s rest o h e = absurd (cc (sort_is t s rest o h, ap kind_sort e))

-- an expression in parentheses
pub record Groups (t : Tree) (s rest : List ℕ) : Type 0 where
  pub u : Tree
  pub q : List ℕ
  pub is : t ≡ group u
  pub spelled : Spells u (after_token s) q
  pub close : Takes CloseParen q rest
  pub deeper : tree_depth u < tree_depth t

pub at_group : (t : Tree) (s rest : List ℕ) → IsOperand t → Spells t s rest → token_kind s ≡ OpenParen → Groups t s rest
at_group (group t) s rest o h e = record { u = t; q = h.1; is = refl; spelled = subst (λ x. Spells t x h.1) (sym h.2.after_is) h.3; close = h.4; deeper = omega arith }
at_group t s rest o h e = absurd (cc (sort_is t s rest o h, ap kind_sort e))

-- a binary operator
pub record Joins (op : Operator) (l : Tree) (t : Tree) (s rest : List ℕ) : Type 0 where
  pub r : Tree
  pub is : t ≡ binary op l r
  pub spelled : Spells r (after_token s) rest
  pub tighter : level_of op < level r
  pub deeper : tree_depth r < tree_depth t

pub at_binary : (op : Operator) (l : Tree) (s : List ℕ) (t : Tree) (rest : List ℕ) → Turns l s t rest → token_kind s ≡ Binary op → Joins op l t s rest
at_binary op l s (binary o a b) rest h e =
    let f = sym h.1.1.kind_is ∙ e in
    let g : o ≡ op = cc in
    record {
      r = b;
      is = ap (λ x. binary x a b) g ∙ ap (λ x. binary op x b) h.0;
      spelled = subst (λ x. Spells b x rest) (sym h.1.1.after_is) h.1.2;
      tighter = subst (λ x. level_of x < level b) g h.1.4;
      deeper = omega arith;
    }
at_binary op l s t rest h e = let f = sym (turns_kind l s t rest h) ∙ e in absurd (cc)

-- a conditional
pub record Chooses (l : Tree) (t : Tree) (s rest : List ℕ) : Type 0 where
  pub a : Tree
  pub b : Tree
  pub q : List ℕ
  pub u : List ℕ
  pub is : t ≡ conditional l a b
  pub yes : Spells a (after_token s) q
  pub colon : Takes Colon q u
  pub no : Spells b u rest
  pub deeper_yes : tree_depth a < tree_depth t
  pub deeper_no : tree_depth b < tree_depth t

pub at_question : (l : Tree) (s : List ℕ) (t : Tree) (rest : List ℕ) → Turns l s t rest → token_kind s ≡ Question → Chooses l t s rest
at_question l s (conditional c a b) rest h e = record {
  a = a;
  b = b;
  q = h.1.1;
  u = h.1.2;
  is = ap (λ x. conditional x a b) h.0;
  yes = subst (λ x. Spells a x h.1.1) (sym h.1.3.after_is) h.1.4;
  colon = h.1.5;
  no = h.1.6;
  deeper_yes = omega arith;
  deeper_no = omega arith;
}
at_question l s t rest h e = let f = sym (turns_kind l s t rest h) ∙ e in absurd (cc)

-- an index
pub record Points (l : Tree) (t : Tree) (s rest : List ℕ) : Type 0 where
  pub i : Tree
  pub q : List ℕ
  pub is : t ≡ index l i
  pub spelled : Spells i (after_token s) q
  pub close : Takes CloseBracket q rest
  pub deeper : tree_depth i < tree_depth t

pub at_bracket : (l : Tree) (s : List ℕ) (t : Tree) (rest : List ℕ) → Turns l s t rest → token_kind s ≡ OpenBracket → Points l t s rest
at_bracket l s (index t i) rest h e = record {
  i = i;
  q = h.1.1;
  is = ap (λ x. index x i) h.0;
  spelled = subst (λ x. Spells i x h.1.1) (sym h.1.2.after_is) h.1.3;
  close = h.1.4;
  deeper = omega arith;
}
at_bracket l s t rest h e = let f = sym (turns_kind l s t rest h) ∙ e in absurd (cc)

-- a token that binds nothing stops an expression
pub stops_at : (k : TokenKind) (s after : List ℕ) → binding k ≡ 0 → Takes k s after → Stops 1 s
stops_at k s after z h = omega (arith, z, ap binding h.kind_is)

-- what is made where a tree is spelled answers for it
pub made_answers : (condition : Type 0) (t : Tree) (rest : List ℕ) (depth : ℕ) (result : Result ReadTerm TemplateFault) (budget : ℕ) (u : Tree) (after : List ℕ)
    → Makes condition t rest depth result → condition → t ≡ u → rest ≡ after → Answers budget u after result
made_answers condition t rest depth (Ok f) budget u after h k e r = (h.1 ∙ e, h.2 ∙ r)
made_answers condition t rest depth (Err x) budget u after h k e r = subst (λ y. Fails y (budget < tree_depth u)) (sym (h k)) tt

-- a number that an expression begins with is in range
pub number_fits : (t : Tree) (s rest : List ℕ) → Spells t s rest → token_kind s ≡ Number → decimal (token_word s) < 2 ^ 63
number_fits (number n) s rest h e = omega (arith, h.1, h.2)
number_fits (attribute t name) s rest h e = number_fits t s h.0 h.1 e
number_fits (index t i) s rest h e = number_fits t s h.0 h.1 e
number_fits (binary op a b) s rest h e = number_fits a s h.0 h.1 e
number_fits (conditional c a b) s rest h e = number_fits c s h.0 h.1 e
number_fits t s rest h e = absurd (cc (sort_is t s rest tt h, ap kind_sort e))

-- what is spelled is deeper than no level
pub deep_some : (t : Tree) → 0 < tree_depth t
deep_some (number n) = omega arith
deep_some t = omega arith
