-- Which texts spell a tree.
use Rattle.std.specs.Prelude.{◌≡◌, ◌⊎◌, ◌<◌, ◌≤◌, ◌^◌, ℕ, Bool, true, false, List, []}
use Rattle.tf_expr_template.specs.Literal.{Literal, piece, opens, closes}
use Rattle.tf_expr_template.specs.Token.{token_kind, token_word, after_token}
use Rattle.tf_expr_syntax.specs.TemplateTree.{Tree, number, truth, null, quoted, reference, call, group, listed, attribute, index, unary, binary, conditional, Trees, no_trees, tree, Parts, no_parts, part, Woven, level, level_of}
use Rattle.tf_expr_template.specs.declared.token.TokenKind.{TokenKind}
use Rattle.tf_expr_template.specs.declared.token.TokenKind.TheVariants.{Name, Number, Quote, Bang, Binary, Question, Colon, OpenParen, CloseParen, OpenBracket, CloseBracket, CloseBrace, Comma, Dot}
use Rattle.tf_expr_syntax.specs.declared.operator.Operator.TheVariants.{Subtract}
use Rattle.tf_expr_syntax.specs.declared.tree.Prefix.{Prefix}
use Rattle.tf_expr_syntax.specs.declared.tree.Prefix.TheVariants.{Not, Negate}
use Rattle.tf_expr_template.specs.declared.word.Keyword.{Keyword}
use Rattle.tf_expr_template.specs.declared.word.Keyword.TheVariants.{True, False, Null, Free}
use Rattle.tf_expr_template.specs.Word.{decimal, keyword}

-- the first token is of this kind, and `after` follows it
pub record Takes (k : TokenKind) (s after : List ℕ) : Type 0 where
  pub kind_is : token_kind s ≡ k
  pub after_is : after_token s ≡ after

-- the first token is this name, and `after` follows it
pub record TakesName (name s after : List ℕ) : Type 0 where
  pub kind_is : token_kind s ≡ Name
  pub word_is : token_word s ≡ name
  pub after_is : after_token s ≡ after

abbrev pub truth_word : Bool → Keyword
truth_word true = True
truth_word false = False

abbrev pub prefix_token : Prefix → TokenKind
prefix_token Not = Bang
prefix_token Negate = Binary Subtract

abbrev pub IsEmpty : Trees → Type 0
IsEmpty no_trees = Unit {0}
IsEmpty (tree t ts) = ⊥

-- The tree is spelled at the front of s, and rest follows. A chain of operators of one level groups from the
-- left: the left side of an operator is of its level or a tighter one, the right side of a tighter one.
abbrev mutual
  pub Spells : Tree → List ℕ → List ℕ → Type 0
  Spells (number n) s rest = Takes Number s rest × (decimal (token_word s) ≡ n) × (n < 2 ^ 63)
  Spells (truth b) s rest = Takes Name s rest × (keyword (token_word s) ≡ truth_word b)
  Spells null s rest = Takes Name s rest × (keyword (token_word s) ≡ Null)
  Spells (quoted ps last) s rest = (p : List ℕ) × Takes Quote s p × SpellsParts true ps last p rest
  Spells (reference a b) s rest = (keyword a ≡ Free) × ((p q : List ℕ) × TakesName a s p × Takes Dot p q × TakesName b q rest)
  Spells (call f ts) s rest = (keyword f ≡ Free) × ((p q : List ℕ) × TakesName f s p × Takes OpenParen p q × SpellsList CloseParen ts q rest)
  Spells (group t) s rest = (p q : List ℕ) × Takes OpenParen s p × Spells t p q × Takes CloseParen q rest
  Spells (listed ts) s rest = (p : List ℕ) × Takes OpenBracket s p × SpellsList CloseBracket ts p rest
  Spells (attribute t name) s rest = (p : List ℕ) × Spells t s p
      × ((q : List ℕ) × Takes Dot p q × TakesName name q rest × (10 ≤ level t))
  Spells (index t i) s rest = (p : List ℕ) × Spells t s p
      × ((q r : List ℕ) × Takes OpenBracket p q × Spells i q r × Takes CloseBracket r rest × (10 ≤ level t))
  Spells (unary op t) s rest = (p : List ℕ) × Takes (prefix_token op) s p × Spells t p rest × (8 ≤ level t)
  Spells (binary op a b) s rest = (p : List ℕ) × Spells a s p
      × ((q : List ℕ) × Takes (Binary op) p q × Spells b q rest × (level_of op ≤ level a) × (level_of op < level b))
  Spells (conditional c a b) s rest = (p : List ℕ) × Spells c s p
      × ((q r t : List ℕ) × Takes Question p q × Spells a q r × Takes Colon r t × Spells b t rest × (2 ≤ level c))

  -- the rest of a list up to the token that closes it; a comma may follow its last part
  pub SpellsList : TokenKind → Trees → List ℕ → List ℕ → Type 0
  SpellsList close no_trees s rest = Takes close s rest
  SpellsList close (tree t ts) s rest = (p : List ℕ) × Spells t s p
      × ((IsEmpty ts × Takes close p rest) ⊎ ((q : List ℕ) × Takes Comma p q × SpellsList close ts q rest))

  -- the rest of a template, within quotes or not
  pub SpellsParts : Bool → Parts → List ℕ → List ℕ → List ℕ → Type 0
  SpellsParts within no_parts last s rest = (p : List ℕ) × Literal within last s p × (piece within p ≡ closes rest)
  SpellsParts within (part text t ps) last s rest = (p q r u : List ℕ) × Literal within text s p × (piece within p ≡ opens q)
      × Spells t q r × Takes CloseBrace r u × SpellsParts within ps last u rest

-- a whole text spells a template
abbrev pub SpellsTemplate : Woven → List ℕ → Type 0
SpellsTemplate w text = SpellsParts false w.0 w.1 text []
