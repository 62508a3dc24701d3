-- What the reader's functions return.
use Rattle.std.specs.Prelude.{◌≡◌, ◌<◌, ◌≤◌, ℕ, suc, Bool, true, false, List, Result, MatchResult}
use Rattle.std.specs.Borrow.{Bor}
use Rattle.tf_expr_template.specs.Spelling.{Spells, SpellsList, SpellsParts, Takes, TakesName}
use Rattle.tf_expr_template.specs.Token.{token_kind, after_token}
use Rattle.tf_expr_syntax.specs.TemplateTree.{Tree, truth, null, attribute, index, unary, binary, conditional, Trees, Woven, tree_depth, trees_depth, parts_depth, level, level_of, view, terms_view, template_view}
use Rattle.tf_expr_template.specs.declared.fault.TemplateFault.{TemplateFault}
use Rattle.tf_expr_template.specs.declared.fault.TemplateFault.TheVariants.{At, TooDeep, OutOfMemory}
use Rattle.tf_expr_template.specs.declared.make.ReadTerm.{ReadTerm}
use Rattle.tf_expr_template.specs.declared.make.Items.{Items}
use Rattle.tf_expr_template.specs.declared.make.Read.{Read}
use Rattle.tf_expr_template.specs.declared.token.Bracket.{Bracket}
use Rattle.tf_expr_template.specs.declared.token.Bracket.TheVariants.{Round, Square}
use Rattle.tf_expr_template.specs.declared.token.TokenKind.{TokenKind}
use Rattle.tf_expr_template.specs.declared.token.TokenKind.TheVariants.{Name, Number, Quote, Bang, Binary, Question, Colon, OpenParen, CloseParen, OpenBracket, CloseBracket, Dot}
use Rattle.tf_expr_syntax.specs.declared.operator.Operator.TheVariants.{Subtract}
use Rattle.tf_expr_template.specs.declared.word.Keyword.{Keyword}
use Rattle.tf_expr_template.specs.declared.word.Keyword.TheVariants.{True, False, Null, Free}

-- the level of the tree that a token makes of the one before it, and 0 if it makes none
abbrev pub binding : TokenKind → ℕ
binding (Binary op) = level_of op
binding Question = 1
binding OpenBracket = 10
binding Dot = 10
binding _ = 0

-- the least level of the tree before such a token
abbrev pub needs : TokenKind → ℕ
needs Question = 2
needs k = binding k

-- whether an expression may begin with a token
abbrev pub begins : TokenKind → Bool
begins Name = true
begins Number = true
begins Quote = true
begins Bang = true
begins (Binary Subtract) = true
begins OpenParen = true
begins OpenBracket = true
begins _ = false

abbrev pub closing : Bracket → TokenKind
closing Round = CloseParen
closing Square = CloseBracket

-- no operator of this level or a tighter one follows
abbrev pub Stops : ℕ → List ℕ → Type 0
Stops least rest = binding (token_kind rest) < least

-- a tree that is no attribute, index, binary operator or conditional
abbrev pub IsOperand : Tree → Type 0
IsOperand (attribute t name) = ⊥
IsOperand (index t i) = ⊥
IsOperand (binary op a b) = ⊥
IsOperand (conditional c a b) = ⊥
IsOperand _ = Unit {0}

-- what follows a tree doesn't continue its last part
abbrev pub Holds : Tree → List ℕ → Type 0
Holds (unary op t) rest = Stops 8 rest
Holds (binary op a b) rest = Stops (suc (level_of op)) rest
Holds (conditional c a b) rest = Stops 1 rest
Holds _ rest = Unit {0}

-- the tree l, with the text s after it up to rest, is the tree t
abbrev pub Turns : Tree → List ℕ → Tree → List ℕ → Type 0
Turns l s (attribute t name) rest = (t ≡ l) × ((q : List ℕ) × Takes Dot s q × TakesName name q rest × (10 ≤ level t))
Turns l s (index t i) rest = (t ≡ l) × ((q r : List ℕ) × Takes OpenBracket s q × Spells i q r × Takes CloseBracket r rest × (10 ≤ level t))
Turns l s (binary op a b) rest = (a ≡ l)
    × ((q : List ℕ) × Takes (Binary op) s q × Spells b q rest × (level_of op ≤ level a) × (level_of op < level b))
Turns l s (conditional c a b) rest = (c ≡ l)
    × ((q r u : List ℕ) × Takes Question s q × Spells a q r × Takes Colon r u × Spells b u rest × (2 ≤ level c))
Turns l s _ rest = ⊥

abbrev pub IsRefusal : TemplateFault → Type 0
IsRefusal (At left) = Unit {0}
IsRefusal TooDeep = ⊥
IsRefusal OutOfMemory = ⊥

-- a fault although a tree is spelled: only out of memory, or too deep if `deep`
abbrev pub Fails : TemplateFault → Type 0 → Type 0
Fails (At left) deep = ⊥
Fails TooDeep deep = deep
Fails OutOfMemory deep = Unit {0}

-- the found tree is spelled at the front of s, and is no deeper than the budget
abbrev pub IsFound : ℕ → List ℕ → ReadTerm → Type 0
IsFound budget s f = Spells (view f.term) s f.rest.now × (f.depth ≡ tree_depth (view f.term)) × (f.depth ≤ budget)

-- the answer if this tree is spelled
abbrev pub Answers : ℕ → Tree → List ℕ → Result ReadTerm TemplateFault → Type 0
Answers budget t rest result =
    MatchResult result (λ f. (view f.term ≡ t) × (f.rest.now ≡ rest)) (λ e. Fails e (budget < tree_depth t))

-- the answer is this tree if the condition holds, unless memory runs out
abbrev pub Makes : Type 0 → Tree → List ℕ → ℕ → Result ReadTerm TemplateFault → Type 0
Makes condition t rest depth result =
    MatchResult result (λ f. condition × (view f.term ≡ t) × (f.rest.now ≡ rest) × (f.depth ≡ depth)) (λ e. condition → e ≡ OutOfMemory)

-- the answer is what follows a token of this kind, if it comes first
abbrev pub Passes : TokenKind → List ℕ → Result (Bor (List ℕ)) TemplateFault → Type 0
Passes k s result = MatchResult result (λ r. (token_kind s ≡ k) × (r.now ≡ after_token s)) (λ e. token_kind s ≡ k → ⊥)

abbrev pub constant_tree : Keyword → Tree
constant_tree True = truth true
constant_tree False = truth false
constant_tree Null = null
constant_tree Free = null

-- a list that was read
abbrev pub IsListed : TokenKind → ℕ → List ℕ → Items → Type 0
IsListed close budget s f = SpellsList close (terms_view f.terms.items) s f.rest.now
    × (f.depth ≡ trees_depth (terms_view f.terms.items)) × (f.depth ≤ budget)

abbrev pub AnswersList : ℕ → Trees → List ℕ → Result Items TemplateFault → Type 0
AnswersList budget ts rest result =
    MatchResult result (λ f. (terms_view f.terms.items ≡ ts) × (f.rest.now ≡ rest)) (λ e. Fails e (budget < trees_depth ts))

-- a template that was read
abbrev pub IsRead : Bool → ℕ → List ℕ → Read → Type 0
IsRead within budget s f = let w = template_view f.template in
    SpellsParts within w.0 w.1 s f.rest.now × (f.depth ≡ parts_depth w.0) × (f.depth ≤ budget)

abbrev pub AnswersParts : ℕ → Woven → List ℕ → Result Read TemplateFault → Type 0
AnswersParts budget w rest result =
    MatchResult result (λ f. (template_view f.template ≡ w) × (f.rest.now ≡ rest)) (λ e. Fails e (budget < parts_depth w.0))
