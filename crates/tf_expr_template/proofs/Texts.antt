-- The text of a tree spells it.
use Rattle.std.proofs.Common.{◌≡◌, ◌≢◌, inl, inr, ℕ, Bool, true, false, List, [], ◌∷◌, ◌++◌, get_or, refl, ap, ◌∙◌, arith}
use Rattle.std.specs.Prelude.{codes}
use Rattle.tf_config_address.specs.Name.{continues_name}
use Rattle.tf_expr_template.specs.Canonical.{IsWritable, last_byte, AreWritable, ArePartsWritable, IsWritableTemplate, literal_text, truth_text, prefix_text, sign_text, tree_text, trees_text, parts_text, canonical}
use Rattle.tf_expr_template.specs.Literal.{piece, opens, closes, begun, Literal}
use Rattle.tf_expr_template.specs.Reads.{begins}
use Rattle.tf_expr_template.specs.Spelling.{Spells, SpellsList, SpellsParts, SpellsTemplate, Takes, prefix_token}
use Rattle.tf_expr_template.specs.Token.{token_kind}
use Rattle.tf_expr_syntax.specs.TemplateTree.{Tree, number, truth, null, quoted, reference, call, group, listed, attribute, index, unary, binary, conditional, Trees, no_trees, tree, Parts, no_parts, part, Woven}
use Rattle.tf_expr_template.specs.Word.{decimal, keyword}
use Rattle.tf_expr_template.specs.declared.token.TokenKind.{TokenKind}
use Rattle.tf_expr_template.specs.declared.token.TokenKind.TheVariants.{Name, Number, Quote, Binary, OpenParen, CloseParen, OpenBracket, CloseBracket, CloseBrace, Comma, Dot}
use Rattle.tf_expr_syntax.specs.declared.operator.Operator.{Operator}
use Rattle.tf_expr_syntax.specs.declared.operator.Operator.TheVariants.{Subtract}
use Rattle.tf_expr_syntax.specs.declared.tree.Prefix.{Prefix}
use Rattle.tf_expr_syntax.specs.declared.tree.Prefix.TheVariants.{Not, Negate}
use Rattle.tf_expr_template.proofs.Fronts.{takes_spaced, takes_name_spaced, word_spaced, takes_name, takes_keyword, truth_name, truth_keyword, null_keyword, takes_number, takes_byte, takes_question, takes_colon, takes_sign, takes_bang, sign_first}
use Rattle.tf_expr_template.proofs.Growing.{spells_begins}
use Rattle.tf_expr_template.proofs.Literals.{literal_reads}

-- a space before a tree is no part of it
spells_spaced : (t : Tree) (s rest : List ℕ) → Spells t s rest → Spells t (32 ∷ s) rest
spells_spaced (number n) s rest h = (takes_spaced Number s rest h.0, ap decimal (word_spaced s) ∙ h.1, h.2)
spells_spaced (truth b) s rest h = (takes_spaced Name s rest h.0, ap keyword (word_spaced s) ∙ h.1)
spells_spaced null s rest h = (takes_spaced Name s rest h.0, ap keyword (word_spaced s) ∙ h.1)
spells_spaced (quoted ps last) s rest h = (h.0, takes_spaced Quote s h.0 h.1, h.2)
spells_spaced (reference a b) s rest h = (h.0, (h.1.0, h.1.1, takes_name_spaced a s h.1.0 h.1.2, h.1.3, h.1.4))
spells_spaced (call f ts) s rest h = (h.0, (h.1.0, h.1.1, takes_name_spaced f s h.1.0 h.1.2, h.1.3, h.1.4))
spells_spaced (group t) s rest h = (h.0, h.1, takes_spaced OpenParen s h.0 h.2, h.3, h.4)
spells_spaced (listed ts) s rest h = (h.0, takes_spaced OpenBracket s h.0 h.1, h.2)
spells_spaced (attribute t name) s rest h = (h.0, spells_spaced t s h.0 h.1, h.2)
spells_spaced (index t i) s rest h = (h.0, spells_spaced t s h.0 h.1, h.2)
spells_spaced (unary op t) s rest h = (h.0, takes_spaced (prefix_token op) s h.0 h.1, h.2, h.3)
spells_spaced (binary op a b) s rest h = (h.0, spells_spaced a s h.0 h.1, h.2)
spells_spaced (conditional c a b) s rest h = (h.0, spells_spaced c s h.0 h.1, h.2)

list_spaced : (close : TokenKind) (ts : Trees) (s rest : List ℕ) → SpellsList close ts s rest → SpellsList close ts (32 ∷ s) rest
list_spaced close no_trees s rest h = takes_spaced close s rest h
list_spaced close (tree t ts) s rest h = (h.0, spells_spaced t s h.0 h.1, h.2)

-- what follows a tree ends its last name or number
abbrev Ends : List ℕ → Type 0
Ends rest = continues_name (get_or rest 0 0) ≡ false

ends_sign : (op : Operator) (s : List ℕ) → Ends (sign_text op ++ s)
ends_sign op s = ap continues_name (sign_first op s)

takes_prefix : (op : Prefix) (s : List ℕ) → begins (token_kind s) ≡ true → Takes (prefix_token op) (prefix_text op ++ s) s
takes_prefix Not s h = takes_bang s h
takes_prefix Negate s h = takes_byte (Binary Subtract) s tt

-- what ends a template, and begins with nothing that text before it could go on with
record Closing (within : Bool) (s rest : List ℕ) : Type 0 where
  is : piece within s ≡ closes rest
  brace : get_or s 0 0 ≢ 123
  percent : get_or s 0 0 ≢ 37
  dollar : get_or s 0 0 ≢ 36

closing_quote : (rest : List ℕ) → Closing true (34 ∷ rest) rest
unfolding begun
closing_quote rest = record { is = refl; brace = λ h. omega arith; percent = λ h. omega arith; dollar = λ h. omega arith }

closing_text : Closing false [] []
closing_text = record { is = refl; brace = λ h. omega arith; percent = λ h. omega arith; dollar = λ h. omega arith }

opening : (within : Bool) (s : List ℕ) → piece within (36 ∷ 123 ∷ s) ≡ opens s
unfolding begun
opening within s = refl

literal_opens : (within : Bool) (text s : List ℕ) → last_byte text ≢ 36 → Literal within text (literal_text within text (36 ∷ 123 ∷ s)) (36 ∷ 123 ∷ s)
literal_opens within text s d = literal_reads within text (36 ∷ 123 ∷ s) (λ h. omega arith) (λ h. omega arith) (λ h. absurd (d h))

mutual
  tree_spelled : (t : Tree) (rest : List ℕ) → IsWritable t → Ends rest → Spells t (tree_text t rest) rest
  tree_spelled (number n) rest w e = let f = takes_number n rest (omega (arith, w)) e in (f.takes, f.value_is, w)
  tree_spelled (truth b) rest w e = let f = takes_keyword (truth_text b) rest (truth_name b) e in (f.takes, f.word_is ∙ truth_keyword b)
  tree_spelled null rest w e = let f = takes_keyword (codes "null") rest refl e in (f.takes, f.word_is ∙ null_keyword)
  tree_spelled (quoted ps last) rest w e =
      (parts_text true ps last (34 ∷ rest), takes_byte Quote (parts_text true ps last (34 ∷ rest)) tt, parts_spelled ps true last (34 ∷ rest) rest w (closing_quote rest))
  tree_spelled (reference a b) rest w e =
      (w.0.1, (46 ∷ (b ++ rest), b ++ rest, takes_name a (46 ∷ (b ++ rest)) w.0.0 refl, takes_byte Dot (b ++ rest) tt, takes_name b rest w.1 e))
  tree_spelled (call f ts) rest w e =
      let inner = trees_text ts (41 ∷ rest) in
      (w.0.1, (40 ∷ inner, inner, takes_name f (40 ∷ inner) w.0.0 refl, takes_byte OpenParen inner tt, list_spelled ts CloseParen (41 ∷ rest) rest w.1 refl (takes_byte CloseParen rest tt)))
  tree_spelled (group t) rest w e =
      (tree_text t (41 ∷ rest), 41 ∷ rest, takes_byte OpenParen (tree_text t (41 ∷ rest)) tt, tree_spelled t (41 ∷ rest) w refl, takes_byte CloseParen rest tt)
  tree_spelled (listed ts) rest w e =
      (trees_text ts (93 ∷ rest), takes_byte OpenBracket (trees_text ts (93 ∷ rest)) tt, list_spelled ts CloseBracket (93 ∷ rest) rest w refl (takes_byte CloseBracket rest tt))
  tree_spelled (attribute t name) rest w e =
      (46 ∷ (name ++ rest), tree_spelled t (46 ∷ (name ++ rest)) w.0 refl, (name ++ rest, takes_byte Dot (name ++ rest) tt, takes_name name rest w.1 e, w.2))
  tree_spelled (index t i) rest w e =
      let inner = tree_text i (93 ∷ rest) in
      (91 ∷ inner, tree_spelled t (91 ∷ inner) w.0 refl, (inner, 93 ∷ rest, takes_byte OpenBracket inner tt, tree_spelled i (93 ∷ rest) w.1 refl, takes_byte CloseBracket rest tt, w.2))
  tree_spelled (unary op t) rest w e =
      let h = tree_spelled t rest w.0 e in
      (tree_text t rest, takes_prefix op (tree_text t rest) (spells_begins t (tree_text t rest) rest h), h, w.1)
  tree_spelled (binary op a b) rest w e =
      let right = tree_text b rest in (
        sign_text op ++ right,
        tree_spelled a (sign_text op ++ right) w.0 (ends_sign op right),
        (32 ∷ right, takes_sign op right, spells_spaced b right rest (tree_spelled b rest w.1 e), w.2, w.3),
      )
  tree_spelled (conditional c a b) rest w e =
      let no = tree_text b rest in
      let yes = tree_text a (codes " : " ++ no) in (
        codes " ? " ++ yes,
        tree_spelled c (codes " ? " ++ yes) w.0 refl,
        (
          32 ∷ yes,
          codes " : " ++ no,
          32 ∷ no,
          takes_question (32 ∷ yes),
          spells_spaced a yes (codes " : " ++ no) (tree_spelled a (codes " : " ++ no) w.1 refl),
          takes_colon (32 ∷ no),
          spells_spaced b no rest (tree_spelled b rest w.2 e),
          w.3,
        ),
      )

  list_spelled : (ts : Trees) (close : TokenKind) (s rest : List ℕ) → AreWritable ts → Ends s → Takes close s rest → SpellsList close ts (trees_text ts s) rest
  list_spelled no_trees close s rest w e h = h
  list_spelled (tree t no_trees) close s rest w e h = (s, tree_spelled t s w.0 e, inl (tt, h))
  list_spelled (tree t (tree u us)) close s rest w e h =
      let more = trees_text (tree u us) s in (
        44 ∷ 32 ∷ more,
        tree_spelled t (44 ∷ 32 ∷ more) w.0 refl,
        inr (32 ∷ more, takes_byte Comma (32 ∷ more) tt, list_spaced close (tree u us) more rest (list_spelled (tree u us) close s rest w.1 e h)),
      )

  parts_spelled : (ps : Parts) (within : Bool) (last s rest : List ℕ) → ArePartsWritable ps → Closing within s rest → SpellsParts within ps last (parts_text within ps last s) rest
  parts_spelled no_parts within last s rest w c = (s, literal_reads within last s c.brace c.percent (λ h. c.dollar), c.is)
  parts_spelled (part text t ps) within last s rest w c =
      let others = parts_text within ps last s in
      let inner = tree_text t (125 ∷ others) in (
        36 ∷ 123 ∷ inner,
        inner,
        125 ∷ others,
        others,
        literal_opens within text inner w.0,
        opening within inner,
        tree_spelled t (125 ∷ others) w.1 refl,
        takes_byte CloseBrace others tt,
        parts_spelled ps within last s rest w.2 c,
      )

pub canonical_spelled : (w : Woven) → IsWritableTemplate w → SpellsTemplate w (canonical w)
canonical_spelled w h = parts_spelled w.0 false w.1 [] [] h closing_text
