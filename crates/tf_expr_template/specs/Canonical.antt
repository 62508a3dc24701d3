-- One text for each tree that some text spells.
use Rattle.std.specs.Fmt.{decimal}
use Rattle.std.specs.Prelude.{◌≡◌, ◌≢◌, ◌<◌, ◌≤◌, ◌^◌, ℕ, Bool, true, false, if◌then◌else◌, ◌||◌, ◌&&◌, ◌==◌, List, [], ◌∷◌, ◌++◌, codes, slice_index}
use Rattle.std.specs.Str.{IsUtf8}
use Rattle.tf_config_address.specs.Name.{is_name}
use Rattle.tf_expr_syntax.specs.TemplateTree.{Tree, number, truth, null, quoted, reference, call, group, listed, attribute, index, unary, binary, conditional, Trees, no_trees, tree, Parts, no_parts, part, Woven, level, level_of}
use Rattle.tf_expr_template.specs.Word.{keyword}
use Rattle.tf_expr_syntax.specs.declared.operator.Operator.{Operator}
use Rattle.tf_expr_syntax.specs.declared.operator.Operator.TheVariants.{Or, And, Equal, NotEqual, Greater, GreaterOrEqual, Less, LessOrEqual, Add, Subtract, Multiply}
use Rattle.tf_expr_syntax.specs.declared.tree.Prefix.{Prefix}
use Rattle.tf_expr_syntax.specs.declared.tree.Prefix.TheVariants.{Not, Negate}
use Rattle.tf_expr_template.specs.declared.word.Keyword.TheVariants.{Free}

-- a name that isn't `true`, `false` or `null`
abbrev pub IsFreeName : List ℕ → Type 0
IsFreeName name = (is_name name ≡ true) × (keyword name ≡ Free)

-- the last byte of a text, and 0 if it is empty
abbrev pub last_byte : List ℕ → ℕ
last_byte [] = 0
last_byte (b ∷ []) = b
last_byte (b ∷ c ∷ text) = last_byte (c ∷ text)

-- The trees that some text spells: each name is one, each number fits, each part of an operator binds as tightly as
-- the grammar requires, and no text before an interpolation ends in `$`.
abbrev mutual
  pub IsWritable : Tree → Type 0
  IsWritable (number n) = n < 2 ^ 63
  IsWritable (truth b) = Unit {0}
  IsWritable null = Unit {0}
  IsWritable (quoted ps last) = ArePartsWritable ps
  IsWritable (reference a b) = IsFreeName a × (is_name b ≡ true)
  IsWritable (call f ts) = IsFreeName f × AreWritable ts
  IsWritable (group t) = IsWritable t
  IsWritable (listed ts) = AreWritable ts
  IsWritable (attribute t name) = IsWritable t × (is_name name ≡ true) × (10 ≤ level t)
  IsWritable (index t i) = IsWritable t × IsWritable i × (10 ≤ level t)
  IsWritable (unary op t) = IsWritable t × (8 ≤ level t)
  IsWritable (binary op a b) = IsWritable a × IsWritable b × (level_of op ≤ level a) × (level_of op < level b)
  IsWritable (conditional c a b) = IsWritable c × IsWritable a × IsWritable b × (2 ≤ level c)

  pub AreWritable : Trees → Type 0
  AreWritable no_trees = Unit {0}
  AreWritable (tree t ts) = IsWritable t × AreWritable ts

  pub ArePartsWritable : Parts → Type 0
  ArePartsWritable no_parts = Unit {0}
  ArePartsWritable (part text t ps) = (last_byte text ≢ 36) × IsWritable t × ArePartsWritable ps

abbrev pub IsWritableTemplate : Woven → Type 0
IsWritableTemplate w = ArePartsWritable w.0

-- The trees whose texts are UTF-8.
abbrev mutual
  pub HasTexts : Tree → Type 0
  HasTexts (number n) = Unit {0}
  HasTexts (truth b) = Unit {0}
  HasTexts null = Unit {0}
  HasTexts (quoted ps last) = PartsHaveTexts ps × IsUtf8 last
  HasTexts (reference a b) = Unit {0}
  HasTexts (call f ts) = HaveTexts ts
  HasTexts (group t) = HasTexts t
  HasTexts (listed ts) = HaveTexts ts
  HasTexts (attribute t name) = HasTexts t
  HasTexts (index t i) = HasTexts t × HasTexts i
  HasTexts (unary op t) = HasTexts t
  HasTexts (binary op a b) = HasTexts a × HasTexts b
  HasTexts (conditional c a b) = HasTexts c × HasTexts a × HasTexts b

  pub HaveTexts : Trees → Type 0
  HaveTexts no_trees = Unit {0}
  HaveTexts (tree t ts) = HasTexts t × HaveTexts ts

  pub PartsHaveTexts : Parts → Type 0
  PartsHaveTexts no_parts = Unit {0}
  PartsHaveTexts (part text t ps) = IsUtf8 text × HasTexts t × PartsHaveTexts ps

abbrev pub TemplateHasTexts : Woven → Type 0
TemplateHasTexts w = PartsHaveTexts w.0 × IsUtf8 w.1

-- A byte of literal text before the next byte, or before 0 at the end: `$` and `%` are doubled before a brace, and
-- within quotes a quote, a backslash and a line feed are escaped.
abbrev pub byte_text : Bool → ℕ → ℕ → List ℕ
byte_text within b next =
    if ((b == 36) || (b == 37)) && (next == 123) then b ∷ b ∷ []
    else (if within && ((b == 34) || (b == 92)) then 92 ∷ b ∷ []
    else (if within && (b == 10) then codes "\\n"
    else b ∷ []))

-- literal text, before what follows it
abbrev pub literal_text : Bool → List ℕ → List ℕ → List ℕ
literal_text within [] rest = rest
literal_text within (b ∷ text) rest = byte_text within b (slice_index text 0) ++ literal_text within text rest

abbrev pub truth_text : Bool → List ℕ
truth_text true = codes "true"
truth_text false = codes "false"

abbrev pub prefix_text : Prefix → List ℕ
prefix_text Not = codes "!"
prefix_text Negate = codes "-"

-- a binary operator between spaces
abbrev pub sign_text : Operator → List ℕ
sign_text Or = codes " || "
sign_text And = codes " && "
sign_text Equal = codes " == "
sign_text NotEqual = codes " != "
sign_text Greater = codes " > "
sign_text GreaterOrEqual = codes " >= "
sign_text Less = codes " < "
sign_text LessOrEqual = codes " <= "
sign_text Add = codes " + "
sign_text Subtract = codes " - "
sign_text Multiply = codes " * "

-- a comma and a space before the next tree, if there is one
abbrev pub comma_text : Trees → List ℕ
comma_text no_trees = []
comma_text (tree t ts) = codes ", "

-- A tree, a sequence of trees and the rest of a template, each before what follows it: `a.b + 1`, `c ? 1 : 2`, `f(1,
-- 2)`, `[1, 2]`, `a.b[0].c`, `!(a.b)` and `"x${a.b}y"`.
abbrev mutual
  pub tree_text : Tree → List ℕ → List ℕ
  tree_text (number n) rest = decimal n ++ rest
  tree_text (truth b) rest = truth_text b ++ rest
  tree_text null rest = codes "null" ++ rest
  tree_text (quoted ps last) rest = codes "\"" ++ parts_text true ps last (codes "\"" ++ rest)
  tree_text (reference a b) rest = a ++ (codes "." ++ (b ++ rest))
  tree_text (call f ts) rest = f ++ (codes "(" ++ trees_text ts (codes ")" ++ rest))
  tree_text (group t) rest = codes "(" ++ tree_text t (codes ")" ++ rest)
  tree_text (listed ts) rest = codes "[" ++ trees_text ts (codes "]" ++ rest)
  tree_text (attribute t name) rest = tree_text t (codes "." ++ (name ++ rest))
  tree_text (index t i) rest = tree_text t (codes "[" ++ tree_text i (codes "]" ++ rest))
  tree_text (unary op t) rest = prefix_text op ++ tree_text t rest
  tree_text (binary op a b) rest = tree_text a (sign_text op ++ tree_text b rest)
  tree_text (conditional c a b) rest = tree_text c (codes " ? " ++ tree_text a (codes " : " ++ tree_text b rest))

  pub trees_text : Trees → List ℕ → List ℕ
  trees_text no_trees rest = rest
  trees_text (tree t ts) rest = tree_text t (comma_text ts ++ trees_text ts rest)

  pub parts_text : Bool → Parts → List ℕ → List ℕ → List ℕ
  parts_text within no_parts last rest = literal_text within last rest
  parts_text within (part text t ps) last rest =
      literal_text within text (codes "${" ++ tree_text t (codes "}" ++ parts_text within ps last rest))

abbrev pub canonical : Woven → List ℕ
canonical w = parts_text false w.0 w.1 []
