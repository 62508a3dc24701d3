-- The text of a tree is UTF-8 where its texts are.
use Rattle.std.proofs.Common.{◌≡◌, inl, inr, ℕ, ◌<◌, ◌≤◌, Bool, true, false, cond, ◌||◌, ◌&&◌, ◌==◌, List, [], ◌∷◌, ◌++◌, get_or, refl, sym, subst, ap, ◌∙◌, arith, nat_lt}
use Rattle.std.proofs.lemmas.Bool.{cases_lt}
use Rattle.std.proofs.lemmas.Bool.Decides.{nat_tests}
use Rattle.std.proofs.lemmas.Fmt.{IsAscii-decimal}
use Rattle.std.proofs.lemmas.Str.{IsUtf8-append, IsUtf8-nil, IsUtf8-encode, IsUtf8-from_ascii, encode_ascii}
use Rattle.std.specs.Char.{encode_utf8, IsScalar}
use Rattle.std.specs.Fmt.{decimal}
use Rattle.std.specs.List.{list_all}
use Rattle.std.specs.Prelude.{codes, encode_utf8_all}
use Rattle.std.specs.Str.{IsUtf8, all_scalars}
use Rattle.tf_config_address.specs.Name.{starts_name, continues_name, is_name}
use Rattle.tf_expr_template.specs.Canonical.{IsWritable, AreWritable, ArePartsWritable, IsWritableTemplate, HasTexts, HaveTexts, PartsHaveTexts, TemplateHasTexts, byte_text, literal_text, truth_text, prefix_text, sign_text, comma_text, tree_text, trees_text, parts_text, canonical}
use Rattle.tf_expr_syntax.specs.TemplateTree.{Tree, number, truth, null, quoted, reference, call, group, listed, attribute, index, unary, binary, conditional, Trees, no_trees, tree, Parts, no_parts, part, Woven}
use Rattle.tf_expr_syntax.specs.declared.operator.Operator.{Operator}
use Rattle.tf_expr_syntax.specs.declared.operator.Operator.TheVariants.{Or, And, Equal, NotEqual, Greater, GreaterOrEqual, Less, LessOrEqual, Add, Subtract, Multiply}
use Rattle.tf_expr_syntax.specs.declared.tree.Prefix.{Prefix}
use Rattle.tf_expr_syntax.specs.declared.tree.Prefix.TheVariants.{Not, Negate}
use Rattle.tf_expr_template.proofs.Cuts.{name_is_ascii}
use Rattle.tf_expr_template.proofs.Fronts.{both_true, name_goes_on}
use Rattle.tf_expr_template.proofs.Literals.{chosen}

low_is_scalar : (c : ℕ) → c < 128 → IsScalar c
low_is_scalar c h = grind (arith, nat_tests)

pub cons_ascii : (b : ℕ) (s : List ℕ) → b < 128 → IsUtf8 s → IsUtf8 (b ∷ s)
cons_ascii b s h u = IsUtf8-append (b ∷ []) s (subst IsUtf8 (encode_ascii b h) (IsUtf8-encode b (low_is_scalar b h))) u

low_byte : (b : ℕ) → nat_lt b 128 ≡ true → b < 128
low_byte b h = grind (arith, nat_tests)

ascii_front : (a s : List ℕ) → list_all (λ b. nat_lt b 128) a ≡ true → IsUtf8 s → IsUtf8 (a ++ s)
ascii_front [] s h u = u
ascii_front (b ∷ bs) s h u =
    let both = both_true (nat_lt b 128) (list_all (λ b. nat_lt b 128) bs) h in
    cons_ascii b (bs ++ s) (low_byte b both.0) (ascii_front bs s both.1 u)

run_front : (a s : List ℕ) → list_all continues_name a ≡ true → IsUtf8 s → IsUtf8 (a ++ s)
run_front [] s h u = u
run_front (b ∷ bs) s h u =
    let both = both_true (continues_name b) (list_all continues_name bs) h in
    cons_ascii b (bs ++ s) (name_is_ascii b both.0) (run_front bs s both.1 u)

name_front : (a s : List ℕ) → is_name a ≡ true → IsUtf8 s → IsUtf8 (a ++ s)
name_front [] s h u = u
name_front (b ∷ bs) s h u =
    let both = both_true (starts_name b) (list_all continues_name bs) h in
    cons_ascii b (bs ++ s) (name_is_ascii b (name_goes_on b both.0)) (run_front bs s both.1 u)

truth_front : (b : Bool) (s : List ℕ) → IsUtf8 s → IsUtf8 (truth_text b ++ s)
truth_front true s u = ascii_front (codes "true") s refl u
truth_front false s u = ascii_front (codes "false") s refl u

prefix_front : (op : Prefix) (s : List ℕ) → IsUtf8 s → IsUtf8 (prefix_text op ++ s)
prefix_front Not s u = ascii_front (codes "!") s refl u
prefix_front Negate s u = ascii_front (codes "-") s refl u

sign_is_ascii : (op : Operator) → list_all (λ b. nat_lt b 128) (sign_text op) ≡ true
sign_is_ascii Or = refl
sign_is_ascii And = refl
sign_is_ascii Equal = refl
sign_is_ascii NotEqual = refl
sign_is_ascii Greater = refl
sign_is_ascii GreaterOrEqual = refl
sign_is_ascii Less = refl
sign_is_ascii LessOrEqual = refl
sign_is_ascii Add = refl
sign_is_ascii Subtract = refl
sign_is_ascii Multiply = refl

comma_front : (ts : Trees) (s : List ℕ) → IsUtf8 s → IsUtf8 (comma_text ts ++ s)
comma_front no_trees s u = u
comma_front (tree t ts) s u = ascii_front (codes ", ") s refl u

-- bytes of 128 and above stand for themselves
abbrev pub AllHigh : List ℕ → Type 0
AllHigh [] = Unit {0}
AllHigh (b ∷ bs) = (128 ≤ b) × AllHigh bs

pick_high : (x : Bool) (a b : List ℕ) → (x ≡ true → AllHigh a) → (x ≡ false → AllHigh b) → AllHigh (cond x a b)
pick_high true a b f g = f refl
pick_high false a b f g = g refl

pub encode_high : (c : ℕ) → 128 ≤ c → AllHigh (encode_utf8 c)
unfolding encode_utf8
encode_high c h =
    pick_high (nat_lt c 128) _ _ (λ e. absurd (not_low c h e))
    (λ d. pick_high (nat_lt c 2048) _ _ (λ e. (omega arith, (omega arith, tt)))
    (λ e. pick_high (nat_lt c 65536) _ _ (λ f. (omega arith, (omega arith, (omega arith, tt)))) (λ f. (omega arith, (omega arith, (omega arith, (omega arith, tt)))))))
  where
    not_low : (c : ℕ) → 128 ≤ c → nat_lt c 128 ≡ true → ⊥
    not_low c h e = grind (arith, nat_tests)

high_text : (within : Bool) (b n : ℕ) → 128 ≤ b → byte_text within b n ≡ b ∷ []
high_text true b n h = grind (arith, nat_tests)
high_text false b n h = grind (arith, nat_tests)

high_literal : (within : Bool) (a text rest : List ℕ) → AllHigh a → literal_text within (a ++ text) rest ≡ a ++ literal_text within text rest
high_literal within [] text rest h = refl
high_literal within (b ∷ bs) text rest h =
    ap (λ x. x ++ literal_text within (bs ++ text) rest) (high_text within b (get_or (bs ++ text) 0 0) h.0)
    ∙ ap (λ x. b ∷ x) (high_literal within bs text rest h.1)

-- an ASCII byte, as it is written
low_text : (x y z : Bool) (b : ℕ) (s : List ℕ) → b < 128 → IsUtf8 s → IsUtf8 (chosen x y z b ++ s)
low_text true y z b s h u = cons_ascii b (b ∷ s) h (cons_ascii b s h u)
low_text false true z b s h u = cons_ascii 92 (b ∷ s) (omega arith) (cons_ascii b s h u)
low_text false false true b s h u = cons_ascii 92 (110 ∷ s) (omega arith) (cons_ascii 110 s (omega arith) u)
low_text false false false b s h u = cons_ascii b s h u

chars_literal : (within : Bool) (cs rest : List ℕ) → all_scalars cs ≡ true → IsUtf8 rest → IsUtf8 (literal_text within (encode_utf8_all cs) rest)
chars_literal within [] rest h u = u
chars_literal within (c ∷ cs) rest h u =
    let both = both_true _ (all_scalars cs) h in
    let text = encode_utf8_all cs in
    let others = chars_literal within cs rest both.1 u in
    elim (cases_lt c 128) [
      | inl low ↦
          subst (λ x. IsUtf8 (literal_text within (x ++ text) rest)) (sym (encode_ascii c low))
          (low_text (((c == 36) || (c == 37)) && (get_or text 0 0 == 123)) (within && ((c == 34) || (c == 92))) (within && (c == 10)) c (literal_text within text rest) low others)
      | inr high ↦
          subst IsUtf8 (sym (high_literal within (encode_utf8 c) text rest (encode_high c high)))
          (IsUtf8-append (encode_utf8 c) (literal_text within text rest) (IsUtf8-encode c both.0) others)
    ]

literal_front : (within : Bool) (text rest : List ℕ) → IsUtf8 text → IsUtf8 rest → IsUtf8 (literal_text within text rest)
literal_front within text rest h u = subst (λ x. IsUtf8 (literal_text within x rest)) h.1.1 (chars_literal within h.0 rest h.1.0 u)

mutual
  tree_front : (t : Tree) (rest : List ℕ) → IsWritable t → HasTexts t → IsUtf8 rest → IsUtf8 (tree_text t rest)
  tree_front (number n) rest w h u = IsUtf8-append (decimal n) rest (IsUtf8-from_ascii (decimal n) (IsAscii-decimal n (omega (arith, w)))) u
  tree_front (truth b) rest w h u = truth_front b rest u
  tree_front null rest w h u = ascii_front (codes "null") rest refl u
  tree_front (quoted ps last) rest w h u = cons_ascii 34 _ (omega arith) (parts_front ps true last (34 ∷ rest) w h.0 h.1 (cons_ascii 34 rest (omega arith) u))
  tree_front (reference a b) rest w h u = name_front a (46 ∷ (b ++ rest)) w.0.0 (cons_ascii 46 (b ++ rest) (omega arith) (name_front b rest w.1 u))
  tree_front (call f ts) rest w h u = name_front f _ w.0.0 (cons_ascii 40 _ (omega arith) (trees_front ts (41 ∷ rest) w.1 h (cons_ascii 41 rest (omega arith) u)))
  tree_front (group t) rest w h u = cons_ascii 40 _ (omega arith) (tree_front t (41 ∷ rest) w h (cons_ascii 41 rest (omega arith) u))
  tree_front (listed ts) rest w h u = cons_ascii 91 _ (omega arith) (trees_front ts (93 ∷ rest) w h (cons_ascii 93 rest (omega arith) u))
  tree_front (attribute t name) rest w h u = tree_front t (46 ∷ (name ++ rest)) w.0 h (cons_ascii 46 (name ++ rest) (omega arith) (name_front name rest w.1 u))
  tree_front (index t i) rest w h u =
      tree_front t (91 ∷ tree_text i (93 ∷ rest)) w.0 h.0 (cons_ascii 91 _ (omega arith) (tree_front i (93 ∷ rest) w.1 h.1 (cons_ascii 93 rest (omega arith) u)))
  tree_front (unary op t) rest w h u = prefix_front op (tree_text t rest) (tree_front t rest w.0 h u)
  tree_front (binary op a b) rest w h u =
      tree_front a (sign_text op ++ tree_text b rest) w.0 h.0 (ascii_front (sign_text op) (tree_text b rest) (sign_is_ascii op) (tree_front b rest w.1 h.1 u))
  tree_front (conditional c a b) rest w h u =
      let no = tree_text b rest in
      let yes = tree_text a (codes " : " ++ no) in
      tree_front c (codes " ? " ++ yes) w.0 h.0
      (ascii_front (codes " ? ") yes refl (tree_front a (codes " : " ++ no) w.1 h.1 (ascii_front (codes " : ") no refl (tree_front b rest w.2 h.2 u))))

  trees_front : (ts : Trees) (rest : List ℕ) → AreWritable ts → HaveTexts ts → IsUtf8 rest → IsUtf8 (trees_text ts rest)
  trees_front no_trees rest w h u = u
  trees_front (tree t ts) rest w h u = tree_front t (comma_text ts ++ trees_text ts rest) w.0 h.0 (comma_front ts (trees_text ts rest) (trees_front ts rest w.1 h.1 u))

  parts_front : (ps : Parts) (within : Bool) (last rest : List ℕ) → ArePartsWritable ps → PartsHaveTexts ps → IsUtf8 last → IsUtf8 rest → IsUtf8 (parts_text within ps last rest)
  parts_front no_parts within last rest w h k u = literal_front within last rest k u
  parts_front (part text t ps) within last rest w h k u =
      let others = parts_text within ps last rest in
      let inner = tree_text t (125 ∷ others) in
      literal_front within text (36 ∷ 123 ∷ inner) h.0
      (cons_ascii 36 (123 ∷ inner) (omega arith) (cons_ascii 123 inner (omega arith)
      (tree_front t (125 ∷ others) w.1 h.1 (cons_ascii 125 others (omega arith) (parts_front ps within last rest w.2 h.2 k u)))))

pub canonical_utf8 : (w : Woven) → IsWritableTemplate w → TemplateHasTexts w → IsUtf8 (canonical w)
canonical_utf8 w h k = parts_front w.0 false w.1 [] h k.0 k.1 IsUtf8-nil
