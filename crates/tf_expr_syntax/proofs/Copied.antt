-- Interpolations by the bytes of their texts.
use Rattle.std.proofs.Common.{◌≡◌, ℕ, List, [], ◌∷◌, map, ap, sym, ◌∙◌, refl, String, Global, string_bytes}
use Rattle.tf_expr_syntax.specs.TemplateTree.{Tree, Parts, no_parts, part, view, parts_view}
use Rattle.tf_expr_syntax.specs.declared.tree.Term.{Term}

abbrev pub pair : String Global × Term → List ℕ × Tree
pair p = (string_bytes p.0, view p.1)

abbrev parts_in : List (List ℕ × Tree) → Parts
parts_in [] = no_parts
parts_in (p ∷ ps) = part p.0 p.1 (parts_in ps)

parts_in-pairs : (ps : List (String Global × Term)) → parts_view ps ≡ parts_in (map pair ps)
parts_in-pairs [] = refl
parts_in-pairs (p ∷ ps) = ap (part (string_bytes p.0) (view p.1)) (parts_in-pairs ps)

-- interpolations of the same bytes and trees are the same parts
pub parts_view-same : (ps qs : List (String Global × Term)) → map pair ps ≡ map pair qs → parts_view ps ≡ parts_view qs
parts_view-same ps qs e = parts_in-pairs ps ∙ ap parts_in e ∙ sym (parts_in-pairs qs)
