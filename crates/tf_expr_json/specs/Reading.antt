-- Which expression a JSON tree is, and the demands on it.
use Rattle.std.specs.Prelude.{◌≡◌, ℕ, ◌+◌, List, [], ◌∷◌, ◌++◌}
use Rattle.std.specs.Fmt.{decimal}
use Rattle.serde_json.specs.Data as json
use Rattle.tf_config_refusal.specs.Check.{demanded}
use Rattle.tf_value_json.specs.Json.{whole_from}
use Rattle.tf_value_data.specs.Tree as values
use Rattle.tf_expr_json.specs.Demand.{Checks, a_plain_name, a_whole_number, a_template, IsTemplate}
use Rattle.tf_expr_json.specs.Opening.{IsPlain}
use Rattle.tf_expr_syntax.specs.ExprTree.{Tree, null, boolean, whole, template, list, map, Trees, no_trees, tree, Entries, no_entries, entry}

-- The demands on a tree at a place, on the elements of an array from a position on, and on the members of an object.
-- A property's name comes before its value.
abbrev mutual
  pub expr_checks : List (List ℕ) → json.Data → Checks
  expr_checks place json.null = []
  expr_checks place (json.boolean b) = []
  expr_checks place (json.number n) = demanded place (a_whole_number n)
  expr_checks place (json.string text) = demanded place (a_template text)
  expr_checks place (json.array items) = item_checks place 0 items
  expr_checks place (json.object members) = member_checks place members

  pub item_checks : List (List ℕ) → ℕ → json.Items → Checks
  item_checks place position json.no_items = []
  item_checks place position (json.item value items) = expr_checks (decimal position ∷ place) value ++ item_checks place (position + 1) items

  pub member_checks : List (List ℕ) → json.Members → Checks
  member_checks place json.no_members = []
  member_checks place (json.member name value members) =
      demanded (name ∷ place) (a_plain_name name) ++ expr_checks (name ∷ place) value ++ member_checks place members

-- A JSON tree is an expression of the same shape: the same null and truth values, whole numbers of 64
-- signed bits, templates for the texts that spell them, lists for arrays, and maps of the same literal
-- names for objects.
abbrev mutual
  pub IsExpr : json.Data → Tree → Type 0
  IsExpr json.null null = Unit {0}
  IsExpr (json.boolean b) (boolean c) = b ≡ c
  IsExpr (json.number n) (whole z) = whole_from n ≡ values.whole z
  IsExpr (json.string text) (template w) = IsTemplate w text
  IsExpr (json.array ds) (list ts) = AreExprs ds ts
  IsExpr (json.object ms) (map es) = HoldExprs ms es
  IsExpr _ _ = ⊥

  pub AreExprs : json.Items → Trees → Type 0
  AreExprs json.no_items no_trees = Unit {0}
  AreExprs (json.item d ds) (tree t ts) = IsExpr d t × AreExprs ds ts
  AreExprs _ _ = ⊥

  pub HoldExprs : json.Members → Entries → Type 0
  HoldExprs json.no_members no_entries = Unit {0}
  HoldExprs (json.member k d ms) (entry l t es) = (k ≡ l) × IsPlain k × IsExpr d t × HoldExprs ms es
  HoldExprs _ _ = ⊥
