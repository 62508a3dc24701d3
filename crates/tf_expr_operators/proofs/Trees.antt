-- A value, by its kinds, beside the tree that it stands for.
use Rattle.std.proofs.Common.{◌≡◌, ◌⊎◌, ℤ, Bool, false, None, String, Vec, BTreeMap, BTreeSet, Global, refl, ap, ◌∙◌, rules, inl, inr}
use Rattle.tf_value_data.specs.Tree.{Tree, null, boolean, whole, list, map, set, unknown, tree_of, items_view, entries_view, texts_view}
use Rattle.tf_value_data.specs.declared.value.Value.{Value, Null, Bool as Truth, Int, List as Listed, Map as Mapped, Set as Texts, Unknown, the_lemmas}
use Rattle.tf_value_data.proofs.Views.{tree_of-List, tree_of-Map, tree_of-Set}
pub use Rattle.tf_value_data.proofs.Views.{tree_of-Text}
use Rattle.tf_expr_operators.specs.Answer.{is_unknown}
use Rattle.tf_expr_operators.specs.Joining.{text_of}

pub tree_of-Null : tree_of Null ≡ null
tree_of-Null = search (rules, the_lemmas)

pub tree_of-Bool : (b : Bool) → tree_of (Truth b) ≡ boolean b
tree_of-Bool b = search (rules, the_lemmas)

pub tree_of-Int : (z : ℤ) → tree_of (Int z) ≡ whole z
tree_of-Int z = search (rules, the_lemmas)

pub tree_of-Unknown : tree_of Unknown ≡ unknown
tree_of-Unknown = search (rules, the_lemmas)

-- a tree that isn't unknown and has no text
abbrev pub IsMisfit : Tree → Type 0
IsMisfit t = (is_unknown t ≡ false) × (text_of t ≡ None)

misfit-from : (t u : Tree) → t ≡ u → IsMisfit u → IsMisfit t
misfit-from t u e h = (ap is_unknown e ∙ h.0, ap text_of e ∙ h.1)

-- null, a list, a map and a set have no text
pub misfit-of : (v : Value) → (v ≡ Null) ⊎ (((x : Vec Value Global) × (v ≡ Listed x)) ⊎ (((x : BTreeMap (String Global) Value) × (v ≡ Mapped x)) ⊎ ((x : BTreeSet (String Global)) × (v ≡ Texts x)))) → IsMisfit (tree_of v)
misfit-of v (inl e) = misfit-from _ null (ap tree_of e ∙ tree_of-Null) (refl, refl)
misfit-of v (inr (inl (x, e))) = misfit-from _ (list (items_view x.items)) (ap tree_of e ∙ tree_of-List x) (refl, refl)
misfit-of v (inr (inr (inl (x, e)))) = misfit-from _ (map (entries_view x.entries)) (ap tree_of e ∙ tree_of-Map x) (refl, refl)
misfit-of v (inr (inr (inr (x, e)))) = misfit-from _ (set (texts_view x.keys)) (ap tree_of e ∙ tree_of-Set x) (refl, refl)
