-- `same` is equality of trees.
use Rattle.std.specs.Prelude.{ℕ, List, Bool, true, false, ◌&&◌, ◌≡◌, refl}
use Rattle.std.specs.Bool.{Decides}
use Rattle.std.specs.Cmp.{IsPartialEquivalence, IsEquivalence, decided, on_equiv, partial_equiv_from_equiv, booleans_Decides, signed_Decides}
use Rattle.std.specs.Cmp.Lexicographic.{pointwise}
use Rattle.std.specs.Ordering.{on}
use Rattle.std.specs.Str.{bytes_eq}
use Rattle.std.proofs.Common.{ap}
use Rattle.std.proofs.lemmas.Slice.Eq.{bytes_eq-Decides, slice_eq-Decides}
use Rattle.tf_value_data.specs.Tree.{Tree, null, boolean, whole, text, list, map, set, unknown, Items, no_items, item, Entries, no_entries, entry, same, same_entries, compared_items, tree_of}

-- if each of two tests decides its fact, both together decide both facts
both : {P Q R : Type 0} (b c : Bool) → Decides b P → Decides c Q → (P → Q → R) → (R → P × Q) → Decides (b && c) R
both true c p q make parts = (λ e. make (p.0 refl) (q.0 e), λ r. q.1 (parts r).1)
both false c p q make parts = (λ e. absurd (cc), λ r. p.1 (parts r).0)

-- the test of two sets decides whether their texts are equal
pub same_texts_Decides : (ss ts : List (List ℕ)) → Decides (pointwise bytes_eq ss ts) (ss ≡ ts)
same_texts_Decides ss ts = slice_eq-Decides bytes_eq-Decides ss ts (pointwise bytes_eq ss ts) refl

mutual
  pub same_Decides : (t u : Tree) → Decides (same t u) (t ≡ u)
  same_Decides null null = (λ e. refl, λ e. refl)
  same_Decides (boolean b) (boolean c) = (λ e. ap boolean ((booleans_Decides b c).0 e), λ e. (booleans_Decides b c).1 (cc))
  same_Decides (whole y) (whole z) = (λ e. ap whole ((signed_Decides y z).0 e), λ e. (signed_Decides y z).1 (cc))
  same_Decides (text s) (text t) = (λ e. ap text ((bytes_eq-Decides s t).0 e), λ e. (bytes_eq-Decides s t).1 (cc))
  same_Decides (list ts) (list us) = (λ e. ap list ((same_items_Decides ts us).0 e), λ e. (same_items_Decides ts us).1 (cc))
  same_Decides (map ts) (map us) = (λ e. ap map ((same_entries_Decides ts us).0 e), λ e. (same_entries_Decides ts us).1 (cc))
  same_Decides (set ss) (set ts) = (λ e. ap set ((same_texts_Decides ss ts).0 e), λ e. (same_texts_Decides ss ts).1 (cc))
  same_Decides unknown unknown = (λ e. refl, λ e. refl)
  same_Decides _ _ = (λ e. cc, λ e. cc)

  pub same_items_Decides : (ts us : Items) → Decides (compared_items false ts us) (ts ≡ us)
  same_items_Decides no_items no_items = (λ e. refl, λ e. refl)
  same_items_Decides (item t ts) (item u us) =
      both _ _ (same_Decides t u) (same_items_Decides ts us) (λ p q. cc) (λ r. (cc, cc))
  same_items_Decides _ _ = (λ e. cc, λ e. cc)

  pub same_entries_Decides : (ts us : Entries) → Decides (same_entries ts us) (ts ≡ us)
  same_entries_Decides no_entries no_entries = (λ e. refl, λ e. refl)
  same_entries_Decides (entry k t ts) (entry l u us) =
      let rest : Decides (same t u && same_entries ts us) ((t ≡ u) × (ts ≡ us)) =
      both _ _ (same_Decides t u) (same_entries_Decides ts us) (λ p q. (p, q)) (λ r. r) in
      both _ _ (bytes_eq-Decides k l) rest (λ p q. let a = q.0 in let b = q.1 in cc) (λ r. (cc, (cc, cc)))
  same_entries_Decides _ _ = (λ e. cc, λ e. cc)

-- `same` is an equivalence of values, as `Eq` asks
pub same_values : IsEquivalence (on tree_of same)
same_values = on_equiv tree_of (decided same same_Decides)

-- and a partial one, as `PartialEq` asks
pub same_values_part : IsPartialEquivalence (on tree_of same)
same_values_part = partial_equiv_from_equiv same_values
