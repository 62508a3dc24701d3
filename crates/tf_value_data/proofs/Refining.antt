-- The test of refinement decides the relation.
use Rattle.std.proofs.Common.{◌≡◌, Bool, true, false, ◌&&◌, refl, ◌↔◌, IsTrue}
use Rattle.std.specs.Bool.{Decides}
use Rattle.std.specs.Cmp.{booleans_Decides, signed_Decides}
use Rattle.std.proofs.lemmas.Bool.{false≢true}
use Rattle.std.proofs.lemmas.Bool.Decides.{same_from_decides}
use Rattle.std.proofs.lemmas.Slice.Eq.{bytes_eq-Decides}
use Rattle.tf_value_data.specs.Equality.{same_texts_Decides}
use Rattle.tf_value_data.specs.Tree.{Tree, null, boolean, whole, text, list, map as mapped, set, unknown, Items, no_items, item, Entries, no_entries, entry, compared_items, compared_entries}
use Rattle.tf_value_data.specs.Refinement.{Refines, RefinesItems, RefinesEntries, refined}

-- where each of two tests decides its fact, both together decide both facts
both : {P Q : Type 0} (b c : Bool) → Decides b P → Decides c Q → Decides (b && c) (P × Q)
both true c p q = (λ e. (p.0 refl, q.0 e), λ r. q.1 r.1)
both false c p q = (λ e. absurd (false≢true e), λ r. p.1 r.0)

mutual
  pub refined_Decides : (t u : Tree) → Decides (refined t u) (Refines t u)
  refined_Decides null null = (λ e. tt, λ e. refl)
  refined_Decides (boolean b) (boolean c) = booleans_Decides b c
  refined_Decides (whole y) (whole z) = signed_Decides y z
  refined_Decides (text s) (text t) = bytes_eq-Decides s t
  refined_Decides (list ts) (list us) = refined_items_Decides ts us
  refined_Decides (mapped ts) (mapped us) = refined_entries_Decides ts us
  refined_Decides (set ss) (set ts) = same_texts_Decides ss ts
  refined_Decides unknown u = (λ e. tt, λ e. refl)
  refined_Decides _ _ = (λ e. false≢true e, λ e. absurd e)

  pub refined_items_Decides : (ts us : Items) → Decides (compared_items true ts us) (RefinesItems ts us)
  refined_items_Decides no_items no_items = (λ e. tt, λ e. refl)
  refined_items_Decides (item t ts) (item u us) = both _ _ (refined_Decides t u) (refined_items_Decides ts us)
  refined_items_Decides _ _ = (λ e. false≢true e, λ e. absurd e)

  pub refined_entries_Decides : (ts us : Entries) → Decides (compared_entries true ts us) (RefinesEntries ts us)
  refined_entries_Decides no_entries no_entries = (λ e. tt, λ e. refl)
  refined_entries_Decides (entry k t ts) (entry l u us) =
      let rest : Decides (refined t u && compared_entries true ts us) (Refines t u × RefinesEntries ts us) =
      both _ _ (refined_Decides t u) (refined_entries_Decides ts us) in
      let all : Decides (compared_entries true (entry k t ts) (entry l u us)) ((k ≡ l) × (Refines t u × RefinesEntries ts us)) =
      both _ _ (bytes_eq-Decides k l) rest in
      (λ e. let p = all.0 e in (p.0, p.1.0, p.1.1), λ r. all.1 (r.0, (r.1, r.2)))
  refined_entries_Decides _ _ = (λ e. false≢true e, λ e. absurd e)

-- an answer that is true exactly where one value refines to another is the test's
pub refined-answer : (r : Bool) (t u : Tree) → (IsTrue r ↔ Refines t u) → r ≡ refined t u
refined-answer r t u h = same_from_decides r (refined t u) h (refined_Decides t u)
