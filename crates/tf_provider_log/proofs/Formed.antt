-- What holds of forms: their numbers, their depth, and what they read as.
use Rattle.std.proofs.Common.{◌≡◌, ◌≤◌, ◌<◌, ◌^◌, ℕ, ℤ, suc, pos, negsuc, true, false, refl, ap, arith, rules}
use Rattle.std.proofs.lemmas.Int.{ints}
use Rattle.std.specs.Prelude.{FitsSigned}
use Rattle.std.specs.Int.{w64}
use Rattle.serde_json.specs.Data as json
use Rattle.serde_json.specs.Find.{of_integer}
use Rattle.tf_value_json.specs.Json.{tree_from, items_from, entries_from}
use Rattle.tf_value_data.specs.Measure.{depth, depth_of_items, depth_of_entries}
use Rattle.tf_value_data.specs.Parts.{items_have_only, entries_have_only}
use Rattle.tf_value_data.specs.Sets.{has_no_set}
use Rattle.tf_value_data.specs.Tree as tree
use Rattle.tf_value_data.proofs.Conjunction.{and-first, and-second}
use Rattle.tf_value_json.proofs.Forms.{tree_from-form}
use Rattle.tf_provider_log.specs.Form.{value_form, items_form, members_form}
use Rattle.tf_provider_log.specs.Text.{IsSimple, AreSimple, AreSimpleMembers}

simple_pos : (n : ℕ) → FitsSigned w64 (pos n) → n < 2 ^ 64
simple_pos n h = first_of (omega (arith, ints), grind (arith, ints), search rules)

simple_negsuc : (n : ℕ) → FitsSigned w64 (negsuc n) → suc n < 2 ^ 64
simple_negsuc n h = first_of (omega (arith, ints), grind (arith, ints), search rules)

simple_whole : (z : ℤ) → FitsSigned w64 z → IsSimple (json.number (of_integer z))
simple_whole (pos n) h = simple_pos n h
simple_whole (negsuc n) h = simple_negsuc n h

mutual
  pub simple_form : (t : tree.Tree) → tree.IsHeld t → IsSimple (value_form t)
  simple_form tree.null h = tt
  simple_form (tree.boolean b) h = tt
  simple_form (tree.whole z) h = simple_whole z h
  simple_form (tree.text s) h = tt
  simple_form (tree.list ts) h = simple_items ts h
  simple_form (tree.map es) h = simple_members es h
  simple_form (tree.set ss) h = tt
  simple_form tree.unknown h = omega arith

  simple_items : (ts : tree.Items) → tree.AreHeld ts → AreSimple (items_form ts)
  simple_items tree.no_items h = tt
  simple_items (tree.item t ts) h = (simple_form t h.0, simple_items ts h.1)

  simple_members : (es : tree.Entries) → tree.AreHeldEntries es → AreSimpleMembers (members_form es)
  simple_members tree.no_entries h = tt
  simple_members (tree.entry k t es) h = (simple_form t h.0, simple_members es h.1)

mutual
  pub depth_form : (t : tree.Tree) → json.depth (value_form t) ≤ depth t
  depth_form tree.null = omega arith
  depth_form (tree.boolean b) = omega arith
  depth_form (tree.whole z) = omega arith
  depth_form (tree.text s) = omega arith
  depth_form (tree.list ts) = let below = depth_items ts in omega arith
  depth_form (tree.map es) = let below = depth_members es in omega arith
  depth_form (tree.set ss) = omega arith
  depth_form tree.unknown = omega arith

  depth_items : (ts : tree.Items) → json.items_depth (items_form ts) ≤ depth_of_items ts
  depth_items tree.no_items = omega arith
  depth_items (tree.item t ts) = let here = depth_form t in let below = depth_items ts in omega arith

  depth_members : (es : tree.Entries) → json.members_depth (members_form es) ≤ depth_of_entries es
  depth_members tree.no_entries = omega arith
  depth_members (tree.entry k t es) = let here = depth_form t in let below = depth_members es in omega arith

mutual
  pub form_reads : (t : tree.Tree) → tree.IsHeld t → has_no_set t ≡ true → tree_from (value_form t) ≡ t
  form_reads tree.null h e = refl
  form_reads (tree.boolean b) h e = refl
  form_reads (tree.whole z) h e = tree_from-form (tree.whole z) (json.number (of_integer z)) (h, refl)
  form_reads (tree.text s) h e = refl
  form_reads (tree.list ts) h e = ap tree.list (items_read ts h e)
  form_reads (tree.map es) h e = ap tree.map (members_read es h e)
  form_reads (tree.set ss) h e = absurd (cc)
  form_reads tree.unknown h e = refl

  items_read : (ts : tree.Items) → tree.AreHeld ts → items_have_only true false ts ≡ true → items_from (items_form ts) ≡ ts
  items_read tree.no_items h e = refl
  items_read (tree.item t ts) h e =
      let here = form_reads t h.0 (and-first (has_no_set t) (items_have_only true false ts) e) in
      let rest = items_read ts h.1 (and-second (has_no_set t) (items_have_only true false ts) e) in cc

  members_read : (es : tree.Entries) → tree.AreHeldEntries es → entries_have_only true false es ≡ true → entries_from (members_form es) ≡ es
  members_read tree.no_entries h e = refl
  members_read (tree.entry k t es) h e =
      let here = form_reads t h.0 (and-first (has_no_set t) (entries_have_only true false es) e) in
      let rest = members_read es h.1 (and-second (has_no_set t) (entries_have_only true false es) e) in cc
