-- What a create asks for may be stored with null for what isn't known.
use Rattle.std.proofs.Common.{◌≡◌, true, ◌&&◌, Option, Some, None, option_map, refl, ap₂, subst, ◌∙◌}
use Rattle.std.specs.Prelude.{nat_le, IfSome, IsSome}
use Rattle.tf_plan_object.specs.Bounded.{each_may_be_planned, has_planned_attributes}
use Rattle.tf_provider_protocol.specs.declared.request.Op.{Op}
use Rattle.tf_provider_protocol.specs.declared.request.Op.TheVariants.{Create}
use Rattle.tf_value_data.proofs.Conjunction.{and-first, and-second, and-both}
use Rattle.tf_value_data.proofs.WithNulls.{nulls-known, nulls-measure, nulls-no_set}
use Rattle.tf_value_data.specs.Measure.{max_weight, max_depth}
use Rattle.tf_value_data.specs.Nulls.{with_nulls, entries_with_nulls}
use Rattle.tf_value_data.specs.Stored.{each_may_be_stored, may_be_planned}
use Rattle.tf_value_data.specs.Tree.{Tree, map, Entries, no_entries, entry}
use Rattle.tf_walk_action.specs.Storable.{asks_planned, has_stored_attributes}

nulls-stored : (es : Entries) → each_may_be_planned es ≡ true → each_may_be_stored (entries_with_nulls es) ≡ true
nulls-stored no_entries h = refl
nulls-stored (entry k t es) h =
    let planned : may_be_planned t ≡ true = and-first _ _ h in
    let within = ap₂ (λ w d. nat_le w max_weight && nat_le d max_depth) (nulls-measure t).0 (nulls-measure t).1 ∙ and-first _ _ planned in
    let no_set = nulls-no_set t ∙ and-second _ _ planned in
    and-both _ _ (and-both _ _ (nulls-known t) (and-both _ _ within no_set)) (nulls-stored es (and-second _ _ h))

-- with null for what isn't known, each attribute may be stored where each of those that were asked for may be planned
object-stored : (t : Tree) → has_planned_attributes t ≡ true → has_stored_attributes (with_nulls t) ≡ true
object-stored (map es) h = nulls-stored es h
object-stored _ h = absurd (cc)

there : (asked : Option Tree) → asks_planned Create asked ≡ true → IsSome asked
there None h = absurd (cc)
there (Some t) h = search

stored : (asked : Option Tree) → asks_planned Create asked ≡ true → IfSome (option_map with_nulls asked) (λ t. has_stored_attributes t ≡ true)
stored None h = absurd (cc)
stored (Some t) h = object-stored t h

module _ (op : Op) (create : op ≡ Create) (asked : Option Tree) (h : asks_planned op asked ≡ true) where
  as_create : asks_planned Create asked ≡ true
  as_create = subst (λ (o : Op). asks_planned o asked ≡ true) create h

  -- a create asks for an object
  pub planned-there : IsSome asked
  planned-there = there asked as_create

  -- with null for what isn't known, its attributes may be stored
  pub planned-stored : IfSome (option_map with_nulls asked) (λ t. has_stored_attributes t ≡ true)
  planned-stored = stored asked as_create
