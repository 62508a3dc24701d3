-- What is known of an update's object only grows.
use Rattle.std.proofs.Common.{ℕ, Bool, true, false, cond, List, Option, Some, None, subst}
use Rattle.std.specs.Option.{unwrap_or}
use Rattle.tf_provider_protocol.specs.Schema.{SchemaView}
use Rattle.tf_value_data.specs.Refinement.{Refines, RefinesEntries}
use Rattle.tf_value_data.specs.Tree.{Tree, null, boolean, whole, text, list, map, set, unknown, Entries, no_entries, entry, part_at}
use Rattle.tf_value_data.proofs.Order.{Refines-refl}
use Rattle.tf_plan_object.specs.Kept.{is_kept, kept_entries, kept_value}
use Rattle.tf_plan_object.specs.KeptLaws.{UpdatesGrow}

value_grows : (keeps : Bool) (there : Option Tree) (t u : Tree) → Refines t u → Refines (cond keeps (unwrap_or there t) t) (cond keeps (unwrap_or there u) u)
value_grows true None t u h = h
value_grows true (Some v) t u h = Refines-refl v
value_grows false there t u h = h

entries_grow : (schema : SchemaView) (ignored : List (List ℕ)) (prior : Tree) (es fs : Entries) → RefinesEntries es fs → RefinesEntries (kept_entries schema ignored prior es) (kept_entries schema ignored prior fs)
entries_grow schema ignored prior no_entries no_entries h = h
entries_grow schema ignored prior (entry k t es) no_entries h = h
entries_grow schema ignored prior no_entries (entry l u fs) h = h
entries_grow schema ignored prior (entry k t es) (entry l u fs) h =
    let value : Refines (kept_value schema ignored prior k t) (kept_value schema ignored prior l u) =
    subst (λ (n : List ℕ). Refines (kept_value schema ignored prior k t) (kept_value schema ignored prior n u)) h.0 (value_grows (is_kept schema ignored k) (part_at k prior) t u h.1) in
    (h.0, value, entries_grow schema ignored prior es fs h.2)

pub updates_grow : UpdatesGrow
updates_grow schema ignored prior (map es) (map fs) h = entries_grow schema ignored prior es fs h
updates_grow schema ignored prior unknown later h = tt
updates_grow schema ignored prior _ (map fs) h = h
updates_grow schema ignored prior _ null h = h
updates_grow schema ignored prior _ (boolean b) h = h
updates_grow schema ignored prior _ (whole z) h = h
updates_grow schema ignored prior _ (text s) h = h
updates_grow schema ignored prior _ (list ts) h = h
updates_grow schema ignored prior _ (set ss) h = h
updates_grow schema ignored prior _ unknown h = h
