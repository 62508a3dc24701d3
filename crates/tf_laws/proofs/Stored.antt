-- What is known of objects: those of a valid state, those that fit a schema, and those that were answered well.
use Rattle.std.proofs.Common.{◌≡◌, ◌∙◌, inl, inr, true, false, List, [], ◌∷◌, Option, Some, None, refl, sym, ap}
use Rattle.std.specs.List.{list_all}
use Rattle.std.specs.Option.{option_map_or, option_or}
use Rattle.std.specs.Prelude.{Contains, is_none}
use Rattle.tf_config_address.specs.ResourceAddr.{ResourceAddrView}
use Rattle.tf_config_address.specs.ObjectId.{ObjectIdView}
use Rattle.tf_plan_decision.proofs.Aligned.{each_entry, passes}
use Rattle.tf_plan_decision.proofs.Exact.{fits_exactly}
use Rattle.tf_plan_decision.specs.Decision.{current}
use Rattle.tf_plan_decision.specs.Prior.{PriorFaultView, first_unfit, record_fault}
use Rattle.tf_expand_keys.proofs.Refining.{followed}
use Rattle.tf_graph.proofs.Edges.{contains_cases}
use Rattle.tf_provider_protocol.specs.Schema.{AttributeView, SchemaView, IsSchema}
use Rattle.tf_provider_protocol.specs.Verdict.{fits, fits_in, has_attributes, is_allowed, well_formed}
use Rattle.tf_state.specs.Valid.{IsAttributes, IsPresent, IsRecord, IsValid}
use Rattle.tf_state_data.specs.Record.{RecordView}
use Rattle.tf_state_data.specs.Resource.{ResourceView, record_at}
use Rattle.tf_state_data.specs.State.{StateView, record_in, resource_at}
use Rattle.tf_value_data.proofs.Conjunction.{and-both, and-first, and-second}
use Rattle.tf_value_data.specs.Known.{known, known_entries}
use Rattle.tf_value_data.specs.Stored.{EachMayBeStored, may_be_planned, may_be_stored}
use Rattle.tf_value_data.specs.Tree.{Tree, map, Entries, no_entries, entry, AreSortedEntries, IsSorted, get}
use Rattle.tf_laws.proofs.Declared.{found_contains}
use Rattle.tf_laws.proofs.Lists.{all_contained, nothing_in}

-- ---- objects of a valid state

each_known : (es : Entries) → EachMayBeStored es → known_entries es ≡ true
each_known no_entries h = refl
each_known (entry k t es) h = and-both (known t) (known_entries es) h.0.2 (each_known es h.1)

each_sorted : (es : Entries) → EachMayBeStored es → AreSortedEntries es
each_sorted no_entries h = tt
each_sorted (entry k t es) h = (h.0.1, each_sorted es h.1)

pub attributes_known : (t : Tree) → IsAttributes t → known t ≡ true
attributes_known (map es) h = each_known es h.1
attributes_known _ h = absurd h

pub attributes_sorted : (t : Tree) → IsAttributes t → IsSorted t
attributes_sorted (map es) h = (h.0, each_sorted es h.1)
attributes_sorted _ h = absurd h

-- each object that a valid state knows has attributes that may be stored
pub known_attributes : (s : StateView) → IsValid s → (addr : ResourceAddrView) (id : ObjectIdView) (y : RecordView) → record_in addr id s ≡ Some y → IsAttributes y.attributes
known_attributes s valid addr id y e =
    let r = followed (resource_at addr s.resources) (λ (r : ResourceView). record_at id r.records) y e in
    let present : IsPresent r.0 = all_contained IsPresent s.resources r.0 valid.resources.0 (found_contains _ s.resources r.0 r.1) in
    let own : IsRecord y = all_contained IsRecord r.0.records y present.0.records.0 (found_contains _ r.0.records y r.2) in
    own.attributes

-- ---- objects that fit

both_none : (o p : Option PriorFaultView) → option_or o p ≡ None → (o ≡ None) × (p ≡ None)
both_none None p e = (refl, e)
both_none (Some f) p e = absurd (cc)

pub each_fits : (schema : SchemaView) (records : List RecordView) (r : RecordView) → first_unfit schema records ≡ None → Contains records r → record_fault schema r ≡ None
each_fits schema [] r e c = absurd (nothing_in r c)
each_fits schema (x ∷ records) r e c =
    let both = both_none (record_fault schema x) (first_unfit schema records) e in
    elim (contains_cases r x records c) [
      | inl here ↦ ap (record_fault schema) (sym here) ∙ both.0
      | inr rest ↦ each_fits schema records r both.1 rest
    ]

-- the current one of an instance's objects has the schema's attributes, where all of them fit
pub current_has : (schema : SchemaView) (records : List RecordView) (r : RecordView) → IsSchema schema → IsAttributes r.attributes → first_unfit schema records ≡ None → current records ≡ Some r → has_attributes schema r.attributes ≡ true
current_has schema records r good stored e found =
    let fit = each_fits schema records r e (found_contains (λ x. is_none x.id.deposed) records r found) in
    (fits_exactly schema r.schema_version r.attributes good (attributes_sorted r.attributes stored) fit).1

-- ---- objects that were answered well

fit_known : (a : AttributeView) (o : Option Tree) → option_map_or (fits a) o false ≡ true → option_map_or known o true ≡ true
fit_known a None h = refl
fit_known a (Some t) h = and-first (known t) (may_be_planned t) (and-first (may_be_stored t) (is_allowed a t) h)

all_fit_known : (es : Entries) (attributes : List AttributeView) → list_all (fits_in (map es)) attributes ≡ true → list_all (λ a. option_map_or known (get a.name es) true) attributes ≡ true
all_fit_known es [] h = refl
all_fit_known es (a ∷ others) h =
    and-both (option_map_or known (get a.name es) true) _ (fit_known a (get a.name es) (and-first (fits_in (map es) a) _ h)) (all_fit_known es others (and-second (fits_in (map es) a) _ h))

each_entry_known : (es : Entries) → each_entry (λ k t. known t) es ≡ true → known_entries es ≡ true
each_entry_known no_entries h = refl
each_entry_known (entry k t es) h = and-both (known t) (known_entries es) (and-first (known t) _ h) (each_entry_known es (and-second (known t) _ h))

pub formed_known : (schema : SchemaView) (t : Tree) → IsSchema schema → well_formed schema t ≡ true → known t ≡ true
formed_known schema (map es) good h =
    each_entry_known es
    (passes (λ name found. option_map_or known found true) es schema.attributes (and-first (has_attributes schema (map es)) (list_all (fits_in (map es)) schema.attributes) h) good.ascending
    (all_fit_known es schema.attributes (and-second (has_attributes schema (map es)) (list_all (fits_in (map es)) schema.attributes) h)))
formed_known schema _ good h = absurd (cc)
