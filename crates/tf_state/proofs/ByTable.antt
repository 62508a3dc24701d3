-- A tree is read as a record, a resource or a state exactly where it says that one by the table.
use Rattle.std.proofs.Common.{◌≡◌, subst, ℕ, ◌^◌, Bool, true, ◌&&◌, cond, List, Option, Some, None, option_map, codes, refl, ap, sym, ◌∙◌, []}
use Rattle.std.specs.Prelude.{option_and_then}
use Rattle.std.proofs.lemmas.Bool.{and_parts}
use Rattle.serde_json.specs.Data.{Data, array}
use Rattle.serde_json.specs.Find.{get}
use Rattle.tf_value_data.specs.Tree.{Tree, Entries}
use Rattle.tf_config_address.specs.ObjectId.{InstanceKeyView, ObjectIdView}
use Rattle.tf_state.specs.Arrangement.{record_cmp, resource_cmp, with_records}
use Rattle.tf_state.specs.Reading.{text_in, below, name_in, text_or, below_or_zero, key_in, deposed_in, attributes_in, tainted_in, flag_in, dependencies_in, is_unsensitive, is_unchecked, is_managed, is_version, outputs_in, instances_in, all_resources_in, resources_in, is_record, is_state, record_in, resource_in, state_in}
use Rattle.tf_state_data.specs.Record.{RecordView}
use Rattle.tf_state_data.specs.Resource.{ResourceView}
use Rattle.tf_state_data.specs.State.{StateView}
use Rattle.tf_state.specs.Table.{SaysInstances, SaysRecord, SaysResource, SaysResources, SaysState}
use Rattle.tf_state.specs.Words.{is_shaped}
use Rattle.tf_state.specs.declared.shape.Shape.TheVariants as shapes
use Rattle.tf_state.proofs.Properties.{mapped, text_says, text_said, number_says, number_said, name_says, name_said, text_or_says, text_or_said, version_says, version_said, key_says, key_said, deposed_says, deposed_said, status_says, status_said, flag_says, flag_said, sensitive_says, sensitive_said, checks_say, checks_said, managed_says, managed_said, format_says, format_said}
use Rattle.tf_state.proofs.Contents.{attributes_say, attributes_said, dependencies_say, dependencies_said, outputs_say, outputs_said}
use Rattle.tf_state.proofs.Gathered.{gathered-said, gathered-says}
use Rattle.tf_state.proofs.Orders.{record_total, resource_total}

same : {A : Type 0} (a b : A) → Some a ≡ Some b → a ≡ b
same a b e = cc

-- ---- records

abbrev whole_record : Bool → Option InstanceKeyView → Option (Option (List ℕ)) → Option Tree → Option ℕ → Option Bool → Option (List (List ℕ)) → Option Bool → Option RecordView
whole_record ok keys deposed values versions statuses lists flags =
    cond ok
    (option_and_then {T = ObjectIdView}
    (λ id. option_and_then
    (λ attributes. option_and_then (λ version. option_and_then (λ tainted. option_and_then (λ dependencies. option_map {U = RecordView}
    (λ flag. record { id = id; attributes = attributes; schema_version = version; tainted = tainted; dependencies = dependencies; create_before_destroy = flag }) flags)
    lists) statuses) versions) values)
    (option_and_then {U = ObjectIdView} (λ k. option_map {U = ObjectIdView} (λ p. record { key = k; deposed = p }) deposed) keys))
    None

record RecordParts (ok : Bool) (keys : Option InstanceKeyView) (deposed : Option (Option (List ℕ))) (values : Option Tree) (versions : Option ℕ) (statuses : Option Bool) (lists : Option (List (List ℕ))) (flags : Option Bool) (r : RecordView) : Type 0 where
  holds : ok ≡ true
  key : keys ≡ Some r.id.key
  gone : deposed ≡ Some r.id.deposed
  attributes : values ≡ Some r.attributes
  version : versions ≡ Some r.schema_version
  tainted : statuses ≡ Some r.tainted
  dependencies : lists ≡ Some r.dependencies
  flag : flags ≡ Some r.create_before_destroy

record_parts : (ok : Bool) (keys : Option InstanceKeyView) (deposed : Option (Option (List ℕ))) (values : Option Tree) (versions : Option ℕ) (statuses : Option Bool) (lists : Option (List (List ℕ))) (flags : Option Bool) (r : RecordView)
    → whole_record ok keys deposed values versions statuses lists flags ≡ Some r → RecordParts ok keys deposed values versions statuses lists flags r
record_parts true (Some k) (Some p) (Some a) (Some v) (Some t) (Some ds) (Some f) r e =
    subst (RecordParts true (Some k) (Some p) (Some a) (Some v) (Some t) (Some ds) (Some f)) (same _ r e)
    (record { holds = refl; key = refl; gone = refl; attributes = refl; version = refl; tainted = refl; dependencies = refl; flag = refl })
record_parts _ _ _ _ _ _ _ _ r e = absurd (cc)

pub record_says : (d : Data) (r : RecordView) → record_in d ≡ Some r → SaysRecord d r
record_says d r e =
    let parts = record_parts (is_record d) (key_in (get (codes "index_key") d)) (deposed_in (get (codes "deposed") d)) (attributes_in (get (codes "attributes") d)) (below_or_zero (2 ^ 32) (get (codes "schema_version") d))
    (tainted_in (get (codes "status") d)) (dependencies_in (get (codes "dependencies") d)) (flag_in (get (codes "create_before_destroy") d)) r e in
    let shape = and_parts (is_shaped shapes.Record d) (is_unsensitive (get (codes "sensitive_attributes") d)) parts.holds in
    record {
      only = shape.0;
      sensitive_attributes = sensitive_says (get (codes "sensitive_attributes") d) shape.1;
      index_key = key_says (get (codes "index_key") d) r.id.key parts.key;
      deposed = deposed_says (get (codes "deposed") d) r.id.deposed parts.gone;
      attributes = attributes_say (get (codes "attributes") d) r.attributes parts.attributes;
      schema_version = version_says (2 ^ 32) (get (codes "schema_version") d) r.schema_version parts.version;
      status = status_says (get (codes "status") d) r.tainted parts.tainted;
      dependencies = dependencies_say (get (codes "dependencies") d) r.dependencies parts.dependencies;
      create_before_destroy = flag_says (get (codes "create_before_destroy") d) r.create_before_destroy parts.flag;
    }

pub record_said : (d : Data) (r : RecordView) → SaysRecord d r → record_in d ≡ Some r
record_said d r h =
    rw (h.only, sensitive_said (get (codes "sensitive_attributes") d) h.sensitive_attributes, key_said (get (codes "index_key") d) r.id.key h.index_key, deposed_said (get (codes "deposed") d) r.id.deposed h.deposed, attributes_said (get (codes "attributes") d) r.attributes h.attributes, version_said (2 ^ 32) (get (codes "schema_version") d) r.schema_version h.schema_version, status_said (get (codes "status") d) r.tainted h.status, dependencies_said (get (codes "dependencies") d) r.dependencies h.dependencies, flag_said (get (codes "create_before_destroy") d) r.create_before_destroy h.create_before_destroy)
    refl

instances_say : (o : Option Data) (rs : List RecordView) → instances_in o ≡ Some rs → SaysInstances o rs
instances_say (Some (array ds)) rs e = gathered-says record_in SaysRecord record_cmp record_total record_says ds rs e
instances_say _ rs e = absurd (cc)

pub instances_said : (o : Option Data) (rs : List RecordView) → SaysInstances o rs → instances_in o ≡ Some rs
instances_said (Some (array ds)) rs h = gathered-said record_in SaysRecord record_cmp record_total record_said ds h.0 rs h.1 h.2
instances_said _ rs h = absurd (assumption)

-- ---- resources

abbrev whole_resource : Bool → Option (List ℕ) → Option (List ℕ) → Option (List ℕ) → Option (List RecordView) → Option ResourceView
whole_resource ok kinds names providers lists =
    cond ok
    (option_and_then
    (λ type_name. option_and_then (λ its_name. option_and_then (λ provider. option_map {U = ResourceView}
    (λ records. record { addr = record { type_name = type_name; name = its_name }; provider = provider; records = records }) lists) providers) names) kinds)
    None

record ResourceParts (shaped managed : Bool) (kinds names providers : Option (List ℕ)) (lists : Option (List RecordView)) (r : ResourceView) : Type 0 where
  only : shaped ≡ true
  mode : managed ≡ true
  type_name : kinds ≡ Some r.addr.type_name
  name : names ≡ Some r.addr.name
  provider : providers ≡ Some r.provider
  records : lists ≡ Some r.records

resource_parts : (shaped managed : Bool) (kinds names providers : Option (List ℕ)) (lists : Option (List RecordView)) (r : ResourceView) → whole_resource (shaped && managed) kinds names providers lists ≡ Some r → ResourceParts shaped managed kinds names providers lists r
resource_parts true true (Some k) (Some n) (Some p) (Some rs) r e =
    subst (ResourceParts true true (Some k) (Some n) (Some p) (Some rs)) (same _ r e) (record { only = refl; mode = refl; type_name = refl; name = refl; provider = refl; records = refl })
resource_parts _ _ _ _ _ _ r e = absurd (cc)

pub resource_says : (d : Data) (r : ResourceView) → resource_in d ≡ Some r → SaysResource d r
resource_says d r e =
    let parts = resource_parts (is_shaped shapes.Resource d) (is_managed (get (codes "mode") d)) (name_in (get (codes "type") d)) (name_in (get (codes "name") d)) (text_in (get (codes "provider") d)) (instances_in (get (codes "instances") d)) r e in
    record {
      only = parts.only;
      mode = managed_says (get (codes "mode") d) parts.mode;
      type_name = name_says (get (codes "type") d) r.addr.type_name parts.type_name;
      name = name_says (get (codes "name") d) r.addr.name parts.name;
      provider = text_says (get (codes "provider") d) r.provider parts.provider;
      instances = instances_say (get (codes "instances") d) r.records parts.records;
    }

pub resource_said : (d : Data) (r : ResourceView) → SaysResource d r → resource_in d ≡ Some r
resource_said d r h =
    rw (h.only, managed_said (get (codes "mode") d) h.mode, name_said (get (codes "type") d) r.addr.type_name h.type_name, name_said (get (codes "name") d) r.addr.name h.name, text_said (get (codes "provider") d) r.provider h.provider, instances_said (get (codes "instances") d) r.records h.instances)
    refl

resources_say : (o : Option Data) (rs : List ResourceView) → all_resources_in o ≡ Some rs → SaysResources o rs
resources_say None rs e = cc
resources_say (Some (array ds)) rs e =
    let m = mapped with_records (resources_in ds []) rs e in
    let all = gathered-says resource_in SaysResource resource_cmp resource_total resource_says ds m.0 m.1 in (all.0, m.0, all.1, all.2, sym m.2)
resources_say (Some _) rs e = absurd (cc)

pub resources_said : (o : Option Data) (rs : List ResourceView) → SaysResources o rs → all_resources_in o ≡ Some rs
resources_said None rs h = ap Some (sym h)
resources_said (Some (array ds)) rs h =
    ap (option_map with_records) (gathered-said resource_in SaysResource resource_cmp resource_total resource_said ds h.0 h.1 h.2 h.3) ∙ ap Some (sym h.4)
resources_said (Some _) rs h = absurd (assumption)

-- ---- states

abbrev whole_state : Bool → Option ℕ → Option (List ℕ) → Option (List ℕ) → Option Entries → Option (List ResourceView) → Option StateView
whole_state ok serials lineages versions tables lists =
    cond ok
    (option_and_then
    (λ serial. option_and_then (λ lineage. option_and_then (λ version. option_and_then (λ outputs. option_map {U = StateView}
    (λ resources. record { serial = serial; lineage = lineage; terraform_version = version; outputs = outputs; resources = resources }) lists)
    tables) versions) lineages) serials)
    None

record StateParts (ok : Bool) (serials : Option ℕ) (lineages versions : Option (List ℕ)) (tables : Option Entries) (lists : Option (List ResourceView)) (s : StateView) : Type 0 where
  holds : ok ≡ true
  serial : serials ≡ Some s.serial
  lineage : lineages ≡ Some s.lineage
  version : versions ≡ Some s.terraform_version
  outputs : tables ≡ Some s.outputs
  resources : lists ≡ Some s.resources

state_parts : (ok : Bool) (serials : Option ℕ) (lineages versions : Option (List ℕ)) (tables : Option Entries) (lists : Option (List ResourceView)) (s : StateView) → whole_state ok serials lineages versions tables lists ≡ Some s
    → StateParts ok serials lineages versions tables lists s
state_parts true (Some n) (Some l) (Some v) (Some es) (Some rs) s e =
    let is = same _ s e in
    record {
      holds = refl;
      serial = ap (λ (q : StateView). Some q.serial) is;
      lineage = ap (λ (q : StateView). Some q.lineage) is;
      version = ap (λ (q : StateView). Some q.terraform_version) is;
      outputs = ap (λ (q : StateView). Some q.outputs) is;
      resources = ap (λ (q : StateView). Some q.resources) is;
    }
state_parts _ _ _ _ _ _ s e = absurd (cc)

pub state_says : (d : Data) (s : StateView) → state_in d ≡ Some s → SaysState d s
state_says d s e =
    let parts = state_parts (is_state d) (below (2 ^ 32) (get (codes "serial") d)) (text_in (get (codes "lineage") d)) (text_or (codes "1.0.0") (get (codes "terraform_version") d)) (outputs_in (get (codes "outputs") d))
    (all_resources_in (get (codes "resources") d)) s e in
    let shape = and_parts (is_shaped shapes.State d) (is_version (get (codes "version") d) && is_unchecked (get (codes "check_results") d)) parts.holds in
    let fixed = and_parts (is_version (get (codes "version") d)) (is_unchecked (get (codes "check_results") d)) shape.1 in
    record {
      only = shape.0;
      version = format_says (get (codes "version") d) fixed.0;
      check_results = checks_say (get (codes "check_results") d) fixed.1;
      serial = number_says (2 ^ 32) (get (codes "serial") d) s.serial parts.serial;
      lineage = text_says (get (codes "lineage") d) s.lineage parts.lineage;
      terraform_version = text_or_says (codes "1.0.0") (get (codes "terraform_version") d) s.terraform_version parts.version;
      outputs = outputs_say (get (codes "outputs") d) s.outputs parts.outputs;
      resources = resources_say (get (codes "resources") d) s.resources parts.resources;
    }

pub state_said : (d : Data) (s : StateView) → SaysState d s → state_in d ≡ Some s
state_said d s h =
    rw (h.only, format_said (get (codes "version") d) h.version, checks_said (get (codes "check_results") d) h.check_results, number_said (2 ^ 32) (get (codes "serial") d) s.serial h.serial, text_said (get (codes "lineage") d) s.lineage h.lineage, text_or_said (codes "1.0.0") (get (codes "terraform_version") d) s.terraform_version h.terraform_version, outputs_said (get (codes "outputs") d) s.outputs h.outputs, resources_said (get (codes "resources") d) s.resources h.resources)
    refl
