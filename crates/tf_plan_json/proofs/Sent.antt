-- What is sent member by member is sent whole.
use Rattle.std.proofs.Common.{◌≡◌, ◌+◌, ℕ, suc, Bool, true, false, true≢false, not, IsTrue, List, [], ◌∷◌, length, map, String, Global, Option, Some, None, option_map, codes, refl, sym, ap, subst, ◌∙◌, arith}
use Rattle.std.specs.Int.{from_bool}
use Rattle.std.specs.Prelude.{◌↔◌, if◌then◌else◌, is_some}
use Rattle.std.specs.Borrow.{Bor}
use Rattle.std.specs.Option.{option_copied}
use Rattle.serde.specs.Event.{Log, Logs, map_begins, map_ends, field_key}
use Rattle.serde.specs.declared.name.Case.TheVariants.{AsIs}
use Rattle.serde_json.specs.Data.{Data, number, unsigned, string, array, object, boolean, Members, no_members, member}
use Rattle.serde_json.specs.Events.{SendsValue, SendsMembers, members_len}
use Rattle.serde_json.specs.View.{items_of}
use Rattle.tf_config_address.specs.ResourceAddr.{ResourceAddrView}
use Rattle.tf_plan_changes.specs.Changes.{ChangeView}
use Rattle.tf_plan_json.specs.Document.{actions_data, object_data, after_unknown_data, paths_data, inner_members, inner_data, inner_count, entry_members, entry_data, outer_count, output_actions_data, output_unknown_data, output_change_data, output_members, variable_data, document_members, document_data, document_count}
use Rattle.tf_plan_json.specs.Members.{some_member, members_by}
use Rattle.tf_plan_json.specs.Prior.{stored_members, stored_data, stored_count, output_data, outputs_data, objects_data, module_data, values_data, values_count, prior_data}
use Rattle.tf_plan_outputs.specs.Changes.{OutputActionView, OutputChangeView, action_of}
use Rattle.tf_plan_outputs.specs.Views.{change_view}
use Rattle.tf_plan_outputs.specs.declared.change.OutputChange.{OutputChange}
use Rattle.tf_state.specs.Sending.{SendsSome, one_if_some}
use Rattle.tf_state.specs.Text.{dependencies_data, flag_data, key_data}
use Rattle.tf_state_data.specs.Record.{RecordView}
use Rattle.tf_state_data.specs.State.{outputs_of}
use Rattle.tf_state_data.specs.declared.object.Object.{Object}
use Rattle.tf_value_data.specs.Tree.{Entries, tree_of}
use Rattle.tf_value_data.specs.declared.value.Value.{Value}
use Rattle.tf_value_json.specs.Json.{value_data}

abbrev pub Sends : List ℕ → Data → Log → Log → Type 0
Sends key d old new = (named : Log) × Logs old named (field_key key AsIs) × SendsValue d named new

-- a text that is another is sent as that
pub text_sent : (key s t : List ℕ) (a b c : Log) → s ≡ t → Logs a b (field_key key AsIs) → SendsValue (string s) b c → Sends key (string t) a c
text_sent key s t a b c e named sent = (b, named, subst (λ u. SendsValue (string u) b c) e sent)

-- a number that is another is sent as that
pub number_sent : (key : List ℕ) (m n : ℕ) (a b c : Log) → m ≡ n → Logs a b (field_key key AsIs) → SendsValue (number (unsigned m)) b c → Sends key (number (unsigned n)) a c
number_sent key m n a b c e named sent = (b, named, subst (λ k. SendsValue (number (unsigned k)) b c) e sent)

sends_some : (key : List ℕ) (o : Option Data) (ms : Members) (a b c : Log) → SendsSome key o a b → SendsMembers ms b c → SendsMembers (some_member key o ms) a c
sends_some key None ms a b c h more = subst (λ l. SendsMembers ms l c) h more
sends_some key (Some d) ms a b c h more = (h.0, b, h.1, h.2, more)

some_len : (key : List ℕ) (o : Option Data) (ms : Members) → members_len (some_member key o ms) ≡ one_if_some o + members_len ms
some_len key None ms = omega arith
some_len key (Some d) ms = omega arith

object_sent : (ms : Members) (n : ℕ) (a b c : Log) → n ≡ members_len ms → Logs a b (map_begins (Some n)) → SendsMembers ms b c → SendsValue (object ms) a c
object_sent ms n a b c count begun members = (b, subst (λ k. Logs a b (map_begins (Some k))) count begun, members)

-- a member that is left out, or sent
pub left_out : (test : Bool) (key : List ℕ) (d : Data) (ms : Members) (a c : Log) → test ≡ true → SendsMembers ms a c → SendsMembers (if test then ms else member key d ms) a c
left_out test key d ms a c e more = rw e more

pub not_left_out : (test : Bool) (key : List ℕ) (d : Data) (ms : Members) (a named b c : Log) → test ≡ false → Logs a named (field_key key AsIs) → SendsValue d named b → SendsMembers ms b c
    → SendsMembers (if test then ms else member key d ms) a c
not_left_out test key d ms a named b c e key_sent sent more = rw e (named, b, key_sent, sent, more)

-- ---- what is done to an object

pub inner_sent : (c : ChangeView) (n : ℕ) (l0 l1 l2 l3 l4 l5 l6 l7 : Log) → n ≡ inner_count c.kind → Logs l0 l1 (map_begins (Some n)) → Sends (codes "actions") (actions_data c.kind) l1 l2 → Sends (codes "after") (object_data c.after) l2 l3
    → Sends (codes "after_unknown") (after_unknown_data c.after) l3 l4 → Sends (codes "before") (object_data c.before) l4 l5 → SendsSome (codes "replace_paths") (paths_data c.kind) l5 l6 → Logs l6 l7 map_ends → SendsValue (inner_data c) l0 l7
inner_sent c n l0 l1 l2 l3 l4 l5 l6 l7 is begun actions after marks before paths ended =
    let p = paths_data c.kind in
    let count = some_len (codes "replace_paths") p no_members in
    object_sent (inner_members c) n l0 l1 l7 (omega (arith, is, count)) begun
    (actions.0, l2, actions.1, actions.2, (after.0, l3, after.1, after.2, (marks.0, l4, marks.1, marks.2, (before.0, l5, before.1, before.2, sends_some (codes "replace_paths") p no_members l5 l6 l7 paths ended))))

-- ---- a change

module _ (reason : Option (List ℕ)) (address provider : List ℕ) (c : ChangeView) where
  abbrev from_mode : Members
  from_mode =
      member (codes "mode") (string (codes "managed")) (member (codes "name") (string c.addr.name) (member (codes "provider_name") (string provider) (member (codes "type") (string c.addr.type_name) no_members)))

  abbrev from_index : Members
  from_index = some_member (codes "index") (key_data c.key) from_mode

  abbrev from_deposed : Members
  from_deposed = some_member (codes "deposed") (option_map string c.deposed) from_index

  abbrev from_address : Members
  from_address = member (codes "address") (string address) (member (codes "change") (inner_data c) from_deposed)

  counted : members_len (entry_members reason address provider c) ≡ outer_count reason c
  counted =
      let index = some_len (codes "index") (key_data c.key) from_mode in
      let deposed = some_len (codes "deposed") (option_map string c.deposed) from_index in
      let why = some_len (codes "action_reason") (option_map string reason) from_address in
      omega (arith, index, deposed, why)

  pub entry_sent : (n : ℕ) (l0 l1 l2 l3 l4 l5 l6 l7 l8 l9 l10 l11 : Log) → n ≡ outer_count reason c → Logs l0 l1 (map_begins (Some n)) → SendsSome (codes "action_reason") (option_map string reason) l1 l2 → Sends (codes "address") (string address) l2 l3
      → Sends (codes "change") (inner_data c) l3 l4 → SendsSome (codes "deposed") (option_map string c.deposed) l4 l5 → SendsSome (codes "index") (key_data c.key) l5 l6 → Sends (codes "mode") (string (codes "managed")) l6 l7
      → Sends (codes "name") (string c.addr.name) l7 l8 → Sends (codes "provider_name") (string provider) l8 l9 → Sends (codes "type") (string c.addr.type_name) l9 l10 → Logs l10 l11 map_ends → SendsValue (entry_data reason address provider c) l0 l11
  entry_sent n l0 l1 l2 l3 l4 l5 l6 l7 l8 l9 l10 l11 is begun why located change deposed index mode name source type_name ended =
      let named : SendsMembers from_mode l6 l11 =
      (mode.0, l7, mode.1, mode.2, (name.0, l8, name.1, name.2, (source.0, l9, source.1, source.2, (type_name.0, l10, type_name.1, type_name.2, ended)))) in
      let indexed : SendsMembers from_index l5 l11 = sends_some (codes "index") (key_data c.key) from_mode l5 l6 l11 index named in
      let gone : SendsMembers from_deposed l4 l11 = sends_some (codes "deposed") (option_map string c.deposed) from_index l4 l5 l11 deposed indexed in
      let addressed : SendsMembers from_address l2 l11 = (located.0, l3, located.1, located.2, (change.0, l4, change.1, change.2, gone)) in
      object_sent (entry_members reason address provider c) n l0 l1 l11 (is ∙ sym counted) begun (sends_some (codes "action_reason") (option_map string reason) from_address l1 l2 l11 why addressed)

-- ---- an object of the prior state

module _ (address provider : List ℕ) (addr : ResourceAddrView) (r : RecordView) where
  abbrev stored_from_type : Members
  stored_from_type = member (codes "type") (string addr.type_name) (member (codes "values") (value_data r.attributes) no_members)

  abbrev stored_from_mode : Members
  stored_from_mode =
      member (codes "mode") (string (codes "managed")) (member (codes "name") (string addr.name) (member (codes "provider_name") (string provider) (member (codes "schema_version") (number (unsigned r.schema_version))
      (member (codes "sensitive_values") (object no_members) (some_member (codes "tainted") (flag_data r.tainted) stored_from_type)))))

  abbrev stored_from_index : Members
  stored_from_index = some_member (codes "index") (key_data r.id.key) stored_from_mode

  abbrev stored_from_deposed : Members
  stored_from_deposed = some_member (codes "deposed_key") (option_map string r.id.deposed) stored_from_index

  abbrev stored_from_dependencies : Members
  stored_from_dependencies = some_member (codes "depends_on") (dependencies_data r.dependencies) stored_from_deposed

  stored_counted : members_len (stored_members address provider addr r) ≡ stored_count r
  stored_counted =
      let tainted = some_len (codes "tainted") (flag_data r.tainted) stored_from_type in
      let index = some_len (codes "index") (key_data r.id.key) stored_from_mode in
      let deposed = some_len (codes "deposed_key") (option_map string r.id.deposed) stored_from_index in
      let dependencies = some_len (codes "depends_on") (dependencies_data r.dependencies) stored_from_deposed in
      omega (arith, tainted, index, deposed, dependencies)

  pub stored_sent : (n : ℕ) (l0 l1 l2 l3 l4 l5 l6 l7 l8 l9 l10 l11 l12 l13 l14 : Log) → n ≡ stored_count r → Logs l0 l1 (map_begins (Some n)) → Sends (codes "address") (string address) l1 l2
      → SendsSome (codes "depends_on") (dependencies_data r.dependencies) l2 l3 → SendsSome (codes "deposed_key") (option_map string r.id.deposed) l3 l4 → SendsSome (codes "index") (key_data r.id.key) l4 l5
      → Sends (codes "mode") (string (codes "managed")) l5 l6 → Sends (codes "name") (string addr.name) l6 l7 → Sends (codes "provider_name") (string provider) l7 l8 → Sends (codes "schema_version") (number (unsigned r.schema_version)) l8 l9
      → Sends (codes "sensitive_values") (object no_members) l9 l10 → SendsSome (codes "tainted") (flag_data r.tainted) l10 l11 → Sends (codes "type") (string addr.type_name) l11 l12 → Sends (codes "values") (value_data r.attributes) l12 l13
      → Logs l13 l14 map_ends → SendsValue (stored_data address provider addr r) l0 l14
  stored_sent n l0 l1 l2 l3 l4 l5 l6 l7 l8 l9 l10 l11 l12 l13 l14 is begun located dependencies deposed index mode name source version sensitive tainted type_name values ended =
      let typed : SendsMembers stored_from_type l11 l14 = (type_name.0, l12, type_name.1, type_name.2, (values.0, l13, values.1, values.2, ended)) in
      let damaged = sends_some (codes "tainted") (flag_data r.tainted) stored_from_type l10 l11 l14 tainted typed in
      let named : SendsMembers stored_from_mode l5 l14 =
      (mode.0, l6, mode.1, mode.2, (name.0, l7, name.1, name.2, (source.0, l8, source.1, source.2, (version.0, l9, version.1, version.2, (sensitive.0, l10, sensitive.1, sensitive.2, damaged))))) in
      let indexed : SendsMembers stored_from_index l4 l14 = sends_some (codes "index") (key_data r.id.key) stored_from_mode l4 l5 l14 index named in
      let gone : SendsMembers stored_from_deposed l3 l14 = sends_some (codes "deposed_key") (option_map string r.id.deposed) stored_from_index l3 l4 l14 deposed indexed in
      let needing : SendsMembers stored_from_dependencies l2 l14 = sends_some (codes "depends_on") (dependencies_data r.dependencies) stored_from_deposed l2 l3 l14 dependencies gone in
      object_sent (stored_members address provider addr r) n l0 l1 l14 (is ∙ sym stored_counted) begun (located.0, l2, located.1, located.2, needing)

-- ---- the prior state

from_some : (o : Option Data) → from_bool (is_some o) ≡ one_if_some o
from_some None = refl
from_some (Some d) = refl

pub module_sent : (ds : List Data) (has : Bool) (n : ℕ) (l0 l1 l2 l3 : Log) → has ≡ is_some (objects_data ds) → n ≡ from_bool has → Logs l0 l1 (map_begins (Some n)) → SendsSome (codes "resources") (objects_data ds) l1 l2 → Logs l2 l3 map_ends
    → SendsValue (module_data ds) l0 l3
module_sent ds has n l0 l1 l2 l3 has_is is begun objects ended =
    let o = objects_data ds in
    let count = some_len (codes "resources") o no_members in
    let counted : n ≡ one_if_some o = is ∙ ap from_bool has_is ∙ from_some o in
    object_sent (some_member (codes "resources") o no_members) n l0 l1 l3 (omega (arith, counted, count)) begun (sends_some (codes "resources") o no_members l1 l2 l3 objects ended)

-- what is empty has no outputs, and what isn't has some
pub outputs_there : (es : List (String Global × Object)) (empty : Bool) → (IsTrue empty ↔ (length es ≡ 0)) → not empty ≡ is_some (outputs_data (outputs_of es))
outputs_there [] true h = refl
outputs_there [] false h = sym (h.1 refl)
outputs_there (e ∷ es) true h = absurd (omega (arith, h.0 refl))
outputs_there (e ∷ es) false h = refl

pub outputs_sent : (es : List (String Global × Object)) (empty : Bool) (a b c : Log) → (IsTrue empty ↔ (length es ≡ 0)) → empty ≡ false → Logs a b (field_key (codes "outputs") AsIs) → SendsValue (object (members_by output_data (outputs_of es))) b c
    → SendsSome (codes "outputs") (outputs_data (outputs_of es)) a c
outputs_sent [] empty a b c h e named sent = absurd (true≢false (sym (h.1 refl) ∙ e))
outputs_sent (o ∷ es) empty a b c h e named sent = (b, named, sent)

pub values_sent : (outputs : Entries) (ds : List Data) (n : ℕ) (l0 l1 l2 l3 l4 : Log) → n ≡ values_count outputs → Logs l0 l1 (map_begins (Some n)) → SendsSome (codes "outputs") (outputs_data outputs) l1 l2
    → Sends (codes "root_module") (module_data ds) l2 l3 → Logs l3 l4 map_ends → SendsValue (values_data outputs ds) l0 l4
values_sent outputs ds n l0 l1 l2 l3 l4 is begun given root ended =
    let rest = member (codes "root_module") (module_data ds) no_members in
    let o = outputs_data outputs in
    let count = some_len (codes "outputs") o rest in
    object_sent (some_member (codes "outputs") o rest) n l0 l1 l4 (omega (arith, is, count)) begun (sends_some (codes "outputs") o rest l1 l2 l4 given (root.0, l3, root.1, root.2, ended))

pub prior_sent : (outputs : Entries) (ds : List Data) (l0 l1 l2 l3 l4 l5 : Log) → Logs l0 l1 (map_begins (Some 3)) → Sends (codes "format_version") (string (codes "1.0")) l1 l2
    → Sends (codes "terraform_version") (string (codes "1.0.0")) l2 l3 → Sends (codes "values") (values_data outputs ds) l3 l4 → Logs l4 l5 map_ends → SendsValue (prior_data outputs ds) l0 l5
prior_sent outputs ds l0 l1 l2 l3 l4 l5 begun format version values ended =
    (l1, begun, (format.0, l2, format.1, format.2, (version.0, l3, version.1, version.2, (values.0, l4, values.1, values.2, ended))))

-- ---- the changes of outputs

pub changes_len : (cs : List OutputChange) → members_len (output_members (map change_view cs)) ≡ length cs
changes_len [] = refl
changes_len (c ∷ cs) = ap suc (changes_len cs)

pub output_change_sent : (c : OutputChangeView) (l0 l1 l2 l3 l4 l5 l6 l7 l8 : Log) → Logs l0 l1 (map_begins (Some 6)) → Sends (codes "actions") (output_actions_data (action_of c)) l1 l2 → Sends (codes "after") (object_data c.after) l2 l3
    → Sends (codes "after_sensitive") (boolean false) l3 l4 → Sends (codes "after_unknown") (output_unknown_data c.after) l4 l5 → Sends (codes "before") (object_data c.before) l5 l6
    → Sends (codes "before_sensitive") (boolean false) l6 l7 → Logs l7 l8 map_ends → SendsValue (output_change_data c) l0 l8
output_change_sent c l0 l1 l2 l3 l4 l5 l6 l7 l8 begun actions after sensitive marks before sensitive_before ended = (
  l1,
  begun,
  (
    actions.0,
    l2,
    actions.1,
    actions.2,
    (
      after.0,
      l3,
      after.1,
      after.2,
      (
        sensitive.0,
        l4,
        sensitive.1,
        sensitive.2,
        (
          marks.0,
          l5,
          marks.1,
          marks.2,
          (before.0, l6, before.1, before.2, (sensitive_before.0, l7, sensitive_before.1, sensitive_before.2, ended)),
        ),
      ),
    ),
  ),
)

-- a value that was borrowed from an option is that value
borrowed : (r : Option (Bor Value)) (o : Option Value) → option_copied r ≡ o → option_map (λ v. tree_of v.now) r ≡ option_map tree_of o
borrowed None o same = ap (option_map tree_of) same
borrowed (Some v) o same = ap (option_map tree_of) same

pub after_sent : (r : Option (Bor Value)) (o : Option Value) (a b : Log) → option_copied r ≡ o → SendsValue (object_data (option_map (λ v. tree_of v.now) r)) a b → SendsValue (object_data (option_map tree_of o)) a b
after_sent r o a b same sent = subst (λ t. SendsValue (object_data t) a b) (borrowed r o same) sent

pub unknown_sent : (r : Option (Bor Value)) (o : Option Value) (a b : Log) → option_copied r ≡ o → SendsValue (output_unknown_data (option_map (λ v. tree_of v.now) r)) a b → SendsValue (output_unknown_data (option_map tree_of o)) a b
unknown_sent r o a b same sent = subst (λ t. SendsValue (output_unknown_data t) a b) (borrowed r o same) sent

pub action_sent : (x y : OutputActionView) (a b : Log) → x ≡ y → SendsValue (output_actions_data x) a b → SendsValue (output_actions_data y) a b
action_sent x y a b same sent = subst (λ z. SendsValue (output_actions_data z) a b) same sent

-- ---- the document

pub document_sent : (variables : Entries) (outputs prior : Option Data) (made : List Data) (n : ℕ) (l0 l1 l2 l3 l4 l5 l6 l7 l8 l9 l10 : Log) → n ≡ document_count outputs prior → Logs l0 l1 (map_begins (Some n)) → Sends (codes "complete") (boolean true) l1 l2
    → Sends (codes "errored") (boolean false) l2 l3 → Sends (codes "format_version") (string (codes "1.2")) l3 l4 → SendsSome (codes "output_changes") outputs l4 l5 → SendsSome (codes "prior_state") prior l5 l6
    → Sends (codes "resource_changes") (array (items_of made)) l6 l7 → Sends (codes "terraform_version") (string (codes "1.0.0")) l7 l8 → Sends (codes "variables") (object (members_by variable_data variables)) l8 l9 → Logs l9 l10 map_ends
    → SendsValue (document_data variables outputs prior made) l0 l10
document_sent variables outputs prior made n l0 l1 l2 l3 l4 l5 l6 l7 l8 l9 l10 is begun complete errored format named before changes version given ended =
    let rest = member (codes "resource_changes") (array (items_of made)) (member (codes "terraform_version") (string (codes "1.0.0")) (member (codes "variables") (object (members_by variable_data variables)) no_members)) in
    let from_prior = some_member (codes "prior_state") prior rest in
    let count = some_len (codes "prior_state") prior rest in
    let count_named = some_len (codes "output_changes") outputs from_prior in
    let later : SendsMembers rest l6 l10 = (changes.0, l7, changes.1, changes.2, (version.0, l8, version.1, version.2, (given.0, l9, given.1, given.2, ended))) in
    let from_state : SendsMembers from_prior l5 l10 = sends_some (codes "prior_state") prior rest l5 l6 l10 before later in
    object_sent (document_members variables outputs prior made) n l0 l1 l10 (omega (arith, is, count, count_named)) begun
    (complete.0, l2, complete.1, complete.2, (errored.0, l3, errored.1, errored.2, (format.0, l4, format.1, format.2, sends_some (codes "output_changes") outputs from_prior l4 l5 l10 named from_state)))
