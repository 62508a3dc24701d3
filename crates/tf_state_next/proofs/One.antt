-- At most one state comes of an apply.
use Rattle.std.proofs.Common.{◌≡◌, ◌+◌, true, false, cond, List, [], ◌∷◌, Option, Some, None, Equal, is_eq, refl, sym, ap, ◌∙◌}
use Rattle.std.specs.Prelude.{option_and_then}
use Rattle.tf_config_address.proofs.Totals.{addr_total, object_id_total}
use Rattle.tf_config_address.specs.ResourceAddr.{ResourceAddrView, addr_cmp}
use Rattle.tf_config_address.specs.ObjectId.{ObjectIdView, object_id_cmp}
use Rattle.tf_config_address.specs.Same.{addr_Decides, object_id_Decides}
use Rattle.tf_state_next.proofs.Changing.{found_addr, addrs_tied}
use Rattle.tf_state_next.proofs.Composed.{state_is}
use Rattle.tf_state_next.proofs.Finding.{first, found_holds, same_lists}
use Rattle.tf_state_next.specs.Laws.{StateAfterIsOne}
use Rattle.tf_state_next.specs.StateAfter.{has_records}
use Rattle.tf_state_next.proofs.Places.{objects_tied}
use Rattle.tf_state_data.specs.Equality.{same_state}
use Rattle.tf_state_data.specs.Ids.{AreById}
use Rattle.tf_state_data.specs.Record.{RecordView}
use Rattle.tf_state_data.specs.Resource.{ResourceView, record_at}
use Rattle.tf_state_data.specs.State.{StateView, record_in, resource_at}

pub addr_one : (a b : ResourceAddrView) → addr_cmp a b ≡ Equal → a ≡ b
addr_one a b e = (addr_Decides a b).0 (sym (addrs_tied a b) ∙ ap is_eq e)

pub id_one : (a b : ObjectIdView) → object_id_cmp a b ≡ Equal → a ≡ b
id_one a b e = (object_id_Decides a b).0 (sym (objects_tied a b) ∙ ap is_eq e)

-- what is known of an object by the resource that is found
pub known_by : (addr : ResourceAddrView) (id : ObjectIdView) (rs : List ResourceView) (o : Option ResourceView) → resource_at addr rs ≡ o
    → option_and_then (λ r. record_at id r.records) (resource_at addr rs) ≡ option_and_then (λ r. record_at id r.records) o
known_by addr id rs o e = ap (option_and_then (λ (r : ResourceView). record_at id r.records)) e

-- of a resource with records an object is known
pub some_known : (addr : ResourceAddrView) (s : StateView) (r : ResourceView) → has_records r ≡ true → resource_at addr s.resources ≡ Some r → (x : RecordView) × (record_in addr x.id s ≡ Some x)
some_known addr s r has e = by_records r.records refl
  where
    by_records : (xs : List RecordView) → r.records ≡ xs → (x : RecordView) × (record_in addr x.id s ≡ Some x)
    by_records [] is = let no : false ≡ true = sym (rw is refl) ∙ has in absurd (cc)
    by_records (x ∷ xs) is =
        (x, known_by addr x.id s.resources (Some r) e ∙ ap (record_at x.id) is ∙ first (λ (r : RecordView). r.id) object_id_cmp object_id_total x xs)

resources_same : (r q : ResourceView) → r.addr ≡ q.addr → r.provider ≡ q.provider → r.records ≡ q.records → r ≡ q
resources_same r q e f g t = record { addr = e t; provider = f t; records = g t }

pub state_after_one : StateAfterIsOne
state_after_one prior given ends outputs s t ordered sorted one two =
    let known : (addr : ResourceAddrView) (id : ObjectIdView) → record_in addr id s ≡ record_in addr id t = λ addr id. one.records addr id ∙ sym (two.records addr id) in
    let resources = same_lists (λ (r : ResourceView). r.addr) addr_cmp addr_total addr_one s.resources t.resources ordered.resources sorted.resources
    (λ addr. each addr known (resource_at addr s.resources) (resource_at addr t.resources) refl refl) in
    let rest : record s { serial = prior.serial } ≡ record t { serial = prior.serial } =
    state_is prior.serial s.lineage s.terraform_version s.outputs t.outputs s.resources t.resources prior.serial t.lineage t.terraform_version refl (one.lineage ∙ sym two.lineage) (one.version ∙ sym two.version) (one.outputs_are ∙ sym two.outputs_are) resources in
    let serial : s.serial ≡ t.serial = one.serial ∙ ap (λ (u : StateView). cond (same_state u prior) prior.serial (prior.serial + 1)) rest ∙ sym two.serial in
    state_is s.serial s.lineage s.terraform_version s.outputs t.outputs s.resources t.resources t.serial t.lineage t.terraform_version serial (one.lineage ∙ sym two.lineage) (one.version ∙ sym two.version) (one.outputs_are ∙ sym two.outputs_are) resources
  where
    each : (addr : ResourceAddrView) → ((addr : ResourceAddrView) (id : ObjectIdView) → record_in addr id s ≡ record_in addr id t) → (o p : Option ResourceView) → resource_at addr s.resources ≡ o → resource_at addr t.resources ≡ p → resource_at addr s.resources ≡ resource_at addr t.resources
    each addr known None None e f = e ∙ sym f
    each addr known (Some r) None e f =
        let has = found_holds (λ (r : ResourceView). has_records r ≡ true) (λ (r : ResourceView). is_eq (addr_cmp r.addr addr)) s.resources r one.present e in
        let x = some_known addr s r has e in
        let no : Some x.0 ≡ None = sym x.1 ∙ known addr x.0.id ∙ known_by addr x.0.id t.resources None f in absurd (cc)
    each addr known None (Some q) e f =
        let has = found_holds (λ (r : ResourceView). has_records r ≡ true) (λ (r : ResourceView). is_eq (addr_cmp r.addr addr)) t.resources q two.present f in
        let x = some_known addr t q has f in
        let no : Some x.0 ≡ None = sym x.1 ∙ sym (known addr x.0.id) ∙ known_by addr x.0.id s.resources None e in absurd (cc)
    each addr known (Some r) (Some q) e f =
        let by_id = found_holds (λ (r : ResourceView). AreById r.records) (λ (r : ResourceView). is_eq (addr_cmp r.addr addr)) s.resources r ordered.records e in
        let by_id_too = found_holds (λ (r : ResourceView). AreById r.records) (λ (r : ResourceView). is_eq (addr_cmp r.addr addr)) t.resources q sorted.records f in
        let records = same_lists (λ (r : RecordView). r.id) object_id_cmp object_id_total id_one r.records q.records by_id by_id_too
        (λ id. sym (known_by addr id s.resources (Some r) e) ∙ known addr id ∙ known_by addr id t.resources (Some q) f) in
        e ∙ ap Some (resources_same r q (found_addr addr s.resources r e ∙ sym (found_addr addr t.resources q f)) (one.providers addr r e ∙ sym (two.providers addr q f)) records) ∙ sym f
