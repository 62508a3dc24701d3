-- A copy is seen as what it is a copy of.
use Rattle.std.proofs.Common.{◌≡◌, ℕ, Bool, List, [], ◌∷◌, String, string_bytes, refl, ap, ap₂, ◌∙◌}
use Rattle.std.specs.List.{AllZip}
use Rattle.std.specs.declared.alloc.Global.{Global}
use Rattle.tf_config_address.proofs.CopiedIds.{object_id_copied}
use Rattle.tf_config_address.specs.ObjectId.{ObjectIdView}
use Rattle.tf_state_data.specs.Record.{RecordView, record_of}
use Rattle.tf_state_data.specs.State.{outputs_of}
use Rattle.tf_state_data.specs.contracts.record.RecordClone.TheImpl as RecordClone
use Rattle.tf_state_data.specs.declared.object.Object.{Object}
use Rattle.tf_state_data.specs.declared.record.Record.{Record}
pub use Rattle.tf_value_data.proofs.Copied.{copied}
use Rattle.tf_value_data.specs.Tree.{Tree, entry, tree_of}

record_seen : {p q : ObjectIdView} {t u : Tree} {m n : ℕ} {a b c d : Bool} {xs ys : List (List ℕ)} → q ≡ p → u ≡ t → n ≡ m → b ≡ a → ys ≡ xs → d ≡ c
    → ◌≡◌ {A = RecordView} (record { id = q; attributes = u; schema_version = n; tainted = b; dependencies = ys; create_before_destroy = d })
    (record { id = p; attributes = t; schema_version = m; tainted = a; dependencies = xs; create_before_destroy = c })
record_seen e f g h i j = cc

pub record_copied : (r s : Record) → (RecordClone.is_clone-value).it r s → record_of s ≡ record_of r
record_copied r s h =
    record_seen (object_id_copied r.id s.id h.0) h.1.0 h.1.1.0 h.1.1.1.0 (copied _ string_bytes (λ x y e. e) r.dependencies.keys s.dependencies.keys h.1.1.1.1.0) h.1.1.1.1.1

-- the outputs of a map that is a copy
pub outputs_copied : (es fs : List (String Global × Object)) → AllZip (λ d e. (string_bytes e.0 ≡ string_bytes d.0) × (tree_of e.1.value ≡ tree_of d.1.value)) es fs → outputs_of fs ≡ outputs_of es
outputs_copied [] [] h = refl
outputs_copied (d ∷ es) (e ∷ fs) h =
    ap₂ (λ s t. entry s t (outputs_of fs)) h.0.0 h.0.1 ∙ ap (λ rest. entry (string_bytes d.0) (tree_of d.1.value) rest) (outputs_copied es fs h.1)
outputs_copied [] (e ∷ fs) h = absurd h
outputs_copied (d ∷ es) [] h = absurd h
