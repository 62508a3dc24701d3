-- Laws of all states and their texts.
use Rattle.std.specs.Prelude.{◌≡◌, ℕ, ◌^◌, ◌<◌, List, IsUtf8}
use Rattle.tf_config_address.specs.ResourceAddr.{ResourceAddrView}
use Rattle.tf_config_address.specs.ObjectId.{ObjectIdView}
use Rattle.tf_state_data.specs.Record.{RecordView}
use Rattle.tf_state_data.specs.Resource.{ResourceView, with_record, without_record}
use Rattle.tf_state_data.specs.State.{StateView, empty_state, with_resource, without_resource}
use Rattle.tf_value_data.specs.Stored.{IsTable}
use Rattle.tf_value_data.specs.Tree.{Entries}
use Rattle.tf_state.specs.Table.{Reads}
use Rattle.tf_state.specs.Text.{state_text}
use Rattle.tf_state.specs.Valid.{IsPresent, IsRecord, IsResource, IsValid}

-- Bytes are the text of at most one state.
abbrev pub TextIsOfOne : Type 0
TextIsOfOne = (bytes : List ℕ) (s t : StateView) → Reads bytes s → Reads bytes t → s ≡ t

-- The text that is written for a valid state reads as that state.
abbrev pub TextReadsAsState : Type 0
TextReadsAsState = (s : StateView) → IsValid s → IsUtf8 (state_text s) → Reads (state_text s) s

-- Two valid states with the same text are the same.
abbrev pub StateOfTextIsOne : Type 0
StateOfTextIsOne = (s t : StateView) → IsValid s → IsValid t → state_text s ≡ state_text t → s ≡ t

-- A state that a text reads as is valid.
abbrev pub ReadIsValid : Type 0
ReadIsValid = (bytes : List ℕ) (s : StateView) → Reads bytes s → IsValid s

-- A valid state with a resource put in, at its address, is valid.
abbrev pub PutKeepsState : Type 0
PutKeepsState = (new : ResourceView) (s : StateView) → IsPresent new → IsValid s → IsValid (with_resource new s)

-- A valid resource with a valid record put in is valid, and has a record.
abbrev pub PutKeepsResource : Type 0
PutKeepsResource = (new : RecordView) (r : ResourceView) → IsRecord new → IsResource r → IsPresent (with_record new r)

-- A valid state without the resource at an address is valid.
abbrev pub RemoveKeepsState : Type 0
RemoveKeepsState = (addr : ResourceAddrView) (s : StateView) → IsValid s → IsValid (without_resource addr s)

-- A valid resource without the record of an object is valid, though it may be left without records.
abbrev pub RemoveKeepsResource : Type 0
RemoveKeepsResource = (id : ObjectIdView) (r : ResourceView) → IsResource r → IsResource (without_record id r)

-- The state before anything exists is valid.
abbrev pub EmptyIsValid : Type 0
EmptyIsValid = (lineage : List ℕ) → IsValid (empty_state lineage)

-- A valid state with another serial of 32 bits is valid.
abbrev pub SerialKeepsState : Type 0
SerialKeepsState = (serial : ℕ) (s : StateView) → serial < 2 ^ 32 → IsValid s → IsValid (record s { serial = serial })

-- A valid state with other outputs, each of which may be stored, is valid.
abbrev pub OutputsKeepState : Type 0
OutputsKeepState = (outputs : Entries) (s : StateView) → IsTable outputs → IsValid s → IsValid (record s { outputs = outputs })
