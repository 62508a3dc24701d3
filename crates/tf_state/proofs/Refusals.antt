-- Which texts are read, and why others aren't.
use Rattle.std.proofs.Common.{◌≡◌, true, List, ℕ, Option, Some, None, ap, sym, ◌∙◌}
use Rattle.std.specs.Prelude.{IsUtf8}
use Rattle.serde_json.specs.Data.{Data}
use Rattle.serde_json.specs.Read.{read}
use Rattle.tf_state_data.specs.State.{StateView}
use Rattle.tf_config_address.specs.ObjectId.{ObjectIdView}
use Rattle.tf_state.specs.Reading.{IsNoJson, IsRefused, is_record, id_in, record_at, record_in, state_in}
use Rattle.tf_state.specs.Table.{IsBeyond, IsUnread, Reads}
use Rattle.tf_state.specs.declared.fault.StateFault.{StateFault}
use Rattle.tf_state.specs.declared.fault.StateFault.TheVariants.{BadState, Limit, OutOfMemory}
use Rattle.tf_state.proofs.ByTable.{state_said, state_says}

same_data : (d e : Data) → Some d ≡ Some e → d ≡ e
same_data d e h = cc

is_nothing : (o : Option StateView) (s : StateView) → o ≡ None → o ≡ Some s → ⊥
is_nothing o s h e = absurd (cc)

pub no_json : (bytes : List ℕ) (e : StateFault) → IsNoJson bytes e → IsUnread bytes e
no_json bytes BadState h = λ s reads. h reads.0 (reads.1, reads.2)
no_json bytes Limit h = absurd h
no_json bytes OutOfMemory h = tt

pub reads_by_table : (bytes : List ℕ) (d : Data) (s : StateView) → IsUtf8 bytes → read bytes ≡ Some d → state_in d ≡ Some s → Reads bytes s
reads_by_table bytes d s utf8 is h = (d, utf8, is, state_says d s h)

pub no_state : (bytes : List ℕ) (d : Data) (e : StateFault) → read bytes ≡ Some d → IsRefused (state_in d) e → IsUnread bytes e
no_state bytes d BadState is h = λ s reads. is_nothing (state_in d) s h (ap state_in (same_data d reads.0 (sym is ∙ reads.2)) ∙ state_said reads.0 s reads.3)
no_state bytes d Limit is h = absurd h
no_state bytes d OutOfMemory is h = tt

pub beyond_limits : (bytes : List ℕ) (d : Data) (s : StateView) → IsUtf8 bytes → read bytes ≡ Some d → state_in d ≡ Some s → IsBeyond s → IsUnread bytes Limit
beyond_limits bytes d s utf8 is h b = (s, reads_by_table bytes d s utf8 is h, b)

-- what is refused behind its place is refused
pub refused_behind : (d : Data) (p : ObjectIdView) (e : StateFault) → is_record d ≡ true → id_in d ≡ Some p → IsRefused (record_at p d) e → IsRefused (record_in d) e
refused_behind d p e is at h = rw (is, at) h
