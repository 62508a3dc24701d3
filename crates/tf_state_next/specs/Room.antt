-- Space for what is saved, reserved before the first call, and what is put into it.
use Rattle.std.specs.Prelude.{ℕ, List, Option, Some, None, option_map}
use Rattle.tf_state_next.specs.After.{as_deposed}
use Rattle.tf_state_next.specs.Ends.{ApplyResultView, unwanted, unplanned, nothing, saved}
use Rattle.tf_state_data.specs.Record.{RecordView}
use Rattle.tf_state_data.specs.Resource.{ResourceView, with_record}

-- How many more records there may be after the actions of an instance: one if an object was saved, otherwise zero.
abbrev pub records_more : ApplyResultView → ℕ
records_more (saved s) = 1
records_more nothing = 0
records_more unplanned = 0
records_more unwanted = 0

-- a resource with a record put in, if there is one
abbrev pub with_any : Option RecordView → ResourceView → ResourceView
with_any (Some new) r = with_record new r
with_any None r = r

-- a record as that of an object that became deposed, if a key is given for it
abbrev pub deposed_by : Option (List ℕ) → Option RecordView → Option RecordView
deposed_by (Some key) left = option_map (as_deposed key) left
deposed_by None left = None
