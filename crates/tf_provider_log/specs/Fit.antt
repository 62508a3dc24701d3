-- Which requests and answers fit a line.
use Rattle.std.specs.Prelude.{◌≡◌, Option, Some, None, Bool, true, false, ◌&&◌, nat_le}
use Rattle.tf_provider_protocol.specs.Meaning.{Asked, Answer, object, gone, failed}
use Rattle.tf_value_data.specs.Measure.{depth}
use Rattle.tf_value_data.specs.Sets.{has_no_set}
use Rattle.tf_value_data.specs.Tree.{Tree}
use Rattle.tf_provider_log.specs.declared.fault.Unwritten.{Unwritten}
use Rattle.tf_provider_log.specs.declared.fault.Unwritten.TheVariants.{Unfit, OutOfMemory}

-- a value fits a line if it has no set in it and is at most 100 deep
abbrev pub fits : Tree → Bool
fits t = has_no_set t && nat_le (depth t) 100

-- an optional value fits a line if it is absent or fits
abbrev pub option_fits : Option Tree → Bool
option_fits None = true
option_fits (Some t) = fits t

-- a request fits a line if its values do
abbrev pub request_fits : Asked → Bool
request_fits r = option_fits r.prior && option_fits r.object

-- an answer fits a line if its value does
abbrev pub answer_fits : Option Answer → Bool
answer_fits None = true
answer_fits (Some (object t)) = fits t
answer_fits (Some gone) = true
answer_fits (Some (failed message t)) = option_fits t

-- Why an entry isn't written: it doesn't fit a line, or it does and memory ran out.
abbrev pub IsUnwritten : Bool → Unwritten → Type 0
IsUnwritten fit Unfit = fit ≡ false
IsUnwritten fit OutOfMemory = fit ≡ true
