-- The text of each fault.
use Rattle.std.specs.Prelude.{ℕ, List, codes}
use Rattle.tf_value_json.specs.declared.fault.JsonFault.{JsonFault}
use Rattle.tf_value_json.specs.declared.fault.JsonFault.TheVariants.{UnknownInside, NotWhole, TooLarge, OutOfMemory}

-- each fault has a text of its own
abbrev pub fault_text : JsonFault → List ℕ
fault_text UnknownInside = codes "a part of the value is unknown"
fault_text NotWhole = codes "a number isn't a whole number of 64 bits"
fault_text TooLarge = codes "the value is too large"
fault_text OutOfMemory = codes "out of memory"
