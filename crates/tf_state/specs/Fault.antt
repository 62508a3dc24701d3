-- The text of each fault.
use Rattle.std.specs.Prelude.{ℕ, List, codes}
use Rattle.tf_state.specs.declared.fault.StateFault.{StateFault}
use Rattle.tf_state.specs.declared.fault.StateFault.TheVariants.{BadState, Limit, OutOfMemory}

-- each fault has a text of its own
abbrev pub fault_text : StateFault → List ℕ
fault_text BadState = codes "the text is no state's"
fault_text Limit = codes "the state is beyond the limits"
fault_text OutOfMemory = codes "out of memory"
