-- What a refusal reports about a place.
use Rattle.std.specs.Prelude.{◌≡◌, ℕ, List}
use Rattle.tf_config_refusal.specs.Refusal.{RefusalView, no_memory, workers, fault, Way}

-- a fault at the place, or memory ran out for the report
abbrev pub TellsAt : List ℕ → Way → RefusalView → Type 0
TellsAt place way no_memory = Unit {0}
TellsAt place way workers = ⊥
TellsAt place way (fault code place' detail) = (place' ≡ place) × ((code, detail) ≡ way)
