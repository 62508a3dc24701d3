-- How many workers a walk may have.
use Rattle.std.specs.Prelude.{ℕ, ◌&&◌, Bool, nat_le}

-- a walk may have 1 to 64 workers
abbrev pub are_workers : ℕ → Bool
are_workers workers = nat_le 1 workers && nat_le workers 64
