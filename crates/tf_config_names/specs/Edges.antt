-- The edges of a graph of names.
use Rattle.std.specs.Prelude.{ℕ, List, map}

-- an edge from each source to the target
abbrev pub edges_into : ℕ → List ℕ → List (ℕ × ℕ)
edges_into target sources = map (λ a. (a, target)) sources
