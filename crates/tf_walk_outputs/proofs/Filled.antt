-- Rooms of outputs, one after another.
use Rattle.std.proofs.Common.{◌≡◌, ℕ, List, [], ◌∷◌, ◌++◌, string_bytes, refl, ap, ap₂}
use Rattle.std.specs.List.{AllByRecursion}
use Rattle.tf_walk_outputs.specs.Buffers.{outputs_in}
use Rattle.tf_walk_outputs.specs.declared.output_buffers.OutputBuffers.{OutputBuffers}
use Rattle.tf_expr_syntax.specs.ExprTree.{Tree, Entries, no_entries, entry, tree_of}

-- outputs with others behind them
abbrev pub behind : Entries → Entries → Entries
behind no_entries fs = fs
behind (entry name e es) fs = entry name e (behind es fs)

pub none_behind : (es : Entries) → behind es no_entries ≡ es
none_behind no_entries = refl
none_behind (entry name e es) = ap (entry name e) (none_behind es)

-- a room more is one for the first of those behind
pub room_behind : (rooms : List OutputBuffers) (room : OutputBuffers) (name : List ℕ) (e : Tree) (es : Entries) → string_bytes room.name ≡ name → tree_of room.expr.now ≡ e
    → behind (outputs_in (rooms ++ room ∷ [])) es ≡ behind (outputs_in rooms) (entry name e es)
room_behind [] room name e es h g = ap₂ (λ n t. entry n t es) h g
room_behind (r ∷ rooms) room name e es h g = ap (entry (string_bytes r.name) (tree_of r.expr.now)) (room_behind rooms room name e es h g)

pub all_last : {A : Type 0} (P : A → Type 0) (xs : List A) (x : A) → AllByRecursion P xs → P x → AllByRecursion P (xs ++ x ∷ [])
all_last P [] x h p = (p, tt)
all_last P (y ∷ xs) x h p = (h.0, all_last P xs x h.1 p)
