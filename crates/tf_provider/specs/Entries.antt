-- What a journal holds, and which entries it may take.
use Rattle.std.specs.Prelude.{◌≡◌, ℕ, ◌≤◌, ◌<◌, ◌^◌, Bool, true, false, ◌&&◌, nat_eq, Contains, List, [], ◌∷◌, map, take, length, Option, Some, None, if◌then◌else◌, not, count_by, slice_index, slice_index_or}
use Rattle.std.specs.List.{list_all, list_any}
use Rattle.tf_graph.specs.Digraph.{Digraph, predecessors_of}
use Rattle.tf_graph.specs.Order.{IsInOrder}
use Rattle.tf_provider.specs.Call.{Call}
use Rattle.tf_provider_protocol.specs.declared.request.Op.{Op}
use Rattle.tf_provider_protocol.specs.declared.request.Op.TheVariants.{Create, Update, Destroy}
use Rattle.tf_provider_protocol.specs.Verdict.{is_good_verdict}
use Rattle.tf_provider.specs.declared.journal.Entry.{Entry}
use Rattle.tf_provider.specs.declared.journal.RecordFault.{RecordFault}
use Rattle.tf_provider.specs.declared.journal.RecordFault.TheVariants.{Early, Twice}

-- a graph of actions, and the entries in the order in which they were recorded
pub record Log : Type 0 where
  pub graph : Digraph
  pub entries : List Entry

-- the entry of a call
abbrev pub entry_of : Call → Entry
entry_of c = record { action = c.action; op = c.request.op; verdict = c.verdict }

-- the actions of some entries, in their order
abbrev pub actions_of : List Entry → List ℕ
actions_of entries = map (λ e. e.action) entries

-- an action has an entry
abbrev pub is_entered : List Entry → ℕ → Bool
is_entered entries n = list_any (nat_eq n) (actions_of entries)

-- Why an action's call may not be recorded: an action directly before it isn't recorded; otherwise, it is recorded itself.
abbrev pub fault_of : Log → ℕ → Option RecordFault
fault_of log n =
    if not (list_all (is_entered log.entries) (predecessors_of log.graph n)) then Some Early
    else (if is_entered log.entries n then Some Twice else None)

-- A journal is allowed if no action is in it twice, and all actions directly before an entry's action come earlier.
abbrev pub IsAllowed : Log → Type 0
IsAllowed log = IsInOrder (predecessors_of log.graph) (actions_of log.entries)

-- the actions follow an edge: each time that its second end is among them, its first end comes earlier
abbrev pub Follows : List ℕ → ℕ × ℕ → Type 0
Follows actions edge = (i : ℕ) → i < length actions → slice_index actions i ≡ edge.1 → Contains (take i actions) edge.0

-- the same as a test: the second end isn't met before the first
abbrev pub follows : List ℕ → ℕ × ℕ → Bool
follows [] edge = true
follows (n ∷ actions) edge = if nat_eq n edge.1 then false else (if nat_eq n edge.0 then true else follows actions edge)

abbrev pub same_op : Op → Op → Bool
same_op Create Create = true
same_op Update Update = true
same_op Destroy Destroy = true
same_op _ _ = false

-- an entry says that this was done with a good verdict
abbrev pub is_good : Op → Entry → Bool
is_good op e = same_op e.op op && is_good_verdict e.verdict

-- the number of entries that say that this was done with a good verdict
abbrev pub good_count : Op → List Entry → ℕ
good_count op entries = count_by (is_good op) entries

-- the mark of an action; an action out of range has none
abbrev pub is_marked : List Bool → ℕ → Bool
is_marked marks n = slice_index_or marks n false

-- the number of marks that are set
abbrev pub mark_count : List Bool → ℕ
mark_count marks = count_by (λ mark. mark) marks

-- The invariant of a journal: each action has a mark, which is set if the action has an entry; there are as many entries as
-- marks that are set, so that there is room for one more entry while a mark isn't set; and the entries are in order.
pub record IsKept (graph : Digraph) (marks : List Bool) (entries : List Entry) (capacity : ℕ) : Type 0 where
  pub sized : length marks ≡ graph.nodes
  pub few : graph.nodes < 2 ^ 32
  pub room : graph.nodes ≤ capacity
  pub marked : (n : ℕ) → is_marked marks n ≡ is_entered entries n
  pub counted : length entries ≡ mark_count marks
  pub allowed : IsInOrder (predecessors_of graph) (actions_of entries)
