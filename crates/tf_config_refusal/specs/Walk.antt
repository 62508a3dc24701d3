-- Walks over the parts of a JSON text, in order.
use Rattle.std.specs.Prelude.{◌≡◌, ℕ, ◌+◌, List, [], ◌++◌}
use Rattle.serde_json.specs.Data.{Data, Items, no_items, item, Members, no_members, member}

-- the checks of each member, one member after another
abbrev pub each : {C : Type 0} → (List ℕ → Data → List C) → Members → List C
each checks no_members = []
each checks (member name value members) = checks name value ++ each checks members

-- the checks of each element, by its position, from this position on
abbrev pub each_item : {C : Type 0} → (ℕ → Data → List C) → ℕ → Items → List C
each_item checks position no_items = []
each_item checks position (item value items) = checks position value ++ each_item checks (position + 1) items

-- The members lead from `before` to `after`: each one, in order, adds what it says.
abbrev pub Builds : {B : Type 0} → (List ℕ → Data → B → B → Type 0) → Members → B → B → Type 0
Builds Adds no_members before after = before ≡ after
Builds {B} Adds (member name value members) before after =
    (between : B) × Adds name value before between × Builds Adds members between after
