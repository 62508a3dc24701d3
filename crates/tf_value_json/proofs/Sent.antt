-- Loops that send the items of a list or the members of a map.
use Rattle.std.proofs.Common.{◌≡◌, ℕ, List, [], Option, Some, Result, OnOk, sym, subst}
use Rattle.std.proofs.lemmas.Result.{on_ok_weaker}
use Rattle.serde.specs.Event.{Event, Log, Logs, seq_begins, map_begins}
use Rattle.serde_json.specs.Data.{Items, Members, array, object}
use Rattle.serde_json.specs.Events.{SendsValue, SendsItems, SendsMembers, items_len, members_len}

-- whatever ends it well from here on ends it well from the start, so that a loop keeps it
abbrev pub GoesOn : {D : Type 0} → (D → Log → Log → Type 0) → D → Log → D → Log → Type 0
GoesOn Sends left now all first = (end : Log) → Sends left now end → Sends all first end

module _ {D : Type 0} (len : D → ℕ) (begins : Option ℕ → Event) (Sends : D → Log → Log → Type 0) where
  -- nothing is left, so all is sent, behind the number of its parts
  all_sent : {X T E : Type 0} (form : List X → D) (xs ys left : List X) (n : ℕ) (start first now end : Log) (r : Result T E)
      → ys ≡ xs → left ≡ [] → n ≡ len (form xs) → Logs start first (begins (Some n)) → GoesOn Sends (form left) now (form ys) first → OnOk r (Sends (form []) now end)
      → OnOk r ((first : Log) × Logs start first (begins (Some (len (form xs)))) × Sends (form xs) first end)
  all_sent form xs ys left n start first now end r all none counted begun on ended =
      on_ok_weaker r (λ (e : Sends (form []) now end). (
        first,
        subst (λ m. Logs start first (begins (Some m))) counted begun,
        subst (λ zs. Sends (form zs) first end) all (on end (subst (λ zs. Sends (form zs) now end) (sym none) e)),
      )) ended

-- of a list
pub array_sent : {X T E : Type 0} (form : List X → Items) {xs ys left : List X} {n : ℕ} (start first now end : Log) (r : Result T E)
    → ys ≡ xs → left ≡ [] → n ≡ items_len (form xs) → Logs start first (seq_begins (Some n)) → GoesOn SendsItems (form left) now (form ys) first → OnOk r (SendsItems (form []) now end)
    → OnOk r (SendsValue (array (form xs)) start end)
array_sent form start first now end r all none counted begun on ended = all_sent items_len seq_begins SendsItems form _ _ _ _ start first now end r all none counted begun on ended

-- of a map
pub object_sent : {X T E : Type 0} (form : List X → Members) {xs ys left : List X} {n : ℕ} (start first now end : Log) (r : Result T E)
    → ys ≡ xs → left ≡ [] → n ≡ members_len (form xs) → Logs start first (map_begins (Some n)) → GoesOn SendsMembers (form left) now (form ys) first → OnOk r (SendsMembers (form []) now end)
    → OnOk r (SendsValue (object (form xs)) start end)
object_sent form start first now end r all none counted begun on ended = all_sent members_len map_begins SendsMembers form _ _ _ _ start first now end r all none counted begun on ended
