-- The events that are sent determine the pretty text of a tree without floats.
use Rattle.std.proofs.Common.{◌≡◌, ℕ, List, [], ◌∷◌, ◌++◌, false, Some, inl, inr, refl, sym, ap, ◌∙◌, subst, arith, append_assoc, append-nil}
use Rattle.std.proofs.lemmas.Grind.{common_steps}
use Rattle.std.proofs.lemmas.Bool.{or_parts}
use Rattle.json.specs.Token as json
use Rattle.json.specs.Token.{Token}
use Rattle.json.specs.Lex.{tokens}
use Rattle.json.specs.Layout.{pretty}
use Rattle.json.specs.Tree.{json_tokens, items_tokens, members_tokens}
use Rattle.serde.specs.Event as event
use Rattle.serde.specs.Event.{Event, Log}
use Rattle.serde.specs.declared.name.Case.TheVariants.{AsIs}
use Rattle.serde.specs.declared.name.NameKind.TheVariants.{Field}
use Rattle.serde.proofs.Spellings.{spelled-AsIs}
use Rattle.serde_json.specs.Data.{Num, unsigned, negative, float, Data, null, boolean, number, string, array, object, Items, no_items, item, Members, no_members, member}
use Rattle.serde_json.specs.Events.{number_event, items_len, members_len, SendsValue, SendsItems, SendsMembers}
use Rattle.serde_json.specs.Sent.{State, start, Takes, TakesAll, AreTokensOf}
use Rattle.serde_json.specs.Written.{outline, items_outline, members_outline, has_float, items_have_float, members_have_float}
use Rattle.serde_json.proofs.FreeTexts.{tokens_by}
use Rattle.tf_value_json.specs.Text.{IsTextOfEvents, IsTextOfSentTree}

-- no key is due, and nothing is flattened
abbrev IsPlain : State → Type 0
IsPlain s = (s.at_key ≡ false) × (s.flattens ≡ false) × (s.flat ≡ [])

-- these tokens were added, and the writer is where it was
abbrev Added : State → List Token → State → Type 0
Added old ts new = IsPlain new × (new.tokens ≡ old.tokens ++ ts)

-- these tokens are added, and then the rest is taken
abbrev Leads : State → List Token → List Event → State → Type 0
Leads old ts rest last = (mid : State) × Added old ts mid × TakesAll mid rest last

-- each run over these events and some rest adds these tokens first
abbrev Adds : List Event → List Token → Type 0
Adds es ts = (rest : List Event) (s last : State) → IsPlain s → TakesAll s (es ++ rest) last → Leads s ts rest last

-- what was sent behind old is known, and adds these tokens
abbrev Sent : List Event → List Token → Log → Type 0
Sent old ts log = (es : List Event) × (log ≡ Some (old ++ es)) × Adds es ts

joined : (es fs : List Event) (ts us : List Token) → Adds es ts → Adds fs us → Adds (es ++ fs) (ts ++ us)
joined es fs ts us first second rest s last plain run =
    let led = first (fs ++ rest) s last plain (subst (λ gs. TakesAll s gs last) (append_assoc es fs rest) run) in
    let more = second rest led.0 last led.1.0 led.2 in
    (more.0, (more.1.0, more.1.1 ∙ ap (λ xs. xs ++ us) led.1.1 ∙ append_assoc s.tokens ts us), more.2)

-- one event that adds these tokens from each place
one : (e : Event) (ts : List Token) → ((s m : State) → IsPlain s → Takes s e m → Added s ts m) → Adds (e ∷ []) ts
one e ts each rest s last plain run = (run.0, each s run.0 plain run.1, run.2)

sent_one : (e : Event) (ts : List Token) (old : List Event) (log : Log) → log ≡ Some (old ++ e ∷ []) → ((s m : State) → IsPlain s → Takes s e m → Added s ts m) → Sent old ts log
sent_one e ts old log is each = (e ∷ [], is, one e ts each)

-- what was sent behind what was sent
chained : (old es : List Event) (ts us : List Token) (log : Log) → Adds es ts → Sent (old ++ es) us log → Sent old (ts ++ us) log
chained old es ts us log first more = (es ++ more.0, more.1 ∙ ap Some (append_assoc old es more.0), joined es more.0 ts us first more.2)

number_added : (n : Num) (s m : State) → has_float (number n) ≡ false → IsPlain s → Takes s (number_event n) m → Added s (json_tokens (outline (number n))) m
number_added (unsigned n) s m whole plain step = grind (arith, common_steps)
number_added (negative z) s m whole plain step = grind (arith, common_steps)
number_added (float x) s m whole plain step = absurd cc

map_ended : (s m : State) → IsPlain s → Takes s event.map_ends m → Added s (json.end_object ∷ []) m
map_ended s m plain step = elim step [
  | inl flat ↦ absurd (grind (arith, common_steps, flat.1, plain.2))
  | inr braced ↦ grind (arith, common_steps, braced.1)
]

mutual
  value_sent : (d : Data) (old : List Event) (log : Log) → has_float d ≡ false → SendsValue d (Some old) log → Sent old (json_tokens (outline d)) log
  value_sent null old log whole h = sent_one event.nothing (json.null ∷ []) old log h (λ s m plain step. grind (arith, common_steps, step.1))
  value_sent (boolean b) old log whole h = sent_one (event.boolean b) (json.boolean b ∷ []) old log h (λ s m plain step. grind (arith, common_steps, step.1))
  value_sent (number n) old log whole h = sent_one (number_event n) (json_tokens (outline (number n))) old log h (λ s m plain step. number_added n s m whole plain step)
  value_sent (string t) old log whole h = sent_one (event.text t) (json.string t ∷ []) old log h (λ s m plain step. grind (arith, common_steps, step.1))
  value_sent (array ds) old log whole h =
      let begins = event.seq_begins (Some (items_len ds)) in
      chained old (begins ∷ []) (json.begin_array ∷ []) (items_tokens (items_outline ds)) log (one begins (json.begin_array ∷ []) (λ s m plain step. grind (arith, common_steps, step.1.1)))
      (items_sent ds (old ++ begins ∷ []) log whole (subst (λ l. SendsItems ds l log) h.1 h.2))
  value_sent (object ms) old log whole h =
      let begins = event.map_begins (Some (members_len ms)) in
      chained old (begins ∷ []) (json.begin_object ∷ []) (members_tokens (members_outline ms)) log (one begins (json.begin_object ∷ []) (λ s m plain step. grind (arith, common_steps, step.1)))
      (members_sent ms (old ++ begins ∷ []) log whole (subst (λ l. SendsMembers ms l log) h.1 h.2))

  items_sent : (ds : Items) (old : List Event) (log : Log) → items_have_float ds ≡ false → SendsItems ds (Some old) log → Sent old (items_tokens (items_outline ds)) log
  items_sent no_items old log whole h = sent_one event.seq_ends (json.end_array ∷ []) old log h (λ s m plain step. grind (arith, common_steps, step))
  items_sent (item d ds) old log whole h =
      let parts = or_parts (has_float d) (items_have_float ds) whole in
      let first = value_sent d old h.0 parts.0 h.1 in
      chained old first.0 (json_tokens (outline d)) (items_tokens (items_outline ds)) log first.2
      (items_sent ds (old ++ first.0) log parts.1 (subst (λ l. SendsItems ds l log) first.1 h.2))

  members_sent : (ms : Members) (old : List Event) (log : Log) → members_have_float ms ≡ false → SendsMembers ms (Some old) log → Sent old (members_tokens (members_outline ms)) log
  members_sent no_members old log whole h = sent_one event.map_ends (json.end_object ∷ []) old log h (λ s m plain step. map_ended s m plain step)
  members_sent (member k d ms) old log whole h =
      let parts = or_parts (has_float d) (members_have_float ms) whole in
      let named = event.field_key k AsIs in
      let first = value_sent d (old ++ named ∷ []) h.1 parts.0 (subst (λ l. SendsValue d l h.1) h.2 h.3) in
      chained old (named ∷ []) (json.key k ∷ []) (json_tokens (outline d) ++ members_tokens (members_outline ms)) log
      (one named (json.key k ∷ []) (λ s m plain step. grind (arith, common_steps, step, spelled-AsIs Field k)))
      (chained (old ++ named ∷ []) first.0 (json_tokens (outline d)) (members_tokens (members_outline ms)) log first.2
      (members_sent ms ((old ++ named ∷ []) ++ first.0) log parts.1 (subst (λ l. SendsMembers ms l log) first.1 h.4)))

-- the tokens of the events of a tree without floats are the tree's
tokens_of_sent : (d : Data) (log : Log) (ts : List Token) → SendsValue d (Some []) log → has_float d ≡ false → AreTokensOf false log ts → ts ≡ json_tokens (outline d)
tokens_of_sent d log ts sends whole are =
    let sent = value_sent d [] log whole sends in
    tokens_by false sent.0 log ts (json_tokens (outline d)) sent.1 are (λ s run.
    let led = sent.2 [] (start false) s (refl, refl, refl) (subst (λ es. TakesAll (start false) es s) (sym (append-nil sent.0)) run) in
    ap (λ x. x.tokens) led.2 ∙ led.1.1)

pub text_of_events : (log : Log) (text : List ℕ) → AreTokensOf false log (tokens text) → text ≡ pretty (tokens text) → IsTextOfEvents log (text ++ 10 ∷ [])
text_of_events log text are layout = (tokens text, are, ap (λ t. t ++ 10 ∷ []) layout)

pub text_of_sent_tree : (log : Log) (text : List ℕ) → AreTokensOf false log (tokens text) → text ≡ pretty (tokens text) → IsTextOfSentTree log (text ++ 10 ∷ [])
text_of_sent_tree log text are layout d sends whole = ap (λ t. t ++ 10 ∷ []) (layout ∙ ap pretty (tokens_of_sent d log (tokens text) sends whole are))
