-- The demands on a JSON tree that is to be an expression, and how a demand fails.
use Rattle.std.specs.Prelude.{◌≡◌, ◌<◌, ◌≤◌, ℕ, List, IsTrue, false}
use Rattle.serde_json.specs.Data.{Num}
use Rattle.tf_expr_template.specs.Spelling.{SpellsTemplate}
use Rattle.tf_expr_syntax.specs.TemplateTree.{Woven, template_depth}
use Rattle.tf_config_refusal.specs.Check.{Check, AllMet, IsFirst}
use Rattle.tf_value_json.specs.Json.{whole_from}
use Rattle.tf_value_data.specs.Known.{known}
use Rattle.tf_expr_json.specs.Fault.{Told, no_memory, wrong}
use Rattle.tf_expr_json.specs.Opening.{IsPlain}
use Rattle.tf_expr_json.specs.declared.fault.ExprCause.{ExprCause}
use Rattle.tf_expr_json.specs.declared.fault.ExprCause.TheVariants.{BadShape, At, TooDeep}

pub data Demand : Type 0 where
  -- a property's name contains neither `${` nor `%{`
  a_plain_name : List ℕ → Demand
  -- the number is held as a whole number of 64 signed bits
  a_whole_number : Num → Demand
  -- the text is a template
  a_template : List ℕ → Demand

-- the text spells the template, which is no deeper than allowed
abbrev pub IsTemplate : Woven → List ℕ → Type 0
IsTemplate w text = SpellsTemplate w text × (template_depth w ≤ 64)

abbrev pub IsMet : Demand → Type 0
IsMet (a_plain_name text) = IsPlain text
IsMet (a_whole_number number) = IsTrue (known (whole_from number))
IsMet (a_template text) = (w : Woven) × IsTemplate w text

-- the checks, in walk order
abbrev pub Checks : Type 0
Checks = List (Check Demand)

abbrev pub AreMet : Checks → Type 0
AreMet = AllMet IsMet

-- How a text fails to be a template: it spells no template, or each that it spells is too deep. The offset is free.
abbrev pub IsNoTemplate : List ℕ → ExprCause → Type 0
IsNoTemplate text BadShape = ⊥
IsNoTemplate text (At offset) = (w : Woven) → ¬ SpellsTemplate w text
IsNoTemplate text TooDeep = (w : Woven) → SpellsTemplate w text → 64 < template_depth w

-- a demand fails in this way
abbrev pub Fails : Demand → ExprCause → Type 0
Fails (a_plain_name text) cause = (¬ IsPlain text) × (cause ≡ BadShape)
Fails (a_whole_number number) cause = (known (whole_from number) ≡ false) × (cause ≡ BadShape)
Fails (a_template text) cause = IsNoTemplate text cause

-- The refusal is the first fault of the checks, or memory ran out.
abbrev pub Refuses : Checks → Told → Type 0
Refuses checks no_memory = Unit {0}
Refuses checks (wrong place cause) = IsFirst IsMet Fails place cause checks

-- a fault at the place, or memory ran out
abbrev pub TellsAt : List ℕ → ExprCause → Told → Type 0
TellsAt place cause no_memory = Unit {0}
TellsAt place cause (wrong place' cause') = (place' ≡ place) × (cause' ≡ cause)
