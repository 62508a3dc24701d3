-- The parts of the format that have no properties of their own: the checks of each, and what it says.
use Rattle.std.specs.Prelude.{◌≡◌, ℕ, ◌+◌, Bool, IsTrue, is_some, Option, Some, List, [], ◌∷◌, ◌++◌, MatchResult, Result, ⊤}
use Rattle.std.specs.Fmt.{decimal}
use Rattle.serde_json.specs.Data.{Data, null, boolean, number, string, array, object, Items, no_items, item, Members, no_members, member}
use Rattle.tf_config_address.specs.ResourceAddr.{ResourceAddrView}
use Rattle.tf_config_address.specs.Name.{is_name}
use Rattle.tf_config_data.specs.declared.variable.VariableType.{VariableType}
use Rattle.tf_expr_json.specs.Demand.{a_whole_number}
use Rattle.tf_expr_json.specs.Reading.{expr_checks}
use Rattle.tf_expr_json.specs.Within.{demanded_as}
use Rattle.tf_config_refusal.specs.Check.{demanded}
use Rattle.tf_config_refusal.specs.Walk.{each_item}
use Rattle.tf_value_json.specs.Json.{tree_from, value_from}
use Rattle.tf_value_data.specs.Measure.{is_within, IsWithinLimits}
use Rattle.tf_value_data.specs.Tree as values
use Rattle.tf_config_refusal.specs.Refusal.{refusal_of}
use Rattle.tf_config_refusal.specs.declared.refusal.Refusal.{Refusal}
use Rattle.tf_config_json.specs.Demand.{Checks, AreMet, Refuses, nothing_fits, holds, a_name, of_expression}
use Rattle.tf_config_json.specs.Words.{addr_in, type_in}

-- nothing is allowed here
abbrev pub wrong : List (List ℕ) → Checks
wrong place = demanded place nothing_fits

-- the checks of the value at a place
abbrev pub PartChecks : Type 0
PartChecks = List (List ℕ) → Data → Checks

-- A part that says something has no fault.
abbrev pub IsPartSound : {A : Type 0} → (Data → A → Type 0) → PartChecks → Type 0
IsPartSound {A} Says checks = (place : List (List ℕ)) (value : Data) (said : A) → Says value said → AreMet (checks place value)

-- The result is what the value at a place says, or the error is the first fault in it.
abbrev pub Reads : {A T : Type 0} → (Data → A → Type 0) → PartChecks → (T → A) → List (List ℕ) → Data → Result T Refusal → Type 0
Reads Says checks out_view place value answer = MatchResult answer (λ read. Says value (out_view read)) (λ refusal. Refuses (checks place value) (refusal_of refusal))

-- ---- scalars

-- an expression
abbrev pub expression_checks : PartChecks
expression_checks place value = demanded_as of_expression (expr_checks place value)

-- any text
abbrev pub text_checks : PartChecks
text_checks place (string text) = []
text_checks place _ = wrong place

abbrev pub IsText : Data → List ℕ → Type 0
IsText value text = value ≡ string text

-- a truth value
abbrev pub flag_checks : PartChecks
flag_checks place (boolean flag) = []
flag_checks place _ = wrong place

abbrev pub IsFlag : Data → Bool → Type 0
IsFlag value flag = value ≡ boolean flag

-- a text that `find` accepts
abbrev pub found_checks : {A : Type 0} → (List ℕ → Option A) → PartChecks
found_checks find place (string text) = demanded place (holds (is_some (find text)))
found_checks find place _ = wrong place

abbrev pub Finds : {A : Type 0} → (List ℕ → Option A) → Data → A → Type 0
Finds find (string text) x = find text ≡ Some x
Finds find _ x = ⊥

-- a text that names a type
abbrev pub type_text_checks : PartChecks
type_text_checks = found_checks type_in

abbrev pub NamesType : Data → VariableType → Type 0
NamesType = Finds type_in

-- ---- literal values

-- Each number in a tree at a place, in the elements of an array from a position on, and in members, is held as a whole
-- number of 64 signed bits. Texts aren't templates.
abbrev mutual
  pub number_checks : List (List ℕ) → Data → Checks
  number_checks place null = []
  number_checks place (boolean b) = []
  number_checks place (number n) = demanded place (of_expression (a_whole_number n))
  number_checks place (string text) = []
  number_checks place (array items) = item_number_checks place 0 items
  number_checks place (object members) = member_number_checks place members

  pub item_number_checks : List (List ℕ) → ℕ → Items → Checks
  item_number_checks place position no_items = []
  item_number_checks place position (item value items) = number_checks (decimal position ∷ place) value ++ item_number_checks place (position + 1) items

  pub member_number_checks : List (List ℕ) → Members → Checks
  member_number_checks place no_members = []
  member_number_checks place (member name value members) = number_checks (name ∷ place) value ++ member_number_checks place members

-- a literal value: first its numbers have to be whole, then it has to be within the limits of weight and depth
abbrev pub literal_checks : PartChecks
literal_checks place value = number_checks place value ++ demanded place (holds (is_within (tree_from value)))

abbrev pub IsLiteral : Data → values.Tree → Type 0
IsLiteral value tree = (value_from value ≡ Some tree) × IsWithinLimits tree

-- ---- arrays

-- the checks of the element at a position of the array at a place
abbrev pub element_checks : PartChecks → List (List ℕ) → ℕ → Data → Checks
element_checks checks place position value = checks (decimal position ∷ place) value

-- the checks of an array: those of one element after another
abbrev pub array_checks : PartChecks → PartChecks
array_checks checks place (array items) = each_item (element_checks checks place) 0 items
array_checks checks place _ = wrong place

-- each element says the list's element at the same position
abbrev pub EachSays : {A : Type 0} → (Data → A → Type 0) → Items → List A → Type 0
EachSays Says no_items [] = ⊤
EachSays Says (item value items) (x ∷ xs) = Says value x × EachSays Says items xs
EachSays Says _ _ = ⊥

-- an array says a list
abbrev pub SaysList : {A : Type 0} → (Data → A → Type 0) → Data → List A → Type 0
SaysList Says (array items) xs = EachSays Says items xs
SaysList Says _ xs = ⊥

-- a text that is a name
abbrev pub name_checks : PartChecks
name_checks place (string text) = demanded place (a_name text)
name_checks place _ = wrong place

abbrev pub IsNameText : Data → List ℕ → Type 0
IsNameText value text = (value ≡ string text) × IsTrue (is_name text)

-- a text that is the address of a resource
abbrev pub address_checks : PartChecks
address_checks = found_checks addr_in

abbrev pub IsAddressText : Data → ResourceAddrView → Type 0
IsAddressText = Finds addr_in
