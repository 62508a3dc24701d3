-- What configurations that were read keep to.
use Rattle.std.proofs.Common.{Option, Some, None, ◌≡◌, ◌∙◌, ℕ, Bool, true, false, if◌then◌else◌, codes, List, [], ◌∷◌, Less, map, refl, sym, ap, subst}
use Rattle.std.specs.List.{AllByRecursion}
use Rattle.std.specs.List.Sorted.{IsStrictlySortedBy}
use Rattle.std.specs.Option.{MatchOption, option_map_or}
use Rattle.std.specs.Prelude.{option_and_then}
use Rattle.serde_json.specs.Data.{Data}
use Rattle.serde_json.specs.Find.{get}
use Rattle.tf_config_address.specs.ResourceAddr.{addr_cmp}
use Rattle.tf_config_json.proofs.BlockLaws.{blocks_have, blocks_in_order}
use Rattle.tf_config_json.proofs.KeyedLists.{all_from, contained}
use Rattle.tf_config_json.specs.Config.{address_cmp}
use Rattle.tf_config_json.specs.Configuration.{IsConfiguration, IsDefault}
use Rattle.tf_config_json.specs.Words.{is_type_name}
use Rattle.tf_config_data.specs.Config.{BlockView, ConfigView, VariableView}
use Rattle.tf_config_data.specs.declared.variable.Element.{Element}
use Rattle.tf_config_data.specs.declared.variable.Element.TheVariants as elements
use Rattle.tf_config_data.specs.declared.variable.VariableType.{VariableType}
use Rattle.tf_config_data.specs.declared.variable.VariableType.TheVariants as types
use Rattle.tf_value_data.proofs.Conjunction.{and-both, and-first, and-second}
use Rattle.tf_value_json.specs.Json.{tree_from, value_from}
use Rattle.tf_value_data.specs.Known.{known, known_entries, known_items}
use Rattle.tf_value_data.specs.Scalar.{scalar_text}
use Rattle.tf_value_data.specs.Tree as tree
use Rattle.tf_value_data.specs.Tree.{Tree, Items, no_items, item, Entries, no_entries, entry}
use Rattle.tf_config_json.specs.Types.{element_as, entries_as, fits, fitted, items_as, text_or, value_as}
use Rattle.tf_config_json.specs.Values.{AreValues, given, taken_of}
use Rattle.tf_laws.specs.Read.{ReadHasOwnNames, ReadIsSound}
use Rattle.tf_laws.specs.Twice.{HasOrderedOutputs, HasOwnNames}

-- ---- no block is of the type `local`

abbrev IsNoLocal : BlockView → Type 0
IsNoLocal b = ¬ (b.addr.type_name ≡ codes "local")

no_type : (type_name : List ℕ) → is_type_name type_name ≡ true → ¬ (type_name ≡ codes "local")
no_type type_name h same = let yes : is_type_name (codes "local") ≡ true = sym (ap is_type_name same) ∙ h in let no : is_type_name (codes "local") ≡ false = refl in absurd (cc)

-- ---- defaults are known

-- what is read of JSON is known
read_known : (d : Data) (t : Tree) → value_from d ≡ Some t → known t ≡ true
read_known d t e = by_known (known (tree_from d)) refl e
  where
    by_known : (b : Bool) → known (tree_from d) ≡ b → (if b then Some (tree_from d) else None) ≡ Some t → known t ≡ true
    by_known true is f = let same : tree_from d ≡ t = (cc) in sym (ap known same) ∙ is
    by_known false is f = absurd (cc)

abbrev IsKnownDefault : Option Tree → Type 0
IsKnownDefault default = option_map_or known default true ≡ true

default_at : (o : Option Data) (default : Option Tree) → MatchOption o (default ≡ None) (λ d. IsDefault d default) → IsKnownDefault default
default_at None default h = subst IsKnownDefault (sym h) refl
default_at (Some d) default h = subst IsKnownDefault (sym h.2) (read_known d h.0 h.1.0)

abbrev AreKnownDefaults : List VariableView → Type 0
AreKnownDefaults vs = AllByRecursion (λ v. IsKnownDefault v.default) vs

-- ---- the whole file

pub record IsOrderly (config : ConfigView) : Type 0 where
  pub names : HasOwnNames config
  pub outputs : HasOrderedOutputs config
  pub defaults : AllByRecursion (λ v. IsKnownDefault v.default) config.variables

later_addrs : (first : BlockView) (blocks : List BlockView) → AllByRecursion (λ b. address_cmp first b ≡ Less) blocks → AllByRecursion (λ l. addr_cmp first.addr l ≡ Less) (map (λ b. b.addr) blocks)
later_addrs first [] h = tt
later_addrs first (b ∷ blocks) h = (h.0, later_addrs first blocks h.1)

by_addr : (blocks : List BlockView) → IsStrictlySortedBy address_cmp blocks → IsStrictlySortedBy addr_cmp (map (λ b. b.addr) blocks)
unfolding IsStrictlySortedBy
by_addr [] h = tt
by_addr (b ∷ blocks) h = (later_addrs b blocks h.0, by_addr blocks h.1)

read_orderly : (tree : Data) (config : ConfigView) → IsConfiguration tree config → IsOrderly config
read_orderly tree config h =
    record {
      names = blocks_have IsNoLocal (λ b of_type of_name. no_type b.addr.type_name of_type) tree config h;
      outputs = h.outputs.order;
      defaults = all_from (λ (v : VariableView). IsKnownDefault v.default) config.variables
          (λ v there. let is = (h.variables.exact v).0 (contained config.variables v there) in default_at (get (codes "default") is.0) v.default is.2.default);
    }

pub read_names : ReadHasOwnNames
read_names tree config h = let orderly = read_orderly tree config h in (orderly.names, orderly.outputs)

-- ---- values of variables are known

text_known : (t : Tree) (o : Option (List ℕ)) → known t ≡ true → known (text_or t o) ≡ true
text_known t None h = h
text_known t (Some s) h = refl

element_known : (e : Element) (t : Tree) → known t ≡ true → known (element_as e t) ≡ true
element_known elements.String t h = text_known t (scalar_text t) h
element_known elements.Any t h = h
element_known elements.Number t h = h
element_known elements.Bool t h = h

items_known : (e : Element) (ts : Items) → known_items ts ≡ true → known_items (items_as e ts) ≡ true
items_known e no_items h = refl
items_known e (item t ts) h =
    and-both (known (element_as e t)) (known_items (items_as e ts)) (element_known e t (and-first (known t) (known_items ts) h)) (items_known e ts (and-second (known t) (known_items ts) h))

entries_known : (e : Element) (es : Entries) → known_entries es ≡ true → known_entries (entries_as e es) ≡ true
entries_known e no_entries h = refl
entries_known e (entry k t es) h =
    and-both (known (element_as e t)) (known_entries (entries_as e es)) (element_known e t (and-first (known t) (known_entries es) h)) (entries_known e es (and-second (known t) (known_entries es) h))

list_known : (e : Element) (t : Tree) → known t ≡ true → known (value_as (types.List e) t) ≡ true
list_known e (tree.list ts) h = items_known e ts h
list_known e _ h = h

map_known : (e : Element) (t : Tree) → known t ≡ true → known (value_as (types.Map e) t) ≡ true
map_known e (tree.map es) h = entries_known e es h
map_known e _ h = h

value_known : (value_type : VariableType) (t : Tree) → known t ≡ true → known (value_as value_type t) ≡ true
value_known (types.One e) t h = element_known e t h
value_known (types.List e) t h = list_known e t h
value_known (types.Map e) t h = map_known e t h

fitted_known : (value_type : VariableType) (o : Option Tree) (v : Tree) → ((t : Tree) → o ≡ Some t → known t ≡ true) → option_and_then (fitted value_type) o ≡ Some v → known v ≡ true
fitted_known value_type None v h e = absurd (cc)
fitted_known value_type (Some t) v h e = by_fit (fits value_type t) e
  where
    by_fit : (b : Bool) → (if b then Some (value_as value_type t) else None) ≡ Some v → known v ≡ true
    by_fit true f = let same : value_as value_type t ≡ v = (cc) in sym (ap known same) ∙ value_known value_type t (h t refl)
    by_fit false f = absurd (cc)

default_known : (default : Option Tree) (t : Tree) → IsKnownDefault default → default ≡ Some t → known t ≡ true
default_known None t h e = absurd (cc)
default_known (Some u) t h e = let same : u ≡ t = (cc) in sym (ap known same) ∙ h

taken_known : (o : Option Data) (default : Option Tree) (t : Tree) → IsKnownDefault default → taken_of o default ≡ Some t → known t ≡ true
taken_known None default t h e = default_known default t h e
taken_known (Some value) default t h e = read_known value t e

values_known : (file : Option Data) (vs : List VariableView) (values : Entries) → AreKnownDefaults vs → AreValues file vs values → known_entries values ≡ true
values_known file [] no_entries h are = refl
values_known file [] (entry k t es) h are = absurd are
values_known file (v ∷ vs) no_entries h are = absurd are
values_known file (v ∷ vs) (entry k t es) h are =
    and-both (known t) (known_entries es) (fitted_known v.value_type (taken_of (given file v.name) v.default) t (λ u e. taken_known (given file v.name) v.default u h.0 e) are.1) (values_known file vs es h.1 are.2)

-- the values of the variables of a configuration that was read are known
pub read_values_known : (tree : Data) (config : ConfigView) (file : Option Data) (values : Entries) → IsConfiguration tree config → AreValues file config.variables values → known_entries values ≡ true
read_values_known tree config file values h are = values_known file config.variables values (read_orderly tree config h).defaults are

pub read_sound : ReadIsSound
read_sound ms tree config file values prior h are schemas valid = record {
  blocks = by_addr config.blocks (blocks_in_order tree config h);
  schemas = schemas;
  variables_known = read_values_known tree config file values h are;
  valid = valid;
}
