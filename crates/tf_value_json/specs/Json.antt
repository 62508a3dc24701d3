-- Values and JSON trees.
use Rattle.std.specs.Prelude.{ℕ, List, [], ◌∷◌, ◌^◌, pos, negsuc, ◌≡◌, nat_lt, if◌then◌else◌, true, false, Option, Some, None, FitsSigned, ⊤}
use Rattle.std.specs.Int.{w64}
use Rattle.serde_json.specs.Data as json
use Rattle.serde_json.specs.Find.{of_integer}
use Rattle.tf_value_data.specs.Tree.{Tree, null, boolean, whole, text, list, map, set, unknown, Items, no_items, item, Entries, no_entries, entry}
use Rattle.tf_value_data.specs.Known.{known}
use Rattle.tf_value_data.specs.Measure.{IsWithinLimits, IsTooLarge}
use Rattle.tf_value_json.specs.declared.fault.JsonFault.{JsonFault}
use Rattle.tf_value_json.specs.declared.fault.JsonFault.TheVariants.{UnknownInside, NotWhole, TooLarge, OutOfMemory}

-- strings are the given texts, one by one
abbrev pub AreTexts : List (List ℕ) → json.Items → Type 0
AreTexts [] json.no_items = ⊤
AreTexts (s ∷ ss) (json.item (json.string t) ds) = (s ≡ t) × AreTexts ss ds
AreTexts _ _ = ⊥

-- A JSON tree is the form of a value if both have the same shape: the same scalars, whole numbers of 64 bits as
-- numbers without a fraction or an exponent, lists as arrays, sets as the arrays of their texts in byte order, and
-- maps as objects of the same keys. A value with an unknown part has no form.
abbrev mutual
  pub IsJson : Tree → json.Data → Type 0
  IsJson null json.null = ⊤
  IsJson (boolean b) (json.boolean c) = b ≡ c
  IsJson (whole z) (json.number n) = FitsSigned w64 z × (n ≡ of_integer z)
  IsJson (text s) (json.string t) = s ≡ t
  IsJson (list ts) (json.array ds) = IsArray ts ds
  IsJson (map es) (json.object ms) = IsObject es ms
  IsJson (set ss) (json.array ds) = AreTexts ss ds
  IsJson _ _ = ⊥

  pub IsArray : Items → json.Items → Type 0
  IsArray no_items json.no_items = ⊤
  IsArray (item t ts) (json.item d ds) = IsJson t d × IsArray ts ds
  IsArray _ _ = ⊥

  pub IsObject : Entries → json.Members → Type 0
  IsObject no_entries json.no_members = ⊤
  IsObject (entry k t es) (json.member l d ms) = (k ≡ l) × IsJson t d × IsObject es ms
  IsObject _ _ = ⊥

-- the texts of a set, as strings
abbrev pub texts_data : List (List ℕ) → json.Items
texts_data [] = json.no_items
texts_data (s ∷ ss) = json.item (json.string s) (texts_data ss)

-- the JSON form of a known value, with null for a part that is unknown
abbrev mutual
  pub value_data : Tree → json.Data
  value_data null = json.null
  value_data (boolean b) = json.boolean b
  value_data (whole z) = json.number (of_integer z)
  value_data (text s) = json.string s
  value_data (list ts) = json.array (items_data ts)
  value_data (map es) = json.object (entries_data es)
  value_data (set ss) = json.array (texts_data ss)
  value_data unknown = json.null

  pub items_data : Items → json.Items
  items_data no_items = json.no_items
  items_data (item t ts) = json.item (value_data t) (items_data ts)

  pub entries_data : Entries → json.Members
  entries_data no_entries = json.no_members
  entries_data (entry k t es) = json.member k (value_data t) (entries_data es)

-- the whole number of 64 bits that a JSON number is held as, or unknown
abbrev pub whole_from : json.Num → Tree
whole_from (json.unsigned n) = if nat_lt n (2 ^ 63) then whole (pos n) else unknown
whole_from (json.negative (pos n)) = unknown
whole_from (json.negative (negsuc n)) = if nat_lt n (2 ^ 63) then whole (negsuc n) else unknown
whole_from (json.float x) = unknown

-- the value that a JSON tree reads as, with an unknown part for each number that isn't whole; an array reads as a list
abbrev mutual
  pub tree_from : json.Data → Tree
  tree_from json.null = null
  tree_from (json.boolean b) = boolean b
  tree_from (json.number n) = whole_from n
  tree_from (json.string s) = text s
  tree_from (json.array ds) = list (items_from ds)
  tree_from (json.object ms) = map (entries_from ms)

  pub items_from : json.Items → Items
  items_from json.no_items = no_items
  items_from (json.item d ds) = item (tree_from d) (items_from ds)

  pub entries_from : json.Members → Entries
  entries_from json.no_members = no_entries
  entries_from (json.member k d ms) = entry k (tree_from d) (entries_from ms)

-- the value without a set whose form a JSON tree is; `None` if a number in it isn't whole
abbrev pub value_from : json.Data → Option Tree
value_from d = if known (tree_from d) then Some (tree_from d) else None

-- Why a value isn't written as JSON: a part of it is unknown; or it is known, and memory ran out.
abbrev pub IsUnwritten : Tree → JsonFault → Type 0
IsUnwritten t UnknownInside = known t ≡ false
IsUnwritten t OutOfMemory = known t ≡ true
IsUnwritten t _ = ⊥

-- Why a JSON tree isn't read as a value: it is no value's form; or it is the form of a value that is too large; or it
-- is the form of a value within the limits, and memory ran out.
abbrev pub IsUnread : json.Data → JsonFault → Type 0
IsUnread d NotWhole = value_from d ≡ None
IsUnread d TooLarge = (t : Tree) × (value_from d ≡ Some t) × IsTooLarge t
IsUnread d OutOfMemory = (t : Tree) × (value_from d ≡ Some t) × IsWithinLimits t
IsUnread d UnknownInside = ⊥
