-- A `BTreeMap` of variables or blocks beside the list that it stands for.
use Rattle.std.proofs.Common.{◌≡◌, List, [], ◌∷◌, Ordering, Less, Equal, Greater, String, Global, map, refl, ◌∙◌, string_cmp}
use Rattle.std.specs.BTreeMap.{insert_entry}
use Rattle.std.specs.Ordering.{match_ordering, ordering_then}
use Rattle.tf_config_address.specs.declared.addr.ResourceAddr.{ResourceAddr}
use Rattle.tf_config_json.specs.Config.{put_variable, put_block}
use Rattle.tf_config_data.specs.Config.{variable_of, block_of}
use Rattle.tf_config_data.specs.declared.config.Block.{Block}
use Rattle.tf_config_data.specs.declared.variable.Variable.{Variable}

map-match_ordering : {A B : Type 0} (f : A → B) (o : Ordering) (a b c : List A) → map f (match_ordering o a b c) ≡ match_ordering o (map f a) (map f b) (map f c)
map-match_ordering f Less a b c = refl
map-match_ordering f Equal a b c = refl
map-match_ordering f Greater a b c = refl

-- the derived order of addresses
abbrev pub addr_order : ResourceAddr → ResourceAddr → Ordering
addr_order a b = ordering_then (string_cmp a.type_name b.type_name) (string_cmp a.name b.name)

pub blocks-insert_entry : (es : List (ResourceAddr × Block)) (addr : ResourceAddr) (block : Block) → map block_of (insert_entry addr_order es addr block) ≡ put_block (block_of (addr, block)) (map block_of es)
blocks-insert_entry [] addr block = refl
blocks-insert_entry (e ∷ es) addr block = map-match_ordering block_of (addr_order addr e.0) _ _ _ ∙ rw (blocks-insert_entry es addr block)

pub variables-insert_entry : (es : List (String Global × Variable)) (name : String Global) (variable : Variable)
    → map variable_of (insert_entry string_cmp es name variable) ≡ put_variable (variable_of (name, variable)) (map variable_of es)
variables-insert_entry [] name variable = refl
variables-insert_entry (e ∷ es) name variable = map-match_ordering variable_of (string_cmp name e.0) _ _ _ ∙ rw (variables-insert_entry es name variable)
