-- The blocks of a configuration are in order, and their addresses consist of names.
use Rattle.std.proofs.Common.{◌≡◌, Bool, true, false, ◌&&◌, refl}
use Rattle.std.specs.List.{AllByRecursion, list_any}
use Rattle.std.specs.List.Sorted.{IsStrictlySortedBy}
use Rattle.std.specs.Prelude.{not}
use Rattle.std.specs.Str.{bytes_eq}
use Rattle.serde_json.specs.Data.{Data}
use Rattle.tf_config_address.specs.Name.{is_name}
use Rattle.tf_config_data.specs.Config.{BlockView, ConfigView}
use Rattle.tf_config_json.proofs.AtPath.{met_block}
use Rattle.tf_config_json.proofs.KeyedLists.{all_from, contained}
use Rattle.tf_config_json.specs.Config.{address_cmp}
use Rattle.tf_config_json.specs.Configuration.{IsConfiguration}
use Rattle.tf_config_json.specs.Laws.{HasNames}
use Rattle.tf_config_json.specs.Words.{reserved_types, is_type_name}

pub blocks_in_order : (tree : Data) (config : ConfigView) → IsConfiguration tree config → IsStrictlySortedBy address_cmp config.blocks
blocks_in_order tree config h = h.blocks.order

-- what holds of each block whose type and name are allowed
pub blocks_have : (P : BlockView → Type 0) → ((b : BlockView) → is_type_name b.addr.type_name ≡ true → is_name b.addr.name ≡ true → P b) → (tree : Data) (config : ConfigView) → IsConfiguration tree config → AllByRecursion P config.blocks
blocks_have P each tree config h =
    all_from P config.blocks
    (λ b there. let is = (h.blocks.exact b).0 (contained config.blocks b there) in let met = met_block tree b.addr.type_name b.addr.name is.0 h.checks is.1 in each b met.0 met.1)

first_of : (a b : Bool) → (a && b) ≡ true → a ≡ true
first_of true b h = refl
first_of false b h = absurd (cc)

pub blocks_named : (tree : Data) (config : ConfigView) → IsConfiguration tree config → AllByRecursion HasNames config.blocks
blocks_named tree config h =
    blocks_have HasNames (λ b of_type of_name. (first_of (is_name b.addr.type_name) (not (list_any (bytes_eq b.addr.type_name) reserved_types)) of_type, of_name)) tree config h
