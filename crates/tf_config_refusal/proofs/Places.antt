-- The place of a path, one step further down.
use Rattle.std.proofs.Common.{◌≡◌, ℕ, List, [], ◌∷◌, Bor, rules}
use Rattle.std.specs.Fmt.{decimal}
use Rattle.tf_config_refusal.specs.Place.{place_of}
use Rattle.tf_config_refusal.specs.declared.path.Path.{Path, Root, Member, Item, the_lemmas}

pub place_of-Root : place_of Root ≡ []
place_of-Root = search (rules, the_lemmas)

pub place_of-Member : (parent : Bor Path) (name : Bor (List ℕ)) → place_of (Member parent name) ≡ name.now ∷ place_of parent.now
place_of-Member parent name = search (rules, the_lemmas)

pub place_of-Item : (parent : Bor Path) (position : ℕ) → place_of (Item parent position) ≡ decimal position ∷ place_of parent.now
place_of-Item parent position = search (rules, the_lemmas)
