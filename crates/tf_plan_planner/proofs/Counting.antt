-- The instances of the expansion are so few that each has a number that may be.
use Rattle.std.proofs.Common.{◌≡◌, ◌<◌, ◌≤◌, ◌+◌, ℕ, zero, suc, List, [], ◌∷◌, length, map, Some, ap, subst, arith, inl, inr}
use Rattle.std.proofs.lemmas.Bool.{cases_eq}
use Rattle.std.specs.List.{AllByRecursion, range_with_len}
use Rattle.tf_config_address.specs.ObjectId.{number, name}
use Rattle.tf_config_data.specs.Config.{BlockView}
use Rattle.tf_config_data.specs.Names.{NameView, a_block, meant_at}
use Rattle.tf_expand_keys.specs.InstanceKeys.{InstanceKeysView, one, many, named, instance_keys}
use Rattle.tf_expand_keys.specs.Expanding.{instance_count, instances_before}
use Rattle.tf_plan_data.specs.Fits.{IsNumbered}

numbered : (a n : ℕ) → a + n ≤ 2000 → AllByRecursion IsNumbered (map number (range_with_len a n))
numbered a zero h = tt
numbered a (suc n) h = (omega arith, numbered (a + 1) n (omega arith))

all-named : (names : List (List ℕ)) → AllByRecursion IsNumbered (map name names)
all-named [] = tt
all-named (s ∷ names) = (tt, all-named names)

keys-numbered : (block : BlockView) (shape : InstanceKeysView) → instance_count (Some (a_block block)) shape ≤ 2000 → AllByRecursion IsNumbered (instance_keys shape)
keys-numbered block one h = (tt, tt)
keys-numbered block (many n) h = numbered 0 n (omega arith)
keys-numbered block (named names) h = all-named names

module _ (names : List NameView) (shapes : ℕ → InstanceKeysView) where
  count-within : (k n : ℕ) → k < n → instance_count (meant_at names k) (shapes k) ≤ instances_before names shapes n
  count-within k zero h = absurd (omega arith)
  count-within k (suc n) h = elim (cases_eq k n) [
    | inl here ↦ let same : instance_count (meant_at names k) (shapes k) ≡ instance_count (meant_at names n) (shapes n) = ap (λ j. instance_count (meant_at names j) (shapes j)) here in omega (arith, same)
    | inr other ↦ let before = count-within k n (omega arith) in omega (arith, before)
  ]

  -- the instances of a block
  pub instances-numbered : (n : ℕ) (block : BlockView) → n < length names → meant_at names n ≡ Some (a_block block) → instances_before names shapes (length names) ≤ 2000
      → AllByRecursion IsNumbered (instance_keys (shapes n))
  instances-numbered n block inside stands few =
      let counted : instance_count (meant_at names n) (shapes n) ≤ 2000 = let within = count-within n (length names) inside in omega (arith, within, few) in
      keys-numbered block (shapes n) (subst (λ m. instance_count m (shapes n) ≤ 2000) stands counted)
