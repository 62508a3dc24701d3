-- A state in which each resource has a block has no more resources than the configuration has names.
use Rattle.std.proofs.Common.{◌≡◌, ◌∙◌, ◌<◌, ◌≤◌, ℕ, true, List, [], ◌∷◌, Option, Some, Ordering, Less, Equal, length, map, inl, inr, refl, sym, ap, subst, arith}
use Rattle.std.proofs.lemmas.Cmp.{tied_itself}
use Rattle.std.proofs.lemmas.List.{length-append, length-map}
use Rattle.std.specs.List.{AllByRecursion}
use Rattle.std.specs.List.Sorted.{IsStrictlySortedBy}
use Rattle.std.specs.Prelude.{Contains}
use Rattle.tf_config_address.proofs.Totals.{addr_total}
use Rattle.tf_config_address.specs.ResourceAddr.{ResourceAddrView, addr_cmp}
use Rattle.tf_config_json.specs.Config.{names_in}
use Rattle.tf_config_json.specs.Reading.{IsWithinCounts}
use Rattle.tf_config_data.specs.Config.{BlockView, ConfigView}
use Rattle.tf_config_data.specs.Names.{Meant, NameView, a_block, block_name, local_names, meant_at, names_of}
use Rattle.tf_laws.proofs.Declared.{has_stands}
use Rattle.tf_laws.proofs.Places.{meant_within}
use Rattle.tf_graph.proofs.Edges.{contains_cases}
use Rattle.tf_graph.proofs.Orders.{IsApart, pigeonhole}
use Rattle.tf_config_names.proofs.Needing.{none_contained}
use Rattle.tf_plan_order.specs.ResourceIndex.{has_block}
use Rattle.tf_state_data.specs.Addresses.{AreByAddress}
use Rattle.tf_state_data.specs.Resource.{ResourceView}
use Rattle.tf_state.specs.Table.{IsBeyond, last_serial}
use Rattle.tf_state_data.specs.State.{StateView}
use Rattle.tf_expr_syntax.specs.ExprTree.{Entries, entry, no_entries}

-- each resource has a block
abbrev pub HaveBlocks : List NameView → List ResourceView → Type 0
HaveBlocks names rs = AllByRecursion (λ r. has_block names r.addr ≡ true) rs

-- the places of their blocks
abbrev places : (names : List NameView) (rs : List ResourceView) → HaveBlocks names rs → List ℕ
places names [] h = []
places names (r ∷ rs) h = (has_stands names r.addr h.0).0 ∷ places names rs h.1

places_count : (names : List NameView) (rs : List ResourceView) (h : HaveBlocks names rs) → length (places names rs h) ≡ length rs
places_count names [] h = refl
places_count names (r ∷ rs) h = let later = places_count names rs h.1 in omega (arith, later)

places_within : (names : List NameView) (rs : List ResourceView) (h : HaveBlocks names rs) → AllByRecursion (λ n. n < length names) (places names rs h)
places_within names [] h = tt
places_within names (r ∷ rs) h = let stands = has_stands names r.addr h.0 in (meant_within names stands.0 (a_block stands.1) stands.2, places_within names rs h.1)

one_block : (names : List NameView) (n m : ℕ) (b c : BlockView) → n ≡ m → meant_at names n ≡ Some (a_block b) → meant_at names m ≡ Some (a_block c) → b.addr ≡ c.addr
one_block names n m b c same e f =
    let both : ◌≡◌ {A = Option Meant} (Some (a_block b)) (Some (a_block c)) = sym e ∙ ap (meant_at names) same ∙ f in
    let alike : b ≡ c = cc in
    ap (λ (x : BlockView). x.addr) alike

not_below : (l k : ResourceAddrView) → l ≡ k → addr_cmp l k ≡ Less → ⊥
not_below l k same less = let no : ◌≡◌ {A = Ordering} Less Equal = sym less ∙ ap (addr_cmp l) (sym same) ∙ tied_itself addr_total l in absurd (cc)

none_later : (names : List NameView) (n : ℕ) (block : BlockView) (addr : ResourceAddrView) → meant_at names n ≡ Some (a_block block) → block.addr ≡ addr → (rs : List ResourceView) (h : HaveBlocks names rs)
    → AllByRecursion (λ l. addr_cmp addr l ≡ Less) (map (λ r. r.addr) rs) → Contains (places names rs h) n → ⊥
none_later names n block addr e is [] h below c = none_contained n c
none_later names n block addr e is (r ∷ rs) h below c =
    let stands = has_stands names r.addr h.0 in
    elim (contains_cases n stands.0 (places names rs h.1) c) [
      | inl here ↦ not_below addr r.addr (sym is ∙ sym (one_block names stands.0 n stands.1 block here stands.2 e) ∙ stands.3) below.0
      | inr later ↦ none_later names n block addr e is rs h.1 below.1 later
    ]

places_apart : (names : List NameView) (rs : List ResourceView) (h : HaveBlocks names rs) → AreByAddress rs → IsApart (places names rs h)
unfolding IsStrictlySortedBy
places_apart names [] h sorted = tt
places_apart names (r ∷ rs) h sorted =
    let stands = has_stands names r.addr h.0 in
    (none_later names stands.0 stands.1 r.addr stands.2 stands.3 rs h.1 sorted.0, places_apart names rs h.1 sorted.1)

resources_few : (names : List NameView) (rs : List ResourceView) → HaveBlocks names rs → AreByAddress rs → length rs ≤ length names
resources_few names rs h sorted =
    subst (λ (n : ℕ). n ≤ length names) (places_count names rs h) (pigeonhole (length names) (places names rs h) (places_within names rs h) (places_apart names rs h sorted))

locals_count : (es : Entries) → length (local_names es) ≡ length (names_in es)
locals_count no_entries = refl
locals_count (entry name e es) = let later = locals_count es in omega (arith, later)

names_few : (config : ConfigView) → IsWithinCounts config → length (names_of config) ≤ 4000
names_few config few =
    let all = length-append (local_names config.locals) (map block_name config.blocks) in
    let locals = locals_count config.locals in
    let blocks = length-map config.blocks block_name in
    omega (arith, all, locals, blocks, few.1, few.3)

-- so such a state is beyond a limit by its serial alone
pub beyond_by_serial : (config : ConfigView) (s : StateView) → IsWithinCounts config → HaveBlocks (names_of config) s.resources → AreByAddress s.resources → IsBeyond s → last_serial ≤ s.serial
beyond_by_serial config s few blocks sorted h =
    let within = resources_few (names_of config) s.resources blocks sorted in
    let names = names_few config few in
    elim h [ inl many ↦ absurd (omega (arith, within, names, many)) | inr serial ↦ serial ]
