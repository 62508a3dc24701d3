-- What has a number, one after another: its place, and the lists of names and orphans as far as a loop has come.
use Rattle.std.proofs.Common.{◌≡◌, ◌∙◌, ◌+◌, ◌<◌, ℕ, suc, ◌||◌, Bool, true, false, cond, List, [], ◌∷◌, ◌++◌, Option, None, Some, is_some, option_map, length, take, drop, map, filter, refl, sym, ap}
use Rattle.std.specs.List.{list_any}
use Rattle.std.specs.Prelude.{slice_get}
use Rattle.std.proofs.lemmas.List.{map-append, take_more}
use Rattle.std.proofs.lemmas.Option.{get_or_from_slice_get, slice_get-map, slice_get_within}
use Rattle.tf_config_address.specs.ResourceAddr.{ResourceAddrView}
use Rattle.tf_config_data.specs.Names.{NameView}
use Rattle.tf_config_names.specs.Declaration.{declaration_of}
use Rattle.tf_config_names.specs.declared.declaration.Declaration.{Declaration}
use Rattle.tf_plan_order.specs.Marks.{is_marked}
use Rattle.tf_plan_order.specs.ResourceRef.{resource_ref_of}
use Rattle.tf_state_data.specs.Record.{record_of}
use Rattle.tf_state_data.specs.declared.record.Record.{Record}
use Rattle.tf_plan_order.specs.ResourceIndex.{ResourceRefView, a_name, has_block, is_at, place_in}
use Rattle.tf_plan_order.specs.declared.resource_ref.ResourceRef.{ResourceRef}
use Rattle.tf_plan_order.specs.declared.resource_ref.ResourceRef.TheVariants.{Name}

-- the place of a resource among those from a position on
abbrev pub place_from : List ResourceRef → ℕ → ResourceAddrView → Option ℕ
place_from all i addr = option_map (λ k. k + i) (place_in (map resource_ref_of (drop i all)) addr)

-- ---- names and orphans, from the first to the last

-- one name more
pub names-next : (items : List ResourceRef) (names : List NameView) (i : ℕ) (n : Declaration) → map resource_ref_of items ≡ map a_name (take i names) → slice_get names i ≡ Some (declaration_of n)
    → map resource_ref_of (items ++ Name n ∷ []) ≡ map a_name (take (i + 1) names)
names-next items names i n so_far e =
    let within : i < length names = slice_get_within names i (declaration_of n) e in
    let next : take (i + 1) names ≡ take i names ++ declaration_of n ∷ [] =
    take_more names i (declaration_of n) within ∙ ap (λ x. take i names ++ x ∷ []) (get_or_from_slice_get names i (declaration_of n) (declaration_of n) e) in
    map-append resource_ref_of items (Name n ∷ []) ∙ ap (λ xs. xs ++ a_name (declaration_of n) ∷ []) so_far
    ∙ sym (ap (map a_name) next ∙ map-append a_name (take i names) (declaration_of n ∷ []))

-- ---- a block is found exactly where there is one

pub has_place : (names : List NameView) (addr : ResourceAddrView) → is_some (place_in (map a_name names) addr) ≡ has_block names addr
has_place [] addr = refl
has_place (n ∷ names) addr = by_test (is_at addr (a_name n)) (place_in (map a_name names) addr) (has_place names addr)
  where
    by_test : (b : Bool) (o : Option ℕ) → is_some o ≡ has_block names addr → is_some (cond b (Some 0) (option_map suc o)) ≡ (b || has_block names addr)
    by_test true o h = refl
    by_test false None h = h
    by_test false (Some k) h = h

pub filter-same : {A : Type 0} (p q : A → Bool) (xs : List A) → ((x : A) → p x ≡ q x) → filter p xs ≡ filter q xs
filter-same p q [] h = refl
filter-same p q (x ∷ xs) h = rw (h x, filter-same p q xs h) refl

-- ---- marks

-- one mark more
pub marks-next : (all : List ResourceRefView) (i : ℕ) (marks : List Bool) (mark : Bool) → marks ≡ take i (map is_marked all) → option_map is_marked (slice_get all i) ≡ Some mark
    → marks ++ mark ∷ [] ≡ take (i + 1) (map is_marked all)
marks-next all i marks mark so_far e =
    let at : slice_get (map is_marked all) i ≡ Some mark = slice_get-map is_marked all i ∙ e in
    let within : i < length (map is_marked all) = slice_get_within (map is_marked all) i mark at in
    ap (λ xs. xs ++ mark ∷ []) so_far
    ∙ sym (take_more (map is_marked all) i mark within ∙ ap (λ m. take i (map is_marked all) ++ m ∷ []) (get_or_from_slice_get (map is_marked all) i mark mark at))

pub any-record : (records : List Record) → list_any (λ x. x.create_before_destroy) records ≡ list_any (λ x. x.create_before_destroy) (map record_of records)
any-record [] = refl
any-record (r ∷ records) = ap (λ b. r.create_before_destroy || b) (any-record records)
