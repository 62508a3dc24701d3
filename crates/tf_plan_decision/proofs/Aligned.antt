-- Entries whose keys are the names of attributes in byte order.
use Rattle.std.proofs.Common.{◌≡◌, ℕ, Bool, true, false, ◌&&◌, ◌||◌, not, cond, List, [], ◌∷◌, map as each, Option, Some, Ordering, Less, Equal, Greater, nat_cmp, is_eq, refl, sym, ap, ◌∙◌, subst}
use Rattle.std.specs.Cmp.Lexicographic.{slice_cmp}
use Rattle.std.specs.List.{list_all}
use Rattle.std.specs.Ordering.{is_lt}
use Rattle.std.specs.Str.{bytes_eq}
use Rattle.std.proofs.lemmas.Map.Text.{is_eq-slice_cmp}
use Rattle.std.proofs.lemmas.Slice.Eq.{bytes_eq-Decides}
use Rattle.tf_provider_protocol.specs.Schema.{AttributeView, ascends, is_below}
use Rattle.tf_provider_protocol.specs.Verdict.{same_names}
use Rattle.tf_value_data.specs.Equality.{same_Decides}
use Rattle.tf_value_data.specs.Tree.{Tree, Entries, no_entries, entry, map, get, keys_of, part_at, same}
use Rattle.tf_value_data.proofs.Conjunction.{and-first, and-second, and-both}
use Rattle.tf_plan_decision.specs.Differing.{differs, differing_entries}

lt_not_eq : (o : Ordering) → is_lt o ≡ true → is_eq o ≡ true → ⊥
lt_not_eq Less h e = cc
lt_not_eq Equal h e = cc
lt_not_eq Greater h e = cc

pub same_name : (name : List ℕ) → bytes_eq name name ≡ true
same_name name = (bytes_eq-Decides name name).1 refl

-- a name that comes after another isn't it
pub apart : (k name : List ℕ) → is_below k name ≡ true → bytes_eq name k ≡ false
apart k name h = by_test (bytes_eq name k) refl
  where
    by_test : (b : Bool) → bytes_eq name k ≡ b → bytes_eq name k ≡ false
    by_test false e = e
    by_test true e =
        let is : name ≡ k = (bytes_eq-Decides name k).0 e in
        let below : is_below k k ≡ true = subst (λ (n : List ℕ). is_below k n ≡ true) is h in
        absurd (lt_not_eq (slice_cmp nat_cmp k k) below (is_eq-slice_cmp k k ∙ same_name k))

-- a test of what stands under each name
abbrev pub each_entry : (List ℕ → Tree → Bool) → Entries → Bool
each_entry q no_entries = true
each_entry q (entry k t es) = q k t && each_entry q es

later : (q : List ℕ → Option Tree → Bool) (k : List ℕ) (t : Tree) (es : Entries) (others : List AttributeView) → list_all (λ b. is_below k b.name) others ≡ true
    → list_all (λ b. q b.name (get b.name (entry k t es))) others ≡ list_all (λ b. q b.name (get b.name es)) others
later q k t es [] h = refl
later q k t es (b ∷ others) h =
    ap (λ (c : Bool). q b.name (cond c (Some t) (get b.name es)) && list_all (λ a. q a.name (get a.name (entry k t es))) others) (apart k b.name (and-first (is_below k b.name) _ h))
    ∙ ap (λ (c : Bool). q b.name (get b.name es) && c) (later q k t es others (and-second (is_below k b.name) _ h))

-- what passes a test under the name of each attribute passes it entry by entry
pub passes : (q : List ℕ → Option Tree → Bool) (es : Entries) (attributes : List AttributeView) → same_names (keys_of es) (each (λ a. a.name) attributes) ≡ true → ascends attributes ≡ true
    → list_all (λ a. q a.name (get a.name es)) attributes ≡ true → each_entry (λ k t. q k (Some t)) es ≡ true
passes q no_entries attributes same up all = refl
passes q (entry k t es) [] same up all = absurd (cc)
passes q (entry k t es) (a ∷ others) same up all =
    let is : k ≡ a.name = (bytes_eq-Decides k a.name).0 (and-first (bytes_eq k a.name) _ same) in
    let here : q a.name (cond (bytes_eq a.name k) (Some t) (get a.name es)) ≡ true = and-first (q a.name (get a.name (entry k t es))) _ all in
    let at : q k (cond (bytes_eq k k) (Some t) (get k es)) ≡ true = subst (λ (n : List ℕ). q n (cond (bytes_eq n k) (Some t) (get n es)) ≡ true) (sym is) here in
    let first : q k (Some t) ≡ true = subst (λ (b : Bool). q k (cond b (Some t) (get k es)) ≡ true) (same_name k) at in
    let below : list_all (λ b. is_below k b.name) others ≡ true = subst (λ (n : List ℕ). list_all (λ b. is_below n b.name) others ≡ true) (sym is) (and-first (list_all (λ b. is_below a.name b.name) others) _ up) in
    let rest : list_all (λ b. q b.name (get b.name es)) others ≡ true = sym (later q k t es others below) ∙ and-second (q a.name (get a.name (entry k t es))) _ all in
    and-both (q k (Some t)) (each_entry (λ l u. q l (Some u)) es) first (passes q es others (and-second (bytes_eq k a.name) _ same) (and-second (list_all (λ b. is_below a.name b.name) others) _ up) rest)

not_true : (b : Bool) → not b ≡ true → b ≡ false
not_true false h = refl
not_true true h = absurd (cc)

none_step : (b : Bool) (name : List ℕ) (names : List (List ℕ)) → cond b (name ∷ names) names ≡ [] → (b ≡ false) × (names ≡ [])
none_step false name names h = (refl, h)
none_step true name names h = absurd (cc)

-- entries in which nothing differs
pub none_differs : (prior : Tree) (es : Entries) → each_entry (λ k t. not (differs (part_at k prior) t)) es ≡ true → differing_entries prior es ≡ []
none_differs prior no_entries h = refl
none_differs prior (entry k t es) h =
    ap (λ (b : Bool). cond b (k ∷ differing_entries prior es) (differing_entries prior es)) (not_true (differs (part_at k prior) t) (and-first (not (differs (part_at k prior) t)) _ h))
    ∙ none_differs prior es (and-second (not (differs (part_at k prior) t)) _ h)

-- what differs doesn't depend on an entry whose key comes before all
differs_later : (k : List ℕ) (u : Tree) (prior es : Entries) (others : List AttributeView) → same_names (keys_of es) (each (λ a. a.name) others) ≡ true → list_all (λ b. is_below k b.name) others ≡ true
    → differing_entries (map (entry k u prior)) es ≡ differing_entries (map prior) es
differs_later k u prior no_entries others same h = refl
differs_later k u prior (entry l t es) [] same h = absurd (cc)
differs_later k u prior (entry l t es) (b ∷ others) same h =
    let is : b.name ≡ l = sym ((bytes_eq-Decides l b.name).0 (and-first (bytes_eq l b.name) _ same)) in
    let far : bytes_eq l k ≡ false = subst (λ (n : List ℕ). bytes_eq n k ≡ false) is (apart k b.name (and-first (is_below k b.name) _ h)) in
    ap (λ (c : Bool). cond (differs (cond c (Some u) (get l prior)) t) (l ∷ differing_entries (map (entry k u prior)) es) (differing_entries (map (entry k u prior)) es)) far
    ∙ ap (λ names. cond (differs (get l prior) t) (l ∷ names) names) (differs_later k u prior es others (and-second (bytes_eq l b.name) _ same) (and-second (is_below k b.name) _ h))

or_left : (x y : Bool) → (x || y) ≡ false → x ≡ false
or_left true y h = h
or_left false y h = refl

not_false : (b : Bool) → not b ≡ false → b ≡ true
not_false true h = refl
not_false false h = absurd (cc)

-- a value that doesn't differ from another is that one
same_value : (u t : Tree) → differs (Some u) t ≡ false → u ≡ t
same_value u t h = (same_Decides u t).0 (not_false (same u t) (or_left (not (same u t)) _ h))

-- What holds of no entries, and with one name more of two entries where it holds of the others, holds of all under the
-- names of the same attributes.
module _ (P : Entries → Entries → List AttributeView → Type 0) (none : (attributes : List AttributeView) → P no_entries no_entries attributes)
    (more : (k : List ℕ) (t u : Tree) (es fs : Entries) (a : AttributeView) (others : List AttributeView) → k ≡ a.name → same_names (keys_of es) (each (λ b. b.name) others) ≡ true
    → list_all (λ b. is_below k b.name) others ≡ true → P es fs others → P (entry k t es) (entry k u fs) (a ∷ others)) where
  pub aligned : (es fs : Entries) (attributes : List AttributeView) → same_names (keys_of es) (each (λ a. a.name) attributes) ≡ true → same_names (keys_of fs) (each (λ a. a.name) attributes) ≡ true
      → ascends attributes ≡ true → P es fs attributes
  aligned no_entries no_entries attributes h g up = none attributes
  aligned no_entries (entry l u fs) [] h g up = absurd (cc)
  aligned no_entries (entry l u fs) (a ∷ others) h g up = absurd (cc)
  aligned (entry k t es) fs [] h g up = absurd (cc)
  aligned (entry k t es) no_entries (a ∷ others) h g up = absurd (cc)
  aligned (entry k t es) (entry l u fs) (a ∷ others) h g up =
      let is : k ≡ a.name = (bytes_eq-Decides k a.name).0 (and-first (bytes_eq k a.name) _ h) in
      let too : l ≡ a.name = (bytes_eq-Decides l a.name).0 (and-first (bytes_eq l a.name) _ g) in
      let same : same_names (keys_of es) (each (λ b. b.name) others) ≡ true = and-second (bytes_eq k a.name) _ h in
      let below : list_all (λ b. is_below k b.name) others ≡ true = subst (λ (n : List ℕ). list_all (λ b. is_below n b.name) others ≡ true) (sym is) (and-first (list_all (λ b. is_below a.name b.name) others) _ up) in
      let rest : P es fs others = aligned es fs others same (and-second (bytes_eq l a.name) _ g) (and-second (list_all (λ b. is_below a.name b.name) others) _ up) in
      subst (λ (n : List ℕ). P (entry k t es) (entry n u fs) (a ∷ others)) (is ∙ sym too) (more k t u es fs a others is same below rest)

one_more : (k : List ℕ) (t u : Tree) (es prior : Entries) (a : AttributeView) (others : List AttributeView) → k ≡ a.name → same_names (keys_of es) (each (λ b. b.name) others) ≡ true
    → list_all (λ b. is_below k b.name) others ≡ true → (differing_entries (map prior) es ≡ [] → es ≡ prior) → differing_entries (map (entry k u prior)) (entry k t es) ≡ [] → entry k t es ≡ entry k u prior
one_more k t u es prior a others is same below rest h =
    let found = none_step (differs (cond (bytes_eq k k) (Some u) (get k prior)) t) k (differing_entries (map (entry k u prior)) es) h in
    let value : u ≡ t = same_value u t (subst (λ (b : Bool). differs (cond b (Some u) (get k prior)) t ≡ false) (same_name k) found.0) in
    let left : differing_entries (map prior) es ≡ [] = sym (differs_later k u prior es others same below) ∙ found.1 in
    ap (λ (v : Tree). entry k v es) (sym value) ∙ ap (entry k u) (rest left)

-- entries that differ in nothing, under the names of the same attributes, are the same
pub same_entries_where_none_differs : (es prior : Entries) (attributes : List AttributeView) → same_names (keys_of es) (each (λ a. a.name) attributes) ≡ true → same_names (keys_of prior) (each (λ a. a.name) attributes) ≡ true
    → ascends attributes ≡ true → differing_entries (map prior) es ≡ [] → es ≡ prior
same_entries_where_none_differs es prior attributes same also up = aligned (λ es prior attributes. differing_entries (map prior) es ≡ [] → es ≡ prior) (λ attributes h. refl) one_more es prior attributes same also up
