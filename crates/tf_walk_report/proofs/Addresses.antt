-- What records are given is such as a text can hold.
use Rattle.std.proofs.Common.{◌≡◌, ◌∙◌, ◌==◌, ◌+◌, ℕ, zero, suc, Bool, true, false, not, cond, List, [], ◌∷◌, ◌++◌, length, map, take, drop, fold, filter, Ordering, Less, Equal, Greater, refl, ap, subst, arith}
use Rattle.std.proofs.lemmas.Bool.{eqb-true}
use Rattle.std.specs.Cmp.Lexicographic.{slice_cmp, nat_list_cmp_total}
use Rattle.std.specs.List.{AllByRecursion, list_all, list_any, before_first, after_first, position_or_len, range_with_len}
use Rattle.std.specs.Ordering.{nat_cmp, match_ordering, ordering_reverse}
use Rattle.std.specs.Prelude.{Option, Some, None, ◌||◌}
use Rattle.tf_config_address.specs.ResourceAddr.{ResourceAddrView, addr_text}
use Rattle.tf_config_address.specs.Name.{is_name, starts_name, continues_name}
use Rattle.tf_config_address.specs.ObjectId.{InstanceKeyView, single, number, name}
use Rattle.tf_config_data.specs.Config.{BlockView}
use Rattle.tf_config_data.specs.Names.{NameView, Meant, a_local, a_block, meant_at, block_name, addr_pair, local_names}
use Rattle.tf_config_names.specs.Texts.{put_text}
use Rattle.tf_walk_buffers.specs.Dependencies.{address_of, dependencies, with_address}
use Rattle.tf_plan_data.specs.Fits.{IsNumbered}
use Rattle.tf_plan_data.specs.Plan.{PlanView, plan_names}
use Rattle.tf_state.specs.Valid.{AreAddresses, IsKey}
use Rattle.tf_state.specs.Words.{is_address}
use Rattle.tf_expr_syntax.specs.ExprTree.{Entries, no_entries, entry}
use Rattle.tf_expr_syntax.specs.TemplateNames.{Pair}
use Rattle.tf_value_data.proofs.Conjunction.{and-first, and-second, and-both}
use Rattle.tf_walk_report.specs.Savable.{HasNames, IsNamed}

-- ---- addresses

abbrev dot : ℕ → Bool
dot c = c == 46

no_dot_at : (c : ℕ) (b : Bool) → dot c ≡ b → continues_name c ≡ true → dot c ≡ false
no_dot_at c false e h = e
no_dot_at c true e h =
    let is : c ≡ 46 = eqb-true c 46 e in
    let no : continues_name 46 ≡ true = subst (λ (n : ℕ). continues_name n ≡ true) is h in
    absurd (cc)

no_dot : (c : ℕ) → continues_name c ≡ true → dot c ≡ false
no_dot c h = no_dot_at c (dot c) refl h

starts_continues : (a b c : Bool) → a ≡ true → (a || b || c) ≡ true
starts_continues true b c h = refl
starts_continues false b c h = absurd (cc)

-- a text that goes on with what names go on with
goes_on : (cs : List ℕ) → is_name cs ≡ true → list_all continues_name cs ≡ true
goes_on [] h = absurd (cc)
goes_on (c ∷ cs) h = and-both _ _ (starts_continues (starts_name c) _ _ (and-first _ _ h)) (and-second _ _ h)

-- there is a dot behind such a text, and it is the first one
module _ (rest : List ℕ) where
  dot_there : (cs : List ℕ) → list_any dot (cs ++ 46 ∷ rest) ≡ true
  dot_there [] = refl
  dot_there (c ∷ cs) = or-second (dot c) _ (dot_there cs)
    where
      or-second : (a b : Bool) → b ≡ true → (a || b) ≡ true
      or-second true b h = refl
      or-second false b h = h

  dot_at : (cs : List ℕ) → list_all continues_name cs ≡ true → position_or_len dot (cs ++ 46 ∷ rest) ≡ length cs
  dot_at [] h = refl
  dot_at (c ∷ cs) h = behind (dot c) (no_dot c (and-first _ _ h)) (dot_at cs (and-second _ _ h))
    where
      behind : (b : Bool) → b ≡ false → position_or_len dot (cs ++ 46 ∷ rest) ≡ length cs → cond (not b) (1 + position_or_len dot (cs ++ 46 ∷ rest)) 0 ≡ suc (length cs)
      behind false e g = omega (arith, g)
      behind true e g = absurd (cc)

  taken : (cs : List ℕ) → take (length cs) (cs ++ 46 ∷ rest) ≡ cs
  taken [] = refl
  taken (c ∷ cs) = ap (λ xs. c ∷ xs) (taken cs)

  dropped : (cs : List ℕ) → drop (suc (length cs)) (cs ++ 46 ∷ rest) ≡ rest
  dropped [] = refl
  dropped (c ∷ cs) = dropped cs

-- the address of two names is one
pub named_address : (addr : ResourceAddrView) → is_name addr.type_name ≡ true → is_name addr.name ≡ true → is_address (addr_text addr) ≡ true
named_address addr t n =
    let goes = goes_on addr.type_name t in
    let at = dot_at addr.name addr.type_name goes in
    let first : before_first dot (addr_text addr) ≡ addr.type_name = ap (λ (k : ℕ). take k (addr_text addr)) at ∙ taken addr.name addr.type_name in
    let next : position_or_len dot (addr_text addr) + 1 ≡ suc (length addr.type_name) = omega (arith, at) in
    let later : after_first dot (addr_text addr) ≡ addr.name = ap (λ (k : ℕ). drop k (addr_text addr)) next ∙ dropped addr.name addr.type_name in
    and-both _ _ (dot_there addr.name addr.type_name) (and-both _ _ (ap is_name first ∙ t) (ap is_name later ∙ n))

-- ---- addresses in byte order

all_texts_at : (P : List ℕ → Type 0) (o : Ordering) (s t : List ℕ) (ts later : List (List ℕ)) → P s → AllByRecursion P (t ∷ ts) → AllByRecursion P later → AllByRecursion P (match_ordering o (s ∷ t ∷ ts) (t ∷ ts) (t ∷ later))
all_texts_at P Less s t ts later p h more = (p, h)
all_texts_at P Equal s t ts later p h more = h
all_texts_at P Greater s t ts later p h more = (h.0, more)

put_text-all : (P : List ℕ → Type 0) (s : List ℕ) (ts : List (List ℕ)) → P s → AllByRecursion P ts → AllByRecursion P (put_text ts s)
put_text-all P s [] p h = (p, tt)
put_text-all P s (t ∷ ts) p h = all_texts_at P (slice_cmp nat_cmp s t) s t ts (put_text ts s) p h (put_text-all P s ts p h.1)

texts_above : (s t : List ℕ) (ts : List (List ℕ)) → slice_cmp nat_cmp s t ≡ Less → AllByRecursion (λ u. slice_cmp nat_cmp u t ≡ Greater) ts → AllByRecursion (λ u. slice_cmp nat_cmp u s ≡ Greater) ts
texts_above s t [] below h = tt
texts_above s t (u ∷ ts) below h =
    let up : slice_cmp nat_cmp t u ≡ Less = nat_list_cmp_total.antisymm t u ∙ ap ordering_reverse h.0 in
    (nat_list_cmp_total.antisymm u s ∙ ap ordering_reverse (nat_list_cmp_total.trans s t u below up), texts_above s t ts below h.1)

addresses_at : (o : Ordering) (s t : List ℕ) (ts : List (List ℕ)) → slice_cmp nat_cmp s t ≡ o → is_address s ≡ true → AreAddresses (t ∷ ts) → AreAddresses (put_text ts s) → AreAddresses (match_ordering o (s ∷ t ∷ ts) (t ∷ ts) (t ∷ put_text ts s))
addresses_at Less s t ts is p h more = (p, (nat_list_cmp_total.antisymm t s ∙ ap ordering_reverse is, texts_above s t ts is h.1), h)
addresses_at Equal s t ts is p h more = h
addresses_at Greater s t ts is p h more = (h.0, put_text-all (λ u. slice_cmp nat_cmp u t ≡ Greater) s ts is h.1, more)

addresses-put : (s : List ℕ) (ts : List (List ℕ)) → is_address s ≡ true → AreAddresses ts → AreAddresses (put_text ts s)
addresses-put s [] p h = (p, tt, tt)
addresses-put s (t ∷ ts) p h = addresses_at (slice_cmp nat_cmp s t) s t ts refl p h (addresses-put s ts p h.2)

-- ---- names of blocks

-- what is named so is a local, or a block at an address of names
abbrev pub MeantFits : Pair → Meant → Type 0
MeantFits pair (a_local e) = Unit {0}
MeantFits pair (a_block b) = IsNamed b × (pair ≡ addr_pair b.addr)

abbrev pub NameFits : NameView → Type 0
NameFits n = MeantFits n.name n.meant

blocks_fit : (bs : List BlockView) → AllByRecursion IsNamed bs → AllByRecursion NameFits (map block_name bs)
blocks_fit [] h = tt
blocks_fit (b ∷ bs) h = ((h.0, refl), blocks_fit bs h.1)

locals_fit : (es : Entries) (bs : List BlockView) → AllByRecursion IsNamed bs → AllByRecursion NameFits (local_names es ++ map block_name bs)
locals_fit no_entries bs h = blocks_fit bs h
locals_fit (entry key e es) bs h = (tt, locals_fit es bs h)

pub names_fit : (plan : PlanView) → HasNames plan → AllByRecursion NameFits (plan_names plan)
names_fit plan h = locals_fit plan.config.locals plan.config.blocks h

block_fits : (m : Meant) (pair : Pair) (b : BlockView) → MeantFits pair m → Some m ≡ Some (a_block b) → IsNamed b
block_fits (a_local e) pair b h is = absurd (cc)
block_fits (a_block c) pair b h is = let same : c ≡ b = (cc) in subst IsNamed same h.0

pub block_named : (names : List NameView) (n : ℕ) (b : BlockView) → AllByRecursion NameFits names → meant_at names n ≡ Some (a_block b) → IsNamed b
block_named [] n b h is = absurd (cc)
block_named (x ∷ xs) zero b h is = block_fits x.meant x.name b h.0 is
block_named (x ∷ xs) (suc n) b h is = block_named xs n b h.1 is

-- ---- dependencies

addresses-more : (m : Option Meant) (found : List (List ℕ)) → ((b : BlockView) → m ≡ Some (a_block b) → IsNamed b) → AreAddresses found → AreAddresses (with_address (address_of m) found)
addresses-more None found named h = h
addresses-more (Some (a_local e)) found named h = h
addresses-more (Some (a_block b)) found named h = let n = named b refl in addresses-put (addr_text b.addr) found (named_address b.addr n.0 n.1) h

addresses-all : (names : List NameView) (places : List ℕ) (found : List (List ℕ)) → AllByRecursion NameFits names → AreAddresses found → AreAddresses (fold (λ found m. with_address (address_of (meant_at names m)) found) found places)
addresses-all names [] found fit h = h
addresses-all names (m ∷ places) found fit h = addresses-all names places _ fit (addresses-more (meant_at names m) found (λ b is. block_named names m b fit is) h)

pub dependencies-addresses : (needs : ℕ → ℕ → Bool) (names : List NameView) (n : ℕ) → AllByRecursion NameFits names → AreAddresses (dependencies needs names n)
dependencies-addresses needs names n fit = addresses-all names (filter (needs n) (range_with_len 0 (length names))) [] fit tt

-- ---- records

pub numbered-key : (key : InstanceKeyView) → IsNumbered key → IsKey key
numbered-key single h = tt
numbered-key (number n) h = omega (arith, h)
numbered-key (name s) h = tt
