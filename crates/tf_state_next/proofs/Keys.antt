-- The key of an object that becomes deposed: there is one, and it is free.
use Rattle.std.proofs.Common.{◌≡◌, ℕ, zero, suc, ◌<◌, ◌⊎◌, inl, inr, Bool, true, false, ◌||◌, List, [], ◌∷◌, length, Some, None, is_eq, refl, sym, ap, ◌∙◌, subst, arith}
use Rattle.std.specs.List.{list_any}
use Rattle.tf_config_address.specs.ObjectId.{ObjectIdView, object_id_cmp}
use Rattle.tf_config_address.specs.Same.{same_object_id}
use Rattle.tf_state_next.specs.After.{object_at}
use Rattle.tf_state_next.specs.DeposedKey.{IsFirstFree, is_key, is_used, key_text, serial_after}
use Rattle.std.proofs.lemmas.Bool.{cases_order}
use Rattle.tf_state_next.specs.ObjectLaws.{KeyExists, KeyIsFree, KeyIsHex}
use Rattle.tf_state_next.proofs.Crowded.{keys_crowded}
use Rattle.tf_state_next.proofs.Hex.{text_key}
use Rattle.tf_state_next.proofs.Places.{objects_tied}
use Rattle.tf_state_data.specs.Record.{RecordView}
use Rattle.tf_state_data.specs.Resource.{record_at}

-- among so many serials one is free, or all are used
abbrev Sought : (ℕ → Bool) → ℕ → ℕ → Type 0
Sought used serial n = ((f : ℕ) × IsFirstFree used serial f) ⊎ ((i : ℕ) → i < n → used (serial_after serial i) ≡ true)

next : (used : ℕ → Bool) (serial n : ℕ) (b : Bool) → used (serial_after serial n) ≡ b → ((i : ℕ) → i < n → used (serial_after serial i) ≡ true) → Sought used serial (suc n)
next used serial n true e all = inr (λ i h. at i h (cases_order i n))
  where
    at : (i : ℕ) → i < suc n → (i ≡ n) ⊎ ((i < n) ⊎ (n < i)) → used (serial_after serial i) ≡ true
    at i h (inl same) = subst (λ k. used (serial_after serial k) ≡ true) (sym same) e
    at i h (inr (inl below)) = all i below
    at i h (inr (inr above)) = absurd (omega arith)
next used serial n false e all = inl (serial_after serial n, record { steps = n; reached = refl; free = e; passed = all })

seek : (used : ℕ → Bool) (serial n : ℕ) → Sought used serial n
seek used serial zero = inr (λ i h. absurd (omega arith))
seek used serial (suc n) = elim (seek used serial n) [ inl found ↦ inl found | inr all ↦ next used serial n (used (serial_after serial n)) refl all ]

pub key_exists : KeyExists
key_exists serial key records few =
    elim (seek (λ n. is_used key records (key_text n)) serial (suc (length records))) [
      | inl found ↦ (key_text found.0, record { first = found.0; spelled = refl; is_first = found.1 })
      | inr all ↦ let many = keys_crowded serial (suc (length records)) key records (omega arith) all in absurd (omega arith)
    ]

unused_at : (id : ObjectIdView) (b : Bool) (x : RecordView) (xs : List RecordView) → same_object_id x.id id ≡ b → (list_any (λ r. same_object_id r.id id) xs ≡ false → record_at id xs ≡ None)
    → (b || list_any (λ r. same_object_id r.id id) xs) ≡ false → record_at id (x ∷ xs) ≡ None
unused_at id true x xs e rest none = absurd (cc)
unused_at id false x xs e rest none = let not : is_eq (object_id_cmp x.id id) ≡ false = objects_tied x.id id ∙ e in rw not (rest none)

unused : (id : ObjectIdView) (rs : List RecordView) → list_any (λ r. same_object_id r.id id) rs ≡ false → record_at id rs ≡ None
unused id [] none = refl
unused id (x ∷ xs) none = unused_at id (same_object_id x.id id) x xs refl (unused id xs) none

pub key_free : KeyIsFree
key_free serial key records text is = unused (object_at key (Some text)) records (ap (is_used key records) is.spelled ∙ is.is_first.free)

pub key_hex : KeyIsHex
key_hex serial key records text is = ap is_key is.spelled ∙ text_key is.first
