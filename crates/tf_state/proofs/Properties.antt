-- What is read of a property is what it says.
use Rattle.std.proofs.Common.{◌≡◌, ℕ, ◌^◌, ◌<◌, Bool, true, false, cond, List, Option, Some, None, option_map, nat_lt, codes, refl, sym, ap, ◌∙◌, subst, lt-ltb, ltb-true}
use Rattle.std.specs.Prelude.{option_and_then}
use Rattle.std.specs.Str.{bytes_eq}
use Rattle.std.proofs.lemmas.Bool.{eqb-true}
use Rattle.std.proofs.lemmas.Slice.Eq.{bytes_eq-Decides}
use Rattle.serde_json.specs.Data.{Data, null, boolean, number as json_number, unsigned, string, array, no_items, item}
use Rattle.tf_config_address.specs.Name.{is_name}
use Rattle.tf_config_address.specs.ObjectId.{InstanceKeyView, number}
use Rattle.tf_state.specs.Reading.{text_in, below, name_in, text_or, below_or_zero, key_in, deposed_in, tainted_in, flag_in, is_unsensitive, is_unchecked, is_managed, is_version}
use Rattle.tf_state.specs.Table.{SaysText, SaysNumber, SaysName, SaysTextOr, SaysNumberOrZero, SaysKey, SaysDeposed, SaysStatus, SaysFlag, SaysNothingSensitive, SaysNoChecks}
use Rattle.tf_state.specs.Words.{is_deposed_key}

-- ---- chains

pub inverted : {A B : Type 0} (f : A → Option B) (o : Option A) (b : B) → option_and_then f o ≡ Some b → (a : A) × (o ≡ Some a) × (f a ≡ Some b)
inverted f None b e = absurd (cc)
inverted f (Some a) b e = (a, refl, e)

pub mapped : {A B : Type 0} (f : A → B) (o : Option A) (b : B) → option_map f o ≡ Some b → (a : A) × (o ≡ Some a) × (f a ≡ b)
mapped f None b e = absurd (cc)
mapped f (Some a) b e = (a, refl, cc)

pub guarded : {A : Type 0} (c : Bool) (o : Option A) (a : A) → cond c o None ≡ Some a → (c ≡ true) × (o ≡ Some a)
guarded true o a e = (refl, e)
guarded false o a e = absurd (cc)

same : {A : Type 0} (a b : A) → Some a ≡ Some b → a ≡ b
same a b e = cc

-- ---- each property

pub text_says : (o : Option Data) (s : List ℕ) → text_in o ≡ Some s → SaysText o s
text_says (Some (string t)) s e = cc
text_says _ s e = absurd (cc)

pub text_said : (o : Option Data) (s : List ℕ) → SaysText o s → text_in o ≡ Some s
text_said o s h = ap text_in h

pub number_says : (bound : ℕ) (o : Option Data) (n : ℕ) → below bound o ≡ Some n → SaysNumber bound o n
number_says bound (Some (json_number (unsigned m))) n e =
    let g = guarded (nat_lt m bound) (Some m) n e in
    let is = same m n g.1 in (ap (λ k. Some (json_number (unsigned k))) is, subst (λ k. k < bound) is (ltb-true m bound g.0))
number_says bound _ n e = absurd (cc)

pub number_said : (bound : ℕ) (o : Option Data) (n : ℕ) → SaysNumber bound o n → below bound o ≡ Some n
number_said bound o n h = ap (below bound) h.0 ∙ rw (lt-ltb n bound h.1) refl

pub name_says : (o : Option Data) (s : List ℕ) → name_in o ≡ Some s → SaysName o s
name_says (Some (string t)) s e =
    let g = guarded (is_name t) (Some t) s e in
    let is = same t s g.1 in (ap (λ k. Some (string k)) is, subst (λ k. is_name k ≡ true) is g.0)
name_says _ s e = absurd (cc)

pub name_said : (o : Option Data) (s : List ℕ) → SaysName o s → name_in o ≡ Some s
name_said o s h = ap name_in h.0 ∙ rw h.1 refl

pub text_or_says : (default : List ℕ) (o : Option Data) (s : List ℕ) → text_or default o ≡ Some s → SaysTextOr default o s
text_or_says default None s e = cc
text_or_says default (Some (string t)) s e = cc
text_or_says default (Some _) s e = absurd (cc)

pub text_or_said : (default : List ℕ) (o : Option Data) (s : List ℕ) → SaysTextOr default o s → text_or default o ≡ Some s
text_or_said default None s h = ap Some (sym h)
text_or_said default (Some (string t)) s h = ap Some (sym h)
text_or_said default (Some _) s h = absurd (assumption)

pub version_says : (bound : ℕ) (o : Option Data) (n : ℕ) → below_or_zero bound o ≡ Some n → SaysNumberOrZero bound o n
version_says bound None n e = cc
version_says bound (Some (json_number (unsigned m))) n e = let g = guarded (nat_lt m bound) (Some m) n e in (sym (same m n g.1), ltb-true m bound g.0)
version_says bound (Some _) n e = absurd (cc)

pub version_said : (bound : ℕ) (o : Option Data) (n : ℕ) → SaysNumberOrZero bound o n → below_or_zero bound o ≡ Some n
version_said bound None n h = ap Some (sym h)
version_said bound (Some (json_number (unsigned m))) n h = rw (lt-ltb m bound h.1) (ap Some (sym h.0))
version_said bound (Some _) n h = absurd (assumption)

pub key_says : (o : Option Data) (k : InstanceKeyView) → key_in o ≡ Some k → SaysKey o k
key_says None k e = cc
key_says (Some (json_number (unsigned n))) k e = let g = guarded (nat_lt n (2 ^ 63)) (Some (number n)) k e in (sym (same (number n) k g.1), ltb-true n (2 ^ 63) g.0)
key_says (Some (string s)) k e = cc
key_says (Some _) k e = absurd (cc)

pub key_said : (o : Option Data) (k : InstanceKeyView) → SaysKey o k → key_in o ≡ Some k
key_said None k h = ap Some (sym h)
key_said (Some (json_number (unsigned n))) k h = rw (lt-ltb n (2 ^ 63) h.1) (ap Some (sym h.0))
key_said (Some (string s)) k h = ap Some (sym h)
key_said (Some _) k h = absurd (assumption)

pub deposed_says : (o : Option Data) (p : Option (List ℕ)) → deposed_in o ≡ Some p → SaysDeposed o p
deposed_says None p e = cc
deposed_says (Some (string s)) p e = let g = guarded (is_deposed_key s) (Some (Some s)) p e in (sym (same (Some s) p g.1), g.0)
deposed_says (Some _) p e = absurd (cc)

pub deposed_said : (o : Option Data) (p : Option (List ℕ)) → SaysDeposed o p → deposed_in o ≡ Some p
deposed_said None p h = ap Some (sym h)
deposed_said (Some (string s)) p h = rw h.1 (ap Some (sym h.0))
deposed_said (Some _) p h = absurd (assumption)

pub status_says : (o : Option Data) (b : Bool) → tainted_in o ≡ Some b → SaysStatus o b
status_says None b e = cc
status_says (Some (string s)) b e =
    let g = guarded (bytes_eq s (codes "tainted")) (Some true) b e in (sym (same true b g.1), (bytes_eq-Decides s (codes "tainted")).0 g.0)
status_says (Some _) b e = absurd (cc)

pub status_said : (o : Option Data) (b : Bool) → SaysStatus o b → tainted_in o ≡ Some b
status_said None b h = ap Some (sym h)
status_said (Some (string s)) b h = rw ((bytes_eq-Decides s (codes "tainted")).1 h.1) (ap Some (sym h.0))
status_said (Some _) b h = absurd (assumption)

pub flag_says : (o : Option Data) (b : Bool) → flag_in o ≡ Some b → SaysFlag o b
flag_says None b e = cc
flag_says (Some (boolean c)) b e = cc
flag_says (Some _) b e = absurd (cc)

pub flag_said : (o : Option Data) (b : Bool) → SaysFlag o b → flag_in o ≡ Some b
flag_said None b h = ap Some (sym h)
flag_said (Some (boolean c)) b h = ap Some (sym h)
flag_said (Some _) b h = absurd (assumption)

pub sensitive_says : (o : Option Data) → is_unsensitive o ≡ true → SaysNothingSensitive o
sensitive_says None e = tt
sensitive_says (Some (array no_items)) e = tt
sensitive_says (Some (array (item d ds))) e = absurd (cc)
sensitive_says (Some _) e = absurd (cc)

pub sensitive_said : (o : Option Data) → SaysNothingSensitive o → is_unsensitive o ≡ true
sensitive_said None h = refl
sensitive_said (Some (array no_items)) h = refl
sensitive_said (Some (array (item d ds))) h = absurd (assumption)
sensitive_said (Some _) h = absurd (assumption)

pub checks_say : (o : Option Data) → is_unchecked o ≡ true → SaysNoChecks o
checks_say None e = tt
checks_say (Some null) e = tt
checks_say (Some _) e = absurd (cc)

pub checks_said : (o : Option Data) → SaysNoChecks o → is_unchecked o ≡ true
checks_said None h = refl
checks_said (Some null) h = refl
checks_said (Some _) h = absurd (assumption)

pub managed_says : (o : Option Data) → is_managed o ≡ true → SaysText o (codes "managed")
managed_says (Some (string s)) e = ap (λ k. Some (string k)) ((bytes_eq-Decides s (codes "managed")).0 e)
managed_says _ e = absurd (cc)

pub managed_said : (o : Option Data) → SaysText o (codes "managed") → is_managed o ≡ true
managed_said o h = ap is_managed h

pub format_says : (o : Option Data) → is_version o ≡ true → o ≡ Some (json_number (unsigned 4))
format_says (Some (json_number (unsigned n))) e = ap (λ k. Some (json_number (unsigned k))) (eqb-true n 4 e)
format_says _ e = absurd (cc)

pub format_said : (o : Option Data) → o ≡ Some (json_number (unsigned 4)) → is_version o ≡ true
format_said o h = ap is_version h
