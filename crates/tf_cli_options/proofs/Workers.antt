-- What a number that was read says of the text, and the same for a text.
use Rattle.std.proofs.Common.{◌≡◌, ◌<◌, ◌⊎◌, ℕ, List, Option, Some, None, Result, Ok, Err, refl, sym, ap, ◌∙◌, arith, inl, inr}
use Rattle.std.specs.Prelude.{unwrap_or, option_map}
use Rattle.std.specs.Borrow.{Bor}
use Rattle.std.specs.Str.Parse.{ExplainsUnsignedError, HasUnsignedDigitsIfOk, ParsesUnsigned, digits_value, without_leading_plus}
use Rattle.std.specs.declared.num.ParseIntError.{ParseIntError}
use Rattle.clap.specs.Matches.{ReadsOne}
use Rattle.clap.specs.Words.{Text}
use Rattle.tf_cli_options.specs.Reads.{IsStop, IsWorkers}

-- the text behind a reference that may be there, or behind another
pub now_or : (o : Option (Bor Text)) (default : Bor Text) → (unwrap_or o default).now ≡ unwrap_or (option_map (λ s. s.now) o) default.now
now_or None default = refl
now_or (Some s) default = refl

-- what `parse` says of a number in a text
abbrev pub parses : List ℕ → Result ℕ ParseIntError → Type 0
parses t r = ParsesUnsigned 64 10 t r × ExplainsUnsignedError 10 t r × HasUnsignedDigitsIfOk t r

module _ (E : Type 0) (gives : Text → Result ℕ E → Type 0) (only : (t : Text) (r : Result ℕ E) → gives t r → ParsesUnsigned 64 10 t r) where
  -- a number that was read is the one that the text says
  pub workers_read : (o : Option Text) (r : Option ℕ) (n : ℕ) → r ≡ Some n → (o ≡ None → r ≡ None)
      → ((t : Text) → o ≡ Some t → ReadsOne gives t r) → IsWorkers o n
  workers_read None r n is none read = absurd (some_is_none (sym is ∙ none refl))
    where
      some_is_none : Some n ≡ None → ⊥
      some_is_none e = cc
  workers_read (Some t) (Some v) n is none read = λ inside. some_is is ∙ (only t (Ok v) (read t refl)).1
    where
      some_is : Some v ≡ Some n → n ≡ v
      some_is e = cc
  workers_read (Some t) None n is none read = absurd (none_is is)
    where
      none_is : None ≡ Some n → ⊥
      none_is e = cc

  -- a number that is too small or too large isn't said by a text that is accepted
  pub workers_beyond : (o : Option Text) (r : Option ℕ) (n m : ℕ) → r ≡ Some n → (n < 1) ⊎ (64 < n) → (o ≡ None → r ≡ None)
      → ((t : Text) → o ≡ Some t → ReadsOne gives t r) → m ≡ 10 → IsWorkers o m
  workers_beyond None r n m is beyond none read ten = ten
  workers_beyond (Some t) r n m is beyond none read ten = λ inside.
      let same : n ≡ digits_value 10 (without_leading_plus t) = workers_read (Some t) r n is none read inside in
      elim beyond [ inl low ↦ absurd (omega (arith, inside.2)) | inr high ↦ absurd (omega (arith, inside.3)) ]

  -- where no number was read, none was given that is accepted
  pub workers_none : (o : Option Text) (r : Option ℕ) (m : ℕ) → r ≡ None
      → ((t : Text) → o ≡ Some t → ReadsOne gives t r) → m ≡ 10 → IsWorkers o m
  workers_none None r m is read ten = ten
  workers_none (Some t) (Some v) m is read ten = absurd (some_is is)
    where
      some_is : Some v ≡ None → ⊥
      some_is e = cc
  workers_none (Some t) None m is read ten = λ inside. absurd (only t (Err (read t refl).0) (read t refl).1 (inside.0, inside.1))

  -- ---- the number of calls after which to stop

  -- the number that was read is the one that the text says
  pub stop_read : (o : Option Text) (r : Option ℕ) (n : ℕ) → r ≡ Some n → (o ≡ None → r ≡ None)
      → ((t : Text) → o ≡ Some t → ReadsOne gives t r) → IsStop o (Some n)
  stop_read None r n is none read = sym is ∙ none refl
  stop_read (Some t) (Some v) n is none read = λ inside. sym is ∙ ap Some (only t (Ok v) (read t refl)).1
  stop_read (Some t) None n is none read = absurd (none_is is)
    where
      none_is : None ≡ Some n → ⊥
      none_is e = cc

  -- a number that is too large isn't said by a text that is accepted
  pub stop_beyond : (o : Option Text) (r : Option ℕ) (n : ℕ) → r ≡ Some n → 2000 < n → (o ≡ None → r ≡ None)
      → ((t : Text) → o ≡ Some t → ReadsOne gives t r) → IsStop o None
  stop_beyond None r n is beyond none read = refl
  stop_beyond (Some t) (Some v) n is beyond none read = λ inside.
      let said : v ≡ digits_value 10 (without_leading_plus t) = (only t (Ok v) (read t refl)).1 in
      let same : v ≡ n = (cc) in
      absurd (omega (arith, inside.3))
  stop_beyond (Some t) None n is beyond none read = absurd (none_is is)
    where
      none_is : None ≡ Some n → ⊥
      none_is e = cc

  -- where no number was read, none was given that is accepted
  pub stop_none : (o : Option Text) (r : Option ℕ) → r ≡ None → ((t : Text) → o ≡ Some t → ReadsOne gives t r) → IsStop o None
  stop_none None r is read = refl
  stop_none (Some t) (Some v) is read = absurd (some_is is)
    where
      some_is : Some v ≡ None → ⊥
      some_is e = cc
  stop_none (Some t) None is read = λ inside. absurd (only t (Err (read t refl).0) (read t refl).1 (inside.0, inside.1))
