-- The key of an object that becomes deposed.
use Rattle.std.specs.Fmt.{digit_glyph}
use Rattle.std.specs.List.{list_all, list_any}
use Rattle.std.specs.Prelude.{◌≡◌, ℕ, zero, suc, ◌+◌, ◌/◌, ◌%◌, ◌^◌, ◌<◌, ◌==◌, ◌&&◌, ◌||◌, nat_le, Bool, true, false, List, [], ◌∷◌, ◌++◌, Some, length}
use Rattle.tf_config_address.specs.ObjectId.{InstanceKeyView}
use Rattle.tf_config_address.specs.Same.{same_object_id}
use Rattle.tf_state_next.specs.After.{object_at}
use Rattle.tf_state_data.specs.Record.{RecordView}

-- the given number of last hex digits of a number, in lower case: those of a sixteenth of it, and then its last digit
abbrev pub hex_digits : ℕ → ℕ → List ℕ
hex_digits zero n = []
hex_digits (suc k) n = hex_digits k (n / 16) ++ digit_glyph false (n % 16) ∷ []

-- a serial as a key: eight lower-case hex digits
unfoldable pub key_text : ℕ → List ℕ
key_text serial = hex_digits 8 serial

-- a lower-case hex digit
abbrev pub is_hex : ℕ → Bool
is_hex c = (nat_le 48 c && nat_le c 57) || (nat_le 97 c && nat_le c 102)

-- eight lower-case hex digits
abbrev pub is_key : List ℕ → Bool
is_key text = (length text == 8) && list_all is_hex text

-- the serial that is the given number of steps after another one, with 0 after the last one
abbrev pub serial_after : ℕ → ℕ → ℕ
serial_after serial steps = (serial + steps) % 2 ^ 32

-- an object of the instance is deposed under a key
abbrev pub is_used : InstanceKeyView → List RecordView → List ℕ → Bool
is_used key records text = list_any (λ r. same_object_id r.id (object_at key (Some text))) records

-- The first free serial from one on, with 0 after the last one. It is some steps after that one, and each serial before
-- it is used.
pub record IsFirstFree (used : ℕ → Bool) (serial first : ℕ) : Type 0 where
  pub steps : ℕ
  pub reached : first ≡ serial_after serial steps
  pub free : used first ≡ false
  pub passed : (n : ℕ) → n < steps → used (serial_after serial n) ≡ true

-- The key of an object of an instance that becomes deposed: that of the first serial, from the new one on, whose key no
-- deposed object of the instance has. The records are those before the apply, so what it destroys counts as well.
pub record IsDeposedKey (serial : ℕ) (key : InstanceKeyView) (records : List RecordView) (text : List ℕ) : Type 0 where
  pub first : ℕ
  pub spelled : text ≡ key_text first
  pub is_first : IsFirstFree (λ n. is_used key records (key_text n)) serial first
