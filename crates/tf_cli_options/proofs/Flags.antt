-- What a flag that was read says of the text.
use Rattle.std.proofs.Common.{◌≡◌, Bool, true, false, Option, Some, None, refl, ap, codes}
use Rattle.clap.specs.Words.{Text}
use Rattle.tf_cli_options.specs.Reads.{IsFlag}

pub flag_read : (o : Option Text) (set : Bool) → (o ≡ None → set ≡ false) → (o ≡ Some (codes "true") → set ≡ true) → (o ≡ Some (codes "false") → set ≡ false)
    → IsFlag o set
flag_read None set none value other = none refl
flag_read (Some text) set none value other = (λ e. value (ap Some e), λ e. other (ap Some e))
