-- The one text of a JSON tree, and of a value that is sent.
use Rattle.std.specs.Prelude.{◌≡◌, ℕ, List, [], ◌∷◌, ◌++◌, false, Some}
use Rattle.json.specs.Layout.{pretty}
use Rattle.json.specs.Token.{Token}
use Rattle.json.specs.Tree.{json_tokens}
use Rattle.serde.specs.Event.{Log}
use Rattle.serde_json.specs.Data.{Data}
use Rattle.serde_json.specs.Events.{SendsValue}
use Rattle.serde_json.specs.Sent.{AreTokensOf}
use Rattle.serde_json.specs.Written.{outline, has_float}

-- the tree's tokens in the pretty layout, and a newline
abbrev pub text_of : Data → List ℕ
text_of d = pretty (json_tokens (outline d)) ++ 10 ∷ []

-- The text is that of the events: their tokens in the pretty layout, and a newline.
abbrev pub IsTextOfEvents : Log → List ℕ → Type 0
IsTextOfEvents log text = (ts : List Token) × AreTokensOf false log ts × (text ≡ pretty ts ++ 10 ∷ [])

-- If the events are those of a tree without floats, the text is the tree's.
abbrev pub IsTextOfSentTree : Log → List ℕ → Type 0
IsTextOfSentTree log text = (d : Data) → SendsValue d (Some []) log → has_float d ≡ false → text ≡ text_of d
