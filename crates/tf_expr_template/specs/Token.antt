-- Tokens, by longest match.
use Rattle.std.specs.List.{prefix_len}
use Rattle.std.specs.Prelude.{ℕ, if◌then◌else◌, ◌==◌, List, take, drop, slice_index}
use Rattle.tf_config_address.specs.Name.{starts_name, continues_name}
use Rattle.tf_expr_template.specs.Bytes.{is_space, is_digit}
use Rattle.tf_expr_template.specs.declared.token.TokenKind.{TokenKind}
use Rattle.tf_expr_template.specs.declared.token.TokenKind.TheVariants.{Name, Number, Quote, Bang, Binary, Question, Colon, OpenParen, CloseParen, OpenBracket, CloseBracket, CloseBrace, Comma, Dot, Wrong}
use Rattle.tf_expr_syntax.specs.declared.operator.Operator.TheVariants.{Or, And, Equal, NotEqual, Greater, GreaterOrEqual, Less, LessOrEqual, Add, Subtract, Multiply}

-- the sign that begins with these two bytes, and its length; past the end of the text a byte counts as 0
unfoldable pub sign : ℕ → ℕ → TokenKind × ℕ
sign a b =
    if a == 34 then (Quote, 1)
    else (if a == 33 then (if b == 61 then (Binary NotEqual, 2) else (Bang, 1))
    else (if a == 61 then (if b == 61 then (Binary Equal, 2) else (Wrong, 0))
    else (if a == 60 then (if b == 61 then (Binary LessOrEqual, 2) else (Binary Less, 1))
    else (if a == 62 then (if b == 61 then (Binary GreaterOrEqual, 2) else (Binary Greater, 1))
    else (if a == 38 then (if b == 38 then (Binary And, 2) else (Wrong, 0))
    else (if a == 124 then (if b == 124 then (Binary Or, 2) else (Wrong, 0))
    else (if a == 43 then (Binary Add, 1)
    else (if a == 45 then (Binary Subtract, 1)
    else (if a == 42 then (Binary Multiply, 1)
    else (if a == 63 then (Question, 1)
    else (if a == 58 then (Colon, 1)
    else (if a == 40 then (OpenParen, 1)
    else (if a == 41 then (CloseParen, 1)
    else (if a == 91 then (OpenBracket, 1)
    else (if a == 93 then (CloseBracket, 1)
    else (if a == 125 then (CloseBrace, 1)
    else (if a == 44 then (Comma, 1)
    else (if a == 46 then (Dot, 1)
    else (Wrong, 0)))))))))))))))))))

-- the token at the very front of a text, and its length
unfoldable pub front : List ℕ → TokenKind × ℕ
front s =
    if starts_name (slice_index s 0) then (Name, prefix_len continues_name s)
    else (if is_digit (slice_index s 0) then (Number, prefix_len is_digit s)
    else sign (slice_index s 0) (slice_index s 1))

-- a text without the space at its front
unfoldable pub trimmed : List ℕ → List ℕ
trimmed s = drop (prefix_len is_space s) s

-- the first token of a text: its kind, its bytes, and what follows it
unfoldable pub token_kind : List ℕ → TokenKind
token_kind s = (front (trimmed s)).0

unfoldable pub token_word : List ℕ → List ℕ
token_word s = take (front (trimmed s)).1 (trimmed s)

unfoldable pub after_token : List ℕ → List ℕ
after_token s = drop (front (trimmed s)).1 (trimmed s)
