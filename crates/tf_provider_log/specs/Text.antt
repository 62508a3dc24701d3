-- JSON trees as lines, for contracts of private functions.
use Rattle.std.specs.Prelude.{◌≡◌, ◌++◌, ◌<◌, ◌^◌, ℕ, suc, pos, negsuc, List, ◌∷◌, [], Option, Some, None, All, ⊤}
use Rattle.tf_provider_protocol.specs.Meaning.{Asked, Answer, object, gone, failed}
use Rattle.tf_value_data.specs.Tree.{Tree, IsHeld}
use Rattle.serde_json.specs.Data as json
use Rattle.tf_provider_log.specs.Line.{IsInLine, tree_in}

-- each number in a tree is a whole one of 64 bits, with or without a sign
abbrev mutual
  pub IsSimple : json.Data → Type 0
  IsSimple (json.number (json.unsigned n)) = n < 2 ^ 64
  IsSimple (json.number (json.negative (pos n))) = ⊥
  IsSimple (json.number (json.negative (negsuc n))) = suc n < 2 ^ 64
  IsSimple (json.number (json.float x)) = ⊥
  IsSimple (json.array ds) = AreSimple ds
  IsSimple (json.object ms) = AreSimpleMembers ms
  IsSimple _ = ⊤

  pub AreSimple : json.Items → Type 0
  AreSimple json.no_items = ⊤
  AreSimple (json.item d ds) = IsSimple d × AreSimple ds

  pub AreSimpleMembers : json.Members → Type 0
  AreSimpleMembers json.no_members = ⊤
  AreSimpleMembers (json.member k d ms) = IsSimple d × AreSimpleMembers ms

-- a text is the line of a tree: it ends with the only newline in it, and what is before that is JSON that reads as
-- the tree
pub record IsTreeLine (tree : json.Data) (text : List ℕ) : Type 0 where
  pub line : List ℕ
  pub in_line : All IsInLine line
  pub reads : tree_in line ≡ Some tree
  pub is_text : text ≡ line ++ 10 ∷ []

-- the whole numbers in an optional value are of 64 bits with a sign
abbrev pub IsOptionHeld : Option Tree → Type 0
IsOptionHeld None = ⊤
IsOptionHeld (Some t) = IsHeld t

-- so are those in a request
abbrev pub IsRequestHeld : Asked → Type 0
IsRequestHeld r = IsOptionHeld r.prior × IsOptionHeld r.object

-- so are those in an answer
abbrev pub IsAnswerHeld : Option Answer → Type 0
IsAnswerHeld None = ⊤
IsAnswerHeld (Some (object t)) = IsHeld t
IsAnswerHeld (Some gone) = ⊤
IsAnswerHeld (Some (failed message t)) = IsOptionHeld t
