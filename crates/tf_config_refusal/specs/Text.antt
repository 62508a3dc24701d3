-- The text of a refusal.
use Rattle.std.specs.Prelude.{ℕ, List, [], ◌∷◌, ◌++◌, codes}
use Rattle.std.specs.Fmt.{decimal}
use Rattle.std.specs.List.{flat_map}
use Rattle.tf_expr_syntax.specs.EvalFault.{eval_fault_name}
use Rattle.tf_config_refusal.specs.Code.{name_of, number_of}
use Rattle.tf_config_refusal.specs.Refusal.{DetailView, bare, at, names, kind, RefusalView, no_memory, workers, fault}

-- names with a comma and a space between them
abbrev pub names_text : List (List ℕ) → List ℕ
names_text [] = []
names_text (name ∷ others) = name ++ flat_map (λ other. codes ", " ++ other) others

-- what follows a refusal's name, in parentheses
abbrev pub detail_text : DetailView → List ℕ
detail_text bare = []
detail_text (at offset) = codes "(" ++ decimal offset ++ codes ")"
detail_text (names texts) = codes "(" ++ names_text texts ++ codes ")"
detail_text (kind why) = codes "(" ++ eval_fault_name why ++ codes ")"

-- `error CODE at PLACE: NAME`
abbrev pub refusal_text : RefusalView → List ℕ
refusal_text no_memory = codes "error 15 at memory: OutOfMemory"
refusal_text workers = codes "error 14 at workers: Limit"
refusal_text (fault code place detail) = codes "error " ++ decimal (number_of code) ++ codes " at " ++ place ++ codes ": " ++ name_of code ++ detail_text detail
