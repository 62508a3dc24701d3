-- What a refusal says about the trees that a text spells.
use Rattle.std.specs.Fmt.{decimal}
use Rattle.std.specs.Prelude.{ℕ, List, ◌++◌, codes}
use Rattle.tf_expr_template.specs.declared.template.ReadFault.{ReadFault}
use Rattle.tf_expr_template.specs.declared.template.ReadFault.TheVariants.{At, TooDeep, OutOfMemory}

-- A refusal although a template is spelled: never `At`; `TooDeep` only if the template is too deep; or `OutOfMemory`.
abbrev pub Refuses : ReadFault → Type 0 → Type 0
Refuses (At offset) deep = ⊥
Refuses TooDeep deep = deep
Refuses OutOfMemory deep = Unit {0}

-- the text of a refusal
abbrev pub fault_text : ReadFault → List ℕ
fault_text (At offset) = codes "no template from byte " ++ decimal offset ++ codes " on"
fault_text TooDeep = codes "deeper than " ++ decimal 64
fault_text OutOfMemory = codes "out of memory"
