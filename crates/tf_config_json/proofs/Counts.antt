-- How many there are of what a configuration declares.
use Rattle.std.proofs.Common.{◌≡◌, ◌≤◌, List, [], ◌∷◌, String, Global, length, map, suc, refl, ap, arith}
use Rattle.std.proofs.lemmas.List.{length-append}
use Rattle.tf_config_json.specs.Config.{names_in}
use Rattle.tf_config_json.specs.Laws.{NamesAreFew}
use Rattle.tf_config_data.specs.Names.{local_names, block_name}
use Rattle.tf_expr_syntax.specs.ExprTree.{Entries, no_entries, entry, entries_view}
use Rattle.tf_expr_syntax.specs.declared.expr.Expr.{Expr}

pub names_in-length : (es : List (String Global × Expr)) → length (names_in (entries_view es)) ≡ length es
names_in-length [] = refl
names_in-length (e ∷ es) = ap suc (names_in-length es)

pub mapped-length : {A B : Type 0} (f : A → B) (xs : List A) → length (map f xs) ≡ length xs
mapped-length f [] = refl
mapped-length f (x ∷ xs) = ap suc (mapped-length f xs)

local_names-length : (es : Entries) → length (local_names es) ≡ length (names_in es)
local_names-length no_entries = refl
local_names-length (entry name e es) = ap suc (local_names-length es)

pub few_names : NamesAreFew
few_names config h =
    let locals : length (names_in config.locals) ≤ 2000 = h.1 in
    let blocks : length config.blocks ≤ 2000 = h.3 in
    omega (arith, length-append (local_names config.locals) (map block_name config.blocks), local_names-length config.locals, mapped-length block_name config.blocks, locals, blocks)
