-- The line of a refusal, part by part.
use Rattle.std.proofs.Common.{◌≡◌, ◌∷◌, ◌++◌, ℕ, List, Option, Result, sym, subst, take, length, map, codes, decimal, string_bytes, append_assoc, rules}
use Rattle.std.proofs.lemmas.List.{take_all}
use Rattle.std.proofs.lemmas.List.Folds.{flat_map-map}
use Rattle.std.specs.Io.KnownBytes.{Appends}
use Rattle.std.specs.Prelude.{OnOk}
use Rattle.std.specs.List.{flat_map}
use Rattle.std.specs.declared.string.String.{String}
use Rattle.tf_config_refusal.specs.Code.{name_of, number_of}
use Rattle.tf_config_refusal.specs.declared.code.Code.{Code}
use Rattle.tf_config_refusal.specs.Refusal.{DetailView, fault}
use Rattle.tf_config_refusal.specs.Text.{detail_text, names_text}
use Rattle.tf_cli_lines.specs.Saved.{AppendsStart}
use Rattle.tf_cli_lines.specs.Lines.{fault_opening, refusal_line}
use Rattle.tf_cli_lines.proofs.Writes.{appends_as}

-- the parts of a line, grouped as it is printed and as it is told
line_parts : (e d before place colon name detail behind : List ℕ) → (e ++ (d ++ (before ++ (place ++ (colon ++ name))))) ++ (detail ++ behind) ≡ (e ++ d ++ before ++ place ++ colon ++ name ++ detail) ++ behind
line_parts e d before place colon name detail behind = simp append_assoc

fault_told : (code : Code) (place : List ℕ) (detail : DetailView) → fault_opening (number_of code) place (name_of code) ++ (detail_text detail ++ codes "\n") ≡ refusal_line (fault code place detail)
fault_told code place detail = line_parts (codes "error ") (decimal (number_of code)) (codes " at ") place (codes ": ") (name_of code) (detail_text detail) (codes "\n")

pub fault_line : (code : Code) (k : ℕ) (p place n : List ℕ) (detail : DetailView) → k ≡ number_of code → p ≡ place → n ≡ name_of code → fault_opening k p n ++ (detail_text detail ++ codes "\n") ≡ refusal_line (fault code place detail)
fault_line code k p place n detail d e f = rw (d, e, f) (fault_told code place detail)

pub whole_as : {F : Type 0} (r : Result (Unit {0}) F) (u v : Option (List ℕ)) (a b : List ℕ) → a ≡ b → OnOk r (Appends u v a) → OnOk r (Appends u v b)
whole_as r u v a b e h = subst (λ (t : List ℕ). OnOk r (Appends u v t)) e h

pub part_as : (u v : Option (List ℕ)) (a b : List ℕ) → a ≡ b → AppendsStart u v a → AppendsStart u v b
part_as u v a b e h = subst (λ (t : List ℕ). AppendsStart u v t) e h

-- names in parentheses, grouped as they are printed and as they are told
names_parts : (open_sign first others close_sign : List ℕ) → (open_sign ++ first) ++ (others ++ close_sign) ≡ (open_sign ++ (first ++ others)) ++ close_sign
names_parts open_sign first others close_sign = simp append_assoc

pub names_told : {Z : Type 0} (names : List (String Z)) (first : String Z) (others : List (String Z)) (text : List ℕ) → names ≡ first ∷ others → text ≡ string_bytes first
    → (codes "(" ++ text) ++ (flat_map (λ name. codes ", " ++ string_bytes name) others ++ codes ")") ≡ codes "(" ++ names_text (map string_bytes names) ++ codes ")"
names_told names first others text is e =
    let told : flat_map (λ other. codes ", " ++ other) (map string_bytes others) ≡ flat_map (λ name. codes ", " ++ string_bytes name) others = flat_map-map (λ other. codes ", " ++ other) string_bytes others in
    rw (is, e, told) (names_parts (codes "(") (string_bytes first) (flat_map (λ name. codes ", " ++ string_bytes name) others) (codes ")"))

-- what is written whole is a beginning
pub start_whole : (u v : Option (List ℕ)) (a : List ℕ) → Appends u v a → AppendsStart u v a
start_whole u v a h = (length a, search rules, appends_as u v a (take (length a) a) (sym (take_all (length a) a (search rules))) h)
