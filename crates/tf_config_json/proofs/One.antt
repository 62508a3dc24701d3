-- A tree reads as one configuration at most.
use Rattle.std.proofs.Common.{◌≡◌, ℕ, Bool, true, false, not, ◌&&◌, is_some, Option, None, Some, List, [], ◌∷◌, Ordering, Less, Equal, Greater, nat_cmp, codes, refl, sym, ap, ◌∙◌, subst}
use Rattle.std.proofs.lemmas.Cmp.{nat_list_cmp_total, on_total, then_total}
use Rattle.std.proofs.lemmas.Map.Lookups.{CmpEqualImpliesEq, exact_bytes}
use Rattle.std.specs.Cmp.{IsTotalOrder}
use Rattle.std.specs.Cmp.Lexicographic.{slice_cmp}
use Rattle.std.specs.Option.{MatchOption}
use Rattle.std.specs.Ordering.{ordering_then}
use Rattle.std.specs.Prelude.{option_and_then}
use Rattle.serde_json.specs.Data.{Data}
use Rattle.serde_json.specs.Find.{get}
use Rattle.tf_config_address.specs.ResourceAddr.{ResourceAddrView, addr_cmp}
use Rattle.tf_config_data.specs.Config.{RepetitionView, single, count, for_each, LifecycleView, VariableView, BlockView, ConfigView}
use Rattle.tf_config_data.specs.declared.variable.VariableType.{VariableType}
use Rattle.tf_expr_json.proofs.Faultless.{expr_one}
use Rattle.tf_expr_json.specs.Reading.{IsExpr}
use Rattle.tf_expr_syntax.specs.ExprTree.{Tree, Entries}
use Rattle.tf_value_data.specs.Tree as values
use Rattle.tf_config_json.proofs.AtPath.{one_at, met_block}
use Rattle.tf_config_json.proofs.Fits.{list_fits}
use Rattle.tf_config_json.proofs.KeyedLists.{one_list}
use Rattle.tf_config_json.proofs.PartFits.{flag_fits, type_fits, name_fits, address_fits, literal_fits}
use Rattle.tf_config_json.proofs.Pairs.{one_entries}
use Rattle.tf_config_json.specs.Config.{plain_lifecycle}
use Rattle.tf_config_json.specs.Configuration.{configuration_checks, at_path, repeats_once, HasOr, HasAt, IsDefault, IsVariable, IsRepetition, IsLifecycle, IsArgument, IsBlock, IsVariableOf, IsLocalOf, IsOutputOf, IsBlockOf, IsConfiguration}
use Rattle.tf_config_json.specs.Demand.{AreMet}
use Rattle.tf_config_json.specs.Parts.{NamesType, IsFlag, SaysList, name_checks, IsNameText, address_checks, IsAddressText}

-- ---- addresses

abbrev address : List ℕ → List ℕ → ResourceAddrView
address type_name name = record { type_name = type_name; name = name }

addr_then : (o : Ordering) (a b : ResourceAddrView) → slice_cmp nat_cmp a.type_name b.type_name ≡ o → ordering_then o (slice_cmp nat_cmp a.name b.name) ≡ Equal → a ≡ b
addr_then Less a b is h = absurd (cc)
addr_then Equal a b is h =
    ap (λ (t : List ℕ). address t a.name) (exact_bytes a.type_name b.type_name is) ∙ ap (λ (n : List ℕ). address b.type_name n) (exact_bytes a.name b.name h)
addr_then Greater a b is h = absurd (cc)

pub addr_exact : CmpEqualImpliesEq addr_cmp
addr_exact a b h = addr_then (slice_cmp nat_cmp a.type_name b.type_name) a b refl h

pub addr_total : IsTotalOrder addr_cmp
addr_total = then_total (on_total (λ (a : ResourceAddrView). a.type_name) nat_list_cmp_total) (on_total (λ (a : ResourceAddrView). a.name) nat_list_cmp_total)

-- ---- bodies

one_or_at : {A : Type 0} (ReadsAs : Data → A → Type 0) → ((d : Data) (x y : A) → ReadsAs d x → ReadsAs d y → x ≡ y) → (default : A) (o : Option Data) (x y : A)
    → MatchOption o (x ≡ default) (λ d. ReadsAs d x) → MatchOption o (y ≡ default) (λ d. ReadsAs d y) → x ≡ y
one_or_at ReadsAs one default None x y h j = h ∙ sym j
one_or_at ReadsAs one default (Some d) x y h j = one d x y h j

one_or : {A : Type 0} (ReadsAs : Data → A → Type 0) → ((d : Data) (x y : A) → ReadsAs d x → ReadsAs d y → x ≡ y) → (default : A) (name : List ℕ) (body : Data) (x y : A)
    → HasOr ReadsAs default name body x → HasOr ReadsAs default name body y → x ≡ y
one_or ReadsAs one default name body x y h j = one_or_at ReadsAs one default (get name body) x y h j

abbrev some_tree : values.Tree → Option values.Tree
some_tree t = Some t

one_default : (d : Data) (x y : Option values.Tree) → IsDefault d x → IsDefault d y → x ≡ y
one_default d x y h j = h.2 ∙ (ap (λ (t : values.Tree). some_tree t) (literal_fits.same d h.0 j.0 h.1 j.1) ∙ sym j.2)

abbrev variable : List ℕ → VariableType → Option values.Tree → VariableView
variable name value_type default = record { name = name; value_type = value_type; default = default }

pub one_variable : (d : Data) (v w : VariableView) → v.name ≡ w.name → IsVariable d v → IsVariable d w → v ≡ w
one_variable d v w same h j =
    let types : v.value_type ≡ w.value_type = one_or NamesType type_fits.same _ (codes "type") d v.value_type w.value_type h.value_type j.value_type in
    let defaults : v.default ≡ w.default = one_or IsDefault one_default None (codes "default") d v.default w.default h.default j.default in
    ap (λ (n : List ℕ). variable n v.value_type v.default) same ∙ (ap (λ (t : VariableType). variable w.name t v.default) types ∙ ap (λ (o : Option values.Tree). variable w.name w.value_type o) defaults)

abbrev lifecycle : Bool → Bool → List (List ℕ) → LifecycleView
lifecycle create prevent ignore = record { create_before_destroy = create; prevent_destroy = prevent; ignore_changes = ignore }

one_lifecycle : (d : Data) (l m : LifecycleView) → IsLifecycle d l → IsLifecycle d m → l ≡ m
one_lifecycle d l m h j =
    let creates = one_or IsFlag flag_fits.same false (codes "create_before_destroy") d l.create_before_destroy m.create_before_destroy h.create_before_destroy j.create_before_destroy in
    let prevents = one_or IsFlag flag_fits.same false (codes "prevent_destroy") d l.prevent_destroy m.prevent_destroy h.prevent_destroy j.prevent_destroy in
    let ignores = one_or (SaysList IsNameText) (list_fits (List ℕ) name_checks IsNameText name_fits).same [] (codes "ignore_changes") d l.ignore_changes m.ignore_changes h.ignore_changes j.ignore_changes in
    ap (λ (b : Bool). lifecycle b l.prevent_destroy l.ignore_changes) creates ∙ (ap (λ (b : Bool). lifecycle m.create_before_destroy b l.ignore_changes) prevents ∙ ap (λ (ns : List (List ℕ)). lifecycle m.create_before_destroy m.prevent_destroy ns) ignores)

no_property : (name : List ℕ) (d : Data) (e : Tree) → get name d ≡ None → HasAt IsExpr (name ∷ []) d e → ⊥
no_property name d e none h = let no : ◌≡◌ {A = Option Data} None (Some h.0) = rw none at h.1 in absurd (cc)

both_at : (o p : Option Data) (d e : Data) → option_and_then (at_path []) o ≡ Some d → option_and_then (at_path []) p ≡ Some e → not (is_some o && is_some p) ≡ true → ⊥
both_at None p d e h j once = absurd (cc)
both_at (Some x) None d e h j once = absurd (cc)
both_at (Some x) (Some y) d e h j once = absurd (cc)

both : (d : Data) (e f : Tree) → repeats_once d ≡ true → HasAt IsExpr (codes "count" ∷ []) d e → HasAt IsExpr (codes "for_each" ∷ []) d f → ⊥
both d e f once h j = both_at (get (codes "count") d) (get (codes "for_each") d) h.0 j.0 h.1 j.1 once

-- a body with both `count` and `for_each` has no repetition: the checks refuse it
one_repetition : (d : Data) (q r : RepetitionView) → (repeats_once d ≡ true) → IsRepetition d q → IsRepetition d r → q ≡ r
one_repetition d single single once h j = refl
one_repetition d single (count e) once h j = absurd (no_property (codes "count") d e h.0 j)
one_repetition d single (for_each e) once h j = absurd (no_property (codes "for_each") d e h.1 j)
one_repetition d (count e) single once h j = absurd (no_property (codes "count") d e j.0 h)
one_repetition d (count e) (count f) once h j = ap count (one_at IsExpr expr_one (codes "count" ∷ []) d e f h j)
one_repetition d (count e) (for_each f) once h j = absurd (both d e f once h j)
one_repetition d (for_each e) single once h j = absurd (no_property (codes "for_each") d e j.1 h)
one_repetition d (for_each e) (count f) once h j = absurd (both d f e once j h)
one_repetition d (for_each e) (for_each f) once h j = ap for_each (one_at IsExpr expr_one (codes "for_each" ∷ []) d e f h j)

-- ---- blocks

abbrev block : ResourceAddrView → RepetitionView → List ResourceAddrView → LifecycleView → Entries → BlockView
block addr repetition depends lifecycles arguments = record { addr = addr; repetition = repetition; depends_on = depends; lifecycle = lifecycles; arguments = arguments }

module _ (tree : Data) (checks : AreMet (configuration_checks tree)) where
  one_body : (d : Data) (b c : BlockView) → repeats_once d ≡ true → b.addr ≡ c.addr → IsBlock d b → IsBlock d c → b ≡ c
  one_body d b c once same h j =
      let repetitions : b.repetition ≡ c.repetition = one_repetition d b.repetition c.repetition once h.repetition j.repetition in
      let depends : b.depends_on ≡ c.depends_on = one_or (SaysList IsAddressText) (list_fits ResourceAddrView address_checks IsAddressText address_fits).same [] (codes "depends_on") d b.depends_on c.depends_on h.depends_on j.depends_on in
      let lifecycles : b.lifecycle ≡ c.lifecycle = one_or IsLifecycle one_lifecycle plain_lifecycle (codes "lifecycle") d b.lifecycle c.lifecycle h.lifecycle j.lifecycle in
      let arguments : b.arguments ≡ c.arguments = one_entries (IsArgument d) b.arguments c.arguments h.arguments j.arguments in
      ap (λ (a : ResourceAddrView). block a b.repetition b.depends_on b.lifecycle b.arguments) same
      ∙ (ap (λ (r : RepetitionView). block c.addr r b.depends_on b.lifecycle b.arguments) repetitions
      ∙ (ap (λ (ds : List ResourceAddrView). block c.addr c.repetition ds b.lifecycle b.arguments) depends
      ∙ (ap (λ (l : LifecycleView). block c.addr c.repetition c.depends_on l b.arguments) lifecycles ∙ ap (λ (es : Entries). block c.addr c.repetition c.depends_on c.lifecycle es) arguments)))

  pub one_block : (b c : BlockView) → IsBlockOf tree b → IsBlockOf tree c → b.addr ≡ c.addr → b ≡ c
  one_block b c h j same =
      let first : at_path (codes "resource" ∷ c.addr.type_name ∷ c.addr.name ∷ []) tree ≡ Some h.0 =
      subst (λ (a : ResourceAddrView). at_path (codes "resource" ∷ a.type_name ∷ a.name ∷ []) tree ≡ Some h.0) same h.1 in
      let both : ◌≡◌ {A = Option Data} (Some h.0) (Some j.0) = sym first ∙ j.1 in
      let bodies : h.0 ≡ j.0 = (cc) in
      one_body j.0 b c (met_block tree c.addr.type_name c.addr.name j.0 checks j.1).2.0 same (subst (λ d. IsBlock d b) bodies h.2) j.2

pub one_variable_of : (tree : Data) (v w : VariableView) → IsVariableOf tree v → IsVariableOf tree w → v.name ≡ w.name → v ≡ w
one_variable_of tree v w h j same =
    let first : at_path (codes "variable" ∷ w.name ∷ []) tree ≡ Some h.0 = subst (λ (n : List ℕ). at_path (codes "variable" ∷ n ∷ []) tree ≡ Some h.0) same h.1 in
    let both : ◌≡◌ {A = Option Data} (Some h.0) (Some j.0) = sym first ∙ j.1 in
    let bodies : h.0 ≡ j.0 = (cc) in
    one_variable j.0 v w same (subst (λ d. IsVariable d v) bodies h.2) j.2

-- ---- names with expressions

pub one_local : (tree : Data) (n : List ℕ) (e f : Tree) → IsLocalOf tree n e → IsLocalOf tree n f → e ≡ f
one_local tree n e f h j = one_at IsExpr expr_one (codes "locals" ∷ n ∷ []) tree e f h.1 j.1

pub one_output : (tree : Data) (n : List ℕ) (e f : Tree) → IsOutputOf tree n e → IsOutputOf tree n f → e ≡ f
one_output tree n e f h j = one_at IsExpr expr_one (codes "output" ∷ n ∷ codes "value" ∷ []) tree e f h j

pub one_argument : (body : Data) (n : List ℕ) (e f : Tree) → IsArgument body n e → IsArgument body n f → e ≡ f
one_argument body n e f h j = one_at IsExpr expr_one (n ∷ []) body e f h.1 j.1

-- ---- configurations

abbrev declares : List VariableView → Entries → Entries → List BlockView → ConfigView
declares variables locals outputs blocks = record { variables = variables; locals = locals; outputs = outputs; blocks = blocks }

pub configuration_one : (tree : Data) (config other : ConfigView) → IsConfiguration tree config → IsConfiguration tree other → config ≡ other
configuration_one tree config other h j =
    let variables : config.variables ≡ other.variables = one_list (λ (v : VariableView). v.name) (slice_cmp nat_cmp) nat_list_cmp_total exact_bytes (IsVariableOf tree) config.variables other.variables h.variables j.variables in
    let locals : config.locals ≡ other.locals = one_entries (IsLocalOf tree) config.locals other.locals h.locals j.locals in
    let outputs : config.outputs ≡ other.outputs = one_entries (IsOutputOf tree) config.outputs other.outputs h.outputs j.outputs in
    let blocks : config.blocks ≡ other.blocks = one_list (λ (b : BlockView). b.addr) addr_cmp addr_total addr_exact (IsBlockOf tree) config.blocks other.blocks h.blocks j.blocks in
    ap (λ (vs : List VariableView). declares vs config.locals config.outputs config.blocks) variables
    ∙ (ap (λ (es : Entries). declares other.variables es config.outputs config.blocks) locals
    ∙ (ap (λ (es : Entries). declares other.variables other.locals es config.blocks) outputs ∙ ap (λ (bs : List BlockView). declares other.variables other.locals other.outputs bs) blocks))
