-- What is at a path of a tree, and the checks of it.
use Rattle.std.proofs.Common.{◌≡◌, ℕ, true, Option, None, Some, List, [], ◌∷◌, codes, refl, sym, ◌∙◌, subst}
use Rattle.std.specs.Prelude.{option_and_then}
use Rattle.serde_json.specs.Data.{Data, null, boolean, number, string, array, object, Members}
use Rattle.serde_json.specs.Find.{get, get_member}
use Rattle.tf_config_address.specs.Name.{is_name}
use Rattle.tf_config_json.proofs.Inside.{met_at}
use Rattle.tf_config_json.specs.Configuration.{PropertyChecks, below, object_checks, section_checks, type_checks, resource_checks, configuration_checks, block_body_checks, at_path, HasAt}
use Rattle.tf_config_json.specs.Demand.{AreMet, IsMet}
use Rattle.tf_config_json.specs.Words.{is_type_name}

-- ---- paths

first_at : (o : Option Data) (names : List (List ℕ)) (e : Data) → option_and_then (at_path names) o ≡ Some e → (d : Data) × (o ≡ Some d) × (at_path names d ≡ Some e)
first_at None names e h = absurd (cc)
first_at (Some d) names e h = (d, refl, h)

-- the first step of a path
pub path_first : (name : List ℕ) (names : List (List ℕ)) (tree e : Data) → at_path (name ∷ names) tree ≡ Some e → (d : Data) × (get name tree ≡ Some d) × (at_path names d ≡ Some e)
path_first name names tree e h = first_at (get name tree) names e h

-- one step before a path
pub path_on : (name : List ℕ) (names : List (List ℕ)) (tree d e : Data) → get name tree ≡ Some d → at_path names d ≡ Some e → at_path (name ∷ names) tree ≡ Some e
path_on name names tree d e h j = rw h j

pub no_section : (tree : Data) (name : List ℕ) (names : List (List ℕ)) (d : Data) → get name tree ≡ None → at_path (name ∷ names) tree ≡ Some d → ⊥
no_section tree name names d none h = let no : ◌≡◌ {A = Option Data} None (Some d) = rw none at h in absurd (cc)

-- what is at the end of a path that begins in a section is at a name of the section
pub in_section : (tree : Data) (section n : List ℕ) (names : List (List ℕ)) (ms : Members) (e : Data) → get section tree ≡ Some (object ms) → at_path (section ∷ n ∷ names) tree ≡ Some e
    → (d : Data) × (get_member n ms ≡ Some d) × (at_path names d ≡ Some e)
in_section tree section n names ms e there h =
    let found = path_first section (n ∷ names) tree e h in
    let both : ◌≡◌ {A = Option Data} (Some found.0) (Some (object ms)) = sym found.1 ∙ there in
    let same : found.0 ≡ object ms = (cc) in
    path_first n names (object ms) e (subst (λ d. at_path (n ∷ names) d ≡ Some e) same found.2)

-- what is read at one place is one thing, if each value reads as one thing
pub one_at : {A : Type 0} (ReadsAs : Data → A → Type 0) → ((d : Data) (x y : A) → ReadsAs d x → ReadsAs d y → x ≡ y) → (path : List (List ℕ)) (tree : Data) (x y : A) → HasAt ReadsAs path tree x → HasAt ReadsAs path tree y → x ≡ y
one_at ReadsAs one path tree x y h j =
    let both : ◌≡◌ {A = Option Data} (Some h.0) (Some j.0) = sym h.1 ∙ j.1 in
    let same : h.0 ≡ j.0 = (cc) in
    one j.0 x y (subst (λ d. ReadsAs d x) same h.2) j.2

-- ---- checks

pub met_inside : (checks : PropertyChecks) (place : List (List ℕ)) (k : List ℕ) (d e : Data) → AreMet (object_checks checks place d) → get k d ≡ Some e → AreMet (checks (k ∷ place) k e)
met_inside checks place k null e met h = absurd (cc)
met_inside checks place k (boolean x) e met h = absurd (cc)
met_inside checks place k (number x) e met h = absurd (cc)
met_inside checks place k (string x) e met h = absurd (cc)
met_inside checks place k (array x) e met h = absurd (cc)
met_inside checks place k (object ms) e met h = met_at IsMet (below checks place) k ms e met h

pub met_section : (k : List ℕ) (tree d : Data) → AreMet (configuration_checks tree) → get k tree ≡ Some d → AreMet (section_checks (k ∷ []) k d)
met_section k null d met h = absurd (cc)
met_section k (boolean x) d met h = absurd (cc)
met_section k (number x) d met h = absurd (cc)
met_section k (string x) d met h = absurd (cc)
met_section k (array x) d met h = absurd (cc)
met_section k (object ms) d met h = met_at IsMet (below section_checks []) k ms d met h

-- a block's type and name are allowed, and its body keeps the format
pub met_block : (tree : Data) (type_name name : List ℕ) (body : Data) → AreMet (configuration_checks tree) → at_path (codes "resource" ∷ type_name ∷ name ∷ []) tree ≡ Some body
    → (is_type_name type_name ≡ true) × (is_name name ≡ true) × AreMet (block_body_checks (name ∷ type_name ∷ codes "resource" ∷ []) body)
met_block tree type_name name body met h =
    let section = path_first (codes "resource") (type_name ∷ name ∷ []) tree body h in
    let of_type = path_first type_name (name ∷ []) section.0 body section.2 in
    let of_name = path_first name [] of_type.0 body of_type.2 in
    let last : ◌≡◌ {A = Option Data} (Some of_name.0) (Some body) = of_name.2 in
    let same : of_name.0 ≡ body = (cc) in
    let types = met_section (codes "resource") tree section.0 met section.1 in
    let names = met_inside type_checks (codes "resource" ∷ []) type_name section.0 of_type.0 types of_type.1 in
    let bodies = met_inside resource_checks (type_name ∷ codes "resource" ∷ []) name of_type.0 of_name.0 names.1 of_name.1 in
    (names.0, bodies.0, subst (λ d. AreMet (block_body_checks (name ∷ type_name ∷ codes "resource" ∷ []) d)) same bodies.1)
