-- What an update's object has of the planned one and of the prior one.
use Rattle.std.proofs.Common.{◌≡◌, ℕ, Bool, true, false, cond, List, ◌∷◌, Option, Some, None, option_map, refl, sym, ap, ◌∙◌}
use Rattle.std.specs.Option.{unwrap_or}
use Rattle.std.specs.Str.{bytes_eq}
use Rattle.std.proofs.lemmas.Slice.Eq.{bytes_eq-Decides}
use Rattle.tf_provider_protocol.specs.Schema.{SchemaView}
use Rattle.tf_provider_protocol.specs.Verdict.{names_of, same_names}
use Rattle.tf_value_data.specs.Tree.{Tree, map, Entries, no_entries, entry, get, keys_of, part_at}
use Rattle.tf_plan_object.specs.Kept.{is_kept, kept_entries, kept_value}
use Rattle.tf_plan_object.specs.KeptLaws.{UpdatesHaveArguments, UpdatesHaveAttributes, UpdatesKeep}

-- what is kept of an entry under a name that it has, or of the others
kept_at : (schema : SchemaView) (ignored : List (List ℕ)) (prior t : Tree) (name key : List ℕ) (rest found : Option Tree) (b : Bool) → bytes_eq name key ≡ b
    → rest ≡ option_map (kept_value schema ignored prior name) found
    → cond b (Some (kept_value schema ignored prior key t)) rest ≡ option_map (kept_value schema ignored prior name) (cond b (Some t) found)
kept_at schema ignored prior t name key rest found true e h = ap (λ (k : List ℕ). Some (kept_value schema ignored prior k t)) (sym ((bytes_eq-Decides name key).0 e))
kept_at schema ignored prior t name key rest found false e h = h

entries_keep : (schema : SchemaView) (ignored : List (List ℕ)) (prior : Tree) (es : Entries) (name : List ℕ) → get name (kept_entries schema ignored prior es) ≡ option_map (kept_value schema ignored prior name) (get name es)
entries_keep schema ignored prior no_entries name = refl
entries_keep schema ignored prior (entry key t es) name =
    kept_at schema ignored prior t name key (get name (kept_entries schema ignored prior es)) (get name es) (bytes_eq name key) refl (entries_keep schema ignored prior es name)

pub updates_keep : UpdatesKeep
updates_keep schema ignored prior (map es) name = entries_keep schema ignored prior es name
updates_keep schema ignored prior _ name = refl

unkept : (schema : SchemaView) (ignored : List (List ℕ)) (prior : Tree) (name : List ℕ) (found : Option Tree) → is_kept schema ignored name ≡ false → option_map (kept_value schema ignored prior name) found ≡ found
unkept schema ignored prior name None h = refl
unkept schema ignored prior name (Some t) h = ap (λ (b : Bool). Some (cond b (unwrap_or (part_at name prior) t) t)) h

pub updates_argue : UpdatesHaveArguments
updates_argue schema ignored prior planned name h = updates_keep schema ignored prior planned name ∙ unkept schema ignored prior name (part_at name planned) h

pub kept_keys : (schema : SchemaView) (ignored : List (List ℕ)) (prior : Tree) (es : Entries) → keys_of (kept_entries schema ignored prior es) ≡ keys_of es
kept_keys schema ignored prior no_entries = refl
kept_keys schema ignored prior (entry key t es) = ap (λ ks. key ∷ ks) (kept_keys schema ignored prior es)

pub updates_named : UpdatesHaveAttributes
updates_named schema ignored prior (map es) h = ap (λ ks. same_names ks (names_of schema)) (kept_keys schema ignored prior es) ∙ h
updates_named schema ignored prior _ h = h
