-- The schema of `local_file`.
use Rattle.std.specs.Prelude.{ℕ, Bool, true, false, List, [], ◌∷◌, codes}
use Rattle.tf_provider_protocol.specs.Schema.{AttributeView, SchemaView}
use Rattle.tf_provider_protocol.specs.declared.schema.Kind.TheVariants as kind
use Rattle.tf_provider_protocol.specs.declared.schema.Mode.{Mode}
use Rattle.tf_provider_protocol.specs.declared.schema.Mode.TheVariants.{Required, Optional, Computed}

-- whether a configuration can set the attribute
abbrev pub is_argument : Mode → Bool
is_argument Computed = false
is_argument Required = true
is_argument Optional = true

-- An attribute holds a text. If a configuration can set it, its change replaces the file.
abbrev pub attribute : List ℕ → Mode → AttributeView
attribute name mode = record { name = name; kind = kind.String; mode = mode; force_new = is_argument mode }

-- the schema of `local_file`
abbrev pub file_schema : SchemaView
file_schema =
    record {
      version = 0;
      attributes =
          attribute (codes "content") Optional ∷ attribute (codes "content_base64sha256") Computed ∷ attribute (codes "content_md5") Computed
          ∷ attribute (codes "content_sha1") Computed ∷ attribute (codes "content_sha256") Computed ∷ attribute (codes "file_permission") Optional
          ∷ attribute (codes "filename") Required ∷ attribute (codes "id") Computed ∷ [];
    }
