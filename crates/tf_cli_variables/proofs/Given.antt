-- The values of sources, source by source.
use Rattle.std.proofs.Common.{◌≡◌, ◌<◌, ◌+◌, ◌++◌, ℕ, List, [], ◌∷◌, length, get_or, take, sym, ap, ◌∙◌, subst}
use Rattle.std.proofs.lemmas.List.{take_more}
use Rattle.serde_json.specs.Data.{Data, Members}
use Rattle.tf_cli_variables.specs.Merge.{EachGives}
use Rattle.tf_cli_variables.specs.Values.{GivesValues}
use Rattle.tf_cli_variables.specs.declared.source.Source.{Source}

-- one more source gives values
each_gives-more : (config : Data) (sources : List Source) (given : List Members) (source : Source) (values : Members)
    → EachGives config sources given → GivesValues config source values → EachGives config (sources ++ source ∷ []) (given ++ values ∷ [])
each_gives-more config [] [] source values all one = (one, tt)
each_gives-more config [] (v ∷ given) source values all one = absurd all
each_gives-more config (s ∷ sources) [] source values all one = absurd all
each_gives-more config (s ∷ sources) (v ∷ given) source values all one = (all.0, each_gives-more config sources given source values all.1 one)

-- the next source of a list gives values
pub each_gives-next : (config : Data) (sources : List Source) (i : ℕ) (given : List Members) (source : Source) (values : Members) → i < length sources → source ≡ get_or sources i source
    → EachGives config (take i sources) given → GivesValues config source values → EachGives config (take (i + 1) sources) (given ++ values ∷ [])
each_gives-next config sources i given source values within is all one =
    subst (λ xs. EachGives config xs (given ++ values ∷ []))
    (ap (λ s. take i sources ++ s ∷ []) is ∙ sym (take_more sources i source within))
    (each_gives-more config (take i sources) given source values all one)
