-- Lines that are read one by one.
use Rattle.std.proofs.Common.{◌≡◌, ◌∙◌, ◌++◌, ℕ, List, [], ◌∷◌, Option, Some, None, map, refl, sym, ap, append_assoc}
use Rattle.std.proofs.lemmas.List.{append-nil}
use Rattle.std.specs.Prelude.{option_map}
use Rattle.tf_provider_log.specs.Line.{lines_of}
use Rattle.tf_provider_protocol.specs.Meaning.{Answer}
use Rattle.tf_provider_remote.specs.Responses.{response_in, responses_in, responses_then, numbered}

-- a reply that was read goes behind those before it
pub one_more : (o : Option (ℕ × Answer)) (rest : List (ℕ × Answer)) (reply : ℕ × Option Answer) (head whole : List (ℕ × Option Answer)) → Some reply ≡ option_map numbered o
    → whole ≡ head ++ map numbered (responses_then o rest) → whole ≡ (head ++ reply ∷ []) ++ map numbered rest
one_more (Some r) rest reply head whole is e =
    let same : numbered r ≡ reply = cc in
    e ∙ ap (λ x. head ++ x ∷ map numbered rest) same ∙ sym (append_assoc head (reply ∷ []) (map numbered rest))
one_more None rest reply head whole is e = absurd (cc)

-- a line that isn't a reply ends them
pub no_more : (o : Option (ℕ × Answer)) (rest : List (ℕ × Answer)) (head whole : List (ℕ × Option Answer)) → None ≡ option_map numbered o
    → whole ≡ head ++ map numbered (responses_then o rest) → head ≡ whole
no_more None rest head whole is e = sym (e ∙ append-nil head)
no_more (Some r) rest head whole is e = absurd (cc)
