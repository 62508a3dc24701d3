-- The names that need themselves can be told, of all names.
use Rattle.std.proofs.Common.{◌≡◌, ◌<◌, ℕ, zero, suc, List, [], Contains, nat_cmp, length, inl, inr, sym, ap, ◌∙◌, subst, arith}
use Rattle.std.proofs.lemmas.Bool.{cases_eq}
use Rattle.std.specs.Cmp.Lexicographic.{slice_cmp}
use Rattle.std.specs.List.Sorted.{IsStrictlySortedBy}
use Rattle.tf_config_data.specs.Names.{NameView}
use Rattle.tf_graph.specs.Path.{Reaches}
use Rattle.tf_laws.proofs.Telling.{decided_reaches, graph_before, graph_of}
use Rattle.tf_config_names.proofs.Edging.{place_of-below}
use Rattle.tf_config_names.proofs.Needing.{needs-declared, needs-from_reaches, reaches-from_needs, reaching-named}
use Rattle.tf_config_names.proofs.Rings.{name_at-place}
use Rattle.tf_config_names.specs.Needs.{AreCyclic, name_at, pair_text}
use Rattle.tf_state.proofs.Permuted.{contains_nothing, put_text-has, put_text-keeps, put_text-only, put_text-sorted}
use Rattle.tf_state.specs.Reading.{put_text}

-- the texts of those among the first names that need themselves, each once and in byte order
record AreNoted (names : List NameView) (upto : ℕ) (texts : List (List ℕ)) : Type 0 where
  in_order : IsStrictlySortedBy (slice_cmp nat_cmp) texts
  found : (k : ℕ) → k < upto → Reaches (graph_of names) k k → Contains texts (pair_text (name_at names k))
  led : (text : List ℕ) → Contains texts text → (k : ℕ) × Reaches (graph_of names) k k × (pair_text (name_at names k) ≡ text)

none_noted : (names : List NameView) → AreNoted names zero []
unfolding IsStrictlySortedBy
none_noted names = record { in_order = tt; found = λ k h. absurd (omega (arith, h)); led = λ text c. absurd (contains_nothing text c) }

some_noted : (names : List NameView) (upto : ℕ) → (texts : List (List ℕ)) × AreNoted names upto texts
some_noted names zero = ([], none_noted names)
some_noted names (suc upto) =
    let rest = some_noted names upto in
    elim (decided_reaches names upto upto) [
      | inl itself ↦ (
        put_text (pair_text (name_at names upto)) rest.0,
        record {
          in_order = put_text-sorted (pair_text (name_at names upto)) rest.0 rest.1.in_order;
          found = λ k h path. elim (cases_eq k upto) [
            | inl here ↦ subst (λ (j : ℕ). Contains (put_text (pair_text (name_at names upto)) rest.0) (pair_text (name_at names j))) (sym here) (put_text-has (pair_text (name_at names upto)) rest.0)
            | inr other ↦ put_text-keeps (pair_text (name_at names upto)) (pair_text (name_at names k)) rest.0 (rest.1.found k (omega (arith, h, other)) path)
          ];
          led = λ text c. elim (put_text-only (pair_text (name_at names upto)) text rest.0 c) [ inl new ↦ (upto, itself, new) | inr old ↦ rest.1.led text old ];
        },
      )
      | inr not ↦ (
        rest.0,
        record {
          in_order = rest.1.in_order;
          found = λ k h path. elim (cases_eq k upto) [
            | inl here ↦ absurd (not (subst (λ (j : ℕ). Reaches (graph_of names) j j) here path))
            | inr other ↦ rest.1.found k (omega (arith, h, other)) path
          ];
          led = rest.1.led;
        },
      )
    ]

pub some_cyclic : (names : List NameView) → (texts : List (List ℕ)) × AreCyclic names texts
some_cyclic names =
    let noted = some_noted names (length names) in (
      noted.0,
      record {
        in_order = noted.1.in_order;
        found = λ pair needs.
            let place = needs-declared names pair pair needs in
            subst (λ p. Contains noted.0 (pair_text p)) (name_at-place names pair place.0 place.1)
            (noted.1.found place.0 (place_of-below names pair place.0 place.1) (reaches-from_needs names (graph_of names) (graph_before names) pair pair place.0 place.0 place.1 place.1 needs));
        led = λ text c.
            let k = noted.1.led text c in
            let n = reaching-named names (graph_of names) (graph_before names) k.0 k.0 k.1 in (
              n.0,
              needs-from_reaches names (graph_of names) (graph_before names) k.0 k.0 k.1 n.0 n.0 n.1 n.1,
              ap pair_text (sym (name_at-place names n.0 k.0 n.1)) ∙ k.2,
            );
      },
    )
