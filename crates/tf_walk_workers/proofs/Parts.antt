-- What a tally's calls make of parts that are known.
use Rattle.std.proofs.Common.{◌≡◌, ◌+◌, ◌-◌, ℕ, List, [], ◌∷◌, ◌++◌, sym, ap, ap₂, subst, ◌∙◌}
use Rattle.atomic_table.specs.Seated.{TableId}
use Rattle.tf_tally.specs.declared.holding.Holding.{Holding}
use Rattle.tf_tally.specs.Holdings.{HeldPart, staying, going, merged, added}
use Rattle.tf_walk_workers.specs.Calls.{HasParts}
use Rattle.tf_walk_workers.specs.declared.call_record.CallRecord.{CallRecord}

abbrev H : Type 0
H = Holding CallRecord

module _ (table : TableId) where
  pub stays : (n : ℕ) (ks ts : List CallRecord) (p new : HeldPart CallRecord) → HasParts table n ks ts p → new.table ≡ table → new.holding ≡ staying p.holding → HasParts table (n - 1) ks [] new
  stays n ks ts p new has own is =
      record {
        own = own;
        counts = ap (λ (v : H). v.parts) is ∙ ap (λ (k : ℕ). k - 1) has.counts;
        keeps = ap (λ (v : H). v.kept) is ∙ has.keeps;
        reports = ap (λ (v : H). v.reported) is;
      }

  pub goes : (n : ℕ) (ks ts : List CallRecord) (p new : HeldPart CallRecord) → HasParts table n ks ts p → new.table ≡ table → new.holding ≡ going p.holding → HasParts table 1 [] ts new
  goes n ks ts p new has own is =
      record {
        own = own;
        counts = ap (λ (v : H). v.parts) is;
        keeps = ap (λ (v : H). v.kept) is;
        reports = ap (λ (v : H). v.reported) is ∙ has.reports;
      }

  pub merges : (m n : ℕ) (ks ls ts us : List CallRecord) (p q new : HeldPart CallRecord) → HasParts table m ks ts p → HasParts table n ls us q → new.table ≡ table → new.holding ≡ merged p.holding q.holding
      → HasParts table (m + n) (ks ++ ls) (ts ++ us) new
  merges m n ks ls ts us p q new has other own is =
      record {
        own = own;
        counts = ap (λ (v : H). v.parts) is ∙ ap₂ (λ (a b : ℕ). a + b) has.counts other.counts;
        keeps = ap (λ (v : H). v.kept) is ∙ ap₂ (λ (a b : List CallRecord). a ++ b) has.keeps other.keeps;
        reports = ap (λ (v : H). v.reported) is ∙ ap₂ (λ (a b : List CallRecord). a ++ b) has.reports other.reports;
      }

  pub adds : (n : ℕ) (ks ts : List CallRecord) (x : CallRecord) (p new : HeldPart CallRecord) → HasParts table n ks ts p → new.table ≡ table → new.holding ≡ added x p.holding → HasParts table n (ks ++ x ∷ []) (ts ++ x ∷ []) new
  adds n ks ts x p new has own is =
      record {
        own = own;
        counts = ap (λ (v : H). v.parts) is ∙ has.counts;
        keeps = ap (λ (v : H). v.kept) is ∙ ap (λ (a : List CallRecord). a ++ x ∷ []) has.keeps;
        reports = ap (λ (v : H). v.reported) is ∙ ap (λ (a : List CallRecord). a ++ x ∷ []) has.reports;
      }

  -- a part that is known in other words
  pub said : (m n : ℕ) (ks ls ts us : List CallRecord) (p : HeldPart CallRecord) → m ≡ n → ks ≡ ls → ts ≡ us → HasParts table m ks ts p → HasParts table n ls us p
  said m n ks ls ts us p a b c has =
      record { own = has.own; counts = has.counts ∙ a; keeps = has.keeps ∙ b; reports = has.reports ∙ c }
