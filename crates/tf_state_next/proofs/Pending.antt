-- Events that are recorded one by one, the last of those that are left first.
use Rattle.std.proofs.Common.{◌≡◌, ◌∷◌, ◌++◌, ℕ, List, [], map, sym, subst}
use Rattle.tf_config_address.specs.ResourceAddr.{ResourceAddrView}
use Rattle.tf_state_next.proofs.Changing.{heads_ordered}
use Rattle.tf_state_next.proofs.Finding.{apart_front}
use Rattle.tf_state_next.specs.Events.{AreApart}
use Rattle.tf_state_next.specs.StateDraft.{HaveRoom}
use Rattle.tf_state_next.specs.Recorded.{heads_of}
use Rattle.tf_state_data.specs.Addresses.{AreByAddress}
use Rattle.tf_state_data.specs.Resource.{ResourceView, resource_of}
use Rattle.tf_state_data.specs.declared.resource.Resource.{Resource}

-- what came of some of all events is recorded: once that of those that are left is too, so is that of all
pub record Pending {A B : Type 0} (Done : List A → List ResourceView → List ResourceView → Type 0) (about : A → B) (left all : List A) (now first : List Resource) : Type 0 where
  pub recorded : (after : List ResourceView) → Done left (map resource_of now) after → Done all (map resource_of first) after
  pub ordered : AreByAddress (map resource_of now)
  pub apart : AreApart about left
  pub room : (count : ResourceAddrView → ℕ) → HaveRoom count first → HaveRoom count now

-- events after others are all of them
abbrev pub Joined : {A B : Type 0} → (List A → List ResourceView → List ResourceView → Type 0) → (A → B) → Type 0
Joined {A} Done about = (xs ys : List A) (before mid after : List ResourceView) → AreApart about (xs ++ ys) → Done ys before mid → Done xs mid after → Done (xs ++ ys) before after

-- one more event is recorded
pub pending_fewer : {A B : Type 0} (Done : List A → List ResourceView → List ResourceView → Type 0) (about : A → B) (front : List A) (x : A) (left all : List A) (now next first : List Resource) → Joined Done about
    → left ≡ front ++ x ∷ [] → Done (x ∷ []) (map resource_of now) (map resource_of next) → heads_of (map resource_of next) ≡ heads_of (map resource_of now)
    → ((count : ResourceAddrView → ℕ) → HaveRoom count now → HaveRoom count next) → Pending Done about left all now first → Pending Done about front all next first
pending_fewer {A} Done about front x left all now next first joined is step heads room p =
    let apart = subst (λ (xs : List A). AreApart about xs) is p.apart in
    record {
      recorded = λ after h. p.recorded after (subst (λ (xs : List A). Done xs (map resource_of now) after) (sym is) (joined front (x ∷ []) (map resource_of now) (map resource_of next) after apart step h));
      ordered = heads_ordered (map resource_of now) (map resource_of next) heads p.ordered;
      apart = apart_front about front (x ∷ []) apart;
      room = λ count h. room count (p.room count h);
    }
