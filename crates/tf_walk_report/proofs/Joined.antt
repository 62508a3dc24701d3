-- What comes of the actions of a plan, as the code has it.
use Rattle.std.proofs.Common.{◌≡◌, List, [], ◌∷◌, map, refl, sym, subst}
use Rattle.std.specs.List.{AllByRecursion}
use Rattle.tf_state_next.specs.Events.{ApplyView, DestroyView, EventsView, MetadataUpdateView}
use Rattle.tf_state_data.specs.Ids.{AreById}
use Rattle.tf_state_data.specs.Resource.{resource_of}
use Rattle.tf_state_data.specs.declared.resource.Resource.{Resource}

-- what holds of events holds of the same ones
pub events_as : (P : EventsView → Type 0) (ds fs : List DestroyView) (xs ys : List ApplyView) (rs qs : List MetadataUpdateView) → ds ≡ fs → xs ≡ ys → rs ≡ qs
    → P (record { destroys = fs; applies = ys; metadata_updates = qs }) → P (record { destroys = ds; applies = xs; metadata_updates = rs })
events_as P ds fs xs ys rs qs d x r h =
    subst (λ (zs : List DestroyView). P (record { destroys = zs; applies = xs; metadata_updates = rs })) (sym d)
    (subst (λ (zs : List ApplyView). P (record { destroys = fs; applies = zs; metadata_updates = rs })) (sym x)
    (subst (λ (zs : List MetadataUpdateView). P (record { destroys = fs; applies = ys; metadata_updates = zs })) (sym r) h))

-- what tells the same events is the same
pub events_are : (a b : EventsView) → a.destroys ≡ b.destroys → a.applies ≡ b.applies → a.metadata_updates ≡ b.metadata_updates → a ≡ b
events_are a b d x r = events_as (λ e. e ≡ b) a.destroys b.destroys a.applies b.applies a.metadata_updates b.metadata_updates d x r refl

-- the records of each resource are in order
pub each_ordered : (rs : List Resource) → AllByRecursion (λ r. AreById r.records) (map resource_of rs)
each_ordered [] = tt
each_ordered (r ∷ rs) = (r.ordered, each_ordered rs)
