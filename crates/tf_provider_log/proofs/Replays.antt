-- Providers that answer what true entries tell are the very providers.
use Rattle.std.proofs.Common.{◌≡◌, ◌∙◌, ap, refl, Bool, true, false, cond, not, ◌&&◌, List, [], ◌∷◌, filter, Option, Some, None, unwrap_or}
use Rattle.std.specs.Prelude.{All, Decides}
use Rattle.std.proofs.lemmas.Slice.Eq.{bytes_eq-Decides}
use Rattle.std.specs.Str.{bytes_eq}
use Rattle.std.specs.Option.{option_or}
use Rattle.std.proofs.lemmas.List.Elements.{All-nil, All-cons, All-head, All-tail, All-take}
use mathlib.Core.Path.{fun_ext}
use Rattle.tf_provider_log.specs.LogEntry.{LogEntryView, begun, replied}
use Rattle.tf_provider_log.specs.ReplayLaws.{SameIsEquality, ReplayedAreThemselves, BeginningsAreTrue}
use Rattle.tf_provider_log.specs.Replayed.{answer_in, replayed, has_its_type}
use Rattle.tf_provider_log.specs.Same.{is_same, is_same_op, is_same_option}
use Rattle.tf_provider_log.specs.True.{AreTrue, IsTrueAmong, IsTrueOf}
use Rattle.tf_provider_protocol.specs.Meaning.{Asked, Answer, Meaning}
use Rattle.tf_provider_protocol.specs.declared.request.Op.{Op}
use Rattle.tf_provider_protocol.specs.declared.request.Op.TheVariants.{Create, Update, Destroy}
use Rattle.tf_value_data.specs.Equality.{same_Decides}
use Rattle.tf_value_data.specs.Tree.{same}

is_same_op_Decides : (a b : Op) → Decides (is_same_op a b) (a ≡ b)
is_same_op_Decides Create Create = (λ e. refl, λ e. refl)
is_same_op_Decides Update Update = (λ e. refl, λ e. refl)
is_same_op_Decides Destroy Destroy = (λ e. refl, λ e. refl)
is_same_op_Decides _ _ = (λ e. cc, λ e. cc)

is_same_option_Decides : {A : Type 0} (test : A → A → Bool) → ((a b : A) → Decides (test a b) (a ≡ b)) → (o p : Option A) → Decides (is_same_option test o p) (o ≡ p)
is_same_option_Decides test h (Some a) (Some b) = (λ e. ap Some ((h a b).0 e), λ e. (h a b).1 (cc))
is_same_option_Decides test h None None = (λ e. refl, λ e. refl)
is_same_option_Decides test h _ _ = (λ e. cc, λ e. cc)

-- where each of two tests decides its fact, both together decide both facts
both : {P Q : Type 0} (b c : Bool) → Decides b P → Decides c Q → Decides (b && c) (P × Q)
both true c p q = (λ e. (p.0 refl, q.0 e), λ r. q.1 r.1)
both false c p q = (λ e. absurd (cc), λ r. p.1 r.0)

-- requests with the same parts are the same
of_same_parts : (q r : Asked) → (q.op ≡ r.op) → (q.address ≡ r.address) → (q.type_name ≡ r.type_name) → (q.deposed ≡ r.deposed) → (q.prior ≡ r.prior) → (q.object ≡ r.object) → q ≡ r
of_same_parts q r o a t d p w = λ i. record { op = o i; address = a i; type_name = t i; deposed = d i; prior = p i; object = w i }

pub same_is_equality : SameIsEquality
same_is_equality q r =
    let object = is_same_option_Decides same same_Decides q.object r.object in
    let prior = both _ _ (is_same_option_Decides same same_Decides q.prior r.prior) object in
    let deposed = both _ _ (is_same_option_Decides bytes_eq bytes_eq-Decides q.deposed r.deposed) prior in
    let type_name = both _ _ (bytes_eq-Decides q.type_name r.type_name) deposed in
    let address = both _ _ (bytes_eq-Decides q.address r.address) type_name in
    let all = both _ _ (is_same_op_Decides q.op r.op) address in (
      λ e. let s = all.0 e in of_same_parts q r s.0 s.1.0 s.1.1.0 s.1.1.1.0 s.1.1.1.1.0 s.1.1.1.1.1,
      λ e. all.1 (ap (λ (x : Asked). x.op) e, (ap (λ (x : Asked). x.address) e, (ap (λ (x : Asked). x.type_name) e, (ap (λ (x : Asked). x.deposed) e, (ap (λ (x : Asked). x.prior) e, ap (λ (x : Asked). x.object) e))))),
    )

-- one entry more, which is true, where the test tells the same requests
told_more : (m : Meaning) (es : List LogEntryView) (q r : Asked) (a : Option Answer) (b : Bool) → (b ≡ true → q ≡ r) → IsTrueOf m (replied q a) → unwrap_or (answer_in es r) (m.answer r) ≡ m.answer r
    → unwrap_or (option_or (cond b a None) (answer_in es r)) (m.answer r) ≡ m.answer r
told_more m es q r a false same h rest = rest
told_more m es q r None true same h rest = rest
told_more m es q r (Some a) true same h rest = h ∙ ap m.answer (same refl)

-- what true entries tell to a request is what the provider answers
told_is_answered : (m : Meaning) (es : List LogEntryView) (r : Asked) → All (IsTrueOf m) es → unwrap_or (answer_in es r) (m.answer r) ≡ m.answer r
told_is_answered m [] r h = refl
told_is_answered m (begun q ∷ es) r h = told_is_answered m es r (All-tail (IsTrueOf m) (begun q) es h)
told_is_answered m (replied q a ∷ es) r h =
    told_more m es q r a (is_same q r) (λ e. (same_is_equality q r).0 e) (All-head (IsTrueOf m) (replied q a) es h)
    (told_is_answered m es r (All-tail (IsTrueOf m) (replied q a) es h))

replayed_is_itself : (m : Meaning) (es : List LogEntryView) → All (IsTrueOf m) es → replayed es m ≡ m
replayed_is_itself m es h = ap (λ (f : Asked → Answer). record { answer = f; schema_of = m.schema_of }) (fun_ext (λ r. told_is_answered m es r h))

true_of_first : (m : Meaning) (ms : List Meaning) (e : LogEntryView) → has_its_type m e ≡ true → IsTrueAmong (m ∷ ms) e → IsTrueOf m e
true_of_first m ms (begun r) is h = tt
true_of_first m ms (replied r None) is h = tt
true_of_first m ms (replied r (Some a)) is h = rw is at h

true_of_others : (m : Meaning) (ms : List Meaning) (e : LogEntryView) → has_its_type m e ≡ false → IsTrueAmong (m ∷ ms) e → IsTrueAmong ms e
true_of_others m ms (begun r) is h = tt
true_of_others m ms (replied r None) is h = tt
true_of_others m ms (replied r (Some a)) is h = rw is at h

own_more : (m : Meaning) (ms : List Meaning) (e : LogEntryView) (rest : List LogEntryView) (b : Bool) → has_its_type m e ≡ b → IsTrueAmong (m ∷ ms) e → All (IsTrueOf m) rest → All (IsTrueOf m) (cond b (e ∷ rest) rest)
own_more m ms e rest true is h t = All-cons (IsTrueOf m) e rest (true_of_first m ms e is h) t
own_more m ms e rest false is h t = t

own_are_true : (m : Meaning) (ms : List Meaning) (es : List LogEntryView) → AreTrue (m ∷ ms) es → All (IsTrueOf m) (filter (has_its_type m) es)
own_are_true m ms [] h = All-nil (IsTrueOf m)
own_are_true m ms (e ∷ es) h =
    own_more m ms e (filter (has_its_type m) es) (has_its_type m e) refl (All-head (IsTrueAmong (m ∷ ms)) e es h)
    (own_are_true m ms es (All-tail (IsTrueAmong (m ∷ ms)) e es h))

others_more : (m : Meaning) (ms : List Meaning) (e : LogEntryView) (rest : List LogEntryView) (b : Bool) → has_its_type m e ≡ b → IsTrueAmong (m ∷ ms) e → AreTrue ms rest → AreTrue ms (cond (not b) (e ∷ rest) rest)
others_more m ms e rest true is h t = t
others_more m ms e rest false is h t = All-cons (IsTrueAmong ms) e rest (true_of_others m ms e is h) t

others_are_true : (m : Meaning) (ms : List Meaning) (es : List LogEntryView) → AreTrue (m ∷ ms) es → AreTrue ms (filter (λ e. not (has_its_type m e)) es)
others_are_true m ms [] h = All-nil (IsTrueAmong ms)
others_are_true m ms (e ∷ es) h =
    others_more m ms e (filter (λ x. not (has_its_type m x)) es) (has_its_type m e) refl (All-head (IsTrueAmong (m ∷ ms)) e es h)
    (others_are_true m ms es (All-tail (IsTrueAmong (m ∷ ms)) e es h))

pub replayed_are_themselves : ReplayedAreThemselves
replayed_are_themselves [] es h = refl
replayed_are_themselves (m ∷ ms) es h =
    let first : replayed (filter (has_its_type m) es) m ≡ m = replayed_is_itself m (filter (has_its_type m) es) (own_are_true m ms es h) in
    let others = replayed_are_themselves ms (filter (λ e. not (has_its_type m e)) es) (others_are_true m ms es h) in
    λ i. first i ∷ others i

pub beginnings_are_true : BeginningsAreTrue
beginnings_are_true ms n es h = All-take (IsTrueAmong ms) n es h
