-- Whatever comes to hints, or goes, leaves each below the bound.
use Rattle.std.proofs.Common.{ℕ, ◌<◌, All, List, [], ◌∷◌, ◌++◌, length, subst}
use lib.Seq.{take-append_seam, drop-append_seam}
use Rattle.std.proofs.lemmas.List.Elements.{All-take, All-drop}
use Rattle.crossbeam_deque.specs.Tasks.{Takes, Pops}

abbrev AllBelow : ℕ → List ℕ → Type 0
AllBelow bound hints = All (λ n. n < bound) hints

abbrev Holds : ℕ → List ℕ → List (Unit {0}) → Type 0
Holds bound hints _ = AllBelow bound hints

first : (bound : ℕ) (xs ys : List ℕ) → AllBelow bound (xs ++ ys) → AllBelow bound xs
first bound xs ys h = subst (AllBelow bound) (take-append_seam xs ys) (All-take (λ n. n < bound) (length xs) (xs ++ ys) h)

rest : (bound : ℕ) (xs ys : List ℕ) → AllBelow bound (xs ++ ys) → AllBelow bound ys
rest bound xs ys h = subst (AllBelow bound) (drop-append_seam xs ys) (All-drop (λ n. n < bound) (length xs) (xs ++ ys) h)

pub takes : (bound port : ℕ) (v : Unit {0}) (most : ℕ) → Takes (Holds bound) port v most (λ xs _. AllBelow bound xs)
takes bound port v most xs hints views _ _ h _ = (tt, rest bound xs hints h, first bound xs hints h)

pub pops : (bound port : ℕ) (v : Unit {0}) → Pops (Holds bound) port v (λ xs _. AllBelow bound xs)
pops bound port v x hints views h _ = (tt, first bound hints (x ∷ []) h, rest bound hints (x ∷ []) h)
