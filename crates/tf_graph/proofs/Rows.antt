-- The lists of each node's neighbours: after a write, and one edge on.
use Rattle.std.proofs.Common.{◌≡◌, ◌==◌, ◌++◌, ◌∷◌, ◌<◌, [], ℕ, List, cond, length, map, filter, set, get_or, refl, sym, ap, ◌∙◌, arith, Vec, All, eqb, zero, suc}
use Rattle.std.proofs.lemmas.List.{map-set, get_or-set_same, get_or-set_other, length-map, get_or-map}
use Rattle.std.proofs.lemmas.List.Elements.{All-filter, All-map, All-from_get_or}
use Rattle.std.proofs.lemmas.Bool.Decides.{nat_tests}
use Rattle.tf_graph.specs.Digraph.{IsWithin, sources_into, targets_from, edge_at}
use Rattle.tf_graph.specs.Lists.{row}

pub get_or-set_test : {A : Type 0} → (xs : List A) (i : ℕ) (x d : A) (n : ℕ) → i < length xs → get_or (set xs i x) n d ≡ cond (eqb i n) x (get_or xs n d)
get_or-set_test xs i x d n h = grind (arith, nat_tests, get_or-set_same {A = _} xs i x d, get_or-set_other xs i n x d)

pub row-set : {A : Type 0} → (lists : List (Vec ℕ A)) (at : ℕ) (list : Vec ℕ A) (n : ℕ) → at < length lists → row (set lists at list) n ≡ cond (eqb at n) list.items (row lists n)
row-set lists at list n h =
    rw (map-set (λ v. v.items) lists at list) (get_or-set_test (map (λ v. v.items) lists) at list.items [] n (omega (arith, length-map lists (λ v. v.items))))

-- what reading a list gives
pub row_read : {A : Type 0} → (lists : List (Vec ℕ A)) (n : ℕ) (list : Vec ℕ A) → n < length lists → list ≡ get_or lists n list → list.items ≡ row lists n
row_read lists n list h e =
    ap (λ v. v.items) e ∙ sym (get_or-map (λ v. v.items) lists n list [] h)

-- one list gains a node at its end
pub row-add : {A : Type 0} → (lists : List (Vec ℕ A)) (at node : ℕ) (list added : Vec ℕ A) (n : ℕ) → at < length lists → list ≡ get_or lists at list → added.items ≡ (get_or lists at list).items ++ node ∷ [] → row (set lists at added) n ≡ cond (eqb at n) (row lists n ++ node ∷ []) (row lists n)
row-add lists at node list added n h read e =
    let r = row_read lists at list h read in
    let s = row-set lists at added n h in
    grind (arith, nat_tests)

pub row-push_empty : {A : Type 0} → (lists : List (Vec ℕ A)) (list : Vec ℕ A) (n : ℕ) → list.items ≡ [] → row lists n ≡ [] → row (lists ++ list ∷ []) n ≡ []
row-push_empty [] list zero e h = e
row-push_empty [] list (suc n) e h = refl
row-push_empty (v ∷ vs) list zero e h = h
row-push_empty (v ∷ vs) list (suc n) e h = row-push_empty vs list n e h

-- where both ends of each edge are below a bound, so is one end of those whose other end is a node
picked-within : (at other : ℕ × ℕ → ℕ) (nodes : ℕ) (edges : List (ℕ × ℕ)) (n : ℕ) → ((i : ℕ) → i < length edges → other (edge_at edges i) < nodes) → All (λ k. k < nodes) (map other (filter (λ (e : ℕ × ℕ). at e == n) edges))
picked-within at other nodes edges n below =
    All-map (λ k. k < nodes) other (filter (λ (e : ℕ × ℕ). at e == n) edges) (All-filter (λ (e : ℕ × ℕ). at e == n) (λ (e : ℕ × ℕ). other e < nodes) edges (All-from_get_or (λ (e : ℕ × ℕ). other e < nodes) edges (0, 0) below))

pub sources_into-within : (nodes : ℕ) (edges : List (ℕ × ℕ)) (n : ℕ) → IsWithin nodes edges → All (λ k. k < nodes) (sources_into edges n)
sources_into-within nodes edges n w = picked-within (λ e. e.1) (λ e. e.0) nodes edges n w.source_below

pub targets_from-within : (nodes : ℕ) (edges : List (ℕ × ℕ)) (n : ℕ) → IsWithin nodes edges → All (λ k. k < nodes) (targets_from edges n)
targets_from-within nodes edges n w = picked-within (λ e. e.0) (λ e. e.1) nodes edges n w.target_below

-- what was read of the lists is below a bound where their rows are
pub read-within : {A : Type 0} → (lists : List (Vec ℕ A)) (nodes n : ℕ) (list : Vec ℕ A) (read all : List ℕ) → read ≡ list.items → n < length lists → list ≡ get_or lists n list → row lists n ≡ all → All (λ k. k < nodes) all → All (λ k. k < nodes) read
read-within lists nodes n list read all e h is rows below = rw (e ∙ row_read lists n list h is ∙ rows) below
