-- Distances allow a search to turn back: where fewer moves are left than one says, nothing is found. Assumes nothing.
use Rattle.semantics.proofs.Prelude.{◌≡◌, ap, subst, ◌⊎◌, inl, inr, List, [], ◌∷◌, map, none, ℕ, suc, ◌≤◌, ◌<◌, arith, ℤ}
use Rattle.semantics.specs.Lists.{In}
use Rattle.semantics.specs.Chart.{top, Var, Edge, Chart, Numbered, numbered, State, Moves, Ranged, Matches}
use Rattle.semantics.specs.Algorithm.{Step, fault, to}
use Rattle.semantics.specs.Constants.{AbstractState, Covers, post}
use Rattle.semantics.specs.Search.{Choice, choices, move, found, explicit}
use Rattle.semantics.proofs.ConstantsSound.{laws}
use Rattle.semantics.proofs.Searching.{Bound, nothing_found}
use Rattle.semantics.proofs.ChartChoices.{choices_in}
use Rattle.semantics.proofs.RealRuns.{Taken, taken, faulted}
use Rattle.descent.specs.Distances.{anywhere, Near, Distances, from_anywhere}

tops_match : (vars : List Var) (xs : List ℤ) → Ranged vars xs → Matches (map (λ v. top) vars) xs
tops_match [] [] r = tt
tops_match [] (x ∷ xs) r = absurd r
tops_match (v ∷ vs) [] r = absurd r
tops_match (v ∷ vs) (x ∷ xs) r = (tt, tops_match vs xs r.1)

module _ (c : Chart) (d : ℕ → ℕ) (h : Distances c d) where
  covers : (l : ℕ) (s : State) → l ≡ s.loc → Ranged c.vars s.vals → Covers c (anywhere c l) s
  covers l s e r = record { loc = e; vals = tops_match c.vars s.vals r; ranged = r }

  near : (g : Numbered) (z : Step AbstractState) → In g (numbered c) → from_anywhere c g.edge ≡ z → Near d g.edge z
  near g z i e = subst (λ (z : Step AbstractState). Near d g.edge z) e (h.at_edge g i)

  near_fault : (a : Choice) (s : State) → Ranged c.vars s.vals → In a (choices c) → move c a s ≡ fault → d s.loc ≤ 1
  near_fault a s r i e =
      let o = faulted c a s e in
      let p = (laws c).post_faults a.edge (anywhere c a.edge.edge.from) s (covers a.edge.edge.from s o.leaves r) o in
      subst (λ (l : ℕ). d l ≤ 1) o.leaves (near a.edge fault (choices_in c a i).0 p)

  near_move : (a : Choice) (s t : State) → Ranged c.vars s.vals → In a (choices c) → Moves c a.edge.edge s t → d s.loc ≤ suc (d t.loc)
  near_move a s t r i m = go ((laws c).post_covers a.edge (anywhere c g.from) s t (covers g.from s m.leaves r) m)
    where
      g : Edge
      g = a.edge.edge

      go : (post c g (anywhere c g.from) ≡ fault) ⊎ ((f : AbstractState) × (post c g (anywhere c g.from) ≡ to f) × Covers c f t) → d s.loc ≤ suc (d t.loc)
      go (inl p) =
          let l : d s.loc ≤ 1 = subst (λ (l : ℕ). d l ≤ 1) m.leaves (near a.edge fault (choices_in c a i).0 p) in
          omega arith
      go (inr p) =
          let l : d g.from ≤ suc (d g.to) = near a.edge (to p.0) (choices_in c a i).0 p.1 in
          omega (arith, ap d m.leaves, ap d m.comes)

  bound : Bound (explicit c) (λ s. Ranged c.vars s.vals) (λ s. d s.loc)
  unfolding Taken
  bound = record {
    at_error = λ s r t. h.at_error s.loc t;
    at_fault = near_fault;
    at_move = λ a s t r i e. let m = taken c a s t r i e in (m.0.ranged, near_move a s t r i m.0);
  }

-- with fewer moves left than the distance no run is found
pub turned_back : (c : Chart) (d : ℕ → ℕ) → Distances c d → (m : ℕ) (s : State) → Ranged c.vars s.vals → m < d s.loc → found (explicit c) m s ≡ none
turned_back c d h m s r l = nothing_found (explicit c) (λ s. Ranged c.vars s.vals) (λ s. d s.loc) (bound c d h) m s r l
