-- Edges that do not leave the location of the taken state are passed over: their play changes nothing. Assumes nothing.
use Rattle.semantics.proofs.Prelude.{◌≡◌, refl, sym, ap, ◌∙◌, Bool, true, false, List, [], ◌∷◌, ◌++◌, ℕ, suc, ◌+◌, ◌-◌, ◌≤◌, arith, ne_eqb, ltb-true, ltb-false, le-ltb, ltb, length, ℤ}
use Rattle.semantics.specs.declared.Settings.{Settings}
use Rattle.semantics.specs.Algorithm.{Domain, Step, blocked, then, taking, visit, visit_all, takers}
use Rattle.semantics.specs.Lists.{pick}
use Rattle.state.specs.Rows.{location_in}
use Rattle.words.proofs.LentNumbers.{over_all}
use Rattle.transfer.specs.Transfer.{edges_from, post_at, post_words}
use Rattle.analysis.specs.Chains.{from_at, Passed}
use Rattle.analysis.specs.Loaded.{domain_of}
use Rattle.analysis.proofs.Arrival.{edges_turn, edges_none}

-- an edge that leaves another location has no successor
no_successor : (c : List ℤ) (g : ℕ) (e : List ℤ) → (from_at c g ≡ location_in e → ⊥) → post_words c g e ≡ blocked
unfolding post_words post_at
no_successor c g e h = rw (ne_eqb (from_at c g) (location_in e) h)

-- what comes of the edges, F, is the same without an edge that does not leave the location of e
module _ (c e : List ℤ) (n : ℕ) {A : Type 0} (F : List ℕ → A) (skip : (g : ℕ) (gs : List ℕ) → (from_at c g ≡ location_in e → ⊥) → F (g ∷ gs) ≡ F gs) where
  abbrev rest : ℕ → A
  rest g = F (edges_from g (n - g))

  pass_one : (g : ℕ) → (from_at c g ≡ location_in e → ⊥) → rest g ≡ rest (g + 1)
  pass_one g h = go (ltb g n) refl
    where
      go : (b : Bool) → ltb g n ≡ b → rest g ≡ rest (g + 1)
      go true t = ap F (edges_turn g n (ltb-true g n t)) ∙ skip g (edges_from (g + 1) (n - (g + 1))) h
      go false t = ap F (edges_none g n (ltb-false g n t) ∙ sym (edges_none (g + 1) n (omega (arith, ltb-false g n t))))

  -- edges from g, and from m on, where none up to m leaves the location
  passed_by : (g m : ℕ) → g ≤ m → Passed c (location_in e) g m → rest g ≡ rest m
  passed_by = over_all rest (λ g. from_at c g ≡ location_in e → ⊥) pass_one

module _ (c : List ℤ) (s : Settings) (r : ℕ) (e : List ℤ) (n : ℕ) (en : List (List ℤ)) (wa : List ℕ) where
  abbrev D : Domain (List ℤ) ℕ
  D = domain_of c

  -- their play
  pub passed_over : (g m : ℕ) → g ≤ m → Passed c (location_in e) g m → visit_all D s r e (edges_from g (n - g)) en wa ≡ visit_all D s r e (edges_from m (n - m)) en wa
  passed_over = passed_by c e n (λ gs. visit_all D s r e gs en wa) (λ g gs h. ap (λ (x : Step (List ℤ)). then (visit D s r (suc g) x en wa) (λ en wa. visit_all D s r e gs en wa)) (no_successor c g e h))

  -- and those by which slots are taken
  pub passed_takers : (g m : ℕ) → g ≤ m → Passed c (location_in e) g m → takers D s r e (edges_from g (n - g)) en wa ≡ takers D s r e (edges_from m (n - m)) en wa
  passed_takers = passed_by c e n (λ gs. takers D s r e gs en wa) skip
    where
      skip : (g : ℕ) (gs : List ℕ) → (from_at c g ≡ location_in e → ⊥) → takers D s r e (g ∷ gs) en wa ≡ takers D s r e gs en wa
      skip g gs h =
          ap (λ (x : Step (List ℤ)). taking (suc g) (length en) (visit D s r (suc g) x en wa) (λ en wa. takers D s r e gs en wa)) (no_successor c g e h)
          ∙ ap (λ (b : Bool). pick b (suc g ∷ []) [] ++ takers D s r e gs en wa) (le-ltb (length en) (length en) (omega arith))
