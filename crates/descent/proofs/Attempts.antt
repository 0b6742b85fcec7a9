-- The runs of so many moves, from the starting states in turn, and deepening. Assumes nothing.
use mathlib.Core.Option.{map}
use Rattle.std.specs.Prelude.{Option as Perhaps, Some, None}
use Rattle.semantics.proofs.Prelude.{◌≡◌, refl, sym, ap, ◌∙◌, subst, inl, inr, List, [], ◌∷◌, ◌++◌, Option, none, some, ℕ, zero, suc, ◌+◌, ◌-◌, ◌≤◌, ◌<◌, add-one, arith, T, leb, le-leb, lt-leb, ltb→lt, ℤ, length, drop, drop-append_seam}
use Rattle.semantics.specs.Lists.{pick, In, all}
use Rattle.semantics.specs.Chart.{Edge, Chart, Numbered, number_from, State, Ranged}
use Rattle.semantics.specs.Encoding.{edge_ok}
use Rattle.semantics.specs.Search.{Trail, here, overrun, by, ErrorRun, run_from, or_else, first_of, found, attempt, deepen, Choice, state, starting_values, explicit}
use Rattle.semantics.specs.RealRuns.{Follows}
use Rattle.semantics.proofs.Bools.{and_left, and_right}
use Rattle.semantics.proofs.StatesOk.{Bounds}
use Rattle.semantics.proofs.Searching.{lists, found_sound}
use Rattle.semantics.proofs.ChartChoices.{choices_in}
use Rattle.semantics.proofs.RealRuns.{Taken, taken}
use Rattle.state.specs.Rows.{location_in, values_of}
use Rattle.descent.specs.Rows.{state_of, Concrete}
use Rattle.descent.specs.Starts.{Starts, starts_after}
use Rattle.descent.specs.declared.End.{End}
use Rattle.descent.specs.declared.Run.{Run}
use Rattle.descent.specs.Trails.{end_of, trail_words, answer_of, laid, Went, Within, Held, Holds}
use Rattle.descent.proofs.StartingValues.{starts_concrete}
use Rattle.descent.proofs.Turns.{something, first_map}

-- ---- every state of a trail is the chart's

edge_in_bounds : (c : Chart) (n : ℕ) (gs : List Edge) (g : Numbered) → T (all (edge_ok c) gs) → In g (number_from n gs) → T (edge_ok c g.edge)
edge_in_bounds c n [] g t i = absurd i
edge_in_bounds c n (e ∷ gs) g t i = elim i [
  | inl p ↦ subst (λ (x : Numbered). T (edge_ok c x.edge)) (sym p) (and_left (edge_ok c e) (all (edge_ok c) gs) t)
  | inr q ↦ edge_in_bounds c (suc n) gs g (and_right (edge_ok c e) (all (edge_ok c) gs) t) q
]

module _ (c : Chart) (b : Bounds c) where
  within : (s : State) (r : Trail Choice State) → Ranged c.vars s.vals → Follows (lists (explicit c)) s r → Within c r
  unfolding Taken
  within s here g w = tt
  within s (overrun a) g w = tt
  within s (by a t r) g w =
      let m = taken c a s t g w.0 w.1 in
      let k : T (edge_ok c a.edge.edge) = edge_in_bounds c 1 c.edges a.edge b.edges (choices_in c a w.0).0 in
      let l : a.edge.edge.to < length c.locs = ltb→lt a.edge.edge.to (length c.locs) (search (and_left, and_right)) in
      (record { words = refl; location = subst (λ (n : ℕ). n < length c.locs) m.0.comes l; ranged = m.0.ranged }, within t r m.0.ranged w.2)

  -- what is found from a row, in words
  pub held : (m : ℕ) (e p u : List ℤ) (t : Trail Choice State) {end : End} → Concrete c e → found (explicit c) m (state_of e) ≡ some t → Went (found (explicit c) m (state_of e)) p u (Some end) → Held c (run_from (state_of e) t) e u (record { moves = m; end = end })
  held m e p u t {end} k h w =
      let same : Some end ≡ Some (end_of t) = w.answer ∙ ap answer_of h in
      let f = found_sound (explicit c) m (state_of e) t h in
      let q : u ≡ trail_words t ++ drop (length (trail_words t)) p = w.words ∙ ap (λ (o : Option (Trail Choice State)). laid o p) h in
      record {
        concrete = k;
        first = refl;
        count = sym f.1;
        answer = cc;
        words = q ∙ ap (λ (l : List ℤ). trail_words t ++ l) (sym (ap (drop (length (trail_words t))) q ∙ drop-append_seam (trail_words t) (drop (length (trail_words t)) p)));
        within = within (state_of e) t k.ranged f.0;
      }

-- ---- the starting states in turn

-- a run from these starting values
abbrev pub from_values : Chart → ℕ → List ℤ → Option (ErrorRun Choice State)
from_values c m xs = map (run_from (state 0 xs)) (found (explicit c) m (state 0 xs))

pub attempts : (c : Chart) (m : ℕ) → attempt (explicit c) m ≡ first_of (from_values c m) (starting_values c.vars)
attempts c m = first_map (λ (s : State). map (run_from s) (found (explicit c) m s)) (state 0) (starting_values c.vars)

pub start_state : (c : Chart) (e : List ℤ) → Starts c e → state 0 (values_of e) ≡ state_of e
start_state c e s = ap (λ (l : ℕ). state l (values_of e)) (ap location_in (sym s.words))

module _ (c : Chart) (b : Bounds c) (m : ℕ) (e p u : List ℤ) {r : Perhaps End} (s : Starts c e) (w : Went (found (explicit c) m (state_of e)) p u r) {whole : Option (ErrorRun Choice State)} (inv : whole ≡ first_of (from_values c m) (values_of e ∷ starts_after c.vars (values_of e))) where
  same : found (explicit c) m (state 0 (values_of e)) ≡ found (explicit c) m (state_of e)
  same = ap (found (explicit c) m) (start_state c e s)

  pub start_found : {end : End} → r ≡ Some end → Holds c whole e u (Some (record { moves = m; end = end }))
  start_found {end} h =
      let t = something (found (explicit c) m (state_of e)) (sym w.answer ∙ h) in
      let q : whole ≡ some (run_from (state_of e) t.0) = inv ∙ ap (λ (o : Option (Trail Choice State)). or_else (map (run_from (state 0 (values_of e))) o) (first_of (from_values c m) (starts_after c.vars (values_of e)))) (same ∙ t.1) ∙ ap (λ (x : State). some (run_from x t.0)) (start_state c e s) in
      rw q (held c b m e p u t.0 (starts_concrete c b e s) t.1 (subst (Went (found (explicit c) m (state_of e)) p u) h w))

-- ---- one move more

-- runs of m moves to k
abbrev pub from_moves : Chart → ℕ → ℕ → Option (ErrorRun Choice State)
from_moves c k m = pick (leb m k) (deepen (explicit c) (k - m) m) none

pub deeper : (c : Chart) (k m : ℕ) → m ≤ k → from_moves c k m ≡ or_else (attempt (explicit c) m) (from_moves c k (m + 1))
unfolding deepen
deeper c k m h = rw (le-leb m k h) (go (k - m) refl)
  where
    last : (o : Option (ErrorRun Choice State)) → o ≡ or_else o none
    last none = refl
    last (some r) = refl

    go : (n : ℕ) → k - m ≡ n → deepen (explicit c) n m ≡ or_else (attempt (explicit c) m) (from_moves c k (m + 1))
    go zero e = rw (lt-leb (m + 1) k (omega arith)) (last (attempt (explicit c) m))
    go (suc n) e =
        let q : k - (m + 1) ≡ n = omega arith in
        rw (le-leb (m + 1) k (omega arith), q, add-one m)

-- what an attempt leaves
module _ (c : Chart) (k m : ℕ) (e u : List ℤ) (l : m ≤ k) {whole : Option (ErrorRun Choice State)} (inv : whole ≡ from_moves c k m) where
  pub attempt_found : (run : Run) → Holds c (attempt (explicit c) m) e u (Some run) → Holds c whole e u (Some run)
  attempt_found run h = go (attempt (explicit c) m) refl h
    where
      go : (o : Option (ErrorRun Choice State)) → attempt (explicit c) m ≡ o → Holds c o e u (Some run) → Holds c whole e u (Some run)
      go none q x = absurd x
      go (some v) q x = rw (inv ∙ deeper c k m l ∙ ap (λ (o : Option (ErrorRun Choice State)). or_else o (from_moves c k (m + 1))) q) x

  pub attempt_next : Holds c (attempt (explicit c) m) e u None → whole ≡ from_moves c k (m + 1)
  attempt_next h = go (attempt (explicit c) m) refl h
    where
      go : (o : Option (ErrorRun Choice State)) → attempt (explicit c) m ≡ o → Holds c o e u None → whole ≡ from_moves c k (m + 1)
      go none q x = inv ∙ deeper c k m l ∙ ap (λ (o : Option (ErrorRun Choice State)). or_else o (from_moves c k (m + 1))) q
      go (some v) q x = absurd x

-- and where none is left
pub none_deeper : (c : Chart) (k m : ℕ) (e u : List ℤ) {whole : Option (ErrorRun Choice State)} → whole ≡ from_moves c k m → k < m → Holds c whole e u None
none_deeper c k m e u inv h = let none : from_moves c k m ≡ none = rw (lt-leb m k h) in rw (inv ∙ none) tt
