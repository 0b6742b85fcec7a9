-- A loop that stops at the first find, and one move of the search part by part. Assumes nothing.
use Rattle.semantics.proofs.Prelude.{◌≡◌, refl, sym, ap, ◌∙◌, Bool, true, false, List, [], ◌∷◌, ◌++◌, map, Option, none, some, ℕ, zero, suc, ◌-◌, arith, eqb, ℤ, get_or}
use Rattle.semantics.specs.Lists.{At, each}
use Rattle.semantics.specs.Chart.{Chart, Numbered, numbered, State}
use Rattle.semantics.specs.Algorithm.{to}
use Rattle.semantics.specs.Search.{Trail, or_else, first_of, after_move, found, Choice, choose, inputs, choices, move, explicit}
use Rattle.semantics.proofs.Bools.{from_false}
use Rattle.std.specs.Prelude.{Option as Perhaps, Some, None}
use Rattle.descent.specs.declared.End.{End}
use Rattle.descent.specs.Trails.{answer_of, laid, Went, from_step, by_input, by_edge}

abbrev Route : Type 0
Route = Trail Choice State

-- ---- what an answer tells

pub nothing : (o : Option Route) → answer_of o ≡ None → o ≡ none
nothing none e = refl
nothing (some t) e = absurd (cc)

pub something : (o : Option Route) {e : End} → answer_of o ≡ Some e → (t : Route) × (o ≡ some t)
something none e = absurd (cc)
something (some t) e = (t, refl)

pub went_none : {o : Option Route} {p u : List ℤ} → o ≡ none → u ≡ p → Went o p u None
went_none e k = rw e (record { answer = refl; words = k })

-- ---- a loop over a list that has come to x

or_some : (o q : Option Route) (t : Route) → o ≡ some t → or_else o q ≡ o
or_some none q t e = absurd (from_false (ap is e) tt)
  where
    is : Option Route → Bool
    is none = true
    is (some t) = false
or_some (some u) q t e = refl

module _ {A : Type 0} (f : A → Option Route) (x : A) (xs : List A) {whole : Option Route} (inv : whole ≡ first_of f (x ∷ xs)) {p p' u : List ℤ} {r : Perhaps End} (kept : p' ≡ p) (went : Went (f x) p' u r) where
  -- it ends by x
  pub turn_found : {e : End} → r ≡ Some e → Went whole p u (Some e)
  turn_found {e} h =
      let t = something (f x) (sym went.answer ∙ h) in
      let q : whole ≡ f x = inv ∙ or_some (f x) _ t.0 t.1 in
      rw q (record { answer = sym h ∙ went.answer; words = went.words ∙ ap (laid (f x)) kept })

  none_here : r ≡ None → f x ≡ none
  none_here h = nothing (f x) (sym went.answer ∙ h)

  -- or it goes on, with the path as it was
  pub turn_kept : r ≡ None → u ≡ p
  turn_kept h = went.words ∙ ap (λ (o : Option Route). laid o p') (none_here h) ∙ kept

  pub turn_next : r ≡ None → whole ≡ first_of f xs
  turn_next h = inv ∙ ap (λ (o : Option Route). or_else o (first_of f xs)) (none_here h)

-- nothing is left of the list
pub turn_end : {A : Type 0} (f : A → Option Route) (xs : List A) {whole : Option Route} {p u : List ℤ} → whole ≡ first_of f xs → xs ≡ [] → u ≡ p → Went whole p u None
turn_end f xs inv e k = went_none (inv ∙ ap (first_of f) e) k

pub at_get_or : {A : Type 0} (xs : List A) (i : ℕ) (x d : A) → At xs i x → get_or xs i d ≡ x
at_get_or [] i x d a = absurd a
at_get_or (y ∷ ys) zero x d a = a
at_get_or (y ∷ ys) (suc i) x d a = at_get_or ys i x d a

-- ---- the choices of a state, edge by edge

or_assoc : {B : Type 0} (o p q : Option B) → or_else (or_else o p) q ≡ or_else o (or_else p q)
or_assoc none p q = refl
or_assoc (some b) p q = refl

first_append : {A B : Type 0} (f : A → Option B) (xs ys : List A) → first_of f (xs ++ ys) ≡ or_else (first_of f xs) (first_of f ys)
first_append f [] ys = refl
first_append f (x ∷ xs) ys = ap (or_else (f x)) (first_append f xs ys) ∙ sym (or_assoc (f x) (first_of f xs) (first_of f ys))

pub first_map : {A B C : Type 0} (f : B → Option C) (g : A → B) (xs : List A) → first_of f (map g xs) ≡ first_of (λ x. f (g x)) xs
first_map f g [] = refl
first_map f g (x ∷ xs) = ap (or_else (f (g x))) (first_map f g xs)

first_each : {A B C : Type 0} (f : B → Option C) (h : A → List B) (xs : List A) → first_of f (each h xs) ≡ first_of (λ x. first_of f (h x)) xs
first_each f h [] = refl
first_each f h (x ∷ xs) = first_append f (h x) (each h xs) ∙ ap (or_else (first_of f (h x))) (first_each f h xs)

first_same : {A B : Type 0} (f g : A → Option B) (xs : List A) → ((x : A) → f x ≡ g x) → first_of f xs ≡ first_of g xs
first_same f g [] h = refl
first_same f g (x ∷ xs) h = ap (λ o. or_else o (first_of f xs)) (h x) ∙ ap (or_else (g x)) (first_same f g xs h)

first_none : {A B : Type 0} (f : A → Option B) (xs : List A) → ((x : A) → f x ≡ none) → first_of f xs ≡ none
first_none f [] h = refl
first_none f (x ∷ xs) h = ap (λ o. or_else o (first_of f xs)) (h x) ∙ first_none f xs h

module _ (c : Chart) where
  -- with moves left, the edges in turn
  pub by_edges : (m : ℕ) (s : State) → (m ≡ 0 → ⊥) → found (explicit c) m s ≡ first_of (by_edge c (m - 1) s) (numbered c)
  unfolding found choices
  by_edges zero s h = absurd (h refl)
  by_edges (suc m) s h =
      let e : suc m - 1 ≡ m = omega arith in
      first_each find (λ (g : Numbered). map (choose g) (inputs g.edge.op)) (numbered c)
      ∙ first_same (λ (g : Numbered). first_of find (map (choose g) (inputs g.edge.op))) (by_edge c m s) (numbered c) (λ g. first_map find (choose g) (inputs g.edge.op))
      ∙ ap (λ (k : ℕ). first_of (by_edge c k s) (numbered c)) (sym e)
    where
      find : Choice → Option Route
      find a = after_move m (found (explicit c) m) a (move c a s)

  -- an edge that leaves another location makes no move
  pub not_here : (m : ℕ) (s : State) (g : Numbered) → eqb g.edge.from s.loc ≡ false → by_edge c m s g ≡ none
  unfolding move
  not_here m s g e = first_none (by_input c m s g) (inputs g.edge.op) (λ z. rw e)

  -- ---- what a move makes of it

  pub step_went : (m : ℕ) (s t : State) (g : Numbered) (z : ℤ) {p u : List ℤ} {r : Perhaps End} → move c (choose g z) s ≡ to t → Went (from_step c m (choose g z) t) p u r → Went (by_input c m s g z) p u r
  step_went m s t g z e w = rw e w
