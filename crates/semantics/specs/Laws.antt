-- What a domain owes to cover a system: `Covers e s`, and the form `Fit` that its states keep. Only proofs use it.
-- Assumes nothing.
use Rattle.std.specs.Prelude.{◌≡◌, ◌⊎◌, T, length}
use Rattle.semantics.specs.Chart.{Chart}
use Rattle.semantics.specs.Algorithm.{Domain, fault, to}
use Rattle.semantics.specs.Constants.{AbstractState}
use Rattle.semantics.specs.Coverage.{System}

-- with these laws every analysis over the domain D covers the executions of M
pub record Laws {E G S : Type 0} (M : System G S) (D : Domain E G) (Fit : E → Type 0) (Covers : E → S → Type 0) : Type 0 where
  -- the abstract move covers each move, or is a fault
  pub post_covers : (g : G) (e : E) (s t : S) → Covers e s → M.Moves g s t → (D.post g e ≡ fault) ⊎ ((f : E) × (D.post g e ≡ to f) × Covers f t)
  -- and is a fault where the edge is one at a covered state
  pub post_faults : (g : G) (e : E) (s : S) → Covers e s → M.Faults g s → D.post g e ≡ fault
  pub post_fit : (g : G) (e f : E) → Fit e → D.post g e ≡ to f → Fit f
  pub leq_covers : (e f : E) (s : S) → T (D.leq e f) → Covers e s → Covers f s
  -- a merged slot covers what either covered, and is an error state where the slot was
  pub merge_slot : (e x : E) (s : S) → Fit e → Fit x → T (D.same_place e x) → Covers x s → Covers (D.merge e x) s
  pub merge_new : (e x : E) (s : S) → Fit e → Fit x → T (D.same_place e x) → Covers e s → Covers (D.merge e x) s
  pub merge_fit : (e x : E) → Fit e → Fit x → T (D.same_place e x) → Fit (D.merge e x)
  pub merge_error : (e x : E) → T (D.same_place e x) → D.error (D.merge e x) ≡ D.error x
  pub equal_same : (e f : E) → T (D.equal e f) → e ≡ f
  -- an abstract state that covers an error state is one
  pub error_covers : (e : E) (s : S) → Covers e s → M.Error s → T (D.error e)

-- ---- the form of the constants

-- an abstract state has one value for each variable
abbrev pub Fit : Chart → AbstractState → Type 0
Fit c e = length e.vals ≡ length c.vars
