-- Laws of an iteration, over what record and words say. Assumes nothing.
use Rattle.semantics.proofs.Prelude.{◌≡◌, refl, sym, ap, subst, ◌∙◌, List, ◌++◌, Option, ℕ, zero, suc, ◌+◌, ◌-◌, ◌≤◌, ◌<◌, arith, ℤ, length}
use Rattle.semantics.specs.declared.Analysis.{Analysis}
use Rattle.semantics.specs.Algorithm.{Origin, Out, Exploration, Taken, visit_all, takers, brought, with_origins, finish, iteration}
use Rattle.semantics.specs.Tidy.{Every, Queue, Tidy}
use Rattle.semantics.proofs.Tidy.{Left, take_left, Keeps, iteration_tidy}
use Rattle.state.specs.declared.Layout.{Layout}
use Rattle.state.specs.Rows.{row_of, rows_of, origins_of}
use Rattle.waitlist.specs.Waits.{waits, TakenFrom}
use Rattle.reached.specs.Reached.{Kept}
use Rattle.reached.proofs.Table.{rows_length, rows_get}
use Rattle.reached.proofs.FormKept.{kept_after}
use Rattle.progress.specs.declared.Progress.{Progress}
use Rattle.transfer.specs.Transfer.{edges_from}
use Rattle.progress.specs.Progress.{load_of, Finished}
use Rattle.analysis.specs.Loaded.{domain_of, Any, Resumable, Loaded, Progressed}

-- each edge has a number up to the last
pub edges_keep : (c : List ℤ) (last i n : ℕ) → i + n ≤ last → Every (Keeps (domain_of c) Any last) (edges_from i n)
edges_keep c last i zero h = tt
edges_keep c last i (suc n) h = (record { number = omega arith; post = λ e f p q. tt }, edges_keep c last (suc i) n (omega arith))

module _ (y : Layout) (last : ℕ) (a : Analysis) (t l : List ℤ) (h : Resumable y last a t l) (k : ℕ) (l₁ : List ℤ)
    (s : TakenFrom a.settings.order (waits a.waiting l) k l₁ (a.waiting - 1)) where
  -- the slot taken is in use, and the rest is a queue
  pub taken_from : Queue a.used (waits (a.waiting - 1) l₁) × (k < a.used)
  taken_from = subst (λ (o : Option Taken). Left a.used o) s.taken (take_left a.used a.settings.order (waits a.waiting l) h.kept.queue)

  pub kept_taken : length l₁ ≡ length l → Kept y t l₁ a.used (a.waiting - 1)
  kept_taken ll = kept_after h.kept t refl refl refl s.kept ll taken_from.0

  -- the play of the edges, with the copy of the slot taken
  abbrev pub play_of : List ℤ → List ℕ → Out (List ℤ)
  play_of c gs = visit_all (domain_of c) a.settings a.capacity (row_of y k t) gs (rows_of y a.used t) (waits (a.waiting - 1) l₁)

  -- the origins of the slots that it takes
  abbrev pub brought_by : List ℤ → List ℕ → List Origin
  brought_by c gs = brought k (takers (domain_of c) a.settings a.capacity (row_of y k t) gs (rows_of y a.used t) (waits (a.waiting - 1) l₁))

  iteration_is : (c : List ℤ) (gs : List ℕ) → iteration (domain_of c) gs (load_of y a t l) ≡ finish (domain_of c) (with_origins (domain_of c) (load_of y a t l) (brought_by c gs)) k (play_of c gs)
  unfolding iteration
  iteration_is c gs = rw (s.taken, rows_get y a.used k t taken_from.1)

  -- the end of an iteration holds the rules' iteration
  pub iteration_sound : (c : List ℤ) (p : Progress) (t₂ l₂ : List ℤ) (k₂ : List ℕ) → length l₂ ≡ length l → Progressed y t₂ l₂ k₂ p (play_of c (edges_from 0 last)) → origins_of y p.used t₂ ≡ origins_of y a.used t ++ brought_by c (edges_from 0 last)
      → (r : Analysis) (l₃ : List ℤ) → length l₃ ≡ length l₂ → Finished a k p l₂ r l₃
      → Loaded y last r t₂ l₃ (iteration (domain_of c) (edges_from 0 last) (load_of y a t l))
  iteration_sound c p t₂ l₂ k₂ l₂l g os r l₃ ll f = record { load = load; form = record { kept = kept; capacity = ll ∙ l₂l ∙ h.capacity ∙ sym f.capacity; allowed = rw f.settings h.allowed; tidy = tidy } }
    where
      load : load_of y r t₂ l₃ ≡ iteration (domain_of c) (edges_from 0 last) (load_of y a t l)
      load = f.load y t₂ t l (brought_by c (edges_from 0 last)) (sym os) ∙ ap (finish (domain_of c) (with_origins (domain_of c) (load_of y a t l) (brought_by c (edges_from 0 last))) k) g.out ∙ sym (iteration_is c (edges_from 0 last))

      tidy : Tidy Any last (load_of y r t₂ l₃)
      tidy = subst (λ (x : Exploration (List ℤ)). Tidy Any last x) (sym load)
          (iteration_tidy (domain_of c) Any last (λ e x p q s. tt) (edges_from 0 last) (edges_keep c last 0 last (omega arith)) (load_of y a t l) h.tidy)

      queue : Queue p.used (waits r.waiting l₃)
      queue = subst (λ (n : ℕ). Queue n (waits r.waiting l₃)) (rows_length y r.used t₂ ∙ f.used) tidy.queue

      kept : Kept y t₂ l₃ r.used r.waiting
      kept = rw f.used (kept_after g.kept t₂ refl refl refl f.stored ll queue)
