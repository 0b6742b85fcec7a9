-- What a refused call leaves, and one that nothing refuses. Assumes nothing.
use Rattle.semantics.proofs.Prelude.{◌≡◌, refl, sym, ap, List, ℕ}
use Rattle.std.specs.Prelude.{Ok, Err}
use Rattle.semantics.specs.Memory.{Memory}
use Rattle.semantics.specs.Outcomes.{Outcome, fine, settled}
use Rattle.semantics.proofs.FirstCase.{refused_stays, goes}
use Rattle.checks.proofs.Numbered.{numbered}
use Rattle.semantics.specs.declared.Refusal.{Refusal}
use Rattle.semantics.specs.Refusals.{number_of}
use Rattle.calls.specs.Calls.{EndsCalled}

-- a refused call changes nothing
pub ends_refused : (r : Refusal) (n : ℕ) (m : Memory) (sp : List ℕ) (o : Outcome) → number_of r ≡ n → EndsCalled (settled n m sp o) m.analysis (Err r) m.table m.waitlist
ends_refused r n m sp o e = rw (refused_stays m sp o {n = n} (number_of r) e (numbered r)) (record { answer = refl; analysis = refl; table = refl; waitlist = refl })

-- a call that nothing refuses has the outcome
pub ends_through : (n : ℕ) (m m' : Memory) (sp : List ℕ) (o : Outcome) → 0 ≡ n → o.answer ≡ fine 0 → o.memory ≡ m' → EndsCalled (settled n m sp o) m.analysis (Ok m'.analysis) m'.table m'.waitlist
ends_through n m m' sp o e f p =
    rw (goes m sp o {n = n} (sym e))
    (record { answer = sym f; analysis = sym (ap (λ (x : Memory). x.analysis) p); table = sym (ap (λ (x : Memory). x.table) p); waitlist = sym (ap (λ (x : Memory). x.waitlist) p) })
