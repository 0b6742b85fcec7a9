-- `progress::finish` meets its contract.
use Rattle.semantics.proofs.Prelude.{refl, add-one}
use Rattle.waitlist.proofs.WaitWords.{waits_are, kept}
use Rattle.progress.proofs.finish.Goals.{in-Alarm, in-Full}
use Rattle.progress.proofs.finish.Goals as goal

pub returns : goal.returns
returns c =
    let b = c.put_back-waiting.ensures in
    elim c.match-p.branch [
      | in-Alarm w ↦
          rw (c.advanced-2.ensures, w.verdict-is)
          (record { load = λ y t t₀ l₀ os h. rw (w.in-Alarm.is, waits_are b, add-one, h); stored = kept b; used = refl; capacity = refl; settings = refl; iterations = refl })
      | in-Full w ↦
          rw (c.advanced-2.ensures, w.verdict-is)
          (record { load = λ y t t₀ l₀ os h. rw (w.in-Full.is, waits_are b, add-one, h); stored = kept b; used = refl; capacity = refl; settings = refl; iterations = refl })
    ]
