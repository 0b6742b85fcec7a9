-- The record of an analysis reads back as that analysis, and a record with a code that names nothing is out of form.
-- Assumes nothing.
use Rattle.semantics.proofs.Prelude.{◌≡◌, refl, ap, Bool, true, false, ◌&&◌, List, [], ◌∷◌, ◌++◌, ◌+◌, leb, ltb, ℤ, length}
use Rattle.semantics.specs.Layout.{most_iterations}
use Rattle.semantics.specs.Lists.{pick, all_of}
use Rattle.semantics.specs.Chart.{Chart}
use Rattle.semantics.specs.Memory.{lent_tests, record_tests, analysis_ok}
use Rattle.semantics.specs.declared.Mode.{Mode}
use Rattle.semantics.specs.declared.Mode.TheVariants.{Sep, Join}
use Rattle.semantics.specs.declared.Order.{Order}
use Rattle.semantics.specs.declared.Order.TheVariants.{Old, New}
use Rattle.semantics.specs.declared.Verdict.{Verdict}
use Rattle.semantics.specs.declared.Verdict.TheVariants.{Open, Safe, Alarm, Full}
use Rattle.semantics.specs.declared.Analysis.{Analysis}
use Rattle.checks.specs.Form.{lent}
use Rattle.tarknotter.specs.declared.Record.{Record}
use Rattle.tarknotter.specs.Records.{mode_code, order_code, verdict_code, record_of, mode_in, order_in, verdict_in, codes_named, analysis_in}

-- ---- each code names what it was written for

mode_back : (m : Mode) → (mode_in (mode_code m) ≡ m) × (ltb (mode_code m) 2 ≡ true)
mode_back Sep = (refl, refl)
mode_back Join = (refl, refl)

order_back : (o : Order) → (order_in (order_code o) ≡ o) × (ltb (order_code o) 2 ≡ true)
order_back Old = (refl, refl)
order_back New = (refl, refl)

verdict_back : (v : Verdict) → (verdict_in (verdict_code v) ≡ v) × (ltb (verdict_code v) 4 ≡ true)
verdict_back Open = (refl, refl)
verdict_back Safe = (refl, refl)
verdict_back Alarm = (refl, refl)
verdict_back Full = (refl, refl)

pub reads_back : (a : Analysis) → analysis_in (record_of a) ≡ a
reads_back a =
    let m = mode_back a.settings.merge in
    let s = mode_back a.settings.stop in
    let o = order_back a.settings.order in
    let v = verdict_back a.verdict in
    λ j. record {
      settings = record { merge = m.0 j; stop = s.0 j; order = o.0 j };
      capacity = a.capacity;
      iterations = pick (((m.1 j && s.1 j) && o.1 j) && v.1 j) a.iterations (most_iterations + 1);
      used = a.used;
      waiting = a.waiting;
      verdict = v.0 j;
      edge = a.edge;
    }

-- ---- a code that names nothing

fails : (bs cs : List Bool) → all_of cs ≡ false → all_of (bs ++ cs) ≡ false
fails [] cs e = e
fails (true ∷ bs) cs e = fails bs cs e
fails (false ∷ bs) cs e = refl

-- so a run or a listing, which no earlier number refuses, is 21
pub unnamed_refused : (c : Chart) (t l : List ℤ) (r : Record) → codes_named r ≡ false → analysis_ok c (lent t l (analysis_in r)) ≡ false
unfolding analysis_ok
unnamed_refused c t l r e =
    let many : leb (analysis_in r).iterations most_iterations ≡ false = ap (λ (b : Bool). leb (pick b r.iterations (most_iterations + 1)) most_iterations) e in
    fails (lent_tests c r.capacity r.used r.waiting t l) (record_tests (length c.edges) (analysis_in r)) (rw many)
