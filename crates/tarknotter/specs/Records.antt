-- An analysis's record in numbers alone, as other languages see it: how it is written, and how it is read. Document
-- 01, "The memory lent": "settings, room, rounds, used slots, waiting slots, verdict, edge". Assumes nothing.
use Rattle.std.specs.Prelude.{Bool, ◌&&◌, ℕ, ◌+◌, ltb, eqb}
use Rattle.semantics.specs.Layout.{most_iterations}
use Rattle.semantics.specs.Lists.{pick}
use Rattle.semantics.specs.declared.Mode.{Mode}
use Rattle.semantics.specs.declared.Mode.TheVariants.{Sep, Join}
use Rattle.semantics.specs.declared.Order.{Order}
use Rattle.semantics.specs.declared.Order.TheVariants.{Old, New}
use Rattle.semantics.specs.declared.Settings.{Settings}
use Rattle.semantics.specs.declared.Verdict.{Verdict}
use Rattle.semantics.specs.declared.Verdict.TheVariants.{Open, Safe, Alarm, Full}
use Rattle.semantics.specs.declared.Analysis.{Analysis}
use Rattle.tarknotter.specs.declared.Record.{Record}

-- ---- the codes: merge and stop 0 sep, 1 join; order 0 old, 1 new; verdict 0 unfinished, 1 safe, 2 alarm, 3 out of
-- room

-- the code of a merge or a stop
abbrev pub mode_code : Mode → ℕ
mode_code Sep = 0
mode_code Join = 1

-- the code of an order
abbrev pub order_code : Order → ℕ
order_code Old = 0
order_code New = 1

-- the code of a verdict
abbrev pub verdict_code : Verdict → ℕ
verdict_code Open = 0
verdict_code Safe = 1
verdict_code Alarm = 2
verdict_code Full = 3

-- the record with a code for each setting and verdict
abbrev pub record_of : Analysis → Record
record_of a = record {
  merge = mode_code a.settings.merge;
  stop = mode_code a.settings.stop;
  order = order_code a.settings.order;
  capacity = a.capacity;
  iterations = a.iterations;
  used = a.used;
  waiting = a.waiting;
  verdict = verdict_code a.verdict;
  edge = a.edge.0;
}

-- ---- what a code names; one that names nothing is read as the last that names something

-- the merge or stop of a code
abbrev pub mode_in : ℕ → Mode
mode_in n = pick (eqb n 0) Sep Join

-- the order of a code
abbrev pub order_in : ℕ → Order
order_in n = pick (eqb n 0) Old New

-- the verdict of a code
abbrev pub verdict_in : ℕ → Verdict
verdict_in n = pick (eqb n 0) Open (pick (eqb n 1) Safe (pick (eqb n 2) Alarm Full))

-- the settings of three codes
abbrev pub settings_in : ℕ → ℕ → ℕ → Settings
settings_in merge stop order = record { merge = mode_in merge; stop = mode_in stop; order = order_in order }

-- whether each of the codes of merge, stop and order names a setting
abbrev pub settings_named : ℕ → ℕ → ℕ → Bool
settings_named merge stop order = (ltb merge 2 && ltb stop 2) && ltb order 2

-- whether each of the record's four codes names something
abbrev pub codes_named : Record → Bool
codes_named r = settings_named r.merge r.stop r.order && ltb r.verdict 4

-- A record with a code that names nothing is out of form. It is read with 60,001 iterations, which 21 always refuses
-- ("rounds above 60,000"), and with its own capacity, so that 14 is judged before, as always.
abbrev pub analysis_in : Record → Analysis
analysis_in r = record {
  settings = settings_in r.merge r.stop r.order;
  capacity = r.capacity;
  iterations = pick (codes_named r) r.iterations (most_iterations + 1);
  used = r.used;
  waiting = r.waiting;
  verdict = verdict_in r.verdict;
  edge = record { 0 = r.edge };
}
