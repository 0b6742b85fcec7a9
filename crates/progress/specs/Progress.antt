-- The record of an analysis as it advances, and what it says with rows and slots. Assumes nothing.
use Rattle.std.specs.Prelude.{◌≡◌, Bool, true, false, List, ◌++◌, ℕ, ◌+◌, ℤ, length}
use Rattle.semantics.specs.declared.EdgeId.{EdgeId}
use Rattle.semantics.specs.declared.Analysis.{Analysis}
use Rattle.semantics.specs.declared.Settings.{Settings}
use Rattle.semantics.specs.declared.Verdict.{Verdict}
use Rattle.semantics.specs.Algorithm.{Domain, Out, on, alarmed, full, blocked, Origin, Exploration, with_origins, finish, verdict_of, first_verdict}
use Rattle.state.specs.declared.Layout.{Layout}
use Rattle.state.specs.Rows.{rows_of, origins_of, row_domain}
use Rattle.waitlist.specs.Waits.{waits, Stored}
use Rattle.progress.specs.declared.Exit.{Exit}
use Rattle.progress.specs.declared.Exit.TheVariants.{On, Alarm, Full}
use Rattle.progress.specs.declared.Progress.{Progress}

-- the rows as a domain with no chart, for what looks at rows only
abbrev pub rows_only : Domain (List ℤ) ℕ
rows_only = row_domain (λ g e. blocked) (λ e. false)

-- what record and words say
abbrev pub load_of : Layout → Analysis → List ℤ → List ℤ → Exploration (List ℤ)
load_of y a t l = record {
  settings = a.settings;
  capacity = a.capacity;
  iterations = a.iterations;
  reached = rows_of y a.used t;
  origins = origins_of y a.used t;
  waitlist = waits a.waiting l;
  verdict = a.verdict;
  edge = a.edge.0;
}

-- ---- the beginning

-- the record of an analysis that begins: slot 0 is in use, so many wait
abbrev pub first_record : Settings → ℕ → ℕ → Bool → Analysis
first_record settings capacity waiting error = record {
  settings = settings;
  capacity = capacity;
  iterations = 0;
  used = 1;
  waiting = waiting;
  verdict = first_verdict error;
  edge = record { 0 = 0 };
}

-- ---- between two edges

-- the record with other counts
abbrev pub with_counts : Analysis → ℕ → ℕ → Analysis
with_counts a used waiting = record {
  settings = a.settings;
  capacity = a.capacity;
  iterations = a.iterations;
  used = used;
  waiting = waiting;
  verdict = a.verdict;
  edge = a.edge;
}

-- no edge has ended the iteration so far
abbrev pub went_on : ℕ → ℕ → Progress
went_on used waiting = record { exit = On; used = used; waiting = waiting }

-- the edge g raises the alarm
abbrev pub alarm_by : EdgeId → ℕ → ℕ → Progress
alarm_by g used waiting = record { exit = Alarm g; used = used; waiting = waiting }

-- a successor finds no slot
abbrev pub table_full : ℕ → ℕ → Progress
table_full used waiting = record { exit = Full; used = used; waiting = waiting }

-- no further edge is played: an alarm, or a full table
abbrev pub has_ended : Exit → Bool
has_ended On = false
has_ended (Alarm g) = true
has_ended Full = true

-- how the edges ended, with rows and slots
abbrev pub out_by : Exit → List (List ℤ) → List ℕ → Out (List ℤ)
out_by On en wa = on en wa
out_by (Alarm g) en wa = alarmed g.0 en wa
out_by Full en wa = full en wa

-- what words and counts say of the edges played so far
abbrev pub out_of : Layout → List ℤ → List ℤ → Progress → Out (List ℤ)
out_of y t l p = out_by p.exit (rows_of y p.used t) (waits p.waiting l)

-- ---- the end of an iteration

-- the record after one iteration more
abbrev pub advanced : Analysis → ℕ → ℕ → Verdict → EdgeId → Analysis
advanced a used waiting verdict edge = record {
  settings = a.settings;
  capacity = a.capacity;
  iterations = a.iterations + 1;
  used = used;
  waiting = waiting;
  verdict = verdict;
  edge = edge;
}

-- the verdict v where so many wait
pub record VerdictBy (waiting : ℕ) (v : Verdict) : Type 0 where
  pub verdict : (wa : List ℕ) → waiting ≡ length wa → v ≡ verdict_of wa

-- the record r and the list l' hold the end of an iteration that took slot k and ended with p over the list l, where the
-- slots that it took have the origins os
pub record Finished (a : Analysis) (k : ℕ) (p : Progress) (l : List ℤ) (r : Analysis) (l' : List ℤ) : Type 0 where
  pub load : (y : Layout) (t t₀ l₀ : List ℤ) (os : List Origin) → origins_of y a.used t₀ ++ os ≡ origins_of y p.used t
      → load_of y r t l' ≡ finish rows_only (with_origins rows_only (load_of y a t₀ l₀) os) k (out_of y t l p)
  pub stored : Stored l' r.waiting (waits r.waiting l')
  pub used : r.used ≡ p.used
  pub capacity : r.capacity ≡ a.capacity
  pub settings : r.settings ≡ a.settings
  pub iterations : r.iterations ≡ a.iterations + 1
