-- A line by its kind, and reading goes on by one line. Assumes nothing.
use Rattle.semantics.proofs.Prelude.{◌≡◌, refl, sym, ap, ◌∙◌, true, false, List, [], ◌∷◌, map, ℕ, get_or, ◌+◌, ◌-◌, ◌*◌, ◌≤◌, ◌<◌, add-one, arith, length, take, drop, ℤ}
use Rattle.semantics.specs.Text.{bytes, same_bytes, lines, fields}
use Rattle.semantics.specs.Reading.{fail, ok, nth, SoFar, nothing_read, var_line, loc_line, edge_line, judge, refused, at_end, judged}
use Rattle.text.specs.Fields.{up_to}
use Rattle.text.proofs.LineEnds.{lines_at, lines_done}
use Rattle.text.specs.Places.{end_of}
use Rattle.text.specs.Lines.{Begins}
use Rattle.text.specs.declared.line.Line.{Line}
use Rattle.semantics.specs.Layout.{location_size}
use Rattle.reader.specs.ReadSoFar.{Rows, lines_judged, nothing_counted}
use Rattle.std.specs.Prelude.{⊤, Result, Ok, Err}
use Rattle.semantics.specs.Refusals.{number_of}
use Rattle.semantics.specs.declared.Refusal.{Refusal}
use Rattle.semantics.specs.declared.RefusedAt.{RefusedAt}
use Rattle.reader.specs.Drafts.{Holds, Grown, Through, LineJudged, LinesRead}
use Rattle.reader.specs.declared.draft.Draft.{Draft}
use Rattle.reader.specs.declared.draft.Tally.{Tally}

-- ---- by the kind

module _ (s : SoFar) (fs : List (List ℕ)) where
  pub kind_var : nth fs 0 ≡ bytes "V" → judge s fs ≡ var_line s fs
  unfolding judge
  kind_var e = rw e

  pub kind_loc : nth fs 0 ≡ bytes "L" → judge s fs ≡ loc_line s fs
  unfolding judge
  kind_loc e = rw e

  pub kind_edge : nth fs 0 ≡ bytes "E" → judge s fs ≡ edge_line s fs
  unfolding judge
  kind_edge e = rw e

  pub kind_none : {k : List ℕ} → k ≡ nth fs 0 → same_bytes k (bytes "V") ≡ false → same_bytes k (bytes "L") ≡ false → same_bytes k (bytes "E") ≡ false → judge s fs ≡ fail 4
  unfolding judge
  kind_none is v l e = rw (sym is) (rw (v, l, e))

-- a kind of one byte, by that byte
pub one_byte : {b : ℕ} (l : List ℕ) → 1 ≤ length l → length l < 2 → get_or l 0 0 ≡ b → l ≡ b ∷ []
one_byte [] low high e = absurd (omega arith)
one_byte (a ∷ []) low high e = ap (λ (x : ℕ). x ∷ []) e
one_byte (a ∷ c ∷ l) low high e = absurd (omega arith)

-- ---- the lines

module _ (text : List ℕ) (at e n : ℕ) (s : SoFar) (h : at < length text) (is : e ≡ at + up_to 10 (drop at text)) where
  pub judged_stop : {k : ℕ} → judge s (fields (take (e - at) (drop at text))) ≡ fail k → judged n s (map fields (lines (drop at text))) ≡ refused k n
  unfolding judged
  judged_stop q = rw (lines_at text at e h is, q)

  pub judged_on : {t : SoFar} → judge s (fields (take (e - at) (drop at text))) ≡ ok t → judged n s (map fields (lines (drop at text))) ≡ judged (n + 1) t (map fields (lines (drop (e + 1) text)))
  unfolding judged
  judged_on q = rw (lines_at text at e h is, q, add-one n)

pub judged_end : (text : List ℕ) (at n : ℕ) (s : SoFar) → length text ≤ at → judged n s (map fields (lines (drop at text))) ≡ at_end s.chart
unfolding judged
judged_end text at n s h = rw (lines_done text at h)

-- ---- where reading stands

-- so many lines are judged, and the reader is at the place `at`: what was read so far, and what is left
pub record Along (text : List ℕ) (at line : ℕ) (d : Draft) : Type 0 where
  pub read : SoFar
  pub holds : Holds d read
  pub counted : line ≤ at
  pub is : lines_judged text ≡ judged (line + 1) read (map fields (lines (drop at text)))

module _ {text : List ℕ} {at line : ℕ} {d : Draft} (a : Along text at line d) where
  -- the text is at its end
  pub all_judged : length text ≤ at → Through text d
  all_judged h = record { read = a.read; holds = a.holds; is = a.is ∙ judged_end text at (line + 1) a.read h }

  module _ {l : Line} {next : ℕ} (b : Begins text at l next) where
    same : take (end_of text at - at) (drop at text) ≡ l.bytes.now
    same = let k : end_of text at - at ≡ up_to 10 (drop at text) = omega arith in rw k (sym b.is)

    -- one line more
    pub line_refused : {n : ℕ} → judge a.read (fields l.bytes.now) ≡ fail n → lines_judged text ≡ refused n (line + 1)
    line_refused h = a.is ∙ judged_stop text at (end_of text at) (line + 1) a.read b.here refl (rw same h)

    pub line_grown : {d' : Draft} → Grown (judge a.read (fields l.bytes.now)) d' → Along text next (line + 1) d'
    line_grown h = record {
      read = h.read;
      holds = h.holds;
      counted = omega (arith, a.counted, b.on);
      is = rw b.on (a.is ∙ judged_on text at (end_of text at) (line + 1) a.read b.here refl (rw same h.is));
    }

    -- by what is answered to the line, and of that to the lines
    module _ (r : Result ⊤ Refusal) (m : Result ⊤ RefusedAt) (d' : Draft) (h : LineJudged r (judge a.read (fields l.bytes.now)) d')
        (fine : (x : ⊤) → r ≡ Ok x → m ≡ Ok x) (bad : (e : Refusal) → r ≡ Err e → m ≡ Err (record { refusal = e; line = line + 1 })) where
      pub lines_on : {x : ⊤} → m ≡ Ok x → Along text next (line + 1) d'
      lines_on {x} is = by_answer r refl h where
        by_answer : (q : Result ⊤ Refusal) → r ≡ q → LineJudged q (judge a.read (fields l.bytes.now)) d' → Along text next (line + 1) d'
        by_answer (Ok y) e g = line_grown g
        by_answer (Err y) e g = absurd (other (sym (bad y e) ∙ is)) where
          other : {f : RefusedAt} → Err f ≡ Ok x → ⊥
          other z = cc

      pub lines_refused : {f : RefusedAt} → m ≡ Err f → LinesRead text (Err f) d'
      lines_refused {f} is = by_answer r refl h where
        by_answer : (q : Result ⊤ Refusal) → r ≡ q → LineJudged q (judge a.read (fields l.bytes.now)) d' → LinesRead text (Err f) d'
        by_answer (Ok y) e g = absurd (other (sym (fine y e) ∙ is)) where
          other : {x : ⊤} → Ok x ≡ Err f → ⊥
          other z = cc
        by_answer (Err y) e g = line_refused g ∙ ap (λ (f : RefusedAt). refused (number_of f.refusal) f.line) (same_error (sym (bad y e) ∙ is)) where
          same_error : {g : RefusedAt} → ◌≡◌ {A = Result ⊤ RefusedAt} (Err g) (Err f) → g ≡ f
          same_error z = cc

pub at_first : (text : List ℕ) (d : Draft) → Holds d nothing_read → Along text 0 0 d
at_first text d h = record { read = nothing_read; holds = h; counted = omega arith; is = refl }

-- a draft that counts nothing holds nothing
no_rows : (t : Tally) (rows : List ℤ) → t ≡ nothing_counted → Rows t rows nothing_read.chart
no_rows t rows e = rw e (record { vars = refl; locs = refl; edges = refl; rows = refl; numbers = refl; named = tt })

pub nothing_held : (d : Draft) → d.tally ≡ nothing_counted → Holds d nothing_read
nothing_held d e = record {
  rows = no_rows d.tally d.rows e;
  names = record { count = ap (λ (t : Tally). t.vars) e; rows = ap (λ (t : Tally). take (location_size * t.vars) d.names) e; named = tt };
}
