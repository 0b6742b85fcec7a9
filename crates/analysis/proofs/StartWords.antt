-- The start of an analysis. Assumes nothing.
use Rattle.semantics.proofs.Prelude.{◌≡◌, refl, sym, subst, ◌∙◌, List, [], ◌∷◌, ℕ, ◌<◌, arith, ℤ, length}
use Rattle.semantics.specs.declared.Analysis.{Analysis}
use Rattle.semantics.specs.Algorithm.{start_origin, Exploration, first_verdict, start}
use Rattle.semantics.specs.Layout.{no_slot}
use Rattle.semantics.specs.Tidy.{Allowed, Tidy}
use Rattle.semantics.proofs.Tidy.{start_tidy}
use Rattle.state.specs.declared.Layout.{Layout}
use Rattle.state.specs.Rows.{width_of, tail_words, rows_of, origins_of}
use Rattle.waitlist.specs.Waits.{Stored}
use Rattle.waitlist.proofs.WaitWords.{waits_are}
use Rattle.reached.specs.Reached.{Kept}
use Rattle.reached.proofs.Table.{rows_stored, stored_next}
use Rattle.reached.proofs.FormKept.{next_slot_in, origins_stored, kept_stored}
use Rattle.transfer.specs.Transfer.{error_row}
use Rattle.progress.specs.Progress.{load_of}
use Rattle.analysis.specs.Loaded.{domain_of, Any, Loaded}

-- the first row is stored in a table with nothing in use, and its slot waits
module _ (y : Layout) (t l : List ℤ) (k : Kept y t l 0 0) (h : 0 < length l) (e : List ℤ) (len : length e ≡ width_of y) where
  -- the words of the start's origin
  abbrev tail : List ℤ
  tail = tail_words no_slot 0

  abbrev begun_table : List ℤ
  begun_table = stored_next y 0 t e tail (next_slot_in k h) k.tailed len refl

  pub start_loaded : (last : ℕ) (c : List ℤ) (a : Analysis) (l' : List ℤ) → Stored l' a.waiting (0 ∷ []) → length l' ≡ length l → Allowed a.settings
      → length l ≡ a.capacity → a.iterations ≡ 0 → a.used ≡ 1 → a.edge.0 ≡ 0 → a.verdict ≡ first_verdict (error_row c e)
      → Loaded y last a begun_table l' (start (domain_of c) a.settings a.capacity e)
  unfolding start
  start_loaded last c a l' p ll ok ca it us ed ve = record { load = load; form = record { kept = kept; capacity = ll ∙ ca; allowed = ok; tidy = tidy } }
    where
      rows : rows_of y a.used begun_table ≡ e ∷ []
      rows = rw us (rows_stored y 0 t e tail (next_slot_in k h) k.tailed len refl)

      origins : origins_of y a.used begun_table ≡ start_origin ∷ []
      origins = rw us (origins_stored k h e len no_slot 0 (omega arith) (omega arith))

      load : load_of y a begun_table l' ≡ start (domain_of c) a.settings a.capacity e
      load = rw (it, rows, origins, waits_are p, ed, ve)

      tidy : Tidy Any last (load_of y a begun_table l')
      tidy = subst (λ (x : Exploration (List ℤ)). Tidy Any last x) (sym load) (start_tidy (domain_of c) Any last (λ e x p q s. tt) a.settings a.capacity e tt (omega (arith, h, ca)))

      kept : Kept y begun_table l' a.used a.waiting
      kept = rw us (kept_stored k h e len no_slot 0 (omega arith) (omega arith) p ll)
