-- A successor's arrival, by what the tests on the words said; and the turn of the loop over the edges. Assumes nothing.
use Rattle.semantics.proofs.Prelude.{◌≡◌, refl, sym, ap, subst, ◌∙◌, true, false, List, [], ◌∷◌, ◌++◌, append_assoc, append-nil, map-append, ℕ, suc, ◌+◌, ◌-◌, ◌≤◌, ◌<◌, add-one, arith, lt-ltb, le-ltb, T, ltb, ℤ, length, length-append}
use Rattle.semantics.specs.declared.Analysis.{Analysis}
use Rattle.semantics.specs.Lists.{pick, some_of}
use Rattle.semantics.specs.Algorithm.{Origin, Out, on, full, then, taking, brought, merged, stopped, arrive}
use Rattle.state.specs.declared.Layout.{Layout}
use Rattle.state.specs.Rows.{row_leq, rows_of}
use Rattle.waitlist.specs.Waits.{waits}
use Rattle.reached.proofs.Table.{Sized, rows_sized, rows_length}
use Rattle.reached.proofs.FormKept.{apart, in_table}
use Rattle.transfer.specs.Transfer.{post_at, post_words, edge_at, edges_from}
use Rattle.progress.specs.declared.Exit.{Exit}
use Rattle.progress.specs.declared.Exit.TheVariants.{On, Alarm, Full}
use Rattle.progress.specs.Progress.{rows_only, out_by, has_ended}
use Rattle.analysis.specs.Loaded.{Ready, Merged}
use Rattle.analysis.proofs.Merges.{stop_same}

-- the successor e is merged; what arrives is decided by the test against the slots
module _ {y : Layout} {a : Analysis} {t l e t' l' : List ℤ} {k : List ℕ} {r : ℕ} (g : Ready y a t l e k) (m : Merged y a e t l t' l' r) where
  abbrev arrived : Out (List ℤ)
  arrived = arrive rows_only a.settings (length l) e (rows_of y a.used t) (waits a.waiting l)

  sized : Sized (length e) (rows_of y a.used t)
  sized = rw g.row (rows_sized y (apart g.kept) a.used t (in_table g.kept))

  is_stopped : stopped rows_only a.settings.stop e (merged rows_only a.settings.merge e (rows_of y a.used t)) ≡ some_of (row_leq e) (rows_of y a.used t')
  is_stopped = stop_same a.settings.merge a.settings.stop e (rows_of y a.used t) g.allowed (omega (arith, g.row, g.kept.wide)) sized ∙ ap (some_of (row_leq e)) (sym m.rows)

  slots : length (merged rows_only a.settings.merge e (rows_of y a.used t)) ≡ a.used
  slots = ap length (sym m.rows) ∙ rows_length y a.used t'

  pub arrive_drop : some_of (row_leq e) (rows_of y a.used t') ≡ true → on (rows_of y a.used t') (waits r l') ≡ arrived
  arrive_drop h = rw (is_stopped ∙ h, m.rows, m.waiting)

  pub arrive_store : some_of (row_leq e) (rows_of y a.used t') ≡ false → a.used < length l
      → on (rows_of y a.used t' ++ (e ∷ [])) (waits r l' ++ (a.used ∷ [])) ≡ arrived
  arrive_store h u = rw (is_stopped ∙ h, slots, lt-ltb a.used (length l) u, m.rows, m.waiting)

  pub arrive_full : some_of (row_leq e) (rows_of y a.used t') ≡ false → length l ≤ a.used → full (rows_of y a.used t') (waits r l') ≡ arrived
  arrive_full h u = rw (is_stopped ∙ h, slots, le-ltb a.used (length l) u, m.rows, m.waiting)

-- ---- what an edge notes: the slot that it took, if it took one

module _ (os : List Origin) (k n : ℕ) where
  no_slot_taken : os ≡ os ++ brought k []
  no_slot_taken = sym (append-nil os)

  pub noted_none : (y : Layout) (used : ℕ) (t : List ℤ) (wa : List ℕ) → os ≡ os ++ brought k (taking n used (on (rows_of y used t) wa) (λ en wa. []))
  noted_none y used t wa = rw (rows_length y used t, le-ltb used used (omega arith)) no_slot_taken

  pub noted_one : (y : Layout) (used : ℕ) (t e : List ℤ) (wa : List ℕ) → os ++ (record { parent = k; edge = n } ∷ []) ≡ os ++ brought k (taking n used (on (rows_of y used t ++ (e ∷ [])) wa) (λ en wa. []))
  noted_one y used t e wa = rw (length-append (rows_of y used t) (e ∷ []), rows_length y used t, lt-ltb used (used + 1) (omega arith))

  pub noted_full : (used : ℕ) (en : List (List ℤ)) (wa : List ℕ) → os ≡ os ++ brought k (taking n used (full en wa) (λ en wa. []))
  noted_full used en wa = no_slot_taken

-- ---- the edges

pub edges_turn : (g n : ℕ) → g < n → edges_from g (n - g) ≡ g ∷ edges_from (g + 1) (n - (g + 1))
edges_turn g n h = let k : n - g ≡ suc (n - (g + 1)) = omega arith in rw (k, add-one)

pub edges_none : (g n : ℕ) → n ≤ g → edges_from g (n - g) ≡ []
edges_none g n h = let k : n - g ≡ 0 = omega arith in rw k

pub post_is : (c : List ℤ) (g : ℕ) (e : List ℤ) → post_words c g e ≡ post_at c (edge_at c g) e
unfolding post_words
post_is c g e = refl

module _ (en : List (List ℤ)) (wa : List ℕ) (k : List (List ℤ) → List ℕ → Out (List ℤ)) where
  pub then_on : (x : Exit) → has_ended x ≡ false → then (out_by x en wa) k ≡ k en wa
  then_on On h = refl
  then_on (Alarm g) h = absurd (subst T h tt)
  then_on Full h = absurd (subst T h tt)

  pub then_ended : (x : Exit) → has_ended x ≡ true → then (out_by x en wa) k ≡ out_by x en wa
  then_ended On h = absurd (subst T (sym h) tt)
  then_ended (Alarm g) h = refl
  then_ended Full h = refl

-- the same of the origins, os before the edge m and os' after it: what later edges bring is added to those after it
module _ (en : List (List ℤ)) (wa : List ℕ) (os os' : List Origin) (k m u : ℕ) (next : List (List ℤ) → List ℕ → List ℕ) where
  abbrev Noting : Exit → Type 0
  Noting x = os' ≡ os ++ brought k (taking m u (out_by x en wa) (λ en wa. []))

  pub origins_on : (x : Exit) → has_ended x ≡ false → Noting x → os ++ brought k (taking m u (out_by x en wa) next) ≡ os' ++ brought k (next en wa)
  origins_on On h e =
      let ns = pick (ltb u (length en)) (m ∷ []) [] in
      ap (λ (l : List Origin). os ++ l) (map-append (λ n. record { parent = k; edge = n }) ns (next en wa)) ∙ sym (append_assoc os (brought k ns) (brought k (next en wa)))
      ∙ ap (λ (l : List Origin). l ++ brought k (next en wa)) (ap (λ (l : List ℕ). os ++ brought k l) (sym (append-nil ns)) ∙ sym e)
  origins_on (Alarm g) h e = absurd (subst T h tt)
  origins_on Full h e = absurd (subst T h tt)

  pub origins_ended : (x : Exit) → has_ended x ≡ true → Noting x → os ++ brought k (taking m u (out_by x en wa) next) ≡ os'
  origins_ended On h e = absurd (subst T (sym h) tt)
  origins_ended (Alarm g) h e = sym e
  origins_ended Full h e = sym e
