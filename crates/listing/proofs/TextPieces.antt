-- The texts piece by piece: lines as their fields, and what one turn of each loop adds. Assumes nothing.
use Rattle.semantics.proofs.Prelude.{◌≡◌, refl, sym, ap, subst, ◌∙◌, Bool, true, false, ◌||◌, or-true, or-false, List, [], ◌∷◌, ◌++◌, map, append_assoc, ℕ, suc, ◌+◌, ◌*◌, ◌≤◌, ◌<◌, add-one, arith, eqb-true, eqb-false, T, eqb, leb→le, ℤ, pos, nat_abs, length, get_or, set, take, drop, replicate, get_or-replicate, length-set, length-replicate, drop-cons, length-take-le, get_or-set_same, get_or-set_other}
use Rattle.semantics.specs.Lists.{some_of, each}
use Rattle.semantics.specs.Text.{decimal, line_of}
use Rattle.semantics.specs.Chart.{Chart}
use Rattle.semantics.specs.Encoding.{val, word_at, count, decode}
use Rattle.semantics.specs.Memory.{Memory, state_in, states_in, origin_in, load, analysis_ok}
use Rattle.semantics.specs.Listing.{loc_text, mark, val_text, slot_text, slots_text, header_text, listing_text}
use Rattle.semantics.specs.Path.{way_to, path_header, path_line, path_text}
use Rattle.semantics.specs.declared.Analysis.{Analysis}
use Rattle.semantics.proofs.MemoryInForm.{form, states_count}
use Rattle.state.specs.declared.Layout.{Layout}
use Rattle.state.specs.Rows.{location_in, values_of, row_of, tail_of, origins_of}
use Rattle.state.proofs.Layouts.{LayoutOf, origins_say}
use Rattle.state.proofs.Slots.{drop_slot}
use Rattle.waitlist.specs.Waits.{NextBy}
use Rattle.checks.specs.Form.{lent, InForm}
use Rattle.writer.specs.declared.Writer.{Writer}
use Rattle.writer.specs.Writers.{Writes}
use Rattle.writer.proofs.Written.{writes_same}
use Rattle.listing.proofs.Ways.{edge_get, state_get}
use Rattle.listing.specs.Pieces.{tabbed, values_text, marked}

-- ---- lines

-- a line of fields, its last one apart
pub line_end : (f : List ℕ) (gs : List (List ℕ)) (g : List ℕ) → line_of f (gs ++ (g ∷ [])) ≡ f ++ (each tabbed gs ++ (tabbed g ++ (10 ∷ [])))
unfolding line_of
line_end f [] g = refl
line_end f (x ∷ gs) g = ap (λ (l : List ℕ). f ++ (9 ∷ l)) (line_end x gs g ∙ sym (append_assoc x (each tabbed gs) (tabbed g ++ (10 ∷ []))))

-- a field by another name
pub field : {f g : List ℕ} {a b : Writer} → f ≡ g → Writes (tabbed f) a b → Writes (tabbed g) a b
field e = writes_same (ap tabbed e)

-- ---- the turns of the loops

pub values_turn : (vs : List ℤ) (i : ℕ) → i < length vs → values_text (drop i vs) ≡ tabbed (val_text (val (word_at vs i))) ++ values_text (drop (i + 1) vs)
unfolding values_text
values_turn vs i h = rw (add-one, drop-cons vs i (pos 0) h)

-- a slot's line, by its location n and its mark b
pub slot_is : (c : Chart) (s : ℕ) (row : List ℤ) (n : ℕ) (b : Bool) → 1 ≤ length row → n ≡ location_in row
    → decimal s ++ (tabbed (loc_text c.locs n) ++ (values_text (values_of row) ++ (tabbed (mark b) ++ (10 ∷ [])))) ≡ slot_text c s (state_in row) b
unfolding line_of values_text
slot_is c s [] n b h p = absurd (omega arith)
slot_is c s (x ∷ xs) n b h p =
    (λ j. decimal s ++ (tabbed (loc_text c.locs (p j)) ++ (values_text xs ++ (tabbed (mark b) ++ (10 ∷ [])))))
    ∙ ap (λ (l : List ℕ). decimal s ++ (9 ∷ l)) (sym (line_end (loc_text c.locs (nat_abs x)) (map val_text (map val xs)) (mark b)))

-- the lines of the slots from slot s on
pub slots_turn : (c : Chart) (wa : List ℕ) (y : Layout) → LayoutOf c y → (s n : ℕ) (t : List ℤ)
    → slots_text c wa s (states_in c (suc n) (drop (s * y.stride) t))
    ≡ slot_text c s (state_in (row_of y s t)) (some_of (eqb s) wa) ++ slots_text c wa (s + 1) (states_in c n (drop ((s + 1) * y.stride) t))
slots_turn c wa y o s n t = rw (← drop_slot y s t, o.wide, o.stride, add-one)

-- ---- the path

-- the line of slot s, by its words; wa is the waitlist
abbrev pub step_text : Chart → List ℕ → Layout → List ℤ → ℕ → List ℕ
step_text c wa y t s = decimal (origin_in (tail_of y s t)).edge ++ tabbed (slot_text c s (state_in (row_of y s t)) (some_of (eqb s) wa))

pub steps_turn : (f : ℕ → List ℕ) (ks : List ℕ) (i : ℕ) → i < length ks → each f (drop i ks) ≡ f (get_or ks i 0) ++ each f (drop (i + 1) ks)
steps_turn f ks i h = rw (add-one, drop-cons ks i 0 h)

module _ (c : Chart) (y : Layout) (o : LayoutOf c y) (t l : List ℤ) (a : Analysis) where
  pub step_is : (s : ℕ) → s < a.used → step_text c (map nat_abs (take a.waiting l)) y t s ≡ path_line c (load c (lent t l a)) s
  unfolding load
  step_is s h = rw (← origins_say o a.used t, edge_get y a.used s t h, state_get c y o a.used s t h)

-- ---- the marks

pub marks_turn : (ms : List Bool) (l : List ℤ) (i : ℕ) → i < length l → marked ms (map nat_abs (drop i l)) ≡ marked (set ms (count l i) true) (map nat_abs (drop (i + 1) l))
unfolding marked
marks_turn ms l i h = rw (add-one i, drop-cons l i (pos 0) h)

-- a slot is marked that was, or that is in the list
is_marked : (ms : List Bool) (ks : List ℕ) (s : ℕ) → s < length ms → get_or (marked ms ks) s false ≡ get_or ms s false || some_of (eqb s) ks
unfolding marked
is_marked ms [] s h = sym (or-false (get_or ms s false))
is_marked ms (k ∷ ks) s h = is_marked (set ms k true) ks s (rw length-set h) ∙ go (eqb s k) refl
  where
    go : (b : Bool) → eqb s k ≡ b → get_or (set ms k true) s false || some_of (eqb s) ks ≡ get_or ms s false || elim b [ true ↦ true | false ↦ some_of (eqb s) ks ]
    go true e =
        let q : s ≡ k = eqb-true s k e in
        ap (λ (n : ℕ). get_or (set ms k true) n false || some_of (eqb s) ks) q
        ∙ ap (λ (b : Bool). b || some_of (eqb s) ks) (get_or-set_same ms k true false (subst (λ (n : ℕ). n < length ms) q h))
        ∙ sym (or-true (get_or ms s false))
    go false e = ap (λ (b : Bool). b || some_of (eqb s) ks) (get_or-set_other ms k s true false (eqb-false s k e))

pub marked_from_none : (n : ℕ) (ks : List ℕ) (s : ℕ) → s < n → get_or (marked (replicate n false) ks) s false ≡ some_of (eqb s) ks
marked_from_none n ks s h =
    is_marked (replicate n false) ks s (rw length-replicate h)
    ∙ ap (λ (b : Bool). b || some_of (eqb s) ks) (get_or-replicate n s false false h)

-- ---- the whole

pub listing_is : (c : Chart) (t l : List ℤ) (a : Analysis)
    → header_text a ++ slots_text c (map nat_abs (take a.waiting l)) 0 (states_in c a.used t) ≡ listing_text c (load c (lent t l a))
unfolding listing_text load
listing_is c t l a = rw (states_count c a.used t)

-- the path to slot k, the one taken next
pub path_is : (c : Chart) (y : Layout) → LayoutOf c y → (t l : List ℤ) (a : Analysis) (k : ℕ) → NextBy a.settings.order (map nat_abs (take a.waiting l)) k
    → path_header a.settings.merge a.edge.0 ++ each (path_line c (load c (lent t l a))) (way_to (origins_of y a.used t) k k) ≡ path_text c (load c (lent t l a))
unfolding path_text load
path_is c y o t l a k next = rw (next.taken, origins_say o a.used t)

-- of rule 21, that the counts are in order
pub counts_in_order : (c : Chart) (m : Memory) → T (analysis_ok c m) → (m.analysis.used ≤ m.analysis.capacity) × (m.analysis.waiting ≤ m.analysis.used)
counts_in_order c m t = let f = form c m t in (leb→le _ _ f.used, leb→le _ _ f.waiting)

-- and the waiting slots are in their words
pub waiting_long : (words : List ℤ) (m : Memory) → InForm words m → length (take m.analysis.waiting m.waitlist) ≡ m.analysis.waiting
waiting_long words m f =
    let o = counts_in_order (decode words) m f.analysis in
    length-take-le m.analysis.waiting m.waitlist (omega (arith, f.list, o.0, o.1))
