-- The program's input: what an accepted go line says, and how much of the input matters. Assumes nothing.
use Rattle.semantics.proofs.Prelude.{◌≡◌, refl, sym, ap, ◌∙◌, subst, Bool, true, false, ◌||◌, Option, none, some, List, [], ◌∷◌, ◌++◌, ℕ, zero, suc, ◌+◌, ◌≤◌, ◌<◌, arith, T, eqb, length, take, drop, take-append-drop, length-append, take_all, take-append-le, length-take-le, lt-ltb, dec_le, ℤ}
use Rattle.semantics.specs.Lists.{pick}
use Rattle.semantics.specs.Layout.{most_bytes, go_line_bytes, input_bytes}
use Rattle.semantics.specs.Reading.{Res, fail, ok, check, refused, read}
use Rattle.semantics.specs.Text.{number_of}
use Rattle.semantics.specs.Program.{has_lf, first_line, past_line, View, Go, sized, go_line, print_read, print_go, output, print_search, search_output}
use Rattle.semantics.specs.Algorithm.{Settings, allowed}
use Rattle.semantics.specs.Memory.{capacity_ok}
use Rattle.semantics.specs.Outcomes.{refusal, budget_ok, asked_cases}
use Rattle.semantics.proofs.Bools.{passed, from_true, to_true}
use Rattle.semantics.proofs.FirstCase.{none_met, unless_ok}
use Rattle.semantics.proofs.ReadInBounds.{check_ok, ok_parts}
use Rattle.semantics.proofs.Program.{GoOk}

-- ---- the go line

ok_same : {A : Type 0} {a b : A} → ok a ≡ ok b → a ≡ b
ok_same e = cc

sized_fine : (s : Settings) (r a : ℤ) (g : Go) → sized s r a ≡ ok g → GoOk g
sized_fine s r a g e =
    let asked : Go = record { settings = s; capacity = r; budget = a } in
    let fine = unless_ok (ok asked) (refusal (asked_cases s r a)) e in
    let none = none_met (asked_cases s r a) tt fine.0 in
    subst (λ (x : Go). GoOk x) (ok_same fine.1)
    (record { capacity = passed (capacity_ok r) none.0; modes = passed (allowed s.merge s.stop) none.1.0; budget = passed (budget_ok a) none.1.1.0 })

-- an accepted go line is one that 11, 12 and 13 let pass
pub go_fine : (input : List ℕ) (g : Go) → go_line input ≡ ok g → GoOk g
unfolding go_line
go_fine input g e =
    let fits = (check_ok _ _ _ e).1 in
    let plain = (check_ok _ _ _ fits).1 in
    let ends = (check_ok _ _ _ plain).1 in
    let six = (check_ok _ _ _ ends).1 in
    let go = (check_ok _ _ _ six).1 in
    let settings = ok_parts _ _ go in
    let capacity = ok_parts _ _ settings.2 in
    let budget = ok_parts _ _ capacity.2 in
    sized_fine settings.0 capacity.0 budget.0 g budget.2

-- ---- the bytes after an LF: only what stands past the first line knows them

record Past (p q : List ℕ) : Type 0 where
  lf : T (has_lf (p ++ q))
  line : first_line (p ++ q) ≡ first_line p
  rest : past_line (p ++ q) ≡ past_line p ++ q

after_lf : (p q : List ℕ) → T (has_lf p) → Past p q
after_lf [] q t = absurd t
after_lf (b ∷ bs) q t = go (eqb b 10) refl t (after_lf bs q)
  where
    go : (x : Bool) → eqb b 10 ≡ x → T (x || has_lf bs) → (T (has_lf bs) → Past bs q) → Past (b ∷ bs) q
    go true e u ih = record { lf = rw e tt; line = rw e; rest = rw e }
    go false e u ih = let r = ih u in record { lf = rw e r.lf; line = rw (e, r.line); rest = rw (e, r.rest) }

-- an LF among the first n bytes leaves all but n past the first line
past_long : (n : ℕ) (p : List ℕ) → T (has_lf (take n p)) → T (has_lf p) × (length p ≤ n + length (past_line p))
past_long zero p t = absurd t
past_long (suc n) [] t = absurd t
past_long (suc n) (b ∷ bs) t = go (eqb b 10) t (past_long n bs)
  where
    go : (x : Bool) → T (x || has_lf (take n bs)) → (T (has_lf (take n bs)) → T (has_lf bs) × (length bs ≤ n + length (past_line bs)))
        → T (x || has_lf bs) × (suc (length bs) ≤ suc n + length (pick x bs (past_line bs)))
    go true u ih = (tt, omega arith)
    go false u ih = let r = ih u in (r.0, omega arith)

-- ---- the first 32,833 bytes: 64 for the go line, 32,768 for the chart, and one more that tells a chart too long

no_line : (x : List ℕ) → go_line_bytes < length x → has_lf (take go_line_bytes x) ≡ false → go_line x ≡ fail 1
unfolding go_line check
no_line x l e = rw (lt-ltb go_line_bytes (length x) l, e)

same_line : (p q : List ℕ) → go_line_bytes < length p → T (has_lf (take go_line_bytes p)) → go_line (p ++ q) ≡ go_line p
unfolding go_line
same_line p q l t =
    let h = (past_long go_line_bytes p t).0 in
    let r = after_lf p q h in
    rw (take-append-le go_line_bytes p q (omega arith), to_true (has_lf (take go_line_bytes p)) t, lt-ltb go_line_bytes (length (p ++ q)) (omega (arith, length-append p q)), lt-ltb go_line_bytes (length p) l, r.line, to_true (has_lf (p ++ q)) r.lf, to_true (has_lf p) h)

too_long : (text : List ℕ) → most_bytes < length text → read text ≡ refused 1 0
unfolding read
too_long text l = rw (lt-ltb most_bytes (length text) l)

same_print : (v : View) (r : Res Go) (x y : List ℕ) → read x ≡ read y → print_go v r x ≡ print_go v r y
same_print v (fail n) x y e = refl
same_print v (ok g) x y e = ap (print_read v g) e

cut : (v : View) (p q : List ℕ) → length p ≡ input_bytes → output v p ≡ output v (p ++ q)
unfolding output
cut v p q l = go (has_lf (take go_line_bytes p)) refl
  where
    longer : go_line_bytes < length (p ++ q)
    longer = omega (arith, length-append p q)

    go : (x : Bool) → has_lf (take go_line_bytes p) ≡ x → print_go v (go_line p) (past_line p) ≡ print_go v (go_line (p ++ q)) (past_line (p ++ q))
    go false e = rw (no_line p (omega arith) e, no_line (p ++ q) longer (ap has_lf (take-append-le go_line_bytes p q (omega arith)) ∙ e))
    go true e =
        let t = from_true e in
        let h = past_long go_line_bytes p t in
        let r = after_lf p q h.0 in
        rw (same_line p q (omega arith) t, r.rest)
        (same_print v (go_line p) (past_line p) (past_line p ++ q) (too_long (past_line p) (omega (arith, h.1)) ∙ sym (too_long (past_line p ++ q) (omega (arith, h.1, length-append (past_line p) q)))))

-- an output that goes by the first 32,833 bytes of what is longer
by_the_first : (f : List ℕ → List ℕ) → ((p q : List ℕ) → length p ≡ input_bytes → f p ≡ f (p ++ q)) → (input : List ℕ) → f (take input_bytes input) ≡ f input
by_the_first f same input = go (dec_le (length input) input_bytes)
  where
    go : Dec (length input ≤ input_bytes) → f (take input_bytes input) ≡ f input
    go (yes h) = ap f (take_all input_bytes input h)
    go (no h) = same (take input_bytes input) (drop input_bytes input) (length-take-le input_bytes input (omega arith)) ∙ ap f (take-append-drop input_bytes input)

-- what stands past them changes nothing: the program need not read it
pub cut_same : (v : View) (input : List ℕ) → output v (take input_bytes input) ≡ output v input
cut_same v = by_the_first (output v) (cut v)

-- the same of a search's chart, which has no go line before it
pub search_cut_same : (k chart : List ℕ) → search_output k (take input_bytes chart) ≡ search_output k chart
unfolding search_output
search_cut_same k = by_the_first (search_output k) (λ p q l. same_search (number_of k) p (p ++ q) (too_long p (omega (arith, l)) ∙ sym (too_long (p ++ q) (omega (arith, l, length-append p q)))))
  where
    same_search : (o : Option ℤ) (x y : List ℕ) → read x ≡ read y → print_search o x ≡ print_search o y
    same_search none x y e = refl
    same_search (some k) x y e = rw e
