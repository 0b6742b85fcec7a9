-- Where the program's output says `safe`, no execution of the chart in its input meets an error location or overruns.
-- Assumes nothing.
use Rattle.semantics.proofs.Prelude.{◌≡◌, refl, sym, ap, ◌∙◌, subst, inl, inr, List, [], ◌∷◌, ◌++◌, append-nil, append_assoc, ℕ, suc, arith, T, get_or}
use Rattle.semantics.specs.Lists.{In, all}
use Rattle.semantics.specs.Text.{bytes, decimal, fields, line_of}
use Rattle.semantics.specs.Chart.{Edge, Numbered, number_from, Chart, Overruns}
use Rattle.semantics.specs.Reading.{Res, fail, ok, nth, Reading, refused, accepted, read}
use Rattle.semantics.specs.Algorithm.{Mode, Sep, Join, Order, Old, New, Verdict, Open, Safe, Alarm, Full, Exploration}
use Rattle.semantics.specs.Constants.{AbstractState, Covers, constants}
use Rattle.semantics.specs.Coverage.{system}
use Rattle.semantics.specs.Laws.{Fit}
use Rattle.semantics.specs.Tidy.{Every}
use Rattle.semantics.specs.Memory.{analysis_of}
use Rattle.semantics.specs.Listing.{mode_text, order_text, verdict_text, slots_text, listing_text, refused_text}
use Rattle.semantics.specs.Rendering.{fields_text}
use Rattle.semantics.specs.Program.{first_line, past_line, Listing, Go, go_line, explored, print_read, print_go, output}
use Rattle.semantics.specs.ProgramSafe.{ProgramPath, verdict_field, ChartSafe, ProgramSafe}
use Rattle.semantics.proofs.Bools.{and_left, and_right}
use Rattle.semantics.proofs.Covering.{covering}
use Rattle.semantics.proofs.ConstantsSound.{laws}
use Rattle.semantics.proofs.Numbers.{plain}
use Rattle.semantics.proofs.Texts.{Plain, inner, inner_not_10, tabbed_inner, fields_back}
use Rattle.semantics.proofs.Rendered.{dec_plain}
use Rattle.semantics.proofs.ReadInBounds.{in_bounds}
use Rattle.semantics.proofs.PathHolds.{path_holds}
use Rattle.semantics.proofs.Program.{GoOk, explored_good}
use Rattle.semantics.proofs.InputCut.{go_fine}

-- ---- the fields of the first line

line_is : (f : List ℕ) (gs : List (List ℕ)) → line_of f gs ≡ fields_text f gs ++ (10 ∷ [])
unfolding line_of
line_is f [] = refl
line_is f (g ∷ gs) = ap (λ (l : List ℕ). f ++ (9 ∷ l)) (line_is g gs) ∙ sym (append_assoc f (9 ∷ fields_text g gs) (10 ∷ []))

first_is : (l more : List ℕ) → T (all inner l) → first_line (l ++ (10 ∷ more)) ≡ l
first_is [] more t = refl
first_is (b ∷ bs) more t = rw (inner_not_10 b (and_left (inner b) (all inner bs) t), first_is bs more (and_right (inner b) (all inner bs) t))

first_fields : (f : List ℕ) (gs : List (List ℕ)) (more : List ℕ) → Plain f → Every Plain gs → fields (first_line (line_of f gs ++ more)) ≡ f ∷ gs
first_fields f gs more t h =
    ap (λ (l : List ℕ). fields (first_line l)) (ap (λ (l : List ℕ). l ++ more) (line_is f gs) ∙ append_assoc (fields_text f gs) (10 ∷ []) more)
    ∙ ap fields (first_is (fields_text f gs) more (tabbed_inner f gs t h))
    ∙ fields_back f gs t h

-- ---- the header's words

mode_plain : (m : Mode) → Plain (mode_text m)
unfolding plain
mode_plain Sep = tt
mode_plain Join = tt

order_plain : (o : Order) → Plain (order_text o)
unfolding plain
order_plain Old = tt
order_plain New = tt

verdict_plain : (v : Verdict) → Plain (verdict_text v)
unfolding plain
verdict_plain Open = tt
verdict_plain Safe = tt
verdict_plain Alarm = tt
verdict_plain Full = tt

walk_plain : Plain (bytes "walk")
unfolding plain
walk_plain = tt

refused_plain : Plain (bytes "refused")
unfolding plain
refused_plain = tt

-- the first byte
abbrev head : List ℕ → ℕ
head l = get_or l 0 0

says_safe : (v : Verdict) → verdict_text v ≡ bytes "safe" → v ≡ Safe
says_safe Open e = let z : ◌≡◌ {A = ℕ} 111 115 = ap head e in absurd (omega arith)
says_safe Safe e = refl
says_safe Alarm e = let z : ◌≡◌ {A = ℕ} 97 115 = ap head e in absurd (omega arith)
says_safe Full e = let z : ◌≡◌ {A = ℕ} 114 115 = ap head e in absurd (omega arith)

header_verdict : (c : Chart) (w : Exploration AbstractState) → verdict_field (listing_text c w) ≡ verdict_text w.verdict
unfolding listing_text
header_verdict c w =
    let a = analysis_of w in
    ap (λ (l : List (List ℕ)). nth l 4)
    (first_fields (bytes "walk")
    (mode_text a.settings.merge ∷ mode_text a.settings.stop ∷ order_text a.settings.order ∷ verdict_text a.verdict ∷ decimal a.iterations ∷ decimal a.used ∷ decimal a.edge.0 ∷ [])
    (slots_text c w.waitlist 0 w.reached) walk_plain
    (mode_plain a.settings.merge, (mode_plain a.settings.stop, (order_plain a.settings.order, (verdict_plain a.verdict, (dec_plain a.iterations, (dec_plain a.used, (dec_plain a.edge.0, tt))))))))

refused_none : (n l : ℕ) → verdict_field (refused_text n l) ≡ bytes "safe" → ⊥
refused_none n l e =
    let p : verdict_field (refused_text n l) ≡ [] =
    ap (λ (t : List ℕ). verdict_field t) (sym (append-nil (refused_text n l)))
    ∙ ap (λ (t : List (List ℕ)). nth t 4) (first_fields (bytes "refused") (decimal n ∷ decimal l ∷ []) [] refused_plain (dec_plain n, (dec_plain l, tt))) in
    let z : ◌≡◌ {A = ℕ} 0 115 = ap head (sym p ∙ e) in
    omega arith

-- ---- the promise

-- an edge of the chart is one of its edges with their numbers
in_numbered : (n : ℕ) (gs : List Edge) (g : Edge) → In g gs → (h : Numbered) × In h (number_from n gs) × (h.edge ≡ g)
in_numbered n [] g i = absurd i
in_numbered n (h ∷ gs) g (inl p) = (record { no = n; edge = h }, inl refl, sym p)
in_numbered n (h ∷ gs) g (inr i) = let r = in_numbered (suc n) gs g i in (r.0, inr r.1, r.2)

pub program_safe : ProgramSafe
unfolding output
program_safe input = by_go (go_line input) refl
  where
    text : List ℕ
    text = past_line input

    by_read : (g : Go) → GoOk g → (r : Reading) → read text ≡ r → verdict_field (print_read Listing g r) ≡ bytes "safe" → ChartSafe text
    by_read g h (refused n l) e v = absurd (refused_none n l v)
    by_read g h (accepted c) e v =
        let good = explored_good c (in_bounds text c e) g h in
        let safe = says_safe (explored c g).verdict (sym (header_verdict c (explored c g)) ∙ v) in
        let all = covering (system c) (constants c) (Fit c) (Covers c) (laws c) (explored c g) good.held in
        record {
          chart = c;
          reads = e;
          safe = all.safe_good safe;
          no_overrun = λ ss r j s a h i. let n = in_numbered 1 c.edges h i in λ o. all.safe_faultless safe ss r j s a n.0 n.1 (subst (λ (x : Edge). Overruns c x s) (sym n.2) o);
        }

    by_go : (r : Res Go) → go_line input ≡ r → verdict_field (print_go Listing r text) ≡ bytes "safe" → ChartSafe text
    by_go (fail n) e v = absurd (refused_none n 0 v)
    by_go (ok g) e v = by_read g (go_fine input g e) (read text) refl v

pub program_path : ProgramPath
program_path input g c e r = path_holds c (explored c g) (explored_good c (in_bounds (past_line input) c r) g (go_fine input g e)).path
