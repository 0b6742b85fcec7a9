-- The beginning goes through, and the memory is what was explored; a view of it is printed, or refused by 24. Assumes
-- nothing.
use Rattle.semantics.proofs.Prelude.{◌≡◌, ap, ◌∙◌, Bool, true, false, List, ℕ, arith, T, ℤ, length, refl}
use Rattle.std.specs.Prelude.{Result, Ok, Err}
use Rattle.semantics.specs.Layout.{most_slots, listing_bytes, table_words}
use Rattle.semantics.specs.Chart.{Chart}
use Rattle.semantics.specs.Encoding.{decode, well_formed, chart_ok}
use Rattle.semantics.specs.Algorithm.{Exploration}
use Rattle.semantics.specs.Constants.{AbstractState}
use Rattle.semantics.specs.Memory.{Memory, is_alarm}
use Rattle.semantics.specs.Outcomes.{Answer, Outcome, put_in, begin_outcome, listing_outcome, path_outcome}
use Rattle.semantics.specs.Refusals.{listed_of}
use Rattle.semantics.specs.declared.Analysis.{Analysis}
use Rattle.semantics.specs.declared.Refusal.{Refusal}
use Rattle.semantics.specs.declared.Verdict.TheVariants.{Open}
use Rattle.semantics.specs.declared.View.{View}
use Rattle.semantics.specs.declared.View.TheVariants.{Listing, Path}
use Rattle.semantics.specs.Program.{explored, shown}
use Rattle.semantics.proofs.Encoded.{well_formed_split}
use Rattle.semantics.proofs.Program.{GoOk, explored_good}
use Rattle.semantics.proofs.InputCut.{go_fine}
use Rattle.semantics.proofs.ProgramCalls.{begin_goes, listing_goes, path_goes, path_refused}
use Rattle.semantics.proofs.MemoryOf.{Proper}
use Rattle.listing.specs.Views.{view_outcome}
use Rattle.checks.specs.Form.{lent}
use Rattle.calls.specs.Calls.{EndsCalled}
use Rattle.program.specs.declared.go_line.Go.{Go}
use Rattle.program.specs.Asked.{asking}
use Rattle.program.specs.Responded.{Accepted, Answered, said_at_line_0}
use Rattle.program.proofs.Said.{answered_text, answered_refusal}
use Rattle.checks.proofs.Numbered.{numbered}

-- the memory is the exploration, put into words lent
record PutIn (c : Chart) (w : Exploration AbstractState) (m : Memory) : Type 0 where
  over : Memory
  same : m ≡ put_in c w over

module _ (words : List ℤ) (formed : T (well_formed words)) (go : Go) (asked : Accepted go) where
  abbrev chart : Chart
  chart = decode words

  inside : T (chart_ok chart)
  inside = (well_formed_split words formed).1

  fine_go : GoOk (asking go)
  fine_go = go_fine asked.input (asking go) asked.is

  abbrev w : Exploration AbstractState
  w = explored chart (asking go)

  good : Proper chart w
  good = explored_good chart inside (asking go) fine_go

  -- what the beginning left, in words that are enough
  module _ (table list : List ℤ) (a : length table ≡ table_words) (b : length list ≡ most_slots) (t l : List ℤ) where
    abbrev pub Ended : Result Analysis Refusal → Type 0
    Ended r = (before : Analysis) → EndsCalled (begin_outcome words go.settings go.capacity go.budget (lent table list before)) before r t l

    -- a record from before
    before : Analysis
    before = record { settings = go.settings; capacity = 0; iterations = 0; used = 0; waiting = 0; verdict = Open; edge = record { 0 = 0 } }

    pub goes_through : (e : Refusal) → Ended (Err e) → ⊥
    goes_through e ends =
        let o = begin_goes words formed (asking go) fine_go (lent table list before) a b in
        numbered e (ap (λ (x : Answer). x.number) ((ends before).answer ∙ ap (λ (x : Outcome). x.answer) o))

    left : (x : Analysis) → Ended (Ok x) → PutIn chart w (lent t l x)
    left x ends =
        let o = ap (λ (x : Outcome). x.memory) (begin_goes words formed (asking go) fine_go (lent table list x) a b) in
        let e = ends x in
        record { over = lent table list x; same = (λ i. record { table = e.table i; waitlist = e.waitlist i; analysis = e.analysis i }) ∙ o }

    -- what a view answers and writes: its text; or, refused by 24, not a byte
    pub view_answered : (x : Analysis) → Ended (Ok x) → (v : View) (space space' : List ℕ) (s : Result ℕ Refusal) → length space ≡ listing_bytes
        → listed_of s ≡ (view_outcome v words (lent t l x) space).answer → space' ≡ (view_outcome v words (lent t l x) space).space → Answered (shown v chart w) space (said_at_line_0 s) space'
    view_answered x e Listing space space' s n p q =
        let h = left x e in
        let o = ap (λ (m : Memory). listing_outcome words m space) h.same ∙ listing_goes words formed w good h.over space n in
        answered_text _ space space' s (p ∙ ap (λ (x : Outcome). x.answer) o) (q ∙ ap (λ (x : Outcome). x.space) o)
    view_answered x e Path space space' s n p q = by_alarm (is_alarm w.verdict) refl
      where
        h : PutIn chart w (lent t l x)
        h = left x e

        held : path_outcome words (lent t l x) space ≡ path_outcome words (put_in chart w h.over) space
        held = ap (λ (m : Memory). path_outcome words m space) h.same

        by_alarm : (b : Bool) → is_alarm w.verdict ≡ b → Answered (shown Path chart w) space (said_at_line_0 s) space'
        by_alarm true k =
            let o = held ∙ path_goes words formed w good h.over space n k in
            rw k (answered_text _ space space' s (p ∙ ap (λ (x : Outcome). x.answer) o) (q ∙ ap (λ (x : Outcome). x.space) o))
        by_alarm false k =
            let o = held ∙ path_refused words formed w good h.over space n k in
            rw k (answered_refusal _ space space' s 24 (λ z. omega (arith, z)) (p ∙ ap (λ (x : Outcome). x.answer) o) refl (q ∙ ap (λ (x : Outcome). x.space) o))
