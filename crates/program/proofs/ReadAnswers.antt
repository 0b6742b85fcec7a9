-- What reading answers, into the words of the largest chart: its refusal, or the words of the chart that it accepted; and
-- the output by the go line. Assumes nothing.
use Rattle.semantics.proofs.Prelude.{◌≡◌, refl, sym, ap, subst, ◌∙◌, List, ◌++◌, ℕ, arith, T, leb, leb→le, ℤ, length, drop}
use Rattle.std.specs.Prelude.{⊤, Result, Ok, Err}
use denote.Ref.{Bor}
use Rattle.semantics.specs.Layout.{chart_size}
use Rattle.semantics.specs.Listing.{refused_text}
use Rattle.semantics.specs.declared.View.{View}
use Rattle.semantics.specs.declared.Refusal.{Refusal}
use Rattle.semantics.specs.declared.RefusedAt.{RefusedAt}
use Rattle.semantics.specs.Program.{explored, shown, print_read, output}
use Rattle.semantics.specs.Reading.{Reading, refused, accepted, read}
use Rattle.semantics.specs.Refusals.{number_of, read_of}
use Rattle.semantics.specs.Encoding.{encode, decode, well_formed}
use Rattle.semantics.specs.Outcomes.{Answer, ReadOutcome, held_by, read_outcome}
use Rattle.semantics.proofs.Bools.{and_left}
use Rattle.semantics.proofs.Exactness.{encoded_exactly}
use Rattle.semantics.proofs.Refusals.{read_said}
use Rattle.semantics.proofs.ProgramCalls.{read_goes}
use Rattle.program.specs.declared.go_line.Go.{Go}
use Rattle.program.specs.Asked.{asking, GoRead}
use Rattle.program.specs.Responded.{Accepted, Held, at_line_0, said_at_line_0}
use Rattle.checks.proofs.Numbered.{numbered}

module _ (text : List ℕ) (ws ws' : List ℤ) (long : length ws ≡ chart_size) (w : ws' ≡ (read_outcome text ws).words) where
  pub held_refused : (e : RefusedAt) → read_of (Err e) ≡ (read_outcome text ws).answer → Held (read text) (Err e)
  unfolding read_outcome
  held_refused e a = go (read text) refl
    where
      go : (q : Reading) → read text ≡ q → read text ≡ refused (number_of e.refusal) e.line
      go (refused n l) r =
          let p = a ∙ ap (λ (q : Reading). (held_by q ws).answer) r in
          r ∙ (λ i. refused (sym p i).number (sym p i).line)
      go (accepted c) r = absurd (numbered e.refusal (ap (λ (x : Answer). x.number) (a ∙ ap (λ (x : ReadOutcome). x.answer) (read_goes text c r ws long))))

  pub held_words : (u : ⊤) → read_of (Ok u) ≡ (read_outcome text ws).answer → Held (read text) (Ok ws')
  unfolding read_outcome
  held_words u a = go (read text) refl
    where
      go : (q : Reading) → read text ≡ q → T (well_formed ws') × (read text ≡ accepted (decode ws'))
      go (refused n l) r =
          let p : 0 ≡ n = ap (λ (x : Answer). x.number) (a ∙ ap (λ (q : Reading). (held_by q ws).answer) r) in
          let q = leb→le 1 n (and_left (leb 1 n) (leb n 13) ((read_said text).number n l r)) in
          absurd (omega arith)
      go (accepted c) r =
          let p : ws' ≡ encode c ++ drop (length (encode c)) ws = w ∙ ap (λ (x : ReadOutcome). x.words) (read_goes text c r ws long) in
          let f = encoded_exactly.formed text c r (drop (length (encode c)) ws) in
          (rw p f.0, r ∙ ap accepted (sym (ap decode p ∙ f.1)))

-- ---- the output, by what the go line is and what is held of the chart

module _ (v : View) (input : List ℕ) (r : Result (Go × Bor (List ℕ)) Refusal) (said : GoRead input r) where
  pub go_refused : (e : RefusedAt) → Err e ≡ said_at_line_0 r → output v input ≡ refused_text (number_of e.refusal) e.line
  unfolding output
  go_refused e = by_answer r said
    where
      by_answer : (r : Result (Go × Bor (List ℕ)) Refusal) → GoRead input r → Err e ≡ said_at_line_0 r → output v input ≡ refused_text (number_of e.refusal) e.line
      by_answer (Ok x) g h = absurd cc
      by_answer (Err n) g h = let l : e ≡ at_line_0 n = cc in rw (l, g)

  module _ (go : Go) (chart : Bor (List ℕ)) (h : Ok (go, chart) ≡ said_at_line_0 r) where
    asks : GoRead input (Ok (go, chart))
    asks = by_answer r said h
      where
        by_answer : (r : Result (Go × Bor (List ℕ)) Refusal) → GoRead input r → Ok (go, chart) ≡ said_at_line_0 r → GoRead input (Ok (go, chart))
        by_answer (Ok x) g h = let p : x ≡ (go, chart) = cc in let P : Go × Bor (List ℕ) → Type 0 = λ x. GoRead input (Ok x) in subst P p g
        by_answer (Err n) g h = absurd cc

    pub go_accepted : Accepted go
    go_accepted = record { input = input; is = asks.0 }

    charted : output v input ≡ print_read v (asking go) (read chart.now)
    unfolding output
    charted = rw (asks.0, asks.1)

    pub chart_refused : (e : RefusedAt) → Held (read chart.now) (Err e) → output v input ≡ refused_text (number_of e.refusal) e.line
    chart_refused e k = charted ∙ rw k

    pub chart_shown : (words : List ℤ) → Held (read chart.now) (Ok words) → output v input ≡ shown v (decode words) (explored (decode words) (asking go))
    chart_shown words k = charted ∙ rw k.1
