-- `reader::read` meets its contract: the file's own refusals one after the other, then the lines.
use Rattle.semantics.proofs.Prelude.{sym, ap, ◌∙◌, lt-ltb, le-ltb}
use Rattle.semantics.specs.Outcomes.{read_outcome}
use Rattle.semantics.specs.Reading.{read}
use Rattle.reader.specs.Answers.{found}
use Rattle.reader.proofs.read.Goals as goal

pub returns-then-text-gt-MOST_BYTES : goal.returns-then-text-gt-MOST_BYTES
unfolding read read_outcome
returns-then-text-gt-MOST_BYTES c = let e = lt-ltb _ _ c.if-text-gt-MOST_BYTES.true in record { answered = rw (c.no_line.ensures, e); written = rw e }

pub returns-in-Some : goal.returns-in-Some
unfolding read read_outcome
returns-in-Some c =
    let e = le-ltb _ _ c.if-text-gt-MOST_BYTES.false in
    let b = sym c.bad_byte.ensures ∙ ap found c.in-Some.is in
    record { answered = rw (e, b); written = rw (e, b) }

pub returns-in-Some-open_line : goal.returns-in-Some-open_line
unfolding read read_outcome
returns-in-Some-open_line c =
    let e = le-ltb _ _ c.if-text-gt-MOST_BYTES.false in
    let b = sym c.bad_byte.ensures ∙ ap found c.in_default.is in
    let o = sym c.open_line.ensures ∙ ap found c.in-Some-open_line.is in
    record { answered = rw (e, b, o); written = rw (e, b, o) }

pub returns : goal.returns
unfolding read read_outcome
returns c =
    let e = le-ltb _ _ c.if-text-gt-MOST_BYTES.false in
    let b = sym c.bad_byte.ensures ∙ ap found c.in_default.is in
    let o = sym c.open_line.ensures ∙ ap found c.in_default-open_line.is in
    record { answered = rw (e, b, o) c.read_lines.ensures.answered; written = rw (e, b, o) c.read_lines.ensures.written }
