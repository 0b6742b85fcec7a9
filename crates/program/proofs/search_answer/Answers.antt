-- `program::search_answer` meets its contract.
use Rattle.semantics.proofs.Prelude.{◌≡◌, refl, sym, ap, ◌∙◌, true, false, T, subst, rules, w32, to_z, of_z}
use Rattle.std.proofs.lemmas.Result.{err_from_is_err_and}
use Rattle.semantics.specs.RunListing.{moves_ok}
use Rattle.program.proofs.CutAmounts.{no_number, out_of_range, in_range}
use Rattle.program.proofs.Said.{said, none_or}
use Rattle.program.proofs.ReadAnswers.{held_refused, held_words}
use Rattle.program.proofs.RunThrough.{run_answered}
use Rattle.program.proofs.search_answer.Goals as goal

pub returns-in_err-moves : goal.returns-in_err-moves
returns-in_err-moves c =
    let p = err_from_is_err_and c.from_residual.result c.from_residual.ensures.1 in
    let e = none_or _ _ _ c.in_err-moves.ensures.ok_part c.in_err-moves.ensures.value in
    rw (p.1, p.2, e, c.at_line_0.ensures) (no_number _ _ _ c.number.ensures c.in_err-moves.ensures.ok_part, refl)

pub returns-then-not-moves_ok : goal.returns-then-not-moves_ok
returns-then-not-moves_ok c =
    let moves = c.in_ok-moves.moves in
    let same : to_z w32 (of_z w32 moves) ≡ moves = search rules in
    let judged : moves_ok moves ≡ false = sym (c.moves_ok.ensures ∙ ap moves_ok same) ∙ c.if-not-moves_ok.true in
    rw c.at_line_0-then-not-moves_ok.ensures (out_of_range _ _ _ c.number.ensures moves c.in_ok-moves.ensures.ok_part judged, refl)

pub returns-in_err-read : goal.returns-in_err-read
returns-in_err-read c =
    let moves = c.in_ok-moves.moves in
    let same : to_z w32 (of_z w32 moves) ≡ moves = search rules in
    let judged : moves_ok moves ≡ true = sym (c.moves_ok.ensures ∙ ap moves_ok same) ∙ c.if-not-moves_ok.false in
    let p = err_from_is_err_and c.from_residual-in_err-read.result c.from_residual-in_err-read.ensures.1 in
    let held = held_refused _ _ _ (search rules) c.read.ensures.written _ c.in_err-read.ensures.answered in
    rw (p.1, p.2) (in_range _ _ _ c.number.ensures moves c.in_ok-moves.ensures.ok_part judged ∙ rw held, refl)

pub returns : goal.returns
returns c =
    let moves = c.in_ok-moves.moves in
    let same : to_z w32 (of_z w32 moves) ≡ moves = search rules in
    let judged : moves_ok moves ≡ true = sym (c.moves_ok.ensures ∙ ap moves_ok same) ∙ c.if-not-moves_ok.false in
    let held = held_words _ _ _ (search rules) c.read.ensures.written _ c.in_ok-read.ensures.answered in
    rw (said _ _ c.map_err.ensures.cases, in_range _ _ _ c.number.ensures moves c.in_ok-moves.ensures.ok_part judged, held.1)
    (run_answered _ held.0 moves (subst T (sym judged) tt) _ _ _ c.requires (rw same at c.search.ensures.answer) (rw same at c.search.ensures.space))
