-- `state::join_row` meets its contract: the row is what is joined so far, and then what is left to join.
use Rattle.semantics.proofs.Prelude.{◌≡◌, ◌&&◌, ◌++◌, take, drop}
use Rattle.state.specs.Rows.{words_join, same_words, row_join}
use Rattle.state.proofs.join_row.Given as goal

abbrev pub invariant-loop-i : goal.invariant-loop-i
invariant-loop-i l =
    (row_join l.e l.initial.s ≡ take l.i l.s ++ words_join (drop l.i l.e) (drop l.i l.s))
    × (same_words (row_join l.e l.initial.s) l.initial.s ≡ l.same && same_words (words_join (drop l.i l.e) (drop l.i l.s)) (drop l.i l.s))
