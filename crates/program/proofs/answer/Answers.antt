-- `program::answer` meets its contract.
use Rattle.semantics.proofs.Prelude.{refl, rules}
use Rattle.std.proofs.lemmas.Result.{err_from_is_err_and}
use Rattle.program.proofs.Said.{said}
use Rattle.program.proofs.ReadAnswers.{held_refused, held_words, go_refused, go_accepted, chart_refused, chart_shown}
use Rattle.program.proofs.answer.Goals as goal

pub returns-in_err-go : goal.returns-in_err-go
returns-in_err-go c =
    let p = err_from_is_err_and c.from_residual.result c.from_residual.ensures.1 in
    rw (p.1, p.2) (go_refused c.args.view _ _ c.read.ensures _ (said _ _ c.in_err-go.ensures.cases), refl)

pub returns-in_err-read : goal.returns-in_err-read
returns-in_err-read c =
    let p = err_from_is_err_and c.from_residual-in_err-read.result c.from_residual-in_err-read.ensures.1 in
    let held = held_refused _ _ _ (search rules) c.read-2.ensures.written _ c.in_err-read.ensures.answered in
    rw (p.1, p.2) (chart_refused c.args.view _ _ c.read.ensures _ _ (said _ _ c.in_ok-go.ensures.cases) _ held, refl)

pub show-requires : goal.show-requires
show-requires c =
    let held = held_words _ _ _ (search rules) c.read-2.ensures.written _ c.in_ok-read.ensures.answered in
    (held.0, c.requires, go_accepted c.args.view _ _ c.read.ensures _ _ (said _ _ c.in_ok-go.ensures.cases))

pub returns : goal.returns
returns c =
    let held = held_words _ _ _ (search rules) c.read-2.ensures.written _ c.in_ok-read.ensures.answered in
    rw (said _ _ c.map_err-2.ensures.cases, chart_shown c.args.view _ _ c.read.ensures _ _ (said _ _ c.in_ok-go.ensures.cases) _ held) c.show.ensures
