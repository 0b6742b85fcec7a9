-- `search::show_run` meets its contract.
use Rattle.semantics.proofs.Prelude.{ap, ◌∙◌, ◌++◌, ℕ, ◌+◌, ◌≤◌, zero-add, arith, le-ltb, length, drop}
use Rattle.semantics.specs.Encoding.{decode}
use Rattle.semantics.specs.RunListing.{run_text}
use Rattle.writer.proofs.Written.{put_fits}
use Rattle.search.proofs.show_run.Goals as goal

pub returns-clause-space : goal.returns-clause-space
returns-clause-space c =
    let space = c.args.space.now in
    let text = run_text (decode c.args.found.now.chart.now) c.args.found.now.k in
    let long : 0 + length text ≤ length space = omega (arith, c.if-space-run_length.false, c.run_length.ensures, c.write_run.ensures.small) in
    let e = le-ltb (length space) (length text) (omega (arith, long)) in
    let f = put_fits c.write_run.ensures long in
    rw e (f.0 ∙ ap (λ (n : ℕ). text ++ drop n space) (zero-add (length text)))
