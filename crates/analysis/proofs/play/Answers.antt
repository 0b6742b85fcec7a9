-- `analysis::play` meets its contract.
use Rattle.semantics.proofs.Prelude.{◌≡◌, sym, ◌∙◌, suc, ◌+◌, ◌-◌, arith}
use Rattle.semantics.proofs.SettingsKept.{run_closed, run_open, run_none}
use Rattle.transfer.specs.Transfer.{edges_from}
use Rattle.progress.specs.Progress.{load_of}
use Rattle.analysis.specs.Loaded.{domain_of}
use Rattle.analysis.proofs.play.Goals as goal

pub returns-then-has_verdict : goal.returns-then-has_verdict
returns-then-has_verdict c =
    let o = c.args.outline.now in
    let b = c.loop in
    let given = sym c.has_verdict.ensures ∙ c.if-has_verdict.true in
    record { load = sym (b.invariant.2 ∙ run_closed (domain_of o.chart.now) (edges_from 0 o.edges) (c.args.most - b.counter) (load_of o.layout b.at b.table b.list) given); form = b.invariant.0 }

pub loop-preserved : goal.loop-preserved
loop-preserved c =
    let o = c.args.outline.now in
    let b = c.loop in
    let i = c.iteration-at in
    let rest = c.args.most - b.counter in
    let loaded = load_of o.layout b.at b.table b.list in
    let none = sym c.has_verdict.ensures ∙ c.if-has_verdict.false in
    let lt = c.loop-test.true in
    let m : rest ≡ suc (c.args.most - (b.counter + 1)) = omega (arith, lt) in (
      i.ensures.loaded.form,
      omega (arith, i.ensures.iterations, b.invariant.1, lt),
      b.invariant.2 ∙ run_open (domain_of o.chart.now) (edges_from 0 o.edges) rest (c.args.most - (b.counter + 1)) loaded none m ∙ rw i.ensures.loaded.load,
      i.ensures.linked,
    )

pub returns : goal.returns
returns c =
    let o = c.args.outline.now in
    let b = c.loop in
    record { load = sym (b.invariant.2 ∙ run_none (domain_of o.chart.now) (edges_from 0 o.edges) (c.args.most - b.counter) (load_of o.layout b.at b.table b.list) (omega (arith, c.loop-test.false))); form = b.invariant.0 }
