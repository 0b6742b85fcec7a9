-- `chart::same_name` meets its contract.
use Rattle.semantics.proofs.Prelude.{◌≡◌, sym, ◌∙◌, arith}
use Rattle.semantics.specs.Layout.{name_size}
use Rattle.chart.proofs.Names.{names_part, names_end, names_go}
use Rattle.chart.proofs.same_name.Goals as goal

pub returns-then-x-y : goal.returns-then-x-y
returns-then-x-y c =
    let y = c in
    let x = y in
    let l = x in
    let a = l.args in
    sym (l.loop-i.invariant ∙ names_part a.a.now a.b.now l.loop-i.i x.loop-i-test.true
    x.number_at-x.result y.number_at-y.result x.number_at-x.ensures.number y.number_at-y.ensures.number c.if-x-y.true)

pub returns-then-x-eq0 : goal.returns-then-x-eq0
returns-then-x-eq0 c =
    let y = c in
    let x = y in
    let l = x in
    let a = l.args in
    sym (l.loop-i.invariant ∙ names_end a.a.now a.b.now l.loop-i.i x.loop-i-test.true
    x.number_at-x.result y.number_at-y.result x.number_at-x.ensures.number y.number_at-y.ensures.number c.if-x-y.false c.if-x-eq0.true)

pub loop-i-preserved : goal.loop-i-preserved
loop-i-preserved c =
    let y = c in
    let x = y in
    let l = x in
    let a = l.args in
    l.loop-i.invariant ∙ names_go a.a.now a.b.now l.loop-i.i x.loop-i-test.true
    x.number_at-x.result y.number_at-y.result x.number_at-x.ensures.number y.number_at-y.ensures.number c.if-x-y.false c.if-x-eq0.false

pub returns : goal.returns
returns c =
    let e : c.loop-i.i ≡ name_size = omega arith in
    sym (rw e at c.loop-i.invariant)
