-- `checks::analysis_ok` meets its contract.
use Rattle.semantics.proofs.Prelude.{sym, ap, ◌∙◌, Bool, ◌&&◌, and-false, and-true}
use Rattle.semantics.specs.Lists.{all_of}
use Rattle.semantics.specs.Encoding.{decode}
use Rattle.semantics.specs.Memory.{lent_tests}
use Rattle.checks.proofs.FormTests.{both_parts}
use Rattle.checks.proofs.analysis_ok.Goals as goal

pub returns-then-record_ok : goal.returns-then-record_ok
returns-then-record_ok c =
    let s = c.args in
    let part = all_of (lent_tests (decode s.chart.now) s.a.capacity s.a.used s.a.waiting s.table.now s.list.now) in
    let judged = rw (c.edge_count.ensures.count, c.words.ensures.words) at c.record_ok.ensures in
    c.lent_ok.ensures ∙ sym (and-true part) ∙ ap (λ (b : Bool). part && b) (sym c.if-record_ok.true ∙ judged) ∙ both_parts s.chart.now s.table.now s.list.now s.a

pub returns-else-record_ok : goal.returns-else-record_ok
returns-else-record_ok c =
    let s = c.args in
    let part = all_of (lent_tests (decode s.chart.now) s.a.capacity s.a.used s.a.waiting s.table.now s.list.now) in
    let judged = rw (c.edge_count.ensures.count, c.words.ensures.words) at c.record_ok.ensures in
    c.if-record_ok.false ∙ sym (and-false part) ∙ ap (λ (b : Bool). part && b) (sym c.if-record_ok.false ∙ judged) ∙ both_parts s.chart.now s.table.now s.list.now s.a
