-- `analysis::iteration` meets its contract.
use Rattle.semantics.proofs.Prelude.{◌≡◌, ap, ◌∙◌, ◌++◌, ℕ, ◌*◌, arith, length, take, drop, length-take-le, replicate, pos}
use Rattle.semantics.specs.Algorithm.{visit_all, takers, brought}
use Rattle.semantics.proofs.Tidy.{queue_in_more}
use Rattle.words.proofs.Rows.{row_in}
use Rattle.state.specs.Rows.{width_of, most_width, rows_of, origins_of}
use Rattle.waitlist.specs.Waits.{waits}
use Rattle.reached.proofs.FormKept.{apart, in_table}
use Rattle.transfer.specs.Transfer.{edges_from}
use Rattle.analysis.specs.Loaded.{domain_of, Progressed}
use Rattle.analysis.proofs.Iterations.{taken_from, kept_taken, play_of, brought_by, iteration_sound}
use Rattle.analysis.proofs.iteration.Goals as goal

pub get_row-requires : goal.get_row-requires
get_row-requires c =
    let s = c.args in
    let row = length-take-le c.width.result (replicate most_width (pos 0)) (omega (arith, c.width.ensures, s.outline.now.outlined.narrow)) ∙ c.width.ensures in
    let y = s.outline.now.layout in
    let t = c.take_slot-slot in
    let taken = taken_from y s.outline.now.edges s.a s.table.now s.list.now c.requires.0 t.result.0 t.new.list t.ensures in
    let form = kept_taken y s.outline.now.edges s.a s.table.now s.list.now c.requires.0 t.result.0 t.new.list t.ensures t.auto.list in
    omega (arith, row_in t.result.0 s.a.used y.stride taken.1, in_table form, apart form, row)

pub visit_all-p-requires : goal.visit_all-p-requires
visit_all-p-requires c =
    let s = c.args in
    let row = length-take-le c.width.result (replicate most_width (pos 0)) (omega (arith, c.width.ensures, s.outline.now.outlined.narrow)) ∙ c.width.ensures in
    let y = s.outline.now.layout in
    let t = c.take_slot-slot in
    let taken = taken_from y s.outline.now.edges s.a s.table.now s.list.now c.requires.0 t.result.0 t.new.list t.ensures in
    let form = kept_taken y s.outline.now.edges s.a s.table.now s.list.now c.requires.0 t.result.0 t.new.list t.ensures t.auto.list in
    rw c.with_counts-taken.ensures (record { kept = form; allowed = c.requires.0.allowed; row = c.get_row.auto.out ∙ row; linked = c.requires.3 }, omega (arith, taken.1, form.capacity, form.small))

pub finish-requires : goal.finish-requires
finish-requires c =
    let s = c.args in
    let y = s.outline.now.layout in
    let t = c.take_slot-slot in
    let v = c.visit_all-p in
    let taken = taken_from y s.outline.now.edges s.a s.table.now s.list.now c.requires.0 t.result.0 t.new.list t.ensures in
    let k = v.ensures.progressed.kept in
    let size : length v.new.list ≡ length s.list.now = v.auto.list ∙ t.auto.list in
    (record { stored = k.slots; slot = omega (arith, taken.1, c.requires.0.kept.capacity, size); small = k.small; queue = queue_in_more v.result.used (length v.new.list) _ k.capacity k.queue }, c.requires.1)

pub returns-clause-loaded : goal.returns-clause-loaded
returns-clause-loaded c =
    let s = c.args in
    let row = length-take-le c.width.result (replicate most_width (pos 0)) (omega (arith, c.width.ensures, s.outline.now.outlined.narrow)) ∙ c.width.ensures in
    let y = s.outline.now.layout in
    let t = c.take_slot-slot in
    let v = c.visit_all-p in
    let f = c.finish in
    let slot = t.result.0 in
    let rest = t.new.list in
    let chart = s.outline.now.chart.now in
    let w = c.with_counts-taken.ensures in
    let size : length v.new.list ≡ length s.list.now = v.auto.list ∙ t.auto.list in
    let r : length rest ≡ s.a.capacity = t.auto.list ∙ c.requires.0.capacity in
    let row_is : c.get_row.new.out ≡ take (width_of y) (drop (slot * y.stride) s.table.now) = c.get_row.ensures ∙ ap (λ (w : ℕ). take w (drop (slot * y.stride) s.table.now)) row in
    let edges = edges_from 0 s.outline.now.edges in
    let played : Progressed y v.new.table v.new.list v.new.links v.result (play_of y s.outline.now.edges s.a s.table.now s.list.now c.requires.0 slot rest t.ensures chart edges) =
    record {
      out = v.ensures.progressed.out ∙ (λ i. visit_all (domain_of chart) (w i).settings (r i) (row_is i) edges (rows_of y (w i).used s.table.now) (waits (w i).waiting rest));
      kept = v.ensures.progressed.kept;
      linked = v.ensures.progressed.linked;
    } in
    let noted : origins_of y v.result.used v.new.table ≡ origins_of y s.a.used s.table.now ++ brought_by y s.outline.now.edges s.a s.table.now s.list.now c.requires.0 slot rest t.ensures chart edges =
    v.ensures.origins
    ∙ (λ i. origins_of y (w i).used s.table.now ++ brought slot (takers (domain_of chart) (w i).settings (r i) (row_is i) edges (rows_of y (w i).used s.table.now) (waits (w i).waiting rest))) in
    iteration_sound y s.outline.now.edges s.a s.table.now s.list.now c.requires.0 slot rest t.ensures chart v.result v.new.table v.new.list v.new.links size played noted f.result f.new.list f.auto.list f.ensures
