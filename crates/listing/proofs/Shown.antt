-- What an analysis held in form says of its slots. Assumes nothing.
use Rattle.semantics.proofs.Prelude.{◌≡◌, ap, ◌∙◌, Bool, false, List, ℕ, ◌+◌, ◌*◌, ◌≤◌, ◌<◌, mul-le-mul_right, arith, eqb, length, get_or}
use Rattle.semantics.specs.Layout.{most_slots}
use Rattle.semantics.specs.Lists.{some_of}
use Rattle.semantics.specs.Encoding.{decode}
use Rattle.semantics.specs.Memory.{stride}
use Rattle.semantics.proofs.ListingShort.{few_used}
use Rattle.words.proofs.Rows.{row_in}
use Rattle.state.specs.Rows.{width_of}
use Rattle.state.proofs.Layouts.{LayoutOf, is_layout, slots_in}
use Rattle.listing.specs.declared.Held.{Held}
use Rattle.listing.specs.Shown.{memory, waiting, origins}
use Rattle.listing.proofs.Ways.{Falls, falls_in}
use Rattle.listing.proofs.TextPieces.{counts_in_order, marked_from_none}

pub laid : (h : Held) → LayoutOf (decode h.chart) h.layout
laid h = is_layout h.chart h.layout h.laid

pub few : (h : Held) → h.analysis.used ≤ most_slots
few h = few_used (decode h.chart) (memory h) h.in_form.analysis

-- slot s has its words in the table, and its mark
pub record InTable (h : Held) (s : ℕ) : Type 0 where
  pub few : s < most_slots
  pub some : 1 ≤ width_of h.layout
  pub apart : width_of h.layout ≤ h.layout.stride
  pub words : s * h.layout.stride + h.layout.stride ≤ length h.table.now

pub in_table : (h : Held) (s : ℕ) → s < h.analysis.used → InTable h s
in_table h s used =
    let o = counts_in_order (decode h.chart) (memory h) h.in_form.analysis in
    let y = laid h in
    let fits = slots_in y h.analysis.used (length h.table.now) (omega (arith, h.in_form.table, mul-le-mul_right (stride (decode h.chart)) o.0)) in
    record { few = omega (arith, few h); some = omega (arith, y.wide); apart = omega (arith, y.wide, y.stride); words = omega (arith, row_in s h.analysis.used h.layout.stride used, fits) }

-- whether it waits
pub mark_says : (h : Held) (s : ℕ) → s < h.analysis.used → get_or h.marks s false ≡ some_of (eqb s) (waiting h)
mark_says h s used = ap (λ (ms : List Bool). get_or ms s false) h.marked ∙ marked_from_none most_slots (waiting h) s (omega (arith, few h))

-- following parents ends
pub falls : (h : Held) → Falls (origins h) h.analysis.used
falls h = falls_in h.chart (memory h) h.in_form h.layout (laid h)
