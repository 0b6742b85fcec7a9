-- `chart::location_fine` meets its contract.
use Rattle.semantics.proofs.Prelude.{arith, Bool, true, false, ◌&&◌, drop, take, SFits, w32, sfits_lit}
use Rattle.std.proofs.Common.{rules}
use borrow.Author.Tests.{tests}
use Rattle.std.proofs.lemmas.Iterator.{YieldsList-from_slice}
use Rattle.std.proofs.lemmas.Iterator.Consumers.{fold_from_yields_List}
use Rattle.semantics.specs.Layout.{name_size, name_place, kind_place}
use Rattle.semantics.specs.Encoding.{word_at, kind_word}
use Rattle.words.proofs.Words.{bits_eqb}
use Rattle.words.proofs.Iterating.{fold_is}
use Rattle.chart.specs.Encoded.{name_word}
use Rattle.chart.proofs.NameBytes.{bytes_in, location_parts}
use Rattle.chart.proofs.location_fine.Goals as goal

pub split_at-requires : goal.split_at-requires
split_at-requires c = let ws = take name_size (drop name_place c.args.row.now) in omega (arith, c.name_length.ensures, (bytes_in name_size ws).1)

pub returns : goal.returns
returns c =
    let row = c.args.row.now in
    let k : SFits w32 (word_at row kind_place) = search rules in
    rw (
      bits_eqb w32 {a = word_at row kind_place} {b = kind_word false} k (sfits_lit tt),
      bits_eqb w32 {a = word_at row kind_place} {b = kind_word true} k (sfits_lit tt),
      fold_from_yields_List _ (λ (ok : Bool) w. ok && name_word w) true c.fold.result c.fold.ensures.ran (YieldsList-from_slice c.split_at.result.0.now cc) (λ a x b q k. search (rules, tests)),
      fold_is name_word true c.split_at.result.0.now,
      c.all_zero.ensures,
      c.split_at.ensures.front,
      c.split_at.ensures.back,
    )
    (location_parts row c.name_length.result (search rules) c.name_length.ensures)
