-- `chart::name_length` meets its contract.
use Rattle.semantics.proofs.Prelude.{◌≡◌, sym, ap, ◌∙◌, arith, pos, take, length, length-take}
use Rattle.std.proofs.Common.{rules}
use borrow.Author.Tests.{tests}
use Rattle.std.specs.Option.{unwrap_or}
use Rattle.std.specs.Ordering.{int_eq}
use Rattle.std.proofs.lemmas.Iterator.{YieldsList-from_slice, YieldsList-from_take}
use Rattle.std.proofs.lemmas.Iterator.Search.{position_from_yields_List}
use Rattle.std.proofs.lemmas.List.Sums.{prefix_len-le-length}
use Rattle.semantics.specs.Layout.{name_size}
use Rattle.chart.proofs.NameBytes.{name_ends, found_or}
use Rattle.chart.proofs.name_length.Goals as goal

pub returns : goal.returns
returns c =
    let ws = c.args.words.now in
    let r = position_from_yields_List (λ w. int_eq w (pos 0)) _ _ c.position.result c.position.ensures.ran (YieldsList-from_take name_size (YieldsList-from_slice ws cc) c.take.ensures.count) (λ x b q k. search (rules, tests)) in
    let m : c.min.result ≡ length (take name_size ws) = simp length-take (omega arith) in
    found_or _ (length (take name_size ws)) _ _ (prefix_len-le-length _ (take name_size ws)) r (c.unwrap_or.ensures ∙ ap (unwrap_or c.position.result) m) ∙ sym (name_ends name_size ws)
