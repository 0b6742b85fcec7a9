-- `text::field_from` meets its contract: as many bytes as stand before the next tab.
use Rattle.semantics.proofs.Prelude.{◌≡◌, ◌+◌, ℕ, eqb, ap, ◌∙◌, length, take, drop, ◌-◌}
use Rattle.std.proofs.Common.{rules}
use borrow.Author.Tests.{tests}
use Rattle.std.specs.List.{position}
use Rattle.std.proofs.lemmas.Iterator.{YieldsList-from_slice}
use Rattle.std.proofs.lemmas.Iterator.Search.{position_from_yields_List}
use Rattle.text.specs.Fields.{up_to}
use Rattle.words.proofs.Rows.{tail}
use Rattle.text.proofs.LineEnds.{up_to_found}
use Rattle.text.proofs.field_from.Goals as goal

pub returns : goal.returns
returns c =
    let line = c.args.line.now in
    let at = c.args.at in
    let found : c.position-size.result ≡ position (λ b. eqb b 9) (take (length line - at) (drop at line))
    = position_from_yields_List (λ b. eqb b 9) _ _ c.position-size.result c.position-size.ensures.ran (YieldsList-from_slice (take (length line - at) (drop at line)) cc) (λ x b q k. search (rules, tests)) in
    let size = c.unwrap_or.ensures ∙ up_to_found 9 _ _ found in
    let here : up_to 9 (take (length line - at) (drop at line)) ≡ up_to 9 (drop at line) = ap (up_to 9) (tail line at) in
    ap (λ (n : ℕ). record { start = at; end = at + n }) (size ∙ here)
