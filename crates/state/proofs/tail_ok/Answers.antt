-- `state::tail_ok` meets its contract.
use Rattle.semantics.proofs.Prelude.{◌∙◌, non_neg}
use borrow.Author.Tests.{tests}
use Rattle.std.proofs.Common.{rules}
use Rattle.std.proofs.lemmas.Iterator.{YieldsList-from_slice}
use Rattle.std.proofs.lemmas.Iterator.Search.{all_from_yields_List}
use Rattle.words.proofs.Words.{from_zero}
use Rattle.words.proofs.Iterating.{all_is}
use Rattle.state.proofs.tail_ok.Goals as goal

pub returns : goal.returns
returns c = all_from_yields_List non_neg _ _ _ c.all.ensures.ran (YieldsList-from_slice c.args.tail.now cc) (λ x b q k. search (rules, tests, from_zero)) ∙ all_is non_neg c.args.tail.now
