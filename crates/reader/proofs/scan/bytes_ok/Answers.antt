-- `reader::scan::bytes_ok` meets its contract: a test of all bytes without a branch.
use Rattle.semantics.proofs.Prelude.{◌∙◌, ◌&&◌, Bool, true}
use Rattle.std.proofs.Common.{rules}
use borrow.Author.Tests.{tests}
use Rattle.std.proofs.lemmas.Iterator.{YieldsList-from_slice}
use Rattle.std.proofs.lemmas.Iterator.Consumers.{fold_from_yields_List}
use Rattle.semantics.specs.Reading.{byte_ok}
use Rattle.words.proofs.Iterating.{fold_is}
use Rattle.reader.proofs.scan.bytes_ok.Goals as goal

pub returns : goal.returns
returns c =
    fold_from_yields_List _ (λ (ok : Bool) b. ok && byte_ok b) true c.fold.result c.fold.ensures.ran (YieldsList-from_slice c.args.text.now cc) (λ a x b q k. search (rules, tests))
    ∙ fold_is byte_ok true c.args.text.now
