-- `text::all_digits` meets its contract: a test of all bytes without a branch.
use Rattle.semantics.proofs.Prelude.{◌∙◌, ◌&&◌, Bool, true}
use Rattle.std.proofs.Common.{rules}
use borrow.Author.Tests.{tests}
use Rattle.std.proofs.lemmas.Iterator.{YieldsList-from_slice}
use Rattle.std.proofs.lemmas.Iterator.Consumers.{fold_from_yields_List}
use Rattle.semantics.specs.Text.{between}
use Rattle.words.proofs.Iterating.{fold_is}
use Rattle.text.proofs.all_digits.Goals as goal

pub returns : goal.returns
returns c =
    fold_from_yields_List _ (λ (ok : Bool) b. ok && between 48 57 b) true c.fold.result c.fold.ensures.ran (YieldsList-from_slice c.args.f.now cc) (λ a x b q k. search (rules, tests))
    ∙ fold_is (between 48 57) true c.args.f.now
