use Rattle.semantics.proofs.Prelude.{◌∙◌, ◌&&◌, Bool, pos, true}
use Rattle.std.proofs.Common.{rules}
use borrow.Author.Tests.{tests}
use Rattle.std.proofs.lemmas.Iterator.{YieldsList-from_slice}
use Rattle.std.proofs.lemmas.Iterator.Consumers.{fold_from_yields_List}
use Rattle.semantics.specs.Chart.{eq_z}
use Rattle.words.proofs.Iterating.{fold_is}
use Rattle.words.proofs.all_zero.Goals as goal

pub returns : goal.returns
returns c =
    fold_from_yields_List _ (λ (ok : Bool) x. ok && eq_z (pos 0) x) true c.fold.result c.fold.ensures.ran (YieldsList-from_slice c.args.s.now cc) (λ a x b q k. search (rules, tests))
    ∙ fold_is (eq_z (pos 0)) true c.args.s.now
