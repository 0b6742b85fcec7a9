-- `waitlist::remove` meets its contract.
use Rattle.semantics.proofs.Prelude.{pos, take}
use borrow.Author.Tests.{tests}
use Rattle.std.proofs.Common.{rules}
use Rattle.std.proofs.lemmas.Iterator.{YieldsList-from_slice}
use Rattle.std.proofs.lemmas.Iterator.Search.{position_from_yields_List}
use Rattle.semantics.specs.Chart.{eq_z}
use Rattle.waitlist.proofs.MovedWords.{without_at, without_none}
use Rattle.waitlist.proofs.remove.Goals as goal

pub returns-in-Some : goal.returns-in-Some
returns-in-Some c =
    let found = position_from_yields_List (eq_z (pos c.args.slot.0)) _ _ _ c.position.ensures.ran (YieldsList-from_slice (take c.args.count c.args.list.now) cc) (λ x b q j. search (rules, tests)) in
    rw (← without_at c.requires.0 c.requires.1 c.args.slot.0 found c.in-Some.is) c.take_out.ensures

pub returns-in-None : goal.returns-in-None
returns-in-None c =
    let found = position_from_yields_List (eq_z (pos c.args.slot.0)) _ _ _ c.position.ensures.ran (YieldsList-from_slice (take c.args.count c.args.list.now) cc) (λ x b q j. search (rules, tests)) in
    rw (without_none c.requires.0 c.requires.1 c.args.slot.0 found c.in-None.is) c.requires.0
