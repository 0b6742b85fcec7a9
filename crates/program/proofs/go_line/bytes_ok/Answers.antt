-- `program::go_line::bytes_ok` meets its contract.
use Rattle.semantics.proofs.Prelude.{◌∙◌}
use Rattle.semantics.specs.Program.{line_byte}
use Rattle.std.proofs.Common.{rules}
use borrow.Author.Tests.{tests}
use Rattle.std.proofs.lemmas.Iterator.{YieldsList-from_slice}
use Rattle.std.proofs.lemmas.Iterator.Search.{all_from_yields_List}
use Rattle.words.proofs.Iterating.{all_is}
use Rattle.program.proofs.go_line.bytes_ok.Goals as goal

pub returns : goal.returns
returns c =
    all_from_yields_List line_byte _ _ c.all.result c.all.ensures.ran (YieldsList-from_slice c.args.line.now cc) (λ x b q k. search (rules, tests))
    ∙ all_is line_byte c.args.line.now
