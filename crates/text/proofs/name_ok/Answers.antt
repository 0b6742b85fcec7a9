-- `text::name_ok` meets its contract: its length, then the test of all its bytes.
use Rattle.semantics.proofs.Prelude.{◌≡◌, sym, ◌∙◌, length, true}
use Rattle.semantics.specs.Layout.{name_size}
use Rattle.semantics.specs.Text.{name_byte, between}
use Rattle.std.proofs.Common.{rules}
use borrow.Author.Tests.{tests}
use Rattle.std.proofs.lemmas.Iterator.{YieldsList-from_slice}
use Rattle.std.proofs.lemmas.Iterator.Search.{all_from_yields_List}
use Rattle.words.proofs.Iterating.{all_is}
use Rattle.text.proofs.Bytes.{name_all}
use Rattle.text.proofs.name_ok.Goals as goal

pub returns-then-contains : goal.returns-then-contains
returns-then-contains c =
    let size : between 1 name_size (length c.args.f.now) ≡ true = search (rules, tests) in
    all_from_yields_List name_byte _ _ c.all.result c.all.ensures.ran (YieldsList-from_slice c.args.f.now cc) (λ x b q k. search (rules, tests))
    ∙ all_is name_byte c.args.f.now ∙ sym (name_all c.args.f.now size)
