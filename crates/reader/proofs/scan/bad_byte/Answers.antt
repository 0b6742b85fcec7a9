-- `reader::scan::bad_byte` meets its contract: the lines that end before the first byte at fault.
use Rattle.semantics.proofs.Prelude.{◌≡◌, sym, ap, ◌∙◌, not, ℕ, ◌+◌, some, rules}
use borrow.Author.Tests.{tests}
use Rattle.std.specs.List.{position}
use Rattle.std.proofs.lemmas.Iterator.{YieldsList-from_slice}
use Rattle.std.proofs.lemmas.Iterator.Search.{position_from_yields_List}
use Rattle.semantics.specs.Reading.{byte_ok}
use Rattle.reader.specs.Answers.{found}
use Rattle.reader.proofs.Scans.{bad_none, bad_nowhere, bad_at}
use Rattle.reader.proofs.scan.bad_byte.Goals as goal

pub returns-then-bytes_ok : goal.returns-then-bytes_ok
returns-then-bytes_ok c = sym (bad_none 1 _ (sym c.bytes_ok.ensures ∙ c.if-bytes_ok.true))

pub returns-in_err-at : goal.returns-in_err-at
returns-in_err-at c =
    let looked : c.position.result ≡ position (λ b. not (byte_ok b)) c.args.text.now
    = position_from_yields_List (λ b. not (byte_ok b)) _ _ c.position.result c.position.ensures.ran (YieldsList-from_slice c.args.text.now cc) (λ x b q k. search (rules, tests)) in
    ap found c.from_residual.ensures ∙ sym (bad_nowhere 1 c.args.text.now (sym looked ∙ c.in_err-at.was))

pub returns : goal.returns
returns c =
    let looked : c.position.result ≡ position (λ b. not (byte_ok b)) c.args.text.now
    = position_from_yields_List (λ b. not (byte_ok b)) _ _ c.position.result c.position.ensures.ran (YieldsList-from_slice c.args.text.now cc) (λ x b q k. search (rules, tests)) in
    ap (λ (n : ℕ). some (1 + n)) c.ended_lines.ensures ∙ sym (bad_at 1 c.args.text.now (sym looked ∙ c.in_ok-at.was))
