-- `reader::scan::open_line` meets its contract: by the last byte.
use Rattle.semantics.proofs.Prelude.{◌≡◌, sym, ap, ◌∙◌, ◌-◌, ◌+◌, ℕ, some, length, get_or, eq-eqb, ne_eqb, rules}
use Rattle.reader.specs.Answers.{found}
use Rattle.reader.proofs.Scans.{open_none, open_some, last_none, last_some}
use Rattle.reader.proofs.scan.open_line.Goals as goal

pub returns-in_err-last : goal.returns-in_err-last
returns-in_err-last c =
    let none : length c.args.text.now ≡ 0 = search rules in
    ap found c.from_residual.ensures ∙ sym (open_none 0 10 _ (eq-eqb _ _ (last_none _ none)))

pub returns-then-branch-eq-LF : goal.returns-then-branch-eq-LF
returns-then-branch-eq-LF c =
    let last : get_or c.args.text.now (length c.args.text.now - 1) 0 ≡ 10 = search rules in
    let some : length c.args.text.now ≡ 0 → ⊥ = search rules in
    sym (open_none 0 10 _ (eq-eqb _ _ (last_some _ some ∙ last)))

pub returns : goal.returns
returns c =
    let last : get_or c.args.text.now (length c.args.text.now - 1) 0 ≡ 10 → ⊥ = search rules in
    let text : length c.args.text.now ≡ 0 → ⊥ = search rules in
    ap (λ (n : ℕ). some (1 + n)) c.ended_lines.ensures ∙ sym (open_some _ (ne_eqb _ _ (λ e. last (sym (last_some _ text) ∙ e))))
