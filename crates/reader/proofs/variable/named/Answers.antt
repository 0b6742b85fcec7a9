-- `reader::variable::named` meets its contract.
use Rattle.semantics.proofs.Prelude.{◌≡◌, sym, ◌∙◌, arith, w32, to_z, of_z, rules}
use Rattle.semantics.specs.Reading.{with_var}
use Rattle.reader.specs.Answers.{var_of}
use Rattle.reader.proofs.OneRowMore.{rows_var, names_more}
use Rattle.reader.proofs.NewNames.{new_variable}
use Rattle.reader.proofs.CheckSteps.{check_no, check_yes}
use Rattle.reader.proofs.variable.named.Goals as goal

pub returns-then-not-name_is_new : goal.returns-then-not-name_is_new
returns-then-not-name_is_new c = λ s h.
    let p = c.put_location in
    let new = c.name_is_new.ensures ∙ new_variable h.names c.args.name.now c.requires.0 p.new.rows p.ensures in
    check_no _ _ (sym new ∙ c.if-not-name_is_new.true)

pub returns : goal.returns
returns c = λ s h.
    let p = c.put_location in
    let new = c.name_is_new.ensures ∙ new_variable h.names c.args.name.now c.requires.0 p.new.rows p.ensures in
    let v = c.args.v in
    let name = c.args.name.now in
    let q = c.requires in
    let x : to_z w32 (of_z w32 v.lo) ≡ v.lo = search rules in
    let y : to_z w32 (of_z w32 v.hi) ≡ v.hi = search rules in
    let z : to_z w32 (of_z w32 v.init) ≡ v.init = search rules in
    record {
      read = with_var s name (var_of v);
      is = check_yes _ _ (sym new ∙ c.if-not-name_is_new.false);
      holds = record {
        rows = rows_var s h.rows c.used_words-end.ensures name (var_of v) (c.put_variable.ensures ∙ rw (x, y, z)) q.2 q.3 (omega (arith, q)) (omega arith);
        names = names_more name h.names p.ensures q.0 (omega (arith, q));
      };
    }
