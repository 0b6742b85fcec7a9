-- `checks::values_ok` meets its contract. The invariant: the values pass exactly when what is left passes.
use Rattle.semantics.proofs.Prelude.{◌≡◌, ◌-◌, length, drop}
use Rattle.semantics.specs.Lists.{all_pairs}
use Rattle.semantics.specs.Layout.{counts_size, variable_size, variable_at}
use Rattle.semantics.specs.Encoding.{several, var_in}
use Rattle.semantics.specs.Memory.{value_ok}
use Rattle.checks.proofs.values_ok.Given as goal

abbrev pub invariant-loop-i : goal.invariant-loop-i
invariant-loop-i l =
    all_pairs value_ok (several var_in variable_size (length l.values) (drop counts_size l.chart)) l.values ≡ all_pairs value_ok (several var_in variable_size (length l.values - l.i) (drop (variable_at l.i) l.chart)) (drop l.i l.values)
