use Rattle.semantics.proofs.Prelude.{◌≡◌, ap, ◌∙◌, arith, List, [], ◌∷◌, ◌++◌, append-nil, suc, ◌-◌, ℤ, length, set, take, drop, drop_of_length-le, w32, to_z_pos}
use Rattle.descent.proofs.put_step.Goals as goal

-- the first word, and the others written over
written : (p m : List ℤ) (z : ℤ) → length p ≡ suc (length m) → take 1 (set p 0 z) ++ (m ++ drop (length (set p 0 z) - 1) (drop 1 (set p 0 z))) ≡ z ∷ m
written [] m z h = absurd (omega arith)
written (x ∷ xs) m z h = ap (λ (l : List ℤ). z ∷ l) (ap (λ (l : List ℤ). m ++ l) (drop_of_length-le xs {i = suc (length xs) - 1} (omega arith)) ∙ append-nil m)

pub returns : goal.returns
returns c =
    rw (c.copy_from_slice.ensures.after, to_z_pos w32 {n = c.args.edge.0} (omega (arith, c.requires.1))) (written c.args.path.now c.args.row.now _ c.requires.0)
