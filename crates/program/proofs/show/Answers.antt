-- `program::show` meets its contract: the beginning goes through.
use Rattle.semantics.proofs.Prelude.{◌≡◌, rules, w32, to_z, of_z}
use Rattle.program.proofs.GoThrough.{goes_through, view_answered}
use Rattle.program.proofs.show.Goals as goal

pub returns-in_err-a : goal.returns-in_err-a
returns-in_err-a c =
    let go = c.args.go in
    let p : to_z w32 (of_z w32 go.capacity) ≡ go.capacity = search rules in
    let q : to_z w32 (of_z w32 go.budget) ≡ go.budget = search rules in
    absurd (goes_through _ c.requires.0 go c.requires.2 _ _ (search rules) (search rules) _ _ _ (rw (p, q) at c.in_err-a.ensures))

pub returns : goal.returns
returns c =
    let go = c.args.go in
    let p : to_z w32 (of_z w32 go.capacity) ≡ go.capacity = search rules in
    let q : to_z w32 (of_z w32 go.budget) ≡ go.budget = search rules in
    view_answered _ c.requires.0 go c.requires.2 _ _ (search rules) (search rules) _ _ _ (rw (p, q) at c.in_ok-a.ensures) c.args.view _ _ _ c.requires.1 c.show.ensures.answer c.show.ensures.space
