-- `reached::links::add` meets its contract.
use Rattle.semantics.proofs.Prelude.{◌≡◌, ap, ◌∙◌, List, ℕ, arith, ltb, set}
use Rattle.semantics.specs.Lists.{pick}
use Rattle.reached.specs.Links.{last_slot, last_place, next_place}
use Rattle.reached.proofs.Linking.{linked_more}
use Rattle.reached.proofs.links.add.Goals as goal

pub returns : goal.returns
returns c =
    let b = c.chain_of-chain in
    let k = c.args.links.now in
    let n = c.args.slot.0 in
    let place : c.place_for-place.result ≡ pick (ltb (last_slot k b.result) n) (next_place (last_slot k b.result)) b.result =
    c.place_for-place.ensures ∙ ap (λ (v : ℕ). pick (ltb v n) (next_place v) b.result) c.number_in-last.ensures in
    let links : c.put-2.new.s ≡ set (set k (pick (ltb (last_slot k b.result) n) (next_place (last_slot k b.result)) b.result) n) (last_place b.result) n =
    c.put-2.ensures ∙ ap (λ (l : List ℕ). set l (last_place b.result) n) (c.put.ensures ∙ ap (λ (i : ℕ). set k i n) place) in
    λ cs len h. rw (links, ← b.ensures.chain) (rw len at (linked_more cs k b.result b.ensures.small (omega (arith, len, c.requires)) h))
