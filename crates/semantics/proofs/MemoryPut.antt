-- An exploration put into lent words: it is in form there, the words are enough for it, and it is read back. Assumes
-- nothing.
use Rattle.semantics.proofs.Prelude.{◌≡◌, true, false, ◌*◌, arith, length, drop, length-append, le-ltb}
use Rattle.semantics.specs.Chart.{Chart}
use Rattle.semantics.specs.Algorithm.{Exploration}
use Rattle.semantics.specs.Constants.{AbstractState}
use Rattle.semantics.specs.Memory.{Memory, stride, table_of, waitlist_of, analysis_ok, load}
use Rattle.semantics.specs.Outcomes.{too_few, put_in}
use Rattle.semantics.proofs.Bools.{to_true}
use Rattle.semantics.proofs.StatesOk.{Bounds}
use Rattle.semantics.proofs.MemoryOf.{Proper, table_length, list_length, load_back, formed_back}

module _ (c : Chart) (b : Bounds c) (w : Exploration AbstractState) (good : Proper c w) (m : Memory) where
  abbrev held : Memory
  held = put_in c w m

  pub enough_held : too_few c w.capacity (length held.table) (length held.waitlist) ≡ false
  enough_held =
      rw (
        le-ltb (length held.table) (w.capacity * stride c) (omega (arith, length-append (table_of c w) (drop (w.capacity * stride c) m.table), table_length c b w good)),
        le-ltb (length held.waitlist) w.capacity (omega (arith, length-append (waitlist_of w) (drop w.capacity m.waitlist), list_length c b w good)),
      )

  pub load_held : load c held ≡ w
  load_held = load_back c b w good (drop (w.capacity * stride c) m.table) (drop w.capacity m.waitlist)

  pub held_ok : analysis_ok c held ≡ true
  held_ok = to_true (analysis_ok c held) (formed_back c b w good (drop (w.capacity * stride c) m.table) (drop w.capacity m.waitlist))
