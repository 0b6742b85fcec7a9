-- The program's calls go through one after the other on the words that it lends: 14 and 15 never come up, a path is
-- refused by 24 alone, and a search by 31. Assumes nothing.
use Rattle.semantics.proofs.Prelude.{◌≡◌, true, false, List, [], ◌++◌, ℕ, arith, T, length, drop, ℤ, nat_abs, le-ltb}
use Rattle.semantics.proofs.Bools.{to_true}
use Rattle.semantics.specs.Layout.{most_slots, chart_size, listing_bytes, table_words}
use Rattle.semantics.specs.Chart.{Chart}
use Rattle.semantics.specs.Reading.{accepted, read}
use Rattle.semantics.specs.Algorithm.{Exploration, allowed}
use Rattle.semantics.specs.Constants.{AbstractState}
use Rattle.semantics.specs.Encoding.{encode, decode, well_formed}
use Rattle.semantics.specs.Memory.{Memory, is_alarm, capacity_ok}
use Rattle.semantics.specs.Listing.{listing_text}
use Rattle.semantics.specs.Path.{path_text}
use Rattle.semantics.specs.RunListing.{run_text, moves_ok, too_wide}
use Rattle.semantics.specs.Outcomes.{fine, refused_by, budget_ok, put_in, showing, read_outcome, begin_outcome, listing_outcome, path_outcome, search_outcome}
use Rattle.semantics.specs.Program.{Go, explored}
use Rattle.semantics.proofs.StatesOk.{Bounds}
use Rattle.semantics.proofs.MemoryOf.{counted, Proper}
use Rattle.semantics.proofs.MemoryPut.{enough_held, load_held, held_ok}
use Rattle.semantics.proofs.Encoded.{encode_short, formed_bounds, well_formed_split}
use Rattle.semantics.proofs.ReadInBounds.{in_bounds}
use Rattle.semantics.proofs.ListingShort.{listing_short}
use Rattle.semantics.proofs.PathShort.{path_short}
use Rattle.semantics.proofs.RunShort.{moves_few, run_short}
use Rattle.semantics.proofs.Program.{GoOk, never_too_few}

-- 3,163 words hold every chart
pub read_goes : (text : List ℕ) (c : Chart) → read text ≡ accepted c → (ws : List ℤ) → length ws ≡ chart_size
    → read_outcome text ws ≡ record { answer = fine 0; words = encode c ++ drop (length (encode c)) ws }
unfolding read_outcome
read_goes text c e ws l =
    rw (e, le-ltb (length ws) (length (encode c)) (omega (arith, encode_short c (in_bounds text c e))))

module _ (words : List ℤ) (formed : T (well_formed words)) where
  abbrev chart : Chart
  chart = decode words

  b : Bounds chart
  b = formed_bounds words formed

  pub begin_goes : (g : Go) → GoOk g → (m : Memory) → length m.table ≡ table_words → length m.waitlist ≡ most_slots
      → begin_outcome words g.settings g.capacity g.budget m ≡ record { answer = fine 0; memory = put_in chart (explored chart g) m; space = [] }
  unfolding begin_outcome
  begin_goes g h m t l =
      rw (to_true (capacity_ok g.capacity) h.capacity, to_true (allowed g.settings.merge g.settings.stop) h.modes, to_true (budget_ok g.budget) h.budget, to_true (well_formed words) formed, never_too_few chart b (nat_abs g.capacity) (length m.table) (length m.waitlist) (counted g.capacity h.capacity).few (omega arith) (omega arith))

  -- on words that hold an exploration, over any others
  pub listing_goes : (w : Exploration AbstractState) → Proper chart w → (m : Memory) (sp : List ℕ) → length sp ≡ listing_bytes
      → let text = listing_text chart w in listing_outcome words (put_in chart w m) sp ≡ record { answer = fine (length text); memory = put_in chart w m; space = text ++ drop (length text) sp }
  unfolding listing_outcome
  listing_goes w good m sp s =
      rw (to_true (well_formed words) formed, enough_held chart b w good m, held_ok chart b w good m, load_held chart b w good m, le-ltb (length sp) (length (listing_text chart w)) (omega (arith, listing_short chart b w good)))

  -- likewise a path, by whether there is an alarm
  module _ (w : Exploration AbstractState) (good : Proper chart w) (m : Memory) (sp : List ℕ) (s : length sp ≡ listing_bytes) where
    pub path_goes : is_alarm w.verdict ≡ true → path_outcome words (put_in chart w m) sp ≡ showing (path_text chart w) (put_in chart w m) sp
    unfolding path_outcome
    path_goes e =
        rw (to_true (well_formed words) formed, enough_held chart b w good m, held_ok chart b w good m, load_held chart b w good m, e, le-ltb (length sp) (length (path_text chart w)) (omega (arith, path_short chart b w good)))

    pub path_refused : is_alarm w.verdict ≡ false → path_outcome words (put_in chart w m) sp ≡ record { answer = refused_by 24 0; memory = put_in chart w m; space = sp }
    unfolding path_outcome
    path_refused e = rw (to_true (well_formed words) formed, enough_held chart b w good m, held_ok chart b w good m, e)

  -- and a search, by whether the chart is too wide
  module _ (k : ℤ) (t : T (moves_ok k)) (sp : List ℕ) (s : length sp ≡ listing_bytes) where
    pub search_goes : too_wide chart ≡ false → let text = run_text chart (nat_abs k) in search_outcome words k sp ≡ record { answer = fine (length text); space = text ++ drop (length text) sp }
    unfolding search_outcome
    search_goes e =
        rw (to_true (moves_ok k) t, to_true (well_formed words) formed, e, le-ltb (length sp) (length (run_text chart (nat_abs k))) (omega (arith, run_short chart (well_formed_split words formed).1 (nat_abs k) (moves_few k t))))

    pub search_refused : too_wide chart ≡ true → search_outcome words k sp ≡ record { answer = refused_by 31 0; space = sp }
    unfolding search_outcome
    search_refused e = rw (to_true (moves_ok k) t, to_true (well_formed words) formed, e)
