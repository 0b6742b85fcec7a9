-- The form of table and waitlist is kept. Assumes nothing.
use Rattle.semantics.proofs.Prelude.{◌≡◌, refl, sym, ap, ◌∙◌, List, [], ◌∷◌, ◌++◌, map, map-append, ℕ, ◌+◌, ◌-◌, ◌*◌, ◌≤◌, ◌<◌, mul-le-mul_right, arith, ℤ, pos, length, drop, replicate}
use Rattle.semantics.specs.Layout.{index_limit, origin_size}
use Rattle.semantics.specs.Algorithm.{Origin}
use Rattle.semantics.specs.Memory.{tail, origin_in}
use Rattle.semantics.specs.Tidy.{Queue}
use Rattle.semantics.proofs.Tidy.{queue_in_more, join_queue}
use Rattle.words.proofs.Rows.{row_in}
use Rattle.state.specs.declared.Layout.{Layout}
use Rattle.state.specs.Rows.{width_of, word_limit, tail_words, rows_of, tails_of, origins_of, Laid}
use Rattle.state.proofs.Layouts.{id_fits}
use Rattle.waitlist.specs.Waits.{waits, Stored}
use Rattle.waitlist.proofs.WaitWords.{waits_are, kept}
use Rattle.reached.specs.Reached.{Kept}
use Rattle.reached.specs.Links.{chain_in, chains_of}
use Rattle.reached.proofs.Table.{rows_stored, tails_stored, stored_length, rest_stored, stored_next}

-- nothing in use yet
pub empty_kept : (y : Layout) (t l : List ℤ) → 0 < width_of y → y.stride ≡ width_of y + origin_size → length l < index_limit → length t ≡ length l * y.stride
    → t ≡ replicate (length t) (pos 0) → l ≡ replicate (length l) (pos 0) → Kept y t l 0 0
empty_kept y t l n p s lt zt zl =
    let z : 0 * y.stride ≡ 0 = omega arith in
    let m : length t - 0 ≡ length t = omega arith in
    let q : length l - 0 ≡ length l = omega arith in
    record {
      wide = n;
      tailed = p;
      capacity = omega arith;
      small = s;
      table = lt;
      rest = rw (z, m) zt;
      origins = refl;
      slots = record { count = refl; fits = omega arith; words = rw q zl };
      queue = record { once = tt; used = λ j i. absurd i };
    }

module _ {y : Layout} {t l : List ℤ} {used waiting : ℕ} (k : Kept y t l used waiting) where
  -- a state is not longer than its slot
  pub apart : width_of y ≤ y.stride
  apart = omega (arith, k.tailed)

  -- the slots in use are in the table
  pub in_table : used * y.stride ≤ length t
  in_table = rw k.table (mul-le-mul_right y.stride k.capacity)

  pub laid : (e : List ℤ) → length e ≡ width_of y → Laid y used e t
  laid e h = record { some = omega (arith, k.wide); row = h; apart = apart; table = in_table }

  pub kept_after : {l' : List ℤ} {n' : ℕ} {wa' : List ℕ} (t' : List ℤ) → length t' ≡ length t → drop (used * y.stride) t' ≡ drop (used * y.stride) t → tails_of y used t' ≡ tails_of y used t
      → Stored l' n' wa' → length l' ≡ length l → Queue used wa' → Kept y t' l' used n'
  kept_after t' lt rest tails p ll q = record {
    wide = k.wide;
    tailed = k.tailed;
    capacity = omega (arith, k.capacity, ll);
    small = omega (arith, k.small, ll);
    table = lt ∙ k.table ∙ rw ll;
    rest = rw (rest, lt) k.rest;
    origins = rw tails k.origins;
    slots = kept p;
    queue = rw (waits_are p) q;
  }

  module _ (h : used < length l) where
    -- the next slot is in the table
    pub next_slot_in : used * y.stride + y.stride ≤ length t
    next_slot_in = rw k.table (row_in used (length l) y.stride h)

    -- a successor that is stored there, brought by slot n and edge m
    module _ (e : List ℤ) (len : length e ≡ width_of y) (n m : ℕ) (hn : n < word_limit) (hm : m < word_limit) where
      abbrev origin : Origin
      origin = record { parent = n; edge = m }

      abbrev stored : List ℤ
      stored = stored_next y used t e (tail_words n m) next_slot_in k.tailed len refl

      -- its words say that origin
      two_words : tail_words n m ≡ tail origin
      two_words = λ i. id_fits n hn i ∷ id_fits m hm i ∷ []

      says : origin_in (tail_words n m) ≡ origin
      says = ap origin_in two_words

      tails : tails_of y (used + 1) stored ≡ tails_of y used t ++ (tail_words n m ∷ [])
      tails = tails_stored y used t e (tail_words n m) next_slot_in k.tailed len refl

      pub origins_stored : origins_of y (used + 1) stored ≡ origins_of y used t ++ (origin ∷ [])
      origins_stored = ap (map origin_in) tails ∙ map-append origin_in (tails_of y used t) (tail_words n m ∷ []) ∙ ap (λ (o : Origin). origins_of y used t ++ (o ∷ [])) says

      pub chains_stored : chains_of y (used + 1) stored ≡ chains_of y used t ++ (chain_in e ∷ [])
      chains_stored = ap (map chain_in) (rows_stored y used t e (tail_words n m) next_slot_in k.tailed len refl) ∙ map-append chain_in (rows_of y used t) (e ∷ [])

      pub kept_stored : {l' : List ℤ} {n' : ℕ} → Stored l' n' (waits waiting l ++ (used ∷ [])) → length l' ≡ length l → Kept y stored l' (used + 1) n'
      kept_stored p ll = record {
        wide = k.wide;
        tailed = k.tailed;
        capacity = omega (arith, ll);
        small = omega (arith, k.small, ll);
        table = size ∙ k.table ∙ rw ll;
        rest = rw size (rest_stored y used t e (tail_words n m) next_slot_in k.tailed len refl k.rest);
        origins = tails ∙ (λ i. k.origins i ++ (two_words i ∷ [])) ∙ sym (map-append tail (origins_of y used t) (origin ∷ [])) ∙ ap (map tail) (sym origins_stored);
        slots = kept p;
        queue = rw (waits_are p) (join_queue (used + 1) used (waits waiting l) (omega arith) (λ i. let b = k.queue.used used i in omega arith)
            (queue_in_more used (used + 1) (waits waiting l) (omega arith) k.queue));
      }
        where
          size : length stored ≡ length t
          size = stored_length y used t e (tail_words n m) next_slot_in k.tailed len refl
