-- From the rows to the words lent. Assumes nothing.
use Rattle.semantics.proofs.Prelude.{◌≡◌, ap, true, false, List, ◌∷◌, ◌++◌, ◌+◌, ◌≤◌, ◌<◌, arith, ltb, length, take, drop, ℤ, pos, length-take-le, lt-ltb, le-ltb}
use Rattle.semantics.specs.Chart.{Chart}
use Rattle.semantics.specs.Encoding.{encode}
use Rattle.semantics.specs.Layout.{counts_size}
use Rattle.chart.specs.Rows.{stored}
use Rattle.reader.specs.ReadSoFar.{used_words, Rows}
use Rattle.reader.specs.declared.draft.Tally.{Tally}

module _ {t : Tally} {rows : List ℤ} {c : Chart} (h : Rows t rows c) (room : used_words t ≤ length rows) where
  encode_length : length (encode c) ≡ used_words t + counts_size
  unfolding encode
  encode_length = omega (arith, ap length h.rows, length-take-le (used_words t) rows room)

  module _ (ws : List ℤ) where
    pub too_short : length ws < used_words t + counts_size → ltb (length ws) (length (encode c)) ≡ true
    too_short l = lt-ltb (length ws) (length (encode c)) (omega (arith, encode_length, l))

    pub room_for_chart : used_words t + counts_size ≤ length ws → ltb (length ws) (length (encode c)) ≡ false
    room_for_chart f = le-ltb (length ws) (length (encode c)) (omega (arith, encode_length, f))

    pub held_words : stored 0 (pos t.vars ∷ pos t.locs ∷ pos t.edges ∷ take (used_words t) rows) ws ≡ encode c ++ drop (length (encode c)) ws
    unfolding stored encode
    held_words = rw (h.rows, h.vars, h.locs, h.edges)
