-- What was read so far as the code holds it: counts, the chart's rows, and the names of the variables. Assumes nothing.
use Rattle.std.specs.Prelude.{◌≡◌, false, List, [], ◌∷◌, ◌++◌, map, ℕ, ◌+◌, ◌*◌, ◌≤◌, T, length, take, drop, ℤ}
use Rattle.semantics.specs.Lists.{all, each}
use Rattle.semantics.specs.Text.{name_ok, lines, fields}
use Rattle.semantics.specs.Chart.{Loc, Chart}
use Rattle.semantics.specs.Layout.{location_size, most_variables, most_locations, most_edges}
use Rattle.semantics.specs.Encoding.{var_words, loc_words, edge_words}
use Rattle.semantics.specs.Reading.{Reading, nothing_read, judged}
use Rattle.chart.specs.Encoded.{number_of}
use Rattle.chart.specs.Rows.{rows_size, the_location}
use Rattle.reader.specs.declared.draft.Tally.{Tally}

-- the encoded chart after its three counts
abbrev pub chart_rows : Chart → List ℤ
chart_rows c = each var_words c.vars ++ (each loc_words c.locs ++ each edge_words c.edges)

-- the words of so many rows
abbrev pub used_words : Tally → ℕ
used_words t = rows_size t.vars t.locs t.edges

-- the rows of the largest chart, the numbers of its locations' names after them, and the rows of names
abbrev pub numbers_at : ℕ
numbers_at = rows_size most_variables most_locations most_edges

abbrev pub most_rows : ℕ
most_rows = numbers_at + most_locations

abbrev pub most_names : ℕ
most_names = location_size * most_variables

-- before the first line
abbrev pub nothing_counted : Tally
nothing_counted = record { vars = 0; locs = 0; edges = 0 }

-- no more than a chart has
pub record Few (t : Tally) : Type 0 where
  pub vars : t.vars ≤ most_variables
  pub locs : t.locs ≤ most_locations
  pub edges : t.edges ≤ most_edges

-- the counts and the words hold the chart, and the numbers of its locations' names
pub record Rows (t : Tally) (ws : List ℤ) (c : Chart) : Type 0 where
  pub vars : t.vars ≡ length c.vars
  pub locs : t.locs ≡ length c.locs
  pub edges : t.edges ≡ length c.edges
  pub rows : take (used_words t) ws ≡ chart_rows c
  pub numbers : take t.locs (drop numbers_at ws) ≡ map number_of c.locs
  pub named : T (all (λ l. name_ok l.name) c.locs)

-- the names, which the definitions keep the last first, as ordinary locations in the order of their lines
abbrev pub as_locations : List (List ℕ) → List Loc
as_locations [] = []
as_locations (n ∷ ns) = as_locations ns ++ (the_location false n ∷ [])

-- the words hold n names of variables
pub record Names (n : ℕ) (ws : List ℤ) (names : List (List ℕ)) : Type 0 where
  pub count : n ≡ length names
  pub rows : take (location_size * n) ws ≡ each loc_words (as_locations names)
  pub named : T (all name_ok names)

-- ---- "The reader goes down the chart file line by line" (document 01, The chart file)

-- what the lines of a text come to
abbrev pub lines_judged : List ℕ → Reading
lines_judged text = judged 1 nothing_read (map fields (lines text))
