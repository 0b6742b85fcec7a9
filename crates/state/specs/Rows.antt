-- One abstract state as a row of words, its location and then one word a variable: order, join and merge, with no
-- word on the rows' form; rows of a table, and the origins after them; and the rows as a domain of the algorithm. Assumes
-- nothing.
use Rattle.std.specs.Prelude.{◌≡◌, Bool, false, ◌&&◌, ◌||◌, List, [], ◌∷◌, ◌++◌, map, ℕ, zero, suc, ◌+◌, ◌*◌, ◌≤◌, ◌<◌, ltb, ℤ, pos, nat_abs, length, take, drop, set}
use Rattle.semantics.specs.Lists.{pick, all_pairs}
use Rattle.semantics.specs.Chart.{eq_z}
use Rattle.semantics.specs.Layout.{most_variables, top_word, origin_size}
use Rattle.semantics.specs.Encoding.{word_at, variable_count}
use Rattle.semantics.specs.Algorithm.{Origin, Domain, Step}
use Rattle.semantics.specs.Memory.{origin_in}
use Rattle.state.specs.declared.Layout.{Layout}
use Rattle.state.specs.declared.SlotRow.{SlotRow}

-- ---- where the words of a state stand

-- before the values: the location's word
abbrev pub head_size : ℕ
head_size = 1

-- the words of a variable
abbrev pub value_size : ℕ
value_size = 1

-- the words of a state
abbrev pub width_of : Layout → ℕ
width_of l = l.head + l.value * l.variables

-- the most words of a state
abbrev pub most_width : ℕ
most_width = head_size + value_size * most_variables

-- the tables of an encoded chart: slot follows slot, each a state and an origin
abbrev pub layout_of : List ℤ → Layout
layout_of ws = record {
  head = head_size;
  value = value_size;
  variables = variable_count ws;
  stride = head_size + value_size * variable_count ws + origin_size;
}

-- where the location's word stands in a row
abbrev pub location_place : ℕ
location_place = 0

-- the word of a row's location
abbrev pub location_word : List ℤ → ℤ
location_word e = word_at e location_place

-- the location, its sign left out
abbrev pub location_in : List ℤ → ℕ
location_in e = nat_abs (location_word e)

-- the values, a word each
abbrev pub values_of : List ℤ → List ℤ
values_of e = drop head_size e

-- the row of location l and these values
abbrev pub row_at : ℕ → List ℤ → List ℤ
row_at l values = pos l ∷ values

-- where the word of variable k stands
abbrev pub value_place : ℕ → ℕ
value_place k = k + head_size

-- the value of variable k
abbrev pub value_at : List ℤ → ℕ → ℤ
value_at e k = word_at e (value_place k)

-- the least number that no word holds
abbrev pub word_limit : ℕ
word_limit = 2147483648

-- the word of an id; one that no word can hold has 0
unfoldable pub id_word : ℕ → ℤ
id_word n = pick (ltb n word_limit) (pos n) (pos 0)

-- the row at another location
abbrev pub with_location : List ℤ → ℕ → List ℤ
with_location e n = set e location_place (id_word n)

-- the row with another value of variable k
abbrev pub with_value : List ℤ → ℕ → ℤ → List ℤ
with_value e k x = set e (value_place k) x

-- the words of an origin, by the ids of slot and edge
abbrev pub tail_words : ℕ → ℕ → List ℤ
tail_words parent edge = id_word parent ∷ id_word edge ∷ []

-- ---- words

-- x lies under y: y is top, or it is "the same value in both"
abbrev pub word_leq : ℤ → ℤ → Bool
word_leq x y = eq_z y top_word || eq_z x y

-- "equal values stay, all else becomes unspecific"
abbrev pub word_join : ℤ → ℤ → ℤ
word_join x y = pick (eq_z x y) y top_word

-- lists of one length, each word under the one at its place
abbrev pub words_leq : List ℤ → List ℤ → Bool
words_leq e s = all_pairs word_leq e s

-- each word joined with the one at its place; as long as the second list
abbrev pub words_join : List ℤ → List ℤ → List ℤ
words_join [] s = s
words_join (x ∷ e) [] = []
words_join (x ∷ e) (y ∷ s) = word_join x y ∷ words_join e s

-- the two lists are the same, word for word
abbrev pub same_words : List ℤ → List ℤ → Bool
same_words e s = all_pairs eq_z e s

-- ---- rows

-- "the locations agree"
abbrev pub same_place : List ℤ → List ℤ → Bool
same_place e s = eq_z (location_word e) (location_word s)

-- the row e lies under the row s
abbrev pub row_leq : List ℤ → List ℤ → Bool
row_leq e s = same_place e s && words_leq (values_of e) (values_of s)

-- e joined into s
abbrev pub row_join : List ℤ → List ℤ → List ℤ
row_join e s = take head_size s ++ words_join (values_of e) (values_of s)

-- the same where the locations agree, else s
abbrev pub row_merge : List ℤ → List ℤ → List ℤ
row_merge e s = pick (same_place e s) (row_join e s) s

-- the join of rows of one place
abbrev pub join_of : List ℤ → List (List ℤ) → List ℤ
join_of x [] = x
join_of x (y ∷ ys) = join_of (row_join x y) ys

-- e lies under the join of the rows; "with no such slot, never"
abbrev pub leq_join_of : List ℤ → List (List ℤ) → Bool
leq_join_of e [] = false
leq_join_of e (x ∷ xs) = row_leq e (join_of x xs)

-- ---- tables

-- the place is that of the slot's first word
abbrev pub Placed : Layout → SlotRow → Type 0
Placed y s = s.at ≡ s.id.0 * y.stride

-- the state of slot s
abbrev pub row_of : Layout → ℕ → List ℤ → List ℤ
row_of y s t = take (width_of y) (drop (s * y.stride) t)

-- what f makes of each of the first n slots, d words apart, from its first word on
abbrev pub by_slot : {A : Type 0} → (List ℤ → A) → ℕ → ℕ → List ℤ → List A
by_slot f d zero t = []
by_slot f d (suc n) t = f t ∷ by_slot f d n (drop d t)

-- the states of the first n slots
abbrev pub rows_of : Layout → ℕ → List ℤ → List (List ℤ)
rows_of y n t = by_slot (take (width_of y)) y.stride n t

-- what slot s holds past its state
abbrev pub tail_of : Layout → ℕ → List ℤ → List ℤ
tail_of y s t = drop (width_of y) (take y.stride (drop (s * y.stride) t))

-- what each of the first n slots does
abbrev pub tails_of : Layout → ℕ → List ℤ → List (List ℤ)
tails_of y n t = by_slot (λ s. drop (width_of y) (take y.stride s)) y.stride n t

-- the origins that these say
abbrev pub origins_of : Layout → ℕ → List ℤ → List Origin
origins_of y n t = map origin_in (tails_of y n t)

-- the first slot, its state merged with e; the words after the state stay
abbrev pub slot_merge : List ℤ → Layout → List ℤ → List ℤ
slot_merge e y t = row_merge e (take (width_of y) t) ++ drop (width_of y) (take y.stride t)

-- the states of the first n slots merged with e; all other words stay
abbrev pub rows_merge : List ℤ → Layout → ℕ → List ℤ → List ℤ
rows_merge e y zero t = t
rows_merge e y (suc n) t = slot_merge e y t ++ rows_merge e y n (drop y.stride t)

-- the row e is a state, and t a table of n slots or more, by the layout
pub record Laid (y : Layout) (n : ℕ) (e t : List ℤ) : Type 0 where
  pub some : 0 < length e
  pub row : length e ≡ width_of y
  pub apart : width_of y ≤ y.stride
  pub table : n * y.stride ≤ length t

-- ---- the rows as a domain, over the transfer by an edge, counted from 0 here, and the test of an error location

-- edge g has the number g + 1; merge is the join into the slot's row
abbrev pub row_domain : (ℕ → List ℤ → Step (List ℤ)) → (List ℤ → Bool) → Domain (List ℤ) ℕ
row_domain post error = record {
  number = λ g. suc g;
  post = post;
  error = error;
  same_place = same_place;
  equal = same_words;
  leq = row_leq;
  merge = row_join;
  leq_join = leq_join_of;
}
