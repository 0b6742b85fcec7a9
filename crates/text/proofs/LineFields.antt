-- The fields of a line, one at a time, and how many there are. Assumes nothing.
use Rattle.semantics.proofs.Prelude.{◌≡◌, refl, sym, ap, ◌∙◌, Bool, true, false, ◌&&◌, not, List, [], ◌∷◌, ℕ, zero, suc, ◌+◌, ◌-◌, ◌≤◌, ◌<◌, min, zero-le, add-one, add-zero, zero-add, arith, eqb, ltb, ltb-true, ltb-false, length, take, drop, drop_of_length-le, length-drop, drop-cons, drop-drop}
use Rattle.semantics.specs.Lists.{pick}
use Rattle.semantics.specs.Text.{onto, fields}
use Rattle.semantics.specs.Reading.{nth, none_empty}
use Rattle.text.specs.Fields.{up_to, field_at}
use Rattle.text.specs.declared.Field.{Field}
use Rattle.text.proofs.LineEnds.{up_to_le}

-- the fields after the tab that this begins with
abbrev rest : List ℕ → List (List ℕ)
rest [] = []
rest (x ∷ xs) = fields xs

fields_step : (t : Bool) (b : ℕ) (bs : List ℕ) → fields bs ≡ take (up_to 9 bs) bs ∷ rest (drop (up_to 9 bs) bs)
    → pick t ([] ∷ fields bs) (onto b (fields bs)) ≡ take (pick t 0 (suc (up_to 9 bs))) (b ∷ bs) ∷ rest (drop (pick t 0 (suc (up_to 9 bs))) (b ∷ bs))
fields_step true b bs ih = refl
fields_step false b bs ih = ap (onto b) ih

fields_cons : (l : List ℕ) → fields l ≡ take (up_to 9 l) l ∷ rest (drop (up_to 9 l) l)
unfolding fields up_to
fields_cons [] = refl
fields_cons (b ∷ bs) = fields_step (eqb b 9) b bs (fields_cons bs)

rest_none : (l : List ℕ) (e : ℕ) → length l ≤ e → rest (drop e l) ≡ []
rest_none l e h = rw (drop_of_length-le l h)

rest_more : (l : List ℕ) (e : ℕ) → e < length l → rest (drop e l) ≡ fields (drop (e + 1) l)
rest_more l e h = rw (add-one, drop-cons l e 0)

fields_at : (l : List ℕ) (at e : ℕ) → e ≡ at + up_to 9 (drop at l) → fields (drop at l) ≡ take (e - at) (drop at l) ∷ rest (drop e l)
fields_at l at e h =
    let k : e - at ≡ up_to 9 (drop at l) = omega arith in
    cc (fields_cons (drop at l), drop-drop (up_to 9 (drop at l)) at l)

-- ---- how many fields: one more at each tab

onto_long : (b : ℕ) (fs : List (List ℕ)) → 0 < length fs → length (onto b fs) ≡ length fs
onto_long b [] h = absurd (omega arith)
onto_long b (f ∷ fs) h = refl

fields_some : (l : List ℕ) → 0 < length (fields l)
unfolding fields
fields_some [] = omega arith
fields_some (b ∷ bs) = go (eqb b 9) (fields_some bs)
  where
    go : (t : Bool) → 0 < length (fields bs) → 0 < length {A = List ℕ} (pick t ([] ∷ fields bs) (onto b (fields bs)))
    go true ih = omega arith
    go false ih = rw (onto_long b (fields bs) ih) ih

count_step : (t : Bool) (b : ℕ) (bs : List ℕ) → length {A = List ℕ} (pick t ([] ∷ fields bs) (onto b (fields bs))) ≡ pick t 1 0 + length (fields bs)
count_step true b bs = omega arith
count_step false b bs = onto_long b (fields bs) (fields_some bs) ∙ omega arith

pub count_cons : (b : ℕ) (bs : List ℕ) → length (fields (b ∷ bs)) ≡ pick (eqb b 9) 1 0 + length (fields bs)
unfolding fields
count_cons b bs = count_step (eqb b 9) b bs

pub tab_few : (t : Bool) → pick t 1 0 ≤ 1
tab_few true = omega arith
tab_few false = omega arith

-- ---- whether none is empty: no two tabs follow each other, and none stands first or last

-- of the bytes after one; t says whether that is a tab
abbrev pub well_parted : Bool → List ℕ → Bool
well_parted t [] = not t
well_parted t (b ∷ bs) = not (t && eqb b 9) && well_parted (eqb b 9) bs

-- none is empty but the first
abbrev rest_filled : List (List ℕ) → Bool
rest_filled [] = true
rest_filled (f ∷ fs) = none_empty fs

-- which of the two a field is that goes on, or the next one
abbrev by_start : Bool → List (List ℕ) → Bool
by_start true fs = none_empty fs
by_start false fs = rest_filled fs

onto_filled : (t : Bool) (b : ℕ) (fs : List (List ℕ)) → by_start t (onto b fs) ≡ rest_filled fs
onto_filled true b [] = refl
onto_filled true b (f ∷ fs) = refl
onto_filled false b [] = refl
onto_filled false b (f ∷ fs) = refl

parted_step : (t u : Bool) (b : ℕ) (bs : List ℕ) → well_parted u bs ≡ by_start u (fields bs) → not (t && u) && well_parted u bs ≡ by_start t (pick u ([] ∷ fields bs) (onto b (fields bs)))
parted_step true true b bs ih = refl
parted_step false true b bs ih = ih
parted_step true false b bs ih = ih ∙ sym (onto_filled true b (fields bs))
parted_step false false b bs ih = ih ∙ sym (onto_filled false b (fields bs))

parted_by : (t : Bool) (l : List ℕ) → well_parted t l ≡ by_start t (fields l)
unfolding fields
parted_by true [] = refl
parted_by false [] = refl
parted_by t (b ∷ bs) = parted_step t (eqb b 9) b bs (parted_by (eqb b 9) bs)

pub filled_is : (l : List ℕ) → none_empty (fields l) ≡ well_parted true l
filled_is l = sym (parted_by true l)

-- ---- field k by its place: from there on the fields are those from k on

nothing_left : (j : ℕ) → nth (fields []) j ≡ []
unfolding fields
nothing_left zero = refl
nothing_left (suc j) = refl

first_place : (line : List ℕ) → (field_at line 0).start ≡ 0
unfolding field_at
first_place line = refl

next_place : (line : List ℕ) (k : ℕ) → (field_at line (suc k)).start ≡ min ((field_at line k).end + 1) (length line)
unfolding field_at
next_place line k = refl

module _ (line : List ℕ) where
  abbrev place : ℕ → ℕ
  place k = (field_at line k).start

  pub field_end : (k : ℕ) → (field_at line k).end ≡ place k + up_to 9 (drop (place k) line)
  unfolding field_at
  field_end zero = refl
  field_end (suc k) = refl

  start_within : (k : ℕ) → place k ≤ length line
  unfolding field_at
  start_within zero = zero-le
  start_within (suc k) = omega arith

  -- what `field_bytes` asks
  pub field_lies : (k : ℕ) → ((field_at line k).start ≤ (field_at line k).end) × ((field_at line k).end ≤ length line)
  field_lies k =
      let e = field_end k in
      let u = up_to_le 9 (drop (place k) line) in
      (omega arith, omega (arith, length-drop (place k) line, start_within k))

  pub field_lies_at : {f : Field} (k : ℕ) → f ≡ field_at line k → (f.start ≤ f.end) × (f.end ≤ length line)
  field_lies_at k e = rw e (field_lies k)

  -- the field that begins there, and those after it
  fields_here : (k : ℕ) → fields (drop (place k) line) ≡ take ((field_at line k).end - place k) (drop (place k) line) ∷ rest (drop (field_at line k).end line)
  fields_here k = fields_at line (place k) (field_at line k).end (field_end k)

  after_end : (e j : ℕ) (b : Bool) → ltb e (length line) ≡ b → e ≤ length line → nth (rest (drop e line)) j ≡ nth (fields (drop (min (e + 1) (length line)) line)) j
  after_end e j true t h = let q : min (e + 1) (length line) ≡ e + 1 = omega (arith, ltb-true e (length line) t) in rw (rest_more line e (ltb-true e (length line) t), q)
  after_end e j false t h =
      let q : min (e + 1) (length line) ≡ length line = omega (arith, ltb-false e (length line) t) in
      rw (rest_none line e (ltb-false e (length line) t), q, drop_of_length-le line {i = length line} (omega arith)) (sym (nothing_left j))

  pub fields_from : (k j : ℕ) → nth (fields line) (k + j) ≡ nth (fields (drop (place k) line)) j
  fields_from zero j = rw (first_place line, zero-add j)
  fields_from (suc k) j =
      let i : suc k + j ≡ k + suc j = omega arith in
      let e = (field_at line k).end in
      rw (i, next_place line k) (fields_from k (suc j) ∙ ap (λ (fs : List (List ℕ)). nth fs (suc j)) (fields_here k) ∙ after_end e j (ltb e (length line)) refl (field_lies k).1)

  -- its bytes are the field
  pub bytes_of : {f : Field} (k : ℕ) → f ≡ field_at line k → take (f.end - f.start) (drop f.start line) ≡ nth (fields line) k
  bytes_of k e = rw e (sym (ap (nth (fields line)) (sym (add-zero k)) ∙ fields_from k 0 ∙ ap (λ (fs : List (List ℕ)). nth fs 0) (fields_here k)))
