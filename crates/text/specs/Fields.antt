-- What the functions over a field answer: a refusal as document 01's number, and a number cut where no test can tell any
-- more how large it is. Assumes nothing.
use Rattle.std.specs.Prelude.{List, [], ◌∷◌, ℕ, zero, suc, ◌+◌, ◌-◌, min, eqb, length, drop, ℤ, pos, negsuc, Some, None, Result, Ok, Err}
use Rattle.std.specs.Prelude.{Option as Answer}
use Rattle.std.proofs.Math.Option.{Option, none, some}
use Rattle.semantics.specs.Lists.{pick}
use Rattle.semantics.specs.Reading.{Res, fail, ok, OpWord, do_set, do_add, do_sub, do_in, do_if, do_skip}
use Rattle.semantics.specs.Refusals.{number_of}
use Rattle.semantics.specs.declared.Refusal.{Refusal}
use Rattle.semantics.specs.declared.Arithmetic.TheVariants as arithmetic
use Rattle.text.specs.declared.Field.{Field}
use Rattle.text.specs.declared.Action.{Action}
use Rattle.text.specs.declared.Action.TheVariants as action

-- ---- places in a text

-- how many bytes stand before the first s
unfoldable pub up_to : ℕ → List ℕ → ℕ
up_to s [] = 0
up_to s (b ∷ bs) = pick (eqb b s) 0 (suc (up_to s bs))

-- the field of a line that begins at a place
abbrev pub field_from : List ℕ → ℕ → Field
field_from line at = record { start = at; end = at + up_to 9 (drop at line) }

-- where field k of a line lies; past the last, at the line's end
unfoldable pub field_at : List ℕ → ℕ → Field
field_at line zero = field_from line 0
field_at line (suc k) = field_from line (min ((field_at line k).end + 1) (length line))

-- ---- numbers, of any length, with the magnitude cut

-- the cut, above every bound that document 01 judges numbers by: 60,000, of 13, is the largest
abbrev pub number_cut : ℕ
number_cut = 100000

-- a number cut so, on either side of 0
abbrev pub clamp : ℤ → ℤ
clamp (pos n) = pos (min n number_cut)
clamp (negsuc n) = negsuc (min n (number_cut - 1))

-- how the code answers a number without sign
unfoldable pub natural_read : Option ℕ → Answer ℕ
natural_read none = None
natural_read (some n) = Some (min n number_cut)

-- how it answers a number
unfoldable pub number_read : Option ℤ → Answer ℤ
number_read none = None
number_read (some z) = Some (clamp z)

-- what such an answer says, taken at its word
unfoldable pub number_said : {A : Type 0} → Answer A → Option A
number_said None = none
number_said (Some n) = some n

-- ---- fields: the refusal's number, or what the field says

-- what was read, as the definitions have it: `meant` says what the code's value stands for
unfoldable pub res_by : {A B : Type 0} → (A → B) → Result A Refusal → Res B
res_by meant (Err r) = fail (number_of r)
res_by meant (Ok a) = ok (meant a)

-- where it stands for itself
abbrev pub res : {A : Type 0} → Result A Refusal → Res A
res r = res_by (λ a. a) r

-- which of the definitions' words an operation with a target is
abbrev pub the_action : Action → OpWord
the_action action.Set = do_set
the_action (action.Compute arithmetic.Add) = do_add
the_action (action.Compute arithmetic.Sub) = do_sub
the_action action.In = do_in
the_action action.If = do_if

-- an operation: without a target it is `skip`
abbrev pub the_word : Answer Action → OpWord
the_word None = do_skip
the_word (Some a) = the_action a
