-- Starting values one after the other. Document 02, 2.3, "by starting values ascending, variable 0 first". Assumes nothing.
use Rattle.std.specs.Prelude.{◌≡◌, Bool, true, false, List, [], ◌∷◌, ◌++◌, map, ℕ, ◌*◌, ℤ, pos, ◌+ℤ◌, drop}
use Rattle.std.specs.Int.Signed.{lt_z}
use Rattle.semantics.specs.Lists.{In, each}
use Rattle.semantics.specs.Chart.{Value, known, top, Var, Chart}
use Rattle.semantics.specs.Layout.{variable_at, index_limit}
use Rattle.semantics.specs.Encoding.{var_in}
use Rattle.semantics.specs.Search.{interval, starting_values}
use Rattle.state.specs.Rows.{values_of, row_at}

-- of the values that a variable may start with, those after x
abbrev pub values_after : ℤ → Value → ℤ → List ℤ
values_after hi (known z) x = []
values_after hi top x = interval (x +ℤ pos 1) hi

-- the starting values after xs
abbrev pub starts_after : List Var → List ℤ → List (List ℤ)
starts_after [] xs = []
starts_after (v ∷ vs) [] = []
starts_after (v ∷ vs) (x ∷ xs) = map (◌∷◌ x) (starts_after vs xs) ++ each (λ y. map (◌∷◌ y) (starting_values vs)) (values_after v.hi v.init x)

-- the row is that of a starting state of the chart
pub record Starts (c : Chart) (e : List ℤ) : Type 0 where
  pub words : e ≡ row_at 0 (values_of e)
  pub start : In (values_of e) (starting_values c.vars)

-- the row is that of the first
pub record First (c : Chart) (e : List ℤ) : Type 0 where
  pub starts : Starts c e
  pub all : starting_values c.vars ≡ values_of e ∷ starts_after c.vars (values_of e)

-- after the starting state e comes that of the row e', or none
abbrev pub Next : Chart → List ℤ → List ℤ → Bool → Type 0
Next c e e' true = Starts c e' × (starts_after c.vars (values_of e) ≡ values_of e' ∷ starts_after c.vars (values_of e'))
Next c e e' false = starts_after c.vars (values_of e) ≡ []

-- ---- one variable

-- variable k of an encoded chart
abbrev pub variable_in : List ℤ → ℕ → Var
variable_in ws k = var_in (drop (variable_at k) ws)

-- the first value that a variable starts with
abbrev pub first_value : ℤ → Value → ℤ
first_value lo (known z) = z
first_value lo top = lo

-- it may start with a value after x
abbrev pub rises : ℤ → Value → ℤ → Bool
rises hi (known z) x = false
rises hi top x = lt_z x hi

-- the first value of each
abbrev pub first_values : List Var → List ℤ
first_values vs = map (λ v. first_value v.lo v.init) vs

-- more than there are words
abbrev pub words_limit : ℕ
words_limit = 2 * index_limit
