-- The bytes of a name, one byte at a time. Assumes nothing.
use Rattle.semantics.proofs.Prelude.{◌≡◌, refl, Bool, true, false, ◌||◌, List, ℕ, eqb, length}
use Rattle.std.specs.Char.{is_ascii_alphanumeric}
use Rattle.semantics.specs.Layout.{name_size}
use Rattle.semantics.specs.Lists.{all}
use Rattle.semantics.specs.Text.{name_byte, name_ok, between}

turned : (a b c d : Bool) → ((a || b) || c) || d ≡ ((b || c) || a) || d
turned true true c d = refl
turned true false true d = refl
turned true false false d = refl
turned false true c d = refl
turned false false true d = refl
turned false false false d = refl

-- a letter or a digit, as the library tests it, or a hyphen
pub name_ranges : (b : ℕ) → is_ascii_alphanumeric b || eqb b 45 ≡ name_byte b
unfolding name_byte
name_ranges b = turned (between 48 57 b) (between 65 90 b) (between 97 122 b) (eqb b 45)

-- ---- a name: 1 to 16 bytes, each of them tested

pub name_all : (l : List ℕ) → between 1 name_size (length l) ≡ true → name_ok l ≡ all name_byte l
name_all l h = rw h
