-- What the parts of the program ask, and what they leave. Assumes nothing.
use Rattle.std.specs.Prelude.{◌≡◌, ◌⊎◌, List, [], ◌++◌, ℕ, ◌<◌, T, ℤ, length, take, drop, Result, Ok, Err}
use Rattle.semantics.specs.Listing.{refused_text}
use Rattle.semantics.specs.Reading.{ok, nth, Reading, refused, accepted}
use Rattle.semantics.specs.Refusals.{number_of}
use Rattle.semantics.specs.Encoding.{decode, well_formed}
use Rattle.semantics.specs.Program.{go_line}
use Rattle.semantics.specs.declared.Refusal.{Refusal}
use Rattle.semantics.specs.declared.RefusedAt.{RefusedAt}
use Rattle.program.specs.declared.go_line.Go.{Go}
use Rattle.program.specs.Asked.{asking}

-- "0 where no line applies"
abbrev pub at_line_0 : Refusal → RefusedAt
at_line_0 r = record { refusal = r; line = 0 }

abbrev pub said_at_line_0 : {A : Type 0} → Result A Refusal → Result A RefusedAt
said_at_line_0 (Ok a) = Ok a
said_at_line_0 (Err r) = Err (at_line_0 r)

-- the go line of some input asks it, and was accepted
pub record Accepted (g : Go) : Type 0 where
  pub input : List ℕ
  pub is : go_line input ≡ ok (asking g)

-- the words of the chart that was accepted, or why it was refused
abbrev pub Held : Reading → Result (List ℤ) RefusedAt → Type 0
Held r (Ok words) = T (well_formed words) × (r ≡ accepted (decode words))
Held r (Err e) = r ≡ refused (number_of e.refusal) e.line

-- the text stands at the front of the bytes lent, and r is its length; "bytes past a listing's end, are untouched"
pub record Printed (text out out' : List ℕ) (r : ℕ) : Type 0 where
  pub long : r ≡ length text
  pub bytes : out' ≡ text ++ drop (length text) out

-- the text was printed; or it is the line of the refusal that is answered, and no byte was written
abbrev pub Answered : List ℕ → List ℕ → Result ℕ RefusedAt → List ℕ → Type 0
Answered text out (Ok r) out' = Printed text out out' r
Answered text out (Err e) out' = (text ≡ refused_text (number_of e.refusal) e.line) × (out' ≡ out)

-- the arguments as they are handed on: how many there are, and of the first, if there is one, the buffer that it was read
-- into and its length, which is 0 where the argument is longer than the buffer
pub record Arguments (args : List (List ℕ)) (count : ℕ) (buffer : List ℕ) (n : ℕ) : Type 0 where
  pub many : length args ≡ count
  pub first : 0 < count → (nth args 0 ≡ take n buffer) ⊎ ((n ≡ 0) × (length buffer < length (nth args 0)))

-- the input begins with the first count bytes of the buffer, and ends there where the buffer is not full: of this input
-- a buffer can have been read so. A count above the buffer's size says that it is full
pub record Buffered (input buffer : List ℕ) (count : ℕ) : Type 0 where
  pub rest : List ℕ
  pub is : input ≡ take count buffer ++ rest
  pub ends : count < length buffer → rest ≡ []
