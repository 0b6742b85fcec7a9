-- What a buffer of 32,833 bytes holds of an input is as much of it as matters. Assumes nothing.
use Rattle.semantics.proofs.Prelude.{◌≡◌, refl, sym, ap, ◌∙◌, List, [], ◌++◌, append-nil, ℕ, ◌≤◌, ◌<◌, min, arith, length, take, length-append, take_all, take-append-le, dec_lt}
use Rattle.semantics.specs.Layout.{input_bytes}
use Rattle.program.specs.Responded.{Buffered, Printed}

-- of an output that goes by the first bytes of the input
pub buffer_enough : (f : List ℕ → List ℕ) → ((input : List ℕ) → f (take input_bytes input) ≡ f input) → (input buffer : List ℕ) (count : ℕ) → length buffer ≡ input_bytes → Buffered input buffer count → f input ≡ f (take (min count (length buffer)) buffer)
buffer_enough f cut_same input buffer count l b = go (dec_lt count (length buffer))
  where
    go : Dec (count < length buffer) → f input ≡ f (take (min count (length buffer)) buffer)
    go (yes h) =
        let n : min count (length buffer) ≡ count = omega (arith, h) in
        ap f (b.is ∙ ap (λ (xs : List ℕ). take count buffer ++ xs) (b.ends h) ∙ append-nil (take count buffer) ∙ ap (λ (k : ℕ). take k buffer) (sym n))
    go (no h) =
        let n : min count (length buffer) ≡ input_bytes = omega (arith, l, h) in
        let full : input ≡ buffer ++ b.rest = b.is ∙ ap (λ (xs : List ℕ). xs ++ b.rest) (take_all count buffer (omega (arith, h))) in
        sym (cut_same input)
        ∙ ap f (ap (take input_bytes) full ∙ take-append-le input_bytes buffer b.rest (omega (arith, l)) ∙ ap (λ (k : ℕ). take k buffer) (sym n))

-- some input was read so, hence the answer counts bytes lent
pub printed_within : {buffer out out' : List ℕ} {count r : ℕ} (f : List ℕ → List ℕ) → ((input : List ℕ) → Buffered input buffer count → Printed (f input) out out' r) → r ≤ length out'
printed_within {buffer} {count = count} f p =
    let p = p (take count buffer ++ []) (record { rest = []; is = refl; ends = λ _. refl }) in
    omega (arith, p.long, simp length-append at (ap length p.bytes))
