-- Writing goes on where it stopped; what fits is written whole. Assumes nothing.
use Rattle.semantics.proofs.Prelude.{◌≡◌, refl, sym, ap, subst, ◌∙◌, List, [], ◌∷◌, ◌++◌, ℕ, zero, suc, ◌+◌, ◌≤◌, ◌<◌, zero-add, suc-add, arith, length, take, drop, set, length-append, drop-drop, dec_lt}
use Rattle.writer.specs.Writing.{overwritten, written, limit, Put}
use Rattle.writer.specs.declared.Writer.{Writer}
use Rattle.writer.specs.Writers.{Writes}

pub written_none : (at : ℕ) (out : List ℕ) → written at [] out ≡ out
unfolding written overwritten
written_none zero out = refl
written_none (suc at) [] = refl
written_none (suc at) (o ∷ os) = ap (λ (l : List ℕ). o ∷ l) (written_none at os)

over_long : (bs out : List ℕ) → length (overwritten bs out) ≡ length out
unfolding overwritten
over_long [] out = refl
over_long (b ∷ bs) [] = refl
over_long (b ∷ bs) (o ∷ os) = ap suc (over_long bs os)

pub written_long : (at : ℕ) (bs out : List ℕ) → length (written at bs out) ≡ length out
unfolding written
written_long zero bs out = over_long bs out
written_long (suc at) bs [] = refl
written_long (suc at) bs (o ∷ os) = ap suc (written_long at bs os)

over_then : (bs cs out : List ℕ) → written (length bs) cs (overwritten bs out) ≡ overwritten (bs ++ cs) out
unfolding written overwritten
over_then [] cs out = refl
over_then (b ∷ bs) cs [] = refl
over_then (b ∷ bs) cs (o ∷ os) = ap (λ (l : List ℕ). b ∷ l) (over_then bs cs os)

pub written_then : (at : ℕ) (bs cs out : List ℕ) → written (at + length bs) cs (written at bs out) ≡ written at (bs ++ cs) out
unfolding written
written_then zero bs cs out = rw zero-add (over_then bs cs out)
written_then (suc at) bs cs [] = rw suc-add
written_then (suc at) bs cs (o ∷ os) = rw suc-add (ap (λ (l : List ℕ). o ∷ l) (written_then at bs cs os))

-- nothing is written past the end
pub written_past : (at : ℕ) (bs out : List ℕ) → length out ≤ at → written at bs out ≡ out
unfolding written overwritten
written_past zero [] out h = refl
written_past zero (b ∷ bs) [] h = refl
written_past zero (b ∷ bs) (o ∷ os) h = absurd (omega arith)
written_past (suc at) bs [] h = refl
written_past (suc at) bs (o ∷ os) h = ap (λ (l : List ℕ). o ∷ l) (written_past at bs os (omega arith))

-- one byte
pub written_set : (at b : ℕ) (out : List ℕ) → at < length out → written at (b ∷ []) out ≡ set out at b
unfolding written overwritten
written_set zero b [] h = absurd (omega arith)
written_set zero b (o ∷ os) h = refl
written_set (suc at) b [] h = refl
written_set (suc at) b (o ∷ os) h = ap (λ (l : List ℕ). o ∷ l) (written_set at b os (omega arith))

-- what fits is written whole
over_fits : (bs out : List ℕ) → length bs ≤ length out → overwritten bs out ≡ bs ++ drop (length bs) out
unfolding overwritten
over_fits [] out h = refl
over_fits (b ∷ bs) [] h = absurd (omega arith)
over_fits (b ∷ bs) (o ∷ os) h = ap (λ (l : List ℕ). b ∷ l) (over_fits bs os (omega arith))

pub written_fits : (at : ℕ) (bs out : List ℕ) → at + length bs ≤ length out → written at bs out ≡ take at out ++ (bs ++ drop (at + length bs) out)
unfolding written
written_fits zero bs out h = rw zero-add (over_fits bs out (omega arith))
written_fits (suc at) bs [] h = absurd (omega arith)
written_fits (suc at) bs (o ∷ os) h = rw suc-add (ap (λ (l : List ℕ). o ∷ l) (written_fits at bs os (omega arith)))

-- ---- `Put`, whole and piece by piece

-- bytes that fit, copied over their place
pub put_whole : (at : ℕ) (bs out : List ℕ) → at + length bs ≤ length out → length out < limit → Put at bs out (take at out ++ (bs ++ drop (length bs) (drop at out))) (at + length bs)
put_whole at bs out h s = record { bytes = rw drop-drop (sym (written_fits at bs out h)); place = refl; small = s }

-- before the first piece
pub put_none : (at : ℕ) (out : List ℕ) → length out < limit → Put at [] out out at
put_none at out s = record { bytes = sym (written_none at out); place = omega arith; small = s }

pub put_then : {at r r' : ℕ} {bs cs out out' out'' : List ℕ} → Put at bs out out' r → Put r cs out' out'' r' → Put at (bs ++ cs) out out'' r'
put_then {at} {r} {r'} {bs} {cs} {out} {out'} {out''} p q =
    record {
      bytes = q.bytes ∙ ap (written r cs) p.bytes ∙ same (dec_lt (at + length bs) limit) ∙ written_then at bs cs out;
      place = rw (length-append bs cs) (omega (arith, p.place, q.place));
      small = p.small;
    }
  where
    same : Dec (at + length bs < limit) → written r cs (written at bs out) ≡ written (at + length bs) cs (written at bs out)
    same (yes h) = ap (λ (n : ℕ). written n cs (written at bs out)) (omega (arith, p.place))
    same (no h) =
        let l = written_long at bs out in
        written_past r cs (written at bs out) (omega (arith, p.place, p.small, l))
        ∙ sym (written_past (at + length bs) cs (written at bs out) (omega (arith, p.small, l)))

-- where it fits: the bytes before, what was put, the bytes after
pub put_fits : {at r : ℕ} {bs out out' : List ℕ} → Put at bs out out' r → at + length bs ≤ length out
    → (out' ≡ take at out ++ (bs ++ drop (at + length bs) out)) × (r ≡ at + length bs)
put_fits {at} {r} {bs} {out} p h = (p.bytes ∙ written_fits at bs out h, omega (arith, p.place, p.small))

-- ---- `Writes`, piece by piece

pub writes_then : {bs cs : List ℕ} {a b d : Writer} → Writes bs a b → Writes cs b d → Writes (bs ++ cs) a d
writes_then p q = record { same = q.same ∙ p.same; put = put_then p.put q.put }

pub writes_none : (a : Writer) → Writes [] a a
writes_none a = record { same = refl; put = put_none a.at a.space.now a.short }

pub writes_same : {bs cs : List ℕ} {a b : Writer} → bs ≡ cs → Writes bs a b → Writes cs a b
writes_same {a = a} {b = b} e p = subst (λ (l : List ℕ). Writes l a b) e p

-- what a loop has written so far: with the rest written after it, the whole is written
abbrev pub Completes : List ℕ → Writer → List ℕ → Writer → Type 0
Completes whole a rest b = (d : Writer) → Writes rest b d → Writes whole a d

pub one_more : {whole rest piece rest' : List ℕ} {a b d : Writer} → Completes whole a rest b → rest ≡ piece ++ rest' → Writes piece b d → Completes whole a rest' d
one_more f e p w q = f w (writes_same (sym e) (writes_then p q))

pub all_put : {whole rest : List ℕ} {a b : Writer} → Completes whole a rest b → rest ≡ [] → Writes whole a b
all_put {b = b} f e = f b (writes_same (sym e) (writes_none b))
