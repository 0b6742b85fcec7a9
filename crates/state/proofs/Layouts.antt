-- The layout of a chart's tables, and the words of a row by place. Assumes nothing.
use Rattle.semantics.proofs.Prelude.{◌≡◌, refl, sym, ap, subst, ◌∙◌, List, ◌∷◌, take, drop, zero, suc, ◌+◌, ℕ, ◌*◌, ◌≤◌, ◌<◌, arith, lt-ltb, ℤ, pos, SFits, w32, le-ltb}
use Rattle.std.proofs.Common.{Result, Ok, Err}
use Rattle.std.specs.Result.{OkIff, result_unwrap_or}
use Rattle.semantics.specs.Chart.{Chart}
use Rattle.semantics.specs.Layout.{origin_size}
use Rattle.semantics.specs.Encoding.{decode}
use Rattle.semantics.specs.Memory.{width, stride, origin_in, origins_in}
use Rattle.semantics.proofs.Decoded.{vars_count}
use Rattle.state.specs.declared.Layout.{Layout}
use Rattle.state.specs.Rows.{width_of, layout_of, word_limit, id_word, origins_of}

-- the layout of the chart's tables, as the documents have it: each slot is a state and its origin
pub record LayoutOf (c : Chart) (y : Layout) : Type 0 where
  pub wide : width_of y ≡ width c
  pub stride : y.stride ≡ stride c

pub layout_width : (ws : List ℤ) → width_of (layout_of ws) ≡ width (decode ws)
layout_width ws = rw vars_count (omega arith)

pub is_layout : (ws : List ℤ) (y : Layout) → y ≡ layout_of ws → LayoutOf (decode ws) y
is_layout ws y e = rw e (record { wide = layout_width ws; stride = ap (λ (n : ℕ). n + origin_size) (layout_width ws) })

-- so many slots by the chart's stride are as many by the layout's
pub slots_in : {c : Chart} {y : Layout} → LayoutOf c y → (r n : ℕ) → r * stride c ≤ n → r * y.stride ≤ n
slots_in o r n h = subst (λ (d : ℕ). r * d ≤ n) (sym o.stride) h

-- the origins in words are those that are read
pub origins_say : {c : Chart} {y : Layout} → LayoutOf c y → (n : ℕ) (t : List ℤ) → origins_of y n t ≡ origins_in c n t
origins_say o zero t = refl
origins_say {c = c} {y = y} o (suc n) t =
    let rest = ap (λ (d : ℕ). origins_of y n (drop d t)) o.stride ∙ origins_say o n (drop (stride c) t) in
    λ i. origin_in (drop (o.wide i) (take (o.stride i) t)) ∷ rest i

-- a location that a word can hold
pub id_fits : (n : ℕ) → n < word_limit → id_word n ≡ pos n
unfolding id_word
id_fits n h = rw (lt-ltb n word_limit h)

le_of_not_lt : (n m : ℕ) → (n < m → ⊥) → m ≤ n
le_of_not_lt n m h = omega arith

-- and as `try_from` and `unwrap_or` have it
pub from_try : {E : Type 0} (r : Result ℤ E) (n : ℕ) → OkIff r (SFits w32 (pos n)) (pos n) → result_unwrap_or r (pos 0) ≡ id_word n
unfolding id_word
from_try (Ok x) n h = h.1 ∙ sym (id_fits n h.0.sfits)
from_try (Err e) n h = rw (le-ltb n word_limit (le_of_not_lt n word_limit (λ l. h (record { sfits = l }))))
