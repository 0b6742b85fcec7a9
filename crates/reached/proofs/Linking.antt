-- The links of no slot, and one more slot at the end of its chain. Assumes nothing.
use Rattle.semantics.proofs.Prelude.{◌≡◌, refl, sym, ap, ◌∙◌, Bool, true, false, List, [], ◌∷◌, ◌++◌, ℕ, ◌+◌, ◌*◌, ◌≤◌, ◌<◌, arith, eqb, eqb-true, eqb-false, ltb, ltb-true, ltb-false, length, get_or, set, replicate, length-append, length-set, length-replicate, get_or-append, get_or-replicate, get_or-append-add, get_or-set_same, get_or-set_other}
use Rattle.semantics.specs.Layout.{index_limit, most_locations}
use Rattle.semantics.specs.Lists.{pick}
use Rattle.words.proofs.LentNumbers.{set_most}
use Rattle.reached.specs.Links.{first_slot, last_slot, next_slot, last_place, next_place, Passed, Linked}

pub unlinked : (n : ℕ) → 2 * most_locations ≤ n → Linked [] (replicate n index_limit)
unlinked n h = record {
  size = omega (arith, length-replicate n index_limit);
  first = λ b l j lo hi i. absurd (omega arith);
  next = λ s i. absurd (omega arith);
  last = λ b s l i. absurd (omega arith);
  own = λ b l i. absurd (omega (arith, get_or-replicate n (last_place b) index_limit 0 (omega arith)));
}

-- a slot of chain b
module _ (cs k : List ℕ) (b : ℕ) (small : b < most_locations) (few : length cs < index_limit) (h : Linked cs k) where
  abbrev n : ℕ
  n = length cs

  abbrev more : List ℕ
  more = cs ++ (b ∷ [])

  abbrev v : ℕ
  v = last_slot k b

  size : length more ≡ n + 1
  size = length-append cs (b ∷ [])

  before : (j : ℕ) → j < n → get_or more j 0 ≡ get_or cs j 0
  before j i = get_or-append cs (b ∷ []) 0 j i

  at_end : get_or more n 0 ≡ b
  at_end = let z : n ≡ n + 0 = omega arith in ap (λ (j : ℕ). get_or more j 0) z ∙ get_or-append-add cs (b ∷ []) 0 0

  -- what is passed over on another chain, or does not reach the slot
  passed_more : (c s m : ℕ) → (c ≡ b → m ≤ n) → Passed cs c s m → Passed more c s m
  passed_more c s m f p j lo hi i e = go (ltb j n) refl
    where
      go : (t : Bool) → ltb j n ≡ t → ⊥
      go true t = p j lo hi (ltb-true j n t) (sym (before j (ltb-true j n t)) ∙ e)
      go false t =
          let q : j ≡ n = omega (arith, ltb-false j n t, size) in
          let u = f (sym e ∙ ap (λ (j : ℕ). get_or more j 0) q ∙ at_end) in
          omega (arith, q, u)

  -- links that say n at a place p, and as the last of the chain
  module _ (p : ℕ) (apart : p ≡ last_place b → ⊥) where
    abbrev k' : List ℕ
    k' = set (set k p n) (last_place b) n

    there : get_or k' p 0 ≤ n
    there = rw (get_or-set_other (set k p n) (last_place b) p n 0 apart) (set_most k p n)

    elsewhere : (j : ℕ) → (j ≡ p → ⊥) → (j ≡ last_place b → ⊥) → get_or k' j 0 ≡ get_or k j 0
    elsewhere j f g = get_or-set_other (set k p n) (last_place b) j n 0 g ∙ get_or-set_other k p j n 0 f

    same_size : length k' ≡ length k
    same_size = length-set (set k p n) (last_place b) n ∙ length-set k p n

    is_last : last_slot k' b ≡ n
    is_last = get_or-set_same (set k p n) (last_place b) n 0 (omega (arith, length-set k p n, h.size))

    -- after the new slot there is none
    next_more : ((s : ℕ) → s < n → Passed more (get_or cs s 0) (s + 1) (next_slot k' s)) → (s : ℕ) → s < length more → Passed more (get_or more s 0) (s + 1) (next_slot k' s)
    next_more f s i = go (ltb s n) refl
      where
        go : (t : Bool) → ltb s n ≡ t → Passed more (get_or more s 0) (s + 1) (next_slot k' s)
        go true t = rw (before s (ltb-true s n t)) (f s (ltb-true s n t))
        go false t = λ j lo hi u e. omega (arith, ltb-false s n t, size)

    last_more : ((c : ℕ) → c < most_locations → last_place c ≡ p → ⊥) → (c s : ℕ) → c < most_locations → s < length more → get_or more s 0 ≡ c → (s ≤ last_slot k' c) × (last_slot k' c < length more)
    last_more f c s l i e = go (eqb c b) refl
      where
        go : (t : Bool) → eqb c b ≡ t → (s ≤ last_slot k' c) × (last_slot k' c < length more)
        go true t =
            let q : last_slot k' c ≡ n = ap (last_slot k') (eqb-true c b t) ∙ is_last in
            (omega (arith, q, size), omega (arith, q, size))
        go false t = go_on (ltb s n) refl
          where
            go_on : (u : Bool) → ltb s n ≡ u → (s ≤ last_slot k' c) × (last_slot k' c < length more)
            go_on true u =
                let r = elsewhere (last_place c) (f c l) (λ q. eqb-false c b t (omega arith)) in
                let old = h.last c s l (ltb-true s n u) (sym (before s (ltb-true s n u)) ∙ e) in
                (omega (arith, r, old.0), omega (arith, r, old.1, size))
            go_on false u =
                let q : s ≡ n = omega (arith, ltb-false s n u, size) in
                absurd (eqb-false c b t (sym e ∙ ap (λ (j : ℕ). get_or more j 0) q ∙ at_end))

    own_more : ((c : ℕ) → c < most_locations → last_place c ≡ p → ⊥) → (c : ℕ) → c < most_locations → last_slot k' c < index_limit → (last_slot k' c < length more) × (get_or more (last_slot k' c) 0 ≡ c)
    own_more f c l i = go (eqb c b) refl
      where
        go : (t : Bool) → eqb c b ≡ t → (last_slot k' c < length more) × (get_or more (last_slot k' c) 0 ≡ c)
        go true t =
            let same = eqb-true c b t in
            let q : last_slot k' c ≡ n = ap (last_slot k') same ∙ is_last in
            (omega (arith, q, size), ap (λ (j : ℕ). get_or more j 0) q ∙ at_end ∙ sym same)
        go false t =
            let r = elsewhere (last_place c) (f c l) (λ q. eqb-false c b t (omega arith)) in
            let old = h.own c l (omega (arith, r)) in
            (omega (arith, r, old.0, size), ap (λ (j : ℕ). get_or more j 0) r ∙ before (last_slot k c) old.0 ∙ old.1)

  -- the chain has a slot: the new one follows its last
  module _ (in_use : v < n) where
    abbrev after : ℕ
    after = next_place v

    apart : after ≡ last_place b → ⊥
    apart q = omega arith

    is_own : get_or cs v 0 ≡ b
    is_own = (h.own b small (omega (arith, in_use))).1

    -- a link of the chain, other than that of its last slot, does not reach past that one
    reach : (c s m : ℕ) → c ≡ b → s ≤ v → Passed cs c s m → m ≤ n
    reach c s m q le p = go (ltb v m) refl
      where
        go : (t : Bool) → ltb v m ≡ t → m ≤ n
        go true t = absurd (p v le (ltb-true v m t) in_use (is_own ∙ sym q))
        go false t = omega (arith, ltb-false v m t)

    followed : (s : ℕ) → s < n → Passed more (get_or cs s 0) (s + 1) (next_slot (k' after apart) s)
    followed s i = go (eqb s v) refl
      where
        go : (t : Bool) → eqb s v ≡ t → Passed more (get_or cs s 0) (s + 1) (next_slot (k' after apart) s)
        go true t =
            let same = eqb-true s v t in
            let most : next_slot (k' after apart) s ≤ n = rw same (there after apart) in
            passed_more (get_or cs s 0) (s + 1) (next_slot (k' after apart) s) (λ q. most) (λ j lo hi u e. omega (arith, same, (h.last b j small u (e ∙ ap (λ (x : ℕ). get_or cs x 0) same ∙ is_own)).0))
        go false t =
            rw (elsewhere after apart (next_place s) (λ q. eqb-false s v t (omega arith)) (λ q. omega arith))
            (passed_more (get_or cs s 0) (s + 1) (next_slot k s) (λ q. reach (get_or cs s 0) (s + 1) (next_slot k s) q (omega (arith, eqb-false s v t, (h.last b s small i q).0)) (h.next s i)) (h.next s i))

    linked_after : Linked more (k' after apart)
    linked_after = record {
      size = omega (arith, same_size after apart, h.size);
      first = λ c l. rw (elsewhere after apart c (λ q. omega arith) (λ q. omega arith)) (passed_more c 0 (first_slot k c) (λ q. reach c 0 (first_slot k c) q (omega arith) (h.first c l)) (h.first c l));
      next = next_more after apart followed;
      last = last_more after apart (λ c l q. omega arith);
      own = own_more after apart (λ c l q. omega arith);
    }

  -- it has none: the new one is its first
  module _ (none : n ≤ v) where
    apart_first : b ≡ last_place b → ⊥
    apart_first q = omega arith

    not_one : (c s m : ℕ) → c ≡ b → Passed cs c s m
    not_one c s m q j lo hi i e = omega (arith, (h.last b j small i (e ∙ q)).1)

    linked_first : Linked more (k' b apart_first)
    linked_first = record {
      size = omega (arith, same_size b apart_first, h.size);
      first = first;
      next = next_more b apart_first (λ s i. rw (elsewhere b apart_first (next_place s) (λ q. omega arith) (λ q. omega arith))
          (passed_more (get_or cs s 0) (s + 1) (next_slot k s) (λ q. absurd (omega (arith, (h.last b s small i q).1))) (h.next s i)));
      last = last_more b apart_first (λ c l q. omega arith);
      own = own_more b apart_first (λ c l q. omega arith);
    }
      where
        first : (c : ℕ) → c < most_locations → Passed more c 0 (first_slot (k' b apart_first) c)
        first c l = go (eqb c b) refl
          where
            go : (t : Bool) → eqb c b ≡ t → Passed more c 0 (first_slot (k' b apart_first) c)
            go true t =
                let same = eqb-true c b t in
                let most : first_slot (k' b apart_first) c ≤ n = rw same (there b apart_first) in
                passed_more c 0 (first_slot (k' b apart_first) c) (λ q. most) (not_one c 0 (first_slot (k' b apart_first) c) same)
            go false t = rw (elsewhere b apart_first c (eqb-false c b t) (λ q. omega arith)) (passed_more c 0 (first_slot k c) (λ q. absurd (eqb-false c b t q)) (h.first c l))

  pub linked_more : Linked more (set (set k (pick (ltb v n) (next_place v) b) n) (last_place b) n)
  linked_more = go (ltb v n) refl
    where
      go : (t : Bool) → ltb v n ≡ t → Linked more (set (set k (pick t (next_place v) b) n) (last_place b) n)
      go true t = linked_after (ltb-true v n t)
      go false t = linked_first (ltb-false v n t)
