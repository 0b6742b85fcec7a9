-- What a path says of the chart holds of every exploration that a start and runs make: following parents from any slot
-- ends at slot 0, and an alarm has its edge at the end of such a way. Document 02, 2.2. Assumes nothing.
use Rattle.semantics.proofs.Prelude.{◌≡◌, refl, sym, ap, ◌∙◌, subst, inl, inr, Bool, true, false, List, [], ◌∷◌, ◌++◌, append_assoc, some, ℕ, zero, suc, ◌+◌, ◌≤◌, ◌<◌, add-zero, zero-add, arith, T, eqb, eqb→eq, eqb_refl, eqb-suc-zero, ltb→lt, length, length-map, get_or}
use Rattle.semantics.proofs.Bools.{from_true, and_left, and_right, both_true}
use Rattle.semantics.specs.Lists.{In, get, pick, all_pairs}
use Rattle.semantics.specs.Chart.{Value, known, top, Edge, Numbered, number_from, numbered, Chart, error_location}
use Rattle.semantics.specs.Algorithm.{blocked, to, Order, Old, New, Alarm, Settings, Origin, Exploration, Out, on, alarmed, full, Taken, take_by, joined, verdict_of, visit_all, finish, noting, with_copy, without, run, first_verdict, start_with, start}
use Rattle.semantics.specs.Constants.{AbstractState, equal_value, leq_value, join_value, join_values, same_location, leq, join, effect, arrive_at, post, constants, initial}
use Rattle.semantics.specs.Memory.{locations, joins, origin_ok, origins_ok}
use Rattle.semantics.specs.Verdicts.{Raises, Breaks, Caused}
use Rattle.semantics.specs.Path.{parent_of, edge_of, way_to}
use Rattle.semantics.specs.PathHolds.{SlotWay, slot_location, WayTo, Raised, PathHolds}
use Rattle.semantics.proofs.AtAndIn.{clash, in_left, in_last}
use Rattle.semantics.proofs.Integers.{eq_z_refl}
use Rattle.semantics.proofs.Waitlist.{back_next}
use Rattle.semantics.proofs.Covering.{blocked_fault, blocked_to}
use Rattle.semantics.proofs.ConstantValues.{post_keeps}
use Rattle.semantics.proofs.Verdicts.{visit_all_caused}
use Rattle.semantics.proofs.Origins.{table_after, Held, visit_all_held, takers_counted, place_at, iteration_keeps, run_keeps, Brought, Places, followed_stays, copy_brought, start_brought}

-- the place of a state
abbrev pub location_of : AbstractState → ℕ
location_of e = e.loc

-- ---- the constants follow the chart's edges

-- an edge stands at the place of its number
numbered_at : (n : ℕ) (gs : List Edge) (g : Numbered) → In g (number_from n gs) → (i : ℕ) × (g.no ≡ n + i) × (get gs i ≡ some g.edge)
numbered_at n [] g h = absurd h
numbered_at n (x ∷ xs) g (inl p) = (0, omega (arith, ap (λ (y : Numbered). y.no) p), ap (λ (y : Numbered). some y.edge) (sym p))
numbered_at n (x ∷ xs) g (inr i) = let r = numbered_at (suc n) xs g i in (suc r.0, omega (arith, r.1), r.2)

module _ (c : Chart) where
  edge_joins : (g : Numbered) → In g (numbered c) → (x y : ℕ) → T (eqb g.edge.from x) → g.edge.to ≡ y → T (joins c g.no x y)
  edge_joins g i x y p q =
      let r = numbered_at 1 c.edges g i in
      let at : g.no ≡ suc r.0 = omega (arith, r.1) in
      rw (at, r.2) (both_true (eqb g.edge.from x) (eqb g.edge.to y) p (subst (λ (z : ℕ). T (eqb g.edge.to z)) q (eqb_refl g.edge.to)))

  -- an edge that gives a successor or a fault leaves the state's location
  post_leaves : (g : Edge) (e : AbstractState) → (post c g e ≡ blocked → ⊥) → T (eqb g.from e.loc)
  unfolding post
  post_leaves g e h = go (eqb g.from e.loc) h
    where
      go : (b : Bool) → (pick b (arrive_at g.to (effect c.vars g.op e.vals)) blocked ≡ blocked → ⊥) → T b
      go true h = tt
      go false h = h refl

  post_comes : (g : Edge) (e f : AbstractState) → post c g e ≡ to f → g.to ≡ f.loc
  post_comes g e f p = (post_keeps c (λ vs. Unit) (λ k v. Unit) (λ k z t. tt) (λ k. tt) (λ k v vs o h. tt) g e f (λ v p q o. tt) tt p).0

  pub constants_places : Places c location_of (constants c) (numbered c)
  unfolding join
  constants_places = record { kept = λ e x. kept e x (same_location e x); leads = λ g i e f p. edge_joins g i e.loc f.loc (post_leaves g.edge e (λ q. blocked_to q p)) (post_comes g.edge e f p) }
    where
      kept : (e x : AbstractState) (b : Bool) → (pick b (join e x) x).loc ≡ x.loc
      kept e x true = refl
      kept e x false = refl

-- ---- the way to a slot

-- the way with a slot more
way_more : (c : Chart) (ls : List ℕ) (os : List Origin) (s : ℕ) (ks : List ℕ) (y k : ℕ) → SlotWay c ls os s ks y → y < k → k < length ls → parent_of os k ≡ y → T (joins c (edge_of os k) (get_or ls y 0) (get_or ls k 0)) → SlotWay c ls os s (ks ++ (k ∷ [])) k
way_more c ls os s [] y k p l h q t = (omega arith, h, q ∙ sym p, subst (λ (v : ℕ). T (joins c (edge_of os k) (get_or ls v 0) (get_or ls k 0))) (sym p) t, refl)
way_more c ls os s (j ∷ ks) y k (u, v, w, x, z) l h q t = (u, v, w, x, way_more c ls os j ks y k z l h q t)

pub origin_at : (c : Chart) (ls : List ℕ) (os : List Origin) (s i : ℕ) → T (origins_ok c ls s os) → i < length os → (o : Origin) × (get os i ≡ some o) × T (origin_ok c ls (s + i) o)
origin_at c ls [] s i t h = absurd (omega arith)
origin_at c ls (o ∷ os) s zero t h = (o, refl, rw (add-zero s) (and_left (origin_ok c ls s o) (origins_ok c ls (suc s) os) t))
origin_at c ls (o ∷ os) s (suc i) t h =
    let r = origin_at c ls os (suc s) i (and_right (origin_ok c ls s o) (origins_ok c ls (suc s) os) t) (omega arith) in
    let at : suc s + i ≡ s + suc i = omega arith in
    (r.0, r.1, subst (λ (n : ℕ). T (origin_ok c ls n r.0)) at r.2)

-- ls are the locations of slots, os their origins
module _ (c : Chart) (ls : List ℕ) (os : List Origin) where
  -- the way to slot s by n parents at most begins at slot 0 and leads to s
  abbrev WayBy : ℕ → ℕ → Type 0
  WayBy n s = (later : List ℕ) × (way_to os n s ≡ 0 ∷ later) × SlotWay c ls os 0 later s

  way_by_parent : (n s : ℕ) (o : Origin) → get os (suc s) ≡ some o → o.parent < suc s → suc s < length ls → T (joins c o.edge (get_or ls o.parent 0) (get_or ls (suc s) 0)) → WayBy n o.parent → WayBy (suc n) (suc s)
  way_by_parent n s o p l h t (later, slots, leads) = (
    later ++ (suc s ∷ []),
    rw (eqb-suc-zero s, p, slots) refl,
    way_more c ls os 0 later o.parent (suc s) leads l h (rw p) (rw p t),
  )

  -- of any origins in form: parents fall, so that n of them end at slot 0 from any slot up to n
  pub way_ends : length os ≡ length ls → T (origins_ok c ls 0 os) → (n s : ℕ) → s ≤ n → s < length os → WayBy n s
  way_ends e t zero zero l h = ([], refl, refl)
  way_ends e t zero (suc s) l h = absurd (omega arith)
  way_ends e t (suc n) zero l h = ([], refl, refl)
  way_ends e t (suc n) (suc s) l h =
      let (o, p, u) = origin_at c ls os 0 (suc s) t h in
      let v : T (origin_ok c ls (suc s) o) = rw (zero-add (suc s)) at u in
      let below : o.parent < suc s = ltb→lt o.parent (suc s) (search and_left) in
      way_by_parent n s o p below (omega arith) (search and_right) (way_ends e t n o.parent (omega arith) (omega arith))

-- ---- the copy of a slot lies under what it holds

leq_itself : (e : AbstractState) → T (leq e e)
unfolding leq
leq_itself e = both_true (same_location e e) (all_pairs leq_value e.vals e.vals) (eqb_refl e.loc) (go e.vals)
  where
    one : (v : Value) → T (leq_value v v)
    one (known z) = eq_z_refl z
    one top = tt

    go : (vs : List Value) → T (all_pairs leq_value vs vs)
    go [] = tt
    go (v ∷ vs) = both_true (leq_value v v) (all_pairs leq_value vs vs) (one v) (go vs)

-- a join makes values top, and leaves the others
under_values : (us vs xs : List Value) → T (all_pairs leq_value us xs) → T (all_pairs leq_value us (join_values vs xs))
under_values us [] xs t = t
under_values [] (v ∷ vs) [] t = tt
under_values [] (v ∷ vs) (x ∷ xs) t = absurd t
under_values (u ∷ us) (v ∷ vs) [] t = absurd t
under_values (u ∷ us) (v ∷ vs) (x ∷ xs) t =
    both_true (leq_value u (join_value v x)) (all_pairs leq_value us (join_values vs xs)) (one u (and_left (leq_value u x) (all_pairs leq_value us xs) t) (equal_value v x)) (under_values us vs xs (and_right (leq_value u x) (all_pairs leq_value us xs) t))
  where
    one : (u : Value) → T (leq_value u x) → (b : Bool) → T (leq_value u (pick b x top))
    one u h true = h
    one (known z) h false = tt
    one top h false = tt

under_stays : (c : Chart) (e f x : AbstractState) → T (leq e x) → T (leq e (joined (constants c) f x))
unfolding leq join
under_stays c e f x t = go (same_location f x)
  where
    go : (b : Bool) → T (leq e (pick b (join f x) x))
    go true = both_true (same_location e x) (all_pairs leq_value e.vals (join_values f.vals x.vals)) (and_left (same_location e x) (all_pairs leq_value e.vals x.vals) t) (under_values e.vals f.vals x.vals (and_right (same_location e x) (all_pairs leq_value e.vals x.vals) t))
    go false = t

-- ---- what a start and runs keep

not_alarm : (wa : List ℕ) → verdict_of wa ≡ Alarm → ⊥
not_alarm [] e = clash cc
not_alarm (x ∷ xs) e = clash cc

first_next : (o : Order) → take_by o (0 ∷ []) ≡ some (record { slot = 0; rest = [] })
first_next Old = refl
first_next New = refl

module _ (c : Chart) where
  pub record PathKept (w : Exploration AbstractState) : Type 0 where
    pub brought : Brought c location_of w
    -- slot 0 stands at the start location
    pub first : slot_location c w 0 ≡ 0
    pub alarm : w.verdict ≡ Alarm → Raised c w

  breaks_in : (e : AbstractState) (gs : List Numbered) (b : Breaks (constants c) e gs) → In b.edge gs
  breaks_in e gs b =
      let parts : gs ≡ (b.before ++ (b.edge ∷ [])) ++ b.after = b.parts ∙ sym (append_assoc b.before (b.edge ∷ []) b.after) in
      subst (λ (l : List Numbered). In b.edge l) (sym parts) (in_left b.edge (b.before ++ (b.edge ∷ [])) b.after (in_last b.edge b.before))

  -- an edge that raises an alarm is not blocked
  raises_leaves : (g : Numbered) (e : AbstractState) → Raises (constants c) g e → T (eqb g.edge.from e.loc)
  raises_leaves g e (inl p) = post_leaves c g.edge e (λ q. blocked_fault q p)
  raises_leaves g e (inr p) = post_leaves c g.edge e (λ q. blocked_to q p.1)

  -- after an alarm the taken slot is the one taken next, and it still stands where e does, its copy
  copy_path : (w : Exploration AbstractState) → PathKept w → (t : Taken) (e : AbstractState) → get w.reached t.slot ≡ some e → PathKept (with_copy (constants c) (numbered c) w t.slot t.rest (some e))
  copy_path w h t e p =
      go (visit_all (constants c) w.settings w.capacity e (numbered c) w.reached t.rest) (copy_brought c location_of (constants c) (numbered c) (constants_places c) w h.brought t e p)
      (visit_all_caused (constants c) w.capacity e w.settings (numbered c) w.reached t.rest) (stays 0 (omega (arith, at.0)) ∙ h.first) (sym (stays t.slot at.0 ∙ at.1))
      (visit_all_held (constants c) (λ x. T (leq e x)) (under_stays c e) t.slot w.settings w.capacity e (numbered c) w.reached t.rest (e, p, leq_itself e))
      (omega (arith, at.0, takers_counted (constants c) w.settings w.capacity e (numbered c) w.reached t.rest))
    where
      at : (t.slot < length w.reached) × (slot_location c w t.slot ≡ e.loc)
      at = place_at location_of w.reached t.slot e p

      stays : (j : ℕ) → j < length w.reached → get_or (locations (table_after (visit_all (constants c) w.settings w.capacity e (numbered c) w.reached t.rest))) j 0 ≡ slot_location c w j
      stays = followed_stays c location_of (constants c) (numbered c) (constants_places c) w.settings w.capacity e w.reached t.rest

      After : Out AbstractState → Exploration AbstractState
      After o = finish (constants c) (noting (constants c) (numbered c) w t.slot e t.rest) t.slot o

      go : (o : Out AbstractState) → Brought c location_of (After o) → Caused (constants c) w.capacity e (numbered c) o → get_or (locations (table_after o)) 0 0 ≡ 0
          → e.loc ≡ get_or (locations (table_after o)) t.slot 0 → Held (constants c) (λ x. T (leq e x)) (under_stays c e) t.slot (table_after o) → t.slot < length (table_after o) → PathKept (After o)
      go (on en wa) b q first place held used = record { brought = b; first = first; alarm = λ v. absurd (not_alarm wa v) }
      go (alarmed n en wa) b q first place held used = record { brought = b; first = first; alarm = λ v. raised }
        where
          g : Numbered
          g = q.0.edge

          raised : Raised c (After (alarmed n en wa))
          raised = record {
            taken = record { slot = t.slot; rest = without t.slot wa };
            used = used;
            next = back_next w.settings.order t.slot wa;
            path = rw (back_next w.settings.order t.slot wa);
            cause = inr (record {
              edge = g;
              listed = breaks_in e (numbered c) q.0;
              number = q.1;
              leaves = eqb→eq g.edge.from e.loc (raises_leaves g e q.2) ∙ place;
              held = held.0;
              holds = held.1;
              copy = e;
              under = held.2;
              raises = q.2;
            });
          }
      go (full en wa) b q first place held used = record { brought = b; first = first; alarm = λ v. absurd (clash cc) }

  pub start_path : (z : Settings) (r : ℕ) → PathKept (start (constants c) z r (initial c))
  unfolding start
  start_path z r = record { brought = start_brought c location_of (constants c) z r (initial c); first = refl; alarm = go (error_location c.locs 0) refl }
    where
      go : (b : Bool) → error_location c.locs 0 ≡ b → first_verdict b ≡ Alarm → Raised c (start_with (constants c) (first_verdict (error_location c.locs 0)) z r (initial c))
      go true e v = record { taken = record { slot = 0; rest = [] }; used = omega arith; next = first_next z.order; path = rw (first_next z.order); cause = inl (record { slot = refl; edge = refl; bad = from_true e }) }
      go false e v = absurd (clash cc)

  pub run_path : (n : ℕ) (w : Exploration AbstractState) → PathKept w → PathKept (run (constants c) (numbered c) n w)
  run_path = run_keeps (constants c) (numbered c) PathKept (λ w h. iteration_keeps (constants c) (numbered c) PathKept w h (copy_path w h))

  pub path_holds : (w : Exploration AbstractState) → PathKept w → PathHolds c w
  path_holds w h = record { ways = ways; alarm = h.alarm }
    where
      ways : (s : ℕ) → s < length w.reached → WayTo c w s
      ways s l =
          let (others, way, leads) = way_ends c (locations w.reached) w.origins (h.brought.beside ∙ sym (length-map w.reached location_of)) h.brought.ok s s (omega arith) (omega (arith, h.brought.beside)) in
          record { others = others; way = way; at_start = h.first; leads = leads }
