-- Each slot keeps its place and has the origin that brought it: an earlier slot, and an edge that joins the places of the
-- two. Over any domain whose merge leaves a slot at its place and whose moves are along their edges. Assumes nothing.
use Rattle.semantics.proofs.Prelude.{◌≡◌, refl, sym, ap, ◌∙◌, subst, ◌⊎◌, inl, inr, Bool, true, false, List, [], ◌∷◌, ◌++◌, append_assoc, append-nil, map, map-append, Option, none, some, ℕ, zero, suc, ◌+◌, ◌<◌, arith, T, ltb, ltb→lt, le-ltb, lt-ltb, lt→ltb, length, length-append, length-map, get_or, get_or-append, get_or_at}
use Rattle.semantics.proofs.Bools.{and_left, and_right, both_true}
use Rattle.semantics.specs.Lists.{In, get, pick}
use Rattle.semantics.specs.Chart.{Chart}
use Rattle.semantics.specs.Algorithm.{Domain, Step, blocked, fault, to, Mode, Sep, Join, Settings, Origin, Exploration, has_verdict, Out, on, alarmed, full, then, taking, brought, Taken, take_by, joined, merged, rewait, stopped, store, arrive, visit, visit_all, takers, finish, noting, with_copy, with_taken, iteration, iterate, run, start}
use Rattle.semantics.specs.Memory.{joins, origin_ok, origins_ok}
use Rattle.semantics.proofs.AtAndIn.{none_some}
use Rattle.semantics.proofs.Simulate.{AllPairs, same_length}

-- the table with which edges end
abbrev pub table_after : {E : Type 0} → Out E → List E
table_after (on en wa) = en
table_after (alarmed n en wa) = en
table_after (full en wa) = en

-- ---- one edge

module _ {E G : Type 0} (D : Domain E G) (s : Settings) (r : ℕ) where
  merged_length : (m : Mode) (e : E) (en : List E) → length (merged D m e en) ≡ length en
  merged_length Sep e en = refl
  merged_length Join e en = length-map en (joined D e)

  -- the table is longer by the successor, which was stored, or has as many slots as before
  abbrev pub Takes : Step E → List E → Out E → Type 0
  Takes o en (on en' wa) = (length en' ≡ length en) ⊎ ((f : E) × (o ≡ to f) × (en' ≡ merged D s.merge f en ++ (f ∷ [])) × (length en < length en'))
  Takes o en (alarmed n en' wa) = length en' ≡ length en
  Takes o en (full en' wa) = length en' ≡ length en

  -- so that `taking` tells by the lengths whether an edge took a slot
  pub visit_takes : (n : ℕ) (o : Step E) (en : List E) (wa : List ℕ) → Takes o en (visit D s r n o en wa)
  visit_takes n blocked en wa = inl refl
  visit_takes n fault en wa = refl
  visit_takes n (to f) en wa = by_error (D.error f)
    where
      en' : List E
      en' = merged D s.merge f en

      wa' : List ℕ
      wa' = rewait D s.merge f en wa

      by_room : (b : Bool) → Takes (to f) en (pick b (on (en' ++ (f ∷ [])) (wa' ++ (length en' ∷ []))) (full en' wa'))
      by_room true = inr (f, refl, refl, omega (arith, length-append en' (f ∷ []), merged_length s.merge f en))
      by_room false = merged_length s.merge f en

      by_stop : (b : Bool) → Takes (to f) en (pick b (on en' wa') (store D r f en' wa'))
      by_stop true = inl (merged_length s.merge f en)
      by_stop false = by_room (ltb (length en') r)

      by_error : (b : Bool) → Takes (to f) en (pick b (alarmed n en wa) (arrive D s r f en wa))
      by_error true = refl
      by_error false = by_stop (stopped D s.stop f en')

-- ---- what a slot holds

-- P is kept by a merge: what slot j holds keeps it while edges are followed
module _ {E G : Type 0} (D : Domain E G) (P : E → Type 0) (stays : (f x : E) → P x → P (joined D f x)) (j : ℕ) where
  abbrev pub Held : List E → Type 0
  Held en = (x : E) × (get en j ≡ some x) × P x

  merged_held : (m : Mode) (f : E) (en : List E) → Held en → Held (merged D m f en)
  merged_held Sep f en h = h
  merged_held Join f en (x, p, h) = (joined D f x, got en j p, stays f x h)
    where
      got : (en : List E) (j : ℕ) → get en j ≡ some x → get (map (joined D f) en) j ≡ some (joined D f x)
      got [] j p = absurd (none_some refl p)
      got (y ∷ ys) zero p = let q : y ≡ x = cc in ap (λ (z : E). some (joined D f z)) q
      got (y ∷ ys) (suc j) p = got ys j p

  longer_held : (en : List E) (f : E) → Held en → Held (en ++ (f ∷ []))
  longer_held en f (x, p, h) = (x, got en j p, h)
    where
      got : (en : List E) (j : ℕ) → get en j ≡ some x → get (en ++ (f ∷ [])) j ≡ some x
      got [] j p = absurd (none_some refl p)
      got (y ∷ ys) zero p = p
      got (y ∷ ys) (suc j) p = got ys j p

  module _ (s : Settings) (r : ℕ) where
    visit_held : (n : ℕ) (o : Step E) (en : List E) (wa : List ℕ) → Held en → Held (table_after (visit D s r n o en wa))
    visit_held n blocked en wa h = h
    visit_held n fault en wa h = h
    visit_held n (to f) en wa h = by_error (D.error f)
      where
        en' : List E
        en' = merged D s.merge f en

        wa' : List ℕ
        wa' = rewait D s.merge f en wa

        h' : Held en'
        h' = merged_held s.merge f en h

        by_room : (b : Bool) → Held (table_after (pick b (on (en' ++ (f ∷ [])) (wa' ++ (length en' ∷ []))) (full en' wa')))
        by_room true = longer_held en' f h'
        by_room false = h'

        by_stop : (b : Bool) → Held (table_after (pick b (on en' wa') (store D r f en' wa')))
        by_stop true = h'
        by_stop false = by_room (ltb (length en') r)

        by_error : (b : Bool) → Held (table_after (pick b (alarmed n en wa) (arrive D s r f en wa)))
        by_error true = h
        by_error false = by_stop (stopped D s.stop f en')

    pub visit_all_held : (e : E) (gs : List G) (en : List E) (wa : List ℕ) → Held en → Held (table_after (visit_all D s r e gs en wa))
    visit_all_held e [] en wa h = h
    visit_all_held e (g ∷ gs) en wa h = go (visit D s r (D.number g) (D.post g e) en wa) (visit_held (D.number g) (D.post g e) en wa h) (λ en wa h. visit_all_held e gs en wa h)
      where
        go : (o : Out E) → Held (table_after o) → ((en : List E) (wa : List ℕ) → Held en → Held (table_after (visit_all D s r e gs en wa))) → Held (table_after (then o (λ en wa. visit_all D s r e gs en wa)))
        go (on en wa) h ih = ih en wa h
        go (alarmed n en wa) h ih = h
        go (full en wa) h ih = h

-- ---- the places that edges bring

-- `Leads n x y`: edge n may lead from place x to place y
module _ {E : Type 0} (place : E → ℕ) (Leads : ℕ → ℕ → ℕ → Type 0) where
  -- from one table to a later one, by edges that leave place x: each slot stays at its place, and each of the edges ns
  -- brings one slot more
  record Led (x : ℕ) (en en' : List E) (ns : List ℕ) : Type 0 where
    more : List ℕ
    places : map place en' ≡ map place en ++ more
    led : AllPairs (λ n. Leads n x) ns more

  led_stays : (x : ℕ) (en en' : List E) (ns : List ℕ) → Led x en en' ns → (j : ℕ) → j < length en → get_or (map place en') j 0 ≡ get_or (map place en) j 0
  led_stays x en en' ns l j h = ap (λ (ls : List ℕ). get_or ls j 0) l.places ∙ get_or-append (map place en) l.more 0 j (omega (arith, length-map en place))

  led_counted : (x : ℕ) (en en' : List E) (ns : List ℕ) → Led x en en' ns → length en' ≡ length en + length ns
  led_counted x en en' ns l =
      omega (arith, length-map en place, length-map en' place, ap length l.places, length-append (map place en) l.more, same_length (λ n. Leads n x) ns l.more l.led)

  -- no slot more
  led_none : (x : ℕ) (en en' : List E) → map place en' ≡ map place en → Led x en en' []
  led_none x en en' p = record { more = []; places = p ∙ sym (append-nil (map place en)); led = tt }

  -- edge n brings none, and then ns follow
  led_past : (x n : ℕ) (en en₁ en₂ : List E) (ns : List ℕ) → map place en₁ ≡ map place en → Led x en₁ en₂ ns → Led x en en₂ (pick (ltb (length en) (length en₁)) (n ∷ []) [] ++ ns)
  led_past x n en en₁ en₂ ns p l =
      rw (le-ltb (length en) (length en₁) (omega (arith, length-map en place, length-map en₁ place, ap length p)))
      (record { more = l.more; places = l.places ∙ ap (λ (ls : List ℕ). ls ++ l.more) p; led = l.led })

  -- edge n brings one at the place of f, and then ns follow
  led_more : (x n : ℕ) (f : E) (en en₁ en₂ : List E) (ns : List ℕ) → map place en₁ ≡ map place en → Leads n x (place f) → Led x (en₁ ++ (f ∷ [])) en₂ ns
      → Led x en en₂ (pick (ltb (length en) (length (en₁ ++ (f ∷ [])))) (n ∷ []) [] ++ ns)
  led_more x n f en en₁ en₂ ns p t l =
      rw (lt-ltb (length en) (length (en₁ ++ (f ∷ []))) (omega (arith, length-append en₁ (f ∷ []), length-map en place, length-map en₁ place, ap length p)))
      (record { more = place f ∷ l.more; places = l.places ∙ all_places; led = (t, l.led) })
    where
      all_places : map place (en₁ ++ (f ∷ [])) ++ l.more ≡ map place en ++ (place f ∷ l.more)
      all_places =
          ap (λ (ls : List ℕ). ls ++ l.more) (map-append place en₁ (f ∷ []) ∙ ap (λ (ls : List ℕ). ls ++ (place f ∷ [])) p)
          ∙ append_assoc (map place en) (place f ∷ []) l.more

  module _ {G : Type 0} (D : Domain E G) (kept : (e x : E) → place (joined D e x) ≡ place x) (s : Settings) (r : ℕ) where
    merged_places : (m : Mode) (e : E) (en : List E) → map place (merged D m e en) ≡ map place en
    merged_places Sep e en = refl
    merged_places Join e [] = refl
    merged_places Join e (x ∷ xs) = λ i. kept e x i ∷ merged_places Join e xs i

    -- edge n, which gives o at place x, and then what follows by `next`, in which the edges ns bring slots
    visit_led : (x n : ℕ) (o : Step E) → ((f : E) → o ≡ to f → Leads n x (place f)) → (next : List E → List ℕ → Out E) (ns : List E → List ℕ → List ℕ)
        → ((en : List E) (wa : List ℕ) → Led x en (table_after (next en wa)) (ns en wa)) → (en : List E) (wa : List ℕ)
        → Led x en (table_after (then (visit D s r n o en wa) next)) (taking n (length en) (visit D s r n o en wa) ns)
    visit_led x n blocked t next ns ih en wa = led_past x n en en (table_after (next en wa)) (ns en wa) refl (ih en wa)
    visit_led x n fault t next ns ih en wa = led_none x en en refl
    visit_led x n (to f) t next ns ih en wa = by_error (D.error f)
      where
        en' : List E
        en' = merged D s.merge f en

        wa' : List ℕ
        wa' = rewait D s.merge f en wa

        same : map place en' ≡ map place en
        same = merged_places s.merge f en

        Ends : Out E → Type 0
        Ends o = Led x en (table_after (then o next)) (taking n (length en) o ns)

        by_room : (b : Bool) → Ends (pick b (on (en' ++ (f ∷ [])) (wa' ++ (length en' ∷ []))) (full en' wa'))
        by_room true =
            let wa'' = wa' ++ (length en' ∷ []) in
            led_more x n f en en' (table_after (next (en' ++ (f ∷ [])) wa'')) (ns (en' ++ (f ∷ [])) wa'') same (t f refl) (ih (en' ++ (f ∷ [])) wa'')
        by_room false = led_none x en en' same

        by_stop : (b : Bool) → Ends (pick b (on en' wa') (store D r f en' wa'))
        by_stop true = led_past x n en en' (table_after (next en' wa')) (ns en' wa') same (ih en' wa')
        by_stop false = by_room (ltb (length en') r)

        by_error : (b : Bool) → Ends (pick b (alarmed n en wa) (arrive D s r f en wa))
        by_error true = led_none x en en refl
        by_error false = by_stop (stopped D s.stop f en')

    visit_all_led : (e : E) (gs : List G) → ((g : G) → In g gs → (f : E) → D.post g e ≡ to f → Leads (D.number g) (place e) (place f)) → (en : List E) (wa : List ℕ)
        → Led (place e) en (table_after (visit_all D s r e gs en wa)) (takers D s r e gs en wa)
    visit_all_led e [] t en wa = led_none (place e) en en refl
    visit_all_led e (g ∷ gs) t en wa =
        visit_led (place e) (D.number g) (D.post g e) (t g (inl refl)) (visit_all D s r e gs) (takers D s r e gs) (visit_all_led e gs (λ h i. t h (inr i))) en wa

-- a slot more for each of the edges that bring one
pub takers_counted : {E G : Type 0} (D : Domain E G) (s : Settings) (r : ℕ) (e : E) (gs : List G) (en : List E) (wa : List ℕ)
    → length (table_after (visit_all D s r e gs en wa)) ≡ length en + length (takers D s r e gs en wa)
takers_counted {E} D s r e gs en wa =
    led_counted (λ (x : E). 0) (λ n x y. Unit) 0 en (table_after (visit_all D s r e gs en wa)) (takers D s r e gs en wa)
    (visit_all_led (λ (x : E). 0) (λ n x y. Unit) D (λ e x. refl) s r e gs (λ g i f p. tt) en wa)

-- ---- the origins beside them

-- a slot with a state in it is in use, and stands at the state's place
pub place_at : {E : Type 0} (place : E → ℕ) (en : List E) (k : ℕ) (e : E) → get en k ≡ some e → (k < length en) × (get_or (map place en) k 0 ≡ place e)
place_at place [] k e p = absurd (none_some refl p)
place_at place (x ∷ xs) zero e p = let q : x ≡ e = cc in (omega arith, ap place q)
place_at place (x ∷ xs) (suc k) e p = let h = place_at place xs k e p in (omega (arith, h.0), h.1)

module _ (c : Chart) where
  -- slots more leave the origin of one before them as it should be
  origin_stays : (ls ys : List ℕ) (s : ℕ) (o : Origin) → s < length ls → T (origin_ok c ls s o) → T (origin_ok c (ls ++ ys) s o)
  origin_stays ls ys zero o h t = t
  origin_stays ls ys (suc s) o h t =
      let below : o.parent < suc s = ltb→lt o.parent (suc s) (search and_left) in
      rw (get_or-append ls ys 0 o.parent (omega arith), get_or-append ls ys 0 (suc s) h) t

  -- the origins with that of a slot more
  origins_snoc : (ls : List ℕ) (y : ℕ) (o : Origin) (s : ℕ) (os : List Origin) → s + length os ≡ length ls → T (origins_ok c ls s os) → T (origin_ok c (ls ++ (y ∷ [])) (length ls) o) → T (origins_ok c (ls ++ (y ∷ [])) s (os ++ (o ∷ [])))
  origins_snoc ls y o s [] h t u =
      let here : length ls ≡ s = omega arith in
      both_true (origin_ok c (ls ++ (y ∷ [])) s o) true (subst (λ (n : ℕ). T (origin_ok c (ls ++ (y ∷ [])) n o)) here u) tt
  origins_snoc ls y o s (p ∷ os) h t u =
      both_true (origin_ok c (ls ++ (y ∷ [])) s p) (origins_ok c (ls ++ (y ∷ [])) (suc s) (os ++ (o ∷ [])))
      (origin_stays ls (y ∷ []) s p (omega arith) (and_left (origin_ok c ls s p) (origins_ok c ls (suc s) os) t))
      (origins_snoc ls y o (suc s) os (omega arith) (and_right (origin_ok c ls s p) (origins_ok c ls (suc s) os) t) u)

  -- the origin of a slot that edge n of slot k brings
  origin_new : (ls : List ℕ) (k x n y : ℕ) → k < length ls → get_or ls k 0 ≡ x → T (joins c n x y) → T (origin_ok c (ls ++ (y ∷ [])) (length ls) (record { parent = k; edge = n }))
  origin_new [] k x n y h p t = absurd (omega arith)
  origin_new (l ∷ ls) k x n y h p t =
      both_true (ltb k (suc (length ls))) (joins c n (get_or ((l ∷ ls) ++ (y ∷ [])) k 0) (get_or (ls ++ (y ∷ [])) (length ls) 0)) (lt→ltb k (suc (length ls)) h)
      (rw (get_or-append (l ∷ ls) (y ∷ []) 0 k h, p, get_or_at ls y [] 0 (length ls) refl) t)

  -- the origins of all slots that edges of slot k bring
  origins_brought : (ls : List ℕ) (os : List Origin) (k x : ℕ) (ns ys : List ℕ) → length os ≡ length ls → T (origins_ok c ls 0 os) → k < length ls → get_or ls k 0 ≡ x → AllPairs (λ n y. T (joins c n x y)) ns ys
      → T (origins_ok c (ls ++ ys) 0 (os ++ brought k ns))
  origins_brought ls os k x [] [] b t h p a = rw (append-nil ls, append-nil os) t
  origins_brought ls os k x [] (y ∷ ys) b t h p a = absurd a
  origins_brought ls os k x (n ∷ ns) [] b t h p a = absurd a
  origins_brought ls os k x (n ∷ ns) (y ∷ ys) b t h p a =
      let o : Origin = record { parent = k; edge = n } in
      let ls' = ls ++ (y ∷ []) in
      let os' = os ++ (o ∷ []) in
      let longer : length ls' ≡ length ls + 1 = length-append ls (y ∷ []) in
      subst T (λ i. origins_ok c (append_assoc ls (y ∷ []) ys i) 0 (append_assoc os (o ∷ []) (brought k ns) i))
      (origins_brought ls' os' k x ns ys (omega (arith, length-append os (o ∷ []))) (origins_snoc ls y o 0 os (omega arith) t (origin_new ls k x n y h p a.0)) (omega arith)
      (get_or-append ls (y ∷ []) 0 k h ∙ p) a.1)

-- ---- iterations and runs

module _ {E G : Type 0} (D : Domain E G) (gs : List G) (P : Exploration E → Type 0) where
  -- what holds before an iteration, and after one that takes a slot and has a copy e of it
  pub iteration_keeps : (w : Exploration E) → P w → ((t : Taken) (e : E) → get w.reached t.slot ≡ some e → P (with_copy D gs w t.slot t.rest (some e))) → P (iteration D gs w)
  unfolding iteration
  iteration_keeps w h f = go (take_by w.settings.order w.waitlist)
    where
      copy : (t : Taken) (o : Option E) → get w.reached t.slot ≡ o → P (with_copy D gs w t.slot t.rest o)
      copy t none p = h
      copy t (some e) p = f t e p

      go : (o : Option Taken) → P (with_taken D gs w o)
      go none = h
      go (some t) = copy t (get w.reached t.slot) refl

  -- what each iteration keeps a run keeps
  pub run_keeps : ((w : Exploration E) → P w → P (iteration D gs w)) → (n : ℕ) (w : Exploration E) → P w → P (run D gs n w)
  unfolding run
  run_keeps f zero w h = h
  run_keeps f (suc n) w h = run_keeps f n (iterate D gs w) (go (has_verdict w.verdict))
    where
      go : (b : Bool) → P (pick b w (iteration D gs w))
      go true = h
      go false = f w h

-- the origins of an exploration's slots, one of each, as 21 asks them
pub record Brought {E : Type 0} (c : Chart) (place : E → ℕ) (w : Exploration E) : Type 0 where
  pub beside : length w.origins ≡ length w.reached
  pub ok : T (origins_ok c (map place w.reached) 0 w.origins)

-- what a domain and the edges owe: a merge leaves a slot at its place, and a move is along its edge
pub record Places {E G : Type 0} (c : Chart) (place : E → ℕ) (D : Domain E G) (gs : List G) : Type 0 where
  pub kept : (e x : E) → place (joined D e x) ≡ place x
  pub leads : (g : G) → In g gs → (e f : E) → D.post g e ≡ to f → T (joins c (D.number g) (place e) (place f))

module _ {E G : Type 0} (c : Chart) (place : E → ℕ) (D : Domain E G) (gs : List G) (L : Places c place D gs) where
  -- the edges of a taken slot, of which e is the copy
  followed_led : (s : Settings) (r : ℕ) (e : E) (en : List E) (wa : List ℕ) → Led place (λ n x y. T (joins c n x y)) (place e) en (table_after (visit_all D s r e gs en wa)) (takers D s r e gs en wa)
  followed_led s r e en wa = visit_all_led place (λ n x y. T (joins c n x y)) D L.kept s r e gs (λ g i f. L.leads g i e f) en wa

  -- they leave each slot at its place
  pub followed_stays : (s : Settings) (r : ℕ) (e : E) (en : List E) (wa : List ℕ) (j : ℕ) → j < length en → get_or (map place (table_after (visit_all D s r e gs en wa))) j 0 ≡ get_or (map place en) j 0
  followed_stays s r e en wa =
      led_stays place (λ n x y. T (joins c n x y)) (place e) en (table_after (visit_all D s r e gs en wa)) (takers D s r e gs en wa) (followed_led s r e en wa)

  pub copy_brought : (w : Exploration E) → Brought c place w → (t : Taken) (e : E) → get w.reached t.slot ≡ some e → Brought c place (with_copy D gs w t.slot t.rest (some e))
  copy_brought w h t e p = go (visit_all D w.settings w.capacity e gs w.reached t.rest) beside ok
    where
      ns : List ℕ
      ns = takers D w.settings w.capacity e gs w.reached t.rest

      en' : List E
      en' = table_after (visit_all D w.settings w.capacity e gs w.reached t.rest)

      os' : List Origin
      os' = w.origins ++ brought t.slot ns

      beside : length os' ≡ length en'
      beside =
          let count : length (brought t.slot ns) ≡ length ns = length-map ns (λ n. record { parent = t.slot; edge = n }) in
          omega (arith, length-append w.origins (brought t.slot ns), h.beside, takers_counted D w.settings w.capacity e gs w.reached t.rest)

      ok : T (origins_ok c (map place en') 0 os')
      ok =
          let l = followed_led w.settings w.capacity e w.reached t.rest in
          let at = place_at place w.reached t.slot e p in
          rw l.places
          (origins_brought c (map place w.reached) w.origins t.slot (place e) ns l.more (omega (arith, h.beside, length-map w.reached place)) h.ok (omega (arith, at.0, length-map w.reached place)) at.1 l.led)

      go : (o : Out E) → length os' ≡ length (table_after o) → T (origins_ok c (map place (table_after o)) 0 os') → Brought c place (finish D (noting D gs w t.slot e t.rest) t.slot o)
      go (on en wa) b k = record { beside = b; ok = k }
      go (alarmed n en wa) b k = record { beside = b; ok = k }
      go (full en wa) b k = record { beside = b; ok = k }

  pub iteration_brought : (w : Exploration E) → Brought c place w → Brought c place (iteration D gs w)
  iteration_brought w h = iteration_keeps D gs (Brought c place) w h (copy_brought w h)

  pub run_brought : (n : ℕ) (w : Exploration E) → Brought c place w → Brought c place (run D gs n w)
  run_brought = run_keeps D gs (Brought c place) iteration_brought

pub start_brought : {E G : Type 0} (c : Chart) (place : E → ℕ) (D : Domain E G) (z : Settings) (r : ℕ) (e : E) → Brought c place (start D z r e)
unfolding start
start_brought c place D z r e = record { beside = refl; ok = tt }
