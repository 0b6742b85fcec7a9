-- What a view that nothing refuses may rely on, and what it leaves: one proof for listing and path. Assumes nothing.
use Rattle.semantics.proofs.Prelude.{◌≡◌, refl, sym, ap, ◌∙◌, Bool, true, false, not, List, [], ◌∷◌, ◌++◌, ℕ, ◌≤◌, ltb, ℤ, length, drop}
use Rattle.semantics.specs.declared.Refusal.{Refusal}
use Rattle.semantics.specs.declared.View.{View}
use Rattle.semantics.specs.declared.View.TheVariants.{Listing, Path}
use Rattle.semantics.specs.Layout.{listing_bytes}
use Rattle.semantics.specs.Lists.{pick}
use Rattle.semantics.specs.Encoding.{decode}
use Rattle.semantics.specs.Memory.{Memory}
use Rattle.semantics.specs.Outcomes.{Case, case, refusal, Outcome, settled, showing, fine, refused_by, form_of, listing_outcome, path_outcome}
use Rattle.semantics.specs.Refusals.{number_of}
use Rattle.semantics.proofs.FirstCase.{none_met, refusal_later, sooner, refused_stays, goes}
use Rattle.semantics.proofs.StatesOk.{bounds}
use Rattle.semantics.proofs.Encoded.{well_formed_split}
use Rattle.semantics.proofs.ListingShort.{text_short}
use Rattle.semantics.proofs.PathShort.{path_text_short}
use Rattle.checks.specs.Form.{InForm}
use Rattle.checks.proofs.FormTests.{in_form}
use Rattle.checks.proofs.Numbered.{numbered}
use Rattle.listing.specs.Views.{has_text, view_text, view_cases, view_outcome}

-- an analysis that 20, 14 and 21 let pass is in form
pub unrefused : (words : List ℤ) (m : Memory) → 0 ≡ refusal (form_of words m) → InForm words m
unrefused words m e = let p = none_met (form_of words m) tt (sym e) in in_form words m p.0 p.1.0 p.1.1.0

-- no text in form is longer than the bytes that always do
pub view_short : (view : View) (words : List ℤ) (m : Memory) → InForm words m → length (view_text view (decode words) m) ≤ listing_bytes
view_short Listing words m f = text_short (decode words) (bounds (decode words) (well_formed_split words f.chart).1) m f.analysis
view_short Path words m f = path_text_short (decode words) (bounds (decode words) (well_formed_split words f.chart).1) m f.analysis

module _ (view : View) (words : List ℤ) (m : Memory) (space : List ℕ) where
  abbrev pub text : List ℕ
  text = view_text view (decode words) m

  abbrev pub cases : List Case
  cases = view_cases view (form_of words m) m.analysis.verdict (length space) text

  abbrev pub through : Outcome
  through = showing text m space

  -- a listing has no case 24, and a case that never holds changes nothing
  outcome_is : settled (refusal cases) m space through ≡ view_outcome view words m space
  unfolding listing_outcome path_outcome
  outcome_is = by_view view
    where
      by_view : (v : View) → settled (refusal (view_cases v (form_of words m) m.analysis.verdict (length space) (view_text v (decode words) m))) m space (showing (view_text v (decode words) m) m space) ≡ view_outcome v words m space
      by_view Listing = refl
      by_view Path = refl

  -- refused by 20, 14 or 21
  pub by_form : (n : ℕ) → n ≡ refusal (form_of words m) → (n ≡ 0 → ⊥) → n ≡ refusal cases
  by_form n e h =
      let none = case 24 (not (has_text view m.analysis.verdict)) ∷ [] in
      sooner (form_of words m ++ none) (case 15 (ltb (length space) (length text)) ∷ []) n (sooner (form_of words m) none n e h) h

  -- else by 24 or 15; t: there is a text, f: it fits
  pub by_text : 0 ≡ refusal (form_of words m) → (t f : Bool) → t ≡ has_text view m.analysis.verdict → f ≡ not (ltb (length space) (length text)) → refusal cases ≡ pick (not t) 24 (pick (not f) 15 0)
  by_text e t f p q =
      let later = case 24 (not (has_text view m.analysis.verdict)) ∷ case 15 (ltb (length space) (length text)) ∷ [] in
      refusal_later (form_of words m) later (none_met (form_of words m) tt (sym e)) ∙ (λ i. pick (not (sym p i)) 24 (late (ltb (length space) (length text)) q i))
    where
      late : (b : Bool) → f ≡ not b → ◌≡◌ {A = ℕ} (pick b 15 0) (pick (not f) 15 0)
      late true q = sym (ap (λ (x : Bool). pick {A = ℕ} (not x) 15 0) q)
      late false q = sym (ap (λ (x : Bool). pick {A = ℕ} (not x) 15 0) q)

  -- a refused call changes nothing
  pub refuses : (r : Refusal) → number_of r ≡ refusal cases → (refused_by (number_of r) 0 ≡ (view_outcome view words m space).answer) × (space ≡ (view_outcome view words m space).space)
  refuses r e =
      let o = sym (refused_stays m space through (number_of r) e (numbered r)) ∙ outcome_is in
      (ap (λ (x : Outcome). x.answer) o, ap (λ (x : Outcome). x.space) o)

  -- one that nothing refuses shows the text
  pub shows : refusal cases ≡ 0 → (fine (length text) ≡ (view_outcome view words m space).answer) × (text ++ drop (length text) space ≡ (view_outcome view words m space).space)
  shows e =
      let o = sym (goes m space through e) ∙ outcome_is in
      (ap (λ (x : Outcome). x.answer) o, ap (λ (x : Outcome). x.space) o)
