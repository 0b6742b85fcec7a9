-- What an answer says once its refusal has line 0; what a call leaves that writes a text or refuses; and a text put at the
-- front of bytes that hold it. Assumes nothing.
use Rattle.semantics.proofs.Prelude.{◌≡◌, sym, ap, ◌∙◌, List, ℕ, ◌++◌, ◌≤◌, arith, zero-add, length, drop}
use Rattle.std.specs.Prelude.{Result, Ok, Err, Option, Some, None}
use Rattle.std.specs.Option.{ok_or}
use Rattle.std.specs.Result.{MatchResult, IsErrAnd}
use Rattle.std.proofs.lemmas.Result.{err_from_is_err_and}
use Rattle.semantics.specs.declared.Refusal.{Refusal}
use Rattle.semantics.specs.declared.RefusedAt.{RefusedAt}
use Rattle.semantics.specs.Listing.{refused_text}
use Rattle.semantics.specs.Outcomes.{Answer, fine, refused_by}
use Rattle.semantics.specs.Refusals.{number_of, listed_of}
use Rattle.semantics.specs.Layout.{listing_bytes}
use Rattle.writer.specs.Writing.{Put}
use Rattle.writer.proofs.Written.{put_fits}
use Rattle.program.specs.Responded.{Printed, Answered, at_line_0, said_at_line_0}
use Rattle.checks.proofs.Numbered.{numbered}

-- `map_err(at_line_0)`, its clause `cases`
pub said : {A : Type 0} (r : Result A Refusal) (s : Result A RefusedAt) → MatchResult r (λ a. s ≡ Ok a) (λ e. IsErrAnd s (λ x. x ≡ at_line_0 e)) → s ≡ said_at_line_0 r
said (Ok a) s h = h
said (Err e) s h = let p = err_from_is_err_and s h in p.1 ∙ ap (λ (x : RefusedAt). Err x) p.2

module _ (text space space' : List ℕ) where
  pub answered_text : (r : Result ℕ Refusal) → listed_of r ≡ fine (length text) → space' ≡ text ++ drop (length text) space → Answered text space (said_at_line_0 r) space'
  answered_text (Ok n) p q = record { long = ap (λ (x : Answer). x.length) p; bytes = q }
  answered_text (Err e) p q = absurd (numbered e (ap (λ (x : Answer). x.number) p))

  pub answered_refusal : (r : Result ℕ Refusal) (n : ℕ) → (n ≡ 0 → ⊥) → listed_of r ≡ refused_by n 0 → text ≡ refused_text n 0 → space' ≡ space → Answered text space (said_at_line_0 r) space'
  answered_refusal (Ok m) n h p t q = absurd (h (sym (ap (λ (x : Answer). x.number) p)))
  answered_refusal (Err e) n h p t q = (t ∙ ap (λ (m : ℕ). refused_text m 0) (sym (ap (λ (x : Answer). x.number) p)), q)

-- `ok_or` of a value that is missing
pub none_or : {A E : Type 0} (o : Option A) (x y : E) → o ≡ None → ◌≡◌ {A = Result A E} (Err y) (ok_or o x) → y ≡ x
none_or None x y e h = cc
none_or (Some a) x y e h = absurd cc

put_printed : {text out out' : List ℕ} {r : ℕ} → Put 0 text out out' r → length text ≤ length out → Printed text out out' r
put_printed {text} {out} p h =
    let f = put_fits p (omega arith) in
    record { long = f.1 ∙ zero-add (length text); bytes = f.0 ∙ ap (λ (n : ℕ). text ++ drop n out) (zero-add (length text)) }

-- the refusal's line is printed where no byte was written
pub refusal_printed : (text out out' space : List ℕ) (e : RefusedAt) → {n : ℕ} → length out ≡ listing_bytes → length text ≤ listing_bytes → Answered text out (Err e) out' → Put 0 (refused_text (number_of e.refusal) e.line) out' space n → Printed text out space n
refusal_printed text out out' space e {n} h l a put =
    put_printed (rw (sym a.0, a.1) at put) (omega arith)
