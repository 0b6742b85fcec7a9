-- `reader::judge_line` meets its contract: by what the line's first field is.
use Rattle.semantics.proofs.Prelude.{◌≡◌, sym, ◌∙◌, false, get_or}
use Rattle.std.proofs.Common.{rules}
use Rattle.semantics.specs.Text.{bytes, same_bytes}
use Rattle.reader.proofs.NextLine.{kind_var, kind_loc, kind_edge, kind_none, one_byte}
use Rattle.reader.proofs.judge_line.Goals as goal

pub returns-in-V : goal.returns-in-V
returns-in-V c =
    let b : get_or c.field_bytes.result.now 0 0 ≡ 86 = search (c.in-V, rules) in
    let kind = sym (c.field_bytes.ensures 0 c.first_field-first.ensures) ∙ one_byte _ c.in-V.len_at_least c.in-V.len_below b in
    λ s h. rw (kind_var s _ kind) (c.read_line.ensures s h)

pub returns-in-L : goal.returns-in-L
returns-in-L c =
    let b : get_or c.field_bytes.result.now 0 0 ≡ 76 = search (c.in-L, rules) in
    let kind = sym (c.field_bytes.ensures 0 c.first_field-first.ensures) ∙ one_byte _ c.in-L.len_at_least c.in-L.len_below b in
    λ s h. rw (kind_loc s _ kind) (c.read_line-in-L.ensures s h)

pub returns-in-E : goal.returns-in-E
returns-in-E c =
    let b : get_or c.field_bytes.result.now 0 0 ≡ 69 = search (c.in-E, rules) in
    let kind = sym (c.field_bytes.ensures 0 c.first_field-first.ensures) ∙ one_byte _ c.in-E.len_at_least c.in-E.len_below b in
    λ s h. rw (kind_edge s _ kind) (c.read_line-in-E.ensures s h)

pub returns-in_default : goal.returns-in_default
returns-in_default c =
    let v : same_bytes c.field_bytes.result.now (bytes "V") ≡ false = search rules in
    let l : same_bytes c.field_bytes.result.now (bytes "L") ≡ false = search rules in
    let e : same_bytes c.field_bytes.result.now (bytes "E") ≡ false = search rules in
    λ s h. kind_none s _ (c.field_bytes.ensures 0 c.first_field-first.ensures) v l e

pub returns-in_default-2 : goal.returns-in_default-2
returns-in_default-2 c =
    let v : same_bytes c.field_bytes.result.now (bytes "V") ≡ false = search rules in
    let l : same_bytes c.field_bytes.result.now (bytes "L") ≡ false = search rules in
    let e : same_bytes c.field_bytes.result.now (bytes "E") ≡ false = search rules in
    λ s h. kind_none s _ (c.field_bytes.ensures 0 c.first_field-first.ensures) v l e

pub returns-in_default-3 : goal.returns-in_default-3
returns-in_default-3 c =
    let v : same_bytes c.field_bytes.result.now (bytes "V") ≡ false = search rules in
    let l : same_bytes c.field_bytes.result.now (bytes "L") ≡ false = search rules in
    let e : same_bytes c.field_bytes.result.now (bytes "E") ≡ false = search rules in
    λ s h. kind_none s _ (c.field_bytes.ensures 0 c.first_field-first.ensures) v l e
