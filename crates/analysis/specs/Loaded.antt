-- What an arrival, an iteration and a run ask of record, table words and list words, and what they say after it as an
-- exploration of rows. Assumes nothing.
use Rattle.std.specs.Prelude.{◌≡◌, List, [], ◌++◌, ℕ, ◌+◌, ◌≤◌, ◌<◌, ℤ, length}
use Rattle.semantics.specs.declared.Analysis.{Analysis}
use Rattle.semantics.specs.Layout.{index_limit}
use Rattle.semantics.specs.Algorithm.{Domain, merged, rewait, Out, taking, brought, Exploration}
use Rattle.semantics.specs.Tidy.{Allowed, Tidy}
use Rattle.state.specs.declared.Layout.{Layout}
use Rattle.state.specs.Rows.{width_of, most_width, rows_of, origins_of, row_domain}
use Rattle.waitlist.specs.Waits.{waits}
use Rattle.reached.specs.Reached.{Kept}
use Rattle.reached.specs.Links.{chains_of, Linked}
use Rattle.chart.specs.declared.EdgeRow.{EdgeRow}
use Rattle.transfer.specs.Transfer.{edge_at, post_words, error_row}
use Rattle.analysis.specs.Chains.{Chained}
use Rattle.progress.specs.declared.Progress.{Progress}
use Rattle.progress.specs.Progress.{rows_only, out_of, load_of}

-- the rows as a domain, over an encoded chart
abbrev pub domain_of : List ℤ → Domain (List ℤ) ℕ
domain_of c = row_domain (post_words c) (error_row c)

-- ---- between the edges of an iteration

-- edge g, counted from 0: its number counts from 1, and its words stand where the chart has them
pub record IsEdge (c : List ℤ) (g : ℕ) (e : EdgeRow) : Type 0 where
  pub id : e.id.0 ≡ g + 1
  pub at : e.at ≡ edge_at c g

-- a layout, edge 1 and a count of edges outline the chart c, in numbers that do not wrap and rows that are not too wide;
-- and the chains are those of its edges
pub record Outlined (c : List ℤ) (y : Layout) (e : EdgeRow) (n : ℕ) (heads nexts : List ℕ) : Type 0 where
  pub first : IsEdge c 0 e
  pub small : edge_at c n < index_limit
  pub narrow : width_of y ≤ most_width
  pub chained : Chained c 0 heads nexts

-- what an arrival asks: table and waitlist in form by the record's counts, settings that 12 lets pass, a row e, and the
-- links k of the slots
pub record Ready (y : Layout) (a : Analysis) (t l e : List ℤ) (k : List ℕ) : Type 0 where
  pub kept : Kept y t l a.used a.waiting
  pub allowed : Allowed a.settings
  pub row : length e ≡ width_of y
  pub linked : Linked (chains_of y a.used t) k

-- the words t and l after the merge of e with each slot, t' and l'; r slots are waiting then
pub record Merged (y : Layout) (a : Analysis) (e t l t' l' : List ℤ) (r : ℕ) : Type 0 where
  pub rows : rows_of y a.used t' ≡ merged rows_only a.settings.merge e (rows_of y a.used t)
  pub waiting : waits r l' ≡ rewait rows_only a.settings.merge e (rows_of y a.used t) (waits a.waiting l)
  pub origins : origins_of y a.used t' ≡ origins_of y a.used t
  pub chains : chains_of y a.used t' ≡ chains_of y a.used t
  pub kept : Kept y t' l' a.used r

-- the words t, l and the counts p are in form and hold the outcome o, and k are the links of the slots
pub record Progressed (y : Layout) (t l : List ℤ) (k : List ℕ) (p : Progress) (o : Out (List ℤ)) : Type 0 where
  pub out : out_of y t l p ≡ o
  pub kept : Kept y t l p.used p.waiting
  pub linked : Linked (chains_of y p.used t) k

-- the same of one edge n followed from slot s, over the n₀ slots of t₀: their origins stay, and where the edge took a slot
-- s and n follow
pub record Noted (y : Layout) (n₀ : ℕ) (t₀ : List ℤ) (s n : ℕ) (t l : List ℤ) (k : List ℕ) (p : Progress) (o : Out (List ℤ)) : Type 0 where
  pub progressed : Progressed y t l k p o
  pub origins : origins_of y p.used t ≡ origins_of y n₀ t₀ ++ brought s (taking n n₀ o (λ en wa. []))

-- ---- between iterations

-- nothing is asked of a row
abbrev pub Any : List ℤ → Type 0
Any e = Unit

-- record and words in form, as a run asks: a list of the capacity's words, edges up to `last`
pub record Resumable (y : Layout) (last : ℕ) (a : Analysis) (t l : List ℤ) : Type 0 where
  pub kept : Kept y t l a.used a.waiting
  pub capacity : length l ≡ a.capacity
  pub allowed : Allowed a.settings
  pub tidy : Tidy Any last (load_of y a t l)

-- record and words in form, and they say x
pub record Loaded (y : Layout) (last : ℕ) (a : Analysis) (t l : List ℤ) (x : Exploration (List ℤ)) : Type 0 where
  pub load : load_of y a t l ≡ x
  pub form : Resumable y last a t l
