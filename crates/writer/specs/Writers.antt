-- What a call writes into a writer's bytes.
use Rattle.std.specs.Prelude.{◌≡◌, List, ℕ}
use Rattle.writer.specs.Writing.{Put}
use Rattle.writer.specs.declared.Writer.{Writer}

-- the same bytes lent, and the text put there from a's place on
pub record Writes (text : List ℕ) (a b : Writer) : Type 0 where
  pub same : b.space.ghost_name ≡ a.space.ghost_name
  pub put : Put a.at text a.space.now b.space.now b.at
