-- What a writer's methods ensure. Definitions only.
-- Assumes nothing.
use Rattle.std.specs.Prelude.{ℕ, ◌≡◌, List}
use Rattle.text.specs.Text.{Put}
use Rattle.text.specs.declared.Writer.{Writer}

-- the text was put into the writer's buffer, which is still the same one
pub record Puts (text : List ℕ) (old new : Writer) : Type 0 where
  pub same : new.buffer.ghost_name ≡ old.buffer.ghost_name
  pub put : Put text old.buffer.now old.at new.buffer.now new.at
