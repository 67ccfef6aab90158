-- The keys of the containers of one cell, as the code holds them.
-- Assumes nothing.
use Rattle.std.specs.Prelude.{ℕ, List, take, Option, Some, None}
use Rattle.cell_rows.specs.declared.keys.CellKeys.{CellKeys}

abbrev pub held : CellKeys → List ℕ
held k = take k.count k.keys

-- the keys, where no corner is too far
abbrev pub keys_in : Option CellKeys → Option (List ℕ)
keys_in None = None
keys_in (Some k) = Some (held k)
