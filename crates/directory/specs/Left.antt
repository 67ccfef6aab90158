-- What the iterator over the containers of rows has left. Definitions only.
-- Assumes nothing.
use Rattle.std.specs.Prelude.{List, drop}
use Rattle.directory.specs.declared.Entry.{Entry}
use Rattle.directory.specs.Entries.{entries_from}
use Rattle.directory.specs.declared.containers.Containers.{Containers}

-- the entries of the rows from the next on
abbrev pub containers_left : Containers → List Entry
containers_left c = entries_from c.next (drop c.next c.keys.now)
