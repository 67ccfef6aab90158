-- What the crate's inner functions ask and ensure. Definitions only.
use Rattle.std.specs.Prelude.{ℕ, suc, ◌+◌, ◌≤◌, ◌<◌, ◌≡◌, false, cond, List, [], ◌∷◌, eqb, length, get_or, take, drop}
use Rattle.directory.specs.declared.Entry.{Entry}
use Rattle.directory.specs.Entries.{entry}
use Rattle.directory.specs.Directory.{Directory, entries}
use Rattle.directory.specs.Posts.{PlaceRoom}

-- how many of the ids are others
unfoldable pub others : ℕ → List ℕ → ℕ
others id [] = 0
others id (j ∷ js) = let rest = others id js in cond (eqb j id) rest (suc rest)

-- none of the ids from `from` up to `end` is this one
pub record Quiet (id from end : ℕ) (ids : List ℕ) : Type 0 where
  pub other : (j : ℕ) → from ≤ j → j < end → eqb (get_or ids j 0) id ≡ false

-- The entries of rows with these ids, once the rows of one id are gone and the first that is left is row n: an entry counts the rows that are left to it, and one that
-- has none goes.
unfoldable pub thinned : ℕ → ℕ → List Entry → List ℕ → List Entry
unfolding others
thinned id n [] ids = []
thinned id n (e ∷ es) ids =
    let left = others id (take e.count ids) in
    let rest = thinned id (n + left) es (drop e.count ids) in
    cond (eqb left 0) rest (entry e.key n left ∷ rest)

-- how many rows the entries count
unfoldable pub total : List Entry → ℕ
total [] = 0
total (e ∷ es) = e.count + total es

-- the lists hold the places in use, and these count no more rows than there are ids; none of the first `from` rows is of the id
pub record Thins (id from : ℕ) (ids : List ℕ) (d : Directory) : Type 0 where
  pub room : PlaceRoom d d.used
  pub rows : total (entries d) ≤ length ids
  pub quiet : Quiet id 0 from ids
