-- The numbers of the kinds of entries, as docs/STORED.md has them. Assumes nothing.
use Rattle.std.specs.Prelude.{◌≡◌, ◌<◌, ℕ, Result, MatchResult}
use Rattle.replay.specs.declared.kinds.Kind.{Kind}
use Rattle.replay.specs.declared.kinds.Kind.TheVariants.{Sheet, Insertion, Search, Listing, Table, Distance, Mesh, CellBuild, CellSearch, Striking, Check}
use Rattle.replay.specs.declared.kinds.UnknownKind.{UnknownKind}

abbrev pub kind_number : Kind → ℕ
kind_number Sheet = 1
kind_number Insertion = 2
kind_number Search = 3
kind_number Listing = 4
kind_number Table = 5
kind_number Distance = 6
kind_number Mesh = 7
kind_number CellBuild = 8
kind_number CellSearch = 9
kind_number Striking = 10
kind_number Check = 11

-- the kind of this number, or the number itself where no kind has it
abbrev pub Decodes : ℕ → Result Kind UnknownKind → Type 0
Decodes n r = MatchResult r (λ kind. kind_number kind ≡ n) (λ e. (e.0 ≡ n) × (0 < n → 11 < n))
