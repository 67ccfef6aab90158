-- The key and the centre of a container, of any arguments.
-- Assumes nothing.
use Rattle.std.specs.Prelude.{ℕ, ◌-◌, ◌^◌, Bool, cond, ◌&&◌, ltb, Option, Some, None, Float}
use Rattle.basics.specs.Lists.{all}
use Rattle.geometry.specs.declared.Position.{Position}
use Rattle.geometry.specs.Position.{coords, position_of, dimension}
use Rattle.grid.specs.declared.Divisions.{Divisions}
use Rattle.grid.specs.declared.ContainerKey.{ContainerKey}
use Rattle.grid.specs.Divisions.{counts, division}
use Rattle.grid.specs.Containers.{located, containers, pivots, centre}

-- a grid has 2 or 3 axes and from 1 to 1,024 divisions along each
unfoldable pub is_grid : ℕ → Divisions → Bool
unfolding all
is_grid n d = dimension n && all division (counts n d)

-- the key, or the largest number of 64 bits less 1 where a ratio exceeds its divisions
abbrev pub key_number : Option ContainerKey → ℕ
key_number (Some k) = k.0
key_number None = 2 ^ 64 - 2

-- and the largest one where there is no such grid
unfoldable pub key_probed : ℕ → Divisions → Float → Position → Position → ℕ
unfolding is_grid located
key_probed n d side xmin x = cond (is_grid n d) (key_number (located (counts n d) side (coords n xmin) (coords n x))) (2 ^ 64 - 1)

-- the centre of a container; what was there, where there is no such container
unfoldable pub centre_probed : ℕ → Divisions → Float → Position → ℕ → Position → Position
unfolding is_grid containers centre pivots
centre_probed n d side xmin key old = cond (is_grid n d && ltb key (containers (counts n d))) (position_of (centre side (coords n xmin) (pivots (counts n d) key))) old
