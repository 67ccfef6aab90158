-- What the private functions that measure ensure. Public contracts cite only `Sized`, what the code holds of `measure`.
-- Assumes nothing.
use Rattle.std.specs.Prelude.{ℕ, ◌+◌, ◌≡◌, Bool, true, false, cond, not, List, map, length, Float, Option, Some, None, unwrap_or}
use Rattle.basics.specs.Lists.{keep}
use Rattle.floats.specs.Rounded.{zero_f}
use Rattle.floats.specs.Tests.{max_of}
use Rattle.geometry.specs.Position.{coords}
use Rattle.mesh.specs.declared.BoundingBox.{BoundingBox}
use Rattle.mesh.specs.Mesh.{Mesh, Box, boxed, joined_box, least, greatest, longest_side}
use Rattle.cell_sizes.specs.declared.Settings.{Settings}
use Rattle.cell_sizes.specs.declared.Extent.{Extent}
use Rattle.cell_sizes.specs.declared.Census.{Census}
use Rattle.cell_sizes.specs.declared.Apart.{Apart}
use Rattle.cell_sizes.specs.declared.Sizes.{Sizes}
use Rattle.cell_sizes.specs.Large.{boxes, longest_of, is_large, is_filed, numbered, large_of, measure}

-- the extent with one box more
pub record Widened (n : ℕ) (all : Extent) (b : BoundingBox) (r : Extent) : Type 0 where
  pub limits : (k : ℕ) → boxed k r.limits ≡ joined_box (boxed k all.limits) (boxed k b)
  pub largest : r.largest ≡ max_of all.largest (longest_side (boxed n b))

-- the extent of all cells
pub record Around (n : ℕ) (m : Mesh) (r : Extent) : Type 0 where
  pub low : coords n r.limits.low ≡ least (map (λ (b : Box). b.low) (boxes n m))
  pub high : coords n r.limits.high ≡ greatest (map (λ (b : Box). b.high) (boxes n m))
  pub largest : r.largest ≡ longest_of (boxes n m)

-- the larger of the largest length so far, if there is one, and a length
abbrev pub longer : Option Float → Float → Float
longer None l = l
longer (Some v) l = max_of v l

-- the census with one box more
unfoldable pub counted : Float → Census → Box → Census
counted limit s b =
    cond (is_large limit b) (record { large = s.large + 1; longest = s.longest })
    (record { large = s.large; longest = Some (longer s.longest (longest_side b)) })

-- the census of all cells: +0 where every cell is large
pub record Counted (n : ℕ) (m : Mesh) (limit : Float) (r : Census) : Type 0 where
  pub large : r.large ≡ length (numbered (is_large limit) 0 (boxes n m))
  pub longest : unwrap_or r.longest zero_f ≡ longest_of (keep (λ (b : Box). not (is_large limit b)) (boxes n m))

-- ---- the large cells that the code keeps apart

abbrev pub kept : Option Apart → Bool
kept None = false
kept (Some a) = true

-- the length from which a cell is one; where none are kept apart, it decides nothing
abbrev pub limit_in : Option Apart → Float
limit_in None = zero_f
limit_in (Some a) = a.limit

abbrev pub count_in : Option Apart → ℕ
count_in None = 0
count_in (Some a) = a.count

-- which cells go into containers, and which are listed
abbrev pub files : Sizes → Box → Bool
files s = is_filed (kept s.apart) (limit_in s.apart)

abbrev pub lists : Sizes → List Box → List ℕ
lists s = large_of (kept s.apart) (limit_in s.apart)

-- what the code holds of `measure`, and once more the limit of the cells that it keeps apart
pub record Sized (n : ℕ) (m : Mesh) (t : Settings) (r : Sizes) : Type 0 where
  pub low : coords n r.limits.low ≡ least (map (λ (b : Box). b.low) (boxes n m))
  pub high : coords n r.limits.high ≡ greatest (map (λ (b : Box). b.high) (boxes n m))
  pub told : r.limit ≡ (measure n m t).limit
  pub limit : kept r.apart ≡ true → limit_in r.apart ≡ (measure n m t).limit
  pub apart : kept r.apart ≡ (measure n m t).apart
  pub large : count_in r.apart ≡ length (measure n m t).large
  pub longest : r.longest ≡ (measure n m t).longest
