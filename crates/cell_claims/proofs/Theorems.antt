-- The claims of specs/Claims.antt.
-- Assumes nothing.
use Prim.Native.Nat.{ℕ, ◌<◌}
use native.Mathlib.Omega.{arith}
use mathlib.Core.Path.{◌≡◌, refl, sym, ap, ◌∙◌, subst}
use mathlib.Core.Bool.{Bool, true, false, not, ◌&&◌, ◌||◌, and-true}
use mathlib.Core.List.{List, [], ◌∷◌, map}
use mathlib.Core.Option.{none}
use lib.Dec.{ltb, eqb}
use lib.ListN.{length, length-map}
use lib.Ieee.{Float, binary64, fits}
use borrow.Author.Tests.{le-leb, eq-eqb, lt-ltb}
use Rattle.basics.proofs.Bools.{by_test, both, and_both}
use Rattle.basics.specs.Lists.{all, keep, over}
use Rattle.basics.specs.Refusals.{fault}
use Rattle.geometry.specs.Position.{coordinate}
use Rattle.grid.specs.Divisions.{counts, division}
use Rattle.grid.specs.Containers.{containers}
use Rattle.mesh.specs.Mesh.{Mesh, Box, Whole, cell_count, mesh_too_long, least, greatest}
use Rattle.table.specs.Rows.{Slot}
use Rattle.cell_sizes.specs.declared.Settings.{Settings}
use Rattle.cell_sizes.specs.Large.{Measured, measure, boxes, is_large, is_filed}
use Rattle.cell_sizes.proofs.Boxes.{length-boxes}
use Rattle.cell_rows.specs.Filing.{cell_key, box_corners, box_exceeds}
use Rattle.table.proofs.Libraries.{length_over}
use Rattle.cell_rows.proofs.Over.{take-over}
use Rattle.grid_cells.specs.declared.GridCells.{GridCells}
use Rattle.grid_cells.specs.Build.{IndexLists, lists_too_long, FiledIndex, file_index, make, index, containers_of, low_corner, high_corner, cell_side, size_tests, settle_build}
use Rattle.sorting.specs.Ascent.{ascending}
use Rattle.cell_index.specs.Index.{good_index, enough_entries, good_rows, good_numbers, sound_index, index_tests, cell_rows, large_cells}
use Rattle.cell_index.proofs.Linked.{good_slot}
use Rattle.cell_search.specs.Search.{asked_tests, cell_search_tests}
use Rattle.cell_claims.specs.Claims.{in_binary64, BuiltIsSound, BuiltServes}
use Rattle.cell_claims.proofs.Accepted.{Accepted, of_built, Served}
use Rattle.cell_claims.proofs.Boxes.{Each, Good, Point, Size, boxes-good, longest-size, least_point, greatest_point, each_map, each_keep}
use Rattle.cell_claims.proofs.Frames.{Limits, limits, Sided, sided, Parts, framed, index-good}
use Rattle.cell_claims.proofs.Filed.{RowsGood, any_none, none_filed, cells_filed, corner-keys, numbered-ascending, numbered_below, read_back}

-- ---- what they give
both-all : (p q : Float → Bool) (xs : List Float) → all p xs ≡ true → all q xs ≡ true → all (λ (x : Float). p x && q x) xs ≡ true
unfolding all
both-all p q [] h k = refl
both-all p q (x ∷ xs) h k = let a = and_both (p x) (all p xs) h in let b = and_both (q x) (all q xs) k in both (both a.0 b.0) (both-all p q xs a.1 b.1)

corners : (n : ℕ) (bs : List Box) → Each (Good n) bs → 0 < length bs → Point n (least (map (λ (b : Box). b.low) bs)) × Point n (greatest (map (λ (b : Box). b.high) bs))
corners n [] h k = absurd (omega arith)
corners n (b ∷ bs) h k = (
  least_point n b.low (map (λ (b : Box). b.low) bs) h.0.low (each_map (Good n) (Point n) (λ (b : Box). b.low) bs (λ b g. g.low) h.1),
  greatest_point n b.high (map (λ (b : Box). b.high) bs) h.0.high (each_map (Good n) (Point n) (λ (b : Box). b.high) bs (λ b g. g.high) h.1),
)

each_both : (P Q R : Box → Type 0) (bs : List Box) → ((b : Box) → P b → Q b → R b) → Each P bs → Each Q bs → Each R bs
each_both P Q R [] f h k = tt
each_both P Q R (b ∷ bs) f h k = (f b h.0 k.0, each_both P Q R bs f h.1 k.1)

each_with : (P Q : List Float → Type 0) (xs : List (List Float)) → ((x : List Float) → P x → Q x) → Each P xs → Each Q xs
each_with P Q [] f h = tt
each_with P Q (x ∷ xs) f h = (f x h.0, each_with P Q xs f h.1)

module _ (n : ℕ) (m : Mesh) (t : Settings) (l : IndexLists) (a : Accepted n m t l) (f : in_binary64 m ≡ true) where
  abbrev w : Measured
  w = measure n m t

  abbrev k : FiledIndex
  k = make n w t

  abbrev low : List Float
  low = least (map (λ (b : Box). b.low) w.all-boxes)

  abbrev high : List Float
  high = greatest (map (λ (b : Box). b.high) w.all-boxes)

  whole : Whole n m
  whole = record { axes = a.axes; whole = a.whole }

  good-boxes : Each (Good n) w.all-boxes
  unfolding measure in_binary64
  good-boxes = boxes-good n m whole (both-all coordinate (fits binary64) m.points a.coordinates f)

  count : length w.all-boxes ≡ cell_count n m
  unfolding measure
  count = length-boxes n m

  ends : Point n low × Point n high
  ends = corners n w.all-boxes good-boxes (go a.some-cells)
    where
      go : (cell_count n m ≡ 0 → ⊥) → 0 < length w.all-boxes
      go h = omega (arith, count)

  longest : Size w.longest
  unfolding measure
  longest =
      by_test w.apart
      (λ e. rw e (longest-size n (keep (λ (b : Box). not (is_large w.limit b)) (boxes n m)) (each_keep (Good n) (λ (b : Box). not (is_large w.limit b)) (boxes n m) good-boxes)))
      (λ e. rw e (longest-size n (boxes n m) good-boxes))

  limited : Limits t
  limited = limits t a.settings a.tolerated a.bordered

  side : Sided (cell_side w t)
  unfolding cell_side
  side = sided t w.longest limited longest

  parts : Parts k.grid n t.border_tol (cell_side w t) low high
  unfolding make file_index index low_corner high_corner
  parts = record { ndim = refl; ndiv = refl; side = refl; xmin = refl; xmax = refl }

  good-index : good_index k.grid ≡ true
  unfolding make file_index index low_corner high_corner
  good-index =
      let r = framed k.grid n t.border_tol (cell_side w t) low high a.axes parts ends.0 ends.1 in
      index-good k.grid n t.border_tol (cell_side w t) low high a.axes parts ends.0 ends.1 side limited.border (subst (λ (ns : List ℕ). all division ns ≡ true) r.divisions a.divisions)

  -- a row of the index by itself
  abbrev good_slot_lem : Slot → Bool
  good_slot_lem = good_slot (containers (counts k.grid.ndim k.grid.ndiv)) (cell_count n m)

  filed : RowsGood good_slot_lem k.rows
  unfolding make file_index index low_corner high_corner
  filed =
      let g = containers_of k.grid in
      let r = framed k.grid n t.border_tol (cell_side w t) low high a.axes parts ends.0 ends.1 in
      let p = is_filed w.apart w.limit in
      cells_filed (good_slot_lem) g p 0 w.all-boxes []
      (λ i h j.
      each_both (Good n) (λ (b : Box). (p b && box_exceeds g b) ≡ false)
      (λ (b : Box). p b ≡ true → Each (λ (x : List Float). good_slot_lem (record { key = cell_key g x; id = i }) ≡ true) (box_corners b))
      w.all-boxes
      (λ b good none_over is.
      each_with (λ (x : List Float). ltb (cell_key g x) (containers (counts n k.grid.ndiv)) ≡ true) (λ (x : List Float). good_slot_lem (record { key = cell_key g x; id = i }) ≡ true) (box_corners b)
      (λ x e. both e (lt-ltb i (cell_count n m) (omega (arith, j, count))))
      (corner-keys g b good (ap length r.divisions ∙ r.divisions-length) (ap length r.xmin ∙ r.xmin_length) a.divisions (rw is at none_over)))
      good-boxes (any_none (λ (b : Box). p b && box_exceeds g b) w.all-boxes a.inside))
      (none_filed (good_slot_lem))

  large-below : all (λ (c : ℕ). ltb c (cell_count n m)) w.large ≡ true
  unfolding measure all
  large-below = by_test w.apart (λ e. rw e (numbered_below (cell_count n m) (is_large w.limit) 0 (boxes n m) (omega (arith, count)))) (λ e. rw e)

  large-ascending : ascending w.large ≡ true
  unfolding measure ascending
  large-ascending = by_test w.apart (λ e. rw e (numbered-ascending (is_large w.limit) 0 (boxes n m))) (λ e. rw e)

  -- the lists keep their lengths
  abbrev keys : List ℕ
  keys = over (map (λ (p : Slot). p.key) k.rows) l.keys

  abbrev cells : List ℕ
  cells = over (map (λ (p : Slot). p.id) k.rows) l.cells

  abbrev large : List ℕ
  large = over k.large l.large

  keys_length : length keys ≡ length l.keys
  keys_length = length_over (map (λ (p : Slot). p.key) k.rows) l.keys (rw length-map a.rows_fit)

  cells-length : length cells ≡ length l.cells
  cells-length = length_over (map (λ (p : Slot). p.id) k.rows) l.cells (rw (length-map, a.lengths) a.rows_fit)

  large-length : length large ≡ length l.large
  large-length = length_over k.large l.large a.large-fit

  sound : sound_index k.grid (cell_count k.grid.ndim m) (settle_build none k l).lists ≡ true
  unfolding sound_index enough_entries good_rows good_numbers settle_build make file_index index measure cell_rows large_cells
  sound =
      let same : eqb (length cells) (length keys) ≡ true = eq-eqb (length cells) (length keys) (cells-length ∙ a.lengths ∙ sym keys_length) in
      let rows_fit = le-leb (length k.rows) (length keys) (rw keys_length a.rows_fit) in
      let large-fit = le-leb (length w.large) (length large) (rw large-length a.large-fit) in
      both good-index
      (both (both same (both rows_fit large-fit))
      (rw (read_back k.rows l.keys l.cells, take-over w.large l.large (length w.large) refl)
      (both (both filed.good filed.order) (both large-below large-ascending))))

  serves : (zeta x : List Float) → Served k.grid m (settle_build none k l).lists zeta x
  unfolding cell_search_tests index_tests size_tests asked_tests fault all lists_too_long make file_index index settle_build
  serves zeta x =
      let s : (mesh_too_long k.grid.ndim m || lists_too_long (settle_build none k l).lists) ≡ false = rw (keys_length, cells-length, large-length) a.short in
      rw (a.axes, s, a.whole, sound, a.coordinates, and-true (all coordinate x))

-- ---- the claims

pub built_is_sound : BuiltIsSound
built_is_sound n m t l g f e = of_built n m t l (λ (g : GridCells) (k : IndexLists). sound_index g (cell_count g.ndim m) k ≡ true) (λ a. sound n m t l a f) g e

pub built_serves : BuiltServes
built_serves n m t l g f e zeta x = of_built n m t l (λ (g : GridCells) (k : IndexLists). Served g m k zeta x) (λ a. serves n m t l a f zeta x) g e
