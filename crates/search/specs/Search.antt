-- Module 7: the near rows, and apart from them the choice among them.
-- Assumes nothing.
use Rattle.std.specs.Prelude.{ℕ, Bool, ◌&&◌, ◌||◌, cond, List, [], ◌∷◌, ◌++◌, eqb, ltb, Float, Result}
use Rattle.std.specs.Prelude as declared
use Rattle.std.proofs.Math.Option.{Option, none, some, Option-elim}
use Rattle.std.specs.Float.Ieee.{lt, le, eq}
use Rattle.basics.specs.Lists.{keep}
use Rattle.basics.specs.Answers.{answered}
use Rattle.basics.specs.Refusals.{Test, fault, Answer, answer}
use Rattle.basics.specs.declared.Refusal.{Refusal}
use Rattle.geometry.specs.Position.{coords}
use Rattle.geometry.specs.Distances.{point_point}
use Rattle.grid_search.specs.declared.GridSearch.{GridSearch}
use Rattle.table.specs.declared.ItemId.{ItemId}
use Rattle.table.specs.declared.Row.{Row}
use Rattle.table.specs.Rows.{key_in, id_in}
use Rattle.table.specs.Library.{Library, table}
use Rattle.rows.specs.Damage.{library_tests}
use Rattle.rows.specs.Insert.{container_of, position_tests}

-- a row is near a position: it is in the position's container, and its computed distance is at most tol_dist
unfoldable pub is_near : GridSearch → List Float → Row → Bool
unfolding container_of point_point le
is_near s x r = eqb (key_in r) (container_of s x) && le (point_point (coords s.ndim r.at) x) s.tol_dist

unfoldable pub near_rows : GridSearch → List Float → List Row → List Row
unfolding keep is_near
near_rows s x rows = keep (is_near s x) rows

-- the computed distance of a row's mark from a position, rounded as the Rust rounds it
unfoldable pub away : GridSearch → List Float → Row → Float
unfolding point_point
away s x r = point_point (coords s.ndim r.at) x

-- r is chosen before t: its computed distance is less, or the two are equal and its id is lower
unfoldable pub chosen_before : GridSearch → List Float → Row → Row → Bool
unfolding away lt eq
chosen_before s x r t = lt (away s x r) (away s x t) || (eq (away s x r) (away s x t) && ltb (id_in r) (id_in t))

-- of a row and another, if there is another, the one that is chosen
unfoldable pub nearer_of : GridSearch → List Float → Row → Option Row → Option Row
unfolding chosen_before
nearer_of s x r none = some r
nearer_of s x r (some t) = some (cond (chosen_before s x r t) r t)

-- the row that is chosen before all others
unfoldable pub nearest : GridSearch → List Float → List Row → Option Row
unfolding nearer_of
nearest s x [] = none
nearest s x (r ∷ rows) = nearer_of s x r (nearest s x rows)

-- the choice among the rows near a position: the id with the least computed distance, and the lowest id among equal distances
unfoldable pub chosen : GridSearch → List Float → List Row → Option ℕ
unfolding nearest Option-elim
chosen s x rows = Option-elim (nearest s x rows) none (λ (r : Row). some (id_in r))

-- 24, 13, 2, 3, 11, 17
unfoldable pub search_tests : GridSearch → Library → List Float → List Test
unfolding library_tests position_tests
search_tests s l x = library_tests s l ++ position_tests s x (x ∷ [])

-- the id found, or none, or the refusal
unfoldable pub search_answer : GridSearch → Library → List Float → Answer (Option ℕ)
unfolding fault search_tests chosen near_rows table answer
search_answer s l x = answer (fault (search_tests s l x)) (chosen s x (near_rows s x (table l)))

-- the id that the code finds, if there is one
abbrev pub id_of : declared.Option ItemId → Option ℕ
id_of declared.None = none
id_of (declared.Some i) = some i.0

-- what a search answers
abbrev pub found : Result (declared.Option ItemId) Refusal → Answer (Option ℕ)
found = answered id_of
