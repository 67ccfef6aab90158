-- How many rows each container has, beside the keys of the rows.
-- Assumes nothing.
use Rattle.std.specs.Prelude.{ℕ, suc, ◌≡◌, List, [], ◌∷◌, take, drop, Option, Some, None}
use Rattle.std.specs.Coded.{×_prop, Unit-prop, Coded-set, coded_ℕ, coded_list}
use denote.Ref.{Bor}
use Rattle.table.specs.Rows.{run}

-- the counts are those of the containers of rows with these keys, in their order: how many rows stand side by side with one key
abbrev pub Runs : List ℕ → List ℕ → Type 0
Runs [] keys = keys ≡ []
Runs (n ∷ counts) [] = ⊥
Runs (n ∷ counts) (k ∷ keys) = (n ≡ suc (run k keys)) × Runs counts (drop (run k keys) keys)

-- the counts from a place on are those of the containers from a row on, where counts are at hand
abbrev pub CountedFrom : List ℕ → ℕ → Option (Bor (List ℕ)) → ℕ → ℕ → Type 0
CountedFrom keys used (Some counts) place first = Runs (drop place counts.now) (drop first (take used keys))
CountedFrom keys used None place first = Unit {0}

-- the counts are those of the containers of the rows in use, where they are at hand
abbrev pub Counted : List ℕ → ℕ → Option (Bor (List ℕ)) → Type 0
Counted keys used counts = CountedFrom keys used counts 0 0

-- there is one proof of that at most
runs_prop : (counts keys : List ℕ) → IsProp (Runs counts keys)
runs_prop [] keys = Coded-set (coded_list coded_ℕ) keys []
runs_prop (n ∷ counts) [] = λ x y. absurd x
runs_prop (n ∷ counts) (k ∷ keys) = ×_prop (Coded-set coded_ℕ n (suc (run k keys))) (runs_prop counts (drop (run k keys) keys))

pub counted_prop : (keys : List ℕ) (used : ℕ) (counts : Option (Bor (List ℕ))) → IsProp (Counted keys used counts)
counted_prop keys used (Some counts) = runs_prop counts.now (take used keys)
counted_prop keys used None = Unit-prop
