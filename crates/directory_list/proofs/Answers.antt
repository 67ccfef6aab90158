-- What a listing through a directory answers: a refusal of the library or its directory, or the listing without one.
-- Assumes nothing.
use Rattle.std.proofs.Common.{ℕ, ◌≡◌, List, Result}
use Rattle.std.proofs.Math.Option.{none, some}
use Rattle.basics.specs.Filled.{Filled}
use Rattle.basics.specs.Refusals.{fault}
use Rattle.basics.specs.declared.Refusal.{Refusal}
use Rattle.basics.specs.Answers.{refusal_number}
use Rattle.basics.proofs.Answers.{Raised, raised_answer}
use Rattle.grid_search.specs.declared.GridSearch.{GridSearch}
use Rattle.table.specs.Library.{Library}
use Rattle.listing.specs.Listing.{Lists}
use Rattle.directory.specs.Directory.{Directory}
use Rattle.directory.specs.Calls.{directory_tests, filled_unless, filling}

module _ (s : GridSearch) (l : Library) (d : Directory) (list : List ℕ) (f : Filled) where
  pub turned_away : (e : Refusal) {r : Result ℕ Refusal} → some (refusal_number e) ≡ fault (directory_tests s l d) → Raised e r → Lists (filling s l d list f) r list
  unfolding filling filled_unless
  turned_away e {r} is raised = record { answers = rw (← is) (raised_answer (λ n. n) e r raised); list-is = rw (← is) }

  -- the listing without a directory
  pub same : none ≡ fault (directory_tests s l d) → {r : Result ℕ Refusal} {after : List ℕ} → Lists f r after → Lists (filling s l d list f) r after
  unfolding filling filled_unless
  same is o = rw (← is) o
