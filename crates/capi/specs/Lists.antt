-- What a listing gives to C: the number, and the list and the count at exit.
-- Assumes nothing.
use Rattle.std.specs.Prelude.{ℕ, ◌≡◌, cond, List, eqb, Float}
use Rattle.floats.specs.Rounded.{zero_f}
use Rattle.listing.specs.declared.Filter.{Filter}
use Rattle.listing.specs.declared.Filter.TheVariants.{Everything, Range}
use Rattle.basics.specs.Filled.{Filled}
use Rattle.capi.specs.Answers.{number, written}

-- The filter of a number: 0 for everything, 1 for a range. Any other is a range on an axis that no dimension has, so that 16 refuses it.
unfoldable pub filter_of : ℕ → ℕ → Float → Float → Filter
filter_of filter axis low high = cond (eqb filter 0) Everything (cond (eqb filter 1) (Range axis low high) (Range 3 zero_f zero_f))

pub record ToldList (l : Filled) (r : ℕ) (list : List ℕ) (count count' : ℕ) : Type 0 where
  pub returned : r ≡ number l.answer
  pub list-is : list ≡ l.list
  pub count-is : count' ≡ written l.answer count
