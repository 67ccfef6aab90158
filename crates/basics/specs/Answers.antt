-- The refusals of the code with document 01's numbers, and what a result of the code answers.
-- Assumes nothing.
use Rattle.std.specs.Prelude.{ℕ, Result, Ok, Err}
use Rattle.std.proofs.Math.Option.{Option, none, some}
use Rattle.basics.specs.Refusals.{Answer, refused, success}
use Rattle.basics.specs.declared.Refusal.{Refusal}
use Rattle.basics.specs.declared.Refusal.TheVariants as refusal

abbrev pub refusal_number : Refusal → ℕ
refusal_number refusal.Dimension = 1
refusal_number refusal.Length = 2
refusal_number refusal.Limit = 3
refusal_number refusal.NoDivisions = 4
refusal_number refusal.OneDivision = 5
refusal_number refusal.ManyDivisions = 6
refusal_number refusal.Corners = 7
refusal_number refusal.Tolerance = 8
refusal_number refusal.Border = 9
refusal_number refusal.Side = 10
refusal_number refusal.Outside = 11
refusal_number refusal.Full = 12
refusal_number refusal.Damaged = 13
refusal_number refusal.Short = 14
refusal_number refusal.Close = 15
refusal_number refusal.Unfit = 16
refusal_number refusal.Ratio = 17
refusal_number refusal.NoCells = 18
refusal_number refusal.BrokenMesh = 19
refusal_number refusal.Cutoff = 20
refusal_number refusal.Percentage = 21
refusal_number refusal.NoExtent = 22
refusal_number refusal.AllLarge = 23
refusal_number refusal.TooLong = 24
refusal_number refusal.Coordinates = 25
refusal_number refusal.NoRow = 26
refusal_number refusal.Malformed = 27
refusal_number refusal.NoDecimal = 28
refusal_number refusal.Mismatch = 29

-- what a call answers whose value means f of it: that, or the number
abbrev pub answered : {A B : Type 0} → (A → B) → Result A Refusal → Answer B
answered f (Ok a) = success (f a)
answered f (Err e) = refused (refusal_number e)

-- what a test answers that a call may fail: the number, where it does
abbrev pub fault_in : {A : Type 0} → Result A Refusal → Option ℕ
fault_in (Ok a) = none
fault_in (Err e) = some (refusal_number e)
