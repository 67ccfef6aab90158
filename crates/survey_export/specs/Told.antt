-- What is told of a mark's coordinates. Definitions only.
use Rattle.std.specs.Prelude.{◌≡◌, true, false, Option, Some, None}
use Rattle.records.specs.declared.Record.{Record}
use Rattle.millimetres.specs.Millimetres.{nearest_to}
use Rattle.survey_export.specs.Export.{good_mark}
use Rattle.survey_export.specs.declared.Decimals.{Decimals}

-- the mark is good, and these are its coordinates in millimetres
pub record Told (m : Record) (d : Decimals) : Type 0 where
  pub good : good_mark m ≡ true
  pub x_is : d.x.count ≡ nearest_to m.x
  pub y_is : d.y.count ≡ nearest_to m.y
  pub z_is : d.z.count ≡ nearest_to m.z

abbrev pub Tells : Record → Option Decimals → Type 0
Tells m (Some d) = Told m d
Tells m None = good_mark m ≡ false
