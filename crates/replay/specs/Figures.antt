-- The numbers of what a distance is to, as docs/STORED.md has them. Assumes nothing.
use Rattle.std.specs.Prelude.{◌≡◌, ◌<◌, ℕ, Result, MatchResult}
use Rattle.replay.specs.declared.distances.Figure.{Figure}
use Rattle.replay.specs.declared.distances.Figure.TheVariants.{Point, Line, Circle, Cylinder}
use Rattle.replay.specs.declared.distances.UnknownFigure.{UnknownFigure}

abbrev pub figure_number : Figure → ℕ
figure_number Point = 0
figure_number Line = 1
figure_number Circle = 2
figure_number Cylinder = 3

-- the figure of this number, or the number itself where no figure has it
abbrev pub Decodes : ℕ → Result Figure UnknownFigure → Type 0
Decodes n r = MatchResult r (λ figure. figure_number figure ≡ n) (λ e. (e.0 ≡ n) × (3 < n))
