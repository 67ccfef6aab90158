-- A part that is not empty has records of some width. Assumes nothing.
use mathlib.Core.Path.{refl, ◌∙◌}
use mathlib.Core.Option.{none}
use Rattle.files.specs.Files.{all_came, marks_answer}
use Rattle.files.proofs.Parts.{some_width}
use Rattle.files.proofs.insert_file.Goals as goal

pub insert_parts-requires : goal.insert_parts-requires
insert_parts-requires g c = some_width _ (λ e. c.if-part_length-eq0.false (c.part_length.ensures.value ∙ e))

pub returns-in-None-clause-read : goal.returns-in-None-clause-read
unfolding marks_answer all_came
returns-in-None-clause-read g c = record { file = none; is = record { answers = c.marks_answer.ensures; used = refl; room = refl } }
