-- `place_of` meets its contract: past the keys there is no place, and else the key there settles it.
-- Assumes nothing.
use Rattle.std.proofs.Common.{◌≡◌, false, ◌∙◌, eq-eqb, ne_eqb}
use Rattle.directory_insert.specs.Posts.{found}
use Rattle.directory_insert.proofs.Count.{key-there, key-past}
use Rattle.directory_insert.proofs.place_of.Goals.{else-at-keys-via-then-at-keys+else-keys-at, else-at-keys-via-else-at-keys}
use Rattle.directory_insert.proofs.place_of.Goals as goal

pub returns-then-keys-at : goal.returns-then-keys-at
returns-then-keys-at c =
    (c.first_of-at.ensures, key-there c.args.keys.now c.args.key _ c.first_of-at.ensures c.if-at-keys.true ∙ eq-eqb _ _ c.if-keys-at.true)

pub returns-else-at-keys : goal.returns-else-at-keys
returns-else-at-keys c =
    let none : found c.args.key c.args.keys.now ≡ false = elim c.else-at-keys.branch [
      | else-at-keys-via-then-at-keys+else-keys-at w ↦ key-there c.args.keys.now c.args.key _ c.first_of-at.ensures w.if-at-keys.true ∙ ne_eqb _ _ w.if-keys-at.false
      | else-at-keys-via-else-at-keys w ↦ key-past c.args.keys.now c.args.key _ c.first_of-at.ensures w.if-at-keys.false
    ] in
    (c.first_of-at.ensures, none)
