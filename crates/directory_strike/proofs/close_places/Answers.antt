-- `close_places` meets its contract.
-- Assumes nothing.
use Rattle.std.proofs.Common.{ℕ, ◌≡◌, ◌+◌, ◌∙◌, arith, get_or, take, drop, refl, ap}
use Rattle.directory.specs.declared.Entry.{Entry}
use Rattle.directory.specs.Entries.{entry}
use Rattle.directory.specs.Directory.{Directory, entry_at}
use Rattle.directory.specs.Lent.{kept_mut}
use Rattle.directory.specs.Posts.{placed}
use Rattle.directory_strike.specs.Posts.{others}
use Rattle.directory_strike.proofs.Pass.{thinning_start, enough, left_most, thinning-next, thinning_end}
use Rattle.directory_strike.proofs.close_places.Goals as goal

pub loop-i-init : goal.loop-i-init
loop-i-init c = record { thinning = thinning_start _ c.requires; quiet = c.requires.quiet; same_places = (refl, refl, refl) }

pub rows_left-left-requires-clause-within : goal.rows_left-left-requires-clause-within
rows_left-left-requires-clause-within c =
    let here = c.entry-entry.ensures ∙ ap (λ (d : Directory). entry_at d c.loop-i.i) c.as_directory.ensures in
    omega (arith, ap (λ (e : Entry). e.count) here, enough c.loop-i.invariant.thinning c.loop-i-test.true)

pub overflow_add-row : goal.overflow_add-row
overflow_add-row c =
    let here = c.entry-entry.ensures ∙ ap (λ (d : Directory). entry_at d c.loop-i.i) c.as_directory.ensures in
    record { fits = omega (arith, ap (λ (e : Entry). e.count) here, enough c.loop-i.invariant.thinning c.loop-i-test.true) }

pub overflow_add-first : goal.overflow_add-first
overflow_add-first c =
    let g = c.loop-i.invariant.thinning in
    let here = c.entry-entry.ensures ∙ ap (λ (d : Directory). entry_at d c.loop-i.i) c.as_directory.ensures in
    let left = c.rows_left-left.ensures ∙ ap (λ (e : Entry). others c.args.id (take e.count (drop c.loop-i.row c.args.ids.now))) here in
    record { fits = omega (arith, g.fewer, enough g c.loop-i-test.true, left_most g c.loop-i-test.true left) }

pub next_from-next-requires-clause-within : goal.next_from-next-requires-clause-within
next_from-next-requires-clause-within c =
    let here = c.entry-entry.ensures ∙ ap (λ (d : Directory). entry_at d c.loop-i.i) c.as_directory.ensures in
    omega (arith, ap (λ (e : Entry). e.count) here, enough c.loop-i.invariant.thinning c.loop-i-test.true)

pub loop-i-preserved : goal.loop-i-preserved
loop-i-preserved c =
    let now = kept_mut c.loop-i.directory in
    let here = c.entry-entry.ensures ∙ ap (λ (d : Directory). entry_at d c.loop-i.i) c.as_directory.ensures in
    let left = c.rows_left-left.ensures ∙ ap (λ (e : Entry). others c.args.id (take e.count (drop c.loop-i.row c.args.ids.now))) here in
    let moved = c.write_entry.ensures.writes ∙ ap (λ (e : Entry). placed c.loop-i.at (entry e.key c.loop-i.first c.rows_left-left.result) now) here in
    let count : c.entry-entry.result.count ≡ get_or now.counts c.loop-i.i 0 = ap (λ (e : Entry). e.count) here in
    record {
      thinning = rw count (thinning-next c.loop-i.invariant.thinning c.loop-i-test.true left c.requires.room moved (ap (λ (n : ℕ). c.loop-i.at + n) c.from-at.ensures));
      quiet = c.next_from-next.ensures;
      same_places = (cc, cc, cc);
    }

pub returns-clause-closes : goal.returns-clause-closes
returns-clause-closes c = thinning_end c.loop-i.invariant.thinning c.loop-i-test.false c.requires.room
