-- `store_all` meets its contract: one more store, which makes a row or none.
-- Assumes nothing.
use Rattle.std.proofs.Common.{◌+◌, take, arith, refl, sym}
use Rattle.table.specs.Rows.{put_in}
use Rattle.table.specs.Lent.{lent_mut}
use Rattle.directory.specs.Directory.{Directory}
use Rattle.directory.specs.Lent.{kept_mut, SamePlaces}
use Rattle.directory_insert.specs.Posts.{BecomesBoth}
use Rattle.directory_insert.proofs.Marks.{both-start, both_takes, both_enters, both-more, both-same, both_end}
use Rattle.directory_insert.proofs.store_all.Goals.{then-library-rows, else-library-rows}
use Rattle.directory_insert.proofs.store_all.Goals as goal

pub loop-key-init : goal.loop-key-init
loop-key-init c = record {
  stores = both-start c.args.mark.id.0 c.args.mark.at c.args.into.now _ _ c.requires;
  same_lists = (refl, refl, refl, refl, refl);
  same_places = (refl, refl, refl);
}

pub put-requires : goal.put-requires
put-requires c = both_takes c.args.mark.id.0 c.args.mark.at c.args.into.now _ _ c.requires c.loop-key.key-index c.loop-key.invariant.stores c.loop-key-test.true

pub enter_row-requires : goal.enter_row-requires
enter_row-requires c =
    both_enters c.args.mark.id.0 c.args.mark.at c.args.into.now _ _ c.requires c.loop-key.key-index c.loop-key.invariant.stores c.loop-key-test.true c.put.ensures.puts
    (λ e. c.if-library-rows.true (sym e)) (omega arith)

pub loop-key-preserved : goal.loop-key-preserved
loop-key-preserved c =
    let i = c.loop-key.key-index in
    let After = λ (d : Directory). BecomesBoth (put_in c.args.mark.id.0 c.args.mark.at (take (i + 1) c.args.into.now))
    (lent_mut c.args.library.now) (kept_mut c.args.directory.now) (lent_mut c.put.new.self) d in
    let stores : After (kept_mut c.if-library-rows.directory) = elim c.if-library-rows.branch [
      | then-library-rows w ↦
          rw w.directory-is
          (both-more c.args.mark.id.0 c.args.mark.at c.args.into.now _ _ c.requires i c.loop-key.invariant.stores c.loop-key-test.true
          c.put.ensures.puts (λ e. w.if-library-rows.true (sym e)) w.enter_row.ensures.enters)
      | else-library-rows w ↦
          rw w.directory-is
          (both-same c.args.mark.id.0 c.args.mark.at c.args.into.now _ _ c.requires i c.loop-key.invariant.stores c.loop-key-test.true c.put.ensures.puts (sym w.if-library-rows.false))
    ] in
    let places : SamePlaces c.args.directory.now c.if-library-rows.directory = elim c.if-library-rows.branch [
      | then-library-rows w ↦ rw w.directory-is (cc, cc, cc)
      | else-library-rows w ↦ rw w.directory-is c.loop-key.invariant.same_places
    ] in
    record { stores = stores; same_lists = (cc, cc, cc, cc, cc); same_places = places }

pub returns-clause-stores : goal.returns-clause-stores
returns-clause-stores c = both_end c.args.mark.id.0 c.args.mark.at c.args.into.now _ _ c.requires c.loop-key.key-index c.loop-key.invariant.stores c.loop-key-test.false
