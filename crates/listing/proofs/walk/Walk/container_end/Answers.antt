use Rattle.std.proofs.Common.{rules}
use Rattle.listing.proofs.Containers.{end_upto, end-run, count-inside, count_end}
use Rattle.listing.proofs.walk.Walk.container_end.Goals as goal

pub bounds-counts-place : goal.bounds-counts-place
bounds-counts-place c =
    let l = c.args.self.library in
    count-inside l.keys.now l.used c.args.first c.args.self.known.checked.room.0 c.requires.in_use c.in-Some.counts.now c.args.place (rw c.in-Some.is at c.requires.counted)

pub overflow_add-result : goal.overflow_add-result
overflow_add-result c =
    let l = c.args.self.library in
    let upto = end_upto l.keys.now l.used c.args.first c.args.self.known.checked.room.0 c.requires.in_use in
    let ends = count_end l.keys.now l.used c.args.first c.args.self.known.checked.room.0 c.requires.in_use c.in-Some.counts.now c.args.place (rw c.in-Some.is at c.requires.counted) in
    search (rules, upto, ends)

pub returns-in-Some : goal.returns-in-Some
returns-in-Some c =
    let l = c.args.self.library in
    count_end l.keys.now l.used c.args.first c.args.self.known.checked.room.0 c.requires.in_use c.in-Some.counts.now c.args.place (rw c.in-Some.is at c.requires.counted)

pub overflow_add-result-in-None : goal.overflow_add-result-in-None
overflow_add-result-in-None c =
    let l = c.args.self.library in
    let upto = end_upto l.keys.now l.used c.args.first c.args.self.known.checked.room.0 c.requires.in_use in
    let ends = end-run l.keys.now l.used c.args.first c.args.self.known.checked.room.0 c.requires.in_use c.run_of.ensures in
    search (rules, upto, ends)

pub returns-in-None : goal.returns-in-None
returns-in-None c =
    let l = c.args.self.library in
    end-run l.keys.now l.used c.args.first c.args.self.known.checked.room.0 c.requires.in_use c.run_of.ensures
