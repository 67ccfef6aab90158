-- `store_mark` meets its contract: a law for each way out.
-- Assumes nothing.
use Rattle.std.proofs.Common.{◌<◌, ◌≤◌, take, length, sym, ap, subst, arith}
use lib.Seq.{length-take-le}
use Rattle.std.specs.List.Sorted.{IsNonDecreasing}
use Rattle.directory.specs.Directory.{Directory}
use Rattle.directory_insert.specs.Posts.{PlacesAfter}
use Rattle.directory_insert.proofs.Answers.{both_rises, both-room, places-full, takes_all, places-held, places_stored}
use Rattle.directory_insert.proofs.store_mark.Goals as goal

pub slice_bounds-places_after-end : goal.slice_bounds-places_after-end
slice_bounds-places_after-end c =
    let used = c.args.directory.now.used in
    let room = both-room c.args.mark.id.0 c.args.mark.at c.args.into.now _ _ c.requires in
    sym (length-take-le used _ (omega (arith, room.0, ap (λ (d : Directory). length d.keys) c.as_directory-before.ensures)))

pub places_after-requires : goal.places_after-requires
places_after-requires c =
    let P = λ (d : Directory). IsNonDecreasing (take c.args.directory.now.used d.keys) in
    subst P (sym c.as_directory-before.ensures) (both_rises c.args.mark.id.0 c.args.mark.at c.args.into.now _ _ c.requires)

pub returns-then-places_after-before-clause-stores : goal.returns-then-places_after-before-clause-stores
returns-then-places_after-before-clause-stores c =
    let P = λ (d : Directory). PlacesAfter (take c.args.directory.now.used d.keys) c.args.into.now c.places_after.result in
    let Q = λ (d : Directory). length d.keys < c.places_after.result in
    places-full c.args.mark.id.0 c.args.mark.at c.args.into.now _ _ c.requires
    (subst P c.as_directory-before.ensures c.places_after.ensures) (subst Q c.as_directory-before.ensures c.if-places_after-before.true)

pub store_all-requires : goal.store_all-requires
store_all-requires c =
    let P = λ (d : Directory). PlacesAfter (take c.args.directory.now.used d.keys) c.args.into.now c.places_after.result in
    let Q = λ (d : Directory). c.places_after.result ≤ length d.keys in
    takes_all c.args.mark.id.0 c.args.mark.at c.args.into.now _ _ c.requires
    (subst P c.as_directory-before.ensures c.places_after.ensures) (subst Q c.as_directory-before.ensures c.if-places_after-before.false)

pub truncate-requires : goal.truncate-requires
truncate-requires c =
    let P = λ (d : Directory). PlacesAfter (take c.args.directory.now.used d.keys) c.args.into.now c.places_after.result in
    let Q = λ (d : Directory). c.places_after.result ≤ length d.keys in
    places-held c.args.mark.id.0 c.args.mark.at c.args.into.now _ _ c.requires
    (subst P c.as_directory-before.ensures c.places_after.ensures) (subst Q c.as_directory-before.ensures c.if-places_after-before.false)
    c.store_all.ensures.stores

pub returns-clause-stores : goal.returns-clause-stores
returns-clause-stores c =
    let P = λ (d : Directory). PlacesAfter (take c.args.directory.now.used d.keys) c.args.into.now c.places_after.result in
    let Q = λ (d : Directory). c.places_after.result ≤ length d.keys in
    places_stored c.args.mark.id.0 c.args.mark.at c.args.into.now _ _ c.requires
    (subst P c.as_directory-before.ensures c.places_after.ensures) (subst Q c.as_directory-before.ensures c.if-places_after-before.false)
    c.store_all.ensures.stores c.truncate.ensures.cuts
