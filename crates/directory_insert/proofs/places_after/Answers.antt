-- `places_after` meets its contract: one more container makes one more place, unless it came before or has a place already.
-- Assumes nothing.
use Rattle.std.proofs.Common.{arith, take, get_or, ◌||◌, ◌≡◌, ◌+◌, Bool, true, false, cond, sym, ◌∙◌, refl}
use Rattle.basics.specs.Lists.{has}
use Rattle.table.proofs.Count.{any-has, one_at_most}
use Rattle.directory_insert.specs.Posts.{found}
use Rattle.directory_insert.proofs.Count.{finds-found, places-start, places_more, places_end}
use Rattle.directory_insert.proofs.places_after.Goals.{then-not-contains+then-is_err, else-not-contains, else-not-contains-via-then-not-contains+else-is_err, else-not-contains-via-else-not-contains}
use Rattle.directory_insert.proofs.places_after.Goals as goal

pub loop-i-init : goal.loop-i-init
loop-i-init c = record { most = omega arith; count = places-start c.args.keys.now c.args.into.now _ refl }

pub loop-i-preserved : goal.loop-i-preserved
loop-i-preserved c =
    let i = c.loop-i.i in
    let into = c.args.into.now in
    let keys = c.args.keys.now in
    let n = c.loop-i.n in
    let there : Bool = has (get_or into i 0) (take i into) || found (get_or into i 0) keys in
    let before : c.contains.result ≡ has (get_or into i 0) (take i into) = c.contains.ensures.value ∙ any-has (get_or into i 0) (take i into) in
    let more : c.if-not-contains.n ≡ cond there n (n + 1) = elim c.if-not-contains.branch [
      | then-not-contains+then-is_err w ↦
          let none : found (get_or into i 0) keys ≡ false = finds-found _ _ _ w.place_of.ensures ∙ w.is_err.ensures.negation ∙ rw w.if-is_err.true in
          rw (sym before ∙ w.if-not-contains.true, none) w.n-is
      | else-not-contains w ↦ elim w.else-not-contains.branch [
        | else-not-contains-via-then-not-contains+else-is_err w' ↦
            let one : found (get_or into i 0) keys ≡ true = finds-found _ _ _ w'.place_of.ensures ∙ w'.is_err.ensures.negation ∙ rw w'.if-is_err.false in
            rw (sym before ∙ w'.if-not-contains.true, one) w.n-is
        | else-not-contains-via-else-not-contains w' ↦ rw (sym before ∙ w'.if-not-contains.false) w.n-is
      ]
    ] in
    record {
      most = omega (arith, c.loop-i.invariant.most, one_at_most there n, more);
      count = places_more keys into i n c.loop-i.invariant.count c.if-not-contains.n c.loop-i-test.true more;
    }

pub returns : goal.returns
returns c = places_end c.args.keys.now c.args.into.now c.loop-i.i c.loop-i.n c.loop-i.invariant.count c.loop-i-test.false
