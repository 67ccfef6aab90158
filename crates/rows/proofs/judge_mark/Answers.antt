-- `judge_mark` meets its contract: a law for each way out.
-- Assumes nothing.
use Rattle.std.proofs.Common.{ℕ, List, [], ◌∷◌, ◌≡◌, refl, ap, sym, ◌∙◌, Option, Some, None, Result, Ok, Err, ok_or}
use lib.Ieee.{Float}
use Rattle.basics.specs.declared.Refusal.{Refusal}
use Rattle.basics.specs.declared.Refusal.TheVariants as refusal
use Rattle.geometry.specs.declared.Position.{Position}
use Rattle.geometry.specs.Position.{coords, position_of}
use Rattle.grid_search.specs.declared.GridSearch.{GridSearch}
use Rattle.grid_search.specs.Sheet.{tolerance_of}
use Rattle.table.specs.Library.{Library}
use Rattle.table.specs.Lent.{lent}
use Rattle.rows.specs.Insert.{halo}
use Rattle.rows.specs.Posts.{look_all}
use Rattle.table.proofs.Libraries.{ordered}
use Rattle.rows.proofs.Check.{whole, divided}
use Rattle.rows.proofs.Answers.{Called, called_at, called_order, refused-past, judged_exceeds, judged_full, judged_into, judged_raised}
use Rattle.rows.proofs.judge_mark.Goals as goal

pub position_fault-requires : goal.position_fault-requires
position_fault-requires c = (divided c.args.sheet (whole c.args.sheet _ c.requires).sheet).axes

pub returns-in_err-position_fault : goal.returns-in_err-position_fault
returns-in_err-position_fault c =
    judged_raised c.args.sheet _ c.args.id.0 c.args.x.now c.in_err-position_fault.field-0.0 c.from_residual.result c.from_residual.ensures
    (refused-past c.args.sheet _ c.args.id.0 c.args.x.now c.requires (sym c.in_err-position_fault.ensures))

pub find-requires : goal.find-requires
find-requires c = divided c.args.sheet (whole c.args.sheet _ c.requires).sheet

-- what was found is none of the containers, and 17
missed : (o : Option (List ℕ)) (r e : Refusal) → ok_or o r ≡ Err e → (o ≡ None) × (e ≡ r)
missed (Some ks) r e h = absurd (no h)
  where
    no : ◌≡◌ {A = Result (List ℕ) Refusal} (Ok ks) (Err e) → ⊥
    no h = cc
missed None r e h = (refl, cc)

-- or these containers
got : (o : Option (List ℕ)) (r : Refusal) (ks : List ℕ) → ok_or o r ≡ Ok ks → o ≡ Some ks
got (Some ls) r ks h = let e : ls ≡ ks = cc in ap Some e
got None r ks h = absurd (no h)
  where
    no : ◌≡◌ {A = Result (List ℕ) Refusal} (Err r) (Ok ks) → ⊥
    no h = cc

-- the containers are those of the mark's position
at_mark : (s : GridSearch) (l : Library) (x : List Float) (k : Called s l x) (p : Position) → p ≡ position_of x → {o : Option (List ℕ)}
    → o ≡ look_all s (Some []) (coords s.ndim p ∷ halo (tolerance_of s.tolerance) (coords s.ndim p)) → look_all s (Some []) (x ∷ halo (tolerance_of s.tolerance) x) ≡ o
at_mark s l x k p e f = sym (f ∙ ap (λ (y : List Float). look_all s (Some []) (y ∷ halo (tolerance_of s.tolerance) y)) (called_at s l x k e))

got_there : (s : GridSearch) (l : Library) (x : List Float) (k : Called s l x) (p : Position) → p ≡ position_of x → (o : Option (List ℕ))
    → o ≡ look_all s (Some []) (coords s.ndim p ∷ halo (tolerance_of s.tolerance) (coords s.ndim p)) → (r : Refusal) (ks : List ℕ) → Ok ks ≡ ok_or o r
    → look_all s (Some []) (x ∷ halo (tolerance_of s.tolerance) x) ≡ Some ks
got_there s l x k p e o f r ks h = at_mark s l x k p e f ∙ got o r ks (sym h)

pub returns-in_err-targets : goal.returns-in_err-targets
returns-in_err-targets c =
    let s = c.args.sheet in
    let l = lent c.args.library in
    let x = c.args.x.now in
    let k : Called s l x = record { library = c.requires; position = sym c.in_ok-position_fault.ensures } in
    let m = missed c.find.result refusal.Ratio c.in_err-targets.field-0.0 (sym c.in_err-targets.ensures.value) in
    judged_raised s l c.args.id.0 x c.in_err-targets.field-0.0 c.from_residual-in_err-targets.result c.from_residual-in_err-targets.ensures
    (rw m.1 (judged_exceeds s l c.args.id.0 x k (at_mark s l x k c.new.result c.new.ensures c.find.ensures ∙ m.0)))

pub rows_after-requires : goal.rows_after-requires
rows_after-requires c = ordered (called_order c.args.sheet _ c.args.x.now (record { library = c.requires; position = sym c.in_ok-position_fault.ensures }))

pub returns-then-rows_after-library : goal.returns-then-rows_after-library
returns-then-rows_after-library c =
    let s = c.args.sheet in
    let l = lent c.args.library in
    let x = c.args.x.now in
    let k : Called s l x = record { library = c.requires; position = sym c.in_ok-position_fault.ensures } in
    let f = got_there s l x k c.new.result c.new.ensures c.find.result c.find.ensures refusal.Ratio c.in_ok-targets.targets c.in_ok-targets.ensures.value in
    judged_full s l c.args.id.0 x k f (rw c.as_slice.ensures at c.rows_after.ensures) c.if-rows_after-library.true

pub returns : goal.returns
returns c =
    let s = c.args.sheet in
    let l = lent c.args.library in
    let x = c.args.x.now in
    let k : Called s l x = record { library = c.requires; position = sym c.in_ok-position_fault.ensures } in
    let f = got_there s l x k c.new.result c.new.ensures c.find.result c.find.ensures refusal.Ratio c.in_ok-targets.targets c.in_ok-targets.ensures.value in
    judged_into s l c.args.id.0 x k f (rw c.as_slice.ensures at c.rows_after.ensures) c.if-rows_after-library.false
