-- 24 and 13 are the library's check; what is left is the text's.
-- Assumes nothing.
use Rattle.std.proofs.Common.{arith, sym, ◌∙◌}
use Rattle.std.proofs.Math.Option.{some-ne-none}
use Rattle.geometry.proofs.Axes.{few-axes}
use Rattle.table.specs.Lent.{lent}
use Rattle.display.proofs.Answers.{refused_library, past_library, axes, in_turn, few, text_of_slots}
use Rattle.display.proofs.Cuts.{cut_length, cut_ids, cut_level, cut_order, cut_slots}
use Rattle.display.proofs.Texts.{counts-length}
use Rattle.display.proofs.display.Goals as goal

pub returns-in_err-library_fault : goal.returns-in_err-library_fault
returns-in_err-library_fault c =
    record {
      shows = refused_library c.args.sheet _ c.args.buffer.now c.in_err-library_fault.field-0.0 c.from_residual.result c.in_err-library_fault.ensures c.from_residual.ensures;
      most = λ e. absurd (some-ne-none _ (c.in_err-library_fault.ensures ∙ e));
    }

pub slice_bounds-keys-end : goal.slice_bounds-keys-end
slice_bounds-keys-end c = sym (cut_length (in_turn c.args.sheet (lent c.args.library) (sym c.in_ok-library_fault.ensures)))

pub slice_bounds-ids-end : goal.slice_bounds-ids-end
slice_bounds-ids-end c = sym (cut_ids (in_turn c.args.sheet (lent c.args.library) (sym c.in_ok-library_fault.ensures)))

pub slice_bounds-divisions-end : goal.slice_bounds-divisions-end
slice_bounds-divisions-end c = (few-axes c.args.sheet.ndim (axes c.args.sheet (lent c.args.library) (sym c.in_ok-library_fault.ensures))).1

pub slice_bounds-show-end : goal.slice_bounds-show-end
slice_bounds-show-end c = sym (counts-length c.args.sheet.ndim c.args.sheet.ndiv (axes c.args.sheet (lent c.args.library) (sym c.in_ok-library_fault.ensures)))

pub show-requires : goal.show-requires
show-requires c =
    let s = c.args.sheet in
    let l = lent c.args.library in
    let e = sym c.in_ok-library_fault.ensures in
    let o = in_turn s l e in
    let n = counts-length s.ndim s.ndiv (axes s l e) in
    record {
      axes = omega (arith, n, (few-axes s.ndim (axes s l e)).1);
      level = cut_level o;
      in_order = cut_order o;
      few = omega (arith, cut_length o, o.in_keys, few s l e);
    }

pub returns : goal.returns
returns c =
    let s = c.args.sheet in
    let l = lent c.args.library in
    let e = sym c.in_ok-library_fault.ensures in
    let o = in_turn s l e in
    record {
      shows = rw (past_library s l c.args.buffer.now e, text_of_slots s l, ← cut_slots o) c.show.ensures.shows;
      most = λ e'. let m = rw (cut_slots o, cut_length o) at c.show.ensures.most in rw (text_of_slots s l) m;
    }
