use Rattle.std.proofs.Common.{◌≤◌, length, sym, ◌∙◌, arith}
use Rattle.std.proofs.lemmas.Result.{err_from_is_err_and}
use Rattle.std.proofs.lemmas.Bool.{leb-true}
use Rattle.hierarchy.specs.Views.{dims_of}
use Rattle.summary.specs.Memory.{start, table_in}
use Rattle.rollup.specs.Entry.{most_groups}
use Rattle.summary.proofs.Checked.{good_total}
use Rattle.summary.proofs.Rows.{table_length}
use Rattle.rollup.proofs.Refusals.{by_dims, by_table, by_reach, by_room, room_of, no_room_of, refused, rolled_up}
use Rattle.rollup.proofs.Reaches.{reached_row}
use Rattle.rollup.proofs.roll.Goals as goal

pub returns-in_err-dims : goal.returns-in_err-dims
returns-in_err-dims c =
    let p = err_from_is_err_and c.from_residual.result c.from_residual.ensures.1 in
    let h = by_dims c.args.sides.now c.args.from.now c.args.to.now (length c.args.out.now) _ c.in_err-dims.ensures in
    let r = refused c.args.sides.now c.args.from.now c.args.to.now c.args.out.now _ h in
    record { told = rw (p.1, p.2) r.0; after = r.1 }

pub returns-in_err-groups : goal.returns-in_err-groups
returns-in_err-groups c =
    let p = err_from_is_err_and c.from_residual-in_err-groups.result c.from_residual-in_err-groups.ensures.1 in
    let d = c.in_ok-dims.ensures in
    let h = by_table c.args.sides.now c.args.from.now c.args.to.now (length c.args.out.now) _ (dims_of c.in_ok-dims.dims) d.1 d.0 c.in_err-groups.ensures in
    let r = refused c.args.sides.now c.args.from.now c.args.to.now c.args.out.now _ h in
    record { told = rw (p.1, p.2) r.0; after = r.1 }

pub returns-in_err-levels : goal.returns-in_err-levels
returns-in_err-levels c =
    let p = err_from_is_err_and c.from_residual-in_err-levels.result c.from_residual-in_err-levels.ensures.1 in
    let d = c.in_ok-dims.ensures in
    let t = c.in_ok-groups.ensures in
    let h = by_reach c.args.sides.now c.args.from.now c.args.to.now (length c.args.out.now) _ (dims_of c.in_ok-dims.dims) d.1 d.0 t.0 c.in_err-levels.ensures in
    let r = refused c.args.sides.now c.args.from.now c.args.to.now c.args.out.now _ h in
    record { told = rw (p.1, p.2) r.0; after = r.1 }

pub returns-then-not-fits : goal.returns-then-not-fits
returns-then-not-fits c =
    let ss = dims_of c.in_ok-dims.dims in
    let d = c.in_ok-dims.ensures in
    let t = c.in_ok-groups.ensures in
    let l = c.in_ok-levels.ensures in
    let n = length c.args.out.now in
    let e = c.of-shape.ensures in
    let none = no_room_of (length ss) c.args.from.now n c.in_ok-groups.groups t.1 (rw e at (sym c.if-not-fits.ensures)) in
    let h = by_room c.args.sides.now c.args.from.now c.args.to.now n ss d.1 d.0 t.0 l.0 ∙ none in
    let r = refused c.args.sides.now c.args.from.now c.args.to.now c.args.out.now _ h in
    record { told = r.0; after = r.1 }

pub roll-requires : goal.roll-requires
roll-requires c =
    let ss = dims_of c.in_ok-dims.dims in
    let from = c.args.from.now in
    let t = c.in_ok-groups.ensures in
    let e = c.of-shape.ensures in
    let w = c.of-shape.result.width in
    let few : length (table_in (length ss) from) ≤ most_groups = omega (arith, table_length (length ss) from, t.1, t.2) in
    let sums = good_total (table_in (length ss) from) t.4 few in
    let fits = leb-true (start w c.in_ok-groups.groups) (length c.args.out.now) (sym c.if-not-fits.ensures) in
    record {
      width = e;
      sound = rw e t.3;
      room = rw (e, ← t.1) (rw e at fits);
      count_fits = rw e (omega (arith, sums.0));
      sum_fits = rw e (omega (arith, sums.1));
    }

pub returns : goal.returns
returns c =
    let ss = dims_of c.in_ok-dims.dims in
    let from = c.args.from.now in
    let d = c.in_ok-dims.ensures in
    let t = c.in_ok-groups.ensures in
    let l = c.in_ok-levels.ensures in
    let n = length c.args.out.now in
    let w = c.of-shape.result.width in
    let e = c.of-shape.ensures in
    let room = room_of (length ss) from n c.in_ok-groups.groups t.1 (rw e at (sym c.if-not-fits.ensures)) in
    let row = reached_row ss from c.args.to.now l.0 w c.in_ok-levels.levels.at c.args.out.now e c.of-shape.result.most l.1 in
    let known = by_room c.args.sides.now from c.args.to.now n ss d.1 d.0 t.0 l.0 in
    let r = rolled_up c.args.sides.now from c.args.to.now c.args.out.now ss c.in_ok-groups.groups (known ∙ room) d.1 t.1 in
    record { told = r.0; after = rw row at c.roll.ensures.after ∙ r.1 }
