use Rattle.std.proofs.Common.{◌≡◌, false, length, Some, sym, ap, ◌∙◌, inl, inr, arith}
use Rattle.hierarchy.specs.Views.{dims_of}
use Rattle.replies.specs.declared.Refusal.TheVariants.{BadTable}
use Rattle.summary.specs.Memory.{count_in}
use Rattle.rollup.specs.Entry.{has_groups}
use Rattle.rollup.proofs.Refusals.{too_short, no_level, no_groups, bad_group, all_good, groups_there, groups_missing}
use Rattle.rollup.proofs.check.Goals as goal
use Rattle.rollup.proofs.check.Goals.{then-groups-room-via-then-groups-room, then-groups-room-via-else-groups-room+then-not-fits}

pub returns-then-row-width : goal.returns-then-row-width
returns-then-row-width c =
    let e = c.width-width.ensures in
    too_short (dims_of c.args.dims.now) c.args.room c.args.row.now c.of-shape.result.width c.of-shape.ensures (omega arith)
    ∙ ap (λ v. Some (BadTable v)) (sym e)

pub returns-in-Some : goal.returns-in-Some
returns-in-Some c =
    let e = c.width-width.ensures in
    no_level (dims_of c.args.dims.now) c.args.room c.args.row.now c.of-shape.result.width c.of-shape.ensures (omega arith)
    c.in-Some.dimension (sym c.in-Some.ensures)

pub returns-then-groups-room : goal.returns-then-groups-room
returns-then-groups-room c =
    let w = c.of-shape.result.width in
    let v = c.width-width.result in
    let e = c.width-width.ensures in
    let missing : has_groups w c.args.room c.args.row.now ≡ false =
    elim c.then-groups-room.branch [
      | then-groups-room-via-then-groups-room way ↦ groups_missing w c.args.room c.args.row.now v e (inl way.if-groups-room.true)
      | then-groups-room-via-else-groups-room+then-not-fits way ↦
          groups_missing w c.args.room c.args.row.now v e (inr (sym way.fits.ensures ∙ way.if-not-fits.true))
    ] in
    no_groups (dims_of c.args.dims.now) c.args.room c.args.row.now w c.of-shape.ensures (omega arith) (sym c.in_default.ensures) missing
    ∙ ap (λ k. Some (BadTable k)) (sym e)

pub returns-in-Some-first_bad_group : goal.returns-in-Some-first_bad_group
returns-in-Some-first_bad_group c =
    let w = c.of-shape.result.width in
    let e = c.width-width.ensures in
    let there = groups_there w c.args.room c.args.row.now c.width-width.result e c.if-groups-room.false (sym c.if-not-fits.ensures) in
    bad_group (dims_of c.args.dims.now) c.args.room c.args.row.now w c.of-shape.ensures (omega arith) (sym c.in_default.ensures) there
    c.in-Some-first_bad_group.group c.in-Some-first_bad_group.ensures

pub returns : goal.returns
returns c =
    let w = c.of-shape.result.width in
    let e = c.width-width.ensures in
    let is = c.of-shape.ensures in
    let h = c.in_default-first_bad_group.ensures in
    let there = groups_there w c.args.room c.args.row.now c.width-width.result e c.if-groups-room.false (sym c.if-not-fits.ensures) in
    let good = all_good (dims_of c.args.dims.now) c.args.room c.args.row.now w is (omega arith) (sym c.in_default.ensures) there h.1 in
    let v-is : c.width-width.result ≡ length (dims_of c.args.dims.now) = e ∙ is in
    (good, ap (λ k. count_in k c.args.row.now) v-is, c.if-groups-room.false, rw is at h.0, rw is at h.1)
