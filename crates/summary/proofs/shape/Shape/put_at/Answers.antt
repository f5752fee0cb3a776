use Rattle.std.proofs.Common.{◌≡◌, true, cond, length, get_or, take, sym, subst, arith, length-take, rules}
use Rattle.std.proofs.lemmas.Bool.{or_left}
use Rattle.summary.specs.Memory.{table_in, none, holding, cell_of, Stands, WouldStand, Found, put_in, can_put}
use Rattle.summary.proofs.Spots.{put_stands, put_would, held_stands, held_would, at_stands}
use Rattle.summary.proofs.Groups.{below_count, within_count, count_is, sum_is, grown}
use Rattle.summary.proofs.Soundness.{sound_put_kept}
use Rattle.summary.proofs.shape.Shape.put_at.Goals as goal

pub group-old-requires : goal.group-old-requires
group-old-requires c =
    let w = c.args.self.width in
    let p = take w c.args.group.place in
    let t = table_in w c.args.row.now in
    let stands : Stands p t c.in-Ok.i = subst (Found p t) c.in-Ok.is c.requires.found in
    (c.requires.sound.whole, below_count w c.in-Ok.i c.args.row.now stands.0)

pub joined-requires : goal.joined-requires
joined-requires c =
    let w = c.args.self.width in
    let t = table_in w c.args.row.now in
    let d = get_or t c.in-Ok.i none in
    let p = take w c.args.group.place in
    let stands : Stands p t c.in-Ok.i = subst (Found p t) c.in-Ok.is c.requires.found in
    let h = at_stands p t c.in-Ok.i stands in
    let a = count_is w c.group-old.result d c.group-old.ensures.cell in
    let b = sum_is w c.group-old.result d c.group-old.ensures.cell in
    let fits = c.requires.fits in
    (omega (arith, h.0), omega (arith, h.1))

pub replace-requires : goal.replace-requires
replace-requires c =
    let w = c.args.self.width in
    let p = take w c.args.group.place in
    let t = table_in w c.args.row.now in
    let stands : Stands p t c.in-Ok.i = subst (Found p t) c.in-Ok.is c.requires.found in
    (c.requires.sound.whole, below_count w c.in-Ok.i c.args.row.now stands.0)

pub insert-requires : goal.insert-requires
insert-requires c =
    let w = c.args.self.width in
    let p = take w c.args.group.place in
    let t = table_in w c.args.row.now in
    let would : WouldStand p t c.in-Err.i = subst (Found p t) c.in-Err.is c.requires.found in
    (c.requires.sound.whole, within_count w c.in-Err.i c.args.row.now would.0)

pub returns-in-Ok : goal.returns-in-Ok
returns-in-Ok c =
    let w = c.args.self.width in
    let xs = c.args.row.now in
    let t = table_in w xs in
    let i = c.in-Ok.i in
    let p = take w c.args.group.place in
    let stands : Stands p t i = subst (Found p t) c.in-Ok.is c.requires.found in
    let new = grown w c.group-old.result (get_or t i none) c.group-old.ensures.cell c.joined.result c.args.group c.joined.ensures in
    let is = put_stands p (cell_of w c.args.group).measure t i c.requires.sound.ordered stands in
    let there = c.replace.ensures in
    let told : true ≡ can_put w c.args.group xs = sym (or_left _ _ (held_stands p t i stands)) in
    let after : c.replace.new.row ≡ holding w (put_in w c.args.group xs) xs = cc in
    let four : length c.args.group.place ≡ 4 = search rules in
    let long : length p ≡ w = omega (arith, length-take w c.args.group.place) in
    record { told = told; after = after; sound = λ some. sound_put_kept w c.args.group xs _ true c.requires.sound long some told after }

pub returns-in-Err : goal.returns-in-Err
returns-in-Err c =
    let w = c.args.self.width in
    let xs = c.args.row.now in
    let t = table_in w xs in
    let i = c.in-Err.i in
    let p = take w c.args.group.place in
    let would : WouldStand p t i = subst (Found p t) c.in-Err.is c.requires.found in
    let none-there = held_would p t i would in
    let is = put_would p (cell_of w c.args.group).measure t i would in
    let r = c.insert.result in
    let told : r ≡ can_put w c.args.group xs = rw none-there c.insert.ensures.told in
    let after : c.insert.new.row ≡ cond r (holding w (put_in w c.args.group xs) xs) xs = rw is c.insert.ensures.after in
    let four : length c.args.group.place ≡ 4 = search rules in
    let long : length p ≡ w = omega (arith, length-take w c.args.group.place) in
    record { told = told; after = after; sound = λ some. sound_put_kept w c.args.group xs _ r c.requires.sound long some told after }
