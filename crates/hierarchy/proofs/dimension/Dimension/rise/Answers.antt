use Rattle.std.proofs.Common.{◌≡◌, length, arith, rules}
use Rattle.std.proofs.lemmas.List.{length-take-le}
use Rattle.std.proofs.lemmas.Bool.{lt-ltb, le-ltb}
use Rattle.hierarchy.specs.Dimensions.{up}
use Rattle.hierarchy.specs.Views.{factors_of}
use Rattle.hierarchy.proofs.dimension.Dimension.rise.Goals as goal

pub returns-then-to-self : goal.returns-then-to-self
unfolding up
returns-then-to-self c n =
    let long : length (factors_of c.args.self) ≡ c.args.self.count = search (rules, length-take-le) in
    rw (lt-ltb (length (factors_of c.args.self)) c.args.to (omega arith))

pub returns : goal.returns
unfolding up
returns c n =
    let long : length (factors_of c.args.self) ≡ c.args.self.count = search (rules, length-take-le) in
    rw (le-ltb (length (factors_of c.args.self)) c.args.to (omega arith), ← c.between.ensures)
