use Rattle.std.proofs.Common.{◌≡◌, ◌<◌, [], ◌∷◌, length, get_or, refl, rules}
use Rattle.hierarchy.specs.Dimensions.{up}
use Rattle.hierarchy.specs.Views.{carried, dims_of, risen}
use Rattle.hierarchy.proofs.Rises.{ascent_is, by_four}
use Rattle.hierarchy.proofs.Widths.{dims_length}
use Rattle.hierarchy.proofs.dimensions.Dimensions.ascent.Goals as goal

pub returns : goal.returns
unfolding carried
returns c ns =
    let from : length c.args.from.at ≡ 4 = search rules in
    let to : length c.args.to.at ≡ 4 = search rules in
    let ss = dims_of c.args.self.now in
    let each = c.rise.result ∷ c.rise-2.result ∷ c.rise-3.result ∷ c.rise-4.result ∷ [] in
    ascent_is ss c.args.self.now.width each c.args.from.at c.args.to.at ns (dims_length c.args.self.now) c.args.self.now.few refl from to
    (λ i r h k n.
    by_four (λ j. j < length ss → risen (get_or each j r) n ≡ up (get_or ss j []) (get_or c.args.from.at j 0) (get_or c.args.to.at j 0) n)
    (λ q. c.rise.ensures q n) (λ q. c.rise-2.ensures q n) (λ q. c.rise-3.ensures q n) (λ q. c.rise-4.ensures q n) i h k)
