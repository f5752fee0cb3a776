use Rattle.std.proofs.Common.{◌≡◌, ℕ, List, length, vec_items, vec_len}
use Rattle.std.proofs.lemmas.Result.{IfOk-weaker}
use Rattle.hierarchy.specs.Dimensions.{Row}
use Rattle.hierarchy.specs.Facts.{Entry}
use Rattle.hierarchy.specs.Levels.{finest}
use Rattle.hierarchy.specs.Views.{dims_of}
use Rattle.totals.specs.Cost.{size}
use Rattle.summary.specs.Memory.{table_in}
use Rattle.totals.specs.Tables.{table}
use Rattle.greedy.specs.Turns.{SizesAre, TurnsAre}
use Rattle.selection.proofs.Sized.{sizes_of_facts, sizes_counted}
use Rattle.selection.proofs.rolling.Finest.choose.Goals as goal

pub choose_by_sizes-requires : goal.choose_by_sizes-requires
choose_by_sizes-requires c =
    rw c.deref.ensures.value
    (sizes_counted (dims_of c.args.self.dims.now) c.args.self.row.now (vec_items c.in_ok-sizes.sizes) c.in_ok-sizes.ensures c.requires)

pub returns : goal.returns
returns c =
    let ss = dims_of c.args.self.dims.now in
    let xs = c.args.self.row.now in
    IfOk-weaker c.choose_by_sizes.result
    (λ v. (vec_len v ≡ c.args.n) × ((sz : Row → ℕ) → SizesAre ss sz c.deref.result.now → TurnsAre ss sz (vec_items v)))
    (λ v. (vec_len v ≡ c.args.n) × ((es : List Entry) → table_in (length ss) xs ≡ table ss (finest ss) es → TurnsAre ss (size ss es) (vec_items v)))
    (λ v h. (
      h.0,
      λ es e. h.1 (size ss es) (rw c.deref.ensures.value
          (sizes_of_facts ss xs (vec_items c.in_ok-sizes.sizes) es c.in_ok-sizes.ensures c.args.self.levels e)),
    ))
    c.choose_by_sizes.ensures
