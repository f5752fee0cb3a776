-- What the structs of the code stand for. Assumes nothing: these are definitions.
use Rattle.std.specs.Prelude.{ℕ, ◌/◌, List, [], ◌∷◌, map, take}
use Rattle.std.specs.Int.NonZero.{non_zero_u64_get}
use Rattle.hierarchy.specs.Dimensions.{Factors, Dims, Row}
use Rattle.hierarchy.specs.Facts.{Entry}
use Rattle.hierarchy.specs.declared.dimension.Dimension.{Dimension}
use Rattle.hierarchy.specs.declared.dimension.Rise.{Rise}
use Rattle.hierarchy.specs.declared.dimension.Rise.TheVariants.{By, Together}
use Rattle.hierarchy.specs.declared.dimensions.Ascent.{Ascent}
use Rattle.hierarchy.specs.declared.dimensions.Dimensions.{Dimensions}
use Rattle.hierarchy.specs.declared.fact.Fact.{Fact}
use Rattle.hierarchy.specs.declared.levels.Levels.{Levels}

-- the factors of a dimension
abbrev pub factors_of : Dimension → Factors
factors_of d = take d.count d.factors

-- a number as it rises
abbrev pub risen : Rise → ℕ → ℕ
risen (By factors) n = n / non_zero_u64_get factors
risen Together n = 0

-- a fact of w numbers and an amount
abbrev pub entry_of : ℕ → Fact → Entry
entry_of w f = record { place = take w f.place; amount = f.amount }

-- w levels
abbrev pub levels_of : ℕ → Levels → Row
levels_of w l = take w l.at

unfoldable pub dims_of : Dimensions → Dims
dims_of d = map factors_of (take d.width d.each)

-- a place by the rises of its numbers
unfoldable pub lifted : List Rise → Row → Row
lifted [] ns = []
lifted (r ∷ rs) [] = []
lifted (r ∷ rs) (n ∷ ns) = risen r n ∷ lifted rs ns

unfoldable pub carried : Ascent → Row → Row
carried a ns = lifted (take a.width a.each) ns
