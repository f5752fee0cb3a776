-- The choice in memory: sizes as a list, what a question's cost falls by, and the turns. Assumes nothing: these are definitions.
use Rattle.std.specs.Prelude.{◌≡◌, ℕ, suc, ◌-◌, ◌^◌, ◌<◌, ◌≤◌, cond, List, ◌∷◌, length, slice_index, slice_index_or}
use Rattle.hierarchy.specs.Dimensions.{Dims, Row}
use Rattle.hierarchy.specs.Levels.{no_coarser, total_levels, nth_levels}
use Rattle.hierarchy.specs.Views.{levels_of}
use Rattle.hierarchy.specs.declared.levels.Levels.{Levels}
use Rattle.benefit.specs.Benefit.{saved, chosen}
use Rattle.greedy.specs.declared.turn.Turn.{Turn}

-- the list has the sizes of all levels in their order
abbrev pub SizesAre : Dims → (Row → ℕ) → List ℕ → Type 0
SizesAre ss sz zs = (i : ℕ) → i < total_levels ss → sz (nth_levels ss i) ≡ slice_index zs i

-- at each turn the levels that were chosen next, and what all chosen so far save
abbrev pub TurnsAre : Dims → (Row → ℕ) → List Turn → Type 0
TurnsAre ss sz ts =
    (i : ℕ) (d : Turn) → i < length ts
    → (chosen ss sz (suc i) ≡ levels_of (length ss) (slice_index_or ts i d).levels ∷ chosen ss sz i)
    × ((slice_index_or ts i d).saves ≡ saved ss sz (chosen ss sz (suc i)))

-- all levels in their order, as the code has them
pub record AllLevels (ss : Dims) (ls : List Levels) : Type 0 where
  pub long : length ls ≡ total_levels ss
  pub few : length ls ≤ 1296
  pub some : 1 ≤ length ls
  pub each : (i : ℕ) (d : Levels) → i < length ls → levels_of (length ss) (slice_index_or ls i d) ≡ nth_levels ss i

-- what the cost c of question q falls by where a table of s groups at levels l is kept too
abbrev pub fall : Dims → Row → ℕ → Row → ℕ → ℕ
fall ss l s q c = cond (no_coarser ss l q) (c - s) 0

-- the costs of all questions where the i-th levels, of size s, are kept too
abbrev pub Lowered : Dims → ℕ → ℕ → List ℕ → List ℕ → Type 0
Lowered ss i s cs ds =
    (length ds ≡ length cs)
    × ((q : ℕ) → q < length cs → slice_index ds q ≡ slice_index cs q - fall ss (nth_levels ss i) s (nth_levels ss q) (slice_index cs q))

-- sizes that are counted in: as many as levels, each below 2^32
abbrev pub Counted : ℕ → List ℕ → Type 0
Counted n zs = (length zs ≡ n) × ((i : ℕ) → i < n → slice_index zs i < 2 ^ 32)
