-- What a step says of the bytes that it was read from. Assumes nothing: these are definitions.
use Rattle.std.specs.Prelude.{◌≡◌, ℕ, ◌+◌, ◌*◌, ◌<◌, ◌≤◌, true, length, take, drop, slice_index}
use Rattle.hierarchy.specs.Dimensions.{Row}
use Rattle.formats.specs.Bytes.{Bytes, numbers}
use Rattle.journal.specs.Deeds.{kind_of, size_in, is_deed}
use Rattle.journal.specs.declared.deed.Kind.{Kind}

-- bytes begin with a deed: of this kind, with so many of these numbers, and the rest is behind it
pub record Reads (w : ℕ) (bs : Bytes) (kind : Kind) (count : ℕ) (xs : Row) (rest : Bytes) : Type 0 where
  pub there : is_deed w bs ≡ true
  pub which : kind ≡ kind_of (slice_index bs 0)
  pub size : count ≡ size_in w bs
  pub few : count ≤ 5
  pub read : take count xs ≡ numbers count (drop 1 bs)
  pub behind : rest ≡ drop (1 + 4 * count) bs
  pub shorter : length rest < length bs
