use Rattle.std.proofs.Common.{◌≡◌, ◌++◌, ◌≤◌, length, take, string_bytes}
use Rattle.std.specs.Slice.Iter.{chunks_exact_rest, chunks_exact_size}
use Rattle.summary.specs.Memory.{count_in, stride, table_in}
use Rattle.summary.proofs.Walks.{from_group}
use Rattle.formats.specs.Text.{table_text}
use Rattle.formats.proofs.text.write_table.Given as goal

-- the groups so far are written, and the others are left
abbrev pub invariant-loop-part : goal.invariant-loop-part
invariant-loop-part l =
    (string_bytes l.text ≡ string_bytes l.initial.text ++ table_text (take (length l.yielded) (table_in l.shape.width l.row)))
    × (length l.yielded ≤ count_in l.shape.width l.row)
    × (chunks_exact_size l.part-iterator ≡ stride l.shape.width)
    × (chunks_exact_rest l.part-iterator ≡ from_group l.shape.width (length l.yielded) l.row)
