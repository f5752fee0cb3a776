use Rattle.std.proofs.Common.{◌≡◌, ◌+◌, ◌*◌, ◌++◌, [], ◌∷◌, length, get_or, take, drop, string_bytes, ◌∙◌, subst, arith, length-append, append-nil, sym}
use Rattle.std.proofs.lemmas.Grind.{common_steps}
use Rattle.std.specs.Slice.Iter.{chunks_exact_rest}
use Rattle.summary.specs.Memory.{stride, count_in, table_in, cell_of, none}
use Rattle.summary.proofs.Rows.{table_length}
use Rattle.summary.proofs.Walks.{first_group, no_group, next_group}
use Rattle.formats.specs.Text.{line_text}
use Rattle.formats.proofs.Lines.{piece_more, piece_all}
use Rattle.formats.proofs.text.write_table.Goals as goal

pub loop-part-init : goal.loop-part-init
loop-part-init c =
    let w = c.args.shape.width in
    let row = c.args.row.now in
    let chunks = c.chunks_exact-part-items in
    let all : chunks_exact_rest chunks.result ≡ take (stride w * count_in w row) (drop (w + 1) row) = grind (arith, common_steps) in
    rw c.into_iter-part-iterator.ensures.into_iter_gives
    (sym (append-nil (string_bytes c.args.text.now)), omega arith, chunks.ensures.size ∙ c.stride.ensures, first_group w row _ all)

pub loop-part-preserved : goal.loop-part-preserved
loop-part-preserved c =
    let w = c.args.shape.width in
    let row = c.args.row.now in
    let t = table_in w row in
    let k = length c.loop-part.yielded in
    let inv = c.loop-part.invariant in
    let step = c.in-Some.ensures.steps in
    let g = next_group w k _ row _ _ _ c.requires inv.3 inv.2 step.1.0 step.1.1 in
    let before = string_bytes c.loop-part.text in
    let after = string_bytes c.write_group.new.text in
    let cell : cell_of w c.read.result ≡ get_or t k none = c.read.ensures.cell ∙ g.1 in
    let line : after ≡ before ++ line_text (get_or t k none) = subst (λ x. after ≡ before ++ line_text x) cell c.in_ok-write_group.ensures in
    let more : length (c.loop-part.yielded ++ (c.in-Some.part ∷ [])) ≡ k + 1 = omega (arith, length-append c.loop-part.yielded (c.in-Some.part ∷ [])) in
    rw more
    (piece_more line_text (string_bytes c.args.text.now) t k none before after (omega (arith, g.0, table_length w row)) inv.0 line, omega (arith, g.0), step.0 ∙ inv.2, g.2)

pub returns : goal.returns
returns c =
    let w = c.args.shape.width in
    let row = c.args.row.now in
    let k = length c.loop-part.yielded in
    let inv = c.loop-part.invariant in
    let all = no_group w k _ row _ c.requires inv.3 inv.2 inv.1 c.in-None.ensures.steps.1.0 in
    piece_all line_text (string_bytes c.args.text.now) (table_in w row) k (string_bytes c.loop-part.text) (omega (arith, all, table_length w row)) inv.0
