use Rattle.std.proofs.Common.{◌≡◌, ℕ, ◌+◌, ◌*◌, ◌<◌, length, get_or, drop, set, sym, subst, arith}
use Rattle.std.proofs.lemmas.List.Edits.{fill_by_more}
use Rattle.std.proofs.lemmas.List.FromFn.{fill_by_all}
use Rattle.formats.specs.Bytes.{number}
use Rattle.formats.proofs.bytes.read_numbers.Goals as goal

pub loop-i-preserved : goal.loop-i-preserved
loop-i-preserved c =
    let f : ℕ → ℕ = λ i. number (drop (4 * i) c.args.bytes.now) in
    let P : ℕ → Type 0 = λ v. (k : ℕ) → k < c.loop-i.i + 1 → get_or (set c.loop-i.row c.loop-i.i v) k 0 ≡ f k in
    subst P (sym c.number_at.ensures) (fill_by_more f c.loop-i.row c.loop-i.i 0 (omega arith) c.loop-i.invariant)

pub returns : goal.returns
returns c =
    fill_by_all (λ i. number (drop (4 * i) c.args.bytes.now)) c.loop-i.row (length c.args.row.now) 0 (omega arith)
    (λ k h. c.loop-i.invariant k (omega arith))
