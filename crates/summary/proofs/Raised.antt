-- A group whose place is taken up by the code is taken up as the model says. Assumes nothing.
use Rattle.std.proofs.Common.{◌≡◌, ℕ, ◌+◌, ◌^◌, ◌<◌, ◌≤◌, true, List, ◌∷◌, ◌++◌, length, get_or, take, drop, sym, ap, ◌∙◌, arith, length-append, length-drop, length-take}
use Rattle.std.proofs.lemmas.List.{take_at}
use Rattle.hierarchy.specs.Dimensions.{Dims, Row, four}
use Rattle.hierarchy.specs.Places.{place_up}
use Rattle.hierarchy.specs.Views.{carried}
use Rattle.hierarchy.specs.declared.dimensions.Ascent.{Ascent}
use Rattle.hierarchy.proofs.Laws.{place_up_length}
use Rattle.hierarchy.proofs.Fours.{whole_four}
use Rattle.hierarchy.proofs.Fronts.{place_up_take}
use Rattle.totals.specs.Tables.{Cell, rolled}
use Rattle.totals.specs.Counts.{total}
use Rattle.summary.specs.Memory.{start, count_in, table_in, none, holding, Sound, cell_of, put_in, can_put, PutFits}
use Rattle.summary.specs.declared.group.Group.{Group}
use Rattle.summary.proofs.Rows.{table_length}
use Rattle.summary.proofs.Soundness.{wide_table}
use Rattle.summary.proofs.Rolls.{turn_sound, turn_fits, turn_room, turn_again}

pub raised_cell : (w : ℕ) (ss : Dims) (ls ms : Row) (ascent : Ascent) (old new : Group) (g : Cell)
    → cell_of w old ≡ g → length ss ≡ w → length ls ≡ w → length ms ≡ w → w ≤ 4 → length old.place ≡ 4
    → ((ns : List ℕ) → carried ascent ns ≡ place_up ss ls ms ns)
    → (new.place ≡ four (carried ascent old.place)) × (new.count ≡ old.count) × (new.sum ≡ old.sum)
    → ((cell_of w new).place ≡ place_up ss ls ms g.place) × ((cell_of w new).measure ≡ g.measure)
raised_cell w ss ls ms ascent old new g is a b c few long up h =
    let p = old.place in
    let front : take w p ≡ g.place = ap (λ (x : Cell). x.place) is in
    let much : (cell_of w old).measure ≡ g.measure = ap (λ (x : Cell). x.measure) is in
    let t : length (take w p) ≡ w = omega (arith, length-take w p) in
    let e₁ : place_up ss ls ms (take w p) ≡ place_up ss ls ms p = ap (λ n. place_up ss ls ms (take n p)) (sym a) ∙ place_up_take ss ls ms p in
    let l : length (place_up ss ls ms (take w p)) ≡ w = place_up_length ss ls ms (take w p) (omega arith) (omega arith) (omega arith) ∙ a in
    let e₂ : take w (four (place_up ss ls ms (take w p))) ≡ place_up ss ls ms (take w p) = whole_four w (place_up ss ls ms (take w p)) few l in
    let e₃ = up p in
    let q = h.0 in
    let m : (cell_of w new).measure ≡ (cell_of w old).measure = (let x = h.1 in let y = h.2 in cc) in
    (rw (q, e₃, ← e₁, e₂, front), m ∙ much)

-- a row after its levels and the count of no group were written: these levels, and its length is as before
pub begun_levels : (w : ℕ) (ms xs ys : List ℕ) → length ms ≡ w → ys ≡ ms ++ (0 ∷ drop (w + 1) xs) → take w ys ≡ ms
begun_levels w ms xs ys l e = rw e (take_at ms (0 ∷ drop (w + 1) xs) w l)

begun_length : (w : ℕ) (ms xs ys : List ℕ) → length ms ≡ w → w < length xs → ys ≡ ms ++ (0 ∷ drop (w + 1) xs) → length ys ≡ length xs
begun_length w ms xs ys l h e = rw e (omega (arith, length-append ms (0 ∷ drop (w + 1) xs), length-drop (w + 1) xs))

-- one turn of the loop over the groups of a row: what append asks for, that there is room, and what the row holds then
pub turn : (w : ℕ) (ss : Dims) (from xs ys to : List ℕ) (at levels : Row) (ascent : Ascent) (old new : Group) (i : ℕ)
    → w ≡ length ss → w ≤ 4 → Sound w from → length levels ≡ 4
    → start w (count_in w from) ≤ length xs
    → (total (table_in w from)).count < 2 ^ 64 → (total (table_in w from)).sum < 2 ^ 64
    → ys ≡ take w levels ++ (0 ∷ drop (w + 1) xs)
    → at ≡ four (take w from)
    → ((ns : List ℕ) → carried ascent ns ≡ place_up ss (take (length ss) at) (take (length ss) levels) ns)
    → cell_of w old ≡ get_or (table_in w from) i none → length old.place ≡ 4
    → (new.place ≡ four (carried ascent old.place)) × (new.count ≡ old.count) × (new.sum ≡ old.sum)
    → i < count_in w from
    → to ≡ holding w (rolled ss (take w from) (take w ys) (take i (table_in w from))) ys
    → Sound w to × PutFits w new to × (can_put w new to ≡ true)
    × (holding w (put_in w new to) to ≡ holding w (rolled ss (take w from) (take w ys) (take (i + 1) (table_in w from))) ys)
turn w ss from xs ys to at levels ascent old new i wide few sound four-levels room count sum began padded up is four-place raised l holds =
    let t = table_in w from in
    let whole = sound.whole in
    let n = table_length w from in
    let ms-long : length (take w levels) ≡ w = omega (arith, length-take w levels) in
    let ls-long : length (take w from) ≡ w = omega (arith, length-take w from) in
    let e₀ = begun_levels w (take w levels) xs ys ms-long began in
    let ms-long' : length (take w ys) ≡ w = rw e₀ ms-long in
    let same_length = begun_length w (take w levels) xs ys ms-long (omega arith) began in
    let e₁ : take w at ≡ take w from = rw padded (whole_four w (take w from) few ls-long) in
    let up' : (ns : List ℕ) → carried ascent ns ≡ place_up ss (take w from) (take w ys) ns = λ ns. rw (e₀, ← e₁, wide) (up ns) in
    let ss-long : length ss ≡ w = sym wide in
    let cell = raised_cell w ss (take w from) (take w ys) ascent old new (get_or t i none) is ss-long ls-long ms-long' few four-place up' raised in
    let room' : start w (length t) ≤ length ys = rw (n, same_length) room in
    let l' : i < length t = omega arith in
    let wt = wide_table w from whole in
    rw holds (
      turn_sound ss (take w from) (take w ys) t ys w ss-long ls-long ms-long' wt sound.filled room' i l',
      turn_fits ss (take w from) (take w ys) t ys w ss-long ls-long ms-long' wt sound.filled room' i l' new cell.0 cell.1 count sum,
      turn_room ss (take w from) (take w ys) t ys w ss-long ls-long ms-long' wt sound.filled room' i l' new cell.0 cell.1,
      turn_again ss (take w from) (take w ys) t ys w ss-long ls-long ms-long' wt sound.filled room' i l' new cell.0 cell.1,
    )
