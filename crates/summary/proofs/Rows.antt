-- How groups lie in a row. Only what a part is, a place and the two numbers behind it, is used here of a group's layout.
-- Assumes nothing.
use Rattle.std.proofs.Common.{◌≡◌, ℕ, suc, ◌+◌, ◌-◌, ◌*◌, ◌<◌, ◌≤◌, List, [], ◌∷◌, ◌++◌, length, get_or, take, drop, set, ap, ◌∙◌, arith, length-append, length-drop}
use borrow.Rule.Slice.PartMut.{put_mid}
use Rattle.std.specs.List.{insert, remove}
use lib.Seq.{paste}
use Rattle.std.proofs.lemmas.List.{append_assoc, take-append-drop, take_at, drop_at, drop-drop, drop_more, drop_all, length-take-le, take_more, length-set, get_or_at, get_or-append_right, set_at, set-append_right}
use Rattle.hierarchy.proofs.Parts.{next_place, place_le, part_at, parts_length, put_mid_behind, paste_behind, part_set, part_inserted, part_removed}
use Rattle.std.proofs.lemmas.List.Edits.{length-insert, length-remove}
use Rattle.totals.specs.Tables.{Cell}
use Rattle.summary.specs.Memory.{stride, start, cell_in, cell_out, cells_out, count_in, table_in, none, holding, Whole}

-- a group that is there ends within the row
pub group_end : (w n i room : ℕ) → start w n ≤ room → i < n → start w i + stride w ≤ room
group_end w n i room h l = let m = place_le (stride w) (suc i) n (omega arith) in let e = next_place (stride w) i in omega arith

-- one group, written and read
pub cell_in_out : (w : ℕ) (g : Cell) → length g.place ≡ w → cell_in w (cell_out g) ≡ g
cell_in_out w g h =
    let p = g.place in
    let c = g.measure.count in
    let s = g.measure.sum in
    let a : take w (p ++ (c ∷ (s ∷ []))) ≡ p = take_at p _ w h in
    let b : get_or (p ++ (c ∷ (s ∷ []))) w 0 ≡ c = get_or_at p c (s ∷ []) 0 w h in
    let k : w + 1 - w ≡ 1 = omega arith in
    let d : get_or (p ++ (c ∷ (s ∷ []))) (w + 1) 0 ≡ s =
    get_or-append_right p (c ∷ (s ∷ [])) w (w + 1) 0 h (omega arith) ∙ ap (λ i. get_or (c ∷ (s ∷ [])) i 0) k in
    rw (a, b, d)

pub cell_long : (w : ℕ) (g : Cell) → length g.place ≡ w → length (cell_out g) ≡ stride w
cell_long w g h = omega (arith, length-append g.place (g.measure.count ∷ (g.measure.sum ∷ [])))

pub cell_out_in : (w : ℕ) (xs : List ℕ) → length xs ≡ stride w → cell_out (cell_in w xs) ≡ xs
cell_out_in w xs h =
    let a = drop_more xs w 0 (omega arith) in
    let b = drop_more xs (w + 1) 0 (omega arith) in
    let c : drop (w + 1 + 1) xs ≡ [] = drop_all (w + 1 + 1) xs (omega arith) in
    let d = take-append-drop w xs in
    cc

-- the i-th group of the table is read from where it lies
pub cell_at : (w i : ℕ) (xs : List ℕ) → i < count_in w xs → get_or (table_in w xs) i none ≡ cell_in w (take (stride w) (drop (start w i) xs))
cell_at w i xs h =
    part_at (cell_in w) (stride w) i (count_in w xs) (drop (w + 1) xs) none h
    ∙ ap (λ ys. cell_in w (take (stride w) ys)) (drop-drop (stride w * i) (w + 1) xs)

-- a place and two numbers, written one after the other over a part
written : (w : ℕ) (xs ys : List ℕ) (c s : ℕ) → length xs ≡ w + 2 → length ys ≡ w
    → set (set (ys ++ drop w xs) w c) (w + 1) s ≡ ys ++ (c ∷ (s ∷ []))
written w xs ys c s h l =
    let a : set (ys ++ drop w xs) w c ≡ ys ++ set (drop w xs) (w - w) c = set-append_right ys (drop w xs) w w c l (omega arith) in
    let b = drop_more xs w 0 (omega arith) in
    let d = drop_more xs (w + 1) 0 (omega arith) in
    let e : drop (w + 1 + 1) xs ≡ [] = drop_all (w + 1 + 1) xs (omega arith) in
    let m : w - w ≡ 0 = omega arith in
    let k : w + 1 - w ≡ 1 = omega arith in
    let f : set (drop w xs) (w - w) c ≡ c ∷ (get_or xs (w + 1) 0 ∷ []) = rw (m, b, d, e) in
    let g : set (ys ++ (c ∷ (get_or xs (w + 1) 0 ∷ []))) (w + 1) s ≡ ys ++ set (c ∷ (get_or xs (w + 1) 0 ∷ [])) (w + 1 - w) s =
    set-append_right ys (c ∷ (get_or xs (w + 1) 0 ∷ [])) w (w + 1) s l (omega arith) in
    let i : set (c ∷ (get_or xs (w + 1) 0 ∷ [])) (w + 1 - w) s ≡ c ∷ (s ∷ []) = rw k in
    rw (a, f, g, i)

pub part_written : (w at k n : ℕ) (xs ys : List ℕ) (c s : ℕ) → k ≡ stride w → n ≡ w → length ys ≡ w → at + stride w ≤ length xs
    → put_mid at k xs (set (set (put_mid 0 n (take k (drop at xs)) ys) w c) (w + 1) s) ≡ put_mid at (stride w) xs (ys ++ (c ∷ (s ∷ [])))
part_written w at k n xs ys c s e f l room =
    let long : length (take (w + 2) (drop at xs)) ≡ w + 2 = length-take-le (w + 2) (drop at xs) (omega (arith, length-drop at xs)) in
    rw (e, f, written w (take (w + 2) (drop at xs)) ys c s long l)

pub table_length : (w : ℕ) (xs : List ℕ) → length (table_in w xs) ≡ count_in w xs
table_length w xs = parts_length (cell_in w) (stride w) (count_in w xs) (drop (w + 1) xs)

-- the levels, the count and what lies behind it
pub row_split : (w : ℕ) (xs : List ℕ) → w < length xs → take (w + 1) xs ≡ take w xs ++ (count_in w xs ∷ [])
row_split w xs h = take_more xs w 0 h

-- the count is written, whatever lies behind it
recount : (w : ℕ) (xs ys : List ℕ) (m : ℕ) → w < length xs → set (take (w + 1) xs ++ ys) w m ≡ take w xs ++ (m ∷ ys)
recount w xs ys m h =
    let long : length (take w xs) ≡ w = length-take-le w xs (omega arith) in
    let a : take (w + 1) xs ++ ys ≡ take w xs ++ (count_in w xs ∷ ys) = rw (row_split w xs h) (append_assoc (take w xs) (count_in w xs ∷ []) ys) in
    rw a (set_at (take w xs) (count_in w xs) ys m w long)

behind : (w k : ℕ) (xs : List ℕ) → drop (stride w * k) (drop (w + 1) xs) ≡ drop (start w k) xs
behind w k xs = drop-drop (stride w * k) (w + 1) xs

-- a group is written over the i-th
pub row_set : (w i : ℕ) (xs : List ℕ) (g : Cell) → Whole w xs → i < count_in w xs
    → put_mid (start w i) (stride w) xs (cell_out g) ≡ holding w (set (table_in w xs) i g) xs
row_set w i xs g h l =
    let n = count_in w xs in
    let s = stride w in
    let ys = drop (w + 1) xs in
    let t = table_in w xs in
    let room : s * n ≤ length ys = omega (arith, length-drop (w + 1) xs) in
    let a : put_mid (start w i) s xs (cell_out g) ≡ take (w + 1) xs ++ put_mid (s * i) s ys (cell_out g) = put_mid_behind (w + 1) (s * i) s xs (cell_out g) in
    let b : put_mid (s * i) s ys (cell_out g) ≡ cells_out (set t i g) ++ drop (s * n) ys =
    part_set (cell_in w) s cell_out (cell_out_in w) i n ys g l room in
    let c : length (set t i g) ≡ n = length-set t i g ∙ table_length w xs in
    let d = behind w n xs in
    let e = row_split w xs (omega arith) in
    rw (a, b, e, c, d) (append_assoc (take w xs) (n ∷ []) (cells_out (set t i g) ++ drop (start w n) xs))

-- the groups from the i-th on move up, a group is written there, and there is one more
pub row_inserted : (w i : ℕ) (xs : List ℕ) (g : Cell) → start w (count_in w xs) + stride w ≤ length xs → i ≤ count_in w xs → length g.place ≡ w
    → set (put_mid (start w i) (stride w) (paste xs (start w i + stride w) (drop (start w i) xs) (start w (count_in w xs) - start w i)) (cell_out g))
    w (count_in w xs + 1)
    ≡ holding w (insert (table_in w xs) i g) xs
row_inserted w i xs g h l long =
    let n = count_in w xs in
    let s = stride w in
    let ys = drop (w + 1) xs in
    let t = table_in w xs in
    let moved = paste xs (start w i + s) (drop (start w i) xs) (start w n - start w i) in
    let mid = paste ys (s * i + s) (drop (s * i) ys) (s * n - s * i) in
    let room : s * n + s ≤ length ys = omega (arith, length-drop (w + 1) xs) in
    let head : length (take (w + 1) xs) ≡ w + 1 = length-take-le (w + 1) xs (omega arith) in
    let k : start w n - start w i ≡ s * n - s * i = omega arith in
    let k₂ : start w i + s ≡ w + 1 + (s * i + s) = omega arith in
    let a : moved ≡ take (w + 1) xs ++ mid = rw (k, k₂) (paste_behind (w + 1) (s * i + s) (s * i) (s * n - s * i) xs) in
    let a₁ : take (w + 1) moved ≡ take (w + 1) xs = rw a (take_at (take (w + 1) xs) mid (w + 1) head) in
    let a₂ : drop (w + 1) moved ≡ mid = rw a (drop_at (take (w + 1) xs) mid (w + 1) head) in
    let b : put_mid (start w i) s moved (cell_out g) ≡ take (w + 1) moved ++ put_mid (s * i) s (drop (w + 1) moved) (cell_out g) =
    put_mid_behind (w + 1) (s * i) s moved (cell_out g) in
    let c : put_mid (s * i) s mid (cell_out g) ≡ cells_out (insert t i g) ++ drop (s * (n + 1)) ys =
    part_inserted (cell_in w) s cell_out (cell_out_in w) i n ys g l room (cell_long w g long) in
    let d : length (insert t i g) ≡ n + 1 = length-insert t i g (omega (arith, table_length w xs)) ∙ ap (λ j. j + 1) (table_length w xs) in
    let e = behind w (n + 1) xs in
    let b₂ : put_mid (start w i) s moved (cell_out g) ≡ take (w + 1) xs ++ (cells_out (insert t i g) ++ drop (start w (n + 1)) xs) = cc in
    rw (b₂, d) (recount w xs _ (n + 1) (omega arith))

-- the groups behind the i-th move down, and there is one less
pub row_removed : (w i : ℕ) (xs : List ℕ) → Whole w xs → i < count_in w xs
    → set (paste xs (start w i) (drop (start w i + stride w) xs) (start w (count_in w xs) - (start w i + stride w))) w (count_in w xs - 1)
    ≡ holding w (remove (table_in w xs) i) xs
row_removed w i xs h l =
    let n = count_in w xs in
    let s = stride w in
    let ys = drop (w + 1) xs in
    let t = table_in w xs in
    let room : s * n ≤ length ys = omega (arith, length-drop (w + 1) xs) in
    let k : start w n - (start w i + s) ≡ s * n - (s * i + s) = omega arith in
    let k₂ : start w i + s ≡ w + 1 + (s * i + s) = omega arith in
    let a : paste xs (start w i) (drop (w + 1 + (s * i + s)) xs) (s * n - (s * i + s))
    ≡ take (w + 1) xs ++ paste ys (s * i) (drop (s * i + s) ys) (s * n - (s * i + s)) =
    paste_behind (w + 1) (s * i) (s * i + s) (s * n - (s * i + s)) xs in
    let c : paste ys (s * i) (drop (s * i + s) ys) (s * n - (s * i + s)) ≡ cells_out (remove t i) ++ drop (s * (n - 1)) ys =
    part_removed (cell_in w) s cell_out (cell_out_in w) i n ys l room in
    let d : length (remove t i) ≡ n - 1 = omega (arith, length-remove t i (omega (arith, table_length w xs)), table_length w xs) in
    let e = behind w (n - 1) xs in
    rw (k, k₂, a, c, d, e) (recount w xs _ (n - 1) (omega arith))
