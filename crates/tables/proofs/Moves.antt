-- A table that is put behind the others, and one that goes. Assumes nothing.
use Rattle.std.proofs.Common.{◌≡◌, ℕ, suc, ◌+◌, ◌-◌, ◌*◌, ◌<◌, ◌≤◌, List, [], ◌∷◌, ◌++◌, length, get_or, take, drop, set, sym, ap, ◌∙◌, inl, inr, arith, length-append}
use borrow.Rule.Slice.PartMut.{put_mid}
use Rattle.std.specs.List.{remove}
use Rattle.std.proofs.lemmas.List.{ext_get_or, get_or-take, get_or-drop, get_or-set_same, drop-set-lt, length-take-le, length_push, get_or_push, get_or_append_left}
use Rattle.std.proofs.lemmas.List.Edits.{length-remove, get_or-remove_below, get_or-remove_above}
use Rattle.std.proofs.lemmas.Bool.{cases_lt}
use Rattle.hierarchy.specs.Dimensions.{Dims}
use Rattle.hierarchy.proofs.Parts.{next_place, place_le}
use Rattle.summary.specs.Memory as summary
use Rattle.summary.specs.Memory.{start, row_over, rolled_in}
use Rattle.summary.proofs.Holdings.{levels_row, table_row}
use Rattle.summary.proofs.Rows.{table_length}
use Rattle.summary.proofs.Rolls.{wide_rolled}
use Rattle.summary.proofs.Soundness.{wide_table}
use Rattle.model.specs.House.{Kept}
use Rattle.tables.specs.Memory.{wide, part_size, part, kept_in}
use Rattle.tables.specs.Ready.{kept_table, kept_tables, Ready, Left}
use Rattle.tables.specs.declared.layout.TableLayout.{TableLayout}
use Rattle.tables.proofs.Places.{within, part_written, part_before, tables_length, table_at, tables_are, part_long}

-- the number of tables lies before the parts
pub part_set : (s j v : ℕ) (xs : List ℕ) → part s j (set xs 0 v) ≡ part s j xs
part_set s j v xs = ap (take s) (drop-set-lt (1 + s * j) xs 0 v (omega arith))

-- a part that has the numbers of another
pub part_same : (s j k : ℕ) (xs ys : List ℕ) → 1 + s * j + s ≤ length xs → 1 + s * k + s ≤ length ys
    → ((m : ℕ) → m < s → get_or ys (1 + s * k + m) 0 ≡ get_or xs (1 + s * j + m) 0) → part s k ys ≡ part s j xs
part_same s j k xs ys p q h =
    let a = part_long s j xs p in
    let b = part_long s k ys q in
    ext_get_or 0 (part s k ys) (part s j xs) (b ∙ sym a)
    (λ m n.
    let below : m < s = omega arith in
    (get_or-take s (drop (1 + s * k) ys) m 0 below ∙ get_or-drop (1 + s * k) ys m 0)
    ∙ (h m below ∙ sym (get_or-take s (drop (1 + s * j) xs) m 0 below ∙ get_or-drop (1 + s * j) xs m 0)))

-- a kept table fits its part
pub table_fits : (l : TableLayout) (tables : List ℕ) (i : ℕ) → Ready l tables → i < get_or tables 0 0
    → start (wide l) (length (kept_table l i tables).cells) ≤ part_size l
table_fits l tables i r h =
    let xs = part (part_size l) i tables in
    let n = table_length (wide l) xs in
    let long = part_long (part_size l) i tables (omega (arith, within (part_size l) i (omega (arith, r.few)), r.long)) in
    rw n (omega (arith, (r.sound i h).whole))

-- a table rolled up into a row is there
pub rolled_kept : (w : ℕ) (ss : Dims) (ls from to ys : List ℕ) → length ss ≡ w → length ls ≡ w → summary.Sound w from
    → ys ≡ row_over w ls (rolled_in w ss ls from) to → kept_in w ys ≡ record { levels = ls; cells = rolled_in w ss ls from }
rolled_kept w ss ls from to ys a b s e =
    let t = rolled_in w ss ls from in
    let long : length (take w from) ≡ w = length-take-le w from (omega (arith, s.whole)) in
    let wide-t = wide_rolled w ss (take w from) ls (summary.table_in w from) a long b (wide_table w from s.whole) in
    let p = levels_row w ls b t (drop (start w (length t)) to) in
    let q = table_row w ls b t (drop (start w (length t)) to) wide-t in
    cc

-- a table behind the others
module _ (l : TableLayout) (xs row : List ℕ) (long : length xs ≡ 1 + part_size l * 16) (room : get_or xs 0 0 < 16) (exact : length row ≡ part_size l) where
  pub pushed : (ys : List ℕ) (k : Kept) → ys ≡ set (put_mid (1 + part_size l * get_or xs 0 0) (part_size l) xs row) 0 (get_or xs 0 0 + 1)
      → ((i : ℕ) → i < get_or xs 0 0 → summary.Sound (wide l) (part (part_size l) i xs)) → summary.Sound (wide l) row → kept_in (wide l) row ≡ k
      → Left l (kept_tables l xs ++ (k ∷ [])) ys
  pushed ys k e sound row-sound is =
      let w = wide l in
      let s = part_size l in
      let n = get_or xs 0 0 in
      let zs = put_mid (1 + s * n) s xs row in
      let fits : 1 + s * n + s ≤ length xs = omega (arith, within s n room) in
      let some : 0 < length zs = omega (arith, length-append (take (1 + s * n) xs) (row ++ drop s (drop (1 + s * n) xs)), length-take-le (1 + s * n) xs (omega arith)) in
      let count : get_or ys 0 0 ≡ n + 1 = rw e (get_or-set_same zs 0 (n + 1) 0 some) in
      let before : (j : ℕ) → j < n → part s j ys ≡ part s j xs = λ j h. rw e (part_set s j (n + 1) zs ∙ part_before s n xs row fits exact j h) in
      let last : part s n ys ≡ row = rw e (part_set s n (n + 1) zs ∙ part_written s n xs row fits exact) in
      let ks = kept_tables l xs in
      let ks-long : length ks ≡ n = tables_length w s xs in
      let all-long = length_push ks k in
      record {
        are = tables_are w s ys (ks ++ (k ∷ [])) (omega (arith, count, ks-long, all-long))
            (λ i d h. elim (cases_lt i n) [
              | inl below ↦ ap (kept_in w) (before i below) ∙ sym (get_or_append_left ks (k ∷ []) d i (omega (arith, ks-long)) ∙ table_at w s i xs d below)
              | inr past ↦
                  let here : i ≡ n = omega (arith, all-long, ks-long) in
                  rw here (ap (kept_in w) last ∙ (is ∙ sym (get_or_push ks k d n ks-long)))
            ]);
        sound = λ i h. elim (cases_lt i n) [
          | inl below ↦ rw (before i below) (sound i below)
          | inr past ↦ let here : i ≡ n = omega (arith, count) in rw (here, last) row-sound
        ];
      }

-- the later ones move up over one
module _ (l : TableLayout) (i : ℕ) (xs : List ℕ) (long : length xs ≡ 1 + part_size l * 16) (few : get_or xs 0 0 ≤ 16) (there : i < get_or xs 0 0) where
  pub closed : (ys zs : List ℕ) → ys ≡ set zs 0 (get_or xs 0 0 - 1) → length zs ≡ length xs
      → ((k d : ℕ) → k < 1 + part_size l * i → get_or zs k d ≡ get_or xs k d)
      → ((k d : ℕ) → 1 + part_size l * i ≤ k → k < 1 + part_size l * i + (1 + part_size l * get_or xs 0 0 - (1 + part_size l * (i + 1)))
      → get_or zs k d ≡ get_or xs (1 + part_size l * (i + 1) + (k - (1 + part_size l * i))) d)
      → ((j : ℕ) → j < get_or xs 0 0 → summary.Sound (wide l) (part (part_size l) j xs))
      → Left l (remove (kept_tables l xs) i) ys
  closed ys zs e len low high sound =
      let w = wide l in
      let s = part_size l in
      let n = get_or xs 0 0 in
      let count : get_or ys 0 0 ≡ n - 1 = rw e (get_or-set_same zs 0 (n - 1) 0 (omega arith)) in
      let before : (j : ℕ) → j < i → part s j ys ≡ part s j xs =
      λ j h.
      let f = within s j (omega arith) in
      let g : s * j + s ≤ s * i = omega (arith, place_le s (suc j) i (omega arith), next_place s j) in
      rw e (part_set s j (n - 1) zs ∙ part_same s j j xs zs (omega arith) (omega arith) (λ m q. low (1 + s * j + m) 0 (omega arith))) in
      let behind : (j : ℕ) → i ≤ j → j < n - 1 → part s j ys ≡ part s (j + 1) xs =
      λ j h k.
      let f = within s j (omega arith) in
      let f₁ = within s (j + 1) (omega arith) in
      let next : j + 1 ≡ suc j = omega arith in
      let a : s * (j + 1) ≡ s + s * j = rw next (next_place s j) in
      let next-i : i + 1 ≡ suc i = omega arith in
      let b : s * (i + 1) ≡ s + s * i = rw next-i (next_place s i) in
      let g : s * i ≤ s * j = place_le s i j h in
      let g₂ : s * (j + 1) + s ≤ s * n = omega (arith, place_le s (suc (j + 1)) n (omega arith), next_place s (j + 1)) in
      rw e (part_set s j (n - 1) zs ∙ part_same s (j + 1) j xs zs (omega arith) (omega arith)
      (λ m q.
      let p : 1 + s * (i + 1) + ((1 + s * j + m) - (1 + s * i)) ≡ 1 + s * (j + 1) + m = omega arith in
      rw p at (high (1 + s * j + m) 0 (omega arith) (omega arith)))) in
      let ks = kept_tables l xs in
      let ks-long : length ks ≡ n = tables_length w s xs in
      let all-long = length-remove ks i (omega (arith, ks-long)) in
      record {
        are = tables_are w s ys (remove ks i) (omega (arith, count, ks-long, all-long))
            (λ j d h. elim (cases_lt j i) [
              | inl below ↦
                  ap (kept_in w) (before j below)
                  ∙ sym (get_or-remove_below ks i d j below (omega (arith, ks-long)) ∙ table_at w s j xs d (omega arith))
              | inr past ↦
                  let k : j < n - 1 = omega (arith, all-long, ks-long) in
                  ap (kept_in w) (behind j past k)
                  ∙ sym (get_or-remove_above ks i d j past (omega (arith, ks-long)) ∙ table_at w s (j + 1) xs d (omega arith))
            ]);
        sound = λ j h. elim (cases_lt j i) [
          | inl below ↦ rw (before j below) (sound j (omega arith))
          | inr past ↦ let k : j < n - 1 = omega (arith, count) in rw (behind j past k) (sound (j + 1) (omega arith))
        ];
      }
