-- What it says of a deed that it is refused, or that it is not. Assumes nothing.
use Rattle.std.proofs.Common.{◌≡◌, ℕ, zero, suc, ◌<◌, ◌≤◌, Bool, true, false, cond, leb, ◌⊎◌, length, Some, None, Option, sym, refl, inl, inr, arith}
use Rattle.std.specs.Option.{option_map}
use Rattle.std.proofs.lemmas.Bool.{leb-false, ltb-false, eqb-false}
use Rattle.hierarchy.specs.Dimensions.{Dims, Row}
use Rattle.hierarchy.specs.Levels.{same, finest}
use Rattle.hierarchy.specs.Facts.{copies}
use Rattle.hierarchy.specs.Reading.{levels_refusal, levels_in, fact_refusal, entry_in}
use Rattle.hierarchy.proofs.Theory.{fact_read}
use Rattle.replies.specs.declared.Refusal.{Refusal}
use Rattle.model.specs.House.{House, Limits, Deed, insert, delete, keep, drop_table, ask, refused, source, first_full, kept_at, table_length, or_else, refuse_if, not_kept, refusal, after, answered, unless, or_refused, step, told}
use Rattle.model.specs.Promises.{Whole}

-- a deed that is refused leaves the warehouse as it was and is told why; any other leaves what is after it and is told its answer
pub step_unless_refused : (ss : Dims) (lim : Limits) (h : House) (d : Deed) → step ss lim h d ≡ unless (refusal ss lim h d) (after ss h d) h
unfolding step
step_unless_refused ss lim h d = refl

pub told_or_refused : (ss : Dims) (lim : Limits) (h : House) (d : Deed) → told ss lim h d ≡ or_refused (refusal ss lim h d) (answered ss h d)
unfolding told
told_or_refused ss lim h d = refl

pub step_done : (ss : Dims) (lim : Limits) (h : House) (d : Deed) → refusal ss lim h d ≡ None → step ss lim h d ≡ after ss h d
step_done ss lim h d e = rw (step_unless_refused ss lim h d, e)

pub step_refused : (ss : Dims) (lim : Limits) (h : House) (d : Deed) (r : Refusal) → refusal ss lim h d ≡ Some r → step ss lim h d ≡ h
step_refused ss lim h d r e = rw (step_unless_refused ss lim h d, e)

pub told_done : (ss : Dims) (lim : Limits) (h : House) (d : Deed) → refusal ss lim h d ≡ None → told ss lim h d ≡ answered ss h d
told_done ss lim h d e = rw (told_or_refused ss lim h d, e)

pub told_refused : (ss : Dims) (lim : Limits) (h : House) (d : Deed) (r : Refusal) → refusal ss lim h d ≡ Some r → told ss lim h d ≡ refused r
told_refused ss lim h d r e = rw (told_or_refused ss lim h d, e)

-- a deed is refused or it is not
pub cases_refusal : (o : Option Refusal) → (o ≡ None) ⊎ ((r : Refusal) × (o ≡ Some r))
cases_refusal None = inl refl
cases_refusal (Some r) = inr (r, refl)

pub none_some : {A : Type 0} {P : Type 0} (x : A) → None ≡ Some x → P
none_some x h = let z : ◌≡◌ {A = ℕ} 0 1 = cc in absurd (omega arith)

-- no reason applies: none of the list does
pub or_none : (a b : Option Refusal) → or_else a b ≡ None → (a ≡ None) × (b ≡ None)
or_none None b h = (refl, h)
or_none (Some r) b h = none_some r (sym h)

pub refuse_none : (b : Bool) (r : Refusal) → refuse_if b r ≡ None → b ≡ false
refuse_none true r h = none_some r (sym h)
refuse_none false r h = refl

pub mapped_none : {A B : Type 0} (f : A → B) (o : Option A) → option_map f o ≡ None → o ≡ None
mapped_none f None h = refl
mapped_none f (Some x) h = none_some (f x) (sym h)

pub not_kept_none : (o : Option ℕ) → not_kept o ≡ None → (i : ℕ) × (o ≡ Some i)
not_kept_none None h = none_some _ (sym h)
not_kept_none (Some i) h = (i, refl)

pub cond_none : {A : Type 0} (v : Bool) (o : Option A) (x : A) → cond v o (Some x) ≡ None → (v ≡ true) × (o ≡ None)
cond_none true o x h = (refl, h)
cond_none false o x h = none_some x (sym h)

-- a fact that is not refused has as many numbers as there are dimensions, each below 2^32, and so is its amount
pub fact_whole : (ss : Dims) (xs : Row) → fact_refusal ss xs ≡ None → Whole ss (entry_in ss xs)
fact_whole ss xs h = let r = fact_read ss xs h in record { wide = r.0; small = λ j k. r.2 j (omega arith); amount_small = r.1 }

-- what each deed that is not refused has
pub insert_done : (ss : Dims) (lim : Limits) (h : House) (xs : Row) → refusal ss lim h (insert xs) ≡ None
    → (fact_refusal ss xs ≡ None) × (length h.facts < lim.facts) × (first_full ss lim (entry_in ss xs) 0 h.kept ≡ None)
insert_done ss lim h xs e =
    let a = or_none (fact_refusal ss xs) _ e in
    let b = or_none (refuse_if (leb lim.facts (length h.facts)) _) _ a.1 in
    (a.0, leb-false _ _ (refuse_none _ _ b.0), mapped_none _ (first_full ss lim (entry_in ss xs) 0 h.kept) b.1)

pub delete_done : (ss : Dims) (lim : Limits) (h : House) (xs : Row) → refusal ss lim h (delete xs) ≡ None
    → (fact_refusal ss xs ≡ None) × (0 < copies (entry_in ss xs) h.facts)
delete_done ss lim h xs e =
    let a = or_none (fact_refusal ss xs) _ e in
    let n = eqb-false (copies (entry_in ss xs) h.facts) 0 (refuse_none _ _ a.1) in
    (a.0, positive (copies (entry_in ss xs) h.facts) n)
  where
    positive : (n : ℕ) → (n ≡ 0 → ⊥) → 0 < n
    positive zero f = absurd (f refl)
    positive (suc n) f = omega arith

pub keep_done : (ss : Dims) (lim : Limits) (h : House) (xs : Row) → refusal ss lim h (keep xs) ≡ None
    → (levels_refusal ss xs ≡ None) × (kept_at (levels_in ss xs) 0 h.kept ≡ None) × (length h.kept < 16)
keep_done ss lim h xs e =
    let a = or_none (levels_refusal ss xs) _ e in
    let b = or_none (option_map _ (kept_at (levels_in ss xs) 0 h.kept)) _ a.1 in
    (a.0, mapped_none _ (kept_at (levels_in ss xs) 0 h.kept) b.0, leb-false _ _ (refuse_none _ _ b.1))

pub drop_done : (ss : Dims) (lim : Limits) (h : House) (xs : Row) → refusal ss lim h (drop_table xs) ≡ None
    → (levels_refusal ss xs ≡ None) × (same (levels_in ss xs) (finest ss) ≡ false)
    × ((i : ℕ) × (kept_at (levels_in ss xs) 0 h.kept ≡ Some i))
drop_done ss lim h xs e =
    let a = or_none (levels_refusal ss xs) _ e in
    let b = or_none (refuse_if (same (levels_in ss xs) (finest ss)) _) _ a.1 in
    (a.0, refuse_none _ _ b.0, not_kept_none (kept_at (levels_in ss xs) 0 h.kept) b.1)

pub ask_done : (ss : Dims) (lim : Limits) (h : House) (xs : Row) (n : ℕ) → refusal ss lim h (ask xs n) ≡ None
    → (levels_refusal ss xs ≡ None) × (table_length (length ss) (length (source ss (levels_in ss xs) h.kept).cells) ≤ n)
ask_done ss lim h xs n e = let a = or_none (levels_refusal ss xs) _ e in (a.0, ltb-false _ _ (refuse_none _ _ a.1))
