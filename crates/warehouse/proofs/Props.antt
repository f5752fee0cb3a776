-- That memory holds a warehouse is a proposition: it can be so in one way only. Assumes nothing.
use Rattle.std.proofs.Common.{◌≡◌, ℕ, ◌+◌, ◌*◌, ◌^◌, ◌<◌, ◌≤◌, true, List, [], ◌∷◌, length, get_or}
use native.Mathlib.Bridge.{le_prop}
use base.Stored.{Coded, coded_via, coded_ℕ, coded_bool, coded_list, coded×, Coded-set}
use denote.Struct.Props.{props}
use std.Logic.{∥∥₁_elim}
use Rattle.std.specs.List.{AllByRecursion as All}
use Rattle.hierarchy.specs.Dimensions.{Dims}
use Rattle.hierarchy.specs.Levels.{are_levels, finest}
use Rattle.hierarchy.specs.Facts.{Entry}
use Rattle.ledger.specs.Book.{Holds}
use Rattle.totals.specs.Tables.{Measure, Cell, Table, table}
use Rattle.summary.specs.Memory as summary
use Rattle.model.specs.House.{Kept, House, Limits}
use Rattle.model.specs.Promises.{Sound, Whole, Valid}
use Rattle.storage.specs.Memory.{sides, wide, limits, part_size, house_in, Memory}
use Rattle.tables.specs.Memory.{part}
use Rattle.storage.specs.declared.layout.Layout.{Layout}

-- tables are equal in one way only
measure_coded : Coded Measure
measure_coded = coded_via (coded× coded_ℕ coded_ℕ) (λ (m : Measure). (m.count, m.sum)) (λ x y e i. record { count = (e i).0; sum = (e i).1 })

cell_coded : Coded Cell
cell_coded = coded_via (coded× (coded_list coded_ℕ) measure_coded) (λ (g : Cell). (g.place, g.measure)) (λ x y e i. record { place = (e i).0; measure = (e i).1 })

table_coded : Coded Table
table_coded = coded_list cell_coded

holds_prop : (w room : ℕ) (xs : List ℕ) → IsProp (Holds w room xs)
holds_prop w room xs p q = λ i. record { fits = le_prop p.fits q.fits i; long = le_prop p.long q.long i }

all_prop : {X : Type 0} (P : X → Type 0) → ((x : X) → IsProp (P x)) → (xs : List X) → IsProp (All P xs)
all_prop P h [] p q = λ i. tt
all_prop P h (x ∷ xs) p q = λ i. (h x p.0 q.0 i, all_prop P h xs p.1 q.1 i)

whole_prop : (ss : Dims) (e : Entry) → IsProp (Whole ss e)
whole_prop ss e p q =
    let wide : IsProp (length e.place ≡ length ss) = hlevel props in
    let small : IsProp ((j : ℕ) → j < length ss → get_or e.place j 0 < 2 ^ 32) = hlevel props in
    λ i. record { wide = wide p.wide q.wide i; small = small p.small q.small i; amount_small = le_prop p.amount_small q.amount_small i }

sound_prop : (ss : Dims) (h : House) → IsProp (Sound ss h)
sound_prop ss h p q =
    λ i. record {
      some = le_prop p.some q.some i;
      first = λ d. Coded-set (coded_list coded_ℕ) (get_or h.kept 0 d).levels (finest ss) (p.first d) (q.first d) i;
      there = λ j d l. Coded-set coded_bool (are_levels ss (get_or h.kept j d).levels) true (p.there j d l) (q.there j d l) i;
      right = λ j d l. Coded-set table_coded (get_or h.kept j d).cells (table ss (get_or h.kept j d).levels h.facts) (p.right j d l) (q.right j d l) i;
    }

valid_prop : (ss : Dims) (lim : Limits) (h : House) → IsProp (Valid ss lim h)
valid_prop ss lim h p q =
    λ i. record {
      sound = sound_prop ss h p.sound q.sound i;
      whole = all_prop (Whole ss) (whole_prop ss) h.facts p.whole q.whole i;
      few = le_prop p.few q.few i;
      tables = le_prop p.tables q.tables i;
      groups = all_prop (λ (k : Kept). length k.cells ≤ lim.groups) (λ k. le_prop) h.kept p.groups q.groups i;
    }

memory_prop : (l : Layout) (book tables : List ℕ) → IsProp (Memory l book tables)
memory_prop l book tables p q =
    λ i. record {
      booked = holds_prop (wide l) l.book.room book p.booked q.booked i;
      long = Coded-set coded_ℕ (length tables) (1 + part_size l * 16) p.long q.long i;
      sound = λ j k. summary.sound_prop (wide l) (part (part_size l) j tables) (p.sound j k) (q.sound j k) i;
      valid = valid_prop (sides l) (limits l) (house_in l book tables) p.valid q.valid i;
    }

-- so an invariant that says it can be used as it is
pub memory_is : (l : Layout) (book tables : List ℕ) → ∥ Memory l book tables ∥₁ → Memory l book tables
memory_is l book tables s = ∥∥₁_elim s (memory_prop l book tables) (λ m. m)
