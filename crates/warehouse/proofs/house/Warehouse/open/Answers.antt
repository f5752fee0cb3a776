use Rattle.std.proofs.Common.{ℕ, set, replicate, vec_items, refl, ap, ◌∙◌}
use Rattle.warehouse.proofs.Opened.{opened_house, opened_memory}
use Rattle.warehouse.proofs.house.Warehouse.open.Goals as goal

pub invariant_of-result : goal.invariant_of-result
invariant_of-result c =
    let book = c.in_ok-book.ensures.items_if_clones_equal (λ y e. e) ∙ ap (λ (n : ℕ). replicate n 0) c.book_length.ensures in
    let tables = ap (λ xs. set xs 0 1) (c.in_ok-tables.ensures.items_if_clones_equal (λ y e. e) ∙ ap (λ (n : ℕ). replicate n 0) c.tables_length.ensures) in
    record {
      valid = ∣ opened_memory c.args.layout (vec_items c.in_ok-book.book) (set (vec_items c.in_ok-tables.tables) 0 1) book tables ∣₁;
      exact = c.in_ok-row.ensures.len ∙ c.part_length.ensures.0;
    }

pub returns : goal.returns
returns c =
    let book = c.in_ok-book.ensures.items_if_clones_equal (λ y e. e) ∙ ap (λ (n : ℕ). replicate n 0) c.book_length.ensures in
    let tables = ap (λ xs. set xs 0 1) (c.in_ok-tables.ensures.items_if_clones_equal (λ y e. e) ∙ ap (λ (n : ℕ). replicate n 0) c.tables_length.ensures) in
    (refl, opened_house c.args.layout (vec_items c.in_ok-book.book) (set (vec_items c.in_ok-tables.tables) 0 1) book tables)
