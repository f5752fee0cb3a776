-- A deed over what is lent of owned memory is a deed on what is owned. Assumes nothing.
use Rattle.std.proofs.Common.{◌≡◌, ℕ, List, length, vec_items, vec_len, Vec, sym, ◌∙◌}
use Rattle.std.specs.Vec.{with_items}
use Rattle.std.proofs.lemmas.List.{with_items_is}
use Rattle.replies.specs.declared.Reply.{Reply}
use Rattle.model.specs.House.{Deed}
use Rattle.storage.specs.Memory.{Memory, Does}
use Rattle.storage.specs.declared.layout.Layout.{Layout}
use Rattle.warehouse.proofs.Props.{memory_is}

pub lent_memory : {l : Layout} {book tables bs ts : List ℕ} → bs ≡ book → ts ≡ tables → ∥ Memory l book tables ∥₁ → Memory l bs ts
lent_memory {l} {book} {tables} a b s = rw (a, b) (memory_is l book tables s)

owned_deed : {l : Layout} {d : Deed} {r : Reply} {book tables book₁ tables₁ bs ts bs₁ ts₁ : List ℕ} → bs ≡ book → ts ≡ tables → book₁ ≡ bs₁ → tables₁ ≡ ts₁
    → Does l d r bs ts bs₁ ts₁ → Does l d r book tables book₁ tables₁
owned_deed {l} {d} {r} a b e f does = rw (← a, ← b, e, f) does

-- of two owned rows, after both were lent
pub door_deed : {Z : Type 0} {l : Layout} {d : Deed} {r : Reply} (book tables : Vec ℕ Z) {bs ts bs₁ ts₁ : List ℕ} → bs ≡ vec_items book → ts ≡ vec_items tables
    → length bs ≡ vec_len book → length ts ≡ vec_len tables → length bs₁ ≡ length bs → length ts₁ ≡ length ts → Does l d r bs ts bs₁ ts₁
    → Does l d r (vec_items book) (vec_items tables) (vec_items (with_items book bs₁)) (vec_items (with_items tables ts₁))
door_deed book tables {bs₁ = bs₁} {ts₁ = ts₁} a b c e f g does = owned_deed a b (with_items_is book bs₁ (f ∙ c)) (with_items_is tables ts₁ (g ∙ e)) does

-- and where the book is only read
pub door_tables : {Z : Type 0} {l : Layout} {d : Deed} {r : Reply} (book tables : Vec ℕ Z) {bs ts ts₁ : List ℕ} → bs ≡ vec_items book → ts ≡ vec_items tables
    → length ts ≡ vec_len tables → length ts₁ ≡ length ts → Does l d r bs ts bs ts₁
    → Does l d r (vec_items book) (vec_items tables) (vec_items book) (vec_items (with_items tables ts₁))
door_tables book tables {ts₁ = ts₁} a b e g does = owned_deed a b (sym a) (with_items_is tables ts₁ (g ∙ e)) does
