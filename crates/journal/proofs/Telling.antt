-- What is told of one deed, and of the deeds that are left. Assumes nothing.
use Rattle.std.proofs.Common.{◌≡◌, ℕ, true, false, eqb, List, [], ◌∷◌, ◌++◌, length, take, is_ok, Ok, Err, Result, None, Option, sym, refl, ap, ◌∙◌, append_assoc, append-nil, arith}
use Rattle.std.proofs.lemmas.Bool.{ne_eqb}
use Rattle.hierarchy.specs.Dimensions.{Dims, Row}
use Rattle.replies.specs.declared.Refusal.{Refusal}
use Rattle.replies.specs.declared.Reply.{Reply}
use Rattle.replies.specs.declared.Reply.TheVariants.{Shown}
use Rattle.replies.specs.Replies.{of_question}
use Rattle.totals.specs.Tables.{Table}
use Rattle.model.specs.House.{House, Limits, Deed, Told, done, shown, refused, empty, step, told}
use Rattle.storage.specs.Memory.{sides, limits, reply_of}
use Rattle.warehouse.specs.Views.{dims_in, limits_in, house_of}
use Rattle.warehouse.specs.declared.house.Warehouse.{Warehouse}
use Rattle.storage.specs.declared.layout.Layout.{Layout}
use Rattle.hierarchy.specs.Views.{dims_of}
use Rattle.hierarchy.specs.declared.dimensions.Dimensions.{Dimensions}
use Rattle.hierarchy.specs.Reading.{dims_refusal}
use Rattle.hierarchy.specs.Reading.{dims_in as read_dims}
use Rattle.formats.specs.Bytes.{Bytes, sides_of, behind_sides}
use Rattle.journal.specs.Days.{day_deeds, text_or_refusal, day_text}
use Rattle.journal.specs.Deeds.{deed_of, deeds_in, is_deed, is_whole, whole_past}
use Rattle.journal.specs.Steps.{Reads}
use Rattle.journal.proofs.Deeds.{deeds_read, deeds_stop, whole_stop}
use Rattle.formats.specs.Text.{table_text, reply_line}
use Rattle.journal.specs.Replies.{told_text, replies}
use Rattle.journal.specs.declared.deed.Kind.{Kind}

-- the reply is the one to an answer
pub told_shown : (d : Told) (n : ℕ) → Shown n ≡ reply_of d → (t : Table) × (d ≡ shown t n)
told_shown done n e = let z : ◌≡◌ {A = ℕ} 0 1 = cc in absurd (omega arith)
told_shown (shown t m) n e = let f : n ≡ m = cc in (t, ap (λ k. shown t k) (sym f))
told_shown (refused r) n e = let z : ◌≡◌ {A = ℕ} 0 1 = cc in absurd (omega arith)

pub shown_text : (d : Told) (n : ℕ) (t : Table) (t₀ t₁ t₂ : List ℕ) → d ≡ shown t n → t₁ ≡ t₀ ++ table_text t → t₂ ≡ t₁ ++ reply_line (Shown n) → t₂ ≡ t₀ ++ told_text d
shown_text d n t t₀ t₁ t₂ e a b =
    rw e (b ∙ (ap (λ (bs : List ℕ). bs ++ reply_line (Shown n)) a ∙ append_assoc t₀ (table_text t) (reply_line (Shown n))))

-- where a question was answered, the groups and the work are told, and else why not
pub answer_text : (d : Told) (r : Result ℕ Refusal) (t₀ t₁ t₂ : List ℕ) → of_question r ≡ reply_of d → is_ok r ≡ true
    → ((t : Table) (n : ℕ) → d ≡ shown t n → t₁ ≡ t₀ ++ table_text t) → t₂ ≡ t₁ ++ reply_line (of_question r) → t₂ ≡ t₀ ++ told_text d
answer_text d (Ok n) t₀ t₁ t₂ e ok table text = let a = told_shown d n e in shown_text d n a.0 t₀ t₁ t₂ a.1 (table a.0 n a.1) text
answer_text d (Err r) t₀ t₁ t₂ e ok table text = let z : ◌≡◌ {A = ℕ} 0 1 = cc in absurd (omega arith)

pub refused_text : (d : Told) (r : Result ℕ Refusal) (t₀ t₁ : List ℕ) → of_question r ≡ reply_of d → is_ok r ≡ false → t₁ ≡ t₀ ++ reply_line (of_question r)
    → t₁ ≡ t₀ ++ told_text d
refused_text d (Ok n) t₀ t₁ e bad text = let z : ◌≡◌ {A = ℕ} 0 1 = cc in absurd (omega arith)
refused_text done (Err x) t₀ t₁ e bad text = text ∙ ap (λ (r : Reply). t₀ ++ reply_line r) e
refused_text (shown t n) (Err x) t₀ t₁ e bad text = let z : ◌≡◌ {A = ℕ} 0 1 = cc in absurd (omega arith)
refused_text (refused y) (Err x) t₀ t₁ e bad text = text ∙ ap (λ (r : Reply). t₀ ++ reply_line r) e

-- what was told, and what is told of the deeds that are left
pub told_on : (ss : Dims) (lim : Limits) (h h₁ : House) (d : Deed) (ds : List Deed) (t₀ t₁ all : List ℕ) → t₁ ≡ t₀ ++ told_text (told ss lim h d)
    → h₁ ≡ step ss lim h d → t₀ ++ replies ss lim h (d ∷ ds) ≡ all → t₁ ++ replies ss lim h₁ ds ≡ all
unfolding replies
told_on ss lim h h₁ d ds t₀ t₁ all text house before =
    rw (text, house) (append_assoc t₀ (told_text (told ss lim h d)) (replies ss lim (step ss lim h d) ds) ∙ before)

pub told_end : (ss : Dims) (lim : Limits) (h : House) (t : List ℕ) → t ++ replies ss lim h [] ≡ t
unfolding replies
told_end ss lim h t = append-nil t

-- one turn of the run
pub turned : (house house₁ : Warehouse) (w m n : ℕ) (bs rest : Bytes) (kind : Kind) (count : ℕ) (xs ys : Row) (t₀ t₁ all : List ℕ) → Reads w bs kind count xs rest → m ≡ n
    → ys ≡ take count xs → t₁ ≡ t₀ ++ told_text (told (dims_in house) (limits_in house) (house_of house) (deed_of m kind ys))
    → house_of house₁ ≡ step (dims_in house) (limits_in house) (house_of house) (deed_of m kind ys) → house₁.layout ≡ house.layout
    → t₀ ++ replies (dims_in house) (limits_in house) (house_of house) (deeds_in w n bs) ≡ all
    → t₁ ++ replies (dims_in house₁) (limits_in house₁) (house_of house₁) (deeds_in w n rest) ≡ all
turned house house₁ w m n bs rest kind count xs ys t₀ t₁ all reads long numbers text after same before =
    let d : deed_of m kind ys ≡ deed_of n kind (take count xs) = ap (λ (k : ℕ). deed_of k kind ys) long ∙ ap (λ (zs : Row). deed_of n kind zs) numbers in
    let read = deeds_read w n bs kind count xs rest reads in
    let more = told_on (dims_in house) (limits_in house) (house_of house) (house_of house₁) (deed_of n kind (take count xs)) (deeds_in w n rest) t₀ t₁ all
    (text ∙ ap (λ (e : Deed). t₀ ++ told_text (told (dims_in house) (limits_in house) (house_of house) e)) d)
    (after ∙ ap (λ (e : Deed). step (dims_in house) (limits_in house) (house_of house) e) d)
    (ap (λ (ds : List Deed). t₀ ++ replies (dims_in house) (limits_in house) (house_of house) ds) (sym read) ∙ before) in
    ap (λ (l : Layout). t₁ ++ replies (sides l) (limits l) (house_of house₁) (deeds_in w n rest)) same ∙ more

-- the end of the run: no deed is left
pub run_ended : (house : Warehouse) (w n : ℕ) (bs : Bytes) (t all : List ℕ) → is_deed w bs ≡ false
    → t ++ replies (dims_in house) (limits_in house) (house_of house) (deeds_in w n bs) ≡ all → t ≡ all
run_ended house w n bs t all none before =
    sym (told_end (dims_in house) (limits_in house) (house_of house) t)
    ∙ (ap (λ (ds : List Deed). t ++ replies (dims_in house) (limits_in house) (house_of house) ds) (sym (deeds_stop w n bs none)) ∙ before)

pub run_whole : (w : ℕ) (bs : Bytes) → is_deed w bs ≡ false → eqb (length bs) 0 ≡ is_whole w bs
unfolding whole_past
run_whole w [] none = refl
run_whole w (b ∷ bs) none = ne_eqb (length (b ∷ bs)) 0 (λ e. omega arith) ∙ sym (whole_stop w (b ∷ bs) none (omega arith))

-- the run begins with an empty warehouse
pub begun : (ss ss₁ : Dims) (lim lim₁ : Limits) (h h₁ : House) (w w₁ n n₁ : ℕ) (bs : Bytes) (t : List ℕ) → ss ≡ ss₁ → lim ≡ lim₁ → h ≡ h₁ → w ≡ w₁ → n ≡ n₁ → t ≡ []
    → t ++ replies ss lim h (deeds_in w n bs) ≡ replies ss₁ lim₁ h₁ (deeds_in w₁ n₁ bs)
begun ss ss₁ lim lim₁ h h₁ w w₁ n n₁ bs t a b c d e f = rw (a, b, c, d, e, f) refl

-- the text of the whole day
pub day_told : (lim : Limits) (n : ℕ) (bs part : Bytes) (row text : List ℕ) (dims : Dimensions) → row ≡ sides_of bs → dims_refusal row ≡ None → dims_of dims ≡ read_dims row
    → part ≡ behind_sides bs → text ≡ replies (dims_of dims) lim (empty (dims_of dims)) (deeds_in (length (dims_of dims)) n part) → text ≡ day_text lim n bs
day_told lim n bs part row text dims a none b c t =
    let ss : dims_of dims ≡ read_dims (sides_of bs) = b ∙ ap read_dims a in
    let good : dims_refusal (sides_of bs) ≡ None = ap dims_refusal (sym a) ∙ none in
    t ∙ (ap (λ (zs : Dims). replies zs lim (empty zs) (deeds_in (length zs) n part)) ss
    ∙ (ap (λ (ys : Bytes). replies (read_dims (sides_of bs)) lim (empty (read_dims (sides_of bs))) (deeds_in (length (read_dims (sides_of bs))) n ys)) c
    ∙ sym (ap (λ (o : Option Refusal). text_or_refusal o (replies (read_dims (sides_of bs)) lim (empty (read_dims (sides_of bs))) (day_deeds n bs))) good)))
