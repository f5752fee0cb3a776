-- Every answer in a day's text is the table of the facts that came before it and did not go. Assumes nothing.
use Rattle.std.proofs.Common.{◌≡◌, ℕ, ◌+◌, ◌*◌, ◌≤◌, List, [], ◌∷◌, ◌++◌, length, get_or, Option, sym, refl, ap, ◌∙◌, subst, append_assoc, mul-le-mul_right, arith}
use Rattle.hierarchy.specs.Dimensions.{Dims, Row}
use Rattle.hierarchy.specs.Levels.{finest}
use Rattle.hierarchy.proofs.Theory.{read_right}
use Rattle.replies.specs.declared.Refusal.{Refusal}
use Rattle.replies.specs.declared.Reply.TheVariants.{Shown}
use Rattle.totals.specs.Cost.{size}
use Rattle.totals.specs.Tables.{Table}
use Rattle.model.specs.House.{House, Kept, Limits, Deed, ask, shown, empty, step, told, end, table_length}
use Rattle.model.specs.Promises.{reached}
use Rattle.model.proofs.Laws.{step_ask}
use Rattle.model.proofs.Theory.{always_sound, within_limits, always_answered, totals_right, facts_balance}
use Rattle.tables.specs.Rooms.{limits_of, row_of}
use Rattle.tables.specs.declared.room.Room.{Room}
use Rattle.formats.specs.Bytes.{Bytes, sides_of}
use Rattle.journal.specs.Answers.{AnswersRight}
use Rattle.formats.specs.Text.{table_text, reply_line}
use Rattle.journal.specs.Days.{day_dims, day_deeds, day_text, text_or_refusal}
use Rattle.journal.specs.Replies.{told_text, replies}

-- deeds behind others are answered by the warehouse that those lead to
replies_append : (ss : Dims) (lim : Limits) (h : House) (ds es : List Deed)
    → replies ss lim h (ds ++ es) ≡ replies ss lim h ds ++ replies ss lim (end ss lim h ds) es
unfolding replies end
replies_append ss lim h [] es = refl
replies_append ss lim h (d ∷ ds) es =
    ap (λ (t : List ℕ). told_text (told ss lim h d) ++ t) (replies_append ss lim (step ss lim h d) ds es)
    ∙ sym (append_assoc (told_text (told ss lim h d)) (replies ss lim (step ss lim h d) ds) (replies ss lim (end ss lim (step ss lim h d) ds) es))

replies_first : (ss : Dims) (lim : Limits) (h : House) (d : Deed) (ds : List Deed)
    → replies ss lim h (d ∷ ds) ≡ told_text (told ss lim h d) ++ replies ss lim (step ss lim h d) ds
unfolding replies
replies_first ss lim h d ds = refl

-- the lent row has room for the finest table of one to four dimensions
row_holds : (ss : Dims) (room : Room) (ds : List Deed) → length ss ≤ 4
    → table_length (length ss) (size ss (reached ss (limits_of room) ds).facts (finest ss)) ≤ row_of room
row_holds ss room ds few =
    let h = reached ss (limits_of room) ds in
    let d : Kept = record { levels = []; cells = [] } in
    let s = always_sound ss (limits_of room) ds in
    let groups = (within_limits ss (limits_of room) ds).2 0 d s.some in
    let r = s.right 0 d s.some in
    let f = s.first d in
    let q : length (get_or h.kept 0 d).cells ≡ size ss h.facts (finest ss) = cc in
    let n = size ss h.facts (finest ss) in
    let a : n ≤ room.groups = omega (arith, groups, q) in
    let b : (length ss + 2) * n ≤ 6 * n = mul-le-mul_right n (omega arith) in
    omega (arith, a, b)

-- one question, where the warehouse shows a table with its work
printed_so : (ss : Dims) (lim : Limits) (before after : List Deed) (xs : Row) (n work : ℕ) (t u : Table) (text : List ℕ)
    → text ≡ replies ss lim (empty ss) (before ++ (ask xs n ∷ after)) → told ss lim (reached ss lim before) (ask xs n) ≡ shown t work → t ≡ u
    → text ≡ replies ss lim (empty ss) before ++ ((table_text u ++ reply_line (Shown work)) ++ replies ss lim (reached ss lim before) after)
printed_so ss lim before after xs n work t u text is answer same =
    let h = reached ss lim before in
    let one = replies_first ss lim h (ask xs n) after in
    let stays = step_ask ss lim h xs n in
    let line : told_text (told ss lim h (ask xs n)) ≡ table_text u ++ reply_line (Shown work) = ap told_text answer ∙ ap (λ (x : Table). table_text x ++ reply_line (Shown work)) same in
    let rest : replies ss lim h (ask xs n ∷ after) ≡ (table_text u ++ reply_line (Shown work)) ++ replies ss lim h after =
    one ∙ (ap (λ (x : List ℕ). x ++ replies ss lim (step ss lim h (ask xs n)) after) line
    ∙ ap (λ (g : House). (table_text u ++ reply_line (Shown work)) ++ replies ss lim g after) stays) in
    is ∙ (replies_append ss lim (empty ss) before (ask xs n ∷ after) ∙ ap (λ (x : List ℕ). replies ss lim (empty ss) before ++ x) rest)

pub answers_right : (room : Room) (bs : Bytes) → AnswersRight (limits_of room) (row_of room) bs (day_text (limits_of room) (row_of room) bs)
answers_right room bs before after xs good deeds there =
    let ss = day_dims bs in
    let lim = limits_of room in
    let few = (read_right.0 (sides_of bs) good).1 in
    let answer = always_answered ss lim before xs (row_of room) there (row_holds ss room before few) in
    let right = totals_right ss lim before xs (row_of room) answer.0 answer.1 answer.2 in
    let text : day_text lim (row_of room) bs ≡ replies ss lim (empty ss) (before ++ (ask xs (row_of room) ∷ after)) =
    ap (λ (o : Option Refusal). text_or_refusal o (replies ss lim (empty ss) (day_deeds (row_of room) bs))) good
    ∙ ap (λ (ds : List Deed). replies ss lim (empty ss) ds) deeds in
    record {
      facts = (reached ss lim before).facts;
      work = answer.1;
      balance = facts_balance ss lim before;
      printed = printed_so ss lim before after xs (row_of room) answer.1 answer.0 _ (day_text lim (row_of room) bs) text answer.2 right.0;
      least = right.1;
      attained = right.2;
    }

pub right_so : (room : Room) (bs : Bytes) (text : List ℕ) → text ≡ day_text (limits_of room) (row_of room) bs → AnswersRight (limits_of room) (row_of room) bs text
right_so room bs text is = subst (λ (x : List ℕ). AnswersRight (limits_of room) (row_of room) bs x) (sym is) (answers_right room bs)
