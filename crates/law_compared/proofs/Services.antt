-- A table behind lines is the reply of a service to a line that asks for it.
use Rattle.std.proofs.Common.{◌≡◌, ◌≢◌, ℕ, suc, ◌+◌, ◌++◌, List, [], ◌∷◌, length, take, drop, All, Bool, true, false, cond, not, Option, Some, None, Result, Ok, codes, refl, sym, ap, ap₂, subst, ◌∙◌, arith, inl, inr, append-nil, append_assoc}
use Rattle.std.specs.Prelude.{OnSome, option_and_then}
use Rattle.std.specs.Io.KnownBytes.{Consumes, IsAtEnd}
use Rattle.std.specs.List.{after_first, before_first, flat_map, position_or_len}
use Rattle.std.specs.Result.{result_ok}
use Rattle.std.specs.Fmt.{digits}
use Rattle.std.specs.Str.{is_utf8}
use Rattle.std.proofs.lemmas.Bool.Decides.{eqb_tells}
use Rattle.std.proofs.lemmas.Str.{is_utf8-from_IsUtf8}
use Rattle.json.specs.Print.{escape_byte}
use Rattle.json.proofs.Printed.Utf8.{IsUtf8-are_ascii}
use Rattle.std.proofs.Math.Seq.{drop-append-add, take-append_seam}
use Rattle.std.proofs.lemmas.List.{map-append}
use Rattle.std.proofs.lemmas.List.Concat.{flat_map-append, flat_map-cons}
use Rattle.std.proofs.lemmas.List.Elements.{All-append, All-cons, All-head, All-nil, All-tail}
use Rattle.serde_json.specs.Data as json
use Rattle.serde_json.specs.Data.{Data}
use Rattle.serde_json.specs.Written.{compact_text}
use Rattle.ent_json.specs.Line.{data_of}
use Rattle.ent_polform.proofs.Fitting.{Fits, object_fits, text_fits}
use Rattle.cli_serve.specs.Limiting.{bounded}
use Rattle.ent_table.specs.State.{table_of}
use Rattle.law_rebuild.proofs.Started.{emptied_new}
use Rattle.ent_report.specs.World.{World}
use Rattle.ent_command.specs.Asked as asked
use Rattle.ent_command.specs.Asked.{Command, command_in, form_of}
use Rattle.ent_line.specs.Beside.{Beside}
use Rattle.ent_line.specs.Cells.{table_reply}
use Rattle.ent_line.specs.Commands.{heard, requested, respond, run, table_told, told}
use Rattle.ent_line.specs.Headline.{IsHeadline}
use Rattle.ent_command.specs.Asking.{asked_by}
use Rattle.ent_wire.specs.Lines.{IsOneLine, NoNewline, Splits, ended}
use Rattle.ent_line.specs.Replies.{Answer, line_of, refused, text}
use Rattle.ent_line.specs.Runs.{Handling, Run}
use Rattle.ent_line.specs.Serving.{with_last}
use Rattle.ent_line.specs.Step.{Answers, at_start}
use Rattle.ent_wire.specs.declared.refusal.Refusal.{Refusal}
use Rattle.ent_wire.specs.declared.refusal.Refusal.TheVariants.{Memory}
use Rattle.ent_line.proofs.LineLemmas.{split_once}
use Rattle.law_restart.proofs.Lines.{texts_are_lines}
use Rattle.law_restart.proofs.Texts.{texts_read_back}
use Rattle.script_files.specs.declared.session.SentLine.{SentLine}
use Rattle.cli_replies.specs.Comparing.{behind, is_newline, is_wanting}
use Rattle.cli_compare.specs.Differing.{base_of, is_state, table_line}
use Rattle.cli_serve.specs.Starting.{categories, start_of}
use Rattle.cli_serve.specs.Replying.{AreRepliesTo}
use Rattle.cli_replies.specs.Comparing.{asked as sent}
use Rattle.law_compared.specs.Difference.{IsDifference}
use Rattle.law_compared.specs.Services.{AreLines, ComparisonsTellTables, IsTableOf, TablesAreReplies, lines_in}
use Rattle.law_compared.proofs.Laws.{differences_are_told}

-- ---- a line and what stands behind it

not_newline : (b : ℕ) → b ≢ 10 → is_newline b ≡ false
not_newline b other = elim (eqb_tells b 10) [
  | inl same ↦ absurd (other same.1)
  | inr differs ↦ differs.0
]

newline_at : (line rest : List ℕ) → NoNewline line → position_or_len is_newline (line ++ 10 ∷ rest) ≡ length line
newline_at [] rest none = refl
newline_at (b ∷ line) rest none =
    ap (λ t. cond (not t) (1 + position_or_len is_newline (line ++ 10 ∷ rest)) 0) (not_newline b (All-head (λ x. x ≢ 10) b line none))
    ∙ omega (arith, newline_at line rest (All-tail (λ x. x ≢ 10) b line none))

first_line : (line rest : List ℕ) → NoNewline line → before_first is_newline (line ++ 10 ∷ rest) ≡ line
first_line line rest none = ap (λ n. take n (line ++ 10 ∷ rest)) (newline_at line rest none) ∙ take-append_seam line (10 ∷ rest)

behind_line : (line rest : List ℕ) → NoNewline line → after_first is_newline (line ++ 10 ∷ rest) ≡ rest
behind_line line rest none = ap (λ n. drop (n + 1) (line ++ 10 ∷ rest)) (newline_at line rest none) ∙ drop-append-add line (10 ∷ rest) 1

-- of a reply that is one line
behind_reply : (reply rest : List ℕ) → IsOneLine reply → after_first is_newline (reply ++ rest) ≡ rest
behind_reply reply rest (line, none, is) =
    ap (λ x. after_first is_newline (x ++ rest)) is ∙ ap (after_first is_newline) (append_assoc line (10 ∷ []) rest) ∙ behind_line line rest none

first_reply : (reply : List ℕ) → IsOneLine reply → before_first is_newline reply ++ 10 ∷ [] ≡ reply
first_reply reply (line, none, is) = ap (λ x. before_first is_newline x ++ 10 ∷ []) is ∙ ap (λ x. x ++ 10 ∷ []) (first_line line [] none) ∙ sym is

-- ---- a run whose last line is known

-- its answers but the last, the last, and the world before it
record Ends {W : Type 0} (H : Handling W) (w : W) (lines : List (List ℕ)) (last : List ℕ) (answers : List Answer) (v : W) : Type 0 where
  before : List Answer
  answer : Answer
  middle : W
  are : answers ≡ before ++ answer ∷ []
  many : length before ≡ length lines
  run : Run H w lines before middle
  step : H middle last answer v

run_ends : {W : Type 0} (H : Handling W) (w : W) (lines : List (List ℕ)) (last : List ℕ) (answers : List Answer) (v : W) → Run H w (lines ++ last ∷ []) answers v → Ends H w lines last answers v
run_ends {W} H w [] last [] v r = absurd r
run_ends {W} H w [] last (a ∷ []) v (mid, step, same) = record { before = []; answer = a; middle = w; are = refl; many = refl; run = refl; step = subst (λ u. H w last a u) (sym same) step }
run_ends {W} H w [] last (a ∷ b ∷ answers) v (mid, step, r) = absurd r
run_ends {W} H w (line ∷ lines) last [] v r = absurd r
run_ends {W} H w (line ∷ lines) last (a ∷ answers) v (mid, step, r) =
    let rest = run_ends H mid lines last answers v r in record {
      before = a ∷ rest.before;
      answer = rest.answer;
      middle = rest.middle;
      are = ap (λ (x : List Answer). a ∷ x) rest.are;
      many = ap suc rest.many;
      run = (mid, step, rest.run);
      step = rest.step;
    }

-- what stands behind the replies to steps is the last one
replies_behind : (w v : World) (steps : List SentLine) (answers : List Answer) (last : List ℕ) → IsHeadline → Run Answers w (lines_in steps) answers v
    → behind steps (flat_map line_of answers ++ last) ≡ last
replies_behind w v [] [] last h r = refl
replies_behind w v [] (a ∷ answers) last h r = absurd r
replies_behind w v (step ∷ steps) [] last h r = absurd r
replies_behind w v (step ∷ steps) (a ∷ answers) last h (mid, one, r) =
    ap (λ x. behind steps (after_first is_newline (x ++ last))) (flat_map-cons line_of a answers)
    ∙ ap (λ x. behind steps (after_first is_newline x)) (append_assoc (line_of a) (flat_map line_of answers) last)
    ∙ ap (behind steps) (behind_reply (line_of a) (flat_map line_of answers ++ last) ((h.lines w step.line).one_line mid a one))
    ∙ replies_behind mid v steps answers last h r

-- ---- the line that asks for the table

table_data : Data
table_data = json.object (json.member (codes "do") (json.string (codes "table")) json.no_members)

-- the line without its newline
abbrev table_asked : List ℕ
table_asked = codes "{\"do\":\"table\"}"

table_fits : Fits 2 table_data
unfolding table_data
table_fits = object_fits 0 ((codes "do", Some (json.string (codes "table"))) ∷ []) refl (text_fits 0 _, tt)

table_written : table_asked ≡ compact_text table_data
unfolding table_data escape_byte
table_written = refl

table_utf8 : is_utf8 table_asked ≡ true
table_utf8 = is_utf8-from_IsUtf8 table_asked (IsUtf8-are_ascii table_asked refl)

table_read : data_of table_asked ≡ Some table_data
table_read =
    let low = table_fits.shallow in
    ap data_of table_written ∙ texts_read_back table_data table_fits.plain (omega arith) (ap is_utf8 (sym table_written) ∙ table_utf8)

table_is : command_in table_data ≡ Ok (0, asked.question asked.table)
unfolding table_data command_in form_of
table_is = refl

table_asks : asked_by table_asked ≡ Some (0, asked.question asked.table)
table_asks =
    ap (option_and_then (λ d. result_ok (command_in d))) table_read ∙ ap (λ (r : Result (ℕ × Command) Refusal). result_ok r) table_is

no_newline : NoNewline table_asked
no_newline = subst NoNewline (sym table_written) (texts_are_lines table_data table_fits.plain)

-- ---- its answer

-- what it is answered unless memory is wanting
told_by : (n : Beside) (w v : World) (a : Answer) → (a, v) ≡ respond n w table_asked → a ≡ text (compact_text (table_reply (table_of w.state)))
unfolding respond run told table_told
told_by n w v a is =
    ap (λ (y : Answer × World). y.0) is ∙ ap (λ o. (heard n w o).0) table_read ∙ ap (λ r. (requested n w r).0) table_is

wanting : is_wanting (before_first is_newline (line_of (refused Memory))) ≡ true
unfolding digits
wanting = refl

same_text : (xs ys : List ℕ) → xs ++ 10 ∷ [] ≡ ys ++ 10 ∷ [] → xs ≡ ys
same_text [] [] e = refl
same_text [] (y ∷ []) e = absurd cc
same_text [] (y ∷ z ∷ ys) e = absurd cc
same_text (x ∷ []) [] e = absurd cc
same_text (x ∷ z ∷ xs) [] e = absurd cc
same_text (x ∷ xs) (y ∷ ys) e =
    let heads : x ≡ y = cc in
    let tails : xs ++ 10 ∷ [] ≡ ys ++ 10 ∷ [] = cc in
    ap₂ (λ (z : ℕ) (zs : List ℕ). z ∷ zs) heads (same_text xs ys tails)

-- so a reply that doesn't want memory is the text of the answer
answer_is : (w v : World) (a : Answer) (reply : List ℕ) → IsOneLine (line_of a) → reply ≡ before_first is_newline (line_of a) → is_wanting reply ≡ false
    → Answers w table_asked a v → a ≡ text reply
answer_is w v a reply one is sure (n, inr (refusal, same, short)) = absurd (both (is_wanting reply) (ap is_wanting (is ∙ ap (λ x. before_first is_newline (line_of x)) refusal) ∙ wanting) sure) where
  both : (b : Bool) → b ≡ true → b ≡ false → ⊥
  both b x y = absurd cc
answer_is w v a reply one is sure (n, inl told) =
    let known : a ≡ text (compact_text (table_reply (table_of w.state))) = told_by n w v a told in
    let same : reply ≡ compact_text (table_reply (table_of w.state)) =
    same_text reply (compact_text (table_reply (table_of w.state))) (ap (λ x. x ++ 10 ∷ []) is ∙ first_reply (line_of a) one ∙ ap line_of known) in
    known ∙ ap text (sym same)

-- ---- a table behind lines

sent_is : (steps : List SentLine) → sent steps ≡ flat_map ended (lines_in steps)
sent_is [] = refl
sent_is (step ∷ steps) =
    flat_map-cons (λ (x : SentLine). ended x.line) step steps ∙ ap (λ x. ended step.line ++ x) (sent_is steps) ∙ sym (flat_map-cons ended step.line (lines_in steps))

one_more : {A : Type 0} (f : A → List ℕ) (xs : List A) (x : A) → flat_map f (xs ++ x ∷ []) ≡ flat_map f xs ++ f x
one_more f xs x =
    flat_map-append f xs (x ∷ []) ∙ ap (λ y. flat_map f xs ++ y) (flat_map-cons f x [] ∙ append-nil (f x))

split_of : (steps : List SentLine) → AreLines steps → Splits (sent steps ++ table_line) (lines_in steps ++ table_asked ∷ []) []
split_of steps lines = record {
  whole = ap (λ x. x ++ table_line) (sent_is steps) ∙ sym (one_more ended (lines_in steps) table_asked) ∙ sym (append-nil (flat_map ended (lines_in steps ++ table_asked ∷ [])));
  each = All-append NoNewline (lines_in steps) (table_asked ∷ []) lines (All-cons NoNewline table_asked [] no_newline (All-nil NoNewline));
  open_end = All-nil (λ b. b ≢ 10);
}

-- all that was there was read
whole_text : (all taken : List ℕ) (left : Option (List ℕ)) → Consumes (Some all) left taken → OnSome (Some all) (IsAtEnd left) → taken ≡ all
whole_text all taken None reads ends = absurd reads
whole_text all taken (Some rest) reads ends = sym (reads ∙ ap (λ x. taken ++ x) ends ∙ append-nil taken)

pub tables_are_replies : TablesAreReplies
unfolding AreRepliesTo
tables_are_replies limits steps reply lines table = by table.run
  where
    by : AreRepliesTo limits 2 (sent steps ++ table_line) table.replies → IsTableOf limits (lines_in steps) reply
    by (end, left, number, h) =
        let served = h.bytes in
        let parts = served.3 in
        let read : parts.text ≡ sent steps ++ table_line = whole_text (sent steps ++ table_line) parts.text left parts.read served.4 in
        let once = split_once (sent steps ++ table_line) served.0 (lines_in steps ++ table_asked ∷ []) served.1 [] (subst (λ x. Splits x served.0 served.1) read parts.splits) (split_of steps lines) in
        let handled : with_last served.0 served.1 ≡ lines_in steps ++ table_asked ∷ [] = ap₂ with_last once.0 once.1 in
        let plain = h.replies.counted (at_start (start_of (bounded limits) 2 2)) end (with_last served.0 served.1) served.2 parts.run in
        let ends = run_ends Answers (start_of (bounded limits) 2 2) (lines_in steps) table_asked served.2 end.world (subst (λ x. Run Answers (start_of (bounded limits) 2 2) x served.2 end.world) handled plain) in
        let wrote : table.replies ≡ flat_map line_of ends.before ++ line_of ends.answer = parts.written ∙ ap (flat_map line_of) ends.are ∙ one_more line_of ends.before ends.answer in
        let last : behind steps table.replies ≡ line_of ends.answer =
        ap (behind steps) wrote ∙ replies_behind (start_of (bounded limits) 2 2) ends.middle steps ends.before (line_of ends.answer) h.replies ends.run in
        let one : IsOneLine (line_of ends.answer) = (h.replies.lines ends.middle table_asked).one_line end.world ends.answer ends.step in
        let answer : ends.answer ≡ text reply = answer_is ends.middle end.world ends.answer reply one (table.last ∙ ap (before_first is_newline) last) table.sure ends.step in
        record {
          world = ends.middle;
          comes = record { answers = ends.before; run = ends.run };
          replies = record {
            start = start_of (bounded limits) 2 2;
            lines = lines_in steps;
            answers = ends.before;
            nothing = sym (emptied_new 2 2 categories (bounded limits));
            run = ends.run;
            session = 0;
            line = table_asked;
            end = end.world;
            asks = table_asks;
            answer = subst (λ x. Answers ends.middle table_asked x end.world) answer ends.step;
          };
        }

-- ---- what is written of two

base_lines : (state changes : List SentLine) → AreLines state → AreLines changes → AreLines (base_of state changes ++ changes)
base_lines state changes first second = by (is_state changes) where
  both : (one other : List SentLine) → AreLines one → AreLines other → AreLines (one ++ other)
  both one other p q = subst (All NoNewline) (sym (map-append (λ (step : SentLine). step.line) one other)) (All-append NoNewline (lines_in one) (lines_in other) p q)

  by : (b : Bool) → AreLines ((cond b [] state) ++ changes)
  by true = second
  by false = both state changes first second

there_is : {A : Type 0} (x y : A) → Some x ≡ Some y → x ≡ y
there_is x y h = cc

pub comparisons_tell_tables : ComparisonsTellTables
comparisons_tell_tables limits form state changes before after ended first second tells =
    let one = tables_are_replies limits state.steps.now tells.first first tells.table in
    let other = tables_are_replies limits (base_of state.steps.now changes.steps.now ++ changes.steps.now) tells.second (base_lines state.steps.now changes.steps.now first second) tells.other in
    let differs = differences_are_told one.world other.world tells.first tells.second one.replies other.replies in
    let same : differs.0 ≡ tells.told = there_is differs.0 tells.told (sym differs.1 ∙ tells.difference) in
    record {
      one = one.world;
      other = other.world;
      comes = one.comes;
      other_comes = other.comes;
      told = tells.told;
      is = subst (IsDifference one.world.state other.world.state) same differs.2;
      text = tells.text;
      spelled = tells.spelled;
      written = tells.written;
      result = tells.result;
    }
