-- The laws of the tables of two services.
use Rattle.std.proofs.Common.{◌≡◌, ℕ, List, Bool, true, false, Option, Some, None, refl, sym, ap, subst, ◌∙◌, inl, inr}
use Rattle.std.specs.Prelude.{◌↔◌, Result, Ok, Err, length, nat_lt, option_and_then, if◌then◌else◌}
use Rattle.std.specs.Result.{result_ok}
use Rattle.serde_json.specs.Data.{Data}
use Rattle.serde_json.specs.Written.{compact_text}
use Rattle.ent_table.specs.Names.{Triple}
use Rattle.ent_table.specs.State.{table_of}
use Rattle.ent_report.specs.World.{World}
use Rattle.ent_command.specs.Asked as asked
use Rattle.ent_command.specs.Asked.{Command, command_in}
use Rattle.ent_line.specs.Cells.{table_reply}
use Rattle.ent_line.specs.Beside.{Beside}
use Rattle.ent_line.specs.Commands.{heard, requested, respond, run, table_told, told}
use Rattle.ent_command.specs.Asking.{asked_by}
use Rattle.ent_wire.specs.Lines.{line_limit}
use Rattle.ent_line.specs.Replies.{refused, text}
use Rattle.ent_line.specs.Step.{Answers, data_of}
use Rattle.ent_wire.specs.declared.refusal.Refusal.{Refusal}
use Rattle.ent_wire.specs.declared.refusal.Refusal.TheVariants.{TooLong}
use Rattle.law_restart.proofs.Restart.{after_run}
use Rattle.script_compare.specs.Changes.{difference_of, is_nothing}
use Rattle.law_compared.specs.Difference.{cell_at}
use Rattle.law_compared.specs.Laws.{DifferencesAreTold, NothingIsToldOfTheSame, Replies}
use Rattle.law_compared.proofs.Differences.{here_told, nothing_same, reply_told, told_here}
use Rattle.law_compared.proofs.GoodHeld.{IsGoodState, good_state}

there_is : {A : Type 0} (x y : A) → Some x ≡ Some y → x ≡ y
there_is x y h = cc

-- ---- the reply to `table`

same_text : (s t : List ℕ) → text s ≡ text t → s ≡ t
same_text s t h = cc

no_refusal : (s : List ℕ) (why : Refusal) → text s ≡ refused why → ⊥
no_refusal s why h = absurd cc

run_tells : (n : Beside) (w : World) (session : ℕ)
    → run n w session (asked.question asked.table) ≡ (text (compact_text (table_reply (table_of w.state))), w)
unfolding run told table_told
run_tells n w session = refl

-- what was read of a line that asks for the table is answered by its text
heard_tells : (n : Beside) (w : World) (session : ℕ) (o : Option Data) (s : List ℕ)
    → option_and_then (λ d. result_ok (command_in d)) o ≡ Some (session, asked.question asked.table)
    → text s ≡ (heard n w o).0 → s ≡ compact_text (table_reply (table_of w.state))
heard_tells n w session None s asks is = absurd cc
heard_tells n w session (Some d) s asks is = by (command_in d) asks is
  where
    by : (r : Result (ℕ × Command) Refusal) → result_ok r ≡ Some (session, asked.question asked.table)
        → text s ≡ (requested n w r).0 → s ≡ compact_text (table_reply (table_of w.state))
    by (Ok x) asks is =
        let same : x ≡ (session, asked.question asked.table) = there_is x _ asks in
        same_text s (compact_text (table_reply (table_of w.state)))
        (is ∙ ap (λ (y : ℕ × Command). (run n w y.0 y.1).0) same ∙ ap (λ z. z.0) (run_tells n w session))
    by (Err why) asks is = absurd cc

-- the text that answers a line which asks for the table is the table's
reply_is : (w v : World) (session : ℕ) (line s : List ℕ) → asked_by line ≡ Some (session, asked.question asked.table)
    → Answers w line (text s) v → s ≡ compact_text (table_reply (table_of w.state))
unfolding respond
reply_is w v session line s asks (n, inr (refusal, same, short)) = absurd (no_refusal s _ refusal)
reply_is w v session line s asks (n, inl is) = by (nat_lt line_limit (length line)) (ap (λ y. y.0) is)
  where
    by : (b : Bool) → text s ≡ (if b then (refused TooLong, w) else heard n w (data_of line)).0
        → s ≡ compact_text (table_reply (table_of w.state))
    by true h = absurd (no_refusal s _ h)
    by false h = heard_tells n w session (data_of line) s asks h

-- ---- services

-- what such a service holds reads back
good_world : (w : World) (reply : List ℕ) → Replies w reply → IsGoodState w.state
good_world w reply there =
    let known = after_run there.start w there.lines there.answers there.nothing there.run in
    good_state w.state known.made known.utf8

-- what is told of two such replies
told_is : (w v : World) (first second : List ℕ) (there : Replies w first) (also : Replies v second)
    → difference_of first second
    ≡ Some (told_here w.state v.state (good_world w first there) (good_world v second also))
told_is w v first second there also =
    let one = reply_is w there.end there.session there.line first there.asks there.answer in
    let other = reply_is v also.end also.session also.line second also.asks also.answer in
    ap (λ s. difference_of s second) one
    ∙ ap (difference_of (compact_text (table_reply (table_of w.state)))) other
    ∙ reply_told w.state v.state (good_world w first there) (good_world v second also)

pub differences_are_told : DifferencesAreTold
differences_are_told w v first second there also =
    let good = good_world w first there in
    let others = good_world v second also in
    (told_here w.state v.state good others, told_is w v first second there also, here_told w.state v.state good others)

pub nothing_is_told_of_the_same : NothingIsToldOfTheSame
nothing_is_told_of_the_same w v first second d there also h =
    let good = good_world w first there in
    let others = good_world v second also in
    let same = there_is (told_here w.state v.state good others) d (sym (told_is w v first second there also) ∙ h) in
    subst (λ x. (is_nothing x ≡ true) ↔ ((y : Triple) → cell_at w.state y ≡ cell_at v.state y)) same
    (nothing_same w.state v.state good others)
