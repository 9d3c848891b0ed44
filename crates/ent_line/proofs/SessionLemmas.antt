-- What a session is told rests on the accepted edits and on its own marks.
use Rattle.std.proofs.Common.{◌≡◌, ◌⊎◌, ℕ, List, Option, Some, None, Result, Ok, Err, refl, sym, ap, subst, ◌∙◌, inl, inr}
use Rattle.std.specs.Prelude.{option_and_then, option_map}
use Rattle.std.specs.List.{fold}
use Rattle.std.specs.Result.{result_ok}
use Rattle.serde_json.specs.Data.{Data}
use Rattle.ent_report.specs.World.{Mark, World}
use Rattle.ent_command.specs.Asked.{Command, command_in}
use Rattle.ent_line.specs.Beside.{Beside}
use Rattle.ent_line.specs.Commands.{changes_told, heard, notices_or_refusal, requested, run, told}
use Rattle.ent_command.specs.Asking.{asked_by}
use Rattle.ent_line.specs.History.{history, next, seen_by}
use Rattle.ent_line.specs.Replies.{Answer, answered, refused}
use Rattle.ent_line.specs.Sessions.{AsksNotices, SessionsAreSeparate}
use Rattle.ent_line.specs.Step.{Answers, data_of}
use Rattle.ent_wire.specs.declared.refusal.Refusal.{Refusal}
use Rattle.ent_wire.specs.declared.refusal.Refusal.TheVariants.{Memory}
use Rattle.ent_line.proofs.CommandLemmas.{short_heard}
use Rattle.ent_line.proofs.HistoryLemmas.{run_seen}

-- ---- replies to a line that asks for notices

-- what is answered where a command is there
abbrev run_of : Beside → World → Option (ℕ × Command) → Answer × World
run_of n w None = (refused Memory, w)
run_of n w (Some x) = run n w x.0 x.1

-- a command is there
abbrev IsAsked : Option (ℕ × Command) → Type 0
IsAsked None = ⊥
IsAsked (Some x) = Unit {0}

requested_run : (n : Beside) (w : World) (r : Result (ℕ × Command) Refusal) → IsAsked (result_ok r) → requested n w r ≡ run_of n w (result_ok r)
requested_run n w (Ok x) is = refl
requested_run n w (Err refusal) is = absurd is

heard_run : (n : Beside) (w : World) (o : Option Data) → IsAsked (option_and_then (λ d. result_ok (command_in d)) o)
    → heard n w o ≡ run_of n w (option_and_then (λ d. result_ok (command_in d)) o)
heard_run n w None is = absurd is
heard_run n w (Some d) is = requested_run n w (command_in d) is

notices_asked : (i : ℕ) (w v : World) (line : List ℕ) (a : Answer) → AsksNotices i line → Answers w line a v → (a ≡ answered (changes_told w i)) ⊎ (a ≡ refused Memory)
unfolding run told
notices_asked i w v line a asks (n, inl is) =
    let there : IsAsked (asked_by line) = subst IsAsked (sym asks.command) tt in
    inl (ap (λ y. y.0) (is ∙ short_heard n w line asks.short ∙ heard_run n w (data_of line) there ∙ ap (run_of n w) asks.command))
notices_asked i w v line a asks (n, inr (refusal, same, short)) = inr refusal

same_replies : (a b c d : Answer) → c ≡ d → (a ≡ c) ⊎ (a ≡ refused Memory) → (b ≡ d) ⊎ (b ≡ refused Memory) → (a ≡ b) ⊎ ((a ≡ refused Memory) ⊎ (b ≡ refused Memory))
same_replies a b c d same (inl is) (inl other_is) = inl (is ∙ same ∙ sym other_is)
same_replies a b c d same (inr refusal) other = inr (inl refusal)
same_replies a b c d same (inl is) (inr refusal) = inr (inr refusal)

-- two runs that are alike to a session give it the same notices
pub separate : SessionsAreSeparate
unfolding changes_told
separate i w other v end lines others answers other_answers alike run other_run same =
    let start : seen_by w i ≡ seen_by other i = λ j. record { state = alike.state j; mark = alike.mark j } in
    let both : fold next (seen_by w i) (history i lines answers) ≡ fold next (seen_by other i) (history i others other_answers) = λ j. fold next (start j) (same j) in
    let seen : seen_by v i ≡ seen_by end i = run_seen i w v lines answers alike.first run ∙ both ∙ sym (run_seen i other end others other_answers alike.second other_run) in
    let told : changes_told v i ≡ changes_told end i = λ j. notices_or_refusal (seen j).state (option_map (λ (m : Mark). m.table) (seen j).mark) in
    record {
      notices = told;
      replies = λ line line_too a b x y asks asks_too is is_too.
          same_replies a b (answered (changes_told v i)) (answered (changes_told end i)) (ap answered told) (notices_asked i v x line a asks is) (notices_asked i end y line_too b asks_too is_too);
    }
