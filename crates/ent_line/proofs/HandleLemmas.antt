-- What becomes of a service that was handed a line, of its count and of the tables that it knows.
use Rattle.std.proofs.Common.{◌≡◌, ℕ, ◌<◌, ◌≤◌, List, length, Bool, Option, Some, None, refl, sym, ap, subst, ◌∙◌, inl, inr}
use Rattle.std.specs.Prelude.{if◌then◌else◌}
use Rattle.std.proofs.lemmas.Bool.{le-ltb, lt-ltb}
use Rattle.ent_cells.specs.Count.{most}
use Rattle.ent_report.specs.Desk.{Desked}
use Rattle.ent_table.specs.State.{State}
use Rattle.ent_line.specs.Commands.{heard, respond}
use Rattle.ent_command.specs.Asking.{asked_by}
use Rattle.ent_line.specs.Kept.{Remembers}
use Rattle.ent_wire.specs.Lines.{line_limit}
use Rattle.ent_line.specs.Replies.{Answer, refused}
use Rattle.ent_line.specs.Step.{Counts, data_of}
use Rattle.ent_line.specs.Work.{IsWorked, asked_work, line_work}
use Rattle.ent_line.specs.World.{beside_of, counted_of}
use Rattle.ent_wire.specs.declared.refusal.Refusal.TheVariants.{Memory, TooLong}
use Rattle.ent_line.specs.proofs_only.Replying.{IsWorkedAtMost, Keeps}
use Rattle.ent_line.proofs.CommandLemmas.{short_heard}
use Rattle.ent_line.proofs.KnownLemmas.{known_said}

-- by a line that isn't too long that is evaluated which its command asks for
short_work : (s : State) (line : List ℕ) → length line ≤ line_limit → line_work s line ≡ asked_work s (asked_by line)
short_work s line short =
    ap (λ (b : Bool). if b then None else asked_work s (asked_by line)) (le-ltb line_limit (length line) short)

-- and by one that is nothing
long_work : (s : State) (line : List ℕ) → line_limit < length line → line_work s line ≡ None
long_work s line long =
    ap (λ (b : Bool). if b then None else asked_work s (asked_by line)) (lt-ltb line_limit (length line) long)

-- what was evaluated at most where memory was wanting
wanting_work : (work : Option ℕ) (before after : ℕ) → before ≤ most → IsWorkedAtMost work before after
    → IsWorked work before after (refused Memory)
wanting_work None before after within is = is
wanting_work (Some n) before after within is = is within

-- a line that is too long
pub long_counts : (service : Desked) (line : List ℕ) → line_limit < length line
    → Counts (counted_of service) line (refused TooLong) (counted_of service)
unfolding respond
long_counts service line long =
    let w = service.world in
    let b = beside_of service in (
      inl (sym (ap (λ (b : Bool). if b then (refused TooLong, w) else heard (beside_of service) w (data_of line))
          (lt-ltb line_limit (length line) long))),
      subst (λ (work : Option ℕ). IsWorked work b.count b.count (refused TooLong)) (sym (long_work w.state line long)) refl,
      λ n. refl,
    )

-- a line that was answered
pub heard_counts : (old new : Desked) (line : List ℕ) (a : Answer) → length line ≤ line_limit
    → (a, new.world) ≡ heard (beside_of old) old.world (data_of line)
    → IsWorked (asked_work old.world.state (asked_by line)) old.evaluations new.evaluations a
    → Remembers old new a
    → Counts (counted_of old) line a (counted_of new)
heard_counts old new line a short is worked remembers =
    let w = old.world in
    let answered = is ∙ sym (short_heard (beside_of old) w line short) in (
      inl answered,
      subst (λ (work : Option ℕ). IsWorked work old.evaluations new.evaluations a) (sym (short_work w.state line short)) worked,
      known_said old new line a (inl answered) remembers,
    )

-- one for which memory was wanting
pub wanting_counts : (old new : Desked) (line : List ℕ) → length line ≤ line_limit
    → new.world ≡ old.world → old.evaluations ≤ most
    → IsWorkedAtMost (asked_work old.world.state (asked_by line)) old.evaluations new.evaluations
    → Keeps old new
    → Counts (counted_of old) line (refused Memory) (counted_of new)
wanting_counts old new line short same within worked keeps =
    let w = old.world in (
      inr (refl, same, short),
      subst (λ (work : Option ℕ). IsWorked work old.evaluations new.evaluations (refused Memory)) (sym (short_work w.state line short))
          (wanting_work (asked_work w.state (asked_by line)) old.evaluations new.evaluations within worked),
      known_said old new line (refused Memory) (inr (refl, same, short)) keeps,
    )
