-- What the desk answers is what a line is told.
use Rattle.std.proofs.Common.{◌≡◌, List, Option, Some, None, Ok, Err, refl, sym, ap}
use Rattle.serde_json.specs.Written.{compact_text}
use Rattle.ent_table.specs.AnswerMap.{AnswerMap}
use Rattle.ent_table.specs.State.{State}
use Rattle.ent_report.specs.Desk.{IsNoticed}
use Rattle.ent_report.specs.declared.fault.NoticeFault.TheVariants.{NoMark}
use Rattle.ent_line.specs.Commands.{changes_or_refusal, notices_or_refusal}
use Rattle.ent_line.specs.Replies.{answered, refused, text}
use Rattle.ent_line.specs.Reports.{changes_reply, notices_reply}
use Rattle.ent_wire.specs.declared.refusal.Refusal.TheVariants as refusals
use Rattle.ent_table.specs.declared.since.Change.{Change}
use Rattle.ent_combine.specs.declared.outcome.Outcome.{Outcome}

-- notices of a session that has a mark
pub noticed : (o : Option AnswerMap) (s : State) (ns : List (Change Outcome)) → IsNoticed o s (Ok ns) → answered (notices_or_refusal s o) ≡ text (compact_text (notices_reply ns))
noticed None s ns h = absurd (cc)
noticed (Some kept) s ns h = ap (λ (l : List (Change Outcome)). text (compact_text (notices_reply l))) (sym h)

-- a session without a mark
pub unmarked : (o : Option AnswerMap) (s : State) → IsNoticed o s (Err NoMark) → answered (notices_or_refusal s o) ≡ refused refusals.NoMark
unmarked None s h = refl
unmarked (Some kept) s h = absurd (cc)

-- what changed since a table that is known
pub changed : (o : Option AnswerMap) (s : State) (ns : List (Change Outcome)) → IsNoticed o s (Ok ns) → answered (changes_or_refusal s o) ≡ text (compact_text (changes_reply ns s.serial))
changed None s ns h = absurd (cc)
changed (Some table) s ns h = ap (λ (l : List (Change Outcome)). text (compact_text (changes_reply l s.serial))) (sym h)

-- a table that isn't
pub unknown : (o : Option AnswerMap) (s : State) → IsNoticed o s (Err NoMark) → answered (changes_or_refusal s o) ≡ refused refusals.NoMark
unknown None s h = refl
unknown (Some table) s h = absurd (cc)
