-- What a desk is, to those who call it, and what it answers.
use Rattle.std.specs.Prelude.{◌≡◌, ℕ, ◌≤◌, List, length, map, Option, Some, None, option_map, IfSome, Result, Ok, Err}
use Rattle.std.specs.List.{All}
use Rattle.ent_table.specs.AnswerMap.{AnswerMap}
use Rattle.ent_table.specs.Reviewed.{Past, Reviewed}
use Rattle.ent_table.specs.State.{State}
use Rattle.ent_report.specs.Notices.{notices}
use Rattle.ent_report.specs.Reports.{counts}
use Rattle.ent_report.specs.Serials.{mark_at}
use Rattle.ent_report.specs.World.{World, marked_table}
use Rattle.ent_report.specs.declared.counts.Counts.{Counts}
use Rattle.ent_report.specs.declared.fault.NoticeFault.{NoticeFault}
use Rattle.ent_report.specs.declared.fault.NoticeFault.TheVariants as notice_fault
use Rattle.ent_report.specs.declared.fault.ReportFault.{ReportFault}
use Rattle.ent_report.specs.declared.fault.ReportFault.TheVariants as report_fault
use Rattle.ent_table.specs.declared.since.Change.{Change}
use Rattle.ent_combine.specs.declared.outcome.Outcome.{Outcome}

-- a world, what is known of the tables before it, how many times a request was evaluated, and counts that are kept
pub record Desked : Type 0 where
  pub world : World
  pub past : Past
  pub evaluations : ℕ
  pub counts : Option Counts

-- the review of a desk
abbrev pub review_of : Desked → Reviewed
review_of d = record { state = d.world.state; past = d.past; evaluations = d.evaluations }

-- the desk of a review, marks and counts: each mark is the table at the serial that is kept
abbrev pub desk_of : Reviewed → List (Option ℕ) → Option Counts → Desked
desk_of review marks counts = record {
  world = record { state = review.state; marks = map (option_map (mark_at review)) marks };
  past = review.past;
  evaluations = review.evaluations;
  counts = counts;
}

-- ---- what stands in a desk

-- each mark is a serial whose table is known
abbrev pub AreMarks : ℕ → ℕ → List (Option ℕ) → Type 0
AreMarks from serial marks = All (λ mark. IfSome mark (λ n. (from ≤ n) × (n ≤ serial))) marks

-- counts that are kept are those of a state
abbrev pub AreCountsOf : State → Option Counts → Type 0
AreCountsOf s None = Unit {0}
AreCountsOf s (Some c) = c ≡ counts s

-- the table of each of sixteen marks is known, and kept counts are those of the present table
pub record IsReady (review : Reviewed) (marks : List (Option ℕ)) (known : Option Counts) : Type 0 where
  pub kept : AreMarks review.past.from review.state.serial marks
  pub sixteen : length marks ≡ 16
  pub counts : AreCountsOf review.state known

-- ---- what is answered

-- a report is that of its definition, or memory is wanting
abbrev pub IsReported : {A : Type 0} → Result A ReportFault → Result A ReportFault → Type 0
IsReported report (Ok x) = report ≡ Ok x
IsReported report (Err report_fault.NotThere) = report ≡ Err report_fault.NotThere
IsReported report (Err report_fault.Memory) = Unit {0}

-- what a session that has this mark is told
abbrev pub IsNoticed : Option AnswerMap → State → Result (List (Change Outcome)) NoticeFault → Type 0
IsNoticed None s result = result ≡ Err notice_fault.NoMark
IsNoticed (Some m) s (Ok ns) = ns ≡ notices m s
IsNoticed (Some m) s (Err fault) = fault ≡ notice_fault.Memory

-- a session is told what changed since its mark
abbrev pub IsNoticedIn : World → ℕ → Result (List (Change Outcome)) NoticeFault → Type 0
IsNoticedIn w session result = IsNoticed (marked_table w session) w.state result
