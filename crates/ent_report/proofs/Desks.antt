-- What stays of a desk over a call of its review.
use Rattle.std.proofs.Common.{◌≡◌, ◌≤◌, ℕ, List, Option, max, map, arith, refl, sym, ap, subst, ◌∙◌}
use Rattle.std.specs.Prelude.{option_map}
use Rattle.ent_table.specs.AnswerMap.{answers_of}
use Rattle.ent_table.specs.Reviewed.{Reviewed}
use Rattle.ent_table.specs.Tables.{IsFreshAtSerial, KeepsTables, LeavesTables, table_at_serial}
use Rattle.ent_report.specs.Desk.{AreCountsOf, AreMarks, IsReady, desk_of}
use Rattle.ent_report.specs.Kept.{Forgets}
use Rattle.ent_report.specs.Serials.{mark_at, oldest}
use Rattle.ent_report.specs.World.{Mark}
use Rattle.ent_report.specs.declared.counts.Counts.{Counts}
use Rattle.ent_report.proofs.Marks.{forgotten_before, known_from_oldest, marks_later, oldest_reached, read_back, same_tables}

-- the serials of its marks are those that it keeps
pub serials_back : (review : Reviewed) (marks : List (Option ℕ))
    → map (option_map (λ (m : Mark). m.serial)) (map (option_map (mark_at review)) marks) ≡ marks
serials_back review marks = read_back (mark_at review) (λ (m : Mark). m.serial) (λ n. refl) marks

-- ---- over what keeps the tables

module _ (old new : Reviewed) (marks : List (Option ℕ)) (keeps : KeepsTables old new)
    (are : AreMarks old.past.from old.state.serial marks) where
  -- the marks stay known
  pub marks_known : old.state.serial ≤ new.state.serial → AreMarks new.past.from new.state.serial marks
  marks_known rises =
      subst (λ n. AreMarks n new.state.serial marks) (sym keeps.from)
      (marks_later old.past.from old.state.serial new.state.serial marks rises are)

  -- and the table at each
  pub marks_stay : map (option_map (mark_at new)) marks ≡ map (option_map (mark_at old)) marks
  marks_stay =
      same_tables (mark_at new) (mark_at old) old.past.from old.state.serial marks are
      (λ n from le i. record { serial = n; table = keeps.each n le i })

-- ---- over what forgets the tables before the oldest mark

module _ (old new : Reviewed) (marks : List (Option ℕ)) (counts : Option Counts) (ready : IsReady old marks counts)
    (rest : new ≡ record old { past = new.past }) (within : old.past.from ≤ old.state.serial)
    (from : new.past.from ≡ max (oldest marks old.state.serial) old.past.from) (tables : LeavesTables old new)
    (now : IsFreshAtSerial old) where
  least : new.past.from ≡ oldest marks old.state.serial
  least =
      forgotten_before old.past.from old.state.serial old.state.serial (oldest marks old.state.serial) new.past.from
      marks ready.kept within refl refl from

  state : new.state ≡ old.state
  state = ap (λ (r : Reviewed). r.state) rest

  kept : AreMarks new.past.from old.state.serial marks
  kept = known_from_oldest old.past.from old.state.serial new.past.from marks ready.kept (omega (arith, least))

  pub ready_again : IsReady new marks counts
  ready_again = record {
    kept = subst (λ n. AreMarks new.past.from n marks) (sym (ap (λ s. s.serial) state)) kept;
    sixteen = ready.sixteen;
    counts = subst (λ s. AreCountsOf s counts) (sym state) ready.counts;
  }

  same_marks : map (option_map (mark_at new)) marks ≡ map (option_map (mark_at old)) marks
  same_marks =
      same_tables (mark_at new) (mark_at old) new.past.from old.state.serial marks kept
      (λ n low le i. record { serial = n; table = tables n low le i })

  pub only_past : desk_of new marks counts ≡ record (desk_of old marks counts) { past = new.past }
  only_past i = record {
    world = record { state = state i; marks = same_marks i };
    past = new.past;
    evaluations = ap (λ (r : Reviewed). r.evaluations) rest i;
    counts = counts;
  }

  pub forgets : Forgets (desk_of old marks counts) (desk_of new marks counts)
  forgets = record {
    from =
        least
        ∙ ap (λ s. oldest marks s.serial) (sym state)
        ∙ ap (λ ms. oldest ms new.state.serial) (sym (serials_back new marks));
    later = omega (arith, from);
    left = tables;
    now =
        ap (λ s. table_at_serial new s.serial) state
        ∙ tables old.state.serial (omega (arith, least, oldest_reached marks old.state.serial)) (omega arith)
        ∙ now
        ∙ ap answers_of (sym state);
  }
