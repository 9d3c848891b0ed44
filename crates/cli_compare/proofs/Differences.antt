-- Tables behind lines, each of which is accepted.
use Rattle.std.proofs.Common.{◌≡◌, ◌++◌, ◌&&◌, List, [], ◌∷◌, ℕ, Bool, true, false, cond, ◌⊎◌, inr, Option, Some, None, Result, Ok, Err, ◌≢◌, refl, sym, ap, subst, ◌∙◌}
use Rattle.std.specs.Prelude.{IfErr, IfOk, OnOk}
use Rattle.std.specs.List.{after_first, before_first}
use Rattle.std.specs.Io.KnownBytes.{Appends}
use Rattle.std.proofs.KnownBytes.{Appends-trans}
use Rattle.serde_json.specs.Data.{Data}
use Rattle.script_files.specs.declared.session.SentLine.{SentLine}
use Rattle.script_compare.specs.Gains.{has}
use Rattle.script_compare.specs.declared.gains.Way.TheVariants.{Gained, Lost}
use Rattle.script_compare.specs.Changes.{difference_of, is_nothing}
use Rattle.ent_wire.specs.declared.fault.ServeFault.{ServeFault}
use Rattle.ent_wire.specs.declared.fault.ServeFault.TheVariants as fault
use Rattle.cli_replies.specs.Comparing.{are_sure, behind, differences, is_newline, is_sure, is_wanting, meets, pass, told_of_one, asked}
use Rattle.cli_compare.specs.Differing.{Compares, GivesTable, IsTableBehind, IsTextOf, Refuses, TellsDifference, TellsRefused, base_of, ended_by, table_line}
use Rattle.ent_table.specs.declared.limits.Limits.{Limits}
use Rattle.cli_serve.specs.Replying.{AreRepliesTo}
use Rattle.cli_compare.specs.declared.differing.Ending.{Ending}
use Rattle.cli_compare.specs.declared.differing.Ending.TheVariants.{Same, Different, Refused}
use Rattle.cli_words.specs.declared.asked_states.Form.{Form}
use Rattle.cli_replies.specs.declared.lines.Lines.{Lines}

both_and : (a b c : Bool) → (a && (b && c)) ≡ ((a && b) && c)
both_and true b c = refl
both_and false b c = refl

-- steps pass where those of two lists do, one behind the other
pass_both : (first second : List SentLine) (replies : List ℕ) → pass (first ++ second) replies ≡ (pass first replies && pass second (behind first replies))
pass_both [] second replies = refl
pass_both (step ∷ first) second replies =
    ap (λ b. meets step.expected (before_first is_newline replies) && b) (pass_both first second (after_first is_newline replies))
    ∙ both_and (meets step.expected (before_first is_newline replies)) (pass first (after_first is_newline replies)) (pass second (behind first (after_first is_newline replies)))

-- none is refused for want of memory where none is of either
sure_both : (first second : List SentLine) (replies : List ℕ) → are_sure (first ++ second) replies ≡ (are_sure first replies && are_sure second (behind first replies))
sure_both [] second replies = refl
sure_both (step ∷ first) second replies =
    ap (λ b. is_sure step.expected (before_first is_newline replies) && b) (sure_both first second (after_first is_newline replies))
    ∙ both_and (is_sure step.expected (before_first is_newline replies)) (are_sure first (after_first is_newline replies)) (are_sure second (behind first (after_first is_newline replies)))

behind_both : (first second : List SentLine) (replies : List ℕ) → behind (first ++ second) replies ≡ behind second (behind first replies)
behind_both [] second replies = refl
behind_both (step ∷ first) second replies = behind_both first second (after_first is_newline replies)

first_of_both : (a b : Bool) → (a && b) ≡ true → a ≡ true
first_of_both true b h = refl
first_of_both false b h = absurd cc

second_of_both : (a b : Bool) → (a && b) ≡ true → b ≡ true
second_of_both true b h = h
second_of_both false b h = absurd cc

nothing_of_one : (name : List ℕ) (step : SentLine) (reply : List ℕ) → meets step.expected reply ≡ true → told_of_one name step reply ≡ []
nothing_of_one name step reply h = rw h refl

-- of steps that pass nothing is told
no_differences : (name : List ℕ) (steps : List SentLine) (replies : List ℕ) → pass steps replies ≡ true → differences name steps replies ≡ []
no_differences name [] replies h = refl
no_differences name (step ∷ steps) replies h =
    ap (λ told. told ++ differences name steps (after_first is_newline replies))
    (nothing_of_one name step (before_first is_newline replies) (first_of_both (meets step.expected (before_first is_newline replies)) (pass steps (after_first is_newline replies)) h))
    ∙ no_differences name steps (after_first is_newline replies)
    (second_of_both (meets step.expected (before_first is_newline replies)) (pass steps (after_first is_newline replies)) h)

-- the table behind lines of one file and then of another, all of which are accepted
table_is_behind : (limits : Limits) (base steps : List SentLine) (replies rest end reply : List ℕ) (a b : Bool) → AreRepliesTo limits 2 (asked (base ++ steps) ++ table_line) replies
    → a ≡ pass base replies → rest ≡ behind base replies → b ≡ pass steps rest → end ≡ behind steps rest → a ≡ true → b ≡ true
    → reply ≡ before_first is_newline end → is_wanting reply ≡ false → IsTableBehind limits (base ++ steps) reply
table_is_behind limits base steps replies rest end reply a b run judged left also ended good so is sure = record {
  replies = replies;
  run = run;
  accepted = pass_both base steps replies ∙ ap (λ x. x && pass steps (behind base replies)) (sym judged ∙ good) ∙ ap (pass steps) (sym left) ∙ sym also ∙ so;
  last = is ∙ ap (before_first is_newline) (ended ∙ ap (behind steps) left ∙ sym (behind_both base steps replies));
  sure = sure;
}

-- nothing is written of lines that are accepted
none_told : (name other : List ℕ) (base steps : List SentLine) (replies rest : List ℕ) (before mid after : Option (List ℕ)) (a b : Bool)
    → Appends before mid (differences name base replies) → Appends mid after (differences other steps rest)
    → a ≡ pass base replies → b ≡ pass steps rest → a ≡ true → b ≡ true → Appends before after []
none_told name other base steps replies rest before mid after a b told more judged also good so =
    Appends-trans before mid after [] []
    (subst (λ text. Appends before mid text) (no_differences name base replies (sym judged ∙ good)) told)
    (subst (λ text. Appends mid after text) (no_differences other steps rest (sym also ∙ so)) more)

-- the lines of one file and then of another are refused where those of either are
refused_of_both : (base steps : List SentLine) (replies rest : List ℕ) (a b : Bool) → a ≡ pass base replies → rest ≡ behind base replies → b ≡ pass steps rest
    → (a && b) ≡ false → pass (base ++ steps) replies ≡ false
refused_of_both base steps replies rest a b judged left also bad =
    pass_both base steps replies ∙ ap (λ x. x && pass steps (behind base replies)) (sym judged) ∙ ap (λ r. a && pass steps r) (sym left) ∙ ap (λ x. a && x) (sym also) ∙ bad

-- a service that was told lines of one file and then of another, and whose replies were compared
module _ (limits : Limits) (name : List ℕ) (base : List SentLine) (lines : Lines) (replies rest : List ℕ) (before mid after : Option (List ℕ)) (a b : Bool)
    (run : AreRepliesTo limits 2 (asked (base ++ lines.steps.now) ++ table_line) replies)
    (judged : a ≡ pass base replies) (left : rest ≡ behind base replies) (also : b ≡ pass lines.steps.now rest)
    (told : Appends before mid (differences name base replies)) (more : Appends mid after (differences lines.name.now lines.steps.now rest)) where
  -- it accepted all of them
  pub gives_table : (end reply : List ℕ) → end ≡ behind lines.steps.now rest → reply ≡ before_first is_newline end → is_wanting reply ≡ false → (a && b) ≡ true
      → GivesTable limits name base lines before after (Some reply)
  gives_table end reply ended is sure all = (
    table_is_behind limits base lines.steps.now replies rest end reply a b run judged left also ended (first_of_both a b all) (second_of_both a b all) is sure,
    none_told name lines.name.now base lines.steps.now replies rest before mid after a b told more judged also (first_of_both a b all) (second_of_both a b all),
  )

  -- it refused one
  pub refuses : are_sure base replies ≡ true → are_sure lines.steps.now rest ≡ true → (a && b) ≡ false → GivesTable limits name base lines before after None
  refuses sure also_sure bad = record {
    replies = replies;
    run = run;
    refused = refused_of_both base lines.steps.now replies rest a b judged left also bad;
    sure =
        sure_both base lines.steps.now replies ∙ ap (λ x. x && are_sure lines.steps.now (behind base replies)) sure
        ∙ ap (are_sure lines.steps.now) (sym left) ∙ also_sure;
    written = Appends-trans before mid after _ _ told (subst (λ r. Appends mid after (differences lines.name.now lines.steps.now r)) left more);
  }

-- nothing was written before what is
behind_nothing : (before mid after : Option (List ℕ)) (written : List ℕ) → Appends before mid [] → Appends mid after written → Appends before after written
behind_nothing before mid after written nothing more = Appends-trans before mid after [] written nothing more

-- a line that is sent to the second service was refused
pub refused_second : (limits : Limits) (state changes : Lines) (base : List SentLine) (first : List ℕ) (before mid after : Option (List ℕ))
    → base ≡ base_of state.steps.now changes.steps.now → IsTableBehind limits state.steps.now first × Appends before mid []
    → Refuses limits state.name.now base changes mid after → TellsRefused limits state changes before after
refused_second limits state changes base first before mid after is (table, nothing) told =
    subst (λ steps. Refuses limits [] [] state before after ⊎ ((reply : List ℕ) × IsTableBehind limits state.steps.now reply × Refuses limits state.name.now steps changes before after)) is
    (inr (
      first,
      table,
      record {
        replies = told.replies;
        run = told.run;
        refused = told.refused;
        sure = told.sure;
        written = behind_nothing before mid after _ nothing told.written;
      },
    ))

-- a comparison that says whether anything differs refused nothing
not_refused : (b gain loss : Bool) → Refused ≡ cond b Same (Different gain loss) → ⊥
not_refused true gain loss is = cc
not_refused false gain loss is = cc

-- two tables were compared, and nothing but what differs was written
module _ (limits : Limits) (form : Form) (state changes : Lines) (base : List SentLine) (first second : List ℕ) (told : Data) (begins one two after : Option (List ℕ))
    (is : base ≡ base_of state.steps.now changes.steps.now) (table : IsTableBehind limits state.steps.now first × Appends begins one [])
    (other : IsTableBehind limits (base ++ changes.steps.now) second × Appends one two []) (differs : Some told ≡ difference_of first second) where
  tells : (text : List ℕ) (ended : Ending) → IsTextOf form told text → Appends two after text → ended ≡ ended_by told
      → TellsDifference limits form state changes begins after ended
  tells text ended spelled wrote result = record {
    first = first;
    second = second;
    told = told;
    text = text;
    table = table.0;
    other = subst (λ steps. IsTableBehind limits (steps ++ changes.steps.now) second) is other.0;
    difference = sym differs;
    spelled = spelled;
    written = behind_nothing begins one after _ table.1 (behind_nothing one two after _ other.1 wrote);
    result = result;
  }

  pub compared : (r : Result Ending ServeFault) → OnOk r ((text : List ℕ) × IsTextOf form told text × Appends two after text)
      → IfOk r (λ ended. ended ≡ ended_by told) → IfErr r (λ e. e ≢ fault.Read) → Compares limits form state changes begins after r
  compared (Ok Same) (text, spelled, wrote) result fine = tells text Same spelled wrote result
  compared (Ok (Different gain loss)) (text, spelled, wrote) result fine = tells text (Different gain loss) spelled wrote result
  compared (Ok Refused) (text, spelled, wrote) result fine = absurd (not_refused (is_nothing told) (has Gained told) (has Lost told) result)
  compared (Err e) sent result fine = fine
