-- The lines of a reply that tells a dump.
use Rattle.std.proofs.Common.{◌≡◌, ℕ, ◌≤◌, List, [], ◌∷◌, map, Bool, true, false, Some, Ok, Err, refl, sym, ap, subst, ◌∙◌, arith, IsUtf8}
use Rattle.std.specs.Prelude.{◌==◌, codes, if◌then◌else◌, option_and_then}
use Rattle.std.specs.List.{AllByRecursion, list_any}
use Rattle.std.proofs.lemmas.Bool.Decides.{nat_tests}
use Rattle.std.proofs.lemmas.Str.{is_utf8-from_IsUtf8}
use Rattle.serde_json.specs.Data as json
use Rattle.serde_json.specs.Data.{Data}
use Rattle.serde_json.specs.View.{items_of}
use Rattle.serde_json.specs.Written.{compact_text}
use Rattle.ent_table.specs.declared.edit.Edit.{Edit}
use Rattle.law_rebuild.specs.Rebuilding.{emptied, rebuilding}
use Rattle.ent_dump.specs.Dumped.{dump_data, dump_text, dumped, format_data}
use Rattle.ent_dump.specs.Edits.{edit_data}
use Rattle.ent_dump.specs.Reply.{lines_in, reply_data, texts_of, told_lines}
use Rattle.ent_table.specs.State.{State}
use Rattle.ent_report.specs.World.{World}
use Rattle.ent_line.specs.Commands.{dump_told}
use Rattle.ent_line.specs.Dumping.{can_tell, is_moment}
use Rattle.ent_wire.specs.Lines.{NoNewline}
use Rattle.ent_line.specs.Replies.{Answer, answered, text}
use Rattle.ent_line.specs.Runs.{Run}
use Rattle.ent_line.specs.Step.{Answers}
use Rattle.ent_wire.specs.declared.refusal.Refusal.TheVariants.{BadValue}
use Rattle.law_restart.specs.Carried.{IsRead}
use Rattle.law_restart.specs.Restart.{HasFewModules, IsShortText, RepliesReadBack, RepliesRestart, TakenRepliesRestart}
use Rattle.ent_polform.proofs.Fitting.{Fits, list_fits, one_fits, text_fits}
use Rattle.law_restart.proofs.FittingEdits.{IsSmall, edit_fits, format_fits}
use Rattle.law_restart.proofs.Lines.{ArePrinted, no_newline, text_printed}
use Rattle.law_restart.proofs.Restart.{after_run, dumps_restart, few_modules, taken_dumps_restart, version_small, version_told}
use Rattle.law_restart.proofs.Texts.{texts_read_back}
use Rattle.law_restart.proofs.Utf8Data.{IsUtf8Data}
use Rattle.law_restart.proofs.Utf8Edits.{format_utf8}
use Rattle.law_restart.proofs.Utf8Written.{compact_utf8, list_written, only_utf8}

-- each text of some edits
all_printed : (es : List Edit) → AllByRecursion IsRead es → AllByRecursion IsSmall es → AllByRecursion ArePrinted (map compact_text (map edit_data es))
all_printed [] good small = tt
all_printed (e ∷ es) good small = (text_printed (edit_data e) (edit_fits e good.0 small.0).plain, all_printed es good.1 small.1)

all_lines : (lines : List (List ℕ)) → AllByRecursion ArePrinted lines → AllByRecursion NoNewline lines
all_lines [] h = tt
all_lines (line ∷ lines) h = (no_newline line h.0, all_lines lines h.1)

no_ten : (s : List ℕ) → ArePrinted s → list_any (λ b. b == 10) s ≡ false
no_ten [] h = refl
no_ten (b ∷ s) h =
    let here : (b == 10) ≡ false = other b h.0 in
    rw (here, no_ten s h.1) refl
  where
    other : (b : ℕ) → 32 ≤ b → (b == 10) ≡ false
    other b h = grind (arith, nat_tests)

lines_again : (lines : List (List ℕ)) → AllByRecursion ArePrinted lines → lines_in (items_of (map json.string lines)) ≡ Some lines
lines_again [] h = refl
lines_again (line ∷ lines) h = rw (no_ten line h.0, lines_again lines h.1) refl

texts_fit : (lines : List (List ℕ)) → AllByRecursion (Fits 1) (map json.string lines)
texts_fit [] = tt
texts_fit (line ∷ lines) = (text_fits 0 line, texts_fit lines)

strings_utf8 : (lines : List (List ℕ)) → AllByRecursion IsUtf8 lines → AllByRecursion IsUtf8Data (map json.string lines)
strings_utf8 [] h = tt
strings_utf8 (line ∷ lines) h = (h.0, strings_utf8 lines h.1)

reply_again : (lines : List (List ℕ)) → AllByRecursion ArePrinted lines → AllByRecursion IsUtf8 lines → texts_of (compact_text (reply_data lines)) ≡ Some lines
reply_again lines printed utf8 =
    let fits = one_fits 1 (codes "dump") _ (list_fits 0 (map json.string lines) (texts_fit lines)) in
    let low = fits.shallow in
    let text = compact_utf8 (reply_data lines) (only_utf8 (codes "dump") (json.array (items_of (map json.string lines))) refl (list_written (map json.string lines) (strings_utf8 lines utf8))) in
    ap (option_and_then told_lines) (texts_read_back (reply_data lines) fits.plain (omega arith) (is_utf8-from_IsUtf8 (compact_text (reply_data lines)) text)) ∙ lines_again lines printed

all_utf8 : (es : List Edit) → AllByRecursion (λ e. IsUtf8Data (edit_data e)) es → AllByRecursion IsUtf8 (map compact_text (map edit_data es))
all_utf8 [] h = tt
all_utf8 (e ∷ es) h = (compact_utf8 (edit_data e) h.0, all_utf8 es h.1)

pub replies_read_back : RepliesReadBack
unfolding dump_text
replies_read_back version start w lines answers nothing few run is =
    let known = after_run start w lines answers nothing run in
    let small = few_modules w start known.same few in
    let printed : AllByRecursion ArePrinted (dumped version w.state) =
    (text_printed (format_data version) (format_fits version (version_small version is)).plain, all_printed (rebuilding w.state) known.made small) in
    let utf8 : AllByRecursion IsUtf8 (dumped version w.state) = (compact_utf8 (format_data version) (format_utf8 version), all_utf8 (rebuilding w.state) known.utf8) in
    (all_lines (dumped version w.state) printed, reply_again (dumped version w.state) printed utf8)

-- ---- the reply to `dump`

told_dump : (version : ℕ) (s : State) (reply : List ℕ) → answered (dump_told (Some version) s) ≡ text reply → (can_tell version s.held.environment ≡ true) × (dump_text version s ≡ reply)
unfolding dump_told dump_text
told_dump version s reply h = by (can_tell version s.held.environment) refl (dump_data version s) h
  where
    by : (b : Bool) → can_tell version s.held.environment ≡ b → (d : Data) → answered (if b then Ok d else Err BadValue) ≡ text reply
        → (can_tell version s.held.environment ≡ true) × (compact_text d ≡ reply)
    by true is d h = (is, cc)
    by false is d h = absurd cc

there_is : {A : Type 0} (x y : A) → Some x ≡ Some y → x ≡ y
there_is x y h = cc

-- the lines that are read of what `dump` is answered are those of the dump
lines_told : (version : ℕ) (start w : World) (lines told : List (List ℕ)) (answers : List Answer) (reply : List ℕ) → start.state ≡ emptied start.state → HasFewModules start.state → Run Answers start lines answers w
    → answered (dump_told (Some version) w.state) ≡ text reply → texts_of reply ≡ Some told → (can_tell version w.state.held.environment ≡ true) × (dumped version w.state ≡ told)
lines_told version start w lines told answers reply nothing few run answered reads =
    let dump = told_dump version w.state reply answered in
    let is = version_told version (is_moment w.state.held.environment) dump.0 in
    let back = (replies_read_back version start w lines answers nothing few run is).1 in
    (dump.0, there_is _ _ (sym back ∙ ap texts_of dump.1 ∙ reads))

pub replies_restart : RepliesRestart
replies_restart version start w v lines told answers others reply nothing few run answered reads brief short again plenty =
    let same = lines_told version start w lines told answers reply nothing few run answered reads in
    dumps_restart version start w v lines answers others nothing few run same.0 brief (subst (AllByRecursion IsShortText) (sym same.1) short)
    (subst (λ (ls : List (List ℕ)). Run Answers start ls others v) (sym same.1) again) plenty

pub taken_replies_restart : TakenRepliesRestart
taken_replies_restart version start w v lines told answers others reply nothing few run answered reads again all =
    let same = lines_told version start w lines told answers reply nothing few run answered reads in
    taken_dumps_restart version start w v lines answers others nothing few run (version_told version (is_moment w.state.held.environment) same.0)
    (subst (λ (ls : List (List ℕ)). Run Answers start ls others v) (sym same.1) again) all
