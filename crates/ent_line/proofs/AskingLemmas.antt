-- Lines that only ask leave all but the count of evaluations, on which no answer to them rests.
use Rattle.std.proofs.Common.{◌≡◌, ◌≤◌, ◌+◌, ℕ, min, List, [], ◌∷◌, length, Bool, true, false, All, Option, Some, None, Result, Ok, Err, refl, sym, ap, subst, ◌∙◌, inl, inr, arith}
use Rattle.std.specs.Prelude.{if◌then◌else◌, nat_lt, option_and_then}
use Rattle.std.specs.Option.{option_map_or}
use Rattle.std.specs.Result.{result_ok}
use Rattle.std.proofs.lemmas.List.Elements.{All-head, All-tail}
use Rattle.serde_json.specs.Data.{Data}
use Rattle.ent_cells.specs.Count.{most, raised}
use Rattle.ent_report.specs.World.{World}
use Rattle.ent_table.specs.AnswerMap.{AnswerMap}
use Rattle.ent_command.specs.Asked as asked
use Rattle.ent_command.specs.Asked.{Command, Question, command_in}
use Rattle.ent_line.specs.Asking.{IsAsked, recounted}
use Rattle.ent_command.specs.Asking.{is_asking, only_asks}
use Rattle.ent_line.specs.Beside.{Beside}
use Rattle.ent_line.specs.Commands.{heard, requested, respond, run, told}
use Rattle.ent_line.specs.Known.{known_after}
use Rattle.ent_wire.specs.Lines.{line_limit}
use Rattle.ent_line.specs.Replies as replies
use Rattle.ent_line.specs.Replies.{Answer, answered, refused}
use Rattle.ent_line.specs.Runs.{Run}
use Rattle.ent_line.specs.Step.{AnswersAfter, Counted, Counts, data_of}
use Rattle.ent_line.specs.Work.{IsWorked, line_work}
use Rattle.ent_wire.specs.declared.refusal.Refusal.{Refusal}
use Rattle.ent_wire.specs.declared.refusal.Refusal.TheVariants.{NotJson, TooLong}
use Rattle.ent_line.proofs.CommandLemmas.{IsQuiet, answered_quiet}

-- ---- what a line is answered

-- what is answered after another number of evaluations is the same, it is no change and no mark, and the world stays
record Stays (w : World) (y z : Answer × World) : Type 0 where
  pub same : z ≡ y
  pub quiet : IsQuiet y.0
  pub world : y.1 ≡ w

told_same : (n : ℕ) (b : Beside) (w : World) (x : ℕ) (q : Question) → is_asking (asked.question q) ≡ true
    → told (record b { count = n }) w x q ≡ told b w x q
unfolding told
told_same n b w x asked.table is = refl
told_same n b w x (asked.cell y) is = refl
told_same n b w x (asked.ask d) is = refl
told_same n b w x asked.counts is = refl
told_same n b w x (asked.can person) is = refl
told_same n b w x (asked.who action resource) is = refl
told_same n b w x (asked.by_rule policy rule) is = refl
told_same n b w x asked.notices is = refl
told_same n b w x (asked.changes_since since) is = refl
told_same n b w x asked.work is = let no : ⊥ = cc in absurd no
told_same n b w x (asked.format version) is = refl
told_same n b w x (asked.dump version) is = refl
told_same n b w x asked.state is = refl
told_same n b w x (asked.cells wanted) is = refl
told_same n b w x (asked.attributes category entity) is = refl
told_same n b w x (asked.documents id) is = refl
told_same n b w x (asked.explain_cell whole y) is = refl
told_same n b w x (asked.explain whole d) is = refl
told_same n b w x asked.faults is = refl
told_same n b w x asked.limits is = refl
told_same n b w x (asked.names list from count) is = refl

run_stays : (n : ℕ) (b : Beside) (w : World) (x : ℕ) (c : Command) → is_asking c ≡ true
    → Stays w (run b w x c) (run (record b { count = n }) w x c)
unfolding run
run_stays n b w x (asked.change c) is = let no : ⊥ = cc in absurd no
run_stays n b w x (asked.question q) is = record {
  same = ap (λ r. (answered r, w)) (told_same n b w x q is);
  quiet = answered_quiet (told b w x q);
  world = refl;
}
run_stays n b w x asked.mark is = let no : ⊥ = cc in absurd no

refused_stays : (w : World) (why : Refusal) → Stays w (refused why, w) (refused why, w)
refused_stays w why = record { same = refl; quiet = tt; world = refl }

requested_stays : (n : ℕ) (b : Beside) (w : World) (r : Result (ℕ × Command) Refusal)
    → option_map_or (λ x. is_asking x.1) (result_ok r) true ≡ true → Stays w (requested b w r) (requested (record b { count = n }) w r)
requested_stays n b w (Ok x) is = run_stays n b w x.0 x.1 is
requested_stays n b w (Err why) is = refused_stays w why

heard_stays : (n : ℕ) (b : Beside) (w : World) (o : Option Data)
    → option_map_or (λ x. is_asking x.1) (option_and_then (λ d. result_ok (command_in d)) o) true ≡ true
    → Stays w (heard b w o) (heard (record b { count = n }) w o)
heard_stays n b w None is = refused_stays w NotJson
heard_stays n b w (Some d) is = requested_stays n b w (command_in d) is

chosen_stays : (n : ℕ) (b : Beside) (w : World) (long : Bool) (o : Option Data)
    → option_map_or (λ x. is_asking x.1) (option_and_then (λ d. result_ok (command_in d)) o) true ≡ true
    → Stays w (if long then (refused TooLong, w) else heard b w o) (if long then (refused TooLong, w) else heard (record b { count = n }) w o)
chosen_stays n b w true o is = refused_stays w TooLong
chosen_stays n b w false o is = heard_stays n b w o is

respond_stays : (n : ℕ) (b : Beside) (w : World) (line : List ℕ) → only_asks line ≡ true
    → Stays w (respond b w line) (respond (record b { count = n }) w line)
unfolding respond
respond_stays n b w line is = chosen_stays n b w (nat_lt line_limit (length line)) (data_of line) is

-- ---- what a line leaves

-- an answer that is no change and no mark
record Leaves (b : Beside) (n : ℕ) (w : World) (line : List ℕ) (a : Answer) (v : World) : Type 0 where
  pub quiet : IsQuiet a
  pub world : v ≡ w
  pub again : AnswersAfter (record b { count = n }) w line a v

leaves : (n : ℕ) (b : Beside) (w v : World) (line : List ℕ) (a : Answer) → only_asks line ≡ true → AnswersAfter b w line a v
    → Leaves b n w line a v
leaves n b w v line a asks (inl is) =
    let stays = respond_stays n b w line asks in record {
      quiet = subst IsQuiet (sym (ap (λ y. y.0) is)) stays.quiet;
      world = ap (λ y. y.1) is ∙ stays.world;
      again = inl (is ∙ sym stays.same);
    }
leaves n b w v line a asks (inr (is, same, short)) =
    record { quiet = subst IsQuiet (sym is) tt; world = same; again = inr (is, same, short) }

known_stays : (w : World) (a : Answer) (known : ℕ → Option AnswerMap) (n : ℕ) → IsQuiet a → known_after w a known n ≡ known n
known_stays w (replies.accepted changes serial) known n quiet = absurd quiet
known_stays w (replies.marked serial) known n quiet = absurd quiet
known_stays w (refused why) known n quiet = refl
known_stays w (replies.text s) known n quiet = refl

-- a count is raised within the greatest
within : (n k m : ℕ) → n ≤ m → (n ≤ min (n + k) m) × (min (n + k) m ≤ m)
within n k m le = (omega (arith, le), omega arith)

-- what an answer does to another count
worked_again : (o : Option ℕ) (before after n : ℕ) (a : Answer) → IsQuiet a → IsWorked o before after a → n ≤ most
    → (m : ℕ) × (m ≤ most) × IsWorked o n m a
worked_again None before after n a quiet is le = (n, le, refl)
worked_again (Some k) before after n (refused why) quiet is le = (n, le, (omega arith, (within n k most le).0))
worked_again (Some k) before after n (replies.text s) quiet is le = (raised n k, (within n k most le).1, refl)
worked_again (Some k) before after n (replies.accepted changes serial) quiet is le = absurd quiet
worked_again (Some k) before after n (replies.marked serial) quiet is le = absurd quiet

-- ---- lines

-- where one line leads that only asks
record IsOneAsked (w : Counted) (line : List ℕ) (a : Answer) (v : Counted) : Type 0 where
  pub world : v.world ≡ w.world
  pub known : (n : ℕ) → v.beside.known n ≡ w.beside.known n
  pub again : (count : ℕ) → count ≤ most → (end : ℕ) × (end ≤ most) × Counts (recounted count w) line a (recounted end v)

one_asked : (w v : Counted) (line : List ℕ) (a : Answer) → only_asks line ≡ true → Counts w line a v → IsOneAsked w line a v
one_asked w v line a asks (said, worked, known) =
    let left = leaves 0 w.beside w.world v.world line a asks said in record {
      world = left.world;
      known = λ n. known n ∙ known_stays v.world a w.beside.known n left.quiet;
      again = λ count le.
          let (m, fits, so) = worked_again (line_work w.world.state line) w.beside.count v.beside.count count a left.quiet worked le in
          (m, fits, ((leaves count w.beside w.world v.world line a asks said).again, so, known));
    }

pub leave_all : (w v : Counted) (lines : List (List ℕ)) (answers : List Answer)
    → All (λ line. only_asks line ≡ true) lines → Run Counts w lines answers v → IsAsked w lines answers v
leave_all w v [] [] ask end = record {
  world = ap (λ u. u.world) end;
  known = λ n. ap (λ u. u.beside.known n) end;
  again = λ count le. (count, le, ap (recounted count) end);
}
leave_all w v (line ∷ lines) (a ∷ answers) ask (middle, first, rest) =
    let one = one_asked w middle line a (All-head (λ l. only_asks l ≡ true) line lines ask) first in
    let more = leave_all middle v lines answers (All-tail (λ l. only_asks l ≡ true) line lines ask) rest in record {
      world = more.world ∙ one.world;
      known = λ n. more.known n ∙ one.known n;
      again = λ count le.
          let (m, fits, said) = one.again count le in
          let (end, last, others) = more.again m fits in
          (end, last, (recounted m middle, said, others));
    }
leave_all w v [] (a ∷ answers) ask r = absurd r
leave_all w v (line ∷ lines) [] ask r = absurd r
