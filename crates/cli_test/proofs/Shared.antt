-- Tests that share a service: what it replies to each is what a new one behind the same state may reply.
use Rattle.std.proofs.Common.{◌≡◌, ◌≢◌, ◌<◌, ◌≤◌, ◌+◌, ◌-◌, ◌++◌, ◌&&◌, ◌||◌, ℕ, min, List, [], ◌∷◌, length, take, drop, get_or, map, Bool, true, false, All, Option, Some, None, Ok, refl, sym, ap, subst, ◌∙◌, inl, inr, arith, append_assoc, append-nil}
use Rattle.std.specs.Prelude.{OnSome, ◌==◌, not, if◌then◌else◌}
use Rattle.std.specs.List.{after_first, filter, flat_map, list_all, list_any, position_or_len}
use Rattle.std.specs.Io.KnownBytes.{Consumes, IsAtEnd}
use Rattle.std.proofs.Math.Seq.{drop-append-add, get_or-append_seam, take-append_seam}
use Rattle.std.proofs.lemmas.Bool.{eqb-false, ne_eqb}
use Rattle.std.proofs.lemmas.List.{drop_more, get_or_append_left, length-append, length-map, map-append}
use Rattle.std.proofs.lemmas.List.Concat.{flat_map-append}
use Rattle.std.proofs.lemmas.List.Elements.{All-append, All-cons, All-get_or, All-head, All-nil, All-tail, filter_passes}
use Rattle.std.proofs.lemmas.List.Sums.{position_or_len_is}
use Rattle.script_files.specs.declared.session.Session.{Session}
use Rattle.script_files.specs.declared.session.SentLine.{SentLine}
use Rattle.ent_line.specs.Asking.{QuestionsLeaveAll, most, recounted}
use Rattle.ent_command.specs.Asking.{only_asks}
use Rattle.ent_line.specs.Headline.{IsHeadline}
use Rattle.ent_wire.specs.Lines.{IsOneLine, NoNewline, Splits, ended}
use Rattle.ent_line.specs.Replies as replies
use Rattle.ent_line.specs.Replies.{Answer, line_of, refused}
use Rattle.ent_line.specs.Runs.{Handling, Run}
use Rattle.ent_line.specs.Serving.{with_last}
use Rattle.ent_line.specs.Step.{Counted, Counts, at_start}
use Rattle.ent_line.specs.Work.{IsWorked, line_work}
use Rattle.ent_line.proofs.LineLemmas.{split_once}
use Rattle.cli_replies.specs.Comparing.{behind, is_newline, asked}
use Rattle.cli_serve.specs.Starting.{start_of}
use Rattle.ent_table.specs.declared.limits.Limits.{Limits}
use Rattle.cli_serve.specs.Limiting.{bounded}
use Rattle.cli_serve.specs.Replying.{AreRepliesTo, few}
use Rattle.cli_test.specs.Testing.{is_chosen, sent_to}
use Rattle.cli_test.specs.declared.testing.TestPlan.{TestPlan}
use Rattle.cli_test.specs.proofs_only.Sharing.{AreShared, are_asking, are_lines, front, is_asking, is_line, shared_steps, shares, sharing}

-- ---- truth

first_of : (a b : Bool) → (a && b) ≡ true → a ≡ true
first_of true b h = refl
first_of false b h = h

second_of : (a b : Bool) → (a && b) ≡ true → b ≡ true
second_of true b h = h
second_of false b h = let no : ⊥ = cc in absurd no

not_so : (b : Bool) → not b ≡ true → b ≡ false
not_so true h = let no : ⊥ = cc in absurd no
not_so false h = refl

-- ---- lines

no_newline : (bytes : List ℕ) → list_any is_newline bytes ≡ false → NoNewline bytes
no_newline [] h = All-nil (λ c. c ≢ 10)
no_newline (b ∷ bs) h = by (is_newline b) refl h (λ k. no_newline bs k)
  where
    by : (x : Bool) → is_newline b ≡ x → (x || list_any is_newline bs) ≡ false → (list_any is_newline bs ≡ false → NoNewline bs) → NoNewline (b ∷ bs)
    by true e h rest = let never : ⊥ = cc in absurd never
    by false e h rest = All-cons (λ c. c ≢ 10) b bs (eqb-false b 10 e) (rest h)

clean : (step : SentLine) → is_line step ≡ true → NoNewline step.line
clean step h = no_newline step.line (not_so (list_any is_newline step.line) h)

-- what is sent in some steps
abbrev lines_of : List SentLine → List (List ℕ)
lines_of steps = map (λ step. step.line) steps

asked_lines : (steps : List SentLine) → asked steps ≡ flat_map ended (lines_of steps)
asked_lines [] = refl
asked_lines (step ∷ steps) = ap (λ bytes. ended step.line ++ bytes) (asked_lines steps)

all_clean : (steps : List SentLine) → are_lines steps ≡ true → All NoNewline (lines_of steps)
all_clean [] h = All-nil NoNewline
all_clean (step ∷ steps) h =
    All-cons NoNewline step.line (lines_of steps) (clean step (first_of (is_line step) (are_lines steps) h))
    (all_clean steps (second_of (is_line step) (are_lines steps) h))

splits_asked : (steps : List SentLine) → are_lines steps ≡ true → Splits (asked steps) (lines_of steps) []
splits_asked steps h = record {
  whole = asked_lines steps ∙ sym (append-nil (flat_map ended (lines_of steps)));
  each = all_clean steps h;
  open_end = All-nil (λ c. c ≢ 10);
}

both_lines : (steps more : List SentLine) → are_lines steps ≡ true → are_lines more ≡ true → are_lines (steps ++ more) ≡ true
both_lines [] more h k = k
both_lines (step ∷ steps) more h k =
    ap (λ b. b && are_lines (steps ++ more)) (first_of (is_line step) (are_lines steps) h)
    ∙ both_lines steps more (second_of (is_line step) (are_lines steps) h) k

-- steps that only ask are lines
asking_lines : (steps : List SentLine) → are_asking steps ≡ true → are_lines steps ≡ true
asking_lines [] h = refl
asking_lines (step ∷ steps) h =
    ap (λ b. b && are_lines steps) (first_of (is_line step) (only_asks step.line) (first_of (is_asking step) (are_asking steps) h))
    ∙ asking_lines steps (second_of (is_asking step) (are_asking steps) h)

all_ask : (steps : List SentLine) → are_asking steps ≡ true → All (λ line. only_asks line ≡ true) (lines_of steps)
all_ask [] h = All-nil (λ line. only_asks line ≡ true)
all_ask (step ∷ steps) h =
    All-cons (λ line. only_asks line ≡ true) step.line (lines_of steps)
    (second_of (is_line step) (only_asks step.line) (first_of (is_asking step) (are_asking steps) h))
    (all_ask steps (second_of (is_asking step) (are_asking steps) h))

-- ---- replies

-- the first line of a text that begins with one
after_line : (line rest : List ℕ) → NoNewline line → after_first is_newline (line ++ 10 ∷ rest) ≡ rest
after_line line rest h =
    let all = line ++ 10 ∷ rest in
    let place : position_or_len is_newline all ≡ length line =
    position_or_len_is is_newline all (length line) 0 (omega (arith, length-append line (10 ∷ rest)))
    (λ k lt. ap is_newline (get_or_append_left line (10 ∷ rest) 0 k lt) ∙ ne_eqb (get_or line k 0) 10 (All-get_or (λ c. c ≢ 10) line k 0 lt h))
    (λ lt. ap is_newline (get_or-append_seam line 10 rest 0)) in
    ap (λ n. drop (n + 1) all) place ∙ drop-append-add line (10 ∷ rest) 1

after_reply : (reply others : List ℕ) → IsOneLine reply → after_first is_newline (reply ++ others) ≡ others
after_reply reply others (line, h, is) =
    ap (λ r. after_first is_newline (r ++ others)) is ∙ ap (after_first is_newline) (append_assoc line (10 ∷ []) others) ∙ after_line line others h

-- the replies to steps at the front of others
behind_them : (steps : List SentLine) (answers : List Answer) (others : List ℕ) → length answers ≡ length steps
    → All (λ a. IsOneLine (line_of a)) answers → behind steps (flat_map line_of answers ++ others) ≡ others
behind_them [] [] others e h = refl
behind_them [] (a ∷ answers) others e h = absurd (omega (arith, e))
behind_them (step ∷ steps) [] others e h = absurd (omega (arith, e))
behind_them (step ∷ steps) (a ∷ answers) others e h =
    ap (behind steps)
    (ap (after_first is_newline) (append_assoc (line_of a) (flat_map line_of answers) others)
    ∙ after_reply (line_of a) (flat_map line_of answers ++ others) (All-head (λ x. IsOneLine (line_of x)) a answers h))
    ∙ behind_them steps answers others (omega (arith, e)) (All-tail (λ x. IsOneLine (line_of x)) a answers h)

front_of_them : (steps : List SentLine) (answers : List Answer) (others : List ℕ) → length answers ≡ length steps
    → All (λ a. IsOneLine (line_of a)) answers → front steps (flat_map line_of answers ++ others) ≡ flat_map line_of answers
front_of_them steps answers others e h =
    let own = flat_map line_of answers in
    let count : length (own ++ others) - length (behind steps (own ++ others)) ≡ length own =
    omega (arith, ap length (behind_them steps answers others e h), length-append own others) in
    ap (λ n. take n (own ++ others)) count ∙ take-append_seam own others

-- ---- runs

-- a run of lines and then of others
record Cut {W : Type 0} (A : Handling W) (w : W) (ls ms : List (List ℕ)) (answers : List Answer) (v : W) : Type 0 where
  pub first : List Answer
  pub second : List Answer
  pub middle : W
  pub is : answers ≡ first ++ second
  pub count : length first ≡ length ls
  pub before : Run A w ls first middle
  pub behind : Run A middle ms second v

cut_run : {W : Type 0} (A : Handling W) (w v : W) (ls ms : List (List ℕ)) (answers : List Answer) → Run A w (ls ++ ms) answers v
    → Cut A w ls ms answers v
cut_run A w v [] ms answers r = record { first = []; second = answers; middle = w; is = refl; count = refl; before = refl; behind = r }
cut_run A w v (l ∷ ls) ms [] r = absurd r
cut_run A w v (l ∷ ls) ms (a ∷ answers) (next, here, rest) =
    let more = cut_run A next v ls ms answers rest in record {
      first = a ∷ more.first;
      second = more.second;
      middle = more.middle;
      is = ap (λ xs. a ∷ xs) more.is;
      count = omega (arith, more.count);
      before = (next, here, more.before);
      behind = more.behind;
    }

both_runs : {W : Type 0} (A : Handling W) (w u v : W) (ls ms : List (List ℕ)) (first second : List Answer) → Run A w ls first u
    → Run A u ms second v → Run A w (ls ++ ms) (first ++ second) v
both_runs A w u v [] ms [] second r s = subst (λ x. Run A x ms second v) r s
both_runs A w u v [] ms (a ∷ first) second r s = absurd r
both_runs A w u v (l ∷ ls) ms [] second r s = absurd r
both_runs A w u v (l ∷ ls) ms (a ∷ first) second (next, here, rest) s = (next, here, both_runs A next u v ls ms first second rest s)

each_is_line : IsHeadline → (w v : Counted) (lines : List (List ℕ)) (answers : List Answer) → Run Counts w lines answers v
    → All (λ a. IsOneLine (line_of a)) answers
each_is_line h w v [] [] r = All-nil (λ a. IsOneLine (line_of a))
each_is_line h w v [] (a ∷ answers) r = absurd r
each_is_line h w v (l ∷ lines) [] r = absurd r
each_is_line h w v (l ∷ lines) (a ∷ answers) (next, here, rest) =
    All-cons (λ x. IsOneLine (line_of x)) a answers ((h.lines w.world l).one_line next.world a (w.beside, here.0))
    (each_is_line h next v lines answers rest)

-- the count stays within what is counted
raised_within : (n k m : ℕ) → min (n + k) m ≤ m
raised_within n k m = omega arith

worked_within : (o : Option ℕ) (before after : ℕ) (a : Answer) → IsWorked o before after a → before ≤ most → after ≤ most
worked_within None before after a is le = subst (λ n. n ≤ most) (sym is) le
worked_within (Some k) before after (refused why) is le = omega (arith, is.1, raised_within before k most)
worked_within (Some k) before after (replies.text s) is le = subst (λ n. n ≤ most) (sym is) (raised_within before k most)
worked_within (Some k) before after (replies.accepted changes serial) is le = subst (λ n. n ≤ most) (sym is) (raised_within before k most)
worked_within (Some k) before after (replies.marked serial) is le = subst (λ n. n ≤ most) (sym is) (raised_within before k most)

run_within : (w v : Counted) (lines : List (List ℕ)) (answers : List Answer) → Run Counts w lines answers v
    → w.beside.count ≤ most → v.beside.count ≤ most
run_within w v [] [] r le = subst (λ (u : Counted). u.beside.count ≤ most) (sym r) le
run_within w v [] (a ∷ answers) r le = absurd r
run_within w v (l ∷ lines) [] r le = absurd r
run_within w v (l ∷ lines) (a ∷ answers) (next, here, rest) le =
    run_within next v lines answers rest
    (worked_within (line_work w.world.state l) w.beside.count next.beside.count a here.1 le)

-- ---- what a new service replies

-- where a new service begins, within those limits and of so many modules of each sort
abbrev new_of : Limits → ℕ → Counted
new_of limits n = at_start (start_of (bounded limits) n n)

-- a run of a new service over steps, with what it replies
record Told (limits : Limits) (n : ℕ) (steps : List SentLine) (bytes : List ℕ) : Type 0 where
  pub answers : List Answer
  pub end : Counted
  pub run : Run Counts (new_of limits n) (lines_of steps) answers end
  pub written : bytes ≡ flat_map line_of answers
  pub headline : IsHeadline

all_read : (sent text : List ℕ) (left : Option (List ℕ)) → Consumes (Some sent) left text → IsAtEnd left → text ≡ sent
all_read sent text None read end = absurd read
all_read sent text (Some left) read end = sym (read ∙ ap (λ l. text ++ l) end ∙ append-nil text)

told_of : (limits : Limits) (modules : ℕ) (steps : List SentLine) (bytes : List ℕ) → are_lines steps ≡ true → AreRepliesTo limits modules (asked steps) bytes
    → Told limits (few modules) steps bytes
unfolding AreRepliesTo
told_of limits modules steps bytes h (end, left, number, headline) =
    let (lines, rest, answers, serves, at_end, count) = headline.bytes in
    let is = all_read (asked steps) serves.text left serves.read at_end in
    let same = split_once (asked steps) lines (lines_of steps) rest [] (subst (λ text. Splits text lines rest) is serves.splits) (splits_asked steps h) in
    record {
      answers = answers;
      end = end;
      run = subst (λ ls. Run Counts (new_of limits (few modules)) ls answers end) (λ i. with_last (same.0 i) (same.1 i)) serves.run;
      written = serves.written;
      headline = headline.replies;
    }

replies_of : (limits : Limits) (modules n : ℕ) (steps : List SentLine) (bytes : List ℕ) → are_lines steps ≡ true → few modules ≡ n → Told limits n steps bytes
    → AreRepliesTo limits modules (asked steps) bytes
unfolding AreRepliesTo
replies_of limits modules n steps bytes h is told = (
  told.end,
  Some [],
  length (lines_of steps),
  record {
    bytes = (
      lines_of steps,
      [],
      told.answers,
      record {
        text = asked steps;
        splits = splits_asked steps h;
        read = sym (append-nil (asked steps));
        run = subst (λ m. Run Counts (new_of limits m) (lines_of steps) told.answers told.end) (sym is) told.run;
        written = told.written;
      },
      refl,
      refl,
    );
    replies = told.headline;
  },
)

-- ---- tests that share a service

-- the tests that share one, with what makes them do so
module _ (plan : TestPlan) (session : Session) (h : shares plan session ≡ true) where
  of_state : are_lines plan.state.now ≡ true
  of_state = first_of (are_lines plan.state.now) _ h

  running : (few session.modules == 2 && are_asking session.steps) ≡ true
  running = second_of (is_chosen plan.only session) _ (second_of (are_lines plan.state.now) _ h)

  ask : are_asking session.steps ≡ true
  ask = second_of (few session.modules == 2) (are_asking session.steps) running

  of_two : few session.modules ≡ 2
  of_two = two (few session.modules) (first_of (few session.modules == 2) (are_asking session.steps) running)
    where
      two : (n : ℕ) → (n == 2) ≡ true → n ≡ 2
      two n e = grind arith

-- the same world and known tables, after another number of evaluations
recounts : (base u : Counted) → u.world ≡ base.world → ((n : ℕ) → u.beside.known n ≡ base.beside.known n)
    → recounted base.beside.count u ≡ base
recounts base u world known =
    λ i. record { world = world i; beside = record { count = base.beside.count; known = λ n. known n i } }

module _ (plan : TestPlan) (headline : IsHeadline) (law : QuestionsLeaveAll) (state : are_lines plan.state.now ≡ true)
    (base : Counted) (begun : List Answer) (run : Run Counts (new_of plan.limits 2) (lines_of plan.state.now) begun base) where
  base_within : base.beside.count ≤ most
  base_within = run_within (new_of plan.limits 2) base (lines_of plan.state.now) begun run (omega arith)

  -- what is replied to one of them is what a new service may reply
  one_shared : (session : Session) (u v : Counted) (answers : List Answer) (others : List ℕ) → shares plan session ≡ true
      → u.world ≡ base.world → ((n : ℕ) → u.beside.known n ≡ base.beside.known n)
      → Run Counts u (lines_of session.steps) answers v → length answers ≡ length session.steps
      → AreRepliesTo plan.limits session.modules (sent_to plan.state.now session)
      (flat_map line_of begun ++ front session.steps (flat_map line_of answers ++ others))
  one_shared session u v answers others h world known ran count =
      let asks = ask plan session h in
      let (end, fits, again) = (law u v (lines_of session.steps) answers (all_ask session.steps asks) ran).again base.beside.count base_within in
      let from_base = subst (λ x. Run Counts x (lines_of session.steps) answers (recounted end v)) (recounts base u world known) again in
      let bytes = flat_map line_of begun ++ front session.steps (flat_map line_of answers ++ others) in
      replies_of plan.limits session.modules 2 (plan.state.now ++ session.steps) bytes
      (both_lines plan.state.now session.steps state (asking_lines session.steps asks)) (of_two plan session h) (record {
        answers = begun ++ answers;
        end = recounted end v;
        run = subst (λ ls. Run Counts (new_of plan.limits 2) ls (begun ++ answers) (recounted end v)) (sym (map-append (λ s. s.line) plan.state.now session.steps))
            (both_runs Counts (new_of plan.limits 2) base (recounted end v) (lines_of plan.state.now) (lines_of session.steps) begun answers run from_base);
        written = ap (λ own. flat_map line_of begun ++ own)
            (front_of_them session.steps answers others count (each_is_line headline u v (lines_of session.steps) answers ran))
            ∙ sym (flat_map-append line_of begun answers);
        headline = headline;
      })

  -- the tests that are left share a service that has the world and the tables of the state
  all_shared : (sessions : List Session) (u v : Counted) (answers : List Answer) → All (λ s. shares plan s ≡ true) sessions
      → u.world ≡ base.world → ((n : ℕ) → u.beside.known n ≡ base.beside.known n)
      → Run Counts u (lines_of (flat_map (λ s. s.steps) sessions)) answers v
      → AreShared plan (flat_map line_of begun) sessions (flat_map line_of answers)
  all_shared [] u v answers h world known ran = tt
  all_shared (session ∷ sessions) u v answers h world known ran =
      let here = All-head (λ s. shares plan s ≡ true) session sessions h in
      let steps = flat_map (λ s. s.steps) sessions in
      let parts = cut_run Counts u v (lines_of session.steps) (lines_of steps) answers
      (subst (λ ls. Run Counts u ls answers v) (map-append (λ s. s.line) session.steps steps) ran) in
      let count : length parts.first ≡ length session.steps = parts.count ∙ length-map session.steps (λ s. s.line) in
      let bytes : flat_map line_of answers ≡ flat_map line_of parts.first ++ flat_map line_of parts.second =
      ap (flat_map line_of) parts.is ∙ flat_map-append line_of parts.first parts.second in
      let left = law u parts.middle (lines_of session.steps) parts.first (all_ask session.steps (ask plan session here)) parts.before in
      let lines = each_is_line headline u parts.middle (lines_of session.steps) parts.first parts.before in
      subst (AreShared plan (flat_map line_of begun) (session ∷ sessions)) (sym bytes) (
        one_shared session u parts.middle parts.first (flat_map line_of parts.second) here world known parts.before count,
        subst (AreShared plan (flat_map line_of begun) sessions) (sym (behind_them session.steps parts.first (flat_map line_of parts.second) count lines))
            (all_shared sessions parts.middle v parts.second (All-tail (λ s. shares plan s ≡ true) session sessions h)
            (left.world ∙ world) (λ n. left.known n ∙ known n) parts.behind),
      )

-- the steps of tests that share a service are lines
shared_lines : (plan : TestPlan) (sessions : List Session) → All (λ s. shares plan s ≡ true) sessions
    → are_lines (flat_map (λ s. s.steps) sessions) ≡ true
shared_lines plan [] h = refl
shared_lines plan (session ∷ sessions) h =
    both_lines session.steps (flat_map (λ s. s.steps) sessions)
    (asking_lines session.steps (ask plan session (All-head (λ s. shares plan s ≡ true) session sessions h)))
    (shared_lines plan sessions (All-tail (λ s. shares plan s ≡ true) session sessions h))

-- what one new service replies to the state and to all of them
from_one : (plan : TestPlan) (sessions : List Session) (bytes : List ℕ) → IsHeadline → QuestionsLeaveAll → are_lines plan.state.now ≡ true
    → All (λ s. shares plan s ≡ true) sessions → AreRepliesTo plan.limits 2 (asked (plan.state.now ++ flat_map (λ s. s.steps) sessions)) bytes
    → AreShared plan (front plan.state.now bytes) sessions (behind plan.state.now bytes)
from_one plan sessions bytes headline law state h replied =
    let steps = flat_map (λ s. s.steps) sessions in
    let told = told_of plan.limits 2 (plan.state.now ++ steps) bytes (both_lines plan.state.now steps state (shared_lines plan sessions h)) replied in
    let parts = cut_run Counts (new_of plan.limits 2) told.end (lines_of plan.state.now) (lines_of steps) told.answers
    (subst (λ ls. Run Counts (new_of plan.limits 2) ls told.answers told.end) (map-append (λ s. s.line) plan.state.now steps) told.run) in
    let count : length parts.first ≡ length plan.state.now = parts.count ∙ length-map plan.state.now (λ s. s.line) in
    let is : bytes ≡ flat_map line_of parts.first ++ flat_map line_of parts.second =
    told.written ∙ ap (flat_map line_of) parts.is ∙ flat_map-append line_of parts.first parts.second in
    let lines = each_is_line headline (new_of plan.limits 2) parts.middle (lines_of plan.state.now) parts.first parts.before in
    let all = all_shared plan headline law state parts.middle parts.first parts.before sessions parts.middle told.end parts.second h refl (λ n. refl) parts.behind in
    subst (λ b. AreShared plan (front plan.state.now b) sessions (behind plan.state.now b)) (sym is)
    (rw (
      front_of_them plan.state.now parts.first (flat_map line_of parts.second) count lines,
      behind_them plan.state.now parts.first (flat_map line_of parts.second) count lines,
    ) all)

-- where the state isn't lines, no test shares a service
none_shares : (plan : TestPlan) (sessions : List Session) → are_lines plan.state.now ≡ false → sharing plan sessions ≡ []
none_shares plan [] h = refl
none_shares plan (session ∷ sessions) h = rw h (none_shares plan sessions h)

pub shared : (plan : TestPlan) (sessions : List Session) (bytes : List ℕ) → IsHeadline → QuestionsLeaveAll
    → AreRepliesTo plan.limits 2 (asked plan.state.now ++ asked (shared_steps plan sessions)) bytes
    → AreShared plan (front plan.state.now bytes) (sharing plan sessions) (behind plan.state.now bytes)
shared plan sessions bytes headline law replied = by (are_lines plan.state.now) refl
  where
    by : (b : Bool) → are_lines plan.state.now ≡ b → AreShared plan (front plan.state.now bytes) (sharing plan sessions) (behind plan.state.now bytes)
    by true e =
        from_one plan (sharing plan sessions) bytes headline law e (filter_passes (shares plan) sessions)
        (subst (λ sent. AreRepliesTo plan.limits 2 sent bytes) (sym (flat_map-append (λ s. ended s.line) plan.state.now (shared_steps plan sessions))) replied)
    by false e = subst (λ ss. AreShared plan (front plan.state.now bytes) ss (behind plan.state.now bytes)) (sym (none_shares plan sessions e)) tt

-- no test shares a service
pub shared_none : (plan : TestPlan) (sessions : List Session) (first bytes : List ℕ) → sharing plan sessions ≡ []
    → AreShared plan first (sharing plan sessions) bytes
shared_none plan sessions first bytes is = subst (λ ss. AreShared plan first ss bytes) (sym is) tt

-- ---- one more of some tests

abbrev one_if : Bool → Session → List Session → List Session
one_if true session sessions = session ∷ sessions
one_if false session sessions = sessions

module _ (plan : TestPlan) (all : List Session) (i : ℕ) (session : Session) (lt : i < length all) (is : session ≡ get_or all i session) where
  left : (b : Bool) → shares plan session ≡ b → sharing plan (drop i all) ≡ one_if b session (sharing plan (drop (i + 1) all))
  left b e = ap (sharing plan) (drop_more all i session lt ∙ ap (λ s. s ∷ drop (i + 1) all) (sym is)) ∙ by b e
    where
      by : (b : Bool) → shares plan session ≡ b
          → sharing plan (session ∷ drop (i + 1) all) ≡ one_if b session (sharing plan (drop (i + 1) all))
      by true e = rw e refl
      by false e = rw e refl

  -- what it shares is at hand
  pub at_hand : (first rest : List ℕ) → AreShared plan first (sharing plan (drop i all)) rest → shares plan session ≡ true
      → AreRepliesTo plan.limits session.modules (sent_to plan.state.now session) (first ++ front session.steps rest)
  at_hand first rest shared e = (subst (λ ss. AreShared plan first ss rest) (left true e) shared).0

  -- and so is what those behind it share
  pub others_at_hand : (first rest : List ℕ) (b : Bool) → shares plan session ≡ b → AreShared plan first (sharing plan (drop i all)) rest
      → AreShared plan first (sharing plan (drop (i + 1) all)) (if b then behind session.steps rest else rest)
  others_at_hand first rest true e shared = (subst (λ ss. AreShared plan first ss rest) (left true e) shared).1
  others_at_hand first rest false e shared = subst (λ ss. AreShared plan first ss rest) (left false e) shared

-- a test that doesn't run shares nothing
pub not_chosen : (plan : TestPlan) (session : Session) → is_chosen plan.only session ≡ false → shares plan session ≡ false
not_chosen plan session e = by (are_lines plan.state.now)
  where
    by : (b : Bool) → (b && (is_chosen plan.only session && (few session.modules == 2 && are_asking session.steps))) ≡ false
    by true = rw e refl
    by false = refl
