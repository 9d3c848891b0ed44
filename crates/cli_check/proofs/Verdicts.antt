-- The verdict on a file, and on its front.
use Rattle.std.proofs.Common.{◌≡◌, ◌<◌, ◌+◌, ◌++◌, ℕ, List, [], length, take, nat_lt, Bool, true, false, Option, Some, None, IfSome, option_map, refl, sym, ap, subst, ◌∙◌, arith, append-nil, ◌≢◌, Result, Ok, Err}
use Rattle.std.proofs.lemmas.Bool.{lt-ltb, ltb-false, ltb-true}
use Rattle.std.proofs.lemmas.List.{length-take-le, take_all}
use Rattle.std.specs.Io.KnownBytes.{Appends, Keeps}
use Rattle.std.proofs.KnownBytes.{Appends-kept}
use Rattle.ent_wire.specs.Lines.{line_limit}
use Rattle.ent_wire.specs.Pieces.{Sends}
use Rattle.ent_wire.specs.declared.fault.ServeFault.{ServeFault}
use Rattle.ent_wire.specs.declared.fault.ServeFault.TheVariants as fault
use Rattle.cli_check.specs.declared.checking.FileFault.TheVariants.{TooLong}
use Rattle.cli_check.specs.declared.checking.Verdict.{Verdict}
use Rattle.cli_check.specs.Checking.{IsVerdictOn, Judges, document_in, line_of, verdict_of}
use Rattle.cli_check.specs.declared.checking.Verdict.TheVariants.{Refused}

-- a file of too many bytes is refused as such
pub too_long : (bytes : List ℕ) → line_limit < length bytes → Refused TooLong ≡ verdict_of bytes
unfolding verdict_of
too_long bytes lt = rw (lt-ltb line_limit (length bytes) lt) refl

-- it holds no document
pub none_in_too_long : (bytes : List ℕ) → line_limit < length bytes → None ≡ document_in bytes
unfolding document_in
none_in_too_long bytes lt = rw (lt-ltb line_limit (length bytes) lt) refl

front_at : (b : Bool) (all : List ℕ) → nat_lt line_limit (length all) ≡ b → verdict_of (take (line_limit + 1) all) ≡ verdict_of all
front_at false all h = ap verdict_of (take_all (line_limit + 1) all (omega (arith, ltb-false line_limit (length all) h)))
front_at true all h =
    let more = ltb-true line_limit (length all) h in
    let taken = length-take-le (line_limit + 1) all (omega (arith, more)) in
    sym (too_long (take (line_limit + 1) all) (omega (arith, taken))) ∙ too_long all more

-- one byte more than a file may have is enough for its verdict
pub verdict_of_front : (all : List ℕ) → verdict_of (take (line_limit + 1) all) ≡ verdict_of all
verdict_of_front all = front_at (nat_lt line_limit (length all)) all refl

at_known : (known : Option (List ℕ)) (bytes items : List ℕ) (limit : ℕ) → limit ≡ line_limit + 1 → items ≡ [] → IfSome (option_map (take limit) known) (λ xs. bytes ≡ items ++ xs) → IfSome known (λ all. bytes ≡ take (line_limit + 1) all)
at_known None bytes items limit l n is = tt
at_known (Some all) bytes items limit l n is = is ∙ ap (λ xs. xs ++ take limit all) n ∙ ap (λ m. take m all) l

-- what a reader of limited length gives
pub front_read : (known left : Option (List ℕ)) (bytes items : List ℕ) (limit : ℕ) → left ≡ known → limit ≡ line_limit + 1 → items ≡ [] → IfSome (option_map (take limit) left) (λ xs. bytes ≡ items ++ xs) → IfSome known (λ all. bytes ≡ take (line_limit + 1) all)
front_read known left bytes items limit same l n is = at_known known bytes items limit l n (subst (λ k. IfSome (option_map (take limit) k) (λ xs. bytes ≡ items ++ xs)) same is)

-- the verdict on what was read of a reader is that on all that it had
judged : (unread : Option (List ℕ)) (bytes items : List ℕ) (v : Verdict) → bytes ≡ items → IfSome unread (λ all. items ≡ take (line_limit + 1) all) → v ≡ verdict_of bytes → IsVerdictOn unread v
judged None bytes items v same front is = tt
judged (Some all) bytes items v same front is = is ∙ ap verdict_of (same ∙ front) ∙ verdict_of_front all

-- what a check of what was read gives and writes is what one of all that there was does
pub of_front : (unread before after : Option (List ℕ)) (bytes items : List ℕ) (r : Result Verdict ServeFault)
    → bytes ≡ items → IfSome unread (λ all. items ≡ take (line_limit + 1) all) → Judges (Some bytes) before after r → Judges unread before after r
of_front unread before after bytes items (Ok v) same front j = (judged unread bytes items v same front j.0, j.1)
of_front unread before after bytes items (Err fault.Read) same front j = j
of_front unread before after bytes items (Err fault.Write) same front j = (j.0, judged unread bytes items j.0 same front j.1, j.2, j.3, j.4, j.5)
of_front unread before after bytes items (Err fault.Memory) same front j = j

nothing : (known : Option (List ℕ)) → Appends known known []
nothing None = tt
nothing (Some xs) = sym (append-nil xs)

-- nothing is written where nothing was read, or memory was wanting
pub not_read : (unread before : Option (List ℕ)) (e : ServeFault) → e ≢ fault.Write → Judges unread before before (Err e)
not_read unread before fault.Read h = nothing before
not_read unread before fault.Memory h = nothing before
not_read unread before fault.Write h = absurd (h refl)

-- a writer that fails holds a front of the line
pub cut : (unread before after : Option (List ℕ)) (v : Verdict) (e : ServeFault) → IsVerdictOn unread v → Sends before after (line_of v) (Err e) → Judges unread before after (Err e)
cut unread before after v e on sent = subst (λ x. Judges unread before after (Err x)) (sym sent.0) (v, on, sent.1, sent.2, sent.3, sent.4)

-- a writer that can't be flushed holds the line
pub unflushed : (before mid after : Option (List ℕ)) (line : List ℕ) → Appends before mid line → Keeps mid after → Sends before after line (Err fault.Write)
unflushed before mid after line sent kept = (refl, line, [], sym (append-nil line), Appends-kept before mid after line sent kept)
