-- The whole of an input, and the lines that are written of it.
use Rattle.std.proofs.Common.{◌≡◌, ◌∙◌, ◌≤◌, ◌+◌, ◌*◌, ◌++◌, suc, arith, length-append, inl, inr, ℕ, List, [], true, false, Option, Some, None, Result, Ok, Err, ap, append-nil, option_map, subst, sym}
use Rattle.std.specs.Prelude.{⊤, option_and_then}
use Rattle.std.specs.Io.KnownBytes.{Consumes, Keeps}
use Rattle.std.proofs.KnownBytes.{Consumes-trans}
use Rattle.std.proofs.Math.Nat.{mul-suc}
use Rattle.serde_json.specs.Data.{Data}
use Rattle.ent_json.specs.Line.{data_of}
use Rattle.ent_dump.specs.Lines.{DumpsLines, IsReadFault, ReadsAll, ReadsMore, Streams, TakesAtMost, WritesTold}
use Rattle.ent_dump.specs.Reply.{told_lines}
use Rattle.ent_dump.specs.declared.fault.LinesFault.{LinesFault}
use Rattle.ent_dump.specs.declared.fault.LinesFault.TheVariants.{NotDump}

-- more was read
pub read_more : (a b c : Option (List ℕ)) (room : ℕ) (old new : List ℕ) → Consumes a b old → ReadsMore b c room old new (Ok true) → Consumes a c new
read_more a b c room old new p q = subst (Consumes a c) (sym q.2) (Consumes-trans a b c old q.0 p q.1)

-- the end was read
pub read_last : (a b c : Option (List ℕ)) (room : ℕ) (old new : List ℕ) → 1 ≤ room → Consumes a b old → ReadsMore b c room old new (Ok false) → ReadsAll a c new
read_last a b c room old new some p q =
    let read : Consumes a c new = subst (Consumes a c) (append-nil old ∙ sym q.2) (Consumes-trans a b c old [] p q.0) in
    record { read = read; end = q.1 some }

-- at most so many bytes were taken, and at most so many more
pub takes_more : (a b c : Option (List ℕ)) (m n : ℕ) → TakesAtMost a b m → TakesAtMost b c n → TakesAtMost a c (m + n)
takes_more a b c m n p q = (p.0 ++ q.0, Consumes-trans a b c p.0 q.0 p.1 q.1, omega (arith, length-append p.0 q.0, p.2, q.2))

-- and that is no more than a greater number
pub takes_within : (a b : Option (List ℕ)) (m n : ℕ) → TakesAtMost a b m → m ≤ n → TakesAtMost a b n
takes_within a b m n p le = (p.0, p.1, omega (arith, p.2))

-- after some reads of so many bytes each, and one more, of those that there are
pub one_read_more : (a b c : Option (List ℕ)) (room made : ℕ) → TakesAtMost a b (room * made) → TakesAtMost b c room → TakesAtMost a c (room * (made + 1))
one_read_more a b c room made p q =
    let next : made + 1 ≡ suc made = omega arith in
    takes_within a c (room * made + room) (room * (made + 1)) (takes_more a b c (room * made) room p q) (omega (arith, ap (λ n. room * n) next, mul-suc room made))

-- nothing is written where it couldn't be read
pub not_read : (s : Streams) (e : LinesFault) → IsReadFault e → Keeps s.wrote s.holds → DumpsLines s (Err e)
not_read s e (inl is) kept = subst (λ f. DumpsLines s (Err f)) (sym is) kept
not_read s e (inr is) kept = subst (λ f. DumpsLines s (Err f)) (sym is) kept

-- or where it is no JSON
pub no_json : (s : Streams) (all : List ℕ) → data_of all ≡ None → ReadsAll s.unread s.left all → Keeps s.wrote s.holds → DumpsLines s (Err NotDump)
no_json s all none reads kept = (all, reads, ap (option_and_then told_lines) none, kept)

-- what is told is written
pub all_told : (s : Streams) (all : List ℕ) (d : Data) (o : Option (List (List ℕ))) (r : Result ⊤ LinesFault) → told_lines d ≡ o → data_of all ≡ Some d
    → ReadsAll s.unread s.left all
    → WritesTold o s.wrote s.holds r → DumpsLines s r
all_told s all d None r told is reads w =
    subst (DumpsLines s) (sym w.0) (all, reads, ap (option_and_then told_lines) is ∙ told, w.1)
all_told s all d (Some lines) (Ok done) told is reads w = (all, lines, reads, ap (option_and_then told_lines) is ∙ told, w)
all_told s all d (Some lines) (Err e) told is reads w =
    subst (λ f. DumpsLines s (Err f)) (sym w.0) (all, lines, w.1, w.2, reads, ap (option_and_then told_lines) is ∙ told, w.3, w.4)

-- what a reading of JSON says of all bytes
pub none_there : {V : Type 0} (content : V → Data) (o : Option V) (text all : List ℕ) → text ≡ all → option_map content o ≡ data_of text → o ≡ None
    → data_of all ≡ None
none_there content o text all same is none = ap data_of (sym same) ∙ sym is ∙ ap (option_map content) none

pub some_there : {V : Type 0} (content : V → Data) (o : Option V) (v : V) (text all : List ℕ) → text ≡ all → option_map content o ≡ data_of text → o ≡ Some v
    → data_of all ≡ Some (content v)
some_there content o v text all same is here = ap data_of (sym same) ∙ sym is ∙ ap (option_map content) here
