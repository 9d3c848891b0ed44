-- Pieces of lines, and fronts of what is written.
use Rattle.std.proofs.Common.{◌≡◌, ℕ, suc, ◌+◌, ◌-◌, ◌<◌, List, ◌++◌, length, take, drop, get_or, Option, sym, ap, ◌∙◌, append_assoc, take-append-drop, drop-cons, Bor, Err, subst, arith, take_all, length-drop}
use Rattle.std.specs.List.{flat_map}
use Rattle.std.proofs.lemmas.List.Concat.{flat_map-append}
use Rattle.std.specs.Io.KnownBytes.{Appends}
use Rattle.std.proofs.KnownBytes.{Appends-trans}
use Rattle.ent_wire.specs.Pieces.{Sends}
use Rattle.ent_wire.specs.declared.fault.ServeFault.{ServeFault}
use Rattle.std.proofs.Math.Seq.{take-add}

-- a front of one part, after the parts before it
pub part_sent : (before mid after : Option (List ℕ)) (parts : List (Bor (List ℕ))) (i : ℕ) (d : Bor (List ℕ)) (e : ServeFault) → i < length parts → Appends before mid (flat_map (λ p. p.now) (take i parts))
    → Sends mid after (get_or parts i d).now (Err e) → Sends before after (flat_map (λ p. p.now) parts) (Err e)
part_sent before mid after parts i d e lt p q =
    let done = flat_map (λ (x : Bor (List ℕ)). x.now) (take i parts) in
    let later = flat_map (λ (x : Bor (List ℕ)). x.now) (drop (suc i) parts) in
    let split : flat_map (λ (x : Bor (List ℕ)). x.now) parts ≡ done ++ ((get_or parts i d).now ++ later) =
    ap (flat_map (λ (x : Bor (List ℕ)). x.now)) (sym (take-append-drop i parts)) ∙ flat_map-append (λ (x : Bor (List ℕ)). x.now) (take i parts) (drop i parts) ∙ ap (λ ps. done ++ flat_map (λ (x : Bor (List ℕ)). x.now) ps) (drop-cons parts i d lt) in
    let front = q.1 in
    let rest = q.2 in (
      q.0,
      done ++ front,
      rest ++ later,
      split ∙ ap (λ t. done ++ (t ++ later)) q.3 ∙ ap (λ t. done ++ t) (append_assoc front rest later) ∙ sym (append_assoc done front (rest ++ later)),
      Appends-trans before mid after done front p q.4,
    )

pub Appends-more : (before mid after : Option (List ℕ)) (bytes : List ℕ) (sent n : ℕ)
    → Appends before mid (take sent bytes) → Appends mid after (take n (take (length bytes - sent) (drop sent bytes)))
    → Appends before after (take (sent + n) bytes)
Appends-more before mid after bytes sent n p q =
    let rest : take (length bytes - sent) (drop sent bytes) ≡ drop sent bytes = take_all (length bytes - sent) (drop sent bytes)
    (omega (arith, length-drop sent bytes)) in
    let whole : take (sent + n) bytes ≡ take sent bytes ++ take n (take (length bytes - sent) (drop sent bytes)) = take-add sent n bytes
    ∙ ap (λ t. take sent bytes ++ take n t) (sym rest) in
    subst (Appends before after) (sym whole) (Appends-trans before mid after (take sent bytes) (take n (take (length bytes - sent) (drop sent bytes))) p q)
