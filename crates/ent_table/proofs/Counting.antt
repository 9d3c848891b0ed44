-- By how much the count of evaluations rises.
use Rattle.std.proofs.Common.{◌≡◌, ℕ, ◌≤◌, Result, Ok, Err, sym, ap, subst, ◌∙◌, arith}
use Rattle.ent_cells.specs.Count.{most, raised}
use Rattle.ent_table.specs.declared.edit.Accepted.{Accepted}
use Rattle.ent_table.specs.declared.edit.EditFault.{EditFault}
use Rattle.ent_table.specs.declared.edit.EditFault.TheVariants.{NotThere, AlreadyThere, Limit, Reserved, BadValue, UnknownModule, Memory}
use Rattle.ent_table.specs.Counted.{IsCounted, touched_count}
use Rattle.ent_table.specs.State.{State}

pub raised_none : (before : ℕ) → before ≤ most → raised before 0 ≡ before
raised_none before h = omega (arith, h)

pub raised_more : (before n : ℕ) → before ≤ most → before ≤ raised before n
raised_more before n h = omega (arith, h)

-- a refusal before which nothing was evaluated
pub idle_refusal : (r : Result State EditFault) (s : State) (before after : ℕ) (fault : EditFault) → before ≤ most → after ≡ before → IsCounted r s before after (Err fault)
idle_refusal (Ok t) s before after Memory h e = (subst (λ n. before ≤ n) (sym e) (omega arith), subst (λ n. n ≤ raised before (touched_count s t)) (sym e) (raised_more before (touched_count s t) h))
idle_refusal (Ok t) s before after NotThere h e = e
idle_refusal (Ok t) s before after AlreadyThere h e = e
idle_refusal (Ok t) s before after Limit h e = e
idle_refusal (Ok t) s before after Reserved h e = e
idle_refusal (Ok t) s before after BadValue h e = e
idle_refusal (Ok t) s before after UnknownModule h e = e
idle_refusal (Err f) s before after Memory h e = e
idle_refusal (Err f) s before after NotThere h e = e
idle_refusal (Err f) s before after AlreadyThere h e = e
idle_refusal (Err f) s before after Limit h e = e
idle_refusal (Err f) s before after Reserved h e = e
idle_refusal (Err f) s before after BadValue h e = e
idle_refusal (Err f) s before after UnknownModule h e = e

-- an edit that is made, for which so many cells were evaluated
pub made_counts : (r : Result State EditFault) (s t : State) (before after n : ℕ) (a : Accepted) → r ≡ Ok t → n ≡ touched_count s t → after ≡ raised before n → IsCounted r s before after (Ok a)
made_counts r s t before after n a e same up = subst (λ q. IsCounted q s before after (Ok a)) (sym e) (up ∙ ap (raised before) same)

-- one that is refused for want of memory, for which so many were evaluated at most
pub wanting_counts : (r : Result State EditFault) (s t : State) (before after n : ℕ) → r ≡ Ok t → n ≡ touched_count s t → (before ≤ after) × (after ≤ raised before n) → IsCounted r s before after (Err Memory)
wanting_counts r s t before after n e same up =
    subst (λ q. IsCounted q s before after (Err Memory)) (sym e) (up.0, subst (λ m. after ≤ raised before m) same up.1)
