use Rattle.std.proofs.Common.{◌++◌, ◌∙◌, Bor, List, ap, map, ℕ}
use Rattle.script_files.proofs.Ranges.{range_step}
use Rattle.script_files.specs.Brackets.{copy}
use Rattle.script_files.proofs.bracket.push_copies.Goals as goal

pub loop-time-preserved : goal.loop-time-preserved
loop-time-preserved c =
    let texts = λ (parts : List (Bor (List ℕ))). map (λ p. p.now) parts in
    range_step (copy c.args.separator.now (texts c.in_ok-parts.parts.items))
    c.loop-time.time c.args.out.now.items c.loop-time.out.items c.push_copy.new.out.items
    c.loop-time.invariant
    (c.in_ok-push_copy.ensures ∙ ap (λ parts. c.loop-time.out.items ++ copy c.args.separator.now (texts parts) c.loop-time.time) c.as_slice.ensures.value)
