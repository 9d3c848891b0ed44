use Rattle.std.proofs.Common.{◌≡◌, ◌++◌, map, take}
use Rattle.std.specs.List.{flat_map}
use Rattle.script_files.specs.Texts.{opened}
use Rattle.script_files.proofs.writing.push_spelled.Given as goal

-- the parts so far are written
abbrev pub invariant-loop-part : goal.invariant-loop-part
invariant-loop-part l = l.out.items ≡ l.initial.out.items ++ flat_map opened (map (λ p. p.now) (take l.part-index l.others))
