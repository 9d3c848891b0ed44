use Rattle.std.proofs.Common.{◌≡◌, ◌++◌, codes, drop, map}
use Rattle.std.specs.List.{fold}
use Rattle.lint_meaning.specs.Effects.{either}
use Rattle.lint_meaning.specs.Places.{numbered}
use Rattle.lint_meaning.specs.Warnings.{seen}
use Rattle.lint_meaning.proofs.walk.+child.Given as goal

abbrev pub invariant-tell_children-loop-number : goal.invariant-tell_children-loop-number
invariant-tell_children-loop-number l = record {
  effects : fold either l.effects (map (λ c. c.gives) (map seen (drop l.number l.children))) ≡ fold either l.fn.without (map (λ c. c.gives) (map seen l.children));
  told : l.warnings ++ numbered (codes "Children") l.number (map (λ c. c.told) (map seen (drop l.number l.children))) l.pointer
      ≡ l.fn.warnings ++ numbered (codes "Children") 0 (map (λ c. c.told) (map seen l.children)) l.pointer;
}
