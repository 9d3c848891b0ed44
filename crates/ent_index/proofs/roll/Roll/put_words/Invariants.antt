use Rattle.std.proofs.Common.{◌≡◌, ℕ, take}
use Rattle.std.specs.Prelude.{◌||◌}
use Rattle.ent_index.specs.Groups.{is_member}
use Rattle.ent_index.specs.Rolls.{cells_of}
use Rattle.ent_index.proofs.roll.Roll.put_words.Given as goal

abbrev pub invariant-loop-word : goal.invariant-loop-word
invariant-loop-word l = (c : ℕ) → is_member l.self c ≡ (is_member l.initial.self c || is_member (cells_of (take l.word-index l.words)) c)
