use Rattle.std.proofs.lemmas.Str.{IsUtf8-past_char}
use Rattle.script_junit.proofs.Lists.{written_all, written_more}
use Rattle.script_junit.proofs.escaping.escaped_text.Goals as goal

pub loop-character-preserved : goal.loop-character-preserved
loop-character-preserved c =
    let held = c.loop-character.invariant in
    let parts = c.in-Some.ensures.steps.0 in
    record {
      text = IsUtf8-past_char _ _ c.in-Some.character held.text parts;
      left = written_more _ _ c.in-Some.character _ _ _ held.text parts c.in_ok-push_escaped.ensures held.left;
    }

pub returns : goal.returns
returns c = written_all _ _ _ c.in-None.ensures.steps.0.0 c.loop-character.invariant.left
