use Rattle.std.proofs.Common.{◌∙◌, sym, ap, length-append, arith}
use Rattle.ent_combine.specs.Choose.{progress_of}
use Rattle.ent_combine.proofs.Choosing.{more_targets}
use Rattle.ent_combine.proofs.chooser.Chooser.take.Goals as goal

pub returns-clause-seen : goal.returns-clause-seen
returns-clause-seen c = λ ts seen.
    let inside = rw (← c.self.view_is) at seen in
    record {
      taken = rw length-append (omega (arith, inside.taken));
      choice = c.choice_with-self-inside.ensures ∙ rw (inside.choice, inside.taken) (sym (more_targets ts c.args.target));
    }

pub returns-clause-progress : goal.returns-clause-progress
returns-clause-progress c = λ ts seen.
    let inside = rw (← c.self.view_is) at seen in
    c.progress_with.ensures ∙ ap progress_of (c.choice_with-self-inside.ensures ∙ rw (inside.choice, inside.taken) (sym (more_targets ts c.args.target)))
