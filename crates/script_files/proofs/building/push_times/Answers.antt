use Rattle.std.proofs.Common.{Some}
use Rattle.script_files.proofs.Ranges.{range_step}
use Rattle.script_files.specs.Sessions.{steps_of}
use Rattle.script_files.proofs.building.push_times.Goals as goal

pub loop-time-preserved : goal.loop-time-preserved
loop-time-preserved c =
    range_step (λ time. steps_of (Some time) c.args.lines.now) c.loop-time.time c.args.steps.now c.loop-time.steps c.push_steps.new.steps
    c.loop-time.invariant c.in_ok-push_steps.ensures
