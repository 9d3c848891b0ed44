use Rattle.ent_policy.proofs.Accepting.{any_accepts_one_number, more_accepts_what_goes_on, numbers_accept_themselves}
use Rattle.ent_policy.proofs.pattern.what_a_pattern_accepts.Goals as goal

pub returns : goal.returns
returns c = record { numbers = numbers_accept_themselves; any = any_accepts_one_number; more = more_accepts_what_goes_on }
