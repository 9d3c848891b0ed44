use Rattle.lint_reach.proofs.Searching.{put_none, put_one}
use Rattle.lint_reach.proofs.search.put.Goals as goal

pub returns-in-None : goal.returns-in-None
returns-in-None c = put_none c.args.places.now.keys c.args.found c.in-None.is

pub returns-in_ok-insert-in-Some : goal.returns-in_ok-insert-in-Some
returns-in_ok-insert-in-Some c =
    put_one c.args.places.now.keys c.insert.new.self.keys c.args.found c.in-Some.place c.in-Some.is c.in_ok-insert-in-Some.ensures.updates.0
