-- The request that three names make.
use Rattle.ent_request.specs.Listed.{listed}
use Rattle.ent_request.specs.declared.request.Request.{Request}
use Rattle.ent_eval.specs.declared.who.Names.{Names}
use Rattle.ent_eval.specs.declared.who.Who.{Who}

-- the request of a cell that names make
abbrev pub named_by : Names → Who
named_by names = record { person = names.person.now; action = names.action.now; resource = names.resource.now }

-- the same as a request of its own
abbrev pub request_by : Names → Request
request_by names = listed names.person.now names.action.now names.resource.now

-- the request of a cell, as one of its own
abbrev pub request_of : Who → Request
request_of who = listed who.person who.action who.resource
