-- What an evaluation runs over.
use Rattle.ent_request.specs.declared.request.Request.{Request}

-- what is held, and the request
pub record Basis (L : Type 0) : Type 0 where
  pub held : L
  pub request : Request
