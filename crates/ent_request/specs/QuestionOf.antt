-- The question that a key is looked up for.
use Rattle.std.specs.Prelude.{◌≡◌, ℕ, List, None}
use Rattle.std.specs.List.{Contains}
use Rattle.ent_values.specs.declared.datatype.DataType.{DataType}
use Rattle.ent_values.specs.declared.datatype.DataType.TheVariants as types
use Rattle.ent_request.specs.declared.key.ReadKey.{ReadKey}
use Rattle.ent_request.specs.declared.key.ReadKey.TheVariants as key
use Rattle.ent_request.specs.declared.question.Question.{Question}
use Rattle.ent_request.specs.declared.question.Question.TheVariants.{Root, Ref, Of}
use Rattle.ent_request.specs.declared.request.Request.{Request}
use Rattle.ent_request.specs.Sources.{keys_of}
use Rattle.ent_request.specs.Uris as uris

-- what is asked of an attribute of the environment, of that type
abbrev pub of_environment : List ℕ → DataType → Question
of_environment attribute datatype = Of (record { category = uris.environment; attribute = attribute; datatype = datatype; issuer = None })

-- the question that a key is looked up for
abbrev pub question_of : ReadKey → Question
question_of key.Root = Root
question_of (key.Ref reference) = Ref reference
question_of (key.Attr k) = Of (record { category = k.category; attribute = k.attribute; datatype = k.datatype; issuer = k.issuer })
question_of key.CurrentDate = of_environment uris.current_date types.Date
question_of key.CurrentTime = of_environment uris.current_time types.Time
question_of key.CurrentDateTime = of_environment uris.current_date_time types.DateTime

-- a key is looked up for that question alone
abbrev pub KeysAreOfOneQuestion : Type 0
KeysAreOfOneQuestion = (request : Request) (question : Question) (k : ReadKey) → Contains (keys_of request question) k → question ≡ question_of k
