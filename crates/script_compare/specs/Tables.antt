-- The cells of a table, by their requests.
use Rattle.std.specs.Prelude.{ℕ, List, [], ◌∷◌, Option, Some, None, codes, option_and_then}
use Rattle.serde_json.specs.Data as json
use Rattle.serde_json.specs.Data.{Data, Items, Members, put}
use Rattle.serde_json.specs.Find.{as_array, get}
use Rattle.serde_json.specs.View.{items_of}
use Rattle.serde_json.specs.Written.{compact_text}
use Rattle.ent_json.specs.Objects.{text_at}

-- the text of a list of three names
unfoldable pub names_text : List ℕ → List ℕ → List ℕ → List ℕ
names_text person action resource = compact_text (json.array (items_of (json.string person ∷ json.string action ∷ json.string resource ∷ [])))

-- that of the names of a request, if there are three
abbrev pub request_by : Option (List ℕ) → Option (List ℕ) → Option (List ℕ) → Option (List ℕ)
request_by (Some person) (Some action) (Some resource) = Some (names_text person action resource)
request_by _ _ _ = None

-- the request of a cell: the text of the list of its person, action and resource
abbrev pub request_of : Data → Option (List ℕ)
request_of cell = request_by (text_at (codes "person") cell) (text_at (codes "action") cell) (text_at (codes "resource") cell)

-- cells put at their requests, if each has one
abbrev pub by_request : Members → List Data → Option Members
by_request found [] = Some found
by_request found (cell ∷ cells) = option_and_then (λ request. by_request (put request cell found) cells) (request_of cell)

-- a list of the data
abbrev pub listed : Items → List Data
listed json.no_items = []
listed (json.item d ds) = d ∷ listed ds

-- the table that the reply to `table` tells: its cells at their requests
abbrev pub table_in : Data → Option Members
table_in reply = option_and_then (λ cells. by_request json.no_members (listed cells)) (option_and_then as_array (get (codes "table") reply))
