-- The data that a value of `json` stands for. A number that `serde_json` does not read stands for null, so each value stands for something.
use Rattle.std.specs.Prelude.{Option, Some, None}
use Rattle.json.specs.Json as json
use Rattle.serde_json.specs.Data.{Num, Data, null, boolean, number, string, array, object, Items, no_items, item, Members, no_members, put}
use Rattle.serde_json.specs.Read.{number_of}

-- the number, or null where there is none
abbrev pub number_or_null : Option Num → Data
number_or_null (Some n) = number n
number_or_null None = null

-- The members go in one after another, so the last value of a key stays.
abbrev mutual
  pub content_of : json.Json → Data
  content_of json.null = null
  content_of (json.boolean b) = boolean b
  content_of (json.number s) = number_or_null (number_of s)
  content_of (json.string s) = string s
  content_of (json.array js) = array (items_content js)
  content_of (json.object ms) = object (members_content ms no_members)

  pub items_content : json.Items → Items
  items_content json.no_items = no_items
  items_content (json.item j js) = item (content_of j) (items_content js)

  pub members_content : json.Members → Members → Members
  members_content json.no_members found = found
  members_content (json.member k j ms) found = members_content ms (put k (content_of j) found)
