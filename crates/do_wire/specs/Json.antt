-- The JSON of a value.
use Rattle.serde_json.specs.Data as json
use Rattle.serde_json.specs.Find.{of_integer}
use Rattle.do_value.specs.Tree.{Tree, undefined, null, boolean, number, text, list, rec, Trees, no_trees, tree, Pairs, no_pairs, pair}

-- Each kind of value is JSON's of that name (RFC 8259), lists are its arrays, and records its objects, in the order of their
-- keys. JSON has no `undefined`: it is null at the top and in lists, and a record's pair whose value is `undefined` is left
-- out (this project's profile).
abbrev mutual
  pub json_of : Tree → json.Data
  json_of undefined = json.null
  json_of null = json.null
  json_of (boolean b) = json.boolean b
  json_of (number z) = json.number (of_integer z)
  json_of (text bytes) = json.string bytes
  json_of (list ts) = json.array (items_of ts)
  json_of (rec ps) = json.object (members_of ps)

  pub items_of : Trees → json.Items
  items_of no_trees = json.no_items
  items_of (tree t ts) = json.item (json_of t) (items_of ts)

  pub members_of : Pairs → json.Members
  members_of no_pairs = json.no_members
  members_of (pair k undefined ps) = members_of ps
  members_of (pair k t ps) = json.member k (json_of t) (members_of ps)
