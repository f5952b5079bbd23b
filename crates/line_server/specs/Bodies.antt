-- What requests ask.
use Rattle.std.specs.Prelude.{◌^◌, pos, nat_lt, ℤ, negsuc, Bool, true, false, Result, Ok, Err}
use Rattle.do_value.specs.Seen.{tree_of, trees_in}
use Rattle.line_server.specs.Asked.{Asked, call, tick, fetched, fetch_failed, evict}
use Rattle.line_server.specs.declared.refusal.Refusal.{Refusal}
use Rattle.line_server.specs.declared.request.Request.{Request}
use Rattle.line_server.specs.declared.request.Request.TheVariants.{Call, Tick, Fetched, FetchFailed, Evict}

-- the request, its values as trees
abbrev pub asked_of : Request → Asked
asked_of (Call number to method args) = call number to method (trees_in args)
asked_of (Tick t) = tick t
asked_of (Fetched k value) = fetched k (tree_of value)
asked_of (FetchFailed k) = fetch_failed k
asked_of (Evict to) = evict to

abbrev pub body_seen : Result Request Refusal → Result Asked Refusal
body_seen (Ok request) = Ok (asked_of request)
body_seen (Err refusal) = Err refusal

-- from 0 to 2^53 - 1
abbrev pub is_whole : ℤ → Bool
is_whole (pos n) = nat_lt n (2 ^ 53)
is_whole (negsuc n) = false

-- each number of the request is a whole number from 0 to 2^53 - 1
abbrev pub is_in_range : Request → Bool
is_in_range (Call number to method args) = is_whole number
is_in_range (Tick t) = is_whole t
is_in_range (Fetched k value) = nat_lt k (2 ^ 53)
is_in_range (FetchFailed k) = nat_lt k (2 ^ 53)
is_in_range (Evict to) = true

abbrev pub is_body : Result Request Refusal → Bool
is_body (Ok request) = is_in_range request
is_body (Err refusal) = true
