-- Whom and what messages and events name: a caller; and a call or a fetch, by its incarnation and its number. This project's profile.
use Rattle.std.specs.Prelude.{ℕ, Bool, ◌==◌, ◌&&◌, List, [], ◌∷◌, length}
use Rattle.std.specs.List.{flat_map, filter}
use Rattle.timeline.specs.Replies.{caller_of, same_caller}
use Rattle.timeline.specs.declared.caller.Caller.{Caller}
use Rattle.timeline.specs.declared.entry.Body.{Body}
use Rattle.timeline.specs.declared.entry.Body.TheVariants as body
use Rattle.timeline.specs.declared.entry.Entry.{Entry}
use Rattle.timeline.specs.declared.event.Event.{Event}
use Rattle.timeline.specs.declared.event.Event.TheVariants as event
use Rattle.timeline.specs.declared.message.Message.{Message}
use Rattle.timeline.specs.declared.message.Message.TheVariants as message

-- A call or a fetch: the incarnation that made it, and its number there.
abbrev pub asked_by : Message → List (ℕ × ℕ)
asked_by (message.Call incarnation number to method args depth) = (incarnation, number) ∷ []
asked_by (message.Fetch incarnation number value) = (incarnation, number) ∷ []
asked_by (message.Reply to result) = []

abbrev pub asked_in : List Message → List (ℕ × ℕ)
asked_in messages = flat_map asked_by messages

-- The fetches alone.
abbrev pub fetched_by : Message → List (ℕ × ℕ)
fetched_by (message.Fetch incarnation number value) = (incarnation, number) ∷ []
fetched_by _ = []

abbrev pub fetched_in : List Message → List (ℕ × ℕ)
fetched_in messages = flat_map fetched_by messages

-- To whom a message replies.
abbrev pub replied_by : Message → List Caller
replied_by (message.Reply to result) = to ∷ []
replied_by _ = []

abbrev pub replied_in : List Message → List Caller
replied_in messages = flat_map replied_by messages

-- Who called, and what was answered.
abbrev pub called_in : List Event → List Caller
called_in events = flat_map caller_of events

abbrev pub answered_by : Event → List (ℕ × ℕ)
answered_by (event.Answer incarnation number result at) = (incarnation, number) ∷ []
answered_by _ = []

abbrev pub answered_in : List Event → List (ℕ × ℕ)
answered_in events = flat_map answered_by events

-- The messages among what was said.
abbrev pub message_of : Body → List Message
message_of (body.Message sent) = sent ∷ []
message_of _ = []

abbrev pub messages_of : List Entry → List Message
messages_of entries = flat_map (λ (entry : Entry). message_of entry.body) entries

-- How often a caller stands there: a request is its line.
abbrev pub times : Caller → List Caller → ℕ
times from callers = length (filter (same_caller from) callers)

-- How often a call or a fetch stands there, by its incarnation and its number.
abbrev pub same_numbers : ℕ × ℕ → ℕ × ℕ → Bool
same_numbers a b = b.0 == a.0 && b.1 == a.1

abbrev pub times_of : ℕ × ℕ → List (ℕ × ℕ) → ℕ
times_of asked all = length (filter (same_numbers asked) all)
