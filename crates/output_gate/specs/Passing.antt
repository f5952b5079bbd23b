-- What a step of a back does to the messages that leave.
use Rattle.std.specs.Prelude.{◌≡◌, ℕ, nat_lt, true, if◌then◌else◌, List, [], ◌∷◌, Option, Some, None}
use Rattle.std.specs.List.{All}
use Rattle.timeline.specs.History.{durable, said_in}
use Rattle.timeline.specs.Passed.{Passed, Held, held_in, replaced}
use Rattle.timeline.specs.declared.caller.Cause.{Cause}
use Rattle.timeline.specs.declared.entry.Body.{Body}
use Rattle.timeline.specs.declared.entry.Entry.{Entry}
use Rattle.timeline.specs.declared.message.Message.{Message}

-- What a failed or full append makes of a message, by how many batches are durable, the number of the incarnation that ends,
-- and the cause.
abbrev pub discarded : ℕ → ℕ → Cause → Passed → List Passed
discarded durable number c p = if nat_lt durable p.needs then replaced durable number c p.message else p ∷ []

-- What leaves of a message of an incarnation that has ended, where its late messages still pass, and where they don't.
abbrev pub late_leaving : Option ℕ → (settled since : ℕ) → Cause → Message → List Passed
late_leaving (Some needs) settled since c sent = record { message = sent; needs = needs; since = since } ∷ []
late_leaving None settled since c sent = replaced settled since c sent

-- All were held while their incarnation wasn't mounted, or there are none.
abbrev pub AreMended : List Entry → Type 0
AreMended entries = All (λ (h : Held). h.mended ≡ true) (held_in 0 0 (said_in entries))

abbrev pub IsSilent : Body → Type 0
IsSilent b = (n behind : ℕ) → held_in n behind (b ∷ []) ≡ []
