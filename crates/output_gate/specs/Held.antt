-- What a back holds: the messages among it, and what an end leaves of it.
use Rattle.std.specs.Prelude.{◌≡◌, ℕ, nat_lt, Bool, true, false, ◌||◌, if◌then◌else◌, List, [], ◌∷◌, Err}
use Rattle.std.specs.List.{flat_map}
use Rattle.timeline.specs.History.{is_halting}
use Rattle.timeline.specs.Passed.{Passed}
use Rattle.timeline.specs.declared.caller.Cause.{Cause}
use Rattle.timeline.specs.declared.caller.Failure.TheVariants as failure
use Rattle.timeline.specs.declared.message.Message.TheVariants as message
use Rattle.timeline.specs.declared.caller.Cause.TheVariants as cause
use Rattle.output_gate.specs.declared.held.Held.{Held}
use Rattle.output_gate.specs.declared.held.HeldBody.{HeldBody}
use Rattle.output_gate.specs.declared.held.HeldBody.TheVariants.{Message, Sync, Halt}

abbrev pub passed_by : HeldBody → ℕ → ℕ → List Passed
passed_by (Message sent) needs since = record { message = sent; needs = needs; since = since } ∷ []
passed_by (Sync number) needs since = []
passed_by (Halt cause) needs since = []

abbrev pub passed_of : Held → List Passed
passed_of held = passed_by held.body held.needs held.since

abbrev pub waiting_in : List Held → List Passed
waiting_in held = flat_map passed_of held

-- What an end at an append leaves of something that needs a batch which isn't durable: of a reply the failure.
abbrev pub reset_of : (durable number : ℕ) → Cause → HeldBody → List Held
reset_of durable number c (Message (message.Reply to result)) =
    record { body = Message (message.Reply to (Err (failure.Reset c))); needs = durable; since = number } ∷ []
reset_of durable number c _ = []

-- What such an end leaves of something held, where so many batches are durable.
abbrev pub stays : (durable number : ℕ) → Cause → Held → List Held
stays durable number c held = if nat_lt durable held.needs then reset_of durable number c held.body else held ∷ []

abbrev pub is_held_halt : HeldBody → Bool
is_held_halt (Halt cause) = true
is_held_halt _ = false

abbrev pub has_halt : List Held → Bool
has_halt [] = false
has_halt (held ∷ rest) = is_held_halt held.body || has_halt rest

-- An end that is held with this cause is by a read of the disk that failed; a front's halt has another one.
abbrev pub is_read : Cause → Bool
is_read (cause.Disk before after) = true
is_read _ = false

-- the cause of a halt is one by which a turn ends an incarnation, or a read that failed
abbrev pub ends_well : Cause → Bool
ends_well c = is_halting c || is_read c

abbrev pub halts_well : HeldBody → Bool
halts_well (Halt c) = ends_well c
halts_well _ = true

-- Whether an end by a read that failed is held.
abbrev pub is_failed_read : HeldBody → Bool
is_failed_read (Halt c) = is_read c
is_failed_read _ = false

abbrev pub has_failed_read : List Held → Bool
has_failed_read [] = false
has_failed_read (held ∷ rest) = is_failed_read held.body || has_failed_read rest

-- the disk's counts before a read that failed and after it, where an end by that is held
abbrev pub unread_by : HeldBody → List (ℕ × ℕ)
unread_by (Halt (cause.Disk before after)) = (before, after) ∷ []
unread_by _ = []

abbrev pub unread_in : List Held → List (ℕ × ℕ)
unread_in held = flat_map (λ h. unread_by h.body) held

-- A halt stands at the end, and needs all batches.
abbrev pub HaltsLast : ℕ → List Held → Type 0
HaltsLast before [] = Unit {0}
HaltsLast before (held ∷ rest) = (is_held_halt held.body ≡ true → (rest ≡ []) × (held.needs ≡ before) × (halts_well held.body ≡ true)) × HaltsLast before rest
