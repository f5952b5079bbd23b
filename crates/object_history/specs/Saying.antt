-- What a step of an object says: which of it its back answers, and what ends its incarnation.
use Rattle.std.specs.Prelude.{◌≡◌, Bool, true, false, not, List, [], ◌∷◌, ◌++◌, Some, None}
use Rattle.std.specs.List.{All}
use Rattle.timeline.specs.Object.{State, idle, waiting, ended, Step}
use Rattle.timeline.specs.declared.entry.Body.{Body}
use Rattle.timeline.specs.declared.entry.Body.TheVariants as body
use Rattle.timeline.specs.History.{is_halting}

-- An entry whose answer is waited for. That of an open ask isn't: its reading comes while the object goes on.
abbrev pub is_asked : Body → Bool
is_asked (body.Ask ask free) = not free
is_asked (body.Batch ops (Some tail) confirmed) = true
is_asked body.Sync = true
is_asked _ = false

-- It is no open ask.
abbrev pub IsGated : Body → Type 0
IsGated (body.Ask ask free) = free ≡ false
IsGated _ = Unit {0}

-- An entry that stands between others: nothing is waited for behind it.
abbrev pub is_plain : Body → Bool
is_plain (body.Batch ops None confirmed) = true
is_plain (body.Message sent) = true
is_plain (body.Bind identity) = true
is_plain _ = false

abbrev pub ArePlain : List Body → Type 0
ArePlain bodies = All (λ b. is_plain b ≡ true) bodies

-- One that an object says of itself: a batch or a message.
abbrev pub is_inner : Body → Bool
is_inner (body.Batch ops None confirmed) = true
is_inner (body.Message sent) = true
is_inner _ = false

-- What leads to a state: such entries, with nothing that is waited for but by the state; and a halt where the incarnation has ended, as
-- the last.
abbrev pub LeadBy : (Body → Bool) → List Body → State → Type 0
LeadBy plain said (idle o) = All (λ b. plain b ≡ true) said
LeadBy plain said (waiting o t b) = All (λ b. plain b ≡ true) said × (is_asked b ≡ true)
LeadBy plain said (ended c) =
    (first : List Body) × (said ≡ first ++ body.Halt c ∷ []) × All (λ b. plain b ≡ true) first × (is_halting c ≡ true)

abbrev pub LeadTo : List Body → State → Type 0
LeadTo said state = LeadBy is_plain said state

abbrev pub IsWellSaid : Step → Type 0
IsWellSaid step = LeadTo step.says step.state
