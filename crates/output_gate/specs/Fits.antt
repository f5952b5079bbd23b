-- Which entries a back takes. The others leave it stuck, and no front sends them. This project's profile.
use Rattle.std.specs.Prelude.{◌==◌, nat_lt, Bool, true, false, not, if◌then◌else◌, List, length, ◌-◌, slice_get, Option, Some, None, Err}
use Rattle.timeline.specs.History.{is_halting}
use Rattle.timeline.specs.declared.entry.Body.{Body}
use Rattle.timeline.specs.declared.entry.Body.TheVariants as body
use Rattle.timeline.specs.declared.entry.Entry.{Entry}
use Rattle.timeline.specs.declared.message.Message.TheVariants as message

abbrev pub is_halt : Body → Bool
is_halt (body.Halt cause) = true
is_halt _ = false

abbrev pub IsAsk : Body → Type 0
IsAsk (body.Ask ask free) = Unit {0}
IsAsk _ = ⊥

-- the last of some entries
abbrev pub last_of : List Entry → Option Entry
last_of entries = slice_get entries (length entries - 1)

-- An entry may stand behind the one before it: that is of a lower incarnation, or of the same one and no halt. Incarnations are
-- numbered from 1.
abbrev pub comes_behind : Option Entry → Entry → Bool
comes_behind None e = nat_lt 0 e.incarnation
comes_behind (Some last) e = if last.incarnation == e.incarnation then not (is_halt last.body) else nat_lt last.incarnation e.incarnation

-- What may be taken of an incarnation that is or was mounted, where the object is known or isn't. A halt names one of the causes by which
-- a turn ends an incarnation.
abbrev pub fits_mounted : Body → (is_known : Bool) → Bool
fits_mounted (body.Bind identity) is_known = not is_known
fits_mounted (body.Batch ops tail confirmed) is_known = is_known
fits_mounted (body.Halt c) is_known = is_halting c
fits_mounted body.Mend is_known = false
fits_mounted _ is_known = true

-- What may be taken of one that isn't mounted: a failure, and a wish to be mounted.
abbrev pub fits_down : Body → Bool
fits_down body.Mend = true
fits_down (body.Message (message.Reply to (Err failure))) = true
fits_down _ = false
