-- What a run of the switch has posted, by whom it names. This project's profile.
use Rattle.std.specs.Prelude.{◌≡◌, ℕ, suc, ◌==◌, Bool, true, false, if◌then◌else◌, List, [], ◌∷◌, ◌++◌, Option, Some, None, is_some}
use Rattle.std.specs.List.{flat_map}
use Rattle.do_tree.specs.Lookup.{class_named}
use Rattle.do_tree.specs.Tree.{Script}
use Rattle.timeline.specs.Eligible.{has_method}
use Rattle.timeline.specs.Lines.{Identity, OutLine}
use Rattle.timeline.specs.Lines as line
use Rattle.timeline.specs.Switch.{is_object}
use Rattle.timeline.specs.declared.caller.Caller.{Caller}
use Rattle.timeline.specs.declared.caller.Caller.TheVariants as from
use Rattle.timeline.specs.declared.event.Event.{Event}
use Rattle.timeline.specs.declared.event.Event.TheVariants as event
use Rattle.timeline.specs.declared.message.Message.{Message}
use Rattle.timeline.specs.declared.message.Message.TheVariants as message

-- Of callers: the calls of the object of this slot.
abbrev pub call_of : ℕ → Caller → List (ℕ × ℕ)
call_of slot (from.Object other incarnation number) = if other == slot then (incarnation, number) ∷ [] else []
call_of slot (from.Request line number) = []

abbrev pub calls_of : ℕ → List Caller → List (ℕ × ℕ)
calls_of slot callers = flat_map (call_of slot) callers

-- Of messages: the calls that name this object.
abbrev pub call_to : Identity → Message → List (ℕ × ℕ)
call_to object (message.Call incarnation number to method args depth) = if is_object to (Some object) then (incarnation, number) ∷ [] else []
call_to object _ = []

abbrev pub calls_to : Identity → List Message → List (ℕ × ℕ)
calls_to object messages = flat_map (call_to object) messages

-- The numbers of the fetches that were printed.
abbrev pub fetch_in : OutLine → List ℕ
fetch_in (line.fetch k object value) = k ∷ []
fetch_in _ = []

abbrev pub fetches_in : List OutLine → List ℕ
fetches_in lines = flat_map fetch_in lines

-- 1, 2, 3 and on, behind so many.
abbrev pub AreNumberedFrom : ℕ → List ℕ → Type 0
AreNumberedFrom before [] = Unit {0}
AreNumberedFrom before (k ∷ ks) = (k ≡ suc before) × AreNumberedFrom k ks

-- A slot without an object of a class that the script has is posted a `Bind` of one first; behind it none, and calls of methods to callers
-- alone.
abbrev pub class_then : Script → Option ℕ → Event → Option ℕ
class_then script class (event.Bind identity) = class_named script identity.0
class_then script class e = class

abbrev pub fits_class : Script → Option ℕ → Event → Bool
fits_class script None (event.Bind identity) = is_some (class_named script identity.0)
fits_class script None e = false
fits_class script (Some class) (event.Bind identity) = false
fits_class script (Some class) e = has_method script class e

abbrev pub AreFitFrom : Script → Option ℕ → List Event → Type 0
AreFitFrom script class [] = Unit {0}
AreFitFrom script class (e ∷ events) = (fits_class script class e ≡ true) × AreFitFrom script (class_then script class e) events
