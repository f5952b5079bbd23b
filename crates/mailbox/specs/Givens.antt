-- What one line or message gives, as the code has it and as the definition of a switch does.
use Rattle.std.specs.Prelude.{◌≡◌, ◌<◌, ℕ, List, [], ◌∷◌, length, if◌then◌else◌, Option, Some, None, Result}
use Rattle.std.specs.List.{AllByRecursion}
use Rattle.do_value.specs.declared.value.Value.{Value}
use Rattle.line_server.specs.declared.out_line.OutLine as out
use Rattle.timeline.specs.Lines.{OutLine}
use Rattle.timeline.specs.Switch as switch
use Rattle.timeline.specs.Switch.{Switch, answers_to, gives_nothing}
use Rattle.timeline.specs.declared.caller.Caller.{Caller}
use Rattle.timeline.specs.declared.caller.Caller.TheVariants as from
use Rattle.timeline.specs.declared.caller.Failure.{Failure}
use Rattle.timeline.specs.declared.event.Event.{Event}
use Rattle.mailbox.specs.declared.given.Given.{Given}
use Rattle.mailbox.specs.Seen.{seen_out}

-- The line, if there is one.
abbrev pub lines_in : Option out.OutLine → List OutLine
lines_in None = []
lines_in (Some line) = seen_out line ∷ []

-- Each post is of a slot that is there.
abbrev pub AreWithin : ℕ → List (ℕ × Event) → Type 0
AreWithin slots posts = AllByRecursion (λ post. post.0 < slots) posts

-- These are the posts and the lines, and each post is of a slot that is there.
pub record IsGiven (given : Given) (wanted : switch.Given) : Type 0 where
  pub posts : given.posts.items ≡ wanted.posts
  pub lines : lines_in given.line ≡ wanted.lines
  pub within : AreWithin (length wanted.after.objects) wanted.posts

-- An object that waits is of a slot that is there.
abbrev pub HasSlot : ℕ → Caller → Type 0
HasSlot slots (from.Request line number) = Unit {0}
HasSlot slots (from.Object slot incarnation number) = slot < slots

-- A reply to who isn't there gives nothing.
abbrev pub replies : Switch → Caller → Result Value Failure → switch.Given
replies s to result = if switch.is_fit s to then answers_to s to result else gives_nothing s
