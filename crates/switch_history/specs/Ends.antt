-- Which lines of a run of the switch tell of an end: a law, proved by a function of `laws`.
use Rattle.std.specs.Prelude.{◌≡◌, ℕ, true, List, Option}
use Rattle.std.specs.List.{All, Contains}
use Rattle.do_tree.specs.Tree.{Script}
use Rattle.object_messages.specs.Ends.{is_of_end, tells_end}
use Rattle.timeline.specs.Lines.{Identity, Line, OutLine}
use Rattle.timeline.specs.Lines as line
use Rattle.timeline.specs.Switch.{IsSwitchRun, Switch, SwitchLog, accepts, opened, routes}
use Rattle.timeline.specs.declared.message.Message.{Message}

-- A line that tells of an end is that of one of these messages that does.
pub record IsToldBy (routed : List (ℕ × Message)) : Type 0 where
  pub sent : ℕ × Message
  pub there : Contains routed sent
  pub tells : tells_end sent.1 ≡ true

abbrev pub IsRoutedEnd : List (ℕ × Message) → OutLine → Type 0
IsRoutedEnd routed (line.error number f) = is_of_end f ≡ true → IsToldBy routed
IsRoutedEnd routed other = Unit {0}

-- No line tells of an end but those of routed messages that do: none that answers a line of the input at once.
pub record EndsAreRouted : Type 0 where
  pub run : (script : Script) (named : List (Option Identity)) (log : SwitchLog) (s : Switch) → IsSwitchRun script (opened named) log s
      → All (IsRoutedEnd log.routed) log.lines
  pub line : (script : Script) (s : Switch) (l : Line) (routed : List (ℕ × Message)) → All (IsRoutedEnd routed) (accepts script s l).lines
  pub message : (script : Script) (s : Switch) (sent : ℕ × Message) (routed : List (ℕ × Message)) → Contains routed sent
      → All (IsRoutedEnd routed) (routes script s sent).lines
