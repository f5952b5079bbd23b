-- Which scripts a run takes, and why it refuses the others. This project's profile.
use Rattle.std.specs.Prelude.{◌≡◌, ◌≤◌, ◌<◌, ◌⊎◌, ℕ, List, length, Option, Some, None, codes}
use Rattle.do_lex.specs.Limits.{most_script_bytes}
use Rattle.do_parse.specs.Fault.{IsFaultAt}
use Rattle.do_parse.specs.declared.fault.ParseKind.{ParseKind}
use Rattle.do_parse.specs.declared.fault.ParseKind.TheVariants as wrong
use Rattle.do_tree.specs.Accepts.{IsScriptText}
use Rattle.do_tree.specs.Faults.{IsFaultless, IsFirstFault}
use Rattle.do_tree.specs.Tree.{Script}
use Rattle.do_tree.specs.declared.kind.CheckKind.{CheckKind}
use Rattle.do_tree.specs.declared.kind.CheckKind.TheVariants as kind

-- The text is this script and no other one, and the check finds no fault in it.
pub record IsAccepted (text : List ℕ) (tree : Script) : Type 0 where
  pub short : length text ≤ most_script_bytes
  pub read : IsScriptText text tree
  pub only : (other : Script) → IsScriptText text other → other ≡ tree
  pub faultless : IsFaultless tree

-- A kind of fault prints as its own name. Want of memory is no fault of a script.
abbrev pub parse_word : ParseKind → Option (List ℕ)
parse_word wrong.TooLong = Some (codes "TooLong")
parse_word wrong.BadChar = Some (codes "BadChar")
parse_word wrong.OpenText = Some (codes "OpenText")
parse_word wrong.LongNumber = Some (codes "LongNumber")
parse_word wrong.Unexpected = Some (codes "Unexpected")
parse_word wrong.TooNested = Some (codes "TooNested")
parse_word wrong.NoMemory = None

abbrev pub check_word : CheckKind → Option (List ℕ)
check_word kind.Doubled = Some (codes "Doubled")
check_word kind.Reserved = Some (codes "Reserved")
check_word kind.Unbound = Some (codes "Unbound")
check_word kind.ConstAssigned = Some (codes "ConstAssigned")
check_word kind.BadTarget = Some (codes "BadTarget")
check_word kind.Form = Some (codes "Form")
check_word kind.NoMember = Some (codes "NoMember")
check_word kind.AwaitInSync = Some (codes "AwaitInSync")
check_word kind.NotAwaited = Some (codes "NotAwaited")
check_word kind.AwaitOfSync = Some (codes "AwaitOfSync")
check_word kind.InTransaction = Some (codes "InTransaction")
check_word kind.InBlock = Some (codes "InBlock")
check_word kind.LoopExit = Some (codes "LoopExit")
check_word kind.StartTwice = Some (codes "StartTwice")
check_word kind.NoMemory = None

-- The text has this first fault as it is read. One of more than 262,144 bytes is too long, whatever it holds.
pub record IsUnread (text : List ℕ) (place : ℕ) (word : List ℕ) : Type 0 where
  pub kind : ParseKind
  pub named : parse_word kind ≡ Some word
  pub at_once : most_script_bytes < length text → kind ≡ wrong.TooLong
  pub fault : IsFaultAt text kind place

-- The text is one script, in which the check finds this first fault.
pub record IsFaulty (text : List ℕ) (place : ℕ) (word : List ℕ) : Type 0 where
  pub kind : CheckKind
  pub named : check_word kind ≡ Some word
  pub tree : Script
  pub short : length text ≤ most_script_bytes
  pub read : IsScriptText text tree
  pub only : (other : Script) → IsScriptText text other → other ≡ tree
  pub fault : IsFirstFault tree place kind

-- Why the text is refused: its first fault, by its place and the word of its kind.
abbrev pub IsRefused : List ℕ → ℕ → List ℕ → Type 0
IsRefused text place word = IsUnread text place word ⊎ IsFaulty text place word
