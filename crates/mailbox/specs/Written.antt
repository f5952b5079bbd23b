-- What is printed is logged and written.
use Rattle.std.specs.Prelude.{◌≡◌, ◌≤◌, ℕ, List, ◌++◌, length, take, Option, option_map, Result, Err}
use Rattle.std.specs.List.{flat_map}
use Rattle.do_disk.specs.Disk.{Rose}
use Rattle.line_server.specs.Text.{text}
use Rattle.line_server.specs.declared.out_line.OutLine.{OutLine}
use Rattle.mailbox.specs.declared.fault.SwitchFault.{SwitchFault}
use Rattle.mailbox.specs.declared.fault.SwitchFault.TheVariants.{WriteFailed}

-- The text of the lines.
abbrev pub text_of : List OutLine → List ℕ
text_of lines = flat_map text lines

-- What was logged since was written behind what was taken before, as far as the sink tells it.
pub record Writes (old new : Option (List ℕ)) (before after : List OutLine) : Type 0 where
  pub since : List OutLine
  pub logged : after ≡ before ++ since
  pub written : new ≡ option_map (λ taken. taken ++ text_of since) old

-- Its first bytes were written.
pub record WritesInPart (old new : Option (List ℕ)) (before after : List OutLine) : Type 0 where
  pub since : List OutLine
  pub logged : after ≡ before ++ since
  pub count : ℕ
  pub within : count ≤ length (text_of since)
  pub written : new ≡ option_map (λ taken. taken ++ take count (text_of since)) old

-- The sink's count of faults rose where a write failed, and else stays.
pub record CountsWrites {T : Type 0} (before now : ℕ) (result : Result T SwitchFault) : Type 0 where
  pub failed : result ≡ Err WriteFailed → Rose before now
  pub steady : (result ≡ Err WriteFailed → ⊥) → now ≡ before
