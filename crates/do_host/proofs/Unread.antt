-- A run that reads nothing of its input.
use Rattle.std.proofs.Common.{◌≡◌, ◌≤◌, ℕ, List, [], Option, Some, refl, ap, ◌∙◌, arith}
use Rattle.do_disk.specs.Disk.{IfTold}
use Rattle.line_server.specs.Going.{HasGiven}
use Rattle.line_server.specs.Limits.{most_lines}
use Rattle.line_server.specs.Requests.{SeenLine}
use Rattle.line_server.proofs.Looking.{looked_none}
use Rattle.mailbox.specs.Seen.{seen_log}
use Rattle.timeline.specs.Lines.{Line}
use Rattle.timeline.specs.Switch as timeline
use Rattle.host_core.specs.Reading.{Accepts, read_lines}
use Rattle.host_core.specs.Report.{IsEmpty}
use Rattle.host_core.specs.declared.report.Report.{Report}

-- nothing was accepted of an input that wasn't read
given_none : (whole : List ℕ) (given : List SeenLine) (left : Option (List ℕ)) → given ≡ [] → left ≡ Some whole → HasGiven whole given left
given_none whole given left none told = record {
  read = [];
  source = record { rest = whole; told = told; whole = refl };
  beyond = [];
  first = rw none refl;
}

accepts_none : (before after : Option (List ℕ)) (count : ℕ) (accepted : List Line) → accepted ≡ [] → count ≡ 0 → after ≡ before
    → IfTold before (λ whole. Accepts whole after accepted count)
accepts_none before after count accepted none zero same whole told = record {
  first = given_none whole (read_lines accepted) after (ap read_lines none) (same ∙ told);
  most = 0;
  looked_at = looked_none whole (read_lines accepted) 0 count after (ap read_lines none) zero (same ∙ told);
}

module _ {S : Type 0} (old report : Report S) (empty : IsEmpty old) where
  -- nothing was accepted of it
  pub accepts_unread : (before after : Option (List ℕ)) → after ≡ before → report.switch ≡ old.switch → report.lines ≡ old.lines
      → IfTold before (λ whole. Accepts whole after (seen_log report.switch).accepted report.lines)
  accepts_unread before after same switch lines =
      let log : seen_log report.switch ≡ timeline.no_log = ap seen_log switch ∙ empty.switch in
      accepts_none before after report.lines (seen_log report.switch).accepted (ap (λ (l : timeline.SwitchLog). l.accepted) log) (lines ∙ empty.lines) same

  -- and no line was counted
  pub lines_unread : report.lines ≡ old.lines → report.lines ≤ most_lines
  lines_unread lines = omega (arith, lines, empty.lines)
