use Rattle.std.proofs.Common.{◌≡◌, ◌+◌, ◌≤◌, ◌++◌, map, length}
use denote.Text.{Utf8}
use denote.Shadow.{shadow}
use Rattle.do_value.specs.Tree.{text, items, size_of}
use Rattle.do_value.specs.Limits.{most_bytes}
use Rattle.do_value.specs.Seen.{trees_in}
use Rattle.script_ops.specs.Texts.{pieces}
use Rattle.script_ops.proofs.texts.split.Given as goal

abbrev pub invariant-loop-piece : goal.invariant-loop-piece
invariant-loop-piece l =
    shadow (Utf8 l.rest) × (trees_in l.parts.items ++ map text (pieces l.separator l.rest) ≡ map text (pieces l.separator l.text)) × (5 + length l.rest ≤ most_bytes)
    × (l.size ≡ size_of (items (trees_in l.parts.items))) × (l.size ≤ most_bytes)

abbrev pub decreases-loop-piece : goal.decreases-loop-piece
decreases-loop-piece l = length l.rest
