-- What `gen` does. This project's profile.
use Rattle.std.specs.Prelude.{◌≡◌, ◌≢◌, ◌⊎◌, ◌++◌, ◌∷◌, ◌+◌, if◌then◌else◌, ℕ, ℤ, Bool, true, false, List, [], Some, None, Result, Ok, Err, codes}
use Rattle.serde_json.specs.Data.{Data, unsigned, number, string, array, no_items, item}
use Rattle.serde_json.specs.Find.{of_integer}
use Rattle.do_disk.specs.Disk.{Rose}
use Rattle.do_disk.specs.declared.memory_sink.VoidSink.{VoidSink}
use Rattle.do_tree.specs.Tree.{Script}
use Rattle.host_core.specs.Ends.{opening_end}
use Rattle.host_core.specs.declared.opening.OpenEnd.{OpenEnd}
use Rattle.host_core.specs.declared.report.Report.{Report}
use Rattle.host_core.specs.declared.settings.ServeEnd.{ServeEnd}
use Rattle.host_core.specs.declared.settings.ServeEnd.TheVariants as ends
use Rattle.line_server.specs.Cut.{line_end}
use Rattle.line_server.specs.declared.out_line.OutLine.{OutLine}
use Rattle.line_server.specs.declared.out_line.OutLine.TheVariants.{Reply}
use Rattle.do_host.specs.Endings.{TellsEnd}
use Rattle.do_host.specs.Generator.{made_lines}
use Rattle.do_host.specs.Outside.{Disks, Given, Left, LeavesInputAndReport, Outside, Sinks}
use Rattle.do_host.specs.Scripts.{IsAccepted}
use Rattle.do_host.specs.ServeRuns.{ServesTree, Serving}
use Rattle.do_host.specs.SlotLines.{line_of_json}
use Rattle.do_host.specs.Status.{IsDumpStatus}
use Rattle.do_host.specs.Sums.{Sums}
use Rattle.do_host.specs.Written.{WritesAll, WritesFirstOf}

-- the script that `gen` serves
abbrev pub gen_script : List ℕ
gen_script = codes "export class G extends DurableObject {" ++ line_end ∷ codes "  async add(k) { let n = await this.ctx.storage.get(\"n\") ?? 0; "
    ++ codes "this.ctx.storage.put(\"n\", n + k); return n + k; }" ++ line_end ∷ codes "}" ++ line_end ∷ []

-- 16 slots of the folder are served, and the journal of each may have 2^30 bytes. The script has no path.
abbrev pub generating : List ℕ → Serving
generating folder = record { script = []; folder = folder; slots = 16; journal = 1073741824 }

-- Over what it serves: the same disks, lines of which no read fails, and a sink that keeps nothing and of which no write fails.
abbrev pub over_lines : {S R W : Type 0} → Outside S R W → Outside S (List ℕ) VoidSink
over_lines outside = record {
  disks = outside.disks;
  source = record { left = λ source. Some source; faults_of = λ source. 0 };
  sink = record { taken = λ sink. None; faults_of = λ sink. 0 };
}

-- what serving is given: the same depot and report, these lines, and that sink
abbrev pub given_lines : {S R W : Type 0} → List ℕ → VoidSink → Given S R W → Given S (List ℕ) VoidSink
given_lines lines void given = record { depot = given.depot; input = lines; out = void; report = given.report }

-- how many of the lines are replies
abbrev pub is_reply : OutLine → Bool
is_reply (Reply n value) = true
is_reply other = false

abbrev pub replies_in : List OutLine → ℕ
replies_in [] = 0
replies_in (line ∷ lines) = if is_reply line then 1 + replies_in lines else replies_in lines

-- `["summary",COUNT,replies,total]`
abbrev pub summary_json : ℕ → ℕ → ℤ → Data
summary_json count replies total =
    array (item (string (codes "summary")) (item (number (unsigned count)) (item (number (unsigned replies)) (item (number (of_integer total)) no_items))))

abbrev pub summary_line : ℕ → ℕ → ℤ → List ℕ
summary_line count replies total = line_of_json (summary_json count replies total)

-- At a good end the line was written; else the first bytes of it, as a write failed, and the count of faults rose, or as memory was wanting.
pub record PrintsLine {W : Type 0} (sink : Sinks W) (line : List ℕ) (before after : W) (end : ServeEnd) : Type 0 where
  pub ends_so : (end ≡ ends.Finished) ⊎ (end ≡ ends.WriteFailed) ⊎ (end ≡ ends.NoMemory)
  pub whole : end ≡ ends.Finished → WritesAll (sink.taken before) (sink.taken after) line
  pub front : WritesFirstOf (sink.taken before) (sink.taken after) line
  pub failed : end ≡ ends.WriteFailed → Rose (sink.faults_of before) (sink.faults_of after)
  pub steady : end ≢ ends.WriteFailed → sink.faults_of after ≡ sink.faults_of before

-- Once all is served the disks are mounted again, and what the slots have is added up and printed, or it stops at a slot. The report is as serving
-- left it but for the disks.
pub record SumsUp {S W : Type 0} (disks : Disks S) (sink : Sinks W) (count : ℕ) (served : Report S) (before after : W) (end : ServeEnd)
    (report : Report S) : Type 0 where
  pub same : (report.switch ≡ served.switch) × (report.lines ≡ served.lines) × (report.unopened ≡ served.unopened)
  pub sum : Result ℤ OpenEnd
  pub sums : Sums disks.told disks.image disks.moment_of disks.left_since disks.faults_of served.slots.items report.slots.items sum
  pub prints : (total : ℤ) → sum ≡ Ok total → PrintsLine sink (summary_line count (replies_in served.switch.lines.items) total) before after end
  pub stops : (stop : OpenEnd) → sum ≡ Err stop → (end ≡ opening_end stop) × (after ≡ before)

-- what follows serving that ended so
abbrev pub GoesOn : {S W : Type 0} → Disks S → Sinks W → ℕ → ServeEnd → Report S → W → W → ServeEnd → Report S → Type 0
GoesOn disks sink count ends.Finished served before after end report = SumsUp disks sink count served before after end report
GoesOn disks sink count other served before after end report = (end ≡ other) × (report ≡ served) × (after ≡ before)

-- The lines that the seed makes are served as `serve` serves an input, by the script of `gen`, and nothing that it says is written. Then the
-- slots are added up. What ends the run is told behind that.
pub record ServesMade {S R W : Type 0} (outside : Outside S R W) (seed count : ℕ) (folder : List ℕ) (given : Given S R W) (left : Left S R W) : Type 0 where
  pub statuses : IsDumpStatus left.status
  pub unread : left.input ≡ given.input
  pub tree : Script
  pub accepted : IsAccepted gen_script tree
  pub void : VoidSink
  pub served : Left S (List ℕ) VoidSink
  pub serves : ServesTree (over_lines outside) tree (generating folder) (given_lines (made_lines seed count) void given) served
  pub depot : left.depot ≡ served.depot
  pub end : ServeEnd
  pub summed : W
  pub goes_on : GoesOn outside.disks outside.sink count serves.end served.report given.out summed end left.report
  pub tells : TellsEnd outside.sink.taken outside.sink.faults_of summed left.out left.status end

-- It ends before a slot is asked for, since memory was wanting for the words, the lines or the script.
pub record ServesNone {S R W : Type 0} (outside : Outside S R W) (given : Given S R W) (left : Left S R W) : Type 0 where
  pub wanting : left.status ≡ 4
  pub alone : LeavesInputAndReport given left
  pub asked : left.depot ≡ given.depot
  pub silent : outside.sink.taken left.out ≡ outside.sink.taken given.out

-- `gen` of so many lines of this seed.
abbrev pub GenRun : {S R W : Type 0} → Outside S R W → ℕ → ℕ → List ℕ → Given S R W → Left S R W → Type 0
GenRun outside seed count folder given left = ServesNone outside given left ⊎ ServesMade outside seed count folder given left
