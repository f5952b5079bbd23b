-- What the workers have left, as the run goes on from it.
use Rattle.std.specs.Prelude.{◌≡◌, ◌≢◌, ◌≤◌, ℕ, List, [], length, replicate, Option, Result, Err, OnOk}
use Rattle.do_disk.specs.Disk.{IfTold, Rose}
use Rattle.do_disk.specs.Slots.{most_slots}
use Rattle.do_tree.specs.Tree.{Script}
use Rattle.lane.specs.Lanes.{Both}
use Rattle.line_server.specs.Lines.{IsReading, count_of, source_of}
use Rattle.line_server.specs.declared.line.Line as read
use Rattle.line_server.specs.declared.lines.Lines.{Lines}
use Rattle.mailbox.specs.Runs.{log_of, state_of}
use Rattle.mailbox.specs.declared.fault.SwitchFault.{SwitchFault}
use Rattle.mailbox.specs.declared.switch.Switch.{Switch}
use Rattle.object_core.specs.One.{unused}
use Rattle.placement.specs.Slots.{Slots}
use Rattle.switch_history.specs.Answering.{AreInOrder}
use Rattle.timeline.specs.Switch.{no_log, opened}
use Rattle.timeline.specs.declared.message.Message.{Message}
use Rattle.host_workers.specs.declared.joining.Halves.{Halves}
use Rattle.worker_pool.specs.Ended.{HasRun}
use Rattle.worker_pool.specs.declared.ran.Ran.{Ran}
use Rattle.host_core.specs.Begun.{AreBegun}
use Rattle.host_core.specs.Reading.{Accepts, AcceptsAll, AcceptsAllRead}
use Rattle.host_core.specs.Report.{PrintsLines, ReadsLines}
use Rattle.host_core.specs.Running.{HasServed, IsAtRest, IsServing, PrintsUntil}
use Rattle.host_core.specs.declared.objects.Objects.{Objects}
use Rattle.host_core.specs.declared.report.Report.{Report}
use Rattle.host_core.specs.declared.serving.Stop.{Stop}
use Rattle.host_core.specs.declared.serving.Stop.TheVariants as stops
use Rattle.host_core.specs.declared.settings.ServeEnd.TheVariants as ends
use Rattle.host_core.specs.declared.settings.Served.{Served}

module _ {D R W : Type 0} (moment_of : D → ℕ) (left_since : D → ℕ → List ℕ → Type 0) (told : D → Option (List ℕ)) (image : D → List ℕ → Type 0)
    (faults_of : D → ℕ) (left : R → Option (List ℕ)) (read_faults : R → ℕ) (taken : W → Option (List ℕ)) (write_faults : W → ℕ)
    (limit : ℕ) (script : Script) (contents : ℕ → Option (List ℕ)) (named : Slots) where
  -- The workers ran over slots of these contents, of which each journal may have so many bytes, with these objects; their switch had done nothing,
  -- and their reader had read nothing.
  pub record CameFrom (ran : Ran D R W) : Type 0 where
    pub all : List (Halves D)
    pub switch : Switch W
    pub lines : Lines R
    pub begun : AreBegun moment_of left_since told image faults_of limit script contents named all
    pub many : length named ≡ length all
    pub few : length all ≤ most_slots
    pub objects : state_of switch ≡ opened named
    pub blank : log_of switch ≡ no_log
    pub reading : IfTold (left (source_of lines)) (λ whole. IsReading left whole [] lines)
    pub ran_so : HasRun moment_of left_since told image faults_of left read_faults taken write_faults script all switch lines ran

  -- The objects of these cores have a queue each to it and from it, through which nothing went, and the others are what the workers left.
  pub record Resumes (ran : Ran D R W) (end : Result (Unit {0}) SwitchFault) (kept : Option (ℕ × Message)) (rest : Both read.Line) (lines : Lines R)
      (switch : Switch W) (objects : Objects D) : Type 0 where
    pub came : CameFrom ran
    pub end_is : ran.end ≡ end
    pub kept_is : ran.kept ≡ kept
    pub rest_is : ran.rest ≡ rest
    pub lines_are : ran.lines ≡ lines
    pub switch_is : ran.switch ≡ switch
    pub cores : ran.cores.items ≡ objects.cores.items
    pub inboxes : objects.inboxes.items ≡ replicate (length objects.cores.items) unused
    pub outs : objects.outs.items ≡ replicate (length objects.cores.items) unused

  -- All lines that were read are served, or the run has stopped: what it has accepted, printed and read since the workers began.
  pub record ServesOn (first : Switch W) (reader : Lines R) (lines : Lines R) (switch : Switch W) (objects : Objects D)
      (result : Result (Unit {0}) Stop) : Type 0 where
    pub serving : OnOk result (IsServing moment_of left_since told image faults_of limit script contents named switch objects)
    pub read_serving : result ≡ Err stops.ReadFailed → IsServing moment_of left_since told image faults_of limit script contents named switch objects
    pub served : HasServed moment_of left_since told image faults_of limit script contents named switch objects
    pub resting : OnOk result (IsAtRest script objects)
    pub read_resting : result ≡ Err stops.ReadFailed → IsAtRest script objects
    pub order : OnOk result (AreInOrder (log_of switch).accepted)
    pub read_order : result ≡ Err stops.ReadFailed → AreInOrder (log_of switch).accepted
    pub accepts : IfTold (left (source_of reader)) (λ whole. Accepts whole (left (source_of lines)) (log_of switch).accepted (count_of lines))
    pub all : OnOk result (IfTold (left (source_of reader)) (λ whole. AcceptsAll whole (log_of switch).accepted (count_of lines)))
    pub read_all : result ≡ Err stops.ReadFailed
        → IfTold (left (source_of reader)) (λ whole. AcceptsAllRead whole (left (source_of lines)) (log_of switch).accepted (count_of lines))
    pub prints : PrintsUntil taken write_faults first switch result
    pub read_failed : result ≡ Err stops.ReadFailed → Rose (read_faults (source_of reader)) (read_faults (source_of lines))

-- What was read, written and answered since the workers began, from this source and this sink on.
pub record ServesFrom {D R W : Type 0} (left : R → Option (List ℕ)) (read_faults : R → ℕ) (taken : W → Option (List ℕ)) (write_faults : W → ℕ)
    (input : R) (out : W) (served : Served R W) (report : Report D) : Type 0 where
  pub lines : ReadsLines (left input) (left served.input) served.end report
  pub output : PrintsLines (taken out) (taken served.out) served.end report
  pub read_failed : served.end ≡ ends.ReadFailed → Rose (read_faults input) (read_faults served.input)
  pub write_failed : served.end ≡ ends.WriteFailed → Rose (write_faults out) (write_faults served.out)
  pub steady : served.end ≢ ends.WriteFailed → write_faults served.out ≡ write_faults out
