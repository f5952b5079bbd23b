-- How much frames leave to do.
use Rattle.std.proofs.Common.{◌≤◌, arith}
use Rattle.script_steps.specs.Weight.{frame_weight, path_frame_weight}
use Rattle.script_steps.specs.declared.path.PathFrame.{PathFrame}
use Rattle.script_steps.specs.declared.path.PathFrame.TheVariants as path
use Rattle.script_steps.specs.declared.frame.Frame.{Frame}
use Rattle.script_steps.specs.declared.frame.Frame.TheVariants as waiting

-- Each part of a path leaves something to do.
pub path_frame_weighs : (f : PathFrame) → 1 ≤ path_frame_weight f
path_frame_weighs (path.Walk a e n) = omega arith
path_frame_weighs (path.Index a v e n) = omega arith
path_frame_weighs (path.Call c got e n k) = omega arith
path_frame_weighs (path.PushIndex r ss e n) = omega arith
path_frame_weighs (path.PlaceIndex w r ss e n) = omega arith
path_frame_weighs (path.Assign r ss) = omega arith
path_frame_weighs (path.Update r ss o old) = omega arith

-- So does each frame.
pub frame_weighs : (f : Frame) → 1 ≤ frame_weight f
frame_weighs (waiting.Choose a b) = omega arith
frame_weighs (waiting.Chain a b) = omega arith
frame_weighs (waiting.Operate a b) = omega arith
frame_weighs (waiting.Apply a b c d) = omega arith
frame_weighs (waiting.Prefix a) = omega arith
frame_weighs (waiting.List a b c) = omega arith
frame_weighs (waiting.Record a b c d) = omega arith
frame_weighs waiting.Error = omega arith
frame_weighs (waiting.Declare a b c) = omega arith
frame_weighs (waiting.GoOn a b) = omega arith
frame_weighs (waiting.Branch a b) = omega arith
frame_weighs (waiting.Test a b c) = omega arith
frame_weighs (waiting.Turn a b c) = omega arith
frame_weighs (waiting.Loop a b c) = omega arith
frame_weighs (waiting.Count a) = omega arith
frame_weighs (waiting.Visit a) = omega arith
frame_weighs (waiting.Next a b c) = omega arith
frame_weighs waiting.Throw = omega arith
frame_weighs waiting.Return = omega arith
frame_weighs waiting.Pass = omega arith
frame_weighs waiting.Leave = omega arith
frame_weighs (waiting.Catch a) = omega arith
frame_weighs (waiting.Path f) = path_frame_weighs f.value
frame_weighs waiting.Commit = omega arith
frame_weighs (waiting.Unblock a) = omega arith
