-- How throws and exits pass by frames.
use Rattle.std.proofs.Common.{◌≡◌, ℕ, List, refl, ap}
use Rattle.std.specs.declared.sync.Arc.{Arc}
use Rattle.std.specs.declared.alloc.Global.{Global}
use Rattle.do_value.specs.Tree.{Tree}
use Rattle.do_tree.specs.declared.expr.Expr.{Expr}
use Rattle.do_tree.specs.declared.stmt.Stmt.{Stmt}
use Rattle.script_mean.specs.Answers.{broke, continued, returned, threw}
use Rattle.script_mean.specs.Calls.{Calls}
use Rattle.script_mean.specs.Turn.{ends}
use Rattle.script_steps.specs.Paths.{path_frame_of}
use Rattle.script_steps.specs.Seen.{frame_of, handed, left}
use Rattle.script_steps.specs.declared.frame.Between.{Between as Standing}
use Rattle.script_steps.specs.declared.frame.Frame.{Frame}
use Rattle.script_steps.specs.declared.frame.Frame.TheVariants as waiting
use Rattle.script_steps.specs.declared.path.Await.{Await}
use Rattle.script_steps.specs.declared.path.PathFrame.{PathFrame}
use Rattle.script_steps.specs.declared.path.PathFrame.TheVariants as path

module _ (calls : Calls) where
  -- A part of a path catches no throw,
  path_throws : (f : PathFrame) (v : Tree) → handed calls (path_frame_of f) (threw v) ≡ ends (threw v)
  path_throws (path.Walk a b c) v = refl
  path_throws (path.Index a b c d) v = refl
  path_throws (path.Call a b c d e) v = refl
  path_throws (path.PushIndex a b c d) v = refl
  path_throws (path.PlaceIndex a b c d e) v = refl
  path_throws (path.Assign a b) v = refl
  path_throws (path.Update a b c d) v = refl

  -- and no exit.
  path_returns : (f : PathFrame) (v : Tree) → handed calls (path_frame_of f) (returned v) ≡ ends (returned v)
  path_returns (path.Walk a b c) v = refl
  path_returns (path.Index a b c d) v = refl
  path_returns (path.Call a b c d e) v = refl
  path_returns (path.PushIndex a b c d) v = refl
  path_returns (path.PlaceIndex a b c d e) v = refl
  path_returns (path.Assign a b) v = refl
  path_returns (path.Update a b c d) v = refl

  path_breaks : (f : PathFrame) → handed calls (path_frame_of f) broke ≡ ends broke
  path_breaks (path.Walk a b c) = refl
  path_breaks (path.Index a b c d) = refl
  path_breaks (path.Call a b c d e) = refl
  path_breaks (path.PushIndex a b c d) = refl
  path_breaks (path.PlaceIndex a b c d e) = refl
  path_breaks (path.Assign a b) = refl
  path_breaks (path.Update a b c d) = refl

  path_continues : (f : PathFrame) → handed calls (path_frame_of f) continued ≡ ends continued
  path_continues (path.Walk a b c) = refl
  path_continues (path.Index a b c d) = refl
  path_continues (path.Call a b c d e) = refl
  path_continues (path.PushIndex a b c d) = refl
  path_continues (path.PlaceIndex a b c d e) = refl
  path_continues (path.Assign a b) = refl
  path_continues (path.Update a b c d) = refl

module _ (calls : Calls) where
  -- A throw passes by what catches none.
  pub throw_passes : (f : Frame) (v : Tree) → ((a : Arc Stmt Global) → f ≡ waiting.Catch a → ⊥) → (f ≡ waiting.Leave → ⊥)
      → (f ≡ waiting.Commit → ⊥) → ((a : Await) → f ≡ waiting.Unblock a → ⊥)
      → handed calls (frame_of f) (threw v) ≡ ends (threw v)
  throw_passes (waiting.Choose a b) v not_catch not_leave not_commit not_unblock = refl
  throw_passes (waiting.Chain a b) v not_catch not_leave not_commit not_unblock = refl
  throw_passes (waiting.Operate a b) v not_catch not_leave not_commit not_unblock = refl
  throw_passes (waiting.Apply a b c d) v not_catch not_leave not_commit not_unblock = refl
  throw_passes (waiting.Prefix a) v not_catch not_leave not_commit not_unblock = refl
  throw_passes (waiting.List a b c) v not_catch not_leave not_commit not_unblock = refl
  throw_passes (waiting.Record a b c d) v not_catch not_leave not_commit not_unblock = refl
  throw_passes waiting.Error v not_catch not_leave not_commit not_unblock = refl
  throw_passes (waiting.Declare a b c) v not_catch not_leave not_commit not_unblock = refl
  throw_passes (waiting.GoOn a b) v not_catch not_leave not_commit not_unblock = refl
  throw_passes (waiting.Branch a b) v not_catch not_leave not_commit not_unblock = refl
  throw_passes (waiting.Test a b c) v not_catch not_leave not_commit not_unblock = refl
  throw_passes (waiting.Turn a b c) v not_catch not_leave not_commit not_unblock = refl
  throw_passes (waiting.Loop a b c) v not_catch not_leave not_commit not_unblock = refl
  throw_passes (waiting.Count a) v not_catch not_leave not_commit not_unblock = refl
  throw_passes (waiting.Visit a) v not_catch not_leave not_commit not_unblock = refl
  throw_passes (waiting.Next a b c) v not_catch not_leave not_commit not_unblock = refl
  throw_passes waiting.Throw v not_catch not_leave not_commit not_unblock = refl
  throw_passes waiting.Return v not_catch not_leave not_commit not_unblock = refl
  throw_passes waiting.Pass v not_catch not_leave not_commit not_unblock = refl
  throw_passes waiting.Leave v not_catch not_leave not_commit not_unblock = absurd (not_leave refl)
  throw_passes (waiting.Catch a) v not_catch not_leave not_commit not_unblock = absurd (not_catch a refl)
  throw_passes (waiting.Path f) v not_catch not_leave not_commit not_unblock = path_throws calls f.value v
  throw_passes waiting.Commit v not_catch not_leave not_commit not_unblock = absurd (not_commit refl)
  throw_passes (waiting.Unblock a) v not_catch not_leave not_commit not_unblock = absurd (not_unblock a refl)

  -- A return passes by what ends at none.
  pub return_passes : (f : Frame) (v : Tree) → (f ≡ waiting.Leave → ⊥)
      → (f ≡ waiting.Commit → ⊥) → ((a : Await) → f ≡ waiting.Unblock a → ⊥)
      → handed calls (frame_of f) (returned v) ≡ ends (returned v)
  return_passes (waiting.Choose a b) v not_leave not_commit not_unblock = refl
  return_passes (waiting.Chain a b) v not_leave not_commit not_unblock = refl
  return_passes (waiting.Operate a b) v not_leave not_commit not_unblock = refl
  return_passes (waiting.Apply a b c d) v not_leave not_commit not_unblock = refl
  return_passes (waiting.Prefix a) v not_leave not_commit not_unblock = refl
  return_passes (waiting.List a b c) v not_leave not_commit not_unblock = refl
  return_passes (waiting.Record a b c d) v not_leave not_commit not_unblock = refl
  return_passes waiting.Error v not_leave not_commit not_unblock = refl
  return_passes (waiting.Declare a b c) v not_leave not_commit not_unblock = refl
  return_passes (waiting.GoOn a b) v not_leave not_commit not_unblock = refl
  return_passes (waiting.Branch a b) v not_leave not_commit not_unblock = refl
  return_passes (waiting.Test a b c) v not_leave not_commit not_unblock = refl
  return_passes (waiting.Turn a b c) v not_leave not_commit not_unblock = refl
  return_passes (waiting.Loop a b c) v not_leave not_commit not_unblock = refl
  return_passes (waiting.Count a) v not_leave not_commit not_unblock = refl
  return_passes (waiting.Visit a) v not_leave not_commit not_unblock = refl
  return_passes (waiting.Next a b c) v not_leave not_commit not_unblock = refl
  return_passes waiting.Throw v not_leave not_commit not_unblock = refl
  return_passes waiting.Return v not_leave not_commit not_unblock = refl
  return_passes waiting.Pass v not_leave not_commit not_unblock = refl
  return_passes waiting.Leave v not_leave not_commit not_unblock = absurd (not_leave refl)
  return_passes (waiting.Catch a) v not_leave not_commit not_unblock = refl
  return_passes (waiting.Path f) v not_leave not_commit not_unblock = path_returns calls f.value v
  return_passes waiting.Commit v not_leave not_commit not_unblock = absurd (not_commit refl)
  return_passes (waiting.Unblock a) v not_leave not_commit not_unblock = absurd (not_unblock a refl)

  -- A `break` passes by what is no loop.
  pub break_passes : (f : Frame) → ((a : Arc Expr Global) (b : Arc Stmt Global) (c : Standing) → f ≡ waiting.Turn a b c → ⊥) → ((a : Arc Stmt Global) (b : List Tree) (c : ℕ) → f ≡ waiting.Next a b c → ⊥)
      → (f ≡ waiting.Leave → ⊥) → (f ≡ waiting.Commit → ⊥) → ((a : Await) → f ≡ waiting.Unblock a → ⊥)
      → handed calls (frame_of f) broke ≡ ends broke
  break_passes (waiting.Choose a b) not_turn not_next not_leave not_commit not_unblock = refl
  break_passes (waiting.Chain a b) not_turn not_next not_leave not_commit not_unblock = refl
  break_passes (waiting.Operate a b) not_turn not_next not_leave not_commit not_unblock = refl
  break_passes (waiting.Apply a b c d) not_turn not_next not_leave not_commit not_unblock = refl
  break_passes (waiting.Prefix a) not_turn not_next not_leave not_commit not_unblock = refl
  break_passes (waiting.List a b c) not_turn not_next not_leave not_commit not_unblock = refl
  break_passes (waiting.Record a b c d) not_turn not_next not_leave not_commit not_unblock = refl
  break_passes waiting.Error not_turn not_next not_leave not_commit not_unblock = refl
  break_passes (waiting.Declare a b c) not_turn not_next not_leave not_commit not_unblock = refl
  break_passes (waiting.GoOn a b) not_turn not_next not_leave not_commit not_unblock = refl
  break_passes (waiting.Branch a b) not_turn not_next not_leave not_commit not_unblock = refl
  break_passes (waiting.Test a b c) not_turn not_next not_leave not_commit not_unblock = refl
  break_passes (waiting.Turn a b c) not_turn not_next not_leave not_commit not_unblock = absurd (not_turn a b c refl)
  break_passes (waiting.Loop a b c) not_turn not_next not_leave not_commit not_unblock = refl
  break_passes (waiting.Count a) not_turn not_next not_leave not_commit not_unblock = refl
  break_passes (waiting.Visit a) not_turn not_next not_leave not_commit not_unblock = refl
  break_passes (waiting.Next a b c) not_turn not_next not_leave not_commit not_unblock = absurd (not_next a b c refl)
  break_passes waiting.Throw not_turn not_next not_leave not_commit not_unblock = refl
  break_passes waiting.Return not_turn not_next not_leave not_commit not_unblock = refl
  break_passes waiting.Pass not_turn not_next not_leave not_commit not_unblock = refl
  break_passes waiting.Leave not_turn not_next not_leave not_commit not_unblock = absurd (not_leave refl)
  break_passes (waiting.Catch a) not_turn not_next not_leave not_commit not_unblock = refl
  break_passes (waiting.Path f) not_turn not_next not_leave not_commit not_unblock = path_breaks calls f.value
  break_passes waiting.Commit not_turn not_next not_leave not_commit not_unblock = absurd (not_commit refl)
  break_passes (waiting.Unblock a) not_turn not_next not_leave not_commit not_unblock = absurd (not_unblock a refl)

  -- A `continue` passes by what is no loop.
  pub continue_passes : (f : Frame) → ((a : Arc Expr Global) (b : Arc Stmt Global) (c : Standing) → f ≡ waiting.Turn a b c → ⊥) → ((a : Arc Stmt Global) (b : List Tree) (c : ℕ) → f ≡ waiting.Next a b c → ⊥)
      → (f ≡ waiting.Leave → ⊥) → (f ≡ waiting.Commit → ⊥) → ((a : Await) → f ≡ waiting.Unblock a → ⊥)
      → handed calls (frame_of f) continued ≡ ends continued
  continue_passes (waiting.Choose a b) not_turn not_next not_leave not_commit not_unblock = refl
  continue_passes (waiting.Chain a b) not_turn not_next not_leave not_commit not_unblock = refl
  continue_passes (waiting.Operate a b) not_turn not_next not_leave not_commit not_unblock = refl
  continue_passes (waiting.Apply a b c d) not_turn not_next not_leave not_commit not_unblock = refl
  continue_passes (waiting.Prefix a) not_turn not_next not_leave not_commit not_unblock = refl
  continue_passes (waiting.List a b c) not_turn not_next not_leave not_commit not_unblock = refl
  continue_passes (waiting.Record a b c d) not_turn not_next not_leave not_commit not_unblock = refl
  continue_passes waiting.Error not_turn not_next not_leave not_commit not_unblock = refl
  continue_passes (waiting.Declare a b c) not_turn not_next not_leave not_commit not_unblock = refl
  continue_passes (waiting.GoOn a b) not_turn not_next not_leave not_commit not_unblock = refl
  continue_passes (waiting.Branch a b) not_turn not_next not_leave not_commit not_unblock = refl
  continue_passes (waiting.Test a b c) not_turn not_next not_leave not_commit not_unblock = refl
  continue_passes (waiting.Turn a b c) not_turn not_next not_leave not_commit not_unblock = absurd (not_turn a b c refl)
  continue_passes (waiting.Loop a b c) not_turn not_next not_leave not_commit not_unblock = refl
  continue_passes (waiting.Count a) not_turn not_next not_leave not_commit not_unblock = refl
  continue_passes (waiting.Visit a) not_turn not_next not_leave not_commit not_unblock = refl
  continue_passes (waiting.Next a b c) not_turn not_next not_leave not_commit not_unblock = absurd (not_next a b c refl)
  continue_passes waiting.Throw not_turn not_next not_leave not_commit not_unblock = refl
  continue_passes waiting.Return not_turn not_next not_leave not_commit not_unblock = refl
  continue_passes waiting.Pass not_turn not_next not_leave not_commit not_unblock = refl
  continue_passes waiting.Leave not_turn not_next not_leave not_commit not_unblock = absurd (not_leave refl)
  continue_passes (waiting.Catch a) not_turn not_next not_leave not_commit not_unblock = refl
  continue_passes (waiting.Path f) not_turn not_next not_leave not_commit not_unblock = path_continues calls f.value
  continue_passes waiting.Commit not_turn not_next not_leave not_commit not_unblock = absurd (not_commit refl)
  continue_passes (waiting.Unblock a) not_turn not_next not_leave not_commit not_unblock = absurd (not_unblock a refl)

  -- The end of a block is left by a return.
  pub leave_returns : (f : Frame) (v : Tree) → f ≡ waiting.Leave → handed calls (frame_of f) (returned v) ≡ left (returned v)
  leave_returns f v e = ap (λ z. handed calls (frame_of z) (returned v)) e
