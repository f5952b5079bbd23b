-- Work on a cell keeps what is named for its place.
use Rattle.std.proofs.Common.{◌≡◌, ◌∙◌, ℕ, List, Option, length, refl, sym, ap, subst}
use Rattle.std.proofs.lemmas.List.{length-map}
use Rattle.lane.specs.Lanes.{LaneId, Taking}
use Rattle.timeline.specs.declared.message.Message.{Message}
use Rattle.host_workers.specs.Backs.{CanStep, KeepsBackCell, KeepsCellAlone, SameLanes as SameBackLanes}
use Rattle.host_workers.specs.Board.{AreNamed, IsBackOf, IsFrontOf, IsLinesOf, IsSwitchOf}
use Rattle.host_workers.specs.Fronts.{KeepsFrontCell, SameLanes as SameFrontLanes}
use Rattle.host_workers.specs.Lines.{HasCounted, IsLinesCell, IsNumbered}
use Rattle.host_workers.specs.Names.{Run}
use Rattle.host_workers.specs.Switches.{KeepsPrinted, KeepsSwitchCell, SameLanes as SameSwitchLanes}
use Rattle.host_workers.specs.declared.back_cell.BackCell.{BackCell}
use Rattle.host_workers.specs.declared.front_cell.FrontCell.{FrontCell}
use Rattle.host_workers.specs.declared.lines_cell.LinesCell.{LinesCell}
use Rattle.host_workers.specs.declared.switch_cell.SwitchCell.{SwitchCell}

module _ {T : Type 0} where
  -- a front's ends, after no step and after two
  pub front_same : (a : FrontCell T) → SameFrontLanes a a
  front_same a = record { inbox = (refl, refl); notices = (refl, refl); line = refl; script = refl }

  pub front_then : (a b c : FrontCell T) → SameFrontLanes a b → SameFrontLanes b c → SameFrontLanes a c
  front_then a b c one two = record {
    inbox = (two.inbox.0 ∙ one.inbox.0, two.inbox.1 ∙ one.inbox.1);
    notices = (two.notices.0 ∙ one.notices.0, two.notices.1 ∙ one.notices.1);
    line = two.line ∙ one.line;
    script = two.script ∙ one.script;
  }

  -- a front that steps is that of its slot
  pub front_stays : (run : Run) (slot : ℕ) (old new : FrontCell T) → IsFrontOf run slot old → SameFrontLanes old new → KeepsFrontCell old new → IsFrontOf run slot new
  front_stays run slot old new is lanes keeps = record {
    script = lanes.script ∙ is.script;
    inbox = lanes.inbox.0 ∙ is.inbox;
    notices = lanes.notices.0 ∙ is.notices;
    line = lanes.line ∙ is.line;
    front = keeps (run.classes slot) (run.alarms slot) is.front;
  }

module _ {D T : Type 0} (moment_of : D → ℕ) (left_since : D → ℕ → List ℕ → Type 0) (told : D → Option (List ℕ)) (image : D → List ℕ → Type 0)
    (faults_of : D → ℕ) where
  -- a back's ends, after no step and after two
  pub back_same : (a : BackCell D T) → SameBackLanes a a
  back_same a = record { line = (refl, refl); notices = refl; out = refl }

  pub back_then : (a b c : BackCell D T) → SameBackLanes a b → SameBackLanes b c → SameBackLanes a c
  back_then a b c one two = record {
    line = (two.line.0 ∙ one.line.0, two.line.1 ∙ one.line.1);
    notices = two.notices ∙ one.notices;
    out = two.out ∙ one.out;
  }

  -- a back that has made a step can make another
  pub back_again : (a b : BackCell D T) → KeepsBackCell moment_of left_since told image faults_of a b → CanStep moment_of left_since told image faults_of a
      → CanStep moment_of left_since told image faults_of b
  back_again a b keeps can = (can.0, can.1, keeps can.0 can.1 can.2)

  pub back_keeps : (a b c : BackCell D T) → KeepsBackCell moment_of left_since told image faults_of a b → KeepsBackCell moment_of left_since told image faults_of b c
      → KeepsBackCell moment_of left_since told image faults_of a c
  back_keeps a b c one two start opening is = two start opening (one start opening is)

  -- a back that steps is that of its slot
  pub back_stays : (run : Run) (slot : ℕ) (old new : BackCell D T) → IsBackOf moment_of left_since told image faults_of run slot old → SameBackLanes old new
      → KeepsBackCell moment_of left_since told image faults_of old new → KeepsCellAlone moment_of left_since told image faults_of old new
      → IsBackOf moment_of left_since told image faults_of run slot new
  back_stays run slot old new is lanes keeps alone = record {
    line = lanes.line.0 ∙ is.line;
    notices = lanes.notices ∙ is.notices;
    out = lanes.out ∙ is.out;
    some = is.some;
    back = λ start opening begun. keeps start opening (is.back start opening begun);
    alone = λ start opening begun. alone start opening (run.objects slot) (run.extents slot) (run.alarms slot) (is.alone start opening begun);
  }

-- names of lanes that stay the same
lanes_stay : (named : ℕ → LaneId) (old new : List LaneId) → new ≡ old → AreNamed named old → AreNamed named new
lanes_stay named old new same are = subst (λ lanes. AreNamed named lanes) (sym same) are

module _ {W T : Type 0} where
  -- the switch's ends, after no step and after two
  pub switch_same : (a : SwitchCell W T) → SameSwitchLanes a a
  switch_same a = record { lines = (refl, refl); outs = refl; inboxes = refl; script = refl }

  pub switch_then : (a b c : SwitchCell W T) → SameSwitchLanes a b → SameSwitchLanes b c → SameSwitchLanes a c
  switch_then a b c one two = record {
    lines = (two.lines.0 ∙ one.lines.0, two.lines.1 ∙ one.lines.1);
    outs = two.outs ∙ one.outs;
    inboxes = two.inboxes ∙ one.inboxes;
    script = two.script ∙ one.script;
  }

  -- a switch that steps is that of the run
  pub switch_stays : (taken : W → Option (List ℕ)) (faults : W → ℕ) (run : Run) (old new : SwitchCell W T) → IsSwitchOf taken faults run old
      → SameSwitchLanes old new → KeepsSwitchCell old new → KeepsPrinted taken faults old.switch new.switch → IsSwitchOf taken faults run new
  switch_stays taken faults run old new is lanes keeps printed = record {
    script = lanes.script ∙ is.script;
    lines = lanes.lines.0 ∙ is.lines;
    slots = sym (length-map new.outs.items (λ (end : Taking Message). end.lane)) ∙ ap length lanes.outs ∙ length-map old.outs.items (λ (end : Taking Message). end.lane) ∙ is.slots;
    outs = lanes_stay run.outs _ _ lanes.outs is.outs;
    inboxes = lanes_stay run.inboxes _ _ lanes.inboxes is.inboxes;
    switch = keeps run.switch is.switch;
    printed = printed run.held run.write_faults is.printed;
  }

module _ {R T : Type 0} where
  -- lines that were read on are those of the run
  pub lines_stay : (left : R → Option (List ℕ)) (faults : R → ℕ) (run : Run) (old new : LinesCell R T) → IsLinesOf left faults run old
      → new.send.lane ≡ old.send.lane → ((whole : List ℕ) → IsLinesCell left whole old → IsLinesCell left whole new)
      → ((from : ℕ) → HasCounted faults from old.lines → HasCounted faults from new.lines) → (IsNumbered old → IsNumbered new) → IsLinesOf left faults run new
  lines_stay left faults run old new is lane keeps counts numbers = record {
    lane = lane ∙ is.lane;
    lines = λ whole input. keeps whole (is.lines whole input);
    counted = counts run.read_faults is.counted;
    numbered = numbers is.numbered;
  }
