-- What a call does beside: it sends and writes what it logs.
use Rattle.std.proofs.Common.{◌≡◌, ℕ, List, Option, Some, refl, sym, ap, ◌∙◌}
use Rattle.std.specs.Prelude.{Result, Err}
use Rattle.std.proofs.Math.Path.{transport}
use Rattle.std.proofs.lemmas.Option.{none-some}
use Rattle.do_disk.specs.Disk.{Rose}
use Rattle.lane.specs.Lanes.{LaneId}
use Rattle.timeline.specs.declared.event.Event.{Event}
use Rattle.mailbox.specs.declared.fault.SwitchFault.{SwitchFault}
use Rattle.mailbox.specs.declared.fault.SwitchFault.TheVariants.{WriteFailed}
use Rattle.mailbox.specs.declared.switch.Switch.{Switch}
use Rattle.mailbox.specs.declared.switch_log.SwitchLog.{SwitchLog}
use Rattle.mailbox.specs.Posting.{Posts, SameOutlets}
use Rattle.mailbox.specs.Runs.{Acts, Prints, out_of, fault_of, posts_of, lines_of, slots_of}
use Rattle.mailbox.specs.Written.{Writes, WritesInPart}
use Rattle.mailbox.proofs.Sendings.{posts_none, outlets_none}
use Rattle.mailbox.proofs.Writings.{part_none, writes_none}

-- what is logged of posts and lines, the sink and the slots are the same
pub record IsLike {W : Type 0} (a b : Switch W) : Type 0 where
  pub posts : posts_of a ≡ posts_of b
  pub lines : lines_of a ≡ lines_of b
  pub out : out_of a ≡ out_of b
  pub slots : slots_of a ≡ slots_of b

-- a switch whose log got room, or a line or a message more
pub like_room : {W : Type 0} (s begun : Switch W) → (begun.log.posts ≡ s.log.posts) × (begun.log.lines ≡ s.log.lines) → out_of begun ≡ out_of s → slots_of begun ≡ slots_of s → IsLike s begun
like_room s begun rest out slots = record {
  posts = ap (λ posts. posts.items) (sym rest.0);
  lines = ap (λ lines. lines.items) (sym rest.1);
  out = sym out;
  slots = sym slots;
}

module _ {W : Type 0} (s : Switch W) (log : SwitchLog) where
  pub like_line : log ≡ record s.log { accepted = log.accepted } → IsLike (record s { log = log }) s
  like_line is = record {
    posts = ap (λ (l : SwitchLog). l.posts.items) is;
    lines = ap (λ (l : SwitchLog). l.lines.items) is;
    out = refl;
    slots = refl;
  }

  pub like_message : log ≡ record s.log { routed = log.routed } → IsLike (record s { log = log }) s
  like_message is = record {
    posts = ap (λ (l : SwitchLog). l.posts.items) is;
    lines = ap (λ (l : SwitchLog). l.lines.items) is;
    out = refl;
    slots = refl;
  }

module _ {S W : Type 0} (sent : S → List Event) (outlet : S → LaneId) (left : S → List Event) (taken : W → Option (List ℕ)) (faults : W → ℕ) where
  -- nothing is printed
  pub acts_silently : {T : Type 0} (old new : Switch W) (before after : List S) (r : Result T SwitchFault) → (r ≡ Err WriteFailed → ⊥)
      → Posts sent before after (posts_of old) (posts_of new) → SameOutlets outlet left before after
      → lines_of new ≡ lines_of old → out_of new ≡ out_of old → slots_of new ≡ slots_of old
      → Acts sent outlet left taken faults old new before after r
  acts_silently old new before after r unwritten posted ends lines out slots = record {
    posted = posted;
    ends = ends;
    written = λ _. writes_none (taken (out_of old)) (taken (out_of new)) (lines_of old) (lines_of new) (ap taken out) lines;
    part = λ failed. absurd (unwritten failed);
    counted = λ _. record { failed = λ failed. absurd (unwritten failed); steady = λ _. ap faults out };
    slots = slots;
  }

  -- a switch that is stopped does nothing
  pub acts_stopped : {T : Type 0} (s : Switch W) (ends : List S) (fault : SwitchFault) (r : Result T SwitchFault) → fault_of s ≡ Some fault
      → Acts sent outlet left taken faults s s ends ends r
  acts_stopped s ends fault r stopped = record {
    posted = posts_none sent ends ends (posts_of s) (posts_of s) refl refl;
    ends = outlets_none outlet left ends;
    written = λ _. writes_none (taken (out_of s)) (taken (out_of s)) (lines_of s) (lines_of s) refl refl;
    part = λ _. part_none (taken (out_of s)) (lines_of s);
    counted = λ none. absurd (none-some fault (sym none ∙ stopped));
    slots = refl;
  }

  -- a call within another
  pub acts_within : {T U : Type 0} (old first last new : Switch W) (before after : List S) (r : Result T SwitchFault) (s : Result U SwitchFault)
      → IsLike old first → fault_of old ≡ fault_of first → IsLike new last → (r ≡ Err WriteFailed → s ≡ Err WriteFailed) → (s ≡ Err WriteFailed → r ≡ Err WriteFailed)
      → Acts sent outlet left taken faults first last before after s → Acts sent outlet left taken faults old new before after r
  acts_within old first last new before after r s begun fault ended to from acts =
      let out_then = sym begun.out in
      let out_now = sym ended.out in
      let lines_then = sym begun.lines in
      let lines_now = sym ended.lines in
      let posts_then = sym begun.posts in
      let posts_now = sym ended.posts in
      record {
        posted = transport (λ i. Posts sent before after (posts_then i) (posts_now i)) acts.posted;
        ends = acts.ends;
        written = λ unwritten. transport (λ i. Writes (taken (out_then i)) (taken (out_now i)) (lines_then i) (lines_now i)) (acts.written (λ failed. unwritten (from failed)));
        part = λ failed. transport (λ i. WritesInPart (taken (out_then i)) (taken (out_now i)) (lines_then i) (lines_now i)) (acts.part (to failed));
        counted = λ none. let counts = acts.counted (sym fault ∙ none) in record {
          failed = λ failed. transport (λ i. Rose (faults (out_then i)) (faults (out_now i))) (counts.failed (to failed));
          steady = λ unwritten. ap faults ended.out ∙ counts.steady (λ failed. unwritten (from failed)) ∙ ap faults out_then;
        };
        slots = ended.slots ∙ acts.slots ∙ out_slots;
      }
    where
      out_slots : slots_of first ≡ slots_of old
      out_slots = sym begun.slots

-- ---- a call that posts nothing
module _ {W T : Type 0} (taken : W → Option (List ℕ)) (faults : W → ℕ) (s : Switch W) where
  -- nothing is printed
  pub prints_none : (r : Result T SwitchFault) → (r ≡ Err WriteFailed → ⊥) → Prints taken faults s s r
  prints_none r unwritten = record {
    written = λ _. writes_none (taken (out_of s)) (taken (out_of s)) (lines_of s) (lines_of s) refl refl;
    part = λ failed. absurd (unwritten failed);
    counted = λ _. record { failed = λ failed. absurd (unwritten failed); steady = λ _. refl };
    state = refl;
  }

  -- a switch that is stopped prints nothing
  pub prints_stopped : (fault : SwitchFault) (r : Result T SwitchFault) → fault_of s ≡ Some fault → Prints taken faults s s r
  prints_stopped fault r stopped = record {
    written = λ _. writes_none (taken (out_of s)) (taken (out_of s)) (lines_of s) (lines_of s) refl refl;
    part = λ _. part_none (taken (out_of s)) (lines_of s);
    counted = λ none. absurd (none-some fault (sym none ∙ stopped));
    state = refl;
  }
