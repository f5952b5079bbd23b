use Rattle.std.proofs.Common.{refl, inl, inr, List, ℕ, true, false}
use Rattle.storage_map.specs.declared.op.Op.{Op}
use Rattle.output_gate.specs.Mending.{LosesMend}
use Rattle.output_gate.specs.Serving.{IsBackAs, is_stopped}
use Rattle.output_gate.proofs.Enter.{before_room, room_only}
use Rattle.output_gate.proofs.Entered.{on_err}
use Rattle.output_gate.proofs.Falls.{wanted_falls}
use Rattle.output_gate.proofs.Finding.{room_finds, still_finds}
use Rattle.output_gate.proofs.Noted.{remounts_noted}
use Rattle.output_gate.proofs.Gone.{back_room, back_stopped}
use Rattle.output_gate.proofs.Remounts.{remounts_from, unmounted_room, mend_can}
use Rattle.output_gate.proofs.Stored.{still_disk, still_tells}
use Rattle.output_gate.proofs.back.Back.mend_next.Goals as goal

pub returns-in_err-mend_room-clause-stopped : goal.returns-in_err-mend_room-clause-stopped
returns-in_err-mend_room-clause-stopped g c =
    let f : (start : List (List Op)) (opening : ℕ) → IsBackAs g.D.Disk.moment_of g.D.Disk.left_since g.D.Disk.told g.D.Disk.image g.D.Disk.faults_of start opening true c.args.self.now → IsBackAs g.D.Disk.moment_of g.D.Disk.left_since g.D.Disk.told g.D.Disk.image g.D.Disk.faults_of start opening false (record c.args.self.now { log = c.mend_room.new.log }) =
    λ start opening b. back_stopped g.D.Disk.moment_of g.D.Disk.left_since g.D.Disk.told g.D.Disk.image g.D.Disk.faults_of start opening (record c.args.self.now { log = c.mend_room.new.log })
    (back_room g.D.Disk.moment_of g.D.Disk.left_since g.D.Disk.told g.D.Disk.image g.D.Disk.faults_of start opening c.args.self.now c.mend_room.new.log c.mend_room.ensures.same b) in
    on_err _ _ f

pub remount-requires : goal.remount-requires
remount-requires g c =
    mend_can g.D.Disk.moment_of g.D.Disk.left_since g.D.Disk.told g.D.Disk.image g.D.Disk.faults_of c.args.self.now c.mend_room.new.log c.in-Wanted.ending c.mend_room.ensures.same c.in_ok-mend_room.ensures.room c.in-Wanted.is c.requires

pub returns-in_err-notice-clause-stopped : goal.returns-in_err-notice-clause-stopped
returns-in_err-notice-clause-stopped g c =
    let f : (start : List (List Op)) (opening : ℕ) → IsBackAs g.D.Disk.moment_of g.D.Disk.left_since g.D.Disk.told g.D.Disk.image g.D.Disk.faults_of start opening true c.args.self.now → IsBackAs g.D.Disk.moment_of g.D.Disk.left_since g.D.Disk.told g.D.Disk.image g.D.Disk.faults_of start opening false c.remount.new.self =
    λ start opening b. inr (c.in_err-notice.ensures.stopped start opening (unmounted_room g.D.Disk.moment_of g.D.Disk.left_since g.D.Disk.told g.D.Disk.image g.D.Disk.faults_of start opening c.args.self.now c.mend_room.new.log c.in-Wanted.ending c.mend_room.ensures.same c.in-Wanted.is b)) in
    on_err _ _ f

pub returns-in_err-send-clause-lost : goal.returns-in_err-send-clause-lost
returns-in_err-send-clause-lost g c =
    let r = remounts_from g.D.Disk.faults_of c.args.self.now c.remount.new.self c.mend_room.new.log c.in-Wanted.ending c.in_ok-notice.notice c.mend_room.ensures.same c.in_ok-notice.ensures.remounts in
    let l : LosesMend g.D.Disk.faults_of c.args.self.now c.remount.new.self (g.N.Outlet.sent c.args.notices.now) (g.N.Outlet.sent c.send.new.outlet) =
    record { told = c.in_err-send.ensures.same; log = inr (c.in-Wanted.ending, c.in_ok-notice.notice, c.in-Wanted.is, remounts_noted g.D.Disk.faults_of c.args.self.now c.remount.new.self c.in-Wanted.ending c.in_ok-notice.notice (is_stopped c.args.self.now) refl r) } in
    on_err _ _ l

pub returns-in_err-send-clause-stopped : goal.returns-in_err-send-clause-stopped
returns-in_err-send-clause-stopped g c =
    let f : (start : List (List Op)) (opening : ℕ) → IsBackAs g.D.Disk.moment_of g.D.Disk.left_since g.D.Disk.told g.D.Disk.image g.D.Disk.faults_of start opening true c.args.self.now → IsBackAs g.D.Disk.moment_of g.D.Disk.left_since g.D.Disk.told g.D.Disk.image g.D.Disk.faults_of start opening false c.remount.new.self =
    λ start opening b. back_stopped g.D.Disk.moment_of g.D.Disk.left_since g.D.Disk.told g.D.Disk.image g.D.Disk.faults_of start opening c.remount.new.self (c.in_ok-notice.ensures.back start opening (unmounted_room g.D.Disk.moment_of g.D.Disk.left_since g.D.Disk.told g.D.Disk.image g.D.Disk.faults_of start opening c.args.self.now c.mend_room.new.log c.in-Wanted.ending c.mend_room.ensures.same c.in-Wanted.is b)) in
    on_err _ _ f

pub returns-clause-mended : goal.returns-clause-mended
returns-clause-mended g c did = record {
  ending = c.in-Wanted.ending;
  notice = c.in_ok-notice.notice;
  wanted = c.in-Wanted.is;
  remounts = remounts_from g.D.Disk.faults_of c.args.self.now c.remount.new.self c.mend_room.new.log c.in-Wanted.ending c.in_ok-notice.notice c.mend_room.ensures.same c.in_ok-notice.ensures.remounts;
  told = c.in_ok-send.ensures.sent;
}

pub returns-clause-back : goal.returns-clause-back
returns-clause-back g c start opening b = c.in_ok-notice.ensures.back start opening (unmounted_room g.D.Disk.moment_of g.D.Disk.left_since g.D.Disk.told g.D.Disk.image g.D.Disk.faults_of start opening c.args.self.now c.mend_room.new.log c.in-Wanted.ending c.mend_room.ensures.same c.in-Wanted.is b)

pub returns-clause-falls : goal.returns-clause-falls
returns-clause-falls g c may = c.remount.ensures.falls

pub returns-in_err-mend_room-clause-falls : goal.returns-in_err-mend_room-clause-falls
returns-in_err-mend_room-clause-falls g c may = wanted_falls g.D.Disk.faults_of g.D.Disk.told c.args.self.now (record c.args.self.now { log = c.mend_room.new.log }) c.in-Wanted.ending c.in-Wanted.is

pub returns-in_err-notice-clause-falls : goal.returns-in_err-notice-clause-falls
returns-in_err-notice-clause-falls g c may = c.remount.ensures.falls

pub returns-in_err-send-clause-falls : goal.returns-in_err-send-clause-falls
returns-in_err-send-clause-falls g c may = c.remount.ensures.falls

pub returns-in_err-mend_room-clause-lost : goal.returns-in_err-mend_room-clause-lost
returns-in_err-mend_room-clause-lost g c =
    let l : LosesMend g.D.Disk.faults_of c.args.self.now (record c.args.self.now { log = c.mend_room.new.log }) (g.N.Outlet.sent c.args.notices.now) (g.N.Outlet.sent c.args.notices.now) =
    record { told = refl; log = inl (room_only c.args.self.now c.mend_room.new.log c.mend_room.ensures.same) } in
    on_err _ _ l

pub returns-in_err-notice-clause-lost : goal.returns-in_err-notice-clause-lost
returns-in_err-notice-clause-lost g c =
    let l : LosesMend g.D.Disk.faults_of c.args.self.now c.remount.new.self (g.N.Outlet.sent c.args.notices.now) (g.N.Outlet.sent c.args.notices.now) =
    record { told = refl; log = inl (before_room c.args.self.now c.remount.new.self c.mend_room.new.log c.mend_room.ensures.same c.in_err-notice.ensures.kept) } in
    on_err _ _ l

pub returns-in_err-mend_room-clause-tells : goal.returns-in_err-mend_room-clause-tells
returns-in_err-mend_room-clause-tells g c = still_tells g.D.Disk.told c.args.self.now.store c.args.self.now.store (still_disk c.args.self.now.store c.args.self.now.store refl)

pub returns-in_err-mend_room-clause-finds : goal.returns-in_err-mend_room-clause-finds
returns-in_err-mend_room-clause-finds g c = still_finds g.D.Disk.told c.args.self.now (record c.args.self.now { log = c.mend_room.new.log }) refl

pub returns-in_err-notice-clause-finds : goal.returns-in_err-notice-clause-finds
returns-in_err-notice-clause-finds g c = room_finds g.D.Disk.told c.args.self.now c.remount.new.self c.mend_room.new.log c.mend_room.ensures.same c.remount.ensures.finds

pub returns-in_err-send-clause-finds : goal.returns-in_err-send-clause-finds
returns-in_err-send-clause-finds g c = room_finds g.D.Disk.told c.args.self.now c.remount.new.self c.mend_room.new.log c.mend_room.ensures.same c.remount.ensures.finds

pub returns-clause-finds : goal.returns-clause-finds
returns-clause-finds g c = room_finds g.D.Disk.told c.args.self.now c.remount.new.self c.mend_room.new.log c.mend_room.ensures.same c.remount.ensures.finds
