use Rattle.std.proofs.Common.{refl, subst}
use Rattle.std.specs.Prelude.{Err}
use Rattle.object_storage.specs.declared.fault.AnswerFault.{AnswerFault}
use Rattle.output_gate.specs.Storing.{Reads}
use Rattle.output_gate.proofs.Entered.{on_err}
use Rattle.output_gate.proofs.Takings.{has_some_of}
use Rattle.output_gate.proofs.Unread.{failed_read, took_read, took_unread}
use Rattle.output_gate.proofs.back.Back.take_ask.Goals as goal

pub answer-requires : goal.answer-requires
answer-requires g c =
    let s = c.requires.back.safe in
    let st = s.stored refl in
    (c.requires.back.journal, s.store, s.frames, s.at_rest, has_some_of c.args.self.now.identity s.frames s.staged st.0 c.args.self.now.cache st.1)

pub returns-in-Ok-clause-took : goal.returns-in-Ok-clause-took
returns-in-Ok-clause-took g c =
    took_read g.D.Disk.moment_of g.D.Disk.left_since g.D.Disk.told g.D.Disk.image g.D.Disk.faults_of c.args.self.now (record c.args.self.now { store = c.answer.new.self; cache = c.answer.new.cache }) c.add.new.self c.args.number c.args.ask c.args.free c.answer.new.self c.answer.new.cache
    c.in-Ok.reading c.requires.back.journal c.requires.back.safe.store c.in-Ok.ensures refl c.requires.comes c.requires.goes_on c.add.ensures.log c.add.ensures.same

pub returns-in-Err-NoMemory-clause-failed : goal.returns-in-Err-NoMemory-clause-failed
returns-in-Err-NoMemory-clause-failed g c =
    failed_read g.D.Disk.moment_of g.D.Disk.left_since g.D.Disk.told g.D.Disk.image g.D.Disk.faults_of c.args.self.now (record c.args.self.now { store = c.answer.new.self; cache = c.answer.new.cache }) c.answer.new.self c.args.self.now.held c.answer.new.cache c.args.ask c.answer.result
    c.requires.back.journal c.requires.back.safe.store c.answer.ensures refl refl

pub returns-in_err-hold-in-Err-ReadFailed-clause-failed : goal.returns-in_err-hold-in-Err-ReadFailed-clause-failed
returns-in_err-hold-in-Err-ReadFailed-clause-failed g c =
    on_err _ _ (failed_read g.D.Disk.moment_of g.D.Disk.left_since g.D.Disk.told g.D.Disk.image g.D.Disk.faults_of c.args.self.now c.hold.new.self c.answer.new.self c.hold.new.self.held c.answer.new.cache c.args.ask c.answer.result
    c.requires.back.journal c.requires.back.safe.store c.answer.ensures c.in_err-hold-in-Err-ReadFailed.ensures.kept c.hold.ensures.same)

pub returns-in_ok-hold-in-Err-ReadFailed-clause-took : goal.returns-in_ok-hold-in-Err-ReadFailed-clause-took
returns-in_ok-hold-in-Err-ReadFailed-clause-took g c =
    took_unread g.D.Disk.moment_of g.D.Disk.left_since g.D.Disk.told g.D.Disk.image g.D.Disk.faults_of c.args.self.now (record c.args.self.now { store = c.answer.new.self; cache = c.answer.new.cache }) c.hold.new.self
    c.add-in-Err-ReadFailed.new.self c.args.number c.args.ask c.args.free c.answer.new.self c.answer.new.cache c.in-Err-ReadFailed.before c.in-Err-ReadFailed.after
    c.requires.back.journal c.requires.back.safe.store
    (λ journal at. subst (λ (f : AnswerFault). Reads g.D.Disk.moment_of g.D.Disk.left_since g.D.Disk.told g.D.Disk.image g.D.Disk.faults_of journal c.answer.new.self c.args.self.now.cache c.answer.new.cache c.args.ask (Err f))
    c.in-Err-ReadFailed.field-0-is (c.in-Err-ReadFailed.ensures journal at))
    refl c.in_ok-hold-in-Err-ReadFailed.ensures.held c.hold.ensures.same c.requires.comes c.requires.goes_on c.add-in-Err-ReadFailed.ensures.log c.add-in-Err-ReadFailed.ensures.same
