use Rattle.std.proofs.Common.{◌≡◌, ◌++◌, ◌∷◌, [], ◌∙◌, ℕ, List, option_map, refl, ap}
use Rattle.std.specs.Prelude.{Ok, Err}
use Rattle.line_server.specs.Text.{text}
use Rattle.line_server.specs.declared.out_line.OutLine.{OutLine}
use Rattle.mailbox.specs.declared.fault.SwitchFault.TheVariants.{NoMemory, WriteFailed}
use Rattle.mailbox.proofs.Writings.{counts_steady, counts_rose, not_written, writes_none, writes_one, writes_part}
use Rattle.mailbox.proofs.printing.write_line.Goals as goal

pub returns-in_default-clause-written : goal.returns-in_default-clause-written
returns-in_default-clause-written g c = λ unwritten.
    writes_none (g.W.Sink.taken c.args.out.now) (g.W.Sink.taken c.args.out.now) c.args.log.now.items c.args.log.now.items refl refl

pub returns-in_default-clause-part : goal.returns-in_default-clause-part
returns-in_default-clause-part g c = λ failed. absurd (not_written (Err NoMemory) refl failed)

pub returns-in_default-clause-faults : goal.returns-in_default-clause-faults
returns-in_default-clause-faults g c = counts_steady (g.W.Sink.faults_of c.args.out.now) (g.W.Sink.faults_of c.args.out.now) (Err NoMemory) refl refl

pub returns-in_default-make_room-clause-written : goal.returns-in_default-make_room-clause-written
returns-in_default-make_room-clause-written g c = λ unwritten.
    writes_none (g.W.Sink.taken c.args.out.now) (g.W.Sink.taken c.args.out.now) c.args.log.now.items c.make_room.new.log.items refl c.make_room.ensures.same

pub returns-in_default-make_room-clause-part : goal.returns-in_default-make_room-clause-part
returns-in_default-make_room-clause-part g c = λ failed. absurd (not_written (Err NoMemory) refl failed)

pub returns-in_default-make_room-clause-faults : goal.returns-in_default-make_room-clause-faults
returns-in_default-make_room-clause-faults g c = counts_steady (g.W.Sink.faults_of c.args.out.now) (g.W.Sink.faults_of c.args.out.now) (Err NoMemory) refl refl

pub returns-in-Ok-put-clause-written : goal.returns-in-Ok-put-clause-written
returns-in-Ok-put-clause-written g c =
    let logged : c.log_line.new.log.items ≡ c.args.log.now.items ++ c.args.line ∷ [] = c.log_line.ensures ∙ ap (λ (l : List OutLine). l ++ c.args.line ∷ []) c.make_room.ensures.same in
    let text_is : c.as_slice.result.now ≡ text c.args.line = c.as_slice.ensures.value ∙ c.in-Ok.ensures in
    λ unwritten. writes_one (g.W.Sink.taken c.args.out.now) (g.W.Sink.taken c.put.new.sink) c.args.log.now.items c.log_line.new.log.items c.args.line
    (c.in-Ok-put.ensures.taken ∙ ap (λ (t : List ℕ). option_map (λ taken. taken ++ t) (g.W.Sink.taken c.args.out.now)) text_is) logged

pub returns-in-Ok-put-clause-part : goal.returns-in-Ok-put-clause-part
returns-in-Ok-put-clause-part g c = λ failed. absurd (not_written (Ok tt) refl failed)

pub returns-in-Ok-put-clause-faults : goal.returns-in-Ok-put-clause-faults
returns-in-Ok-put-clause-faults g c = counts_steady (g.W.Sink.faults_of c.args.out.now) (g.W.Sink.faults_of c.put.new.sink) (Ok tt) refl c.in-Ok-put.ensures.faults.steady

pub returns-clause-written : goal.returns-clause-written
returns-clause-written g c = λ unwritten. absurd (unwritten refl)

pub returns-clause-part : goal.returns-clause-part
returns-clause-part g c =
    let logged : c.log_line.new.log.items ≡ c.args.log.now.items ++ c.args.line ∷ [] = c.log_line.ensures ∙ ap (λ (l : List OutLine). l ++ c.args.line ∷ []) c.make_room.ensures.same in
    λ failed. writes_part (g.W.Sink.taken c.args.out.now) (g.W.Sink.taken c.put.new.sink) c.args.log.now.items c.log_line.new.log.items c.args.line c.as_slice.result.now
    (c.as_slice.ensures.value ∙ c.in-Ok.ensures) c.in-Err.ensures.front logged

pub returns-clause-faults : goal.returns-clause-faults
returns-clause-faults g c = counts_rose (g.W.Sink.faults_of c.args.out.now) (g.W.Sink.faults_of c.put.new.sink) (Err WriteFailed) refl c.in-Err.ensures.faults.rose
