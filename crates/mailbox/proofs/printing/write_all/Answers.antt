use Rattle.std.proofs.Common.{◌≡◌, ◌++◌, ◌∷◌, [], ◌∙◌, ℕ, List, map, refl, ap, sym, append_assoc}
use Rattle.std.specs.Prelude.{Ok, Err}
use Rattle.line_server.specs.declared.out_line.OutLine.{OutLine}
use Rattle.mailbox.proofs.Sendings.{goes_item}
use Rattle.mailbox.proofs.Writings.{counts_then, not_written, writes_then, part_then}
use Rattle.mailbox.proofs.printing.write_all.Goals as goal

pub loop-item-preserved : goal.loop-item-preserved
loop-item-preserved g c =
    let logged = c.loop-item.log.items in
    let item : ℕ × OutLine = c.in-Some.item in
    let rest = c.next.new.self.rest.items in
    let step : c.loop-item.item-iterator.rest.items ≡ item ∷ rest = c.in-Some.ensures.steps.0 in
    let more : c.write_line.new.log.items ≡ logged ++ item.1 ∷ [] = c.in-Ok.ensures.logged in
    record {
      logged = ap (λ (l : List OutLine). l ++ map (λ line. line.1) rest) more
          ∙ append_assoc logged (item.1 ∷ []) (map (λ line. line.1) rest)
          ∙ ap (λ (l : List (ℕ × OutLine)). logged ++ map (λ line. line.1) l) (sym step)
          ∙ c.loop-item.invariant.logged;
      written = writes_then (g.W.Sink.taken c.args.out.now) (g.W.Sink.taken c.loop-item.out) (g.W.Sink.taken c.write_line.new.out) c.args.log.now.items logged c.write_line.new.log.items
          c.loop-item.invariant.written (c.in-Ok.ensures.written (not_written (Ok tt) refl));
      steady = c.in-Ok.ensures.faults.steady (not_written (Ok tt) refl) ∙ c.loop-item.invariant.steady;
    }

pub returns-in-Err-clause-begun : goal.returns-in-Err-clause-begun
returns-in-Err-clause-begun g c =
    let logged = c.loop-item.log.items in
    let item : ℕ × OutLine = c.in-Some.item in
    let rest = c.next.new.self.rest.items in
    let step : c.loop-item.item-iterator.rest.items ≡ item ∷ rest = c.in-Some.ensures.steps.0 in
    goes_item c.args.log.now.items logged c.write_line.new.log.items (map (λ line. line.1) c.args.lines.items) c.loop-item.invariant.written.since item.1 (map (λ line. line.1) rest)
    c.loop-item.invariant.written.logged
    (ap (λ (l : List (ℕ × OutLine)). logged ++ map (λ line. line.1) l) (sym step) ∙ c.loop-item.invariant.logged)
    c.in-Err.ensures.begun

pub returns-in-Err-clause-written : goal.returns-in-Err-clause-written
returns-in-Err-clause-written g c = λ unwritten.
    writes_then (g.W.Sink.taken c.args.out.now) (g.W.Sink.taken c.loop-item.out) (g.W.Sink.taken c.write_line.new.out) c.args.log.now.items c.loop-item.log.items c.write_line.new.log.items
    c.loop-item.invariant.written (c.in-Err.ensures.written unwritten)

pub returns-in-Err-clause-part : goal.returns-in-Err-clause-part
returns-in-Err-clause-part g c = λ failed.
    part_then (g.W.Sink.taken c.args.out.now) (g.W.Sink.taken c.loop-item.out) (g.W.Sink.taken c.write_line.new.out) c.args.log.now.items c.loop-item.log.items c.write_line.new.log.items
    c.loop-item.invariant.written (c.in-Err.ensures.part failed)

pub returns-in-Err-clause-faults : goal.returns-in-Err-clause-faults
returns-in-Err-clause-faults g c =
    counts_then (g.W.Sink.faults_of c.args.out.now) (g.W.Sink.faults_of c.write_line.new.out) (g.W.Sink.faults_of c.loop-item.out) (Err c.in-Err.fault)
    c.loop-item.invariant.steady c.in-Err.ensures.faults
