-- What is under way over lanes of one thread.
use Rattle.std.proofs.Common.{◌≡◌, ◌∙◌, ap, sym, List, ◌++◌, append_assoc}
use Rattle.std.proofs.lemmas.List.{append_cancel_left}
use Rattle.lane.specs.Lanes.{Both, sent_on}
use Rattle.timeline.specs.declared.entry.Entry.{Entry}
use Rattle.timeline.specs.declared.notice.Notice.{Notice}
use Rattle.front_half.proofs.Sent.{sent_more}
use Rattle.front_half.specs.Sending.{AreSentToo}
use Rattle.front_half.specs.declared.half.Half.{Half}
use Rattle.front_history.specs.Turns.{AreUnderWay}

-- Behind what was lost of the line, the clauses of a turn give it.
pub under_way : {T : Type 0} (old new : Half T) (lost : List Entry) (line later : Both Entry) (notices told : Both Notice)
    → AreSentToo (sent_on line) (sent_on later) old.log.sent.items new.log.sent.items → later.got ≡ line.got → sent_on told ≡ sent_on notices
    → AreUnderWay old new notices.got told.got (lost ++ line.waiting) (lost ++ later.waiting) notices.waiting told.waiting
under_way {T} old new lost line later notices told too got same =
    let alike = sent_more (sent_on line) (sent_on later) old.log.sent.items new.log.sent.items too in
    let waiting : later.waiting ≡ line.waiting ++ alike.more =
    append_cancel_left line.got later.waiting (line.waiting ++ alike.more)
    (ap (λ (x : List Entry). x ++ later.waiting) (sym got) ∙ alike.is_sent ∙ append_assoc line.got line.waiting alike.more) in
    record {
      sent = alike.more;
      logged = alike.is_logged;
      behind = ap (λ (x : List Entry). lost ++ x) waiting ∙ sym (append_assoc lost line.waiting alike.more);
      told = sym same;
    }
