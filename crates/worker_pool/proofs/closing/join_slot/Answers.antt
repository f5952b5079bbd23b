use Rattle.std.proofs.Common.{IfErr, IfOk, subst, sym}
use Rattle.worker_pool.proofs.Slots.{joins, made_slot}
use Rattle.worker_pool.specs.Joined.{AreHalvesOf, HasItsEnds, IsCoreOf, Slot}
use Rattle.worker_pool.proofs.closing.join_slot.Goals as goal

pub join-joined-requires-clause-outer : goal.join-joined-requires-clause-outer
join-joined-requires-clause-outer g c =
    let is = c.requires.slot.1 in
    let made = made_slot c.requires.slot.0 c.unwrap-front.result c.unwrap-back.result c.unwrap-place.result c.unwrap-messages.result c.unwrap-posts.result
    c.args.front c.args.back c.args.messages c.args.posts is c.unwrap-front.ensures c.unwrap-place.ensures c.unwrap-back.ensures c.unwrap-messages.ensures
    c.unwrap-posts.ensures in
    let ends = subst (λ (s : Slot g.row.D.Denot g.row.T.Denot). HasItsEnds s) (sym made) is.ends in
    (ends.inbox, ends.out)

pub join-joined-requires-clause-inner : goal.join-joined-requires-clause-inner
join-joined-requires-clause-inner g c =
    let is = c.requires.slot.1 in
    let made = made_slot c.requires.slot.0 c.unwrap-front.result c.unwrap-back.result c.unwrap-place.result c.unwrap-messages.result c.unwrap-posts.result
    c.args.front c.args.back c.args.messages c.args.posts is c.unwrap-front.ensures c.unwrap-place.ensures c.unwrap-back.ensures c.unwrap-messages.ensures
    c.unwrap-posts.ensures in
    let ends = subst (λ (s : Slot g.row.D.Denot g.row.T.Denot). HasItsEnds s) (sym made) is.ends in
    (ends.line, ends.notices)

pub returns-clause-joined : goal.returns-clause-joined
returns-clause-joined g c slot done is before =
    let made = made_slot slot c.unwrap-front.result c.unwrap-back.result c.unwrap-place.result c.unwrap-messages.result c.unwrap-posts.result
    c.args.front c.args.back c.args.messages c.args.posts is c.unwrap-front.ensures c.unwrap-place.ensures c.unwrap-back.ensures c.unwrap-messages.ensures
    c.unwrap-posts.ensures in
    let joined = c.join-joined.result in
    joins g.D.Disk.moment_of g.D.Disk.left_since g.D.Disk.told g.D.Disk.image g.D.Disk.faults_of slot done joined c.args.room.now c.put.new.self
    (subst (λ (s : Slot g.row.D.Denot g.row.T.Denot). IfOk joined (IsCoreOf g.D.Disk.moment_of g.D.Disk.left_since g.D.Disk.told g.D.Disk.image g.D.Disk.faults_of s))
    made c.join-joined.ensures.joined)
    (subst (λ (s : Slot g.row.D.Denot g.row.T.Denot). IfErr joined (AreHalvesOf g.D.Disk.moment_of g.D.Disk.left_since g.D.Disk.told g.D.Disk.image g.D.Disk.faults_of s))
    made c.join-joined.ensures.apart) c.put.ensures.put before
