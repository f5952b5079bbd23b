use Rattle.object_core.proofs.laws.one_has_intake.Goals as goal

pub returns : goal.returns
returns g c script origin tells one class is =
    let p = one.pair tells class is in
    record { front = p.front; taken = p.taken; unsent = p.unsent; by = p.by }
