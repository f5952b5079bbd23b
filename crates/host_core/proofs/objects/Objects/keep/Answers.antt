use Rattle.std.proofs.Common.{refl, length, arith}
use Rattle.std.proofs.lemmas.Option.{slice_get_read}
use Rattle.host_core.proofs.Keeping.{is_there, keeps_ok, same_at}
use Rattle.host_core.proofs.objects.Objects.keep.Goals as goal

pub index_mut-requires : goal.index_mut-requires
index_mut-requires g c =
    let outs = c.args.self.now.outs in
    omega (arith, is_there (length outs.items) c.args.kept c.in-Some.slot c.in-Some.message c.in-Some.is c.requires.there, outs.ok.0)

pub returns-clause-kept : goal.returns-clause-kept
returns-clause-kept g c =
    let outs = c.args.self.now.outs in
    let within = is_there (length outs.items) c.args.kept c.in-Some.slot c.in-Some.message c.in-Some.is c.requires.there in
    let at = slice_get_read outs.items _ c.in-Some.slot c.index_mut.result.now refl within c.index_mut.ensures.value in
    keeps_ok c.put.result c.args.kept outs.items c.in-Some.slot c.in-Some.message c.index_mut.result.now c.put.new.out c.in-Some.is at c.put.ensures.got c.put.ensures.sent

pub returns-clause-same : goal.returns-clause-same
returns-clause-same g c =
    let outs = c.args.self.now.outs in
    let within = is_there (length outs.items) c.args.kept c.in-Some.slot c.in-Some.message c.in-Some.is c.requires.there in
    let at = slice_get_read outs.items _ c.in-Some.slot c.index_mut.result.now refl within c.index_mut.ensures.value in
    same_at c.put.result outs.items c.in-Some.slot c.index_mut.result.now c.put.new.out at c.put.ensures.same
