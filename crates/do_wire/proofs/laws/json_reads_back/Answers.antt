use Rattle.do_wire.proofs.ReadBack.{read_back}
use Rattle.do_wire.proofs.laws.json_reads_back.Goals as goal

pub returns : goal.returns
returns c = read_back
