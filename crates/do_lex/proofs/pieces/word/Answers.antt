use Rattle.do_lex.proofs.Runs.{word_longest}
use Rattle.do_lex.proofs.pieces.word.Goals as goal

pub returns : goal.returns
returns c = record {
  n = c.word_len-n.result;
  longest = rw c.word_len-n.ensures (word_longest c.args.bytes.now c.requires.opening);
  answer_is = rw c.word_kind.ensures at c.token.ensures;
}
