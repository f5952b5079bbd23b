use Rattle.std.proofs.Common.{◌≡◌, drop, sym, ◌∙◌, ap}
use Rattle.do_parse.proofs.Peeking.{drop_one}
use Rattle.do_parse.proofs.cursor.Cursor.skip.Goals as goal

pub returns-then-self : goal.returns-then-self
returns-then-self c =
    let v : drop c.self.inside.at c.self.inside.tokens.now ≡ c.args.self.now = cc in
    drop_one c.self.inside.at c.self.inside.tokens.now ∙ ap (λ xs. drop 1 xs) v
