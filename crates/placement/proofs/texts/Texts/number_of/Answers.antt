use Rattle.std.proofs.Common.{ℕ, List, ap, ◌∙◌}
use Rattle.std.specs.Str.{bytes_eq}
use Rattle.placement.specs.Numbers.{number_of}
use Rattle.placement.proofs.Numbering.{position_by_bytes}
use Rattle.placement.proofs.texts.Texts.number_of.Goals as goal

pub returns : goal.returns
returns c =
    c.get_index_of.ensures.index
    ∙ position_by_bytes (bytes_eq c.args.text.now) c.self.inside.texts.keys
    ∙ ap (λ (texts : List (List ℕ)). number_of texts c.args.text.now) c.self.view_is
