use Rattle.std.proofs.Common.{rules, ◌≡◌, ℕ, List, map, None, Some, sym, ap, ◌∙◌}
use Rattle.std.specs.Prelude.{string_bytes}
use Rattle.placement.specs.Numbers.{number_of, noted}
use Rattle.placement.proofs.Numbering.{noted_insert, number_insert}
use Rattle.placement.proofs.texts.Texts.note.Goals as goal

pub returns-clause-noted : goal.returns-clause-noted
returns-clause-noted c =
    let keys = c.self.inside.texts.keys in
    let text = c.args.text.now in
    let same : string_bytes c.in-Ok.owned ≡ text = search rules in
    let new : number_of c.args.self.now text ≡ None = search rules in
    let none : number_of (map string_bytes keys) (string_bytes c.in-Ok.owned) ≡ None =
    ap (number_of (map string_bytes keys)) same ∙ ap (λ (ts : List (List ℕ)). number_of ts text) c.self.view_is ∙ new in
    ap (map string_bytes) c.in-Ok-insert_full.ensures.keys
    ∙ noted_insert keys c.in-Ok.owned none
    ∙ ap (noted (map string_bytes keys)) same
    ∙ ap (λ (ts : List (List ℕ)). noted ts text) c.self.view_is

pub returns-clause-number : goal.returns-clause-number
returns-clause-number c =
    let keys = c.self.inside.texts.keys in
    let text = c.args.text.now in
    let same : string_bytes c.in-Ok.owned ≡ text = search rules in
    let new : number_of c.args.self.now text ≡ None = search rules in
    let none : number_of (map string_bytes keys) (string_bytes c.in-Ok.owned) ≡ None =
    ap (number_of (map string_bytes keys)) same ∙ ap (λ (ts : List (List ℕ)). number_of ts text) c.self.view_is ∙ new in
    ap (λ ts. number_of ts text) (ap (map string_bytes) c.in-Ok-insert_full.ensures.keys ∙ noted_insert keys c.in-Ok.owned none)
    ∙ ap (number_of (noted (map string_bytes keys) (string_bytes c.in-Ok.owned))) (sym same)
    ∙ number_insert keys c.in-Ok.owned none
    ∙ ap Some (sym c.in-Ok-insert_full.ensures.index)
