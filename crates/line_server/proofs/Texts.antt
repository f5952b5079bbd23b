-- The text of a line, as JSON.
use Rattle.std.proofs.Common.{◌≡◌, ◌≤◌, ◌<◌, ℕ, List, [], ◌∷◌, length, Some, None, option_and_then, refl, sym, ap, ◌∙◌, arith, Bool, true, false, nat_lt}
use Rattle.std.proofs.lemmas.Grind.{common_steps}
use Rattle.std.proofs.lemmas.Str.{IsUtf8-from_is_utf8, is_utf8-from_IsUtf8}
use Rattle.std.specs.Str.{is_utf8, IsUtf8}
use Rattle.serde_json.specs.Data.{Data}
use Rattle.serde_json.specs.Read.{read}
use Rattle.serde_json.specs.Find.{as_array}
use Rattle.serde_json.specs.View.{items_of}
use Rattle.line_server.specs.Asked.{list_of, parts_ask, asked_in}
use Rattle.line_server.specs.Raw.{IsRaw}
use Rattle.line_server.specs.Requests.{json_of_line, or_json, body_of}
use Rattle.line_server.specs.declared.raw_line.RawLine.{RawLine}
use Rattle.line_server.specs.Limits.{most_line_bytes}
use Rattle.line_server.proofs.Keeping.{take_short}

not_true : (b : Bool) → (b ≡ true → ⊥) → b ≡ false
not_true true other = absurd (other refl)
not_true false other = refl

-- what isn't UTF-8 is no JSON
pub no_text : (line : List ℕ) → (IsUtf8 line → ⊥) → json_of_line line ≡ None
no_text line other = let no_utf8 : is_utf8 line ≡ false = not_true (is_utf8 line) (λ is. other (IsUtf8-from_is_utf8 line is)) in rw no_utf8 refl

-- UTF-8 is what `serde_json` reads
pub read_text : (line text : List ℕ) → text ≡ line → IsUtf8 line → json_of_line line ≡ read text
read_text line text same utf8 = let is : is_utf8 line ≡ true = is_utf8-from_IsUtf8 line utf8 in rw (is, same) refl

-- a line within the limit was kept whole
pub kept_body : (line : List ℕ) (raw : RawLine) → IsRaw line raw → raw.length ≤ most_line_bytes → or_json (json_of_line raw.kept.items) ≡ body_of line
kept_body line raw is short =
    let within : length line ≤ most_line_bytes = omega (arith, is.length_is) in
    let whole : raw.kept.items ≡ line = is.kept ∙ take_short most_line_bytes line within in
    let not_long : nat_lt most_line_bytes (length line) ≡ false = grind (arith, common_steps) in
    rw (whole, not_long) refl

-- a longer one is refused
pub long_body : (line : List ℕ) (raw : RawLine) → IsRaw line raw → most_line_bytes < raw.length → nat_lt most_line_bytes (length line) ≡ true
long_body line raw is long = let past : most_line_bytes < length line = omega (arith, is.length_is) in grind (arith, common_steps)

-- the items of an array are its list
pub list_of-items_of : (ds : List Data) → list_of (items_of ds) ≡ ds
list_of-items_of [] = refl
list_of-items_of (d ∷ ds) = ap (λ r. d ∷ r) (list_of-items_of ds)

-- no request has another number of parts
pub other_parts : (ds : List Data) → (length ds ≡ 2 → ⊥) → (length ds ≡ 3 → ⊥) → (length ds ≡ 6 → ⊥) → parts_ask ds ≡ None
other_parts [] two three six = refl
other_parts (a ∷ []) two three six = refl
other_parts (a ∷ b ∷ []) two three six = absurd (two refl)
other_parts (a ∷ b ∷ c ∷ []) two three six = absurd (three refl)
other_parts (a ∷ b ∷ c ∷ d ∷ []) two three six = refl
other_parts (a ∷ b ∷ c ∷ d ∷ e ∷ []) two three six = refl
other_parts (a ∷ b ∷ c ∷ d ∷ e ∷ f ∷ []) two three six = absurd (six refl)
other_parts (a ∷ b ∷ c ∷ d ∷ e ∷ f ∷ g ∷ ds) two three six = refl

-- the request of an array is that of its items
pub array_asks : (d : Data) (ds : List Data) → Some (items_of ds) ≡ as_array d → parts_ask ds ≡ asked_in d
array_asks d ds is = ap parts_ask (sym (list_of-items_of ds)) ∙ ap (λ items. option_and_then (λ ds. parts_ask (list_of ds)) items) is
