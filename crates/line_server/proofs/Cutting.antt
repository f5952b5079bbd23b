-- The first line of bytes.
use Rattle.std.proofs.Common.{◌≡◌, ◌<◌, ◌+◌, ◌-◌, ℕ, List, [], ◌∷◌, ◌++◌, length, refl, ◌∙◌, arith, Bool, true, false, not, ◌==◌}
use Rattle.std.proofs.lemmas.Grind.{common_steps}
use Rattle.std.specs.List.{onto_first}
use Rattle.line_server.specs.Cut.{lines_within, ended_within, line_end}
use Rattle.line_server.specs.Ends.{has_no_end}

step_on : (most room b : ℕ) (bs : List ℕ) → (b == line_end) ≡ false → 1 < room → lines_within most room (b ∷ bs) ≡ onto_first b (lines_within most (room - 1) bs)
step_on most room b bs other more = let not_last : (room == 1) ≡ false = grind (arith, common_steps) in rw (other, not_last) refl

not_end : (b : ℕ) (bs : List ℕ) → has_no_end (b ∷ bs) ≡ true → ((b == line_end) ≡ false) × (has_no_end bs ≡ true)
not_end b bs all = grind (arith, common_steps)

-- a line ends before an LF
pub line_before_end : (most room : ℕ) (line more : List ℕ) → has_no_end line ≡ true → length line < room → lines_within most room (line ++ line_end ∷ more) ≡ line ∷ lines_within most most more
line_before_end most room [] more all short = refl
line_before_end most room (b ∷ bs) more all short =
    let parts : ((b == line_end) ≡ false) × (has_no_end bs ≡ true) = not_end b bs all in
    let rest : lines_within most (room - 1) (bs ++ line_end ∷ more) ≡ bs ∷ lines_within most most more = line_before_end most (room - 1) bs more parts.1 (omega arith) in
    step_on most room b (bs ++ line_end ∷ more) parts.0 (omega arith) ∙ rw rest refl

-- a line ends after its last byte where it has no room for another
pub line_of_room : (most room : ℕ) (line more : List ℕ) → has_no_end line ≡ true → length line ≡ room → 0 < room → lines_within most room (line ++ more) ≡ line ∷ lines_within most most more
line_of_room most room [] more all full some = absurd (omega arith)
line_of_room most room (b ∷ []) more all full some =
    let parts : ((b == line_end) ≡ false) × (has_no_end [] ≡ true) = not_end b [] all in
    let last : (room == 1) ≡ true = grind (arith, common_steps) in
    rw (parts.0, last) refl
line_of_room most room (b ∷ c ∷ bs) more all full some =
    let parts : ((b == line_end) ≡ false) × (has_no_end (c ∷ bs) ≡ true) = not_end b (c ∷ bs) all in
    let rest : lines_within most (room - 1) ((c ∷ bs) ++ more) ≡ (c ∷ bs) ∷ lines_within most most more = line_of_room most (room - 1) (c ∷ bs) more parts.1 (omega arith) (omega arith) in
    step_on most room b ((c ∷ bs) ++ more) parts.0 (omega arith) ∙ rw rest refl

-- what follows the last LF is a line
pub last_line : (most room b : ℕ) (bs : List ℕ) → has_no_end (b ∷ bs) ≡ true → length (b ∷ bs) < room → lines_within most room (b ∷ bs) ≡ (b ∷ bs) ∷ []
last_line most room b [] all short =
    let parts : ((b == line_end) ≡ false) × (has_no_end [] ≡ true) = not_end b [] all in
    step_on most room b [] parts.0 (omega arith)
last_line most room b (c ∷ bs) all short =
    let parts : ((b == line_end) ≡ false) × (has_no_end (c ∷ bs) ≡ true) = not_end b (c ∷ bs) all in
    let rest : lines_within most (room - 1) (c ∷ bs) ≡ (c ∷ bs) ∷ [] = last_line most (room - 1) c bs parts.1 (omega arith) in
    step_on most room b (c ∷ bs) parts.0 (omega arith) ∙ rw rest refl

-- ---- how many lines are ended

-- a byte that isn't an LF, and that isn't the last one of its line's room
ended_on : (most room b : ℕ) (bs : List ℕ) → (b == line_end) ≡ false → 1 < room → ended_within most room (b ∷ bs) ≡ ended_within most (room - 1) bs
ended_on most room b bs other more = let not_last : (room == 1) ≡ false = grind (arith, common_steps) in rw (other, not_last) refl

-- an LF ends a line
pub ended_before_end : (most room : ℕ) (line more : List ℕ) → has_no_end line ≡ true → length line < room → ended_within most room (line ++ line_end ∷ more) ≡ 1 + ended_within most most more
ended_before_end most room [] more all short = refl
ended_before_end most room (b ∷ bs) more all short =
    let parts : ((b == line_end) ≡ false) × (has_no_end bs ≡ true) = not_end b bs all in
    ended_on most room b (bs ++ line_end ∷ more) parts.0 (omega arith) ∙ ended_before_end most (room - 1) bs more parts.1 (omega arith)

-- so does its last byte where it has no room for another
pub ended_of_room : (most room : ℕ) (line more : List ℕ) → has_no_end line ≡ true → length line ≡ room → 0 < room → ended_within most room (line ++ more) ≡ 1 + ended_within most most more
ended_of_room most room [] more all full some = absurd (omega arith)
ended_of_room most room (b ∷ []) more all full some =
    let parts : ((b == line_end) ≡ false) × (has_no_end [] ≡ true) = not_end b [] all in
    let last : (room == 1) ≡ true = grind (arith, common_steps) in
    rw (parts.0, last) refl
ended_of_room most room (b ∷ c ∷ bs) more all full some =
    let parts : ((b == line_end) ≡ false) × (has_no_end (c ∷ bs) ≡ true) = not_end b (c ∷ bs) all in
    ended_on most room b ((c ∷ bs) ++ more) parts.0 (omega arith) ∙ ended_of_room most (room - 1) (c ∷ bs) more parts.1 (omega arith) (omega arith)

-- and nothing else does
pub none_ended : (most room : ℕ) (line : List ℕ) → has_no_end line ≡ true → length line < room → ended_within most room line ≡ 0
none_ended most room [] all short = refl
none_ended most room (b ∷ bs) all short =
    let parts : ((b == line_end) ≡ false) × (has_no_end bs ≡ true) = not_end b bs all in
    ended_on most room b bs parts.0 (omega arith) ∙ none_ended most (room - 1) bs parts.1 (omega arith)
