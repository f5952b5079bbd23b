-- Lines given, one after the other.
use Rattle.std.proofs.Common.{◌≡◌, ◌≤◌, ◌+◌, ◌⊎◌, ⊎_elim, inl, inr, ℕ, suc, min, List, [], ◌∷◌, ◌++◌, length, Option, Some, refl, sym, ap, ◌∙◌, arith, append_assoc, Bool, true, false, nat_le}
use Rattle.std.proofs.lemmas.Grind.{common_steps}
use Rattle.std.proofs.lemmas.List.{append-nil}
use Rattle.std.proofs.lemmas.List.Elements.{filter-append}
use Rattle.std.proofs.lemmas.List.Folds.{list_all-append}
use Rattle.std.specs.List.{list_all}
use Rattle.line_server.specs.Cut.{lines, ended}
use Rattle.line_server.specs.Reader.{Moved}
use Rattle.line_server.specs.Taken.{IsLine}
use Rattle.line_server.specs.Going.{HasGiven, GoesOn}
use Rattle.line_server.specs.Requests.{SeenLine, seen_at, numbered, requests, requests_after, through}

-- the line's number is at most n
abbrev pub is_within : ℕ → SeenLine → Bool
is_within n line = nat_le line.number n

-- lines within n are within any greater number
within_more : (n m : ℕ) (given : List SeenLine) → n ≤ m → list_all (is_within n) given ≡ true → list_all (is_within m) given ≡ true
within_more n m [] le all = refl
within_more n m (line ∷ given) le all =
    let parts : (nat_le line.number n ≡ true) × (list_all (is_within n) given ≡ true) = grind (arith, common_steps) in
    let rest : list_all (is_within m) given ≡ true = within_more n m given le parts.1 in
    grind (arith, common_steps)

-- a line is within its number
seen_within : (count : ℕ) (line : List ℕ) → list_all (is_within (count + 1)) (seen_at (count + 1) line) ≡ true
seen_within count line = grind (arith, common_steps)

-- a line more, with its number
counted_on : (count : ℕ) (given : List SeenLine) (line : List ℕ) → list_all (is_within count) given ≡ true → list_all (is_within (count + 1)) (given ++ seen_at (count + 1) line) ≡ true
counted_on count given line all =
    let before : list_all (is_within (count + 1)) given ≡ true = within_more count (count + 1) given (omega arith) all in
    rw list_all-append (rw before (seen_within count line))

-- a front of nothing is nothing
front_of_nothing : (xs ys : List ℕ) → [] ≡ xs ++ ys → xs ≡ []
front_of_nothing [] ys e = refl
front_of_nothing (x ∷ xs) ys e = cc

-- how the bytes taken end: with the line, or as the last ones of the input
abbrev pub Ends : List ℕ → List ℕ → List ℕ → Option (List ℕ) → Type 0
Ends taken line holds left = IsLine taken line ⊎ ((lines taken ≡ line ∷ []) × ((holds ≡ []) × ((rest : List ℕ) → left ≡ Some rest → rest ≡ [])))

-- the line comes first, whatever of the rest is read next
line_first : (taken line holds rest more beyond : List ℕ) (left : Option (List ℕ)) → Ends taken line holds left → left ≡ Some rest → rest ≡ more ++ beyond → lines (taken ++ (holds ++ more)) ≡ line ∷ lines (holds ++ more)
line_first taken line holds rest more beyond left ends told e =
    ⊎_elim (λ is. is.first (holds ++ more))
    (λ last.
    let none : more ≡ [] = front_of_nothing more beyond (sym (last.1.1 rest told) ∙ e) in
    rw (last.1.0, none, append-nil) last.0)
    ends

-- a line more
one_more : (count a b c d : ℕ) → a ≡ b → b ≡ count + c → c ≡ suc d → a ≡ count + 1 + d
one_more count a b c d same all one = omega arith

-- the front of nothing, and what stands behind it
pub both_nothing : (xs ys : List ℕ) → xs ++ ys ≡ [] → (xs ≡ []) × (ys ≡ [])
both_nothing [] ys e = (refl, e)
both_nothing (x ∷ xs) ys e = cc

-- an input at its end, of which nothing is held, stays so
stays_ended : (rest piece now held taken holds : List ℕ) → rest ≡ piece ++ now → held ++ piece ≡ taken ++ holds → (rest ≡ []) × (held ≡ []) → (now ≡ []) × (holds ≡ [])
stays_ended rest piece now held taken holds whole reader none =
    let parts : (piece ≡ []) × (now ≡ []) = both_nothing piece now (sym whole ∙ none.0) in
    (parts.1, (both_nothing taken holds (sym reader ∙ ap (λ r. held ++ r) parts.0 ∙ append-nil held ∙ none.1)).1)

-- a line more was ended
one_ended_more : (count a b c d : ℕ) → a ≡ b → b ≡ count + c → c ≡ 1 + d → a ≡ count + 1 + d
one_ended_more count a b c d same all one = omega arith

-- a reader that took a line goes on with the next number
pub goes_on : (whole : List ℕ) (given : List SeenLine) (count : ℕ) (held taken line holds : List ℕ) (old new : Option (List ℕ)) → GoesOn whole given count held old
    → ((before : List ℕ) → old ≡ Some before → Moved before new held taken holds) → Ends taken line holds new → GoesOn whole (given ++ seen_at (count + 1) line) (count + 1) holds new
goes_on whole given count held taken line holds old new going moves ends =
    let moved : Moved going.source.rest new held taken holds = moves going.source.rest going.source.told in
    record {
      read = going.read ++ moved.piece;
      source = record { rest = moved.source.rest; told = moved.source.told; whole = going.source.whole ∙ ap (λ r. going.read ++ r) moved.source.whole ∙ sym (append_assoc going.read moved.piece moved.source.rest) };
      to_come = λ more beyond e.
          let all : requests (going.read ++ (moved.piece ++ more)) ≡ given ++ requests_after count (held ++ (moved.piece ++ more)) =
          going.to_come (moved.piece ++ more) beyond (moved.source.whole ∙ ap (λ r. moved.piece ++ r) e ∙ sym (append_assoc moved.piece more beyond)) in
          let holding : held ++ (moved.piece ++ more) ≡ taken ++ (holds ++ more) = sym (append_assoc held moved.piece more) ∙ ap (λ r. r ++ more) moved.reader ∙ append_assoc taken holds more in
          let first : requests_after count (held ++ (moved.piece ++ more)) ≡ seen_at (count + 1) line ++ requests_after (count + 1) (holds ++ more) =
          ap (requests_after count) holding ∙ ap (numbered count) (line_first taken line holds moved.source.rest more beyond new ends moved.source.told e) in
          ap requests (append_assoc going.read moved.piece more) ∙ all ∙ ap (λ r. given ++ r) first ∙ sym (append_assoc given (seen_at (count + 1) line) (requests_after (count + 1) (holds ++ more)));
      lines_read = λ more beyond e.
          let all : length (lines (going.read ++ (moved.piece ++ more))) ≡ count + length (lines (held ++ (moved.piece ++ more))) =
          going.lines_read (moved.piece ++ more) beyond (moved.source.whole ∙ ap (λ r. moved.piece ++ r) e ∙ sym (append_assoc moved.piece more beyond)) in
          let holding : held ++ (moved.piece ++ more) ≡ taken ++ (holds ++ more) = sym (append_assoc held moved.piece more) ∙ ap (λ r. r ++ more) moved.reader ∙ append_assoc taken holds more in
          let one : length (lines (held ++ (moved.piece ++ more))) ≡ suc (length (lines (holds ++ more))) =
          ap (λ r. length (lines r)) holding ∙ ap length (line_first taken line holds moved.source.rest more beyond new ends moved.source.told e) in
          let same : length (lines ((going.read ++ moved.piece) ++ more)) ≡ length (lines (going.read ++ (moved.piece ++ more))) = ap (λ r. length (lines r)) (append_assoc going.read moved.piece more) in
          one_more count _ _ _ _ same all one;
      ended_read =
          ⊎_elim
          (λ is. ⊎_elim
          (λ so_far. inl (λ more beyond e.
          let all : ended (going.read ++ (moved.piece ++ more)) ≡ count + ended (held ++ (moved.piece ++ more)) =
          so_far (moved.piece ++ more) beyond (moved.source.whole ∙ ap (λ r. moved.piece ++ r) e ∙ sym (append_assoc moved.piece more beyond)) in
          let holding : held ++ (moved.piece ++ more) ≡ taken ++ (holds ++ more) = sym (append_assoc held moved.piece more) ∙ ap (λ r. r ++ more) moved.reader ∙ append_assoc taken holds more in
          one_ended_more count _ _ _ _ (ap ended (append_assoc going.read moved.piece more)) all (ap ended holding ∙ is.one_ended (holds ++ more))))
          (λ none. inr (stays_ended going.source.rest moved.piece moved.source.rest held taken holds moved.source.whole moved.reader none))
          going.ended_read)
          (λ last. inr (last.1.1 moved.source.rest moved.source.told, last.1.0))
          ends;
      counted = counted_on count given line going.counted;
    }

-- a reader that took nothing goes on
pub goes_on_still : (whole : List ℕ) (given : List SeenLine) (count : ℕ) (held holds : List ℕ) (old new : Option (List ℕ)) → GoesOn whole given count held old
    → ((before : List ℕ) → old ≡ Some before → Moved before new held [] holds) → GoesOn whole given count holds new
goes_on_still whole given count held holds old new going moves =
    let moved : Moved going.source.rest new held [] holds = moves going.source.rest going.source.told in
    record {
      read = going.read ++ moved.piece;
      source = record { rest = moved.source.rest; told = moved.source.told; whole = going.source.whole ∙ ap (λ r. going.read ++ r) moved.source.whole ∙ sym (append_assoc going.read moved.piece moved.source.rest) };
      to_come = λ more beyond e.
          let all : requests (going.read ++ (moved.piece ++ more)) ≡ given ++ requests_after count (held ++ (moved.piece ++ more)) =
          going.to_come (moved.piece ++ more) beyond (moved.source.whole ∙ ap (λ r. moved.piece ++ r) e ∙ sym (append_assoc moved.piece more beyond)) in
          let holding : held ++ (moved.piece ++ more) ≡ holds ++ more = sym (append_assoc held moved.piece more) ∙ ap (λ r. r ++ more) moved.reader in
          ap requests (append_assoc going.read moved.piece more) ∙ all ∙ ap (λ r. given ++ requests_after count r) holding;
      lines_read = λ more beyond e.
          let all : length (lines (going.read ++ (moved.piece ++ more))) ≡ count + length (lines (held ++ (moved.piece ++ more))) =
          going.lines_read (moved.piece ++ more) beyond (moved.source.whole ∙ ap (λ r. moved.piece ++ r) e ∙ sym (append_assoc moved.piece more beyond)) in
          let holding : held ++ (moved.piece ++ more) ≡ holds ++ more = sym (append_assoc held moved.piece more) ∙ ap (λ r. r ++ more) moved.reader in
          ap (λ r. length (lines r)) (append_assoc going.read moved.piece more) ∙ all ∙ ap (λ r. count + length (lines r)) holding;
      ended_read =
          ⊎_elim
          (λ so_far. inl (λ more beyond e.
          let all : ended (going.read ++ (moved.piece ++ more)) ≡ count + ended (held ++ (moved.piece ++ more)) =
          so_far (moved.piece ++ more) beyond (moved.source.whole ∙ ap (λ r. moved.piece ++ r) e ∙ sym (append_assoc moved.piece more beyond)) in
          let holding : held ++ (moved.piece ++ more) ≡ holds ++ more = sym (append_assoc held moved.piece more) ∙ ap (λ r. r ++ more) moved.reader in
          ap ended (append_assoc going.read moved.piece more) ∙ all ∙ ap (λ r. count + ended r) holding))
          (λ none. inr (stays_ended going.source.rest moved.piece moved.source.rest held [] holds moved.source.whole moved.reader none))
          going.ended_read;
      counted = going.counted;
    }

-- the lines given are the first ones of what was read, also where a reader read on and failed
pub has_given : (whole : List ℕ) (given : List SeenLine) (count : ℕ) (held taken holds : List ℕ) (old new : Option (List ℕ)) → GoesOn whole given count held old
    → ((before : List ℕ) → old ≡ Some before → Moved before new held taken holds) → HasGiven whole given new
has_given whole given count held taken holds old new going moves =
    let moved : Moved going.source.rest new held taken holds = moves going.source.rest going.source.told in
    record {
      read = going.read ++ moved.piece;
      source = record { rest = moved.source.rest; told = moved.source.told; whole = going.source.whole ∙ ap (λ r. going.read ++ r) moved.source.whole ∙ sym (append_assoc going.read moved.piece moved.source.rest) };
      beyond = requests_after count (held ++ moved.piece);
      first = going.to_come moved.piece moved.source.rest moved.source.whole;
    }

-- the same where nothing was read since
pub has_given_now : (whole : List ℕ) (given : List SeenLine) (count : ℕ) (held : List ℕ) (left : Option (List ℕ)) → GoesOn whole given count held left → HasGiven whole given left
has_given_now whole given count held left going = record {
  read = going.read;
  source = going.source;
  beyond = requests_after count (held ++ []);
  first = ap requests (sym (append-nil going.read)) ∙ going.to_come [] going.source.rest refl;
}

-- ---- all lines

-- all of them stay
pub kept_through : (n : ℕ) (given : List SeenLine) → list_all (is_within n) given ≡ true → through n given ≡ given
kept_through n [] all = refl
kept_through n (line ∷ given) all =
    let parts : (nat_le line.number n ≡ true) × (list_all (is_within n) given ≡ true) = grind (arith, common_steps) in
    let rest : through n given ≡ given = kept_through n given parts.1 in
    rw parts.0 (ap (λ r. line ∷ r) rest)

none_seen : (n m : ℕ) (line : List ℕ) → n ≤ m → through n (seen_at (m + 1) line) ≡ []
none_seen n m line le = let no_more : nat_le (m + 1) n ≡ false = grind (arith, common_steps) in grind (arith, common_steps)

-- lines from number n + 1 on are past n
pub none_through : (n m : ℕ) (ls : List (List ℕ)) → n ≤ m → through n (numbered m ls) ≡ []
none_through n m [] le = refl
none_through n m (line ∷ ls) le = filter-append _ (seen_at (m + 1) line) (numbered (m + 1) ls) ∙ rw (none_seen n m line le) (none_through n (m + 1) ls (omega arith))

-- at the input's end all lines were given
pub all_at_end : (whole : List ℕ) (given : List SeenLine) (count n : ℕ) (held : List ℕ) (left : Option (List ℕ)) → GoesOn whole given count held left
    → held ≡ [] → ((rest : List ℕ) → left ≡ Some rest → rest ≡ []) → count ≤ n → given ≡ through n (requests whole)
all_at_end whole given count n held left going none ends le =
    let rest : going.source.rest ≡ [] = ends going.source.rest going.source.told in
    let read : whole ≡ going.read ++ [] = going.source.whole ∙ ap (λ r. going.read ++ r) rest in
    let all : requests (going.read ++ []) ≡ given ++ requests_after count (held ++ []) = going.to_come [] [] rest in
    let given_all : requests whole ≡ given = ap requests read ∙ all ∙ rw none (append-nil given) in
    sym (ap (through n) given_all ∙ kept_through n given (within_more count n given le going.counted))

-- after the last line that is read all through it were given
pub all_at_most : (whole : List ℕ) (given : List SeenLine) (n : ℕ) (held : List ℕ) (left : Option (List ℕ)) → GoesOn whole given n held left → given ≡ through n (requests whole)
all_at_most whole given n held left going =
    let all : requests (going.read ++ going.source.rest) ≡ given ++ requests_after n (held ++ going.source.rest) = going.to_come going.source.rest [] (sym (append-nil going.source.rest)) in
    let cut : through n (given ++ requests_after n (held ++ going.source.rest)) ≡ given =
    filter-append _ given (requests_after n (held ++ going.source.rest)) ∙ rw (kept_through n given going.counted, none_through n n (lines (held ++ going.source.rest)) (omega arith)) (append-nil given) in
    sym (ap (through n) (ap requests going.source.whole ∙ all) ∙ cut)

-- before the first read
pub goes_from : (whole : List ℕ) (left : Option (List ℕ)) → left ≡ Some whole → GoesOn whole [] 0 [] left
goes_from whole left told = record {
  read = [];
  source = record { rest = whole; told = told; whole = refl };
  to_come = λ more beyond e. refl;
  lines_read = λ more beyond e. omega arith;
  ended_read = inl (λ more beyond e. omega arith);
  counted = refl;
}

-- at the input's end the count is that of all its lines
pub count_at_end : (whole : List ℕ) (given : List SeenLine) (count n : ℕ) (held : List ℕ) (left : Option (List ℕ)) → GoesOn whole given count held left
    → held ≡ [] → ((rest : List ℕ) → left ≡ Some rest → rest ≡ []) → count ≤ n → count ≡ min n (length (lines whole))
count_at_end whole given count n held left going none ends le =
    let rest : going.source.rest ≡ [] = ends going.source.rest going.source.told in
    let read : whole ≡ going.read ++ [] = going.source.whole ∙ ap (λ r. going.read ++ r) rest in
    let nothing : length (lines (held ++ [])) ≡ 0 = rw none refl in
    let all : length (lines (going.read ++ [])) ≡ count + length (lines (held ++ [])) = going.lines_read [] [] rest in
    let total : length (lines whole) ≡ length (lines (going.read ++ [])) = ap (λ r. length (lines r)) read in
    omega arith

-- after the last line that is read the count is that line's number
pub count_at_most : (whole : List ℕ) (given : List SeenLine) (n : ℕ) (held : List ℕ) (left : Option (List ℕ)) → GoesOn whole given n held left → n ≡ min n (length (lines whole))
count_at_most whole given n held left going =
    let all : length (lines (going.read ++ going.source.rest)) ≡ n + length (lines (held ++ going.source.rest)) = going.lines_read going.source.rest [] (sym (append-nil going.source.rest)) in
    let total : length (lines whole) ≡ length (lines (going.read ++ going.source.rest)) = ap (λ r. length (lines r)) going.source.whole in
    omega arith
