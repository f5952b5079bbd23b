-- What is told of a script, from the bytes that were read of it.
use Rattle.std.proofs.Common.{◌≡◌, ◌<◌, ◌≤◌, ◌⊎◌, ⊎_elim, inl, inr, ℕ, min, List, length, take, Option, Some, Result, Err, refl, sym, ap, subst, ◌∙◌, arith}
use Rattle.std.proofs.lemmas.Bool.{cases_order}
use Rattle.std.proofs.lemmas.List.{length-take, take_all}
use Rattle.do_disk.specs.declared.depot.TheConstants.{MOST_TEXT_BYTES}
use Rattle.do_check.specs.First.{IsRefusal}
use Rattle.do_check.specs.declared.fault.CheckFault.{CheckFault}
use Rattle.do_parse.specs.Fault.{IsFaultAt}
use Rattle.do_lex.specs.Limits.{most_script_bytes}
use Rattle.do_parse.specs.declared.fault.ParseKind.{ParseKind}
use Rattle.do_tree.specs.Faults.{IsFirstFault}
use Rattle.do_tree.specs.Tree.{Script}
use Rattle.do_parse.specs.declared.fault.ParseKind.TheVariants as wrong
use Rattle.do_host.specs.EarlyEnds.{IsRefusedBy, IsStoppedBy, IsScriptEnd, Refuses}
use Rattle.do_host.specs.ScriptLines.{refused_line, IsRefusalLine, IsScriptLine}
use Rattle.do_host.specs.Scripts.{check_word, parse_word, IsAccepted, IsRefused, IsUnread, IsFaulty}
use Rattle.do_host.specs.declared.early_end.EarlyEnd.{EarlyEnd}
use Rattle.do_host.specs.declared.early_end.EarlyEnd.TheVariants.{Refused, Stopped}
use Rattle.do_host.specs.declared.run_end.RunEnd.{RunEnd}
use Rattle.do_host.specs.declared.run_end.RunEnd.TheVariants.{NoMemory}

-- of the text's first bytes, which are fewer than were read, there are no more
take_is_whole : (n : ℕ) (xs ys : List ℕ) → take n xs ≡ ys → length ys < n → xs ≡ ys
take_is_whole n xs ys same short =
    let least : length ys ≡ min n (length xs) = ap length (sym same) ∙ length-take n xs in
    sym (take_all n xs (omega (arith, least, short))) ∙ same

-- an answer that is an end
abbrev ends : {T : Type 0} → EarlyEnd → Result T EarlyEnd
ends {T} end = Err end

-- the line of a script with this fault
pub record IsLineAt (place : ℕ) (word : Option (List ℕ)) (line : List ℕ) : Type 0 where
  pub is : List ℕ
  pub some : word ≡ Some is
  pub line_is : line ≡ refused_line place is

pub line_at : {T : Type 0} (place : ℕ) (word : Option (List ℕ)) (end : EarlyEnd) → Refuses place word end → (line : List ℕ) → IsRefusedBy (ends {T = T} end) line → IsLineAt place word line
line_at {T} place word (Refused bytes) refuses line (others, same, items) =
    let is : bytes ≡ others = cc in
    record { is = refuses.0; some = refuses.1; line_is = sym items ∙ sym (ap (λ b. b.items) is) ∙ refuses.2 }
line_at {T} place word (Stopped stop) refuses line (others, same, items) = cc

-- a refusal of the check that has a word is for the script's first fault
pub checked_fault : (script : Script) (fault : CheckFault) (word : List ℕ) → check_word fault.kind ≡ Some word → IsRefusal script fault → IsFirstFault script fault.place fault.kind
checked_fault script fault word named refusal = refusal.0 (λ none. let nothing = ap check_word none in cc)

-- a refusal has its line, or memory was wanting
pub ends_early : {T : Type 0} (place : ℕ) (word : Option (List ℕ)) (end : EarlyEnd) → Refuses place word end → ((line : List ℕ) × IsRefusedBy (ends {T = T} end) line) ⊎ IsStoppedBy (ends {T = T} end) NoMemory
ends_early {T} place word (Refused bytes) refuses = inl (bytes.items, (bytes, refl, refl))
ends_early {T} place word (Stopped stop) refuses = inr (ap (λ s. ends {T = T} (Stopped s)) refuses)

-- of a text that a script may be all was read
pub whole_text : (whole text : List ℕ) → text ≡ take MOST_TEXT_BYTES whole → length text ≤ most_script_bytes → text ≡ whole
whole_text whole text front short = sym (take_is_whole MOST_TEXT_BYTES whole text (sym front) (omega (arith, short)))

long_whole : (whole text : List ℕ) → text ≡ take MOST_TEXT_BYTES whole → most_script_bytes < length text → most_script_bytes < length whole
long_whole whole text front long =
    let least : length text ≡ min MOST_TEXT_BYTES (length whole) = ap length front ∙ length-take MOST_TEXT_BYTES whole in
    omega (arith, least, long)

too_long : (whole text : List ℕ) (place : ℕ) (word : List ℕ) (kind : ParseKind) → kind ≡ wrong.TooLong → parse_word kind ≡ Some word → most_script_bytes < length whole → IsFaultAt text kind place → IsUnread whole place word
too_long whole text place word wrong.TooLong is named long fault = record { kind = wrong.TooLong; named = named; at_once = λ _. refl; fault = (long, fault.1) }
too_long whole text place word wrong.BadChar is named long fault = cc
too_long whole text place word wrong.OpenText is named long fault = cc
too_long whole text place word wrong.LongNumber is named long fault = cc
too_long whole text place word wrong.Unexpected is named long fault = cc
too_long whole text place word wrong.TooNested is named long fault = cc
too_long whole text place word wrong.NoMemory is named long fault = cc

longer_or_not : (text : List ℕ) → (most_script_bytes < length text) ⊎ (length text ≤ most_script_bytes)
longer_or_not text =
    ⊎_elim (λ same. inr (omega (arith, same))) (λ apart. ⊎_elim (λ less. inl less) (λ more. inr (omega (arith, more))) apart) (cases_order most_script_bytes (length text))

-- why the bytes that were read are refused the whole text is
refused_whole : (whole text : List ℕ) (place : ℕ) (word : List ℕ) → text ≡ take MOST_TEXT_BYTES whole → IsRefused text place word → IsRefused whole place word
refused_whole whole text place word front refused =
    ⊎_elim
    (λ (unread : IsUnread text place word).
    ⊎_elim
    (λ (long : most_script_bytes < length text). inl (too_long whole text place word unread.kind (unread.at_once long) unread.named (long_whole whole text front long) unread.fault))
    (λ (short : length text ≤ most_script_bytes). subst (λ t. IsRefused t place word) (whole_text whole text front short) refused)
    (longer_or_not text))
    (λ (faulty : IsFaulty text place word). subst (λ t. IsRefused t place word) (whole_text whole text front faulty.short) refused)
    refused

pub refusal_whole : (whole text line : List ℕ) → text ≡ take MOST_TEXT_BYTES whole → IsRefusalLine text line → IsRefusalLine whole line
refusal_whole whole text line front refusal = record {
  place = refusal.place;
  word = refusal.word;
  refused = refused_whole whole text refusal.place refusal.word front refusal.refused;
  line_is = refusal.line_is;
}

pub script_line_whole : (whole text line : List ℕ) → text ≡ take MOST_TEXT_BYTES whole → IsScriptLine text line → IsScriptLine whole line
script_line_whole whole text line front told = subst (λ t. IsScriptLine t line) (whole_text whole text front told.accepted.short) told

pub accepted_whole : (whole text : List ℕ) (tree : Script) → text ≡ take MOST_TEXT_BYTES whole → IsAccepted text tree → IsAccepted whole tree
accepted_whole whole text tree front accepted = subst (λ t. IsAccepted t tree) (whole_text whole text front accepted.short) accepted

-- a text that isn't too long is short
pub short_text : (text : List ℕ) → (most_script_bytes < length text → ⊥) → length text ≤ most_script_bytes
short_text text never = ⊎_elim (λ long. absurd (never long)) (λ short. short) (longer_or_not text)

-- an end that is handed on
pub same_refused : {T U : Type 0} (end : EarlyEnd) (line : List ℕ) → IsRefusedBy (ends {T = T} end) line → IsRefusedBy (ends {T = U} end) line
same_refused {T} {U} end line (bytes, is, items) = let e : end ≡ Refused bytes = cc in (bytes, ap (λ o. ends {T = U} o) e, items)

pub same_stopped : {T U : Type 0} (end : EarlyEnd) (stop : RunEnd) → IsStoppedBy (ends {T = T} end) stop → IsStoppedBy (ends {T = U} end) stop
same_stopped {T} {U} end stop is = let e : end ≡ Stopped stop = cc in ap (λ o. ends {T = U} o) e

pub same_end : {T U : Type 0} (end : EarlyEnd) → ((line : List ℕ) × IsRefusedBy (ends {T = T} end) line) ⊎ IsStoppedBy (ends {T = T} end) NoMemory
    → ((line : List ℕ) × IsRefusedBy (ends {T = U} end) line) ⊎ IsStoppedBy (ends {T = U} end) NoMemory
same_end {T} {U} end is = ⊎_elim (λ refused. inl (refused.0, same_refused {T = T} {U = U} end refused.0 refused.1)) (λ stopped. inr (same_stopped {T = T} {U = U} end NoMemory stopped)) is

-- an answer that hands an end on
pub handed_refused : {T U : Type 0} (result : Result U EarlyEnd) (end : EarlyEnd) (line : List ℕ) → result ≡ ends {T = U} end → IsRefusedBy result line → IsRefusedBy (ends {T = T} end) line
handed_refused {T} {U} result end line is (bytes, by, items) = same_refused {T = U} {U = T} end line (bytes, sym is ∙ by, items)

pub handed_stopped : {T U : Type 0} (result : Result U EarlyEnd) (end : EarlyEnd) (stop : RunEnd) → result ≡ ends {T = U} end → IsStoppedBy result stop → IsStoppedBy (ends {T = T} end) stop
handed_stopped {T} {U} result end stop is by = same_stopped {T = U} {U = T} end stop (sym is ∙ by)

-- an end of accepting a text is one of reading the script
pub script_end : {T U : Type 0} (end : EarlyEnd) → ((line : List ℕ) × IsRefusedBy (ends {T = T} end) line) ⊎ IsStoppedBy (ends {T = T} end) NoMemory → IsScriptEnd (ends {T = U} end)
script_end {T} {U} end is =
    ⊎_elim (λ refused. inl (refused.0, same_refused {T = T} {U = U} end refused.0 refused.1)) (λ stopped. inr (inr (same_stopped {T = T} {U = U} end NoMemory stopped))) is
