-- What is printed is logged and written.
use Rattle.std.proofs.Common.{◌≡◌, ◌≤◌, ◌+◌, ℕ, List, [], ◌∷◌, ◌++◌, length, take, Option, None, Some, option_map, refl, sym, ap, subst, ◌∙◌, append_assoc, arith}
use Rattle.std.specs.Prelude.{Bool, true, false, Result, Ok, Err}
use Rattle.std.proofs.lemmas.Bool.{true≢false}
use Rattle.std.proofs.Math.Seq.{take-append-add}
use Rattle.std.proofs.lemmas.Grind.{flat_map-append}
use Rattle.std.proofs.lemmas.List.{append-nil, length-append}
use Rattle.do_disk.specs.Disk.{Rose}
use Rattle.line_server.specs.Text.{text}
use Rattle.line_server.specs.declared.out_line.OutLine.{OutLine}
use Rattle.mailbox.specs.declared.fault.SwitchFault.{SwitchFault}
use Rattle.mailbox.specs.declared.fault.SwitchFault.TheVariants.{WriteFailed, NoMemory}
use Rattle.mailbox.specs.Written.{text_of, Writes, WritesInPart, CountsWrites}

as_before : (taken : Option (List ℕ)) → taken ≡ option_map (λ t. t ++ []) taken
as_before None = refl
as_before (Some t) = ap Some (sym (append-nil t))

one_text : (line : OutLine) → text_of (line ∷ []) ≡ text line
one_text line = append-nil (text line)

-- nothing was printed
pub writes_none : (old new : Option (List ℕ)) (log later : List OutLine) → new ≡ old → later ≡ log → Writes old new log later
writes_none old new log later same kept = record { since = []; logged = kept ∙ sym (append-nil log); written = same ∙ as_before old }

-- one line was printed
pub writes_one : (old new : Option (List ℕ)) (log later : List OutLine) (line : OutLine) → new ≡ option_map (λ taken. taken ++ text line) old → later ≡ log ++ line ∷ []
    → Writes old new log later
writes_one old new log later line now kept = record {
  since = line ∷ [];
  logged = kept;
  written = now ∙ ap (λ (t : List ℕ). option_map (λ taken. taken ++ t) old) (sym (one_text line));
}

-- ---- first these, then those
all_text : (one two : List OutLine) → text_of (one ++ two) ≡ text_of one ++ text_of two
all_text one two = flat_map-append text one two

both_taken : (a b c : Option (List ℕ)) (s t : List ℕ) → b ≡ option_map (λ taken. taken ++ s) a → c ≡ option_map (λ taken. taken ++ t) b → c ≡ option_map (λ taken. taken ++ (s ++ t)) a
both_taken None b c s t first then = then ∙ ap (option_map (λ taken. taken ++ t)) first
both_taken (Some had) b c s t first then = then ∙ ap (option_map (λ taken. taken ++ t)) first ∙ ap Some (append_assoc had s t)

pub writes_then : (a b c : Option (List ℕ)) (p q r : List OutLine) → Writes a b p q → Writes b c q r → Writes a c p r
writes_then a b c p q r one two = record {
  since = one.since ++ two.since;
  logged = two.logged ∙ ap (λ (l : List OutLine). l ++ two.since) one.logged ∙ append_assoc p one.since two.since;
  written = both_taken a b c (text_of one.since) (text_of two.since) one.written two.written
      ∙ ap (λ (t : List ℕ). option_map (λ taken. taken ++ t) a) (sym (all_text one.since two.since));
}

pub part_then : (a b c : Option (List ℕ)) (p q r : List OutLine) → Writes a b p q → WritesInPart b c q r → WritesInPart a c p r
part_then a b c p q r one two =
    let front = text_of one.since in
    let whole = all_text one.since two.since in
    record {
      since = one.since ++ two.since;
      logged = two.logged ∙ ap (λ (l : List OutLine). l ++ two.since) one.logged ∙ append_assoc p one.since two.since;
      count = length front + two.count;
      within = subst (λ (n : ℕ). length front + two.count ≤ n) (sym (ap length whole ∙ length-append front (text_of two.since))) (omega (arith, two.within));
      written = both_taken a b c front (take two.count (text_of two.since)) one.written two.written
          ∙ ap (λ (t : List ℕ). option_map (λ taken. taken ++ t) a)
          (sym (ap (take (length front + two.count)) whole ∙ take-append-add front (text_of two.since) two.count));
    }

-- one was printed in part
pub writes_part : (old new : Option (List ℕ)) (log later : List OutLine) (line : OutLine) (bytes : List ℕ) → bytes ≡ text line
    → ((n : ℕ) × (n ≤ length bytes) × (new ≡ option_map (λ taken. taken ++ take n bytes) old)) → later ≡ log ++ line ∷ [] → WritesInPart old new log later
writes_part old new log later line bytes is now kept = record {
  since = line ∷ [];
  logged = kept;
  count = now.0;
  within = subst (λ (t : List ℕ). now.0 ≤ length t) (is ∙ sym (one_text line)) now.1;
  written = now.2 ∙ ap (λ (t : List ℕ). option_map (λ taken. taken ++ take now.0 t) old) (is ∙ sym (one_text line));
}

pub part_none : (taken : Option (List ℕ)) (log : List OutLine) → WritesInPart taken taken log log
part_none taken log = record { since = []; logged = sym (append-nil log); count = 0; within = omega arith; written = as_before taken }

-- ---- the sink's count
-- Whether a write failed.
abbrev pub is_write : {T : Type 0} → Result T SwitchFault → Bool
is_write (Ok x) = false
is_write (Err NoMemory) = false
is_write (Err WriteFailed) = true

pub not_written : {T : Type 0} (r : Result T SwitchFault) → is_write r ≡ false → r ≡ Err WriteFailed → ⊥
not_written r is failed = true≢false (sym (ap is_write failed) ∙ is)

-- The answer that is this fault.
abbrev pub faulty : (T : Type 0) → SwitchFault → Result T SwitchFault
faulty T fault = Err fault

-- a fault is the same whatever the good answer would be
pub err_as : {T U : Type 0} (fault : SwitchFault) → faulty T fault ≡ Err WriteFailed → faulty U fault ≡ Err WriteFailed
err_as WriteFailed failed = refl
err_as {T} {U} NoMemory failed = absurd (not_written (faulty T NoMemory) refl failed)

module _ {T : Type 0} (before now : ℕ) where
  -- no write failed
  pub counts_steady : (r : Result T SwitchFault) → is_write r ≡ false → now ≡ before → CountsWrites before now r
  counts_steady r is same = record { failed = λ failed. absurd (not_written r is failed); steady = λ _. same }

  -- a write failed
  pub counts_rose : (r : Result T SwitchFault) → r ≡ Err WriteFailed → Rose before now → CountsWrites before now r
  counts_rose r is rose = record { failed = λ _. rose; steady = λ unwritten. absurd (unwritten is) }

  -- none had failed before
  pub counts_then : (between : ℕ) (r : Result T SwitchFault) → between ≡ before → CountsWrites between now r → CountsWrites before now r
  counts_then between r same counts = subst (λ (n : ℕ). CountsWrites n now r) same counts
