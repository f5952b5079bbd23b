-- The script of `gen` is read as its tree, in which the check finds no fault: it is not refused.
use Rattle.std.proofs.Common.{◌≡◌, ◌≤◌, ℕ, true, List, [], ◌∷◌, inl, inr, refl, sym, ap, subst, arith, leb, IsUtf8}
use Rattle.std.specs.List.{list_all}
use Rattle.std.proofs.lemmas.Bool.{and_parts, leb-true}
use Rattle.std.proofs.lemmas.List.Elements.{All-cons, All-nil}
use Rattle.do_tree.specs.Accepts.{IsScriptText, IsShallow, most_inside}
use Rattle.do_tree.specs.Lexeme.{Lexeme}
use Rattle.do_tree.specs.Faults.{IsFault, IsFaultless}
use Rattle.do_tree.specs.Tree.{Script}
use Rattle.do_parse.proofs.OneFault.{no_fault}
use Rattle.do_parse.specs.Fault.{IsWithinLimit}
use Rattle.do_check.proofs.Least.{faultless}
use Rattle.do_host.specs.GenRuns.{gen_script}
use Rattle.do_host.specs.ScriptLines.{IsRefusalLine}
use Rattle.do_host.specs.Scripts.{IsFaulty, IsRefused, IsUnread, parse_word}
use Rattle.do_host.proofs.GenTree.{gen_tokens, gen_tree, is_gen_script}
use Rattle.do_host.proofs.Spaced.{ascii_so, cut_so, lexemes_from, spans_from}

-- no token is held by more phrases than may be
abbrev is_shallow : Lexeme → Type 0
is_shallow t = t.inside ≤ most_inside

shallow_so : (ts : List Lexeme) → list_all (λ (t : Lexeme). leb t.inside most_inside) ts ≡ true → IsShallow ts
shallow_so [] h = All-nil is_shallow
shallow_so (t ∷ ts) h =
    let p = and_parts (leb t.inside most_inside) (list_all (λ (x : Lexeme). leb x.inside most_inside) ts) h in
    All-cons is_shallow t ts (leb-true t.inside most_inside p.0) (shallow_so ts p.1)

-- The text is this tree.
pub reads : IsScriptText gen_script gen_tree
reads =
    let u : IsUtf8 gen_script = ascii_so gen_script refl in
    let c = cut_so gen_script u gen_tokens (10 ∷ []) refl 0 (omega arith) refl in
    record { spans = spans_from 0 gen_tokens; cut = c.0; tokens = lexemes_from 0 gen_tokens; are = c.1; shallow = shallow_so (lexemes_from 0 gen_tokens) refl; is = is_gen_script }

-- A text that is read as a faultless tree is not refused.
module _ (text : List ℕ) (tree : Script) (short : IsWithinLimit text) (read : IsScriptText text tree) (no_fault_found : IsFaultless tree) where
  not_unread : (place : ℕ) (word : List ℕ) → IsUnread text place word → ⊥
  not_unread place word u =
      let memory = ap parse_word (no_fault text tree (record { place = place; kind = u.kind }) short read u.fault) in
      absurd (cc (memory, u.named))

  not_faulty : (place : ℕ) (word : List ℕ) → IsFaulty text place word → ⊥
  not_faulty place word f = no_fault_found place f.kind (subst (λ s. IsFault s place f.kind) (sym (f.only tree read)) f.fault.is)

  not_refused : (place : ℕ) (word : List ℕ) → IsRefused text place word → ⊥
  not_refused place word (inl u) = not_unread place word u
  not_refused place word (inr f) = not_faulty place word f

-- The check finds no fault.
pub faultless_tree : IsFaultless gen_tree
faultless_tree = faultless gen_tree refl

-- So the script of `gen` is not refused.
pub gen_not_refused : (line : List ℕ) → IsRefusalLine gen_script line → ⊥
gen_not_refused line told = not_refused gen_script gen_tree (omega arith) reads faultless_tree told.place told.word told.refused
