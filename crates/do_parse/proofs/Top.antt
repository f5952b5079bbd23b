-- The parser's answer as the answer of the call.
use Rattle.std.proofs.Common.{◌≡◌, ◌<◌, ℕ, List, [], ◌∷◌, ◌++◌, map, Option, Some, None, Result, Ok, Err, inl, inr, refl, sym, ◌∙◌, ap, subst}
use Rattle.std.specs.Prelude.{slice_range}
use Rattle.do_lex.proofs.OneAnswer.{one_cut}
use Rattle.do_lex.specs.Cursor.{span_of}
use Rattle.do_lex.specs.declared.fault.LexFault.{LexFault}
use Rattle.do_lex.specs.declared.fault.LexFault.TheVariants as lex
use Rattle.do_lex.specs.declared.tokens.Token.{Token}
use Rattle.do_lex.specs.Ending.{end_of_text}
use Rattle.do_tree.specs.Accepts.{IsTokenFault, IsScriptText, EndsEarly}
use Rattle.do_tree.specs.Tree.{Script}
use Rattle.do_parse.specs.Cuts.{AreSlices, IsLexed}
use Rattle.do_parse.specs.Fault.{IsFault, IsNestedTooFar, IsWithinLimit, of_token, wrong_at}
use Rattle.do_parse.specs.Parsed.{Parses}
use Rattle.do_parse.specs.Pieces.{IsWhole, NothingLeft}
use Rattle.do_parse.specs.Starts.{at_next, place_next}
use Rattle.do_parse.specs.declared.fault.ParseKind.TheVariants as kind
use Rattle.do_parse.specs.declared.stop.Stop.TheVariants.{Unexpected, TooNested}
use Rattle.do_parse.proofs.Whole.{accepted, only_script, unexpected_at, ends_early, nested_at, fault_behind, fault_early}

pub token_fault : (text : List ℕ) (f : LexFault) → IsWithinLimit text → IsTokenFault text f → IsFault text (of_token f)
token_fault text (lex.BadChar at) w h = (w, h)
token_fault text (lex.OpenText at) w h = (w, h)
token_fault text (lex.LongNumber at) w h = (w, h)

pub top_unexpected : (text : List ℕ) (tokens left : List Token) (last : Option LexFault) (end : ℕ) → IsWithinLimit text → end ≡ end_of_text text → IsLexed text tokens last
    → Parses IsWhole NothingLeft tokens left (Err Unexpected) → IsFault text (wrong_at (at_next left) last end)
top_unexpected text tokens (t ∷ rest) last end w h l p = (w, inl (unexpected_at text tokens rest t last l p))
top_unexpected text tokens [] (Some f) end w h l p = token_fault text f w (fault_early text tokens f l p)
top_unexpected text tokens [] None end w h l p = (w, inr (subst (λ at. EndsEarly text at) (sym h) (ends_early text tokens l p)))

place_of : (left : List Token) (t : Token) (rest : List Token) → left ≡ t ∷ rest → t.at ≡ place_next left
place_of left t rest h = sym (ap place_next h)

pub top_nested : (text : List ℕ) (tokens left : List Token) (last : Option LexFault) → IsWithinLimit text → IsLexed text tokens last → Parses IsWhole NothingLeft tokens left (Err TooNested) → IsFault text (record { place = place_next left; kind = kind.TooNested })
top_nested text tokens left last w l p = (w, subst (λ at. IsNestedTooFar text at) (place_of left p.so.token p.so.rest p.so.next) (nested_at text tokens left last l p))

pub top_behind : (text : List ℕ) (tokens left : List Token) (s : Script) (f : LexFault) → IsWithinLimit text → IsLexed text tokens (Some f) → left ≡ [] → Parses IsWhole NothingLeft tokens left (Ok s) → IsFault text (of_token f)
top_behind text tokens left s f w l h p = token_fault text f w (fault_behind text tokens s f l (subst (λ xs. Parses IsWhole NothingLeft tokens xs (Ok s)) h p))

-- one token more is cut
pub slices_more : (text : List ℕ) (ts : List Token) (t : Token) → AreSlices text ts → t.text.now ≡ slice_range text t.at t.end → AreSlices text (ts ++ t ∷ [])
slices_more text [] t s h = (h, tt)
slices_more text (x ∷ ts) t s h = (s.0, slices_more text ts t s.1 h)

-- The same with the tokens as the parser got them.
pub top_accepts : (text : List ℕ) (tokens start left : List Token) (last : Option LexFault) (s : Script) → IsLexed text tokens last → last ≡ None → start ≡ tokens → left ≡ [] → Parses IsWhole NothingLeft start left (Ok s) → IsScriptText text s
top_accepts text tokens start left last s l h e n p =
    accepted text tokens s (subst (λ x. IsLexed text tokens x) h l) (subst (λ x. Parses IsWhole NothingLeft x [] (Ok s)) e (subst (λ x. Parses IsWhole NothingLeft start x (Ok s)) n p))

pub top_only : (text : List ℕ) (tokens start left : List Token) (last : Option LexFault) (s other : Script) → IsLexed text tokens last → last ≡ None → start ≡ tokens → left ≡ [] → Parses IsWhole NothingLeft start left (Ok s) → IsScriptText text other → other ≡ s
top_only text tokens start left last s other l h e n p o =
    only_script text tokens s other (subst (λ x. IsLexed text tokens x) h l) (subst (λ x. Parses IsWhole NothingLeft x [] (Ok s)) e (subst (λ x. Parses IsWhole NothingLeft start x (Ok s)) n p)) (λ xs ys a b c d. one_cut text 0 xs ys a b c d) o

pub top_fault : (text : List ℕ) (tokens start left : List Token) (last : Option LexFault) (f : LexFault) (s : Script) → IsWithinLimit text → IsLexed text tokens last → last ≡ Some f → start ≡ tokens → left ≡ [] → Parses IsWhole NothingLeft start left (Ok s) → IsFault text (of_token f)
top_fault text tokens start left last f s w l h e n p = top_behind text tokens left s f w (subst (λ x. IsLexed text tokens x) h l) n (subst (λ x. Parses IsWhole NothingLeft x left (Ok s)) e p)
