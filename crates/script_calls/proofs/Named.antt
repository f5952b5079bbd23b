-- Calls by their names.
use Rattle.std.proofs.Common.{◌≡◌, List, Option, Some, None, option_map, ap, sym, ◌∙◌}
use Rattle.do_value.specs.Tree.{Tree}
use Rattle.script_mean.specs.Meaning.{with_call}
use Rattle.script_mean.specs.Turn.{Run, nowhere}

-- A call of a name that has one.
pub named : {A : Type 0} (f : A → List Tree → Run) (o found : Option A) (c : A) (args : List Tree) → found ≡ o → found ≡ Some c → with_call f o args ≡ f c args
named f o found c args same some = ap (λ x. with_call f x args) (sym same ∙ some)

-- A name that has none.
pub unnamed : {A : Type 0} (f : A → List Tree → Run) (o found : Option A) (args : List Tree) → found ≡ o → found ≡ None → with_call f o args ≡ nowhere
unnamed f o found args same none = ap (λ x. with_call f x args) (sym same ∙ none)

-- The same where the name is found in the words of the code.
pub word_named : {A B : Type 0} (f : A → List Tree → Run) (g : B → A) (o : Option A) (found : Option B) (c : B) (args : List Tree) → option_map g found ≡ o → found ≡ Some c
    → with_call f o args ≡ f (g c) args
word_named f g o found c args same some = ap (λ x. with_call f x args) (sym same ∙ ap (option_map g) some)

pub word_unnamed : {A B : Type 0} (f : A → List Tree → Run) (g : B → A) (o : Option A) (found : Option B) (args : List Tree) → option_map g found ≡ o → found ≡ None
    → with_call f o args ≡ nowhere
word_unnamed f g o found args same none = ap (λ x. with_call f x args) (sym same ∙ ap (option_map g) none)
