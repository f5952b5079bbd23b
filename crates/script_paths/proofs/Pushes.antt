-- How the places of pushes go on.
use Rattle.std.proofs.Common.{◌≡◌, ℕ, zero, suc, ◌+◌, true, false, List, [], ◌∷◌, ◌++◌, refl, sym, ap, ◌∙◌, arith}
use Rattle.std.proofs.lemmas.Bool.{false≢true}
use Rattle.std.specs.declared.sync.Arc.{Arc}
use Rattle.std.specs.declared.vec.Vec.{Vec}
use Rattle.std.specs.declared.alloc.Global.{Global}
use Rattle.do_value.specs.Tree.{Tree}
use Rattle.do_value.specs.Tree as value_tree
use Rattle.do_tree.specs.Nodes.{with_link}
use Rattle.do_tree.specs.Seen.{expr_of, named_of}
use Rattle.do_tree.specs.Tree as tree
use Rattle.do_tree.specs.declared.expr.Arg.{Arg}
use Rattle.do_tree.specs.declared.expr.Expr.{Expr}
use Rattle.do_tree.specs.declared.expr.Link.{Link}
use Rattle.do_tree.specs.declared.expr.Link.TheVariants as link
use Rattle.do_tree.specs.declared.script.Name.{Name}
use Rattle.script_mean.specs.Answers.{threw}
use Rattle.script_mean.specs.Calls.{Calls}
use Rattle.script_mean.specs.Frames.{called, of_place, to_push_index, to_walk}
use Rattle.script_mean.specs.Meaning.{arguments, to_push, value}
use Rattle.script_mean.specs.Paths.{is_called, parts, parts_behind_call}
use Rattle.script_mean.specs.Places.{Root, Step, named}
use Rattle.script_mean.specs.Turn.{Run, ends}
use Rattle.script_paths.specs.Pushed.{pushed}
use Rattle.script_steps.specs.Parts.{args_in, links_from, links_in, links_of}
use Rattle.script_steps.specs.Seen.{framed}

-- The links behind one place more.
further : (n : ℕ) (ls : tree.Links) → links_from (suc n) ls ≡ links_from 1 (links_from n ls)
further zero ls = refl
further (suc n) tree.no_links = refl
further (suc n) (tree.field name ls) = further n ls
further (suc n) (tree.index at e ls) = further n ls
further (suc n) (tree.call at args ls) = further n ls

-- The same of a node.
pub behind : (e : tree.Expr) (n : ℕ) → links_in e (n + 1) ≡ links_from 1 (links_in e n)
behind e n = let same : n + 1 ≡ suc n = omega arith in ap (λ k. links_in e k) same ∙ further n (links_of e)

-- Behind a call there are the parts of what follows it.
call_parts : (ls : tree.Links) → is_called ls ≡ true → parts_behind_call ls ≡ parts (links_from 1 ls)
call_parts tree.no_links c = absurd (false≢true c)
call_parts (tree.field n ls) c = absurd (false≢true c)
call_parts (tree.index at e ls) c = absurd (false≢true c)
call_parts (tree.call at args ls) c = refl

-- A field is no call.
pub field_parts : (x : Link) (n : Name) (ls rest : tree.Links) → ls ≡ with_link x rest → x ≡ link.Field n → parts_behind_call ls ≡ parts_behind_call rest
field_parts x n ls rest e is = ap parts_behind_call (e ∙ ap (λ z. with_link z rest) is)

-- A field and its call.
pub called_parts : (x : Link) (n : Name) (ls rest : tree.Links) → ls ≡ with_link x rest → x ≡ link.Field n → is_called rest ≡ true
    → parts_behind_call ls ≡ parts (links_from 1 rest)
called_parts x n ls rest e is c = field_parts x n ls rest e is ∙ call_parts rest c

-- An index is no call.
pub index_parts : (at : ℕ) (x : Link) (inner : Arc Expr Global) (ls rest : tree.Links) → ls ≡ with_link x rest → x ≡ link.Index at inner
    → parts_behind_call ls ≡ parts_behind_call rest
index_parts at x inner ls rest e is = ap parts_behind_call (e ∙ ap (λ z. with_link z rest) is)

module _ (calls : Calls) (root : Root) (ss : List Step) where
  -- A field that no call follows is a step of the place,
  field_passes : (n : tree.Named) (rest : tree.Links) → is_called rest ≡ false → to_push calls root ss (tree.field n rest) ≡ to_push calls root (ss ++ named n.text ∷ []) rest
  field_passes n tree.no_links c = refl
  field_passes n (tree.field m ls) c = refl
  field_passes n (tree.index at e ls) c = refl
  field_passes n (tree.call at args ls) c = absurd (false≢true (sym c))

  -- The same of the link that was found.
  pub field_goes : (x : Link) (n : Name) (ls rest : tree.Links) (more : List Step) → ls ≡ with_link x rest → x ≡ link.Field n → is_called rest ≡ false
      → more ≡ ss ++ named n.text ∷ [] → to_push calls root ss ls ≡ to_push calls root more rest
  field_goes x n ls rest more e is c em =
      ap (to_push calls root ss) (e ∙ ap (λ z. with_link z rest) is) ∙ field_passes (named_of n) rest c ∙ ap (λ z. to_push calls root z rest) (sym em)

  -- and one that a call follows is that of the push.
  field_calls : (n : tree.Named) (rest : tree.Links) → is_called rest ≡ true → to_push calls root ss (tree.field n rest) ≡ pushed calls root ss rest
  field_calls n tree.no_links c = absurd (false≢true c)
  field_calls n (tree.field m ls) c = absurd (false≢true c)
  field_calls n (tree.index at e ls) c = absurd (false≢true c)
  field_calls n (tree.call at args ls) c = refl

  -- The same of the link that was found.
  pub call_goes : (begins : Root) (x : Link) (n : Name) (ls rest : tree.Links) → ls ≡ with_link x rest → x ≡ link.Field n → is_called rest ≡ true → begins ≡ root
      → to_push calls root ss ls ≡ pushed calls begins ss rest
  call_goes begins x n ls rest e is c er =
      ap (to_push calls root ss) (e ∙ ap (λ z. with_link z rest) is) ∙ field_calls (named_of n) rest c ∙ ap (λ z. pushed calls z ss rest) (sym er)

  -- The arguments of the push are evaluated.
  pub call_begins : (x y : Expr) (n : ℕ) (got : List Tree) → y ≡ x → got ≡ []
      → pushed calls root ss (links_in (expr_of x) n)
      ≡ framed calls (to_walk false (links_in (expr_of y) (n + 1))) (arguments calls (args_in (expr_of x) n 0) got (called calls (of_place root ss)))
  call_begins x y n got e none =
      let part : List Tree → Run = λ vs. arguments calls (args_in (expr_of x) n 0) vs (called calls (of_place root ss)) in
      ap (λ ls. framed calls (to_walk false ls) (part [])) (sym (behind (expr_of x) n))
      ∙ ap (λ z. framed calls (to_walk false (links_in (expr_of z) (n + 1))) (part [])) (sym e)
      ∙ ap (λ vs. framed calls (to_walk false (links_in (expr_of y) (n + 1))) (part vs)) (sym none)

  -- An index is evaluated.
  pub index_goes : (begins : Root) (at : ℕ) (x : Link) (inner t : Arc Expr Global) (ls rest : tree.Links)
      → ls ≡ with_link x rest → x ≡ link.Index at inner → t.value ≡ inner.value → begins ≡ root
      → to_push calls root ss ls ≡ framed calls (to_push_index begins ss rest) (value false calls (expr_of t.value))
  index_goes begins at x inner t ls rest e is et er =
      ap (to_push calls root ss) (e ∙ ap (λ z. with_link z rest) is)
      ∙ ap (λ z. framed calls (to_push_index root ss rest) (value false calls (expr_of z))) (sym et)
      ∙ ap (λ z. framed calls (to_push_index z ss rest) (value false calls (expr_of t.value))) (sym er)

  -- A call of no field is no push.
  pub call_stops : (at : ℕ) (x : Link) (args : Vec Arg Global) (ls rest : tree.Links) → ls ≡ with_link x rest → x ≡ link.Call at args
      → to_push calls root ss ls ≡ ends (threw value_tree.undefined)
  call_stops at x args ls rest e is = ap (to_push calls root ss) (e ∙ ap (λ z. with_link z rest) is)

  -- Without a call there is no push.
  pub none_stops : (ls : tree.Links) → ls ≡ tree.no_links → to_push calls root ss ls ≡ ends (threw value_tree.undefined)
  none_stops ls e = ap (to_push calls root ss) e
