-- How the places of writes go on.
use Rattle.std.proofs.Common.{◌≡◌, ℕ, suc, pos, negsuc, false, List, [], ◌∷◌, ◌++◌, Some, None, unwrap_or, refl, sym, ap, ◌∙◌}
use Rattle.std.specs.declared.sync.Arc.{Arc}
use Rattle.std.specs.declared.vec.Vec.{Vec}
use Rattle.std.specs.declared.alloc.Global.{Global}
use Rattle.do_value.specs.Tree as value_tree
use Rattle.do_value.specs.declared.operator.BinOp.TheVariants.{Add, Sub}
use Rattle.do_tree.specs.Nodes.{simple_of, with_link}
use Rattle.do_tree.specs.Seen.{expr_of, write_of}
use Rattle.do_tree.specs.Tree as tree
use Rattle.do_tree.specs.declared.expr.Arg.{Arg}
use Rattle.do_tree.specs.declared.expr.Arg.TheBlock as block
use Rattle.do_tree.specs.declared.expr.Expr.{Expr}
use Rattle.do_tree.specs.declared.expr.Expr.TheVariants as node
use Rattle.do_tree.specs.declared.expr.Link.{Link}
use Rattle.do_tree.specs.declared.expr.Link.TheVariants as link
use Rattle.do_tree.specs.declared.script.Name.{Name}
use Rattle.do_tree.specs.declared.stmt.Simple.{Simple}
use Rattle.do_tree.specs.declared.stmt.Write.TheVariants as write
use Rattle.script_mean.specs.Answers.{threw}
use Rattle.script_mean.specs.Calls.{Calls}
use Rattle.script_mean.specs.Frames.{Writing, assigns, updates, moves, to_place_index, written}
use Rattle.script_mean.specs.Meaning.{place, to_place, value}
use Rattle.script_mean.specs.Places.{Root, variable, own, Step, named}
use Rattle.script_mean.specs.Turn.{Run, ends}
use Rattle.script_paths.specs.Bases.{base_of}
use Rattle.script_steps.specs.Parts.{links_in}
use Rattle.script_steps.specs.Seen.{framed, writing}

-- How many links there are.
abbrev pub how_many : tree.Links → ℕ
how_many tree.no_links = 0
how_many (tree.field n rest) = suc (how_many rest)
how_many (tree.index at e rest) = suc (how_many rest)
how_many (tree.call at args rest) = suc (how_many rest)

-- Each link counts.
counted : (x : Link) (rest : tree.Links) → how_many (with_link x rest) ≡ suc (how_many rest)
counted (block.Field n) rest = refl
counted (block.Index' at p i) rest = refl
counted (block.Call' at s args) rest = refl

pub one_more : (x : Link) (ls rest : tree.Links) → ls ≡ with_link x rest → how_many ls ≡ suc (how_many rest)
one_more x ls rest e = ap how_many e ∙ counted x rest

-- None is not the other.
none_found : (e : tree.Expr) → None ≡ Some e → ⊥
none_found e is = cc

module _ (calls : Calls) (p : Simple) where
  -- A statement that writes nothing has no place.
  pub writes_none : p.write ≡ write.Nothing → writing calls (simple_of p) ≡ ends (threw value_tree.undefined)
  writes_none e = ap (λ w. writing calls (write_of w p.at (expr_of p.place.value))) e

  -- `=`
  pub writes_value : (inner t : Arc Expr Global) → p.write ≡ write.Value inner → t.value ≡ inner.value
      → writing calls (simple_of p) ≡ place calls (expr_of p.place.value) (written calls (assigns (expr_of t.value)))
  writes_value inner t e et =
      ap (λ w. writing calls (write_of w p.at (expr_of p.place.value))) e
      ∙ ap (λ z. place calls (expr_of p.place.value) (written calls (assigns (expr_of z)))) (sym et)

  -- `+=`
  pub writes_sum : (inner t : Arc Expr Global) → p.write ≡ write.Sum inner → t.value ≡ inner.value
      → writing calls (simple_of p) ≡ place calls (expr_of p.place.value) (written calls (updates Add (expr_of t.value)))
  writes_sum inner t e et =
      ap (λ w. writing calls (write_of w p.at (expr_of p.place.value))) e
      ∙ ap (λ z. place calls (expr_of p.place.value) (written calls (updates Add (expr_of z)))) (sym et)

  -- `-=`
  pub writes_difference : (inner t : Arc Expr Global) → p.write ≡ write.Difference inner → t.value ≡ inner.value
      → writing calls (simple_of p) ≡ place calls (expr_of p.place.value) (written calls (updates Sub (expr_of t.value)))
  writes_difference inner t e et =
      ap (λ w. writing calls (write_of w p.at (expr_of p.place.value))) e
      ∙ ap (λ z. place calls (expr_of p.place.value) (written calls (updates Sub (expr_of z)))) (sym et)

  -- `++`
  pub writes_more : p.write ≡ write.OneMore → writing calls (simple_of p) ≡ place calls (expr_of p.place.value) (written calls (moves (pos 1)))
  writes_more e = ap (λ w. writing calls (write_of w p.at (expr_of p.place.value))) e

  -- `--`
  pub writes_less : p.write ≡ write.OneLess → writing calls (simple_of p) ≡ place calls (expr_of p.place.value) (written calls (moves (negsuc 0)))
  writes_less e = ap (λ w. writing calls (write_of w p.at (expr_of p.place.value))) e

module _ (calls : Calls) (w : Writing) where
  -- A variable is a place.
  pub variable_found : (x : Expr) (n : Name) (name : List ℕ) (ss : List Step) → x ≡ node.Variable n → name ≡ n.text → ss ≡ []
      → place calls (expr_of x) (written calls w) ≡ written calls w (variable name) ss
  variable_found x n name ss e en es =
      ap (λ z. place calls (expr_of z) (written calls w)) e ∙ ap (λ z. written calls w (variable z) []) (sym en) ∙ ap (written calls w (variable name)) (sym es)

  -- So is a path, by what it begins with.
  pub path_found : (e base : tree.Expr) (part : Run) → base_of e ≡ Some base
      → ((at : ℕ) → place calls (tree.path at base (links_in e 0)) (written calls w) ≡ part)
      → place calls e (written calls w) ≡ part
  path_found (tree.choice at test a b) base part is p = absurd (none_found base is)
  path_found (tree.lazy at k a es) base part is p = absurd (none_found base is)
  path_found (tree.strict at a os) base part is p = absurd (none_found base is)
  path_found (tree.unary at o a) base part is p = absurd (none_found base is)
  path_found (tree.await at a) base part is p = absurd (none_found base is)
  path_found (tree.path at a ls) base part is p = ap (λ z. place calls (tree.path at z ls) (written calls w)) (ap (λ o. unwrap_or o a) is) ∙ p at
  path_found (tree.number at z) base part is p = absurd (none_found base is)
  path_found (tree.text at t) base part is p = absurd (none_found base is)
  path_found (tree.boolean at t) base part is p = absurd (none_found base is)
  path_found (tree.null at) base part is p = absurd (none_found base is)
  path_found (tree.undefined at) base part is p = absurd (none_found base is)
  path_found (tree.this at) base part is p = absurd (none_found base is)
  path_found (tree.variable n) base part is p = absurd (none_found base is)
  path_found (tree.group at a) base part is p = absurd (none_found base is)
  path_found (tree.list at es) base part is p = absurd (none_found base is)
  path_found (tree.rec at ps) base part is p = absurd (none_found base is)
  path_found (tree.new_error at m) base part is p = absurd (none_found base is)

  -- Nothing else is.
  pub nothing_found : (x : Expr) → ((n : Name) → x ≡ node.Variable n → ⊥) → base_of (expr_of x) ≡ None
      → place calls (expr_of x) (written calls w) ≡ ends (threw value_tree.undefined)
  nothing_found (block.Choice' at p1 a p2 b p3 c) v none = refl
  nothing_found (block.Lazy' at k p1 a s1 es) v none = refl
  nothing_found (block.Strict' at p1 a s1 os) v none = refl
  nothing_found (block.Unary' at o p1 a) v none = refl
  nothing_found (block.Await' at p1 a) v none = refl
  nothing_found (block.Path' at p1 a s1 ls) v none = absurd (none_found (expr_of a) (sym none))
  nothing_found (block.Number at z) v none = refl
  nothing_found (block.Text at t) v none = refl
  nothing_found (block.Bool at b) v none = refl
  nothing_found (block.Null at) v none = refl
  nothing_found (block.Undefined at) v none = refl
  nothing_found (block.This at) v none = refl
  nothing_found (block.Variable n) v none = absurd (v n refl)
  nothing_found (block.Group' at p1 a) v none = refl
  nothing_found (block.List' at s1 es) v none = refl
  nothing_found (block.Record' at s1 ps) v none = refl
  nothing_found (block.NewError' at m) v none = refl

  -- A path that begins with a variable.
  pub base_variable : (x : Expr) (n : Name) (at : ℕ) (nd t : Expr) (name : List ℕ) (ss : List Step) → x ≡ node.Variable n → t ≡ nd → name ≡ n.text → ss ≡ []
      → place calls (tree.path at (expr_of x) (links_in (expr_of nd) 0)) (written calls w)
      ≡ to_place calls (variable name) ss (links_in (expr_of t) 0) (written calls w (variable name))
  base_variable x n at nd t name ss e et en es =
      ap (λ z. place calls (tree.path at (expr_of z) (links_in (expr_of nd) 0)) (written calls w)) e
      ∙ ap (λ z. to_place calls (variable n.text) [] (links_in (expr_of z) 0) (written calls w (variable n.text))) (sym et)
      ∙ ap (λ z. to_place calls (variable z) [] (links_in (expr_of t) 0) (written calls w (variable z))) (sym en)
      ∙ ap (λ z. to_place calls (variable name) z (links_in (expr_of t) 0) (written calls w (variable name))) (sym es)

  -- One that begins with the object itself.
  pub base_this : (x : Expr) (own_at at : ℕ) (ls : tree.Links) (part : Run) → x ≡ node.This own_at
      → place calls (tree.path at (tree.this own_at) ls) (written calls w) ≡ part
      → place calls (tree.path at (expr_of x) ls) (written calls w) ≡ part
  base_this x own_at at ls part e p = ap (λ z. place calls (tree.path at (expr_of z) ls) (written calls w)) e ∙ p

  -- One that begins with anything else is no place.
  pub base_other : (x : Expr) (at : ℕ) (ls : tree.Links) → ((n : Name) → x ≡ node.Variable n → ⊥) → ((own_at : ℕ) → x ≡ node.This own_at → ⊥)
      → place calls (tree.path at (expr_of x) ls) (written calls w) ≡ ends (threw value_tree.undefined)
  base_other (block.Choice' at p1 a p2 b p3 c) i ls v t = refl
  base_other (block.Lazy' at k p1 a s1 es) i ls v t = refl
  base_other (block.Strict' at p1 a s1 os) i ls v t = refl
  base_other (block.Unary' at o p1 a) i ls v t = refl
  base_other (block.Await' at p1 a) i ls v t = refl
  base_other (block.Path' at p1 a s1 ks) i ls v t = refl
  base_other (block.Number at z) i ls v t = refl
  base_other (block.Text at s) i ls v t = refl
  base_other (block.Bool at b) i ls v t = refl
  base_other (block.Null at) i ls v t = refl
  base_other (block.Undefined at) i ls v t = refl
  base_other (block.This at) i ls v t = absurd (t at refl)
  base_other (block.Variable n) i ls v t = absurd (v n refl)
  base_other (block.Group' at p1 a) i ls v t = refl
  base_other (block.List' at s1 es) i ls v t = refl
  base_other (block.Record' at s1 ps) i ls v t = refl
  base_other (block.NewError' at m) i ls v t = refl

  -- The place begins with a field of the object itself.
  pub own_found : (at own_at : ℕ) (x : Link) (n : Name) (ls rest later : tree.Links) (name : List ℕ) (ss : List Step)
      → ls ≡ with_link x rest → x ≡ link.Field n → later ≡ rest → name ≡ n.text → ss ≡ []
      → place calls (tree.path at (tree.this own_at) ls) (written calls w) ≡ to_place calls (own name) ss later (written calls w (own name))
  own_found at own_at x n ls rest later name ss e is el en es =
      ap (λ z. place calls (tree.path at (tree.this own_at) z) (written calls w)) (e ∙ ap (λ z. with_link z rest) is)
      ∙ ap (λ z. to_place calls (own n.text) [] z (written calls w (own n.text))) (sym el)
      ∙ ap (λ z. to_place calls (own z) [] later (written calls w (own z))) (sym en)
      ∙ ap (λ z. to_place calls (own name) z later (written calls w (own name))) (sym es)

  -- An item of the object itself is no place,
  pub own_index : (at own_at i : ℕ) (x : Link) (t : Arc Expr Global) (ls rest : tree.Links) → ls ≡ with_link x rest → x ≡ link.Index i t
      → place calls (tree.path at (tree.this own_at) ls) (written calls w) ≡ ends (threw value_tree.undefined)
  own_index at own_at i x t ls rest e is = ap (λ z. place calls (tree.path at (tree.this own_at) z) (written calls w)) (e ∙ ap (λ z. with_link z rest) is)

  -- nor is a call of it,
  pub own_call : (at own_at i : ℕ) (x : Link) (args : Vec Arg Global) (ls rest : tree.Links) → ls ≡ with_link x rest → x ≡ link.Call i args
      → place calls (tree.path at (tree.this own_at) ls) (written calls w) ≡ ends (threw value_tree.undefined)
  own_call at own_at i x args ls rest e is = ap (λ z. place calls (tree.path at (tree.this own_at) z) (written calls w)) (e ∙ ap (λ z. with_link z rest) is)

  -- nor the object itself.
  pub own_none : (at own_at : ℕ) (ls : tree.Links) → ls ≡ tree.no_links
      → place calls (tree.path at (tree.this own_at) ls) (written calls w) ≡ ends (threw value_tree.undefined)
  own_none at own_at ls e = ap (λ z. place calls (tree.path at (tree.this own_at) z) (written calls w)) e

module _ (calls : Calls) (root : Root) (ss : List Step) where
  -- A field is a step of the place.
  pub field_goes : (x : Link) (n : Name) (ls rest : tree.Links) (more : List Step) (done : List Step → Run)
      → ls ≡ with_link x rest → x ≡ link.Field n → more ≡ ss ++ named n.text ∷ []
      → to_place calls root ss ls done ≡ to_place calls root more rest done
  field_goes x n ls rest more done e is em =
      ap (λ z. to_place calls root ss z done) (e ∙ ap (λ z. with_link z rest) is) ∙ ap (λ z. to_place calls root z rest done) (sym em)

  -- An index is evaluated.
  pub index_goes : (w again : Writing) (begins : Root) (at : ℕ) (x : Link) (inner t : Arc Expr Global) (ls rest : tree.Links)
      → ls ≡ with_link x rest → x ≡ link.Index at inner → t.value ≡ inner.value → again ≡ w → begins ≡ root
      → to_place calls root ss ls (written calls w root) ≡ framed calls (to_place_index again begins ss rest) (value false calls (expr_of t.value))
  index_goes w again begins at x inner t ls rest e is et ew er =
      ap (λ z. to_place calls root ss z (written calls w root)) (e ∙ ap (λ z. with_link z rest) is)
      ∙ ap (λ z. framed calls (to_place_index w root ss rest) (value false calls (expr_of z))) (sym et)
      ∙ ap (λ z. framed calls (to_place_index z root ss rest) (value false calls (expr_of t.value))) (sym ew)
      ∙ ap (λ z. framed calls (to_place_index again z ss rest) (value false calls (expr_of t.value))) (sym er)

  -- A call is no place.
  pub call_stops : (at : ℕ) (x : Link) (args : Vec Arg Global) (ls rest : tree.Links) (done : List Step → Run) → ls ≡ with_link x rest → x ≡ link.Call at args
      → to_place calls root ss ls done ≡ ends (threw value_tree.undefined)
  call_stops at x args ls rest done e is = ap (λ z. to_place calls root ss z done) (e ∙ ap (λ z. with_link z rest) is)

  -- Behind the last link the place is found.
  pub place_ends : (w again : Writing) (begins : Root) (ls : tree.Links) → ls ≡ tree.no_links → again ≡ w → begins ≡ root
      → to_place calls root ss ls (written calls w root) ≡ written calls again begins ss
  place_ends w again begins ls e ew er =
      ap (λ z. to_place calls root ss z (written calls w root)) e ∙ ap (λ z. written calls z root ss) (sym ew) ∙ ap (λ z. written calls again z ss) (sym er)
