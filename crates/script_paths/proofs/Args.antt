-- How arguments go on, one after another.
use Rattle.std.proofs.Common.{◌≡◌, ℕ, suc, false, List, refl, sym, ap, ◌∙◌}
use Rattle.std.specs.declared.sync.Arc.{Arc}
use Rattle.std.specs.declared.alloc.Global.{Global}
use Rattle.do_tree.proofs.Rows.{seen_arg}
use Rattle.do_tree.specs.Nodes.{with_arg}
use Rattle.do_tree.specs.Seen.{expr_of}
use Rattle.do_tree.specs.Tree as tree
use Rattle.do_tree.specs.declared.expr.Arg.{Arg}
use Rattle.do_tree.specs.declared.expr.Arg.TheBlock as block
use Rattle.do_tree.specs.declared.expr.Arg.TheVariants as arg
use Rattle.do_tree.specs.declared.expr.Callback.{Callback}
use Rattle.do_tree.specs.declared.expr.Expr.{Expr}
use Rattle.do_value.specs.Tree.{Tree}
use Rattle.script_mean.specs.Calls.{Calls}
use Rattle.script_mean.specs.Frames.{Callee, called, to_call}
use Rattle.script_mean.specs.Meaning.{arguments, value}
use Rattle.script_mean.specs.Turn.{Run}
use Rattle.script_steps.specs.Seen.{framed}

-- How many arguments there are.
abbrev pub how_many : tree.Args → ℕ
how_many tree.no_args = 0
how_many (tree.value_arg e rest) = suc (how_many rest)
how_many (tree.callback at n is rest) = suc (how_many rest)

-- A value is evaluated.
pub value_goes : (calls : Calls) (callee again : Callee) (got : List Tree) (x : Arg) (inner t : Arc Expr Global) (args rest : tree.Args)
    → args ≡ with_arg x rest → x ≡ arg.Value inner → t.value ≡ inner.value → again ≡ callee
    → arguments calls args got (called calls callee) ≡ framed calls (to_call again got rest) (value false calls (expr_of t.value))
value_goes calls callee again got x inner t args rest e is et ec =
    ap (λ z. arguments calls z got (called calls callee)) (e ∙ ap (λ z. with_arg z rest) is)
    ∙ ap (λ z. framed calls (to_call callee got rest) (value false calls (expr_of z))) (sym et)
    ∙ ap (λ z. framed calls (to_call z got rest) (value false calls (expr_of t.value))) (sym ec)

-- A callback is passed over.
pub callback_goes : (x : Arg) (c : Arc Callback Global) (args rest : tree.Args) → args ≡ with_arg x rest → x ≡ arg.Callback c
    → (calls : Calls) (got : List Tree) (call : List Tree → Run) → arguments calls args got call ≡ arguments calls rest got call
callback_goes x c args rest e is calls got call =
    ap (λ z. arguments calls z got call) (e ∙ ap (λ z. with_arg z rest) is ∙ seen_arg c rest)

-- Each argument counts.
counted : (x : Arg) (rest : tree.Args) → how_many (with_arg x rest) ≡ suc (how_many rest)
counted (block.Arg::Value' p v) rest = refl
counted (block.Callback' p (block.struct-Callback at m q b s body)) rest = refl

pub one_more : (x : Arg) (args rest : tree.Args) → args ≡ with_arg x rest → how_many args ≡ suc (how_many rest)
one_more x args rest e = ap how_many e ∙ counted x rest

-- Behind the last the call is made.
pub none_goes : (calls : Calls) (callee again : Callee) (got : List Tree) (args : tree.Args) → args ≡ tree.no_args → again ≡ callee
    → arguments calls args got (called calls callee) ≡ called calls again got
none_goes calls callee again got args e ec = ap (λ z. arguments calls z got (called calls callee)) e ∙ ap (λ z. called calls z got) (sym ec)
