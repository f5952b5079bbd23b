use Rattle.std.proofs.Common.{ℕ, ◌+◌, ◌*◌, length}
use Rattle.do_lex.specs.declared.kind.Kind.TheVariants as kind
use Rattle.do_lex.specs.declared.kind.Mark.TheVariants as mark
use Rattle.do_tree.specs.Grammar.{IsExpr}
use Rattle.do_parse.specs.Chained.{behind_chain}
use Rattle.do_parse.specs.Follow.{behind_strict, behind_un}
use Rattle.do_parse.specs.Levels.{level_of, tighter_levels}
use Rattle.do_parse.specs.Lists.{BeginsWith, CommaList, Repeat, IsItem, IsLink, IsNextOperand, IsOneArg, IsOnePair, IsOperand}
use Rattle.do_parse.specs.Parsed.{ends_by}
use Rattle.do_parse.specs.Ranks.{chain_levels, left_at}
use Rattle.do_parse.specs.Trees.{args_at, exprs_at, items_at, links_at, operands_at, pairs_at}
use Rattle.do_parse.proofs.Lists.{Grows}
use Rattle.do_parse.proofs.cursor.Cursor.+parser.Given as goal

abbrev pub decreases-arg : goal.decreases-arg
decreases-arg l = left_at l.depth 53

abbrev pub decreases-args : goal.decreases-args
decreases-args l = left_at l.depth 54

abbrev pub decreases-awaiting : goal.decreases-awaiting
decreases-awaiting l = left_at l.depth 59

abbrev pub decreases-block : goal.decreases-block
decreases-block l = left_at l.depth 40

abbrev pub decreases-block_stmt : goal.decreases-block_stmt
decreases-block_stmt l = left_at l.depth 90

abbrev pub decreases-call : goal.decreases-call
decreases-call l = left_at l.depth 55

abbrev pub decreases-callback : goal.decreases-callback
decreases-callback l = left_at l.depth 52

abbrev pub decreases-choice : goal.decreases-choice
decreases-choice l = left_at l.depth 34

abbrev pub decreases-declaration : goal.decreases-declaration
decreases-declaration l = left_at l.depth 37

abbrev pub decreases-either : goal.decreases-either
decreases-either l = left_at l.depth 29

abbrev pub decreases-else_part : goal.decreases-else_part
decreases-else_part l = left_at l.depth 89

abbrev pub decreases-expr : goal.decreases-expr
decreases-expr l = left_at l.depth 35

abbrev pub decreases-expr_then : goal.decreases-expr_then
decreases-expr_then l = left_at l.depth 88

abbrev pub decreases-exprs : goal.decreases-exprs
decreases-exprs l = left_at l.depth 55

abbrev pub decreases-for_of_rest : goal.decreases-for_of_rest
decreases-for_of_rest l = left_at l.depth 89

abbrev pub decreases-for_rest : goal.decreases-for_rest
decreases-for_rest l = left_at l.depth 89

abbrev pub decreases-for_stmt : goal.decreases-for_stmt
decreases-for_stmt l = left_at l.depth 90

abbrev pub decreases-group : goal.decreases-group
decreases-group l = left_at l.depth 56

abbrev pub decreases-if_stmt : goal.decreases-if_stmt
decreases-if_stmt l = left_at l.depth 90

abbrev pub decreases-in_parens : goal.decreases-in_parens
decreases-in_parens l = left_at l.depth 89

abbrev pub decreases-index : goal.decreases-index
decreases-index l = left_at l.depth 55

abbrev pub decreases-initial : goal.decreases-initial
decreases-initial l = left_at l.depth 36

abbrev pub decreases-item : goal.decreases-item
decreases-item l = left_at l.depth 38

abbrev pub decreases-items : goal.decreases-items
decreases-items l = left_at l.depth 39

abbrev pub decreases-keyword_pair : goal.decreases-keyword_pair
decreases-keyword_pair l = left_at l.depth 53

abbrev pub decreases-link : goal.decreases-link
decreases-link l = left_at l.depth 56

abbrev pub decreases-links : goal.decreases-links
decreases-links l = left_at l.depth 57

abbrev pub decreases-list : goal.decreases-list
decreases-list l = left_at l.depth 56

abbrev pub decreases-name_pair : goal.decreases-name_pair
decreases-name_pair l = left_at l.depth 53

abbrev pub decreases-negative : goal.decreases-negative
decreases-negative l = left_at l.depth 59

abbrev pub decreases-new_error : goal.decreases-new_error
decreases-new_error l = left_at l.depth 56

abbrev pub decreases-opposite : goal.decreases-opposite
decreases-opposite l = left_at l.depth 59

abbrev pub decreases-option_expr : goal.decreases-option_expr
decreases-option_expr l = left_at l.depth 55

abbrev pub decreases-option_value : goal.decreases-option_value
decreases-option_value l = left_at l.depth 52

abbrev pub decreases-pair : goal.decreases-pair
decreases-pair l = left_at l.depth 54

abbrev pub decreases-pair_value : goal.decreases-pair_value
decreases-pair_value l = left_at l.depth 51

abbrev pub decreases-pairs : goal.decreases-pairs
decreases-pairs l = left_at l.depth 55

abbrev pub decreases-post : goal.decreases-post
decreases-post l = left_at l.depth 58

abbrev pub decreases-prim : goal.decreases-prim
decreases-prim l = left_at l.depth 57

abbrev pub decreases-record : goal.decreases-record
decreases-record l = left_at l.depth 56

abbrev pub decreases-return_stmt : goal.decreases-return_stmt
decreases-return_stmt l = left_at l.depth 90

abbrev pub decreases-short : goal.decreases-short
decreases-short l = left_at l.depth 30

abbrev pub decreases-simple : goal.decreases-simple
decreases-simple l = left_at l.depth 87

abbrev pub decreases-simple_stmt : goal.decreases-simple_stmt
decreases-simple_stmt l = left_at l.depth 90

abbrev pub decreases-stmt : goal.decreases-stmt
decreases-stmt l = left_at l.depth 100

abbrev pub decreases-text_pair : goal.decreases-text_pair
decreases-text_pair l = left_at l.depth 53

abbrev pub decreases-throw_stmt : goal.decreases-throw_stmt
decreases-throw_stmt l = left_at l.depth 90

abbrev pub decreases-try_stmt : goal.decreases-try_stmt
decreases-try_stmt l = left_at l.depth 90

abbrev pub decreases-un : goal.decreases-un
decreases-un l = left_at l.depth 60

abbrev pub decreases-while_stmt : goal.decreases-while_stmt
decreases-while_stmt l = left_at l.depth 90

abbrev pub decreases-write : goal.decreases-write
decreases-write l = left_at l.depth 86

abbrev pub decreases-written : goal.decreases-written
decreases-written l = left_at l.depth 85

abbrev pub decreases-chain : goal.decreases-chain
decreases-chain l = left_at l.depth (4 * chain_levels l.chain + 24)

abbrev pub decreases-chain_rest : goal.decreases-chain_rest
decreases-chain_rest l = left_at l.depth (4 * chain_levels l.chain + 23)

abbrev pub decreases-next_operand : goal.decreases-next_operand
decreases-next_operand l = left_at l.depth (4 * chain_levels l.chain + 22)

abbrev pub decreases-operand : goal.decreases-operand
decreases-operand l = left_at l.depth (4 * chain_levels l.chain + 21)

abbrev pub decreases-strict : goal.decreases-strict
decreases-strict l = left_at l.depth (3 * tighter_levels l.level + 3)

abbrev pub decreases-operands : goal.decreases-operands
decreases-operands l = left_at l.depth (3 * tighter_levels l.level + 2)

abbrev pub decreases-tighter : goal.decreases-tighter
decreases-tighter l = left_at l.depth (3 * tighter_levels l.level + 1)

abbrev pub invariant-args-loop-self : goal.invariant-args-loop-self
invariant-args-loop-self l = Grows (CommaList (IsOneArg l.depth) l.depth) (CommaList (IsOneArg l.depth) l.depth) (BeginsWith (kind.Mark mark.CloseParen)) l.initial.self l.self (args_at l.args.items)

abbrev pub decreases-args-loop-self : goal.decreases-args-loop-self
decreases-args-loop-self l = length l.self

abbrev pub invariant-exprs-loop-self : goal.invariant-exprs-loop-self
invariant-exprs-loop-self l = Grows (CommaList (IsExpr (l.depth + 1)) l.depth) (CommaList (IsExpr (l.depth + 1)) l.depth) (BeginsWith (kind.Mark mark.CloseBracket)) l.initial.self l.self (exprs_at l.items.items)

abbrev pub decreases-exprs-loop-self : goal.decreases-exprs-loop-self
decreases-exprs-loop-self l = length l.self

abbrev pub invariant-pairs-loop-self : goal.invariant-pairs-loop-self
invariant-pairs-loop-self l = Grows (CommaList (IsOnePair l.depth) l.depth) (CommaList (IsOnePair l.depth) l.depth) (BeginsWith (kind.Mark mark.CloseBrace)) l.initial.self l.self (pairs_at l.pairs.items)

abbrev pub decreases-pairs-loop-self : goal.decreases-pairs-loop-self
decreases-pairs-loop-self l = length l.self

abbrev pub invariant-items-loop-self : goal.invariant-items-loop-self
invariant-items-loop-self l = Grows (Repeat (IsItem l.depth)) (Repeat (IsItem l.depth)) (BeginsWith (kind.Mark mark.CloseBrace)) l.initial.self l.self (items_at l.items.items)

abbrev pub decreases-items-loop-self : goal.decreases-items-loop-self
decreases-items-loop-self l = length l.self

abbrev pub invariant-links-loop-self : goal.invariant-links-loop-self
invariant-links-loop-self l = Grows (Repeat (IsLink l.depth)) (Repeat (IsLink l.depth)) (ends_by behind_un) l.initial.self l.self (links_at l.links.items)

abbrev pub decreases-links-loop-self : goal.decreases-links-loop-self
decreases-links-loop-self l = length l.self

abbrev pub invariant-chain_rest-loop-chain : goal.invariant-chain_rest-loop-chain
invariant-chain_rest-loop-chain l = Grows (Repeat (IsNextOperand l.chain l.depth)) (Repeat (IsNextOperand l.chain l.depth)) (ends_by (behind_chain l.chain)) l.initial.self l.self (exprs_at l.rest.items)

abbrev pub decreases-chain_rest-loop-chain : goal.decreases-chain_rest-loop-chain
decreases-chain_rest-loop-chain l = length l.self

abbrev pub invariant-operands-loop-op : goal.invariant-operands-loop-op
invariant-operands-loop-op l = Grows (Repeat (IsOperand (level_of l.level) l.depth)) (Repeat (IsOperand (level_of l.level) l.depth)) (ends_by (behind_strict (level_of l.level))) l.initial.self l.self (operands_at l.rest.items)

abbrev pub decreases-operands-loop-op : goal.decreases-operands-loop-op
decreases-operands-loop-op l = length l.self
