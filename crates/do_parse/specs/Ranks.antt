-- How much a function of the parser may still call at the same depth.
use Rattle.std.specs.Prelude.{ℕ, ◌+◌, ◌-◌, ◌*◌}
use Rattle.do_tree.specs.declared.expr.Chain.{Chain}
use Rattle.do_tree.specs.declared.expr.Chain.TheVariants as chain

-- Chains of || hold chains of &&.
abbrev pub chain_levels : Chain → ℕ
chain_levels chain.Or = 1
chain_levels chain.And = 0
chain_levels chain.Coalesce = 0

-- What is left to call: the depths that are left, and the calls at one depth.
abbrev pub left_at : ℕ → ℕ → ℕ
left_at depth calls = 200 * (66 - depth) + calls
