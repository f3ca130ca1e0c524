-- From a node to its parent, and so on to the bottom, over a number of nodes.
use Rattle.std.specs.Prelude.{ℕ, zero, suc, Bool, true, cond, ℤ, pos, ◌-ℤ◌, Some, None, Option, ◌==◌}
use Rattle.rules.specs.Reading.{kind_of, node_for, parent_of, same_kind}
use Rattle.table.specs.Parts.{Parts}
use Rattle.table.specs.declared.records.Node.{Node}
use Rattle.table.specs.declared.records.NodeKind.{NodeKind}
use Rattle.table.specs.declared.records.NodeKind.TheVariants.{Loop, TryExcept, Finally, FinallyHandler, ExceptHandler, Unknown}

-- whether at most n nodes lead to the bottom
unfoldable pub within : Parts → ℕ → ℕ → Bool
within t zero k = k == 0
within t (suc n) k = cond (k == 0) true (within t n (parent_of t k))

-- the nearest Loop, the node itself counted; 0 if there is none among n nodes
unfoldable pub nearest : Parts → ℕ → ℕ → ℕ
nearest t zero k = 0
nearest t (suc n) k = cond (same_kind (kind_of t k) Loop) k (nearest t n (parent_of t k))

-- the number of a block; 0 is none
abbrev pub numbered : ℕ → Option ℕ
numbered k = cond (k == 0) None (Some k)

-- the nearest Loop, if there is one among 32 nodes
abbrev pub nearest_loop : Parts → ℕ → Option ℕ
nearest_loop t k = numbered (nearest t 32 k)

-- what a block's removal leaves: the level, less the end of a Finally
abbrev pub left_at : NodeKind → ℕ → ℕ → ℤ
left_at Loop level end = pos level
left_at TryExcept level end = pos level
left_at Finally level end = pos level -ℤ pos end
left_at FinallyHandler level end = pos level
left_at ExceptHandler level end = pos level
left_at (Unknown byte) level end = pos level

unfoldable pub leaving : Node → ℤ
leaving n = left_at n.kind n.level n.end

-- the depth at which a continue reaches its Loop: that which the last node passed leaves, or z if none is passed
unfoldable pub arriving : Parts → ℕ → ℕ → ℤ → ℤ
arriving t zero k z = z
arriving t (suc n) k z = cond (same_kind (kind_of t k) Loop) z (arriving t n (parent_of t k) (leaving (node_for t k)))
