-- The rules of nodes. A node is a block as the table declares it; k is its number, and number 0 means no block.
use Rattle.std.specs.Prelude.{◌≡◌, ℕ, zero, suc, ◌+◌, ◌<◌, ◌≤◌}
use Rattle.rules.specs.Reading.{depth_of, end_of, handler_of, kind_of, level_of, node_of, parent_of}
use Rattle.table.specs.Parts.{Parts}
use Rattle.table.specs.Reading.{instruction_count}
use Rattle.table.specs.declared.records.NodeKind.{NodeKind}
use Rattle.table.specs.declared.records.NodeKind.TheVariants.{Loop, TryExcept, Finally, FinallyHandler, ExceptHandler, Unknown}

abbrev pub Known : NodeKind → Type 0
Known Loop = Unit {0}
Known TryExcept = Unit {0}
Known Finally = Unit {0}
Known FinallyHandler = Unit {0}
Known ExceptHandler = Unit {0}
Known (Unknown byte) = ⊥

-- 1. the kind is one of the five
abbrev pub KnownKind : Parts → ℕ → Type 0
KnownKind t k = Known (kind_of t k)

abbrev pub EndOf : NodeKind → ℕ → Type 0
EndOf Loop end = end ≡ 0
EndOf TryExcept end = end ≡ 0
EndOf Finally end = end ≤ 1
EndOf FinallyHandler end = end ≤ 1
EndOf ExceptHandler end = end ≡ 0
EndOf (Unknown byte) end = end ≡ 0

-- 2. the end is 0, and in a Finally or a FinallyHandler 0 or 1
abbrev pub EndListed : Parts → ℕ → Type 0
EndListed t k = EndOf (kind_of t k) (end_of t k)

-- 3. the parent's number is below the node's own
abbrev pub ParentBelow : Parts → ℕ → Type 0
ParentBelow t k = parent_of t k < k

-- 4. the level is not below the parent's, 0 for none
abbrev pub LevelFromParent : Parts → ℕ → Type 0
LevelFromParent t k = level_of t (parent_of t k) ≤ level_of t k

-- 5. the level is not above the maximum
abbrev pub LevelWithinMaximum : Parts → ℕ → Type 0
LevelWithinMaximum t k = level_of t k ≤ t.maximum

-- at most n nodes lead from node k to the bottom, itself counted
unfoldable pub Within : Parts → ℕ → ℕ → Type 0
Within t zero k = k ≡ 0
Within t (suc n) k = 0 < k → Within t n (parent_of t k)

-- 6. at most 32 nodes lead to the bottom
abbrev pub NodesToBottom : Parts → ℕ → Type 0
NodesToBottom t k = Within t 32 k

-- 7. the handler is an instruction
abbrev pub HandlerExists : Parts → ℕ → Type 0
HandlerExists t k = handler_of t k < instruction_count t

abbrev pub HandlerOf : NodeKind → ℕ → Type 0
HandlerOf Loop handler = handler ≡ 0
HandlerOf TryExcept handler = Unit {0}
HandlerOf Finally handler = Unit {0}
HandlerOf FinallyHandler handler = handler ≡ 0
HandlerOf ExceptHandler handler = handler ≡ 0
HandlerOf (Unknown byte) handler = handler ≡ 0

-- 8. the handler is 0 but in a TryExcept and a Finally
abbrev pub NoHandler : Parts → ℕ → Type 0
NoHandler t k = HandlerOf (kind_of t k) (handler_of t k)

-- the node that stands where the handler of node k begins
abbrev pub handler_node : Parts → ℕ → ℕ
handler_node t k = node_of t (handler_of t k)

-- the handler of node k begins with this depth, in a node of this kind with the parent and the level of k
pub record Handled (t : Parts) (k depth : ℕ) (of : NodeKind) : Type 0 where
  pub deep : depth_of t (handler_of t k) ≡ depth
  pub kind : kind_of t (handler_node t k) ≡ of
  pub parent : parent_of t (handler_node t k) ≡ parent_of t k
  pub level : level_of t (handler_node t k) ≡ level_of t k

-- 9. a TryExcept's handler begins one above the level, within the maximum, in an ExceptHandler
pub record ExceptHandled (t : Parts) (k : ℕ) : Type 0 where
  pub within : level_of t k + 1 ≤ t.maximum
  pub handled : Handled t k (level_of t k + 1) ExceptHandler

-- 10. a Finally's handler begins at the level, in a FinallyHandler of the same end
pub record FinallyHandled (t : Parts) (k : ℕ) : Type 0 where
  pub handled : Handled t k (level_of t k) FinallyHandler
  pub end : end_of t (handler_node t k) ≡ end_of t k

-- node k keeps the node rules
pub record NodeRules (t : Parts) (k : ℕ) : Type 0 where
  pub kind : KnownKind t k
  pub end : EndListed t k
  pub parent : ParentBelow t k
  pub level : LevelFromParent t k
  pub low : LevelWithinMaximum t k
  pub near : NodesToBottom t k
  pub handler : HandlerExists t k
  pub none : NoHandler t k
  pub except : kind_of t k ≡ TryExcept → ExceptHandled t k
  pub finally : kind_of t k ≡ Finally → FinallyHandled t k
