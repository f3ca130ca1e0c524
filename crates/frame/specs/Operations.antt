-- What the instructions do to a frame in small: for each what it answers, and what it leaves.
use Rattle.std.specs.Prelude.{ℕ, Bool, cond, ◌&&◌, List, [], ◌∷◌, length, Ok, Err, Result, nat_le, nat_lt}
use Rattle.frame.specs.Frames.{Held}
use Rattle.stacks.specs.Stack.{lowest, rest}
use Rattle.frame.specs.declared.blocks.Block.{Block}
use Rattle.frame.specs.declared.blocks.BlockType.{BlockType}
use Rattle.frame.specs.declared.faults.FaultKind.{FaultKind}
use Rattle.frame.specs.declared.faults.FaultKind.TheVariants.{StackFull, TooFewValues, NoBlock, BelowLevel, TooManyBlocks}

abbrev pub with_stack : List ℕ → Held → Held
with_stack vs f = record {
  exceptions = f.exceptions;
  stack = vs;
  locals = f.locals;
  blocks = f.blocks;
  index = f.index;
  status = f.status;
  counts = f.counts;
}

abbrev pub with_blocks : List Block → Held → Held
with_blocks bs f = record {
  exceptions = f.exceptions;
  stack = f.stack;
  locals = f.locals;
  blocks = bs;
  index = f.index;
  status = f.status;
  counts = f.counts;
}

-- there is room below the table's maximum, and in the frame
abbrev pub room : ℕ → Held → Bool
room maximum f = nat_lt (length f.stack) maximum && nat_lt (length f.stack) 256

unfoldable pub push_out : ℕ → Held → Result Unit FaultKind
push_out maximum f = cond (room maximum f) (Ok tt) (Err StackFull)

unfoldable pub push_left : ℕ → ℕ → Held → Held
push_left maximum v f = cond (room maximum f) (with_stack (v ∷ f.stack) f) f

abbrev pub taken : List ℕ → Result ℕ FaultKind
taken [] = Err TooFewValues
taken (v ∷ vs) = Ok v

unfoldable pub pop_out : Held → Result ℕ FaultKind
pop_out f = taken f.stack

unfoldable pub pop_left : Held → Held
pop_left f = with_stack (rest f.stack) f

-- a block goes up at the stack's length, if there are fewer than 32
unfoldable pub put_up_out : Held → Result Unit FaultKind
put_up_out f = cond (nat_lt (length f.blocks) 32) (Ok tt) (Err TooManyBlocks)

unfoldable pub put_up_left : BlockType → Held → Held
put_up_left typ f = cond (nat_lt (length f.blocks) 32) (with_blocks (record { typ = typ; level = length f.stack } ∷ f.blocks) f) f

-- the topmost block goes, and the stack is cut to its level; a stack below it is not cut
abbrev pub removed : List ℕ → List Block → Result Block FaultKind
removed vs [] = Err NoBlock
removed vs (b ∷ bs) = cond (nat_le b.level (length vs)) (Ok b) (Err BelowLevel)

abbrev pub cut_by : List ℕ → List Block → List ℕ
cut_by vs [] = vs
cut_by vs (b ∷ bs) = cond (nat_le b.level (length vs)) (lowest b.level vs) vs

unfoldable pub remove_out : Held → Result Block FaultKind
remove_out f = removed f.stack f.blocks

unfoldable pub remove_left : Held → Held
remove_left f = with_blocks (rest f.blocks) (with_stack (cut_by f.stack f.blocks) f)
