-- A frame by what it holds.
use Rattle.std.specs.Prelude.{ℕ, ◌-◌, cond, List, [], ◌++◌, map, length, replicate, Some, None, Option, nat_lt, slice_index_or}
use Rattle.frame.specs.declared.blocks.Block.{Block}
use Rattle.frame.specs.declared.frames.Counts.{Counts}
use Rattle.frame.specs.declared.frames.Frame.TheInside.{Inside}
use Rattle.frame.specs.declared.frames.Status.{Status}
use Rattle.frame.specs.declared.frames.Status.TheVariants.{Ready}

pub record Held : Type 0 where
  pub exceptions : ℕ
  pub stack : List ℕ
  pub locals : List (Option ℕ)
  pub blocks : List Block
  pub index : ℕ
  pub status : Status
  pub counts : Counts

abbrev pub held : Inside → Held
held f = record {
  exceptions = f.exceptions;
  stack = f.stack;
  locals = f.locals;
  blocks = f.blocks;
  index = f.index;
  status = f.status;
  counts = f.counts;
}

abbrev pub none : Counts
none = record { steps = 0; setup = 0; armed = 0; entered = 0; struck = 0; dropped = 0 }

-- the arguments in the first of 64 locals, the rest empty
unfoldable pub filled : List ℕ → List (Option ℕ)
filled arguments = map Some arguments ++ replicate (64 - length arguments) None

-- the local variable i of 64; an empty one and one past the last are none
abbrev pub local_at : ℕ → List (Option ℕ) → Option ℕ
local_at i ls = cond (nat_lt i 64) (slice_index_or ls i None) None

-- ready at instruction 0, with nothing on the stack, no block and nothing counted
abbrev pub new_frame : ℕ → List ℕ → Held
new_frame exceptions arguments = record {
  exceptions = exceptions;
  stack = [];
  locals = filled arguments;
  blocks = [];
  index = 0;
  status = Ready;
  counts = none;
}
