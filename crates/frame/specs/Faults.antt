-- The number of each fault.
use Rattle.std.specs.Prelude.{ℕ}
use Rattle.frame.specs.declared.faults.FaultKind.{FaultKind}
use Rattle.frame.specs.declared.faults.FaultKind.TheVariants.{PastTheEnd, StackFull, TooFewValues, NoBlock, WrongBlock, NoLoop, BelowLevel, TooManyBlocks}

abbrev pub fault_number : FaultKind → ℕ
fault_number PastTheEnd = 21
fault_number StackFull = 22
fault_number TooFewValues = 23
fault_number NoBlock = 24
fault_number WrongBlock = 25
fault_number NoLoop = 26
fault_number BelowLevel = 27
fault_number TooManyBlocks = 28
