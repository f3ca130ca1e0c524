use Rattle.std.proofs.Common.{◌≡◌, ◌++◌, length}
use Rattle.case_lines.specs.Hex.{hex_bytes}
use Rattle.case_lines.proofs.bytes.push_hex.Given as goal

-- the bytes so far, and those of the digits to come
abbrev pub invariant-loop-digits : goal.invariant-loop-digits
invariant-loop-digits l = l.bytes.items ++ hex_bytes l.digits ≡ l.initial.bytes.items ++ hex_bytes l.text

abbrev pub decreases-loop-digits : goal.decreases-loop-digits
decreases-loop-digits l = length l.digits
