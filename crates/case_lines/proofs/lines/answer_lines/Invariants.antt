use Rattle.std.specs.Io.Iter.{lines_known_bytes}
use Rattle.case_lines.specs.Lines.{AnswersSome, Says}
use Rattle.case_lines.proofs.lines.answer_lines.Given as goal

-- the lines so far are answered
abbrev pub invariant-loop-line : goal.invariant-loop-line
invariant-loop-line g l = AnswersSome (Says g.F.Fn l.answer) (g.R.Read.remaining l.fn.input) (lines_known_bytes g.R.Read.remaining l.line-iterator) (g.W.Write.contents l.initial.output) (g.W.Write.contents l.output)
