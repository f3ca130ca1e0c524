use Rattle.std.proofs.Common.{rules, refl}
use Rattle.std.proofs.lemmas.Fn.{says_at}
use Rattle.std.specs.String.{string_bytes}
use Rattle.case_lines.proofs.Answering.{answers_all, answers_more, answers_none}
use Rattle.case_lines.proofs.lines.answer_lines.Goals as goal

pub loop-line-init : goal.loop-line-init
loop-line-init g c = answers_none _ _ _ _ (search rules)

pub loop-line-preserved : goal.loop-line-preserved
loop-line-preserved g c =
    let says = says_at g.F.Fn {f = c.args.answer} {y = c.as_str.result} c.answer.ensures c.in_ok-said.was in
    answers_more _ _ _ _ _ _ _ (string_bytes c.in_ok-line.line) (string_bytes c.in_ok-said.said) c.loop-line.invariant (search rules) (search rules)
    (c.in_ok-said.said, rw c.as_str.ensures.value at says, refl) (search rules)

pub returns : goal.returns
returns g c = answers_all _ _ _ _ _ c.loop-line.invariant (search rules)
