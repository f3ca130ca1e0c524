use Rattle.std.proofs.Common.{[], codes, sym, ap, ◌∙◌}
use Rattle.std.proofs.Output.{has_written_of_eq}
use Rattle.std.specs.Fmt.{digits}
use Rattle.rules.specs.Words.{counted, rule_text}
use Rattle.rules.proofs.words.RuleDisplay.fmt.Goals as goal

-- the numbers 5 and 0 stand in the code as digits
pub returns-in-KnownKind-clause-writes : goal.returns-in-KnownKind-clause-writes
unfolding digits
returns-in-KnownKind-clause-writes g c = λ plain ok. has_written_of_eq _ _ _ _ _
    (ap (λ n. counted (codes "its kind is") n (codes "1 to ") 5 []) c.from-byte.ensures ∙ sym (ap rule_text c.in-KnownKind.is)) (c.write.ensures.writes plain ok)

pub returns-in-NoHandler-clause-writes : goal.returns-in-NoHandler-clause-writes
unfolding digits
returns-in-NoHandler-clause-writes g c = λ plain ok. has_written_of_eq _ _ _ _ _ (sym (ap rule_text c.in-NoHandler.is)) (c.write-in-NoHandler.ensures.writes plain ok)

pub returns-in-DepthFromLevel-clause-writes : goal.returns-in-DepthFromLevel-clause-writes
returns-in-DepthFromLevel-clause-writes g c = λ plain ok. has_written_of_eq _ _ _ _ _ (sym (ap rule_text c.in-DepthFromLevel.is)) (c.write-in-DepthFromLevel.ensures.writes plain ok)
