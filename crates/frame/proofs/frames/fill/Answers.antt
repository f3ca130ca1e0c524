use Rattle.std.proofs.Common.{rules, ◌∙◌, sym, arith}
use Rattle.std.proofs.lemmas.Grind.{common_steps}
use Rattle.std.proofs.lemmas.List.{same_lists}
use Rattle.std.specs.List.{slice_get}
use Rattle.frame.specs.Frames.{filled}
use Rattle.frame.proofs.Filling.{filled_at, made_at}
use Rattle.frame.proofs.frames.fill.Goals as goal

pub returns : goal.returns
unfolding filled
returns c =
    let made = c.from_fn.ensures.items in
    let xs = c.args.arguments.now in
    same_lists _ _ (grind (arith, common_steps)) (λ k d h. made_at made (slice_get xs) (λ i y f' s. search rules) k d (omega (arith, made.long)) ∙ sym (filled_at xs 64 k d c.requires (omega (arith, made.long))))
