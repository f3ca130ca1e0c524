use Rattle.std.proofs.Common.{rules, ◌≡◌, ◌∙◌, ◌<◌, ◌-◌, IfSome, ℕ, List, length, None, Option, sym, subst, arith}
use Rattle.std.proofs.lemmas.Grind.{common_steps}
use Rattle.std.proofs.lemmas.List.{length-reverse, get_or-reverse}
use Rattle.exceptions.specs.Levels.{topmost_of, topmost_in, HeldBelow}
use Rattle.exceptions.proofs.Standing.{topmost_found, topmost_below}
use Rattle.exceptions.proofs.levels.Levels.topmost.Goals as goal

pub returns-clause-told : goal.returns-clause-told
unfolding topmost_in
returns-clause-told c =
    let ls : List (Option ℕ) = c.self.inside.lower in
    let found : c.find_map.result ≡ topmost_in ls = topmost_found c.find_map.ensures.runs.0 _ _ ls _ (λ x o q k. search rules)
    (grind (arith, common_steps), λ w. grind (arith, common_steps))
    (λ k b. grind (arith, common_steps, length-reverse ls, get_or-reverse ls (length ls - 1 - k) None))
    c.find_map.ensures.runs.2 in
    found ∙ grind (arith, common_steps)

pub returns-clause-below : goal.returns-clause-below
unfolding HeldBelow
returns-clause-below c =
    let low = subst (λ s. IfSome (topmost_of s) (λ y. y < s.exceptions)) c.self.view_is (topmost_below _ _ c.self.invariant) in
    subst (λ (o : Option ℕ). IfSome o (λ y. y < c.args.self.now.exceptions)) (sym (returns-clause-told c)) low
