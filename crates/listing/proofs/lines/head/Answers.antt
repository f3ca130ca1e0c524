use Rattle.std.proofs.Common.{◌≡◌, List, ℕ, ◌++◌, IfOk, Ok, Err, Result, string_bytes, ◌∙◌, codes, decimal, append_assoc}
use Rattle.table.specs.Parts.{Parts}
use Rattle.table.specs.Reading.{constant_count, instruction_count, node_count}
use Rattle.table.specs.Tables.{parts}
use Rattle.listing.specs.Lines.{head_text, titles}
use Rattle.listing.proofs.lines.head.Goals as goal

-- what was made has these bytes, so it has any equal ones
made_same : {S E : Type 0} (f : S → List ℕ) (r : Result S E) (x y : List ℕ) → IfOk r (λ s. f s ≡ x) → x ≡ y → IfOk r (λ s. f s ≡ y)
made_same f (Ok s) x y h e = h ∙ e
made_same f (Err e) x y h q = tt

-- the three lines in one
joined : (t : Parts) (m l i n k : ℕ) → m ≡ t.maximum → l ≡ t.locals → i ≡ instruction_count t → n ≡ node_count t → k ≡ constant_count t
    → codes "maximum depth " ++ (decimal m ++ (codes ", locals " ++ (decimal l ++ (codes "\ninstructions " ++ (decimal i ++ (codes ", nodes " ++ (decimal n ++ (codes ", constants " ++ (decimal k ++ (codes "\n" ++ titles)))))))))) ≡ head_text t
joined t m l i n k p q r u v = rw (p, q, r, u, v) (simp append_assoc)

pub returns : goal.returns
returns c = made_same string_bytes _ _ _ c.format.ensures.ok
    (joined (parts c.args.table.now) _ _ _ _ _ c.maximum_depth-maximum.ensures c.locals-locals.ensures c.instruction_count-instructions.ensures c.node_count-nodes.ensures c.constant_count-constants.ensures)
