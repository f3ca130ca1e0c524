-- Decoding and encoding undo one another.
use Rattle.std.proofs.Common.{◌≡◌, ℕ, ◌<◌, ◌≤◌, Bool, true, false, cond, ◌&&◌, eqb, ◌⊎◌, Some, None, Option, refl, ap, ◌∙◌, subst, inl, inr, ⊎_elim, arith}
use Rattle.std.proofs.lemmas.Bool.Decides.{nat_tests}
use Rattle.table.specs.Instructions.{Decoded, InRange, bare, encoding, flag, listed, raise_kind, raise_number, row, under, word}
use Rattle.table.specs.declared.instructions.Instruction.{Instruction}
use Rattle.table.specs.declared.instructions.Instruction.TheVariants.{LoadConst, LoadFast, StoreFast, Pop, Reverse, CallFunctionPositional, GetIter, ForIter, Jump, JumpIfTrue, JumpIfFalse, SetupLoop, SetupExcept, SetupFinally, EnterFinally, EndFinally, SetupWith, WithCleanupStart, WithCleanupFinish, PopBlock, PopException, Raise, Break, Continue, ReturnValue, ReturnConst, YieldValue, YieldFrom}
use Rattle.table.specs.declared.instructions.Limits.{Limits}
use Rattle.table.specs.declared.instructions.Word.{Word}

-- every instruction in range is found by its word
pub complete : (m : Limits) (i : Instruction) → InRange m i → listed m (encoding i) ≡ Some i
complete m (LoadConst idx) h = grind (arith, nat_tests)
complete m (LoadFast idx) h = grind (arith, nat_tests)
complete m (StoreFast idx) h = grind (arith, nat_tests)
complete m Pop h = grind (arith, nat_tests)
complete m (Reverse amount) h = grind (arith, nat_tests)
complete m (CallFunctionPositional nargs) h = grind (arith, nat_tests)
complete m GetIter h = grind (arith, nat_tests)
complete m (ForIter target) h = grind (arith, nat_tests)
complete m (Jump target) h = grind (arith, nat_tests)
complete m (JumpIfTrue target) h = grind (arith, nat_tests)
complete m (JumpIfFalse target) h = grind (arith, nat_tests)
complete m SetupLoop h = grind (arith, nat_tests)
complete m (SetupExcept handler) h = grind (arith, nat_tests)
complete m (SetupFinally handler) h = grind (arith, nat_tests)
complete m (EnterFinally end) h = grind (arith, nat_tests)
complete m EndFinally h = grind (arith, nat_tests)
complete m (SetupWith end) h = grind (arith, nat_tests)
complete m WithCleanupStart h = grind (arith, nat_tests)
complete m WithCleanupFinish h = grind (arith, nat_tests)
complete m PopBlock h = grind (arith, nat_tests)
complete m PopException h = grind (arith, nat_tests)
complete m (Raise kind) h = grind (arith, nat_tests)
complete m (Break target) h = grind (arith, nat_tests)
complete m (Continue target) h = grind (arith, nat_tests)
complete m ReturnValue h = grind (arith, nat_tests)
complete m (ReturnConst idx) h = grind (arith, nat_tests)
complete m YieldValue h = grind (arith, nat_tests)
complete m YieldFrom h = grind (arith, nat_tests)

-- what is found is the instruction that the word encodes
abbrev Sound : Limits → Word → Option Instruction → Type 0
Sound m w r = (i : Instruction) → r ≡ Some i → (encoding i ≡ w) × InRange m i

row_cases : (b : Bool) (i j : Instruction) (others : Option Instruction) → cond b (Some i) others ≡ Some j → ((b ≡ true) × (i ≡ j)) ⊎ (others ≡ Some j)
row_cases true i j others h = inl (refl, (cc))
row_cases false i j others h = inr h

row_sound : (m : Limits) (w : Word) (opcode : ℕ) (suits : Bool) (i : Instruction) (others : Option Instruction) →
    (w.opcode ≡ opcode → suits ≡ true → (encoding i ≡ w) × InRange m i) → Sound m w others → Sound m w (row opcode suits i w others)
row_sound m w opcode suits i others here rest j h =
    ⊎_elim
    (λ p. let o : w.opcode ≡ opcode = grind (arith, nat_tests) in
    let s : suits ≡ true = grind (arith, nat_tests) in
    subst (λ (k : Instruction). (encoding k ≡ w) × InRange m k) p.1 (here o s))
    (rest j)
    (row_cases (eqb w.opcode opcode && suits) i j others h)

same_word : (a b c o x y : ℕ) → a ≡ o → b ≡ x → c ≡ y → word o x y ≡ word a b c
same_word a b c o x y p q r = cc

word_is : (w : Word) (o x y : ℕ) → w.opcode ≡ o → w.x ≡ x → w.y ≡ y → word o x y ≡ w
word_is w o x y p q r = same_word w.opcode w.x w.y o x y p q r

-- what the kinds of operands say of the word
under_says : (w : Word) (opcode n : ℕ) → w.opcode ≡ opcode → under n w ≡ true → (word opcode 0 w.y ≡ w) × (w.y < n)
under_says w opcode n o s =
    let x : w.x ≡ 0 = grind (arith, nat_tests) in
    let y : w.y < n = grind (arith, nat_tests) in
    (word_is w opcode 0 w.y o x refl, y)

small_says : (w : Word) (opcode : ℕ) → w.opcode ≡ opcode → under 256 w ≡ true → (word opcode 0 w.y ≡ w) × (w.y ≤ 255)
small_says w opcode o s = let u = under_says w opcode 256 o s in (u.0, omega arith)

bare_says : (w : Word) (opcode : ℕ) → w.opcode ≡ opcode → bare w ≡ true → (word opcode 0 0 ≡ w) × Unit {0}
bare_says w opcode o s =
    let x : w.x ≡ 0 = grind (arith, nat_tests) in
    let y : w.y ≡ 0 = grind (arith, nat_tests) in
    (word_is w opcode 0 0 o x y, tt)

flag_says : (w : Word) (opcode : ℕ) → w.opcode ≡ opcode → flag w ≡ true → (word opcode w.x 0 ≡ w) × (w.x ≤ 1)
flag_says w opcode o s =
    let x : w.x ≤ 1 = grind (arith, nat_tests) in
    let y : w.y ≡ 0 = grind (arith, nat_tests) in
    (word_is w opcode w.x 0 o refl y, x)

raise_says : (w : Word) (opcode : ℕ) → w.opcode ≡ opcode → flag w ≡ true → (word opcode (raise_number (raise_kind w.x)) 0 ≡ w) × Unit {0}
raise_says w opcode o s =
    let u = flag_says w opcode o s in
    let x : raise_number (raise_kind w.x) ≡ w.x = grind (arith, nat_tests) in
    (ap (λ k. word opcode k 0) x ∙ u.0, tt)

none_sound : (m : Limits) (w : Word) → Sound m w None
none_sound m w i h = let z : ◌≡◌ {A = ℕ} 0 1 = cc in absurd (omega arith)

pub sound : (m : Limits) (w : Word) → Sound m w (listed m w)
sound m w =
    row_sound m w 1 _ _ _ (under_says w 1 _) (
    row_sound m w 2 _ _ _ (under_says w 2 _) (
    row_sound m w 3 _ _ _ (under_says w 3 _) (
    row_sound m w 6 _ _ _ (bare_says w 6) (
    row_sound m w 11 _ _ _ (small_says w 11) (
    row_sound m w 14 _ _ _ (small_says w 14) (
    row_sound m w 15 _ _ _ (bare_says w 15) (
    row_sound m w 16 _ _ _ (under_says w 16 _) (
    row_sound m w 17 _ _ _ (under_says w 17 _) (
    row_sound m w 18 _ _ _ (under_says w 18 _) (
    row_sound m w 19 _ _ _ (under_says w 19 _) (
    row_sound m w 24 _ _ _ (bare_says w 24) (
    row_sound m w 25 _ _ _ (under_says w 25 _) (
    row_sound m w 26 _ _ _ (under_says w 26 _) (
    row_sound m w 27 _ _ _ (flag_says w 27) (
    row_sound m w 28 _ _ _ (bare_says w 28) (
    row_sound m w 29 _ _ _ (under_says w 29 _) (
    row_sound m w 30 _ _ _ (bare_says w 30) (
    row_sound m w 31 _ _ _ (bare_says w 31) (
    row_sound m w 32 _ _ _ (bare_says w 32) (
    row_sound m w 33 _ _ _ (bare_says w 33) (
    row_sound m w 34 _ _ _ (raise_says w 34) (
    row_sound m w 35 _ _ _ (under_says w 35 _) (
    row_sound m w 36 _ _ _ (under_says w 36 _) (
    row_sound m w 37 _ _ _ (bare_says w 37) (
    row_sound m w 38 _ _ _ (under_says w 38 _) (
    row_sound m w 39 _ _ _ (bare_says w 39) (
    row_sound m w 40 _ _ _ (bare_says w 40) (
    none_sound m w))))))))))))))))))))))))))))

decoded_by : (m : Limits) (w : Word) (r : Option Instruction) → Sound m w r → ((i : Instruction) → encoding i ≡ w → InRange m i → r ≡ Some i) → Decoded m w r
decoded_by m w None s f = λ i e h. let n = f i e h in let z : ◌≡◌ {A = ℕ} 0 1 = cc in absurd (omega arith)
decoded_by m w (Some i) s f = s i refl

pub decoded : (m : Limits) (w : Word) → Decoded m w (listed m w)
decoded m w = decoded_by m w (listed m w) (sound m w) (λ i e h. subst (λ (v : Word). listed m v ≡ Some i) e (complete m i h))
