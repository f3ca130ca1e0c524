-- What a width in a format writes is a column of specs/Columns.antt.
use Rattle.std.proofs.Common.{◌≡◌, ℕ, zero, suc, ◌+◌, ◌-◌, ◌/◌, ◌%◌, ◌^◌, ◌<◌, ◌≤◌, Bool, true, false, nat_eq, List, [], ◌∷◌, ◌++◌, length, decimal, codes, refl, ap, ◌∙◌, arith}
use Rattle.std.proofs.Math.Bool.{cond}
use Rattle.std.proofs.Math.Nat.{mod-lt}
use Rattle.std.proofs.lemmas.Bool.{lt-ltb}
use Rattle.std.proofs.lemmas.List.{length-append}
use Rattle.std.specs.Fmt.{char_count, digit_glyph, digits_onto, digits, format_spec, is_char_start, padded, styled_decimal}
use Rattle.std.proofs.Padding.{char_count-cons, char_count-nil, padded_integral_right, repeat_ascii, styled_decimal_is, take_chars_all}
use Rattle.table.specs.Names.{instruction_text, name_of, operand_of, operand_text}
use Rattle.table.specs.declared.instructions.Instruction.{Instruction}
use Rattle.table.specs.declared.instructions.Instruction.TheVariants.{LoadConst, LoadFast, StoreFast, Pop, Reverse, CallFunctionPositional, GetIter, ForIter, Jump, JumpIfTrue, JumpIfFalse, SetupLoop, SetupExcept, SetupFinally, EnterFinally, EndFinally, SetupWith, WithCleanupStart, WithCleanupFinish, PopBlock, PopException, Raise, Break, Continue, ReturnValue, ReturnConst, YieldValue, YieldFrom}
use Rattle.table.specs.declared.names.Operand.{Operand}
use Rattle.table.specs.declared.names.Operand.TheVariants.{Nothing, Constant, Local, Count, Target, Flag}
use Rattle.listing.specs.Columns.{blank, left, number, right}

pub number_column : (width n : ℕ) → styled_decimal (format_spec 32 3 0 width (2 ^ 64 - 1)) n ≡ number width n
unfolding right blank
number_column width n = let s = format_spec 32 3 0 width (2 ^ 64 - 1) in
    styled_decimal_is s n ∙ padded_integral_right s (decimal n) refl refl (omega arith) (omega arith) (omega arith)

-- each byte is a character, and there are at most k
record Plain (k : ℕ) (text : List ℕ) : Type 0 where
  each : char_count text ≡ length text
  short : length text ≤ k

left_column : (width k : ℕ) (text : List ℕ) → Plain k text → k < 2 ^ 64 → padded (format_spec 32 1 0 width (2 ^ 64 - 1)) text ≡ left width text
unfolding padded left blank
left_column width k text p small =
    let plain = p.each in
    let short = p.short in
    let none : width - length text - 0 ≡ width - length text = omega arith in
    rw (take_chars_all (2 ^ 64 - 1) text (omega arith), plain, none, repeat_ascii (width - length text) 32 (omega arith)) refl

char_count-append : (a b : List ℕ) → char_count (a ++ b) ≡ char_count a + char_count b
char_count-append [] b = omega (arith, char_count-nil)
char_count-append (x ∷ a) b = omega (arith, char_count-cons x (a ++ b), char_count-cons x a, char_count-append a b)

plain_append : (j k : ℕ) (a b : List ℕ) → Plain j a → Plain k b → Plain (j + k) (a ++ b)
plain_append j k a b p q = record {
  each = omega (arith, char_count-append a b, length-append a b, p.each, q.each);
  short = omega (arith, length-append a b, p.short, q.short);
}

plain_more : (j k : ℕ) (text : List ℕ) → Plain j text → j ≤ k → Plain k text
plain_more j k text p h = record { each = p.each; short = omega (arith, p.short) }

glyph_starts : (d : ℕ) → d < 10 → is_char_start (digit_glyph false d) ≡ true
glyph_starts d h = rw (lt-ltb d 10 h, lt-ltb (48 + d) 128 (omega arith)) refl

plain_digit : (d j : ℕ) (text : List ℕ) → d < 10 → Plain j text → Plain (suc j) (digit_glyph false d ∷ text)
plain_digit d j text h p =
    let one : ◌≡◌ {A = ℕ} (cond (is_char_start (digit_glyph false d)) 1 0) 1 = ap (λ t. cond t 1 0) (glyph_starts d h) in
    record { each = omega (arith, char_count-cons (digit_glyph false d) text, one, p.each); short = omega (arith, p.short) }

plain_digits : (k n j : ℕ) (text : List ℕ) → Plain j text → Plain (k + j) (digits_onto k 10 false n text)
plain_digits zero n j text p = plain_more j _ text p (omega arith)
plain_digits (suc k) n j text p = by (nat_eq (n / 10) 0) more (plain_digits k (n / 10) (suc j) _ more)
  where
    one : List ℕ
    one = digit_glyph false (n % 10) ∷ text

    more : Plain (suc j) one
    more = plain_digit (n % 10) j text (mod-lt n (omega arith)) p

    by : (t : Bool) → Plain (suc j) one → Plain (k + suc j) (digits_onto k 10 false (n / 10) one) → Plain (suc k + j) (cond t one (digits_onto k 10 false (n / 10) one))
    by true a b = plain_more (suc j) _ _ a (omega arith)
    by false a b = plain_more (k + suc j) _ _ b (omega arith)

plain_decimal : (n : ℕ) → Plain 64 (decimal n)
unfolding digits
plain_decimal n = plain_digits 64 n 0 [] (record { each = char_count-nil; short = omega arith })

plain_name : (i : Instruction) → Plain 22 (name_of i)
unfolding char_count
plain_name (LoadConst idx) = record { each = refl; short = omega arith }
plain_name (LoadFast idx) = record { each = refl; short = omega arith }
plain_name (StoreFast idx) = record { each = refl; short = omega arith }
plain_name Pop = record { each = refl; short = omega arith }
plain_name (Reverse amount) = record { each = refl; short = omega arith }
plain_name (CallFunctionPositional nargs) = record { each = refl; short = omega arith }
plain_name GetIter = record { each = refl; short = omega arith }
plain_name (ForIter target) = record { each = refl; short = omega arith }
plain_name (Jump target) = record { each = refl; short = omega arith }
plain_name (JumpIfTrue target) = record { each = refl; short = omega arith }
plain_name (JumpIfFalse target) = record { each = refl; short = omega arith }
plain_name SetupLoop = record { each = refl; short = omega arith }
plain_name (SetupExcept handler) = record { each = refl; short = omega arith }
plain_name (SetupFinally handler) = record { each = refl; short = omega arith }
plain_name (EnterFinally end) = record { each = refl; short = omega arith }
plain_name EndFinally = record { each = refl; short = omega arith }
plain_name (SetupWith end) = record { each = refl; short = omega arith }
plain_name WithCleanupStart = record { each = refl; short = omega arith }
plain_name WithCleanupFinish = record { each = refl; short = omega arith }
plain_name PopBlock = record { each = refl; short = omega arith }
plain_name PopException = record { each = refl; short = omega arith }
plain_name (Raise kind) = record { each = refl; short = omega arith }
plain_name (Break target) = record { each = refl; short = omega arith }
plain_name (Continue target) = record { each = refl; short = omega arith }
plain_name ReturnValue = record { each = refl; short = omega arith }
plain_name (ReturnConst idx) = record { each = refl; short = omega arith }
plain_name YieldValue = record { each = refl; short = omega arith }
plain_name YieldFrom = record { each = refl; short = omega arith }

plain_operand : (o : Operand) → Plain 74 (operand_text o)
unfolding char_count
plain_operand Nothing = record { each = refl; short = omega arith }
plain_operand (Constant n) = plain_append 10 64 (codes " constant ") _ (record { each = refl; short = omega arith }) (plain_decimal n)
plain_operand (Local n) = plain_append 10 64 (codes " local ") _ (record { each = refl; short = omega arith }) (plain_decimal n)
plain_operand (Count n) = plain_append 10 64 (codes " ") _ (record { each = refl; short = omega arith }) (plain_decimal n)
plain_operand (Target n) = plain_append 10 64 (codes " to ") _ (record { each = refl; short = omega arith }) (plain_decimal n)
plain_operand (Flag n) = plain_append 10 64 (codes " ") _ (record { each = refl; short = omega arith }) (plain_decimal n)

pub instruction_column : (width : ℕ) (i : Instruction) → padded (format_spec 32 1 0 width (2 ^ 64 - 1)) (instruction_text i) ≡ left width (instruction_text i)
instruction_column width i = left_column width 96 (instruction_text i) (plain_append 22 74 (name_of i) _ (plain_name i) (plain_operand (operand_of i))) (omega arith)
