-- The tests of load, taken together, say just what a lawful table is.
use Rattle.std.proofs.Common.{◌≡◌, ℕ, zero, suc, ◌+◌, ◌<◌, ◌≤◌, Bool, true, false, cond, List, length, is_some, Some, None, Ok, Err, Option, Result, sym, refl, ap, subst, ⊎_elim, arith}
use native.Mathlib.Nat.{div-add-mod, mul-div_cancel_left, mul-mod_right}
use Rattle.std.proofs.lemmas.Bool.{cases_eq}
use Rattle.std.proofs.lemmas.Bool.Decides.{nat_tests}
use Rattle.table.specs.Header.{counted, matched, measured, numbered, placing, sized}
use Rattle.table.specs.Instructions.{Decoded, decoding}
use Rattle.table.specs.Lawful.{Blamed, Encoded, Headed, InOrder, Lawful, Loaded, Ordered, Placed, Sized, Whole, spans}
use Rattle.table.specs.Layout.{layout_of}
use Rattle.table.specs.Loading.{decodable, loading}
use Rattle.table.specs.Parts.{Parts, parts_of}
use Rattle.table.specs.Refusals.{number_of}
use Rattle.table.specs.Reading.{instruction_count, limits_of, word_at}
use Rattle.table.specs.Demands.{◌then◌}
use Rattle.table.specs.declared.instructions.Instruction.{Instruction as Op}
use Rattle.table.specs.declared.instructions.Limits.{Limits}
use Rattle.table.specs.declared.instructions.Word.{Word}
use Rattle.table.specs.declared.layout.Layout.{Layout}
use Rattle.table.specs.declared.layout.Span.{Span}
use Rattle.table.specs.declared.refusals.Part.{Part}
use Rattle.table.specs.declared.refusals.Part.TheVariants.{Instructions, Shapes, Nodes, Constants, Rows}
use Rattle.table.specs.declared.refusals.Refusal.{Refusal}
use Rattle.table.specs.declared.refusals.Refusal.TheVariants.{Size, Begins, Ends, Number, Records, Uneven, Instruction}
use Rattle.table.proofs.Decoded.{decoded}
use Rattle.table.proofs.Placing.{placing_says, then_ok}

-- the places
pub places_says : (bytes : ℕ) (l : Layout) → placing bytes l ≡ Ok tt → InOrder 48 (spans l) bytes
places_says bytes l h = let p = placing_says bytes l h in grind arith

pub places_pass : (bytes : ℕ) (l : Layout) → InOrder 48 (spans l) bytes → placing bytes l ≡ Ok tt
unfolding placing
places_pass bytes l h = grind (arith, nat_tests)

-- a part's records
pub counted_says : (part : Part) (size least most : ℕ) (s : Span) → counted part size least most s ≡ Ok tt → Whole size least most s.length
counted_says part size least most s h = let d = div-add-mod s.length size in grind (arith, nat_tests)

pub counted_pass : (part : Part) (size least most : ℕ) (s : Span) → 0 < size → Whole size least most s.length → counted part size least most s ≡ Ok tt
counted_pass part size least most s p h =
    let r = mul-mod_right size h.0 in
    let q = mul-div_cancel_left h.0 p in
    rw h.1 (grind (arith, nat_tests))

matched_says : (part : Part) (expected : ℕ) (s : Span) → matched part expected s ≡ Ok tt → s.length ≡ expected
matched_says part expected s h = grind (arith, nat_tests)

matched_pass : (part : Part) (expected : ℕ) (s : Span) → s.length ≡ expected → matched part expected s ≡ Ok tt
matched_pass part expected s h = grind (arith, nat_tests)

-- the header
header_says : (l : Layout) → numbered l ≡ Ok tt → measured l ≡ Ok tt → Headed l
unfolding numbered measured
header_says l h k =
    let a = then_ok _ _ tt k in
    let b = then_ok _ _ tt a.1 in
    let c = then_ok _ _ tt b.1 in
    let d = then_ok _ _ tt c.1 in
    record {
      maximum = grind (arith, nat_tests);
      locals = grind (arith, nat_tests);
      zero = grind (arith, nat_tests);
      pairs = grind (arith, nat_tests);
      instructions = counted_says _ 4 1 4096 l.instructions a.0;
      shapes = matched_says _ _ l.shapes b.0;
      nodes = counted_says _ 8 0 1024 l.nodes c.0;
      constants = counted_says _ 4 0 1024 l.constants d.0;
      rows = matched_says _ _ l.rows d.1;
    }

numbers_pass : (l : Layout) → Headed l → numbered l ≡ Ok tt
unfolding numbered
numbers_pass l h = grind (arith, nat_tests)

lengths_pass : (l : Layout) → Headed l → measured l ≡ Ok tt
unfolding measured
lengths_pass l h =
    let a = counted_pass Instructions 4 1 4096 l.instructions (omega arith) h.instructions in
    let b = matched_pass Shapes l.instructions.length l.shapes h.shapes in
    let c = counted_pass Nodes 8 0 1024 l.nodes (omega arith) h.nodes in
    let d = counted_pass Constants 4 0 1024 l.constants (omega arith) h.constants in
    let e = matched_pass Rows l.instructions.length l.rows h.rows in
    rw a (rw b (rw c (rw d e)))

-- the instructions
decoding_law : (m : Limits) (w : Word) → Decoded m w (decoding m w)
unfolding decoding
decoding_law m w = decoded m w

some_encoded : (m : Limits) (w : Word) (r : Option Op) → Decoded m w r → is_some r ≡ true → Encoded m w
some_encoded m w None d h = let z : ◌≡◌ {A = Bool} true false = sym h in absurd (grind arith)
some_encoded m w (Some o) d h = (o, d.0, d.1)

encoded_some : (m : Limits) (w : Word) (r : Option Op) → Decoded m w r → Encoded m w → is_some r ≡ true
encoded_some m w None d h = absurd (d h.0 h.1 h.2)
encoded_some m w (Some o) d h = refl

-- a walk over n instructions from i on: all are fine, or the first wrong one is refused
Fine : Parts → ℕ → Type 0
Fine t k = Encoded (limits_of t) (word_at t k)

abbrev Walked : Parts → ℕ → ℕ → Result Unit Refusal → Type 0
Walked t i n (Ok u) = (k : ℕ) → i ≤ k → k < i + n → Fine t k
Walked t i n (Err e) = (j : ℕ) × (i ≤ j) × (j < i + n) × (e ≡ Instruction j (word_at t j) (limits_of t)) × (Fine t j → ⊥) × ((k : ℕ) → i ≤ k → k < j → Fine t k)

walk_on : (t : Parts) (i n : ℕ) (r : Result Unit Refusal) → Fine t i → Walked t (i + 1) n r → Walked t i (suc n) r
walk_on t i n (Ok u) here w = λ k l h. ⊎_elim (λ e. subst (Fine t) (sym e) here) (λ ne. w k (omega arith) (omega arith)) (cases_eq k i)
walk_on t i n (Err e) here w =
    (w.0, omega arith, omega arith, w.3, w.4, λ k l h. ⊎_elim (λ q. subst (Fine t) (sym q) here) (λ ne. w.5 k (omega arith) h) (cases_eq k i))

walk_step : (t : Parts) (i n : ℕ) (b : Bool) (r : Result Unit Refusal) → (b ≡ true → Fine t i) → (Fine t i → b ≡ true) →
    Walked t (i + 1) n r → Walked t i (suc n) (cond b r (Err (Instruction i (word_at t i) (limits_of t))))
walk_step t i n true r f g w = walk_on t i n r (f refl) w
walk_step t i n false r f g w =
    (i, omega arith, omega arith, refl, (λ h. let z = g h in let o : ◌≡◌ {A = ℕ} 0 1 = cc in omega arith), λ k l h. absurd (omega arith))

walked : (t : Parts) (i n : ℕ) → Walked t i n (decodable t i n)
unfolding decodable Fine
walked t i zero = λ k l h. absurd (omega arith)
walked t i (suc n) =
    let d = decoding_law (limits_of t) (word_at t i) in
    walk_step t i n (is_some (decoding (limits_of t) (word_at t i))) (decodable t (i + 1) n)
    (some_encoded (limits_of t) (word_at t i) _ d) (encoded_some (limits_of t) (word_at t i) _ d) (walked t (i + 1) n)

walk_first : (t : Parts) (e : Refusal) → Walked t 0 (instruction_count t) (Err e) → Placed t e
unfolding Fine
walk_first t e w = subst (Placed t) (sym w.3) (record { inside = omega arith; wrong = w.4; before = λ k l. w.5 k (omega arith) l })

-- the size
sized_says : (bytes : ℕ) → sized bytes ≡ Ok tt → (48 ≤ bytes) × (bytes ≤ 65536)
sized_says bytes h = grind (arith, nat_tests)

sized_pass : (bytes : ℕ) → (48 ≤ bytes) × (bytes ≤ 65536) → sized bytes ≡ Ok tt
sized_pass bytes h = grind (arith, nat_tests)

-- the number of each test's refusals
unfoldable Numbered : ℕ → Result Unit Refusal → Type 0
Numbered k (Ok u) = Unit {0}
Numbered k (Err e) = number_of e ≡ k

sized_number : (bytes : ℕ) → Numbered 1 (sized bytes)
unfolding Numbered
sized_number bytes = grind arith

placing_number : (bytes : ℕ) (l : Layout) → Numbered 2 (placing bytes l)
unfolding placing Numbered
placing_number bytes l = grind arith

numbered_number : (l : Layout) → Numbered 3 (numbered l)
unfolding numbered Numbered
numbered_number l = grind arith

measured_number : (l : Layout) → Numbered 3 (measured l)
unfolding measured Numbered
measured_number l = grind arith

-- only the instructions' refusals have a place
unplaced : (t : Parts) (e : Refusal) → number_of e < 4 → Placed t e
unplaced t (Size bytes) h = tt
unplaced t (Begins part offset earliest) h = tt
unplaced t (Ends part end bytes) h = tt
unplaced t (Number field found) h = tt
unplaced t (Records part length) h = tt
unplaced t (Uneven part length expected) h = tt
unplaced t (Instruction at word limits) h = absurd (omega arith)

-- what a failed test says of its fact
fails : {F : Type 0} (r : Result Unit Refusal) (e : Refusal) → (F → r ≡ Ok tt) → r ≡ Err e → F → ⊥
fails r e pass h f = let o = pass f in let z : ◌≡◌ {A = ℕ} 0 1 = cc in omega arith

-- a law of what comes after a test, which may use what the test says
abbrev Law : List ℕ → Result Parts Refusal → Type 0
Law b (Ok t) = Lawful b
Law b (Err e) = Blamed b e

then_law : (b : List ℕ) (r : Result Unit Refusal) (s : Result Parts Refusal) → ((e : Refusal) → r ≡ Err e → Blamed b e) → (r ≡ Ok tt → Law b s) → Law b (r then s)
then_law b (Ok u) s f g = g refl
then_law b (Err e) s f g = f e refl

-- the number, where a test failed
number_told : (k : ℕ) (r : Result Unit Refusal) (e : Refusal) → Numbered k r → r ≡ Err e → number_of e ≡ k
unfolding Numbered
number_told k r e n h = subst (Numbered k) h n

blame_size : (b : List ℕ) (e : Refusal) → sized (length b) ≡ Err e → Blamed b e
blame_size b e h =
    let n = number_told 1 (sized (length b)) e (sized_number (length b)) h in
    record {
      size = λ k. fails (sized (length b)) e (sized_pass (length b)) h;
      sized = λ k. absurd (omega arith);
      place = λ k. absurd (omega arith);
      placed = λ k. absurd (omega arith);
      header = λ k. absurd (omega arith);
      headed = λ k. absurd (omega arith);
      first = unplaced (parts_of b) e (omega arith);
    }

blame_place : (b : List ℕ) (e : Refusal) → Sized b → placing (length b) (layout_of b) ≡ Err e → Blamed b e
blame_place b e s h =
    let n = number_told 2 (placing (length b) (layout_of b)) e (placing_number (length b) (layout_of b)) h in
    record {
      size = λ k. absurd (omega arith);
      sized = λ k. s;
      place = λ k. fails (placing (length b) (layout_of b)) e (places_pass (length b) (layout_of b)) h;
      placed = λ k. absurd (omega arith);
      header = λ k. absurd (omega arith);
      headed = λ k. absurd (omega arith);
      first = unplaced (parts_of b) e (omega arith);
    }

blame_header : (b : List ℕ) (e : Refusal) → Sized b → Ordered b → number_of e ≡ 3 → (Headed (layout_of b) → ⊥) → Blamed b e
blame_header b e s o n f =
    record {
      size = λ k. absurd (omega arith);
      sized = λ k. s;
      place = λ k. absurd (omega arith);
      placed = λ k. o;
      header = λ k. f;
      headed = λ k. absurd (omega arith);
      first = unplaced (parts_of b) e (omega arith);
    }

blame_word : (b : List ℕ) (e : Refusal) → Sized b → Ordered b → Headed (layout_of b) → number_of e ≡ 4 → Placed (parts_of b) e → Blamed b e
blame_word b e s o d n p =
    record {
      size = λ k. absurd (omega arith);
      sized = λ k. s;
      place = λ k. absurd (omega arith);
      placed = λ k. o;
      header = λ k. absurd (omega arith);
      headed = λ k. d;
      first = p;
    }

-- the walk, where all else is fine
walk_law : (b : List ℕ) (r : Result Unit Refusal) → Sized b → Ordered b → Headed (layout_of b) → Walked (parts_of b) 0 (instruction_count (parts_of b)) r → Law b (r then Ok (parts_of b))
unfolding Fine
walk_law b (Ok u) s o d w = record { size = s; places = o; header = d; decodes = λ i l. w i (omega arith) (omega arith) }
walk_law b (Err e) s o d w = blame_word b e s o d (ap number_of w.3) (walk_first (parts_of b) e w)

loading_law : (b : List ℕ) → Law b (loading b)
unfolding loading
loading_law b =
    let l : Layout = layout_of b in
    then_law b _ _ (blame_size b) (λ p. let s = sized_says (length b) p in
    then_law b _ _ (λ e. blame_place b e s) (λ q. let o = places_says (length b) l q in
    then_law b _ _ (λ e h. blame_header b e s o (number_told 3 (numbered l) e (numbered_number l) h) (fails (numbered l) e (numbers_pass l) h)) (λ n.
    then_law b _ _ (λ e h. blame_header b e s o (number_told 3 (measured l) e (measured_number l) h) (fails (measured l) e (lengths_pass l) h)) (λ m.
    walk_law b _ s o (header_says l n m) (walked (parts_of b) 0 (instruction_count (parts_of b)))))))

-- what is blamed is not lawful
blamed_unlawful : (b : List ℕ) (e : Refusal) → Blamed b e → Lawful b → ⊥
blamed_unlawful b (Size bytes) d l = d.size refl l.size
blamed_unlawful b (Begins part offset earliest) d l = d.place refl l.places
blamed_unlawful b (Ends part end bytes) d l = d.place refl l.places
blamed_unlawful b (Number field found) d l = d.header refl l.header
blamed_unlawful b (Records part length) d l = d.header refl l.header
blamed_unlawful b (Uneven part length expected) d l = d.header refl l.header
blamed_unlawful b (Instruction at word limits) d l = d.first.wrong (l.decodes at d.first.inside)

law_of : (b : List ℕ) (r : Result Parts Refusal) → Law b r → Loaded b r
law_of b (Ok t) h = h
law_of b (Err e) h = (blamed_unlawful b e h, h)

pub loaded : (b : List ℕ) (r : Result Parts Refusal) → r ≡ loading b → Loaded b r
loaded b r h = law_of b r (subst (Law b) (sym h) (loading_law b))
