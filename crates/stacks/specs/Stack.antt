-- What the calls of a stack answer, and what they leave. It is the list of its items, the topmost first.
use Rattle.std.specs.Prelude.{ℕ, ◌-◌, cond, List, [], ◌∷◌, length, drop, reverse, Some, None, Option, Ok, Err, Result, nat_le, nat_lt}
use Rattle.std.specs.List.{slice_get}
use Rattle.stacks.specs.declared.stack.Full.{Full}
use Rattle.stacks.specs.declared.stack.TooFew.{TooFew}

abbrev pub top_of : {A : Type 0} → List A → Option A
top_of [] = None
top_of (x ∷ xs) = Some x

abbrev pub rest : {A : Type 0} → List A → List A
rest [] = []
rest (x ∷ xs) = xs

-- the lowest n
abbrev pub lowest : {A : Type 0} → ℕ → List A → List A
lowest n xs = drop (length xs - n) xs

-- the topmost changed, if there is one
abbrev pub written : {A : Type 0} → A → List A → List A
written v [] = []
written v (x ∷ xs) = v ∷ xs

-- the one at place i, counted from the bottom
abbrev pub placed : {A : Type 0} → ℕ → List A → Option A
placed i xs = slice_get (reverse xs) i

-- there is room for so many
abbrev pub push_out : {A : Type 0} → ℕ → List A → Result Unit Full
push_out room xs = cond (nat_lt (length xs) room) (Ok tt) (Err (record {}))

abbrev pub push_left : {A : Type 0} → ℕ → A → List A → List A
push_left room x xs = cond (nat_lt (length xs) room) (x ∷ xs) xs

-- cutting to a length wants at least so many
abbrev pub cut_out : {A : Type 0} → ℕ → List A → Result Unit TooFew
cut_out n xs = cond (nat_le n (length xs)) (Ok tt) (Err (record {}))

abbrev pub cut_left : {A : Type 0} → ℕ → List A → List A
cut_left n xs = cond (nat_le n (length xs)) (lowest n xs) xs
