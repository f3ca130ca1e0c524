-- One line more that is answered, and the end of the lines.
use Rattle.std.proofs.Common.{◌≡◌, ℕ, ◌<◌, List, [], ◌∷◌, ◌++◌, length, Option, Some, None, IfSome, refl, ap, sym, subst}
use Rattle.std.proofs.lemmas.Fn.{FoldsTo-push}
use Rattle.std.specs.Io.BufRead.{drop_through, first_line, DropsThrough}
use Rattle.std.specs.Io.KnownBytes.{Appends, IsAtEnd}
use Rattle.case_lines.specs.Lines.{AnswersLines, AnswersSome, IsTurn}

appended : (xs : List ℕ) (after : Option (List ℕ)) (bs : List ℕ) → Appends (Some xs) after bs → after ≡ Some (xs ++ bs)
appended xs None bs w = absurd w
appended xs (Some ys) bs w = ap Some w

module _ (Tells : List ℕ → List ℕ → Type 0) where
  pub answers_none : (read left old : Option (List ℕ)) → left ≡ read → AnswersSome Tells read left old old
  answers_none None left old e = tt
  answers_none (Some bytes) left None e = tt
  answers_none (Some bytes) left (Some held) e = ([], bytes, held, e, refl, refl)

  pub answers_more : (read left next old new after : Option (List ℕ)) (line said : List ℕ) → AnswersSome Tells read left old new →
      IfSome left (λ xs. (0 < length xs) × (line ≡ first_line xs)) → DropsThrough left next 10 → Tells line said → Appends new after (said ++ 10 ∷ []) →
      AnswersSome Tells read next old after
  answers_more None left next old new after line said a b d s w = tt
  answers_more (Some bytes) left next None new after line said a b d s w = tt
  answers_more (Some bytes) left next (Some held) new after line said a b d s w =
      let f = subst (λ o. IfSome o (λ xs. (0 < length xs) × (line ≡ first_line xs))) a.3 b in
      let r = subst (λ o. DropsThrough o next 10) a.3 d in
      let v = appended a.2 after (said ++ 10 ∷ []) (subst (λ o. Appends o after (said ++ 10 ∷ [])) a.4 w) in
      let turn : IsTurn Tells (record { left = a.1; written = a.2 }) said (record { left = drop_through 10 a.1; written = a.2 ++ (said ++ 10 ∷ []) }) =
      record { more = f.0; tells = subst (λ l. Tells l said) f.1 s; read = refl; wrote = refl } in
      (a.0 ++ said ∷ [], drop_through 10 a.1, a.2 ++ (said ++ 10 ∷ []), r, v, FoldsTo-push (IsTurn Tells) _ a.0 _ said _ a.5 turn)

  pub answers_all : (read left old new : Option (List ℕ)) → AnswersSome Tells read left old new → IsAtEnd left → AnswersLines Tells read old new
  answers_all None left old new a e = tt
  answers_all (Some bytes) left None new a e = tt
  answers_all (Some bytes) left (Some held) new a e =
      (a.0, a.1, a.2, ap Some (sym (subst IsAtEnd a.3 e)), a.4, a.5)
