-- What a list's reader gives is read, and what it refuses can be completed: once for all lists.
use Rattle.std.proofs.Common.{false, ◌≡◌, ℕ, zero, suc, List, [], ◌∷◌, ◌++◌, Option, Some, refl, sym, ap, subst, ◌∙◌, append_assoc, append-nil, length}
use Rattle.verilog_lex.specs.declared.token.Token.{Token}
use Rattle.verilog_reading.specs.Outcome.{Outcome, done, then_read}
use Rattle.verilog_reading.specs.Lists.{more, more_in, many, many_in, AreMore, no_more, one_more, AreMany, none_of, one_of}
use Rattle.verilog_reading.specs.Laws.{Says}
use Rattle.verilog_reading.proofs.Says.{says_done, says_stop, says_then, says_next}

module _ {A B : Type 0} (test : Token → Option B) (item : List Token → Outcome A) (tok : B → Token) (is : (t : Token) (b : B) → test t ≡ Some b → t ≡ tok b)
    (R : List Token → A → Type 0) (said : (ts : List Token) → Says R ts (item ts)) where
  abbrev one_turn : ℕ → List Token → Outcome (List A)
  one_turn n ts = then_read (item ts) (λ a rest. then_read (more_in test item n rest) (λ bs. done (a ∷ bs)))

  says_more_in : (n : ℕ) (ts : List Token) → Says (AreMore tok R) ts (more_in test item n ts)
  says_more_in zero ts = says_stop (AreMore tok R) false [] [] no_more ts
  says_more_in (suc n) ts0 = says_next (AreMore tok R) test tok is (λ _. one_turn n) (done [])
      (λ b ts. says_then R (λ v. AreMore tok R (tok b ∷ v)) ts (item ts) (said ts) (λ a rest. then_read (more_in test item n rest) (λ bs. done (a ∷ bs)))
      (λ u a p rest. says_then (AreMore tok R) (λ v. AreMore tok R (tok b ∷ (u ++ v))) rest (more_in test item n rest) (says_more_in n rest) (λ bs. done (a ∷ bs))
      (λ w bs q. says_done (λ v. AreMore tok R (tok b ∷ (u ++ (w ++ v)))) (a ∷ bs)
      (subst (λ x. AreMore tok R (tok b ∷ (u ++ x)) (a ∷ bs)) (sym (append-nil w)) (one_more b p q)))))
      (says_done (AreMore tok R) [] no_more) ts0

  pub says_more : (ts : List Token) → Says (AreMore tok R) ts (more test item ts)
  says_more ts = says_more_in (suc (length ts)) ts

  -- items, and the token that closes them
  abbrev pub Closed : List Token → List A × B → Type 0
  Closed u rows = (v : List Token) × (u ≡ v ++ tok rows.1 ∷ []) × AreMany R v rows.0

  abbrev one_row : ℕ → List Token → Outcome (List A × B)
  one_row n ts = then_read (item ts) (λ a rest. then_read (many_in test item n rest) (λ bs. done (a ∷ bs.0, bs.1)))

  says_many_in : B → (n : ℕ) (ts : List Token) → Says Closed ts (many_in test item n ts)
  says_many_in b0 zero ts = says_stop Closed false (tok b0 ∷ []) ([], b0) ([], refl, none_of) ts
  says_many_in b0 (suc n) ts0 = says_next Closed test tok is (λ b. done ([], b)) (one_row n) (λ b. says_done (λ v. Closed (tok b ∷ v)) ([], b) ([], refl, none_of))
      (λ ts. says_then R Closed ts (item ts) (said ts) (λ a rest. then_read (many_in test item n rest) (λ bs. done (a ∷ bs.0, bs.1)))
      (λ u a p rest. says_then Closed (λ v. Closed (u ++ v)) rest (many_in test item n rest) (says_many_in b0 n rest) (λ bs. done (a ∷ bs.0, bs.1))
      (λ w bs q. says_done (λ v. Closed (u ++ (w ++ v))) (a ∷ bs.0, bs.1)
      (u ++ q.0, ap (λ x. u ++ x) (append-nil w ∙ q.1) ∙ sym (append_assoc u q.0 (tok bs.1 ∷ [])), one_of p q.2)))) ts0

  pub says_many : B → (ts : List Token) → Says Closed ts (many test item ts)
  says_many b0 ts = says_many_in b0 (suc (length ts)) ts
