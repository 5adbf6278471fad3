-- Lists: `{ , x }`, and `{ x }` up to a token that closes it.
use Rattle.std.specs.Prelude.{ℕ, zero, suc, List, [], ◌∷◌, ◌++◌, Option, length}
use Rattle.verilog_lex.specs.declared.token.Token.{Token}
use Rattle.verilog_reading.specs.Outcome.{Outcome, done, then_read, next, refuse}

module _ {A B : Type 0} (test : Token → Option B) (item : List Token → Outcome A) where
  -- at most so many turns
  abbrev pub more_in : ℕ → List Token → Outcome (List A)
  more_in zero = refuse
  more_in (suc n) = next test (λ _ ts. then_read (item ts) (λ a rest. then_read (more_in n rest) (λ bs. done (a ∷ bs)))) (done [])

  -- each turn takes a token
  abbrev pub more : List Token → Outcome (List A)
  more ts = more_in (suc (length ts)) ts

  -- the items, and which token closed them
  abbrev pub many_in : ℕ → List Token → Outcome (List A × B)
  many_in zero = refuse
  many_in (suc n) = next test (λ b. done ([], b)) (λ ts. then_read (item ts) (λ a rest. then_read (many_in n rest) (λ bs. done (a ∷ bs.0, bs.1))))

  abbrev pub many : List Token → Outcome (List A × B)
  many ts = many_in (suc (length ts)) ts

-- `{ , x }`, where any of the tokens separates
pub data AreMore {A B : Type 0} (tok : B → Token) (R : List Token → A → Type 0) : List Token → List A → Type 0 where
  no_more : AreMore tok R [] []
  one_more : (b : B) {u v : List Token} {a : A} {bs : List A} → R u a → AreMore tok R v bs → AreMore tok R (tok b ∷ (u ++ v)) (a ∷ bs)

-- `{ x }`
pub data AreMany {A : Type 0} (R : List Token → A → Type 0) : List Token → List A → Type 0 where
  none_of : AreMany R [] []
  one_of : {u v : List Token} {a : A} {bs : List A} → R u a → AreMany R v bs → AreMany R (u ++ v) (a ∷ bs)
