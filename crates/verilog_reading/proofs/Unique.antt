-- A list that reads, and is read within the depth of both, has one reading.
use Rattle.std.proofs.Common.{◌≡◌, ℕ, ◌+◌, List, [], sym, ap, ◌∙◌, arith}
use Rattle.verilog_lex.specs.declared.token.Token.{Token}
use Rattle.verilog_reading.specs.Outcome.{Outcome, done, stop}
use Rattle.verilog_reading.specs.Laws.{CompleteAtEachDepth, AtMostOneReading}

done_one : {A : Type 0} (a b : A) (rest : List Token) → done a rest ≡ done b rest → a ≡ b
done_one {A} a b rest e = ap value e
  where
    value : Outcome A → A
    value (done x r) = x
    value (stop d r) = a

pub one_reading : {A : Type 0} (R : List Token → A → Type 0) (tall : A → ℕ) (Ends : A → List Token → Type 0) (r : ℕ → List Token → Outcome A)
    → CompleteAtEachDepth R tall Ends r → ((a : A) → Ends a []) → AtMostOneReading R
one_reading R tall Ends r c e u a b p q = let k = tall a + tall b in
    done_one a b [] (sym (c u a p k (omega arith) [] (e a)) ∙ c u b q k (omega arith) [] (e b))
