use Rattle.std.proofs.Common.{◌≡◌, ℕ, zero, suc, ◌<◌, ◌==◌, false, refl, ap, ◌∙◌, arith}
use Rattle.std.specs.Int.{w64}
use Rattle.std.specs.Int.Count.{count_trailing_zeros, trailing_of_zero}
use Rattle.std.proofs.lemmas.Nat.Bits.{bit_at-trailing_zeros}
use Rattle.cell_graph.specs.Tree.{bit_at}
use Rattle.cell_graph.proofs.Words.{bit-zero}
use Rattle.flat_form.proofs.bits.lowest.Goals as goal

pub returns-clause-none : goal.returns-clause-none
returns-clause-none c = λ e. ap (count_trailing_zeros 64) e ∙ trailing_of_zero 64

pub returns-clause-set : goal.returns-clause-set
returns-clause-set c = λ n. ap (λ k. k == 1) (bit_at-trailing_zeros w64 c.args.word (omega arith) (omega arith)).1

pub returns-clause-lowest : goal.returns-clause-lowest
returns-clause-lowest c = go c.args.word refl
  where
    go : (w : ℕ) → c.args.word ≡ w → (i : ℕ) → i < count_trailing_zeros 64 c.args.word → bit_at c.args.word i ≡ false
    go zero e = λ i l. ap (λ k. bit_at k i) e ∙ bit-zero i
    go (suc w) e = λ i l. ap (λ k. k == 1) ((bit_at-trailing_zeros w64 c.args.word (omega arith) (omega arith)).2 i l)
