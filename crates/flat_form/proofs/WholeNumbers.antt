-- Numbers that break their bounds.
use Rattle.std.proofs.Common.{◌≡◌, ◌≢◌, ℕ, zero, suc, ◌-◌, ◌*◌, ◌^◌, ◌<◌, ◌≤◌, Bool, true, false, cond, ◌==◌, nat_le, Option, Some, None, refl, sym, ap, ◌∙◌, arith, mul-suc, leb-true, le-leb, ne_eqb}
use Rattle.std.specs.Option.{option_and_then, SomeIff}
use Rattle.std.proofs.Math.Pow.{pow_mono}
use Rattle.flat_form.specs.declared.flat.FUnaryOp.{FUnaryOp}
use Rattle.flat_form.specs.declared.flat.FUnaryOp.TheVariants as u
use Rattle.verilog_ast.specs.declared.BinaryOp.{BinaryOp}
use Rattle.verilog_ast.specs.declared.BinaryOp.TheVariants as b
use Rattle.cell_graph.specs.Tree.{bit_at}
use Rattle.flat_meaning.specs.Meaning.{unary}
use Rattle.flat_meaning.proofs.Words.{by_lt}
use Rattle.flat_form.specs.View.{unary_of}
use Rattle.flat_form.specs.Operators.{comparison}
use Rattle.flat_form.specs.Whole.{judged, one_if, unary_number, binary_number}
use Rattle.flat_form.proofs.Numbers.{IsOther}

le-no : (m n : ℕ) → n < m → nat_le m n ≡ false
le-no m n h = go (nat_le m n) refl
  where
    go : (v : Bool) → nat_le m n ≡ v → nat_le m n ≡ false
    go true e = absurd (let l = leb-true m n e in omega arith)
    go false e = e

-- a number of 32 bits or more is past both bounds
pub judged-big : (w n : ℕ) → 2 ^ 31 ≤ n → judged w n ≡ None
judged-big w n h = go (w == 1)
  where
    go : (v : Bool) → cond (nat_le n (cond v 1 (2 ^ 31 - 1))) (Some n) None ≡ None
    go true = ap (λ t. cond t (Some n) None) (le-no n 1 (omega arith))
    go false = ap (λ t. cond t (Some n) None) (le-no n (2 ^ 31 - 1) (omega arith))

-- a checked operation that fails is past them
pub judged-checked : (w n : ℕ) (r : Option ℕ) → SomeIff r (n < 2 ^ 64) n → option_and_then (judged w) r ≡ judged w n
judged-checked w n None h = sym (judged-big w n (by_lt (λ t. 2 ^ 31 ≤ n) n (2 ^ 64) (λ l. absurd (h l)) (λ l. omega arith)))
judged-checked w n (Some m) h = ap (judged w) h.1

-- a division that fails is by 0, and a difference that fails is below 0
pub divides : (n v : ℕ) (r : Option ℕ) → SomeIff r (0 < n) v → r ≡ cond (n == 0) None (Some v)
divides zero v None h = refl
divides zero v (Some m) h = absurd (let l = h.0 in omega arith)
divides (suc n) v None h = absurd (h (omega arith))
divides (suc n) v (Some m) h = ap Some h.1 ∙ ap (λ t. cond t None (Some v)) (sym (ne_eqb (suc n) 0 (λ e. omega arith)))

pub takes : (m n v : ℕ) (r : Option ℕ) → SomeIff r (n ≤ m) v → r ≡ cond (nat_le n m) (Some v) None
takes m n v None h = ap (λ t. cond t (Some v) None) (sym (le-no n m (by_lt (λ t. m < n) m n (λ l. l) (λ l. absurd (h l)))))
takes m n v (Some k) h = ap Some h.1 ∙ ap (λ t. cond t (Some v) None) (sym (le-leb n m h.0))

no-less : (a b : ℕ) → 1 ≤ b → a ≤ a * b
no-less a zero h = absurd (omega arith)
no-less a (suc b) h = let p = mul-suc a b in omega arith

pub moved-big : (w a by : ℕ) → 1 ≤ a → 31 < by → None ≡ judged w (a * 2 ^ by)
moved-big w a by h k = sym (judged-big w (a * 2 ^ by) (let p : 2 ^ 31 ≤ 2 ^ by = pow_mono (let l : 31 ≤ by = omega arith in l) in let q = no-less (2 ^ by) a h in let c : 2 ^ by * a ≡ a * 2 ^ by = grind arith in omega arith))

pub other-number : (op : BinaryOp) (m n : ℕ) → IsOther op → binary_number op m n ≡ Some (one_if (comparison op m n))
other-number b.Mul m n o = absurd (o.times refl)
other-number b.Div m n o = absurd (o.divided refl)
other-number b.Mod m n o = absurd (o.remainder refl)
other-number b.Add m n o = absurd (o.plus refl)
other-number b.Sub m n o = absurd (o.minus refl)
other-number b.And m n o = absurd (o.both refl)
other-number b.Xor m n o = absurd (o.differ refl)
other-number b.Xnor m n o = absurd (o.agree refl)
other-number b.Or m n o = absurd (o.either refl)
other-number b.Shl m n o = absurd (o.up refl)
other-number b.Shr m n o = absurd (o.down refl)
other-number b.Lt m n o = refl
other-number b.Le m n o = refl
other-number b.Gt m n o = refl
other-number b.Ge m n o = refl
other-number b.Eq m n o = refl
other-number b.Ne m n o = refl
other-number b.LogicAnd m n o = refl
other-number b.LogicOr m n o = refl

pub other-unary : (op : FUnaryOp) (w n : ℕ) → op ≢ u.Not → unary_number op w n ≡ Some (one_if (unary (unary_of op) w (bit_at n) 0))
other-unary u.Not w n h = absurd (h refl)
other-unary u.LogicNot w n h = refl
other-unary u.And w n h = refl
other-unary u.Or w n h = refl
other-unary u.Xor w n h = refl
other-unary u.Nand w n h = refl
other-unary u.Nor w n h = refl
other-unary u.Xnor w n h = refl

-- what the code owes for an operator
abbrev pub GivesNumber : BinaryOp → (m n : ℕ) → Option ℕ → Type 0
GivesNumber op m n r = (w : ℕ) → option_and_then (judged w) r ≡ option_and_then (judged w) (binary_number op m n)
