-- Whole numbers, as the operators give them and as the definition has them.
use Rattle.std.proofs.Common.{◌≡◌, ℕ, ◌+◌, ◌-◌, ◌^◌, ◌<◌, ◌≤◌, Bool, true, false, cond, not, ◌==◌, nat_lt, nat_le, Option, Some, None, refl, sym, ap, ◌∙◌, arith, leb-true, le-leb, ltb-true}
use Rattle.std.specs.Prelude.{option_and_then}
use Rattle.verilog_ast.specs.declared.UnaryOp.{UnaryOp}
use Rattle.flat_form.specs.declared.flat.FUnaryOp.{FUnaryOp}
use Rattle.flat_form.specs.declared.flat.FUnaryOp.TheVariants as u
use Rattle.std.specs.Option.{option_map_or}
use Rattle.verilog_ast.specs.declared.BinaryOp.{BinaryOp}
use Rattle.verilog_ast.specs.declared.BinaryOp.TheVariants as b
use Rattle.cell_graph.specs.Tree.{number, bit_at}
use Rattle.cell_graph.proofs.Words.{bit-has, has-number}
use Rattle.flat_meaning.specs.Flat.{unary_size}
use Rattle.flat_meaning.specs.Fits.{has_cell}
use Rattle.flat_meaning.specs.Meaning.{unary}
use Rattle.flat_meaning.proofs.Words.{by_lt}
use Rattle.flat_form.specs.View.{unary_of, binary_of}
use Rattle.flat_form.specs.Whole as form
use Rattle.flat_form.specs.Whole.{judged, one_if}
use Rattle.flat_names.proofs.Options.{none-some, some-same}
use Rattle.flat_unfolding.specs.Constants.{plain_unary, own_unary, within, whole_plain, whole_unary, whole_binary}
use Rattle.flat_unfolding.specs.Expressions.{is_whole_only}

le-lt : (n m : ℕ) → nat_le n m ≡ nat_lt n (m + 1)
le-lt n m = go (nat_le n m) refl
  where
    go : (v : Bool) → nat_le n m ≡ v → nat_le n m ≡ nat_lt n (m + 1)
    go true e = by_lt (λ t. nat_le n m ≡ t) n (m + 1) (λ l. e) (λ l. absurd (let h = leb-true n m e in omega arith))
    go false e = by_lt (λ t. nat_le n m ≡ t) n (m + 1) (λ l. le-leb n m (omega arith)) (λ l. e)

pub judged-within : (w n : ℕ) → judged w n ≡ within w n
judged-within w n = go (w == 1)
  where
    go : (v : Bool) → cond (nat_le n (cond v 1 (2 ^ 31 - 1))) (Some n) None ≡ cond (nat_lt n (cond v 2 (2 ^ 31))) (Some n) None
    go true = ap (λ t. cond t (Some n) None) (le-lt n 1)
    go false = ap (λ t. cond t (Some n) None) (le-lt n (2 ^ 31 - 1))

judged-then : (w : ℕ) (m : Option ℕ) → option_and_then (judged w) m ≡ option_and_then (within w) m
judged-then w None = refl
judged-then w (Some n) = judged-within w n

-- the value that is judged is the value
pub within-same : (w n m : ℕ) → within w n ≡ Some m → within w m ≡ Some m
within-same w n m h = go (nat_lt n (cond (w == 1) 2 (2 ^ 31))) refl h
  where
    go : (v : Bool) → nat_lt n (cond (w == 1) 2 (2 ^ 31)) ≡ v → cond v (Some n) None ≡ Some m → within w m ≡ Some m
    go true e k = let s : n ≡ m = some-same n m k in ap (λ x. within w x) (sym s) ∙ h
    go false e k = none-some m k

pub within-limit : (w n m : ℕ) → within w n ≡ Some m → m < cond (w == 1) 2 (2 ^ 31)
within-limit w n m h = go (nat_lt n (cond (w == 1) 2 (2 ^ 31))) refl h
  where
    go : (v : Bool) → nat_lt n (cond (w == 1) 2 (2 ^ 31)) ≡ v → cond v (Some n) None ≡ Some m → m < cond (w == 1) 2 (2 ^ 31)
    go true e k = let s : n ≡ m = some-same n m k in let l = ltb-true n (cond (w == 1) 2 (2 ^ 31)) e in omega arith
    go false e k = none-some m k

pub within-below : (w n m : ℕ) → within w n ≡ Some m → m < 2 ^ 31
within-below w n m h = go (nat_lt n (cond (w == 1) 2 (2 ^ 31))) refl h
  where
    limit : (v : Bool) → cond v 2 (2 ^ 31) ≤ 2 ^ 31
    limit true = omega arith
    limit false = omega arith

    go : (v : Bool) → nat_lt n (cond (w == 1) 2 (2 ^ 31)) ≡ v → cond v (Some n) None ≡ Some m → m < 2 ^ 31
    go true e k = let s : n ≡ m = some-same n m k in let l = ltb-true n (cond (w == 1) 2 (2 ^ 31)) e in let j = limit (w == 1) in omega arith
    go false e k = none-some m k

-- one bit is within its bounds
flag-within : (b : Bool) → within 1 (cond b 1 0) ≡ Some (cond b 1 0)
flag-within true = refl
flag-within false = refl

one-bit : (f : ℕ → Bool) → number f 1 ≡ cond (f 0) 1 0
one-bit f = sym (has-number (bit-has (f 0) f refl))

flag-unary : (b : Bool) (n : ℕ) → n ≡ cond b 1 0 → Some (one_if b) ≡ within 1 n
flag-unary b n h = sym (flag-within b) ∙ ap (λ k. within 1 k) (sym h)

unary-some : (op : FUnaryOp) (w n : ℕ) → form.unary_number op w n ≡ within (unary_size (unary_of op) w) (whole_plain op w n)
unary-some u.Not w n = judged-within w (2 ^ 32 - 1 - n)
unary-some u.LogicNot w n = flag-unary _ _ (one-bit (unary (unary_of u.LogicNot) w (bit_at n)))
unary-some u.And w n = flag-unary _ _ (one-bit (unary (unary_of u.And) w (bit_at n)))
unary-some u.Or w n = flag-unary _ _ (one-bit (unary (unary_of u.Or) w (bit_at n)))
unary-some u.Xor w n = flag-unary _ _ (one-bit (unary (unary_of u.Xor) w (bit_at n)))
unary-some u.Nand w n = flag-unary _ _ (one-bit (unary (unary_of u.Nand) w (bit_at n)))
unary-some u.Nor w n = flag-unary _ _ (one-bit (unary (unary_of u.Nor) w (bit_at n)))
unary-some u.Xnor w n = flag-unary _ _ (one-bit (unary (unary_of u.Xnor) w (bit_at n)))

-- the value of a unary expression by its flat operator, and by none
abbrev whole_by : Option FUnaryOp → (w : ℕ) → Option ℕ → Option ℕ
whole_by o w a = option_and_then (λ m. option_and_then (within (option_map_or (λ f. unary_size (unary_of f) w) o w)) (option_map_or (λ f. Some (whole_plain f w m)) o (whole_binary b.Sub 0 m))) a

plain-by : (op : FUnaryOp) (w : ℕ) (a : Option ℕ) → form.unary_whole op w a ≡ whole_by (Some op) w a
plain-by op w None = refl
plain-by op w (Some n) = unary-some op w n

pub plain-whole : (op : UnaryOp) (f : FUnaryOp) (w : ℕ) (a : Option ℕ) → plain_unary op ≡ Some f
    → form.unary_whole f w a ≡ option_and_then (λ m. option_and_then (within (own_unary op w)) (whole_unary op w m)) a
plain-whole op f w a e = plain-by f w a ∙ ap (λ o. whole_by o w a) (sym e)

not-lt : (m n : ℕ) → not (nat_lt n m) ≡ nat_le m n
not-lt m n = by_lt (λ t. not t ≡ nat_le m n) n m (λ l. go (nat_le m n) refl l) (λ l. sym (le-leb m n l))
  where
    go : (v : Bool) → nat_le m n ≡ v → n < m → false ≡ nat_le m n
    go true e l = absurd (let h = leb-true m n e in omega arith)
    go false e l = sym e

less-le : (m n : ℕ) (a b : Option ℕ) → cond (nat_le n m) a b ≡ cond (nat_lt m n) b a
less-le m n a b = ap (λ t. cond t a b) (sym (not-lt n m)) ∙ go (nat_lt m n)
  where
    go : (v : Bool) → cond (not v) a b ≡ cond v b a
    go true = refl
    go false = refl

binary-some : (op : BinaryOp) (m n : ℕ) → form.binary_number op m n ≡ whole_binary op m n
binary-some b.Mul m n = refl
binary-some b.Div m n = refl
binary-some b.Mod m n = refl
binary-some b.Add m n = refl
binary-some b.Sub m n = less-le m n (Some (m - n)) None
binary-some b.Shl m n = refl
binary-some b.Shr m n = refl
binary-some b.Lt m n = refl
binary-some b.Le m n = ap (λ t. Some (cond t 1 0)) (not-lt m n)
binary-some b.Gt m n = refl
binary-some b.Ge m n = ap (λ t. Some (cond t 1 0)) (not-lt n m)
binary-some b.Eq m n = refl
binary-some b.Ne m n = refl
binary-some b.And m n = refl
binary-some b.Xor m n = refl
binary-some b.Xnor m n = refl
binary-some b.Or m n = refl
binary-some b.LogicAnd m n = refl
binary-some b.LogicOr m n = refl

pub binary-whole : (op : BinaryOp) (w : ℕ) (a b : Option ℕ) → form.binary_whole op w a b ≡ option_and_then (λ m. option_and_then (λ n. option_and_then (within w) (whole_binary op m n)) b) a
binary-whole op w None b = refl
binary-whole op w (Some m) None = refl
binary-whole op w (Some m) (Some n) = ap (option_and_then (judged w)) (binary-some op m n) ∙ judged-then w (whole_binary op m n)

pub minus-whole : (op : UnaryOp) (w : ℕ) (a : Option ℕ) → plain_unary op ≡ None
    → form.binary_whole b.Sub w (Some 0) a ≡ option_and_then (λ m. option_and_then (within (own_unary op w)) (whole_unary op w m)) a
minus-whole op w a e = binary-whole b.Sub w (Some 0) a ∙ ap (λ o. whole_by o w a) (sym e)

pub choice-whole : (w : ℕ) (c x y : Option ℕ) → form.choice_whole w c x y ≡ option_and_then (λ k. option_and_then (within w) (cond (k == 0) y x)) c
choice-whole w None x y = refl
choice-whole w (Some n) x y = judged-then w (cond (n == 0) y x)

pub whole-only : (op : BinaryOp) → not (has_cell (binary_of op)) ≡ is_whole_only op
whole-only b.Mul = refl
whole-only b.Div = refl
whole-only b.Mod = refl
whole-only b.Add = refl
whole-only b.Sub = refl
whole-only b.Shl = refl
whole-only b.Shr = refl
whole-only b.Lt = refl
whole-only b.Le = refl
whole-only b.Gt = refl
whole-only b.Ge = refl
whole-only b.Eq = refl
whole-only b.Ne = refl
whole-only b.And = refl
whole-only b.Xor = refl
whole-only b.Xnor = refl
whole-only b.Or = refl
whole-only b.LogicAnd = refl
whole-only b.LogicOr = refl
