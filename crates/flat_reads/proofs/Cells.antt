-- What the cells of trees read.
use Rattle.std.proofs.Common.{◌≡◌, ℕ, zero, suc, ◌+◌, ◌-◌, ◌*◌, ◌^◌, ◌≤◌, Bool, true, false, cond, ◌&&◌, ◌||◌, ◌==◌, nat_lt, refl, sym, ap, ap₂, subst, ◌∙◌, arith, pow_pos, lt-ltb, eqb-true, eq-eqb, ne_eqb, suc-mul}
use Rattle.cell_graph.specs.Tree.{Tree, Const, Not, And, Or, Xor, Add, Sub, Eq, Lt, Shl, Shr, Mux, Concat, Slice, Extend, ReduceAnd, ReduceOr, ReduceXor}
use Rattle.flat_meaning.specs.Flat.{UnaryOp, complement, logical_not, reduce_and, reduce_or, reduce_xor, reduce_nand, reduce_nor, reduce_xnor, BinaryOp, times, divided, remainder, plus, minus, shift_left, shift_right, is_less, is_at_most, is_greater, is_at_least, is_equal, is_unequal, bitwise_and, bitwise_or, bitwise_xor, bitwise_xnor, logical_and, logical_or}
use Rattle.flat_meaning.specs.Trees.{fit, cut, glue, truth, copies_tree, unary_tree, binary_tree, part_tree, picked}
use Rattle.flat_meaning.specs.Fits.{has_cell}
use Rattle.flat_meaning.specs.Deps.{Bits, none, union, span, is_all}
use Rattle.flat_meaning.proofs.Words.{never_same}
use Rattle.flat_meaning.proofs.Targets.{part_all}
use Rattle.flat_reads.specs.Marks.{marked, sliced, marks}

pub or_swap : (a b : Bool) → (a || b) ≡ (b || a)
or_swap true true = refl
or_swap true false = refl
or_swap false true = refl
or_swap false false = refl

pub or_none : (a : Bool) → (a || false) ≡ a
or_none true = refl
or_none false = refl

pub or_same : (a : Bool) → (a || a) ≡ a
or_same true = refl
or_same false = refl

pub or_more : (a b c : Bool) → ((a || b) || c) ≡ (a || (b || c))
or_more true b c = refl
or_more false b c = refl

-- the tree reads just those bits; a slice of it reads the same, as it is no bare signal
pub record Reads (t : Tree) (b : Bits) : Type 0 where
  pub sliced_too : (at w : ℕ) (d : Bits) → sliced t at w d ≡ d
  pub same : (s j : ℕ) → marks t s j ≡ b s j

pub reads_as : {t : Tree} {b c : Bits} → Reads t b → ((s j : ℕ) → b s j ≡ c s j) → Reads t c
reads_as p h = record { sliced_too = p.sliced_too; same = λ s j. p.same s j ∙ h s j }

pub const_reads : (w v : ℕ) → Reads (Const w v) none
const_reads w v = record { sliced_too = λ at n d. refl; same = λ s j. refl }

pub marked_reads : (s at w : ℕ) → Reads (marked s at w) (span s at w)
marked_reads s at w = record { sliced_too = λ at n d. refl; same = λ s j. refl }

module _ {t : Tree} {b : Bits} (p : Reads t b) where
  not_reads : Reads (Not t) b
  not_reads = record { sliced_too = λ at n d. refl; same = p.same }

  all_reads : Reads (ReduceAnd t) b
  all_reads = record { sliced_too = λ at n d. refl; same = p.same }

  any_reads : Reads (ReduceOr t) b
  any_reads = record { sliced_too = λ at n d. refl; same = p.same }

  odd_reads : Reads (ReduceXor t) b
  odd_reads = record { sliced_too = λ at n d. refl; same = p.same }

  pub slice_reads : (at w : ℕ) → Reads (Slice t at w) b
  slice_reads at w = record { sliced_too = λ at n d. refl; same = λ s j. ap (λ (d : Bits). d s j) (p.sliced_too at w (marks t)) ∙ p.same s j }

  pub fit_reads : (W w : ℕ) → Reads (fit W w t) b
  fit_reads W w = go (nat_lt w W)
    where
      go : (u : Bool) → Reads (cond u (Extend t W) t) b
      go true = record { sliced_too = λ at n d. refl; same = p.same }
      go false = p

  pub cut_reads : (n at w : ℕ) → Reads (cut n at w t) b
  cut_reads n at w = go (n == w)
    where
      go : (u : Bool) → Reads (cond u t (Slice t at w)) b
      go true = p
      go false = slice_reads at w

  pub truth_reads : (w : ℕ) → Reads (truth w t) b
  truth_reads w = go (w == 1)
    where
      go : (u : Bool) → Reads (cond u t (ReduceOr t)) b
      go true = p
      go false = any_reads

pub unary_reads : {t : Tree} {b : Bits} (op : UnaryOp) (W w : ℕ) → Reads t b → Reads (unary_tree op W w t) b
unary_reads complement W w p = not_reads p
unary_reads logical_not W w p = fit_reads (not_reads (truth_reads p w)) W 1
unary_reads reduce_and W w p = fit_reads (all_reads p) W 1
unary_reads reduce_or W w p = fit_reads (any_reads p) W 1
unary_reads reduce_xor W w p = fit_reads (odd_reads p) W 1
unary_reads reduce_nand W w p = fit_reads (not_reads (all_reads p)) W 1
unary_reads reduce_nor W w p = fit_reads (not_reads (any_reads p)) W 1
unary_reads reduce_xnor W w p = fit_reads (not_reads (odd_reads p)) W 1

module _ {t u : Tree} {b c : Bits} (p : Reads t b) (q : Reads u c) where
  both : (s j : ℕ) → (marks t s j || marks u s j) ≡ (b s j || c s j)
  both s j = ap₂ (λ x y. x || y) (p.same s j) (q.same s j)

  and_reads : Reads (And t u) (union b c)
  and_reads = record { sliced_too = λ at n d. refl; same = both }

  pub or_reads : Reads (Or t u) (union b c)
  or_reads = record { sliced_too = λ at n d. refl; same = both }

  xor_reads : Reads (Xor t u) (union b c)
  xor_reads = record { sliced_too = λ at n d. refl; same = both }

  add_reads : Reads (Add t u) (union b c)
  add_reads = record { sliced_too = λ at n d. refl; same = both }

  sub_reads : Reads (Sub t u) (union b c)
  sub_reads = record { sliced_too = λ at n d. refl; same = both }

  pub eq_reads : Reads (Eq t u) (union b c)
  eq_reads = record { sliced_too = λ at n d. refl; same = both }

  lt_reads : Reads (Lt t u) (union b c)
  lt_reads = record { sliced_too = λ at n d. refl; same = both }

  gt_reads : Reads (Lt u t) (union b c)
  gt_reads = record { sliced_too = λ at n d. refl; same = λ s j. or_swap (marks u s j) (marks t s j) ∙ both s j }

  shl_reads : Reads (Shl t u) (union b c)
  shl_reads = record { sliced_too = λ at n d. refl; same = both }

  pub shr_reads : Reads (Shr t u) (union b c)
  shr_reads = record { sliced_too = λ at n d. refl; same = both }

  concat_reads : Reads (Concat t u) (union b c)
  concat_reads = record { sliced_too = λ at n d. refl; same = both }

  -- a word of no bits is left out, and reads nothing
  pub glue_reads : (m n : ℕ) → (m ≡ 0 → (s j : ℕ) → b s j ≡ false) → (n ≡ 0 → (s j : ℕ) → c s j ≡ false) → Reads (glue m t n u) (union b c)
  glue_reads m n h k = go (n == 0) (m == 0) refl refl
    where
      go : (x y : Bool) → (n == 0) ≡ x → (m == 0) ≡ y → Reads (cond x t (cond y u (Concat t u))) (union b c)
      go true y d e = reads_as p (λ s j. sym (ap (λ z. b s j || z) (k (eqb-true n 0 d) s j) ∙ or_none (b s j)))
      go false true d e = reads_as q (λ s j. sym (ap (λ z. z || c s j) (h (eqb-true m 0 e) s j)))
      go false false d e = concat_reads

pub mux_reads : {t u v : Tree} {a b c : Bits} → Reads t a → Reads u b → Reads v c → Reads (Mux t u v) (union a (union b c))
mux_reads p q o = record { sliced_too = λ at n d. refl; same = λ s j. ap₂ (λ x y. x || y) (p.same s j) (both q o s j) }

pub binary_reads : {t u : Tree} {b c : Bits} (op : BinaryOp) (W m n : ℕ) → has_cell op ≡ true → Reads t b → Reads u c → Reads (binary_tree op W m n t u) (union b c)
binary_reads times W m n h p q = never_same (sym h)
binary_reads divided W m n h p q = never_same (sym h)
binary_reads remainder W m n h p q = never_same (sym h)
binary_reads plus W m n h p q = add_reads p q
binary_reads minus W m n h p q = sub_reads p q
binary_reads shift_left W m n h p q = shl_reads p q
binary_reads shift_right W m n h p q = shr_reads p q
binary_reads is_less W m n h p q = fit_reads (lt_reads p q) W 1
binary_reads is_at_most W m n h p q = fit_reads (not_reads (gt_reads p q)) W 1
binary_reads is_greater W m n h p q = fit_reads (gt_reads p q) W 1
binary_reads is_at_least W m n h p q = fit_reads (not_reads (lt_reads p q)) W 1
binary_reads is_equal W m n h p q = fit_reads (eq_reads p q) W 1
binary_reads is_unequal W m n h p q = fit_reads (not_reads (eq_reads p q)) W 1
binary_reads bitwise_and W m n h p q = and_reads p q
binary_reads bitwise_or W m n h p q = or_reads p q
binary_reads bitwise_xor W m n h p q = xor_reads p q
binary_reads bitwise_xnor W m n h p q = not_reads (xor_reads p q)
binary_reads logical_and W m n h p q = fit_reads (and_reads (truth_reads p m) (truth_reads q n)) W 1
binary_reads logical_or W m n h p q = fit_reads (or_reads (truth_reads p m) (truth_reads q n)) W 1

pub copies_reads : {t : Tree} {b : Bits} (n w : ℕ) → 1 ≤ n → Reads t b → (w ≡ 0 → (s j : ℕ) → b s j ≡ false) → Reads (copies_tree n w t) b
copies_reads {t} {b} zero w l p h = absurd (omega arith)
copies_reads {t} {b} (suc zero) w l p h = reads_as (glue_reads p (const_reads 0 0) w (0 * w) h (λ e s j. refl)) (λ s j. or_none (b s j))
copies_reads {t} {b} (suc (suc n)) w l p h = reads_as (glue_reads p (copies_reads (suc n) w (omega arith) p h) w (suc n * w) h (λ e. h (no_bits n w e))) (λ s j. or_same (b s j))
  where
    no_bits : (n w : ℕ) → suc n * w ≡ 0 → w ≡ 0
    no_bits n w e = let k : suc n * w ≡ n * w + w = suc-mul n w in omega arith

-- a word at a place of an old one reads what both do, unless it is all of it
pub part_reads : {new old : Tree} {b c : Bits} (n at w : ℕ) → 1 ≤ w → at + w ≤ n → Reads new b → Reads old c → Reads (part_tree n at w new old) (cond (is_all n w) b (union b c))
part_reads {new} {old} {b} {c} n at w some room p q = go (w == n) refl
  where
    high : Reads (Slice old (at + w) (n - (at + w))) c
    high = slice_reads q (at + w) (n - (at + w))

    low : Reads (Slice old 0 at) c
    low = slice_reads q 0 at

    positive : nat_lt 0 w ≡ true
    positive = lt-ltb 0 w some

    full : is_all n w ≡ true → Reads (part_tree n at w new old) b
    full e = subst (λ (t : Tree). Reads t b) (sym (part_all n at w new old e room)) p

    rests : (x y : Bool) → (at == 0) ≡ x → ((n - (at + w)) == 0) ≡ y → (w == n) ≡ false
        → Reads (cond y (cond x new (Concat new (Slice old 0 at))) (Concat (Slice old (at + w) (n - (at + w))) (cond x new (Concat new (Slice old 0 at))))) (union b c)
    rests true true d e f = let h = eqb-true at 0 d in let k = eqb-true (n - (at + w)) 0 e in never_same (sym (eq-eqb w n (omega arith)) ∙ f)
    rests true false d e f = reads_as (concat_reads high p) (λ s j. or_swap (c s j) (b s j))
    rests false true d e f = concat_reads p low
    rests false false d e f = reads_as (concat_reads high (concat_reads p low)) (λ s j. around (b s j) (c s j))
      where
        around : (b c : Bool) → (c || (b || c)) ≡ (b || c)
        around true true = refl
        around true false = refl
        around false true = refl
        around false false = refl

    -- the new word has a bit
    left_in : (z v x y : Bool) → z ≡ false → v ≡ false
        → Reads (cond y (cond x new (Concat new (Slice old 0 at))) (Concat (Slice old (at + w) (n - (at + w))) (cond x new (Concat new (Slice old 0 at))))) (union b c)
        → Reads (cond z (Slice old (at + w) (n - (at + w))) (cond y (cond x new (cond v (Slice old 0 at) (Concat new (Slice old 0 at)))) (Concat (Slice old (at + w) (n - (at + w))) (cond x new (cond v (Slice old 0 at) (Concat new (Slice old 0 at))))))) (union b c)
    left_in true v x y h k r = never_same h
    left_in false true x y h k r = never_same k
    left_in false false x y h k r = r

    go : (u : Bool) → (w == n) ≡ u → Reads (part_tree n at w new old) (cond (is_all n w) b (union b c))
    go true e = let all : is_all n w ≡ true = ap₂ (λ x y. x && y) positive e in
        subst (λ (u : Bool). Reads (part_tree n at w new old) (cond u b (union b c))) (sym all) (full all)
    go false e = let all : is_all n w ≡ false = ap₂ (λ x y. x && y) positive e in
        subst (λ (u : Bool). Reads (part_tree n at w new old) (cond u b (union b c))) (sym all)
        (left_in (w + at == 0) (w == 0) (at == 0) (n - (at + w) == 0) (ne_eqb (w + at) 0 (λ x. omega arith)) (ne_eqb w 0 (λ x. omega arith)) (rests (at == 0) (n - (at + w) == 0) refl refl e))

-- one bit, chosen by an index, is new
pub picked_reads : {index new old : Tree} {a b c : Bits} (m k : ℕ) → Reads index a → Reads new b → Reads old c → Reads (picked index m new old (suc k)) (union a (union b c))
picked_reads {index} {new} {old} {a} {b} {c} m k p q o = go k
  where
    chosen : (k : ℕ) → Reads (Mux (Eq index (Const m k)) new (Slice old k 1)) (union a (union b c))
    chosen k = reads_as (mux_reads (eq_reads p (const_reads m k)) q (slice_reads o k 1)) (λ s j. ap (λ x. x || (b s j || c s j)) (or_none (a s j)))

    bit : (k : ℕ) (u : Bool) → Reads (cond u (Mux (Eq index (Const m k)) new (Slice old k 1)) (Slice old k 1)) (cond u (union a (union b c)) c)
    bit k true = chosen k
    bit k false = slice_reads o k 1

    joined : (u a b c : Bool) → (cond u (a || (b || c)) c || (a || (b || c))) ≡ (a || (b || c))
    joined true a b c = or_same (a || (b || c))
    joined false true true true = refl
    joined false true true false = refl
    joined false true false true = refl
    joined false true false false = refl
    joined false false true true = refl
    joined false false true false = refl
    joined false false false true = refl
    joined false false false false = refl

    pick : (u : Bool) (s j : ℕ) → cond u (union a (union b c)) c s j ≡ cond u (a s j || (b s j || c s j)) (c s j)
    pick true s j = refl
    pick false s j = refl

    go : (k : ℕ) → Reads (picked index m new old (suc k)) (union a (union b c))
    go zero = subst (λ (u : Bool). Reads (glue 1 (cond u (Mux (Eq index (Const m 0)) new (Slice old 0 1)) (Slice old 0 1)) 0 (Const 0 0)) (union a (union b c))) (sym (lt-ltb 0 (2 ^ m) (pow_pos m))) (chosen 0)
    go (suc k) = let u = nat_lt (suc k) (2 ^ m) in
        reads_as (glue_reads (bit (suc k) u) (go k) 1 (suc k) (λ e. absurd (omega arith)) (λ e. absurd (omega arith)))
        (λ s j. ap (λ x. x || (a s j || (b s j || c s j))) (pick u s j) ∙ joined u (a s j) (b s j) (c s j))
