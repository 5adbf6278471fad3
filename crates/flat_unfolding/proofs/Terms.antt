-- Expressions that break no rule are well sized.
use Rattle.std.proofs.Common.{◌≡◌, ℕ, zero, suc, ◌+◌, ◌-◌, ◌*◌, ◌^◌, ◌/◌, ◌<◌, ◌≤◌, max, Bool, true, false, cond, not, ◌&&◌, ◌==◌, nat_lt, nat_le, List, [], ◌∷◌, ◌++◌, Option, Some, None, refl, ap, ap₂, arith, rules, ltb-true, ltb-false, leb-true}
use Rattle.std.specs.Prelude.{option_and_then}
use Rattle.std.proofs.lemmas.Nat.{pow_pos}
use Rattle.std.proofs.Math.Nat.{mod-lt}
use Rattle.std.proofs.Math.Pow.{pow-lt}
use Rattle.cdc_base.specs.declared.signal.ResetPin.{ResetPin}
use Rattle.verilog_ast.specs.declared.UnaryOp.{UnaryOp}
use Rattle.verilog_ast.specs.declared.PartKind.{PartKind}
use Rattle.verilog_ast.specs.declared.BinaryOp.{BinaryOp}
use Rattle.verilog_ast.specs.declared.BinaryOp.TheVariants as b
use Rattle.verilog_reading.specs.ExprTree.{ExprTree, number, name, index, part, unary, binary, choice, join, repeat, paren, ExprTrees, no_trees, and_trees}
use Rattle.flat_meaning.specs.Flat as f
use Rattle.flat_meaning.specs.Flat.{Expr, Number, Read, At, Unary, Binary, Choose, Gate, Join, Repeat, Exprs, no_exprs, expr, size, sizes, largest, unary_size, binary_size}
use Rattle.flat_meaning.specs.Fits.{has_cell}
use Rattle.flat_meaning.specs.Law.{AreWords}
use Rattle.flat_form.specs.declared.flat.FUnaryOp.{FUnaryOp}
use Rattle.flat_form.specs.View.{binary_of}
use Rattle.flat_unfolding.specs.Outcome.{Text, Broken, breaks, breaks_if}
use Rattle.flat_unfolding.specs.Names.{Range, width_of, Param, Memory, Meaning, a_param, a_signal, a_memory, no_value, Names, Look, meaning, width_at, range_at, reset_at, level, bits_read, whole_of, unknown}
use Rattle.flat_unfolding.specs.Constants.{own_value, counted_size, plain_unary, within, whole, whole_unary, whole_binary, size_in}
use Rattle.flat_unfolding.specs.Signs.{compares_signed, is_unsized}
use Rattle.flat_unfolding.specs.Expressions.{Term, is_empty, is_sound, all_broken, all_sound, joined, spoilt, no_expr, also, as_bound, as_count, as_second, range_of, Select, bit_select, kind_select, may_index, word_of, unary_expr, unary_term, is_whole_only, binary_term, choice_term, join_term, repeat_term, meant_term, param_bits, signal_bits, word_bits, param_index, signal_index, words_from, memory_index, is_param, meant_index, index_term, meant_part, part_term, whole_number, judged_whole, read, read_parts}
use Rattle.flat_unfolding.specs.Formed.{IsFormed, AreFormed, AreSome}
use Rattle.flat_unfolding.specs.Sized.{IsSized, AreSized}
use Rattle.flat_unfolding.proofs.Steps.{not_broken, none_of_both, some_is}
use Rattle.flat_unfolding.proofs.Selects.{IsInside, spans_own, spans_at, bit_inside, kind_inside, index_inside}
use Rattle.flat_unfolding.proofs.Known.{IsParamSized, Stands, StandsIf}

-- ---- sizes

abbrev pub IsWide : ℕ → Type 0
IsWide n = (1 ≤ n) × (n ≤ 64)

one_wide : IsWide 1
one_wide = ((let a : 1 ≤ 1 = omega arith in a), (let b : 1 ≤ 64 = omega arith in b))

pub max_wide : (m n : ℕ) → IsWide m → IsWide n → IsWide (max m n)
max_wide m n h k = let a = h.0 in let b = h.1 in let c = k.1 in ((let x : 1 ≤ max m n = omega arith in x), (let y : max m n ≤ 64 = omega arith in y))

unary_wide : (op : f.UnaryOp) (m : ℕ) → IsWide m → IsWide (unary_size op m)
unary_wide f.complement m h = h
unary_wide op m h = one_wide

binary_wide : (op : f.BinaryOp) (m n : ℕ) → IsWide m → IsWide n → IsWide (binary_size op m n)
binary_wide f.times m n h k = max_wide m n h k
binary_wide f.divided m n h k = max_wide m n h k
binary_wide f.remainder m n h k = max_wide m n h k
binary_wide f.plus m n h k = max_wide m n h k
binary_wide f.minus m n h k = max_wide m n h k
binary_wide f.shift_left m n h k = h
binary_wide f.shift_right m n h k = h
binary_wide f.bitwise_and m n h k = max_wide m n h k
binary_wide f.bitwise_or m n h k = max_wide m n h k
binary_wide f.bitwise_xor m n h k = max_wide m n h k
binary_wide f.bitwise_xnor m n h k = max_wide m n h k
binary_wide op m n h k = one_wide

pub times_some : (m n : ℕ) → 1 ≤ m → 1 ≤ n → n ≤ m * n
times_some zero n h k = absurd (omega (arith, h))
times_some (suc m) n h k = let e : suc m * n ≡ n + m * n = omega arith in omega arith

-- a well sized expression has 1 to 64 bits
module _ (wid : ℕ → ℕ) (words : AreWords wid) where
  pub size_wide : (e : Expr) → IsSized wid e → IsWide (size e)
  size_wide (Number w n) h = (h.0, h.1)
  size_wide (Read s at w) h = let l = words s in let m = h.1 in (h.0, (let x : w ≤ 64 = omega arith in x))
  size_wide (At s e) h = one_wide
  size_wide (Unary op a) h = unary_wide op (size a) (size_wide a h)
  size_wide (Binary op a b) h = binary_wide op (size a) (size b) (size_wide a h.1) (size_wide b h.2)
  size_wide (Choose c x y) h = max_wide (size x) (size y) (size_wide x h.1) (size_wide y h.2)
  size_wide (Gate op es) h = one_wide
  size_wide (Join es) h = (h.0, h.1)
  size_wide (Repeat n es) h = let l = times_some n (sizes es) h.0 h.1 in let m = h.1 in ((let x : 1 ≤ n * sizes es = omega arith in x), h.2)

-- ---- rules that are not broken

pub sound_is : (t : Term) → t.broken ≡ [] → is_sound t ≡ true
sound_is t e = ap is_empty e

pub all_sound_are : (ts : List Term) → all_broken ts ≡ [] → all_sound ts ≡ true
all_sound_are [] e = refl
all_sound_are (t ∷ ts) e = let p = none_of_both t.broken (all_broken ts) e in ap₂ (λ a b. a && b) (sound_is t p.0) (all_sound_are ts p.1)

-- a rule that is tried where two others hold
pub not_both : (a b c : Bool) → (a && b && c) ≡ false → a ≡ true → b ≡ true → c ≡ false
not_both true true c e h k = e
not_both true false c e h k = absurd (search (rules, k))
not_both false b c e h k = absurd (search (rules, h))

pub not_one : (a c : Bool) → (a && c) ≡ false → a ≡ true → c ≡ false
not_one true c e h = e
not_one false c e h = absurd (search (rules, h))

-- ---- small numbers

two_at_most : (w : ℕ) → 1 ≤ w → 2 ≤ 2 ^ w
two_at_most w h = let p : 2 ^ 0 < 2 ^ w = pow-lt h in omega arith

bit_small : (b : Bool) (x y : ℕ) → x ≤ 1 → y ≤ 1 → cond b x y ≤ 1
bit_small true x y h k = h
bit_small false x y h k = k

level_small : (active : Bool) (r : ResetPin) → level active r ≤ 1
level_small active r =
    let one : 1 ≤ 1 = omega arith in let none : 0 ≤ 1 = omega arith in
    bit_small active (cond r.high 1 0) (cond r.high 0 1) (bit_small r.high 1 0 one none) (bit_small r.high 0 1 none one)

within_small : (w n m : ℕ) → within w n ≡ Some m → m < 2 ^ 32
within_small w n m e = go (w == 1) (nat_lt n (cond (w == 1) 2 (2 ^ 31))) refl e
  where
    go : (a b : Bool) → nat_lt n (cond a 2 (2 ^ 31)) ≡ b → cond b (Some n) None ≡ Some m → m < 2 ^ 32
    go a false h e = absurd (search (rules, e))
    go true true h e = let l = ltb-true n 2 h in let s = some_is n m e in omega arith
    go false true h e = let l = ltb-true n (2 ^ 31) h in let s = some_is n m e in omega arith

abbrev IsSmall : Option ℕ → Type 0
IsSmall o = (n : ℕ) → o ≡ Some n → n < 2 ^ 32

then_small : {A : Type 0} (g : A → Option ℕ) (o : Option A) → ((a : A) → IsSmall (g a)) → IsSmall (option_and_then g o)
then_small g None h n e = absurd (search (rules, e))
then_small g (Some a) h n e = h a n e

-- a whole expression counts as a plain number
module _ (names : Names) where
  whole_unary_small : (op : UnaryOp) (a : ExprTree) → IsSmall (whole names (unary op a))
  whole_unary_small op a = then_small _ (whole names a) (λ m. then_small _ (whole_unary op (size_in names a) m) (within_small (size_in names (unary op a))))

  whole_binary_small : (op : BinaryOp) (a b : ExprTree) → IsSmall (whole names (binary op a b))
  whole_binary_small op a b = then_small _ (whole names a) (λ m. then_small _ (whole names b) (λ n. then_small _ (whole_binary op m n) (within_small (size_in names (binary op a b)))))

  whole_choice_small : (c a b : ExprTree) → IsSmall (whole names (choice c a b))
  whole_choice_small c a b = then_small _ (whole names c) (λ k. then_small _ (cond (k == 0) (whole names b) (whole names a)) (within_small (size_in names (choice c a b))))

-- ---- terms

module _ (look : Look) (words : AreWords (width_at look.entries)) where
  abbrev wid : ℕ → ℕ
  wid = width_at look.entries

  -- what breaks no rule is well sized
  abbrev pub IsTermSized : Term → Type 0
  IsTermSized t = t.broken ≡ [] → IsSized wid t.expr

  no_expr_sized : IsSized wid no_expr
  no_expr_sized = ((let a : 1 ≤ 1 = omega arith in a), (let b : 1 ≤ 64 = omega arith in b), (let c : 0 < 2 ^ 1 = omega arith in c))

  read_sized : (o : Option ResetPin) (s at w : ℕ) → 1 ≤ w → at + w ≤ wid s → IsSized wid (bits_read look.active s at w o)
  read_sized None s at w h k = (h, k)
  read_sized (Some r) s at w h k =
      let l = words s in let two = two_at_most w h in
      let small = bit_small (at == 0) (level look.active r) 0 (level_small look.active r) (let z : 0 ≤ 1 = omega arith in z) in
      (h, (let x : w ≤ 64 = omega arith in x), (let y : cond (at == 0) (level look.active r) 0 < 2 ^ w = omega arith in y))

  pub whole_sized : (s : ℕ) → 1 ≤ wid s → IsSized wid (whole_of look s)
  whole_sized s h = read_sized (reset_at look.entries s) s 0 (wid s) h (let l : 0 + wid s ≤ wid s = omega arith in l)

  -- ---- names

  meant_sized : (x : Text) (o : Option Meaning) → StandsIf look.entries o → IsTermSized (meant_term look x o)
  meant_sized x None h e = no_expr_sized
  meant_sized x (Some (a_param p)) h e = (h.0, h.1, h.2)
  meant_sized x (Some (a_signal s)) h e = whole_sized s h
  meant_sized x (Some (a_memory m)) h e = no_expr_sized
  meant_sized x (Some no_value) h e = no_expr_sized

  -- ---- an index

  bits_sized : (x : Text) (p : Param) (o : Option Select) → ((s : Select) → o ≡ Some s → IsInside (width_of p.range) s) → IsParamSized p → IsTermSized (param_bits look x p o)
  bits_sized x p None i h e = no_expr_sized
  bits_sized x p (Some s) i h e =
      let l = i s refl in let a = l.1 in let b = h.3 in
      let q = pow_pos s.bits in
      (l.0, (let y : s.bits ≤ 64 = omega arith in y), mod-lt (p.value / 2 ^ s.at) (let z : 0 < 2 ^ s.bits = omega arith in z))

  signal_sized : (x : Text) (s : ℕ) (o : Option Select) → ((q : Select) → o ≡ Some q → IsInside (wid s) q) → IsTermSized (signal_bits look x s o)
  signal_sized x s None i e = no_expr_sized
  signal_sized x s (Some q) i e = let l = i q refl in read_sized (reset_at look.entries s) s q.at q.bits l.0 l.1

  word_sized : (x : Text) (m : Memory) (n : ℕ) → Stands look.entries (a_memory m) → IsTermSized (word_bits look x (word_of m n))
  word_sized x m n h = go (nat_lt n m.words) refl
    where
      go : (b : Bool) → nat_lt n m.words ≡ b → IsTermSized (word_bits look x (cond b (Some (m.first + n)) None))
      go true k e = whole_sized (m.first + n) (h.1 n (ltb-true n m.words k)).0
      go false k e = no_expr_sized

  module _ (x : Text) (i : Term) (sized : IsSized wid i.expr) where
    param_sized : (p : Param) → IsParamSized p → IsTermSized (param_index look x p i)
    param_sized p h = go i.is_constant
      where
        go : (b : Bool) → IsTermSized (cond b (param_bits look x p (bit_select p.range (own_value i.expr))) (spoilt i.expr false (breaks 315 x)))
        go true e = bits_sized x p (bit_select p.range (own_value i.expr)) (λ s. bit_inside p.range (width_of p.range) (own_value i.expr) s (spans_own p.range)) h e
        go false e = sized

    chosen_sized : (s : ℕ) → IsTermSized (signal_index look x s i)
    chosen_sized s = go i.is_constant
      where
        r : Option Range
        r = range_at look.entries s

        negated : (b : Bool) → not b ≡ false → b ≡ true
        negated true e = refl
        negated false e = absurd (search (rules, e))

        go : (b : Bool) → IsTermSized (cond b (signal_bits look x s (bit_select r (own_value i.expr))) (spoilt (At s i.expr) false (breaks_if (not (may_index r (size i.expr))) 315 x)))
        go true e = signal_sized x s (bit_select r (own_value i.expr)) (λ q. bit_inside r (wid s) (own_value i.expr) q (spans_at look.entries s)) e
        go false e = (index_inside r (wid s) (size i.expr) (spans_at look.entries s) (negated (may_index r (size i.expr)) (not_broken (not (may_index r (size i.expr))) 315 x e)), sized)

    words_sized : (m : Memory) → Stands look.entries (a_memory m) → 2 ^ size i.expr ≤ m.words → (n more : ℕ) → n + more < 2 ^ size i.expr → IsSized wid (words_from look m i.expr n more)
    words_sized m h k n zero l = whole_sized (m.first + n) (h.1 n (let a : n < m.words = omega arith in a)).0
    words_sized m h k n (suc more) l =
        let w = size_wide wid words i.expr sized in
        ((refl, sized, (w.0, w.1, (let a : n < 2 ^ size i.expr = omega arith in a))), whole_sized (m.first + n) (h.1 n (let b : n < m.words = omega arith in b)).0, words_sized m h k (suc n) more (let c : suc n + more < 2 ^ size i.expr = omega arith in c))

    memory_sized : (m : Memory) → Stands look.entries (a_memory m) → IsTermSized (memory_index look x m i)
    memory_sized m h = go i.is_constant (nat_le (2 ^ size i.expr) m.words) refl
      where
        go : (b c : Bool) → nat_le (2 ^ size i.expr) m.words ≡ c
            → IsTermSized (cond b (word_bits look x (word_of m (own_value i.expr))) (cond c (spoilt (words_from look m i.expr 0 (2 ^ size i.expr - 1)) false []) (spoilt i.expr false (breaks 315 x))))
        go true c k e = word_sized x m (own_value i.expr) h e
        go false true k e = let some = pow_pos (size i.expr) in words_sized m h (leb-true (2 ^ size i.expr) m.words k) 0 (2 ^ size i.expr - 1) (let l : 0 + (2 ^ size i.expr - 1) < 2 ^ size i.expr = omega arith in l)
        go false false k e = sized

    meant_index_sized : (o : Option Meaning) → StandsIf look.entries o → IsTermSized (meant_index look x i o)
    meant_index_sized None h e = sized
    meant_index_sized (Some (a_param p)) h e = param_sized p h e
    meant_index_sized (Some (a_signal s)) h e = chosen_sized s e
    meant_index_sized (Some (a_memory m)) h e = memory_sized m h e
    meant_index_sized (Some no_value) h e = sized

  index_sized : (x : Text) (i : Term) → StandsIf look.entries (meaning look x) → IsTermSized i → IsTermSized (index_term look x i)
  index_sized x i h k e = go (is_sound i) refl e
    where
      go : (b : Bool) → is_sound i ≡ b → (unknown look x ++ i.broken) ++ (cond b (meant_index look x i (meaning look x)) (spoilt i.expr (is_param look (meaning look x) && i.is_constant) [])).broken ≡ []
          → IsSized wid (cond b (meant_index look x i (meaning look x)) (spoilt i.expr (is_param look (meaning look x) && i.is_constant) [])).expr
      go true s e = let p = none_of_both (unknown look x ++ i.broken) _ e in let q = none_of_both (unknown look x) i.broken p.0 in meant_index_sized x i (k q.1) (meaning look x) h p.1
      go false s e = let p = none_of_both (unknown look x ++ i.broken) _ e in let q = none_of_both (unknown look x) i.broken p.0 in k q.1

  -- ---- a part

  meant_part_sized : (x : Text) (kind : PartKind) (r : Option Range) (o : Option Meaning) → StandsIf look.entries o → IsTermSized (meant_part look x kind r o)
  meant_part_sized x kind None None h e = no_expr_sized
  meant_part_sized x kind (Some q) None h e = no_expr_sized
  meant_part_sized x kind None (Some (a_param p)) h e = no_expr_sized
  meant_part_sized x kind (Some q) (Some (a_param p)) h e = bits_sized x p (kind_select p.range kind q) (λ s. kind_inside p.range (width_of p.range) kind q s (spans_own p.range)) h e
  meant_part_sized x kind None (Some (a_signal s)) h e = no_expr_sized
  meant_part_sized x kind (Some q) (Some (a_signal s)) h e =
      signal_sized x s (kind_select (range_at look.entries s) kind q) (λ c. kind_inside (range_at look.entries s) (wid s) kind q c (spans_at look.entries s)) e
  meant_part_sized x kind None (Some (a_memory m)) h e = no_expr_sized
  meant_part_sized x kind (Some q) (Some (a_memory m)) h e = no_expr_sized
  meant_part_sized x kind None (Some no_value) h e = no_expr_sized
  meant_part_sized x kind (Some q) (Some no_value) h e = no_expr_sized

  part_sized : (x : Text) (kind : PartKind) (l r : Term) → StandsIf look.entries (meaning look x) → IsTermSized (part_term look x kind l r)
  part_sized x kind l r h e =
      let range = range_of (as_bound l) (as_second kind r) in
      let rest = meant_part look x kind range (meaning look x) in
      meant_part_sized x kind range (meaning look x) h (none_of_both (unknown look x ++ (as_bound l).broken ++ (as_second kind r).broken) rest.broken e).1

  -- ---- operators

  judged_sized : (counted value : Option ℕ) (t : Term) → IsSmall value → IsTermSized t → IsTermSized (judged_whole look counted value t)
  judged_sized None value t h k = k
  judged_sized (Some n) value t h k = go (n == 32) value h
    where
      number_sized : (o : Option ℕ) → IsSmall o → IsTermSized (whole_number look o)
      number_sized None h e = no_expr_sized
      number_sized (Some m) h e = ((let a : 1 ≤ 32 = omega arith in a), (let b : 32 ≤ 64 = omega arith in b), h m refl)

      go : (b : Bool) (o : Option ℕ) → IsSmall o → IsTermSized (cond b (whole_number look o) t)
      go true o h = number_sized o h
      go false o h = k

  has_a_cell : (op : BinaryOp) → is_whole_only op ≡ false → has_cell (binary_of op) ≡ true
  has_a_cell b.Mul e = absurd (search (rules, e))
  has_a_cell b.Div e = absurd (search (rules, e))
  has_a_cell b.Mod e = absurd (search (rules, e))
  has_a_cell op e = refl

  operated_sized : (op : BinaryOp) (l r : Term) → IsTermSized l → IsTermSized r → IsTermSized (binary_term op l r)
  operated_sized op l r h k e =
      let p = none_of_both (l.broken ++ r.broken) (breaks_if (is_whole_only op) 307 []) e in let q = none_of_both l.broken r.broken p.0 in
      (has_a_cell op (not_broken (is_whole_only op) 307 [] p.1), h q.0, k q.1)

  unary_sized : (op : UnaryOp) (t : Term) → IsTermSized t → IsTermSized (unary_term op t)
  unary_sized op t h = go (plain_unary op)
    where
      go : (o : Option FUnaryOp) → IsTermSized (spoilt (unary_expr o t.expr) t.is_constant t.broken)
      go (Some o) e = h e
      go None e =
          let k = h e in let w = size_wide wid words t.expr k in let p = pow_pos (size t.expr) in
          (refl, (w.0, w.1, (let z : 0 < 2 ^ size t.expr = omega arith in z)), k)

  choice_sized : (c l r : Term) → IsTermSized c → IsTermSized l → IsTermSized r → IsTermSized (choice_term c l r)
  choice_sized c l r h i j e =
      let p = none_of_both (c.broken ++ l.broken) r.broken e in let q = none_of_both c.broken l.broken p.0 in (h q.0, i q.1, j p.1)

  abbrev IsListSized : List Term → Type 0
  IsListSized ts = all_broken ts ≡ [] → AreSized wid (joined ts)

  -- one at least
  abbrev IsSome : List Term → Type 0
  IsSome [] = ⊥
  IsSome (t ∷ ts) = Unit {0}

  some_bits : (ts : List Term) → IsSome ts → AreSized wid (joined ts) → 1 ≤ sizes (joined ts)
  some_bits [] h k = absurd h
  some_bits (t ∷ ts) h k = let a = (size_wide wid words t.expr k.0).0 in omega arith

  join_sized : (ts : List Term) → IsSome ts → IsListSized ts → IsTermSized (join_term ts)
  join_sized ts s h e =
      let p = none_of_both (all_broken ts) (breaks_if (all_sound ts && nat_lt 64 (sizes (joined ts))) 308 []) e in
      let k = h p.0 in
      let n = not_one (all_sound ts) (nat_lt 64 (sizes (joined ts))) (not_broken (all_sound ts && nat_lt 64 (sizes (joined ts))) 308 [] p.1) (all_sound_are ts p.0) in
      (some_bits ts s k, ltb-false 64 (sizes (joined ts)) n, k)

  counted_some : (t : Term) → (as_count t).broken ≡ [] → 1 ≤ own_value (as_count t).expr
  counted_some t e =
      let c = as_bound t in let n = own_value c.expr in
      let p = none_of_both c.broken (breaks_if (is_sound c && (n == 0)) 307 []) e in
      positive n (not_one (is_sound c) (n == 0) (not_broken (is_sound c && (n == 0)) 307 [] p.1) (sound_is c p.0))
    where
      positive : (n : ℕ) → (n == 0) ≡ false → 1 ≤ n
      positive zero h = absurd (search (rules, h))
      positive (suc n) h = let l : 1 ≤ suc n = omega arith in l

  repeat_sized : (t : Term) (ts : List Term) → IsSome ts → IsListSized ts → IsTermSized (repeat_term t ts)
  repeat_sized t ts s h e =
      let c = as_count t in let n = own_value c.expr in
      let wide = nat_lt 64 (n * sizes (joined ts)) in
      let p = none_of_both (c.broken ++ all_broken ts) (breaks_if (is_sound c && all_sound ts && wide) 308 []) e in
      let q = none_of_both c.broken (all_broken ts) p.0 in
      let k = h q.1 in
      let l = not_both (is_sound c) (all_sound ts) wide (not_broken (is_sound c && all_sound ts && wide) 308 [] p.1) (sound_is c q.0) (all_sound_are ts q.1) in
      (counted_some t q.0, some_bits ts s k, ltb-false 64 (n * sizes (joined ts)) l, k)

  also_sized : (t : Term) (bs : List Broken) → IsTermSized t → IsTermSized (also t bs)
  also_sized t bs h e = h (none_of_both t.broken bs e).0

  -- ---- expressions

  module _ (known : (x : Text) → StandsIf look.entries (meaning look x)) where
    some_read : (es : ExprTrees) → AreSome es → IsSome (read_parts look es)
    some_read no_trees h = absurd h
    some_read (and_trees a es) h = tt

    mutual
      pub sized : (e : ExprTree) → IsFormed e → IsTermSized (read look e)
      sized (number v w spelt) h e = (h.0, h.1, h.2)
      sized (name x) h e = meant_sized x (meaning look x) (known x) e
      sized (index x i) h e = index_sized x (read look i) (known x) (sized i h) e
      sized (part x kind l r) h e = part_sized x kind (read look l) (read look r) (known x) e
      sized (unary op a) h e = judged_sized (counted_size look.names (unary op a)) (whole look.names (unary op a)) (unary_term op (read look a)) (whole_unary_small look.names op a) (unary_sized op (read look a) (sized a h)) e
      sized (binary op a b) h e = judged_sized (counted_size look.names (binary op a b)) (whole look.names (binary op a b)) (also (binary_term op (read look a) (read look b)) (breaks_if (compares_signed look.names op a b) 307 [])) (whole_binary_small look.names op a b)
          (also_sized (binary_term op (read look a) (read look b)) (breaks_if (compares_signed look.names op a b) 307 []) (operated_sized op (read look a) (read look b) (sized a h.0) (sized b h.1))) e
      sized (choice c a b) h e = judged_sized (counted_size look.names (choice c a b)) (whole look.names (choice c a b)) (choice_term (read look c) (read look a) (read look b)) (whole_choice_small look.names c a b)
          (choice_sized (read look c) (read look a) (read look b) (sized c h.0) (sized a h.1) (sized b h.2)) e
      sized (join parts) h e = join_sized (read_parts look parts) (some_read parts h.0) (all_sized parts h.1) e
      sized (repeat count parts) h e = repeat_sized (read look count) (read_parts look parts) (some_read parts h.1) (all_sized parts h.2) e
      sized (paren a) h e = sized a h e

      pub all_sized : (es : ExprTrees) → AreFormed es → IsListSized (read_parts look es)
      all_sized no_trees h e = tt
      all_sized (and_trees a es) h e =
          let own = breaks_if (is_unsized look.names a) 308 [] in
          let p = none_of_both ((read look a).broken ++ own) (all_broken (read_parts look es)) e in (also_sized (read look a) own (sized a h.0) p.0, all_sized es h.1 p.1)
