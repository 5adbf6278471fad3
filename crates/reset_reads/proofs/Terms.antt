-- Expressions as they are read spare the resets among the signals of their module.
use Rattle.std.proofs.Common.{◌≡◌, ℕ, zero, suc, ◌+◌, ◌-◌, ◌^◌, ◌<◌, Bool, true, false, cond, not, ◌&&◌, ◌==◌, nat_lt, nat_le, [], length, Option, Some, None, refl, arith, ltb-true, leb-true}
use Rattle.std.specs.Prelude.{All, option_and_then}
use Rattle.std.proofs.lemmas.Nat.{pow_pos}
use Rattle.cdc_base.specs.declared.signal.ResetPin.{ResetPin}
use Rattle.cdc_base.specs.Words.{found_in}
use Rattle.verilog_ast.specs.declared.UnaryOp.{UnaryOp}
use Rattle.verilog_ast.specs.declared.PartKind.{PartKind}
use Rattle.verilog_reading.specs.ExprTree.{ExprTree, number, name, index, part, unary, binary, choice, join, repeat, paren, ExprTrees, no_trees, and_trees}
use Rattle.flat_meaning.specs.Flat.{At, size}
use Rattle.flat_form.specs.declared.flat.FUnaryOp.{FUnaryOp}
use Rattle.flat_unfolding.specs.Outcome.{Text, breaks, breaks_if}
use Rattle.flat_unfolding.specs.Names.{Param, Memory, Meaning, a_param, a_signal, a_memory, no_value, Names, as_value, meaning_in, Look, meaning, width_at, range_at, reset_at, bits_read, bits_of, whole_of}
use Rattle.flat_unfolding.specs.Constants.{own_value, counted_size, plain_unary, whole}
use Rattle.flat_unfolding.specs.Expressions.{Term, is_sound, joined, spoilt, as_bound, as_second, range_of, Select, bit_select, kind_select, may_index, word_of, unary_expr, unary_term, meant_term, param_bits, signal_bits, word_bits, param_index, signal_index, words_from, memory_index, is_param, meant_index, index_term, meant_part, whole_number, judged_whole, read, read_parts}
use Rattle.flat_unfolding.specs.Names.{Range}
use Rattle.flat_unfolding.proofs.Known.{found_is}
use Rattle.reset_reads.proofs.Spares.{Spares, AllSpare}

-- ---- names stand for signals that are declared

-- among so many signals
abbrev pub IsHeld : ℕ → Meaning → Type 0
IsHeld n (a_param p) = Unit {0}
IsHeld n (a_signal s) = s < n
IsHeld n (a_memory m) = (i : ℕ) → i < m.words → m.first + i < n
IsHeld n no_value = Unit {0}

abbrev pub AreHeld : ℕ → Names → Type 0
AreHeld n names = All (λ (p : Text × Meaning). IsHeld n p.1) names

abbrev pub IsHeldIf : ℕ → Option Meaning → Type 0
IsHeldIf n None = Unit {0}
IsHeldIf n (Some m) = IsHeld n m

pub held : (n : ℕ) (names : Names) (x : Text) → AreHeld n names → IsHeldIf n (meaning_in names x)
held n names x h = go (found_in names x) refl
  where
    go : (o : Option Meaning) → found_in names x ≡ o → IsHeldIf n (option_and_then as_value o)
    go None e = tt
    go (Some (a_param p)) e = tt
    go (Some (a_signal s)) e = found_is (IsHeld n) names x (a_signal s) h e
    go (Some (a_memory m)) e = found_is (IsHeld n) names x (a_memory m) h e
    go (Some no_value) e = tt

-- ---- what is read where each signal may be read that is no reset

module _ (may : ℕ → Bool) (look : Look) (free : (s : ℕ) → s < length look.entries → reset_at look.entries s ≡ None → may s ≡ true) where
  abbrev pub IsSpare : Term → Type 0
  IsSpare t = Spares may t.expr

  abbrev count : ℕ
  count = length look.entries

  pub bits_spare : (s at w : ℕ) → s < count → Spares may (bits_of look s at w)
  bits_spare s at w l = go (reset_at look.entries s) refl
    where
      go : (o : Option ResetPin) → reset_at look.entries s ≡ o → Spares may (bits_read look.active s at w o)
      go None e = free s l e
      go (Some r) e = tt

  pub whole_spares : (s : ℕ) → s < count → Spares may (whole_of look s)
  whole_spares s = bits_spare s 0 (width_at look.entries s)

  meant_spares : (x : Text) (o : Option Meaning) → IsHeldIf count o → IsSpare (meant_term look x o)
  meant_spares x None h = tt
  meant_spares x (Some (a_param p)) h = tt
  meant_spares x (Some (a_signal s)) h = whole_spares s h
  meant_spares x (Some (a_memory m)) h = tt
  meant_spares x (Some no_value) h = tt

  -- ---- an index

  param_spares : (x : Text) (p : Param) (o : Option Select) → IsSpare (param_bits look x p o)
  param_spares x p None = tt
  param_spares x p (Some s) = tt

  signal_spares : (x : Text) (s : ℕ) (o : Option Select) → s < count → IsSpare (signal_bits look x s o)
  signal_spares x s None l = tt
  signal_spares x s (Some q) l = bits_spare s q.at q.bits l

  word_spares : (x : Text) (m : Memory) (n : ℕ) → IsHeld count (a_memory m) → IsSpare (word_bits look x (word_of m n))
  word_spares x m n h = go (nat_lt n m.words) refl
    where
      go : (b : Bool) → nat_lt n m.words ≡ b → IsSpare (word_bits look x (cond b (Some (m.first + n)) None))
      go true k = whole_spares (m.first + n) (h n (ltb-true n m.words k))
      go false k = tt

  module _ (x : Text) (i : Term) (spare : IsSpare i) where
    param_index_spares : (p : Param) → IsSpare (param_index look x p i)
    param_index_spares p = go i.is_constant
      where
        go : (b : Bool) → IsSpare (cond b (param_bits look x p (bit_select p.range (own_value i.expr))) (spoilt i.expr false (breaks 315 x)))
        go true = param_spares x p (bit_select p.range (own_value i.expr))
        go false = spare

    signal_index_spares : (s : ℕ) → s < count → IsSpare (signal_index look x s i)
    signal_index_spares s l = go i.is_constant
      where
        go : (b : Bool) → IsSpare (cond b (signal_bits look x s (bit_select (range_at look.entries s) (own_value i.expr)))
            (spoilt (At s i.expr) false (breaks_if (not (may_index (range_at look.entries s) (size i.expr))) 315 x)))
        go true = signal_spares x s (bit_select (range_at look.entries s) (own_value i.expr)) l
        go false = (refl, spare)

    words_spare : (m : Memory) → IsHeld count (a_memory m) → (n more : ℕ) → n + more < m.words → Spares may (words_from look m i.expr n more)
    words_spare m h n zero l = whole_spares (m.first + n) (h n (let a : n < m.words = omega arith in a))
    words_spare m h n (suc more) l = ((spare, tt), whole_spares (m.first + n) (h n (let a : n < m.words = omega arith in a)), words_spare m h (suc n) more (let b : suc n + more < m.words = omega arith in b))

    memory_index_spares : (m : Memory) → IsHeld count (a_memory m) → IsSpare (memory_index look x m i)
    memory_index_spares m h = go i.is_constant (nat_le (2 ^ size i.expr) m.words) refl
      where
        go : (b c : Bool) → nat_le (2 ^ size i.expr) m.words ≡ c
            → IsSpare (cond b (word_bits look x (word_of m (own_value i.expr))) (cond c (spoilt (words_from look m i.expr 0 (2 ^ size i.expr - 1)) false []) (spoilt i.expr false (breaks 315 x))))
        go true c k = word_spares x m (own_value i.expr) h
        go false true k =
            let some = pow_pos (size i.expr) in let all = leb-true (2 ^ size i.expr) m.words k in
            words_spare m h 0 (2 ^ size i.expr - 1) (let l : 0 + (2 ^ size i.expr - 1) < m.words = omega arith in l)
        go false false k = spare

    meant_index_spares : (o : Option Meaning) → IsHeldIf count o → IsSpare (meant_index look x i o)
    meant_index_spares None h = spare
    meant_index_spares (Some (a_param p)) h = param_index_spares p
    meant_index_spares (Some (a_signal s)) h = signal_index_spares s h
    meant_index_spares (Some (a_memory m)) h = memory_index_spares m h
    meant_index_spares (Some no_value) h = spare

  index_spares : (x : Text) (i : Term) → IsHeldIf count (meaning look x) → IsSpare i → IsSpare (index_term look x i)
  index_spares x i h k = go (is_sound i)
    where
      go : (b : Bool) → IsSpare (cond b (meant_index look x i (meaning look x)) (spoilt i.expr (is_param look (meaning look x) && i.is_constant) []))
      go true = meant_index_spares x i k (meaning look x) h
      go false = k

  -- ---- a part

  meant_part_spares : (x : Text) (kind : PartKind) (r : Option Range) (o : Option Meaning) → IsHeldIf count o → IsSpare (meant_part look x kind r o)
  meant_part_spares x kind None None h = tt
  meant_part_spares x kind (Some q) None h = tt
  meant_part_spares x kind None (Some (a_param p)) h = tt
  meant_part_spares x kind (Some q) (Some (a_param p)) h = param_spares x p (kind_select p.range kind q)
  meant_part_spares x kind None (Some (a_signal s)) h = tt
  meant_part_spares x kind (Some q) (Some (a_signal s)) h = signal_spares x s (kind_select (range_at look.entries s) kind q) h
  meant_part_spares x kind None (Some (a_memory m)) h = tt
  meant_part_spares x kind (Some q) (Some (a_memory m)) h = tt
  meant_part_spares x kind None (Some no_value) h = tt
  meant_part_spares x kind (Some q) (Some no_value) h = tt

  -- ---- operators

  judged_spares : (counted value : Option ℕ) (t : Term) → IsSpare t → IsSpare (judged_whole look counted value t)
  judged_spares None value t h = h
  judged_spares (Some n) value t h = go (n == 32) value
    where
      go : (b : Bool) (o : Option ℕ) → IsSpare (cond b (whole_number look o) t)
      go true None = tt
      go true (Some m) = tt
      go false o = h

  unary_spares : (op : UnaryOp) (t : Term) → IsSpare t → IsSpare (unary_term op t)
  unary_spares op t h = go (plain_unary op)
    where
      go : (o : Option FUnaryOp) → Spares may (unary_expr o t.expr)
      go (Some o) = h
      go None = (tt, h)

  -- ---- expressions

  module _ (known : (x : Text) → IsHeldIf count (meaning look x)) where
    mutual
      pub read_spares : (e : ExprTree) → IsSpare (read look e)
      read_spares (number v w spelt) = tt
      read_spares (name x) = meant_spares x (meaning look x) (known x)
      read_spares (index x i) = index_spares x (read look i) (known x) (read_spares i)
      read_spares (part x kind l r) = meant_part_spares x kind (range_of (as_bound (read look l)) (as_second kind (read look r))) (meaning look x) (known x)
      read_spares (unary op a) = judged_spares (counted_size look.names (unary op a)) (whole look.names (unary op a)) (unary_term op (read look a)) (unary_spares op (read look a) (read_spares a))
      read_spares (binary op a b) = judged_spares (counted_size look.names (binary op a b)) (whole look.names (binary op a b)) _ (read_spares a, read_spares b)
      read_spares (choice c a b) = judged_spares (counted_size look.names (choice c a b)) (whole look.names (choice c a b)) _ (read_spares c, read_spares a, read_spares b)
      read_spares (join parts) = all_spare parts
      read_spares (repeat c parts) = all_spare parts
      read_spares (paren a) = read_spares a

      pub all_spare : (es : ExprTrees) → AllSpare may (joined (read_parts look es))
      all_spare no_trees = tt
      all_spare (and_trees a es) = (read_spares a, all_spare es)
