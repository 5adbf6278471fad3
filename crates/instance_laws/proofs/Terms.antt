-- Expressions of an instance are read as those of its module, and moved.
use Rattle.std.proofs.Common.{◌≡◌, ℕ, zero, suc, ◌+◌, ◌-◌, ◌*◌, ◌^◌, ◌==◌, nat_lt, nat_le, Bool, true, false, cond, not, ◌&&◌, List, [], ◌∷◌, ◌++◌, map, Option, Some, None, refl, ap, ap₂, ◌∙◌, arith, max}
use Rattle.cdc_base.specs.declared.signal.ResetPin.{ResetPin}
use Rattle.verilog_ast.specs.declared.UnaryOp.{UnaryOp}
use Rattle.verilog_ast.specs.declared.PartKind.{PartKind}
use Rattle.verilog_ast.specs.declared.PartKind.TheVariants as kinds
use Rattle.verilog_reading.specs.ExprTree.{ExprTree, number, name, index, part, unary, binary, choice, join, repeat, paren, ExprTrees, no_trees, and_trees}
use Rattle.cell_graph.specs.Tree as word
use Rattle.flat_meaning.specs.Flat.{BinaryOp as FlatOp, unary_size, binary_size, Expr, Number, Read, At, Unary, Binary, Choose, Gate, Join, Repeat, Exprs, no_exprs, expr, size, sizes}
use Rattle.flat_meaning.specs.Full.{nothing}
use Rattle.flat_meaning.specs.Values.{Word}
use Rattle.flat_meaning.specs.Meaning as meant
use Rattle.flat_form.specs.declared.flat.FUnaryOp.{FUnaryOp}
use Rattle.flat_unfolding.specs.Outcome.{Text, Broken, breaks, breaks_if}
use Rattle.flat_unfolding.specs.Names.{Range, Param, Memory, Meaning, a_param, a_signal, a_memory, no_value, Look, Entry, meaning, width_at, range_at, reset_at, bits_read, bits_of, whole_of, unknown}
use Rattle.flat_unfolding.specs.Constants.{own_value, assigned_value, counted_size, plain_unary, whole}
use Rattle.flat_unfolding.specs.Signs.{compares_signed}
use Rattle.flat_unfolding.specs.Expressions.{Term, is_sound, all_broken, all_sound, all_constant, joined, variable, spoilt, also, as_constant, as_bound, as_count, as_second, range_of, Select, bit_select, kind_select, may_index, word_of, is_index, unary_expr, unary_term, binary_term, choice_term, join_term, repeat_term, meant_term, param_bits, signal_bits, word_bits, param_index, signal_index, words_from, memory_index, also_first, is_param, meant_index, index_term, meant_part, part_term, whole_number, judged_whole, read, read_parts}
use Rattle.instance_laws.specs.Moved.{moved_expr, moved_exprs}
use Rattle.instance_laws.proofs.Looks.{moved_if, meaning_moved, counted_moved, whole_moved, compares_moved, unsized_moved, count, far, width_moved, range_moved, reset_moved, unknown_moved}

pub ap₃ : {A B C D : Type 0} (f : A → B → C → D) {a b : A} {c d : B} {x y : C} → a ≡ b → c ≡ d → x ≡ y → f a c x ≡ f b d y
ap₃ f {a} {b} {c} {d} {x} {y} e g h = ap₂ (λ p q. f p q x) e g ∙ ap (f b d) h

abbrev chosen_word : Bool → Word → Word → Word
chosen_word b f g i = cond b (f i) (g i)

-- ---- sizes, and the values of constants

module _ (k : ℕ) where
  mutual
    pub size_moved : (e : Expr) → size (moved_expr k e) ≡ size e
    size_moved (Number w n) = refl
    size_moved (Read s at w) = refl
    size_moved (At s e) = refl
    size_moved (Unary op a) = ap (unary_size op) (size_moved a)
    size_moved (Binary op a b) = ap₂ (binary_size op) (size_moved a) (size_moved b)
    size_moved (Choose c x y) = ap₂ max (size_moved x) (size_moved y)
    size_moved (Gate op es) = refl
    size_moved (Join es) = sizes_moved es
    size_moved (Repeat n es) = ap (λ m. n * m) (sizes_moved es)

    pub sizes_moved : (es : Exprs) → sizes (moved_exprs k es) ≡ sizes es
    sizes_moved no_exprs = refl
    sizes_moved (expr e es) = ap₂ (λ m n. m + n) (size_moved e) (sizes_moved es)

  mutual
    pub value_moved : (e : Expr) (w : ℕ) → meant.value nothing (moved_expr k e) w ≡ meant.value nothing e w
    value_moved (Number n v) w = refl
    value_moved (Read s at n) w = refl
    value_moved (At s e) w = refl
    value_moved (Unary op a) w = rw (size_moved a) (ap (meant.unary op (meant.unary_at op w (size a))) (value_moved a (meant.unary_at op w (size a))))
    value_moved (Binary op a b) w =
        let m = meant.left_at op w (size a) (size b) in let n = meant.right_at op w (size a) (size b) in
        rw (size_moved a, size_moved b) (ap₂ (meant.binary op m n) (value_moved a m) (value_moved b n))
    value_moved (Choose c x y) w =
        ap₃ chosen_word (ap₂ word.any_below (ap (meant.value nothing (moved_expr k c)) (size_moved c) ∙ value_moved c (size c)) (size_moved c)) (value_moved x w) (value_moved y w)
    value_moved (Gate op es) w = gated_moved op w es
    value_moved (Join es) w = ap₂ meant.padded (sizes_moved es) (joined_value_moved es)
    value_moved (Repeat n es) w = ap₂ (λ m f. meant.padded (n * m) (meant.copies n m f)) (sizes_moved es) (joined_value_moved es)

    joined_value_moved : (es : Exprs) → meant.joined nothing (moved_exprs k es) ≡ meant.joined nothing es
    joined_value_moved no_exprs = refl
    joined_value_moved (expr e es) =
        ap₃ meant.cat (ap (meant.value nothing (moved_expr k e)) (size_moved e) ∙ value_moved e (size e)) (sizes_moved es) (joined_value_moved es)

    gated_moved : (op : FlatOp) (w : ℕ) (es : Exprs) → meant.gated nothing op w (moved_exprs k es) ≡ meant.gated nothing op w es
    gated_moved op w no_exprs = refl
    gated_moved op w (expr e es) = gated_on_moved op w (meant.value nothing (moved_expr k e) w) (meant.value nothing e w) (value_moved e w) es

    gated_on_moved : (op : FlatOp) (w : ℕ) (f g : Word) → f ≡ g → (es : Exprs) → meant.gated_on nothing op w f (moved_exprs k es) ≡ meant.gated_on nothing op w g es
    gated_on_moved op w f g h no_exprs = h
    gated_on_moved op w f g h (expr e es) = gated_on_moved op w _ _ (ap₂ (meant.binary op w w) h (value_moved e w)) es

  pub own_moved : (e : Expr) → own_value (moved_expr k e) ≡ own_value e
  own_moved e = rw (size_moved e, value_moved e (size e))

  pub assigned_moved : (e : Expr) (w : ℕ) → assigned_value (moved_expr k e) w ≡ assigned_value e w
  assigned_moved e w = rw (size_moved e, value_moved e (max w (size e)))

  -- ---- what was read

  abbrev pub moved_term : Term → Term
  moved_term t = spoilt (moved_expr k t.expr) t.is_constant t.broken

  abbrev pub moved_terms : List Term → List Term
  moved_terms ts = map moved_term ts

  pub bound_moved : (t : Term) → as_bound (moved_term t) ≡ moved_term (as_bound t)
  bound_moved t =
      ap (λ n. spoilt (moved_expr k t.expr) t.is_constant ((as_constant t).broken ++ breaks_if (is_sound (as_constant t) && nat_le (2 ^ 31) n) 307 [])) (own_moved t.expr)

  count_moved : (t : Term) → as_count (moved_term t) ≡ moved_term (as_count t)
  count_moved t =
      ap (λ (c : Term). also c (breaks_if (is_sound c && (own_value c.expr == 0)) 307 [])) (bound_moved t)
      ∙ ap (λ n. spoilt (moved_expr k t.expr) t.is_constant ((as_bound t).broken ++ breaks_if (is_sound (as_bound t) && (n == 0)) 307 [])) (own_moved t.expr)

  pub second_moved : (kind : PartKind) (t : Term) → as_second kind (moved_term t) ≡ moved_term (as_second kind t)
  second_moved kinds.Range t = bound_moved t
  second_moved kinds.Up t = count_moved t
  second_moved kinds.Down t = count_moved t

  pub range_of_moved : (l r : Term) → range_of (moved_term l) (moved_term r) ≡ range_of l r
  range_of_moved l r = ap₂ (λ m n. cond (is_sound l && is_sound r) (Some (record { left = m; right = n })) None) (own_moved l.expr) (own_moved r.expr)

  pub joined_moved : (ts : List Term) → joined (moved_terms ts) ≡ moved_exprs k (joined ts)
  joined_moved [] = refl
  joined_moved (t ∷ ts) = ap (expr (moved_expr k t.expr)) (joined_moved ts)

  pub all_constant_moved : (ts : List Term) → all_constant (moved_terms ts) ≡ all_constant ts
  all_constant_moved [] = refl
  all_constant_moved (t ∷ ts) = ap (λ b. t.is_constant && b) (all_constant_moved ts)

  pub all_sound_moved : (ts : List Term) → all_sound (moved_terms ts) ≡ all_sound ts
  all_sound_moved [] = refl
  all_sound_moved (t ∷ ts) = ap (λ b. is_sound t && b) (all_sound_moved ts)

  pub all_broken_moved : (ts : List Term) → all_broken (moved_terms ts) ≡ all_broken ts
  all_broken_moved [] = refl
  all_broken_moved (t ∷ ts) = ap (λ bs. t.broken ++ bs) (all_broken_moved ts)

  -- ---- operators

  unary_moved : (op : UnaryOp) (t : Term) → unary_term op (moved_term t) ≡ moved_term (unary_term op t)
  unary_moved op t = ap (λ e. spoilt e t.is_constant t.broken) (go (plain_unary op))
    where
      go : (o : Option FUnaryOp) → unary_expr o (moved_expr k t.expr) ≡ moved_expr k (unary_expr o t.expr)
      go (Some o) = refl
      go None = rw (size_moved t.expr)

  join_moved : (ts : List Term) → join_term (moved_terms ts) ≡ moved_term (join_term ts)
  join_moved ts = rw (joined_moved ts, sizes_moved (joined ts), all_constant_moved ts, all_broken_moved ts, all_sound_moved ts)

  -- the count c was judged
  abbrev repeated : (c : Term) → List Term → Term
  repeated c ts = let m = own_value c.expr in
      spoilt (Repeat m (joined ts)) (all_constant ts) (c.broken ++ all_broken ts ++ breaks_if (is_sound c && all_sound ts && nat_lt 64 (m * sizes (joined ts))) 308 [])

  repeat_moved : (t : Term) (ts : List Term) → repeat_term (moved_term t) (moved_terms ts) ≡ moved_term (repeat_term t ts)
  repeat_moved t ts = ap (λ c. repeated c (moved_terms ts)) (count_moved t) ∙ go (as_count t)
    where
      go : (c : Term) → repeated (moved_term c) (moved_terms ts) ≡ moved_term (repeated c ts)
      go c = rw (own_moved c.expr, joined_moved ts, sizes_moved (joined ts), all_constant_moved ts, all_broken_moved ts, all_sound_moved ts)

-- ---- reading

module _ (prefix : Text) (base : List Entry) (look : Look) where
  abbrev n : ℕ
  n = count prefix base

  abbrev there : Look
  there = far prefix base look

  abbrev pub moved : Term → Term
  moved = moved_term n

  pub bits_moved : (s at w : ℕ) → bits_of there (n + s) at w ≡ moved_expr n (bits_of look s at w)
  bits_moved s at w = ap (bits_read look.active (n + s) at w) (reset_moved prefix base look.entries s) ∙ go (reset_at look.entries s)
    where
      go : (o : Option ResetPin) → bits_read look.active (n + s) at w o ≡ moved_expr n (bits_read look.active s at w o)
      go None = refl
      go (Some r) = refl

  pub whole_of_moved : (s : ℕ) → whole_of there (n + s) ≡ moved_expr n (whole_of look s)
  whole_of_moved s = ap (bits_of there (n + s) 0) (width_moved prefix base look.entries s) ∙ bits_moved s 0 (width_at look.entries s)

  pub known : (x : Text) → meaning there x ≡ moved_if n (meaning look x)
  known x = meaning_moved n look.names x

  meant_moved : (x : Text) (o : Option Meaning) → meant_term there x (moved_if n o) ≡ moved (meant_term look x o)
  meant_moved x None = ap (spoilt _ false) (unknown_moved prefix base look x)
  meant_moved x (Some (a_param p)) = refl
  meant_moved x (Some (a_signal s)) = ap variable (whole_of_moved s)
  meant_moved x (Some (a_memory m)) = refl
  meant_moved x (Some no_value) = ap (spoilt _ false) (unknown_moved prefix base look x)

  -- ---- an index

  param_bits_moved : (x : Text) (p : Param) (o : Option Select) → param_bits there x p o ≡ moved (param_bits look x p o)
  param_bits_moved x p None = refl
  param_bits_moved x p (Some s) = refl

  signal_bits_moved : (x : Text) (s : ℕ) (o : Option Select) → signal_bits there x (n + s) o ≡ moved (signal_bits look x s o)
  signal_bits_moved x s None = refl
  signal_bits_moved x s (Some q) = ap variable (bits_moved s q.at q.bits)

  pub first_moved : (m i : ℕ) → n + m + i ≡ n + (m + i)
  first_moved m i = omega arith

  word_bits_moved : (x : Text) (m : Memory) (i : ℕ) → word_bits there x (word_of (record { first = n + m.first; words = m.words }) i) ≡ moved (word_bits look x (word_of m i))
  word_bits_moved x m i = go (nat_lt i m.words)
    where
      go : (b : Bool) → word_bits there x (cond b (Some (n + m.first + i)) None) ≡ moved (word_bits look x (cond b (Some (m.first + i)) None))
      go true = ap variable (ap (whole_of there) (first_moved m.first i) ∙ whole_of_moved (m.first + i))
      go false = refl

  module _ (x : Text) (i : Term) where
    param_index_moved : (p : Param) → param_index there x p (moved i) ≡ moved (param_index look x p i)
    param_index_moved p = go i.is_constant
      where
        go : (b : Bool) → cond b (param_bits there x p (bit_select p.range (own_value (moved i).expr))) (spoilt (moved i).expr false (breaks 315 x))
            ≡ moved (cond b (param_bits look x p (bit_select p.range (own_value i.expr))) (spoilt i.expr false (breaks 315 x)))
        go true = ap (λ m. param_bits there x p (bit_select p.range m)) (own_moved n i.expr) ∙ param_bits_moved x p (bit_select p.range (own_value i.expr))
        go false = refl

    signal_index_moved : (s : ℕ) → signal_index there x (n + s) (moved i) ≡ moved (signal_index look x s i)
    signal_index_moved s = rw (range_moved prefix base look.entries s, own_moved n i.expr, size_moved n i.expr) (go i.is_constant)
      where
        go : (b : Bool) → cond b (signal_bits there x (n + s) (bit_select (range_at look.entries s) (own_value i.expr)))
            (spoilt (At (n + s) (moved i).expr) false (breaks_if (not (may_index (range_at look.entries s) (size i.expr))) 315 x))
            ≡ moved (cond b (signal_bits look x s (bit_select (range_at look.entries s) (own_value i.expr)))
            (spoilt (At s i.expr) false (breaks_if (not (may_index (range_at look.entries s) (size i.expr))) 315 x)))
        go true = signal_bits_moved x s (bit_select (range_at look.entries s) (own_value i.expr))
        go false = refl

    words_moved : (m : Memory) (j more : ℕ) → words_from there (record { first = n + m.first; words = m.words }) (moved i).expr j more
        ≡ moved_expr n (words_from look m i.expr j more)
    words_moved m j zero = ap (whole_of there) (first_moved m.first j) ∙ whole_of_moved (m.first + j)
    words_moved m j (suc more) =
        rw (size_moved n i.expr, first_moved m.first j)
        (ap₂ (Choose (moved_expr n (is_index i.expr j))) (whole_of_moved (m.first + j)) (words_moved m (suc j) more))

    memory_index_moved : (m : Memory) → memory_index there x (record { first = n + m.first; words = m.words }) (moved i) ≡ moved (memory_index look x m i)
    memory_index_moved m = rw (own_moved n i.expr, size_moved n i.expr) (go i.is_constant (nat_le (2 ^ size i.expr) m.words))
      where
        far_memory : Memory
        far_memory = record { first = n + m.first; words = m.words }

        go : (b c : Bool)
            → cond b (word_bits there x (word_of far_memory (own_value i.expr)))
            (cond c (variable (words_from there far_memory (moved i).expr 0 (2 ^ size i.expr - 1))) (spoilt (moved i).expr false (breaks 315 x)))
            ≡ moved (cond b (word_bits look x (word_of m (own_value i.expr)))
            (cond c (variable (words_from look m i.expr 0 (2 ^ size i.expr - 1))) (spoilt i.expr false (breaks 315 x))))
        go true c = word_bits_moved x m (own_value i.expr)
        go false true = ap variable (words_moved m 0 (2 ^ size i.expr - 1))
        go false false = refl

    meant_index_moved : (o : Option Meaning) → meant_index there x (moved i) (moved_if n o) ≡ moved (meant_index look x i o)
    meant_index_moved None = refl
    meant_index_moved (Some (a_param p)) = param_index_moved p
    meant_index_moved (Some (a_signal s)) = signal_index_moved s
    meant_index_moved (Some (a_memory m)) = memory_index_moved m
    meant_index_moved (Some no_value) = refl

    pub index_moved : index_term there x (moved i) ≡ moved (index_term look x i)
    index_moved =
        ap₂ (λ u o. also_first there (u ++ i.broken) (cond (is_sound i) (meant_index there x (moved i) o) (spoilt (moved i).expr (is_param there o && i.is_constant) [])))
        (unknown_moved prefix base look x) (known x)
        ∙ ap (also_first there (unknown look x ++ i.broken)) (go (is_sound i) (meaning look x))
      where
        go : (b : Bool) (o : Option Meaning) → cond b (meant_index there x (moved i) (moved_if n o)) (spoilt (moved i).expr (is_param there (moved_if n o) && i.is_constant) [])
            ≡ moved (cond b (meant_index look x i o) (spoilt i.expr (is_param look o && i.is_constant) []))
        go true o = meant_index_moved o
        go false None = refl
        go false (Some (a_param p)) = refl
        go false (Some (a_signal s)) = refl
        go false (Some (a_memory m)) = refl
        go false (Some no_value) = refl

  -- ---- a part

  meant_part_moved : (x : Text) (kind : PartKind) (r : Option Range) (o : Option Meaning) → meant_part there x kind r (moved_if n o) ≡ moved (meant_part look x kind r o)
  meant_part_moved x kind None None = refl
  meant_part_moved x kind (Some q) None = refl
  meant_part_moved x kind None (Some (a_param p)) = refl
  meant_part_moved x kind (Some q) (Some (a_param p)) = param_bits_moved x p (kind_select p.range kind q)
  meant_part_moved x kind None (Some (a_signal s)) = refl
  meant_part_moved x kind (Some q) (Some (a_signal s)) = rw (range_moved prefix base look.entries s) (signal_bits_moved x s (kind_select (range_at look.entries s) kind q))
  meant_part_moved x kind None (Some (a_memory m)) = refl
  meant_part_moved x kind (Some q) (Some (a_memory m)) = refl
  meant_part_moved x kind None (Some no_value) = refl
  meant_part_moved x kind (Some q) (Some no_value) = refl

  -- the bounds were judged, and so was the name
  abbrev parted : Look → List Broken → Text → PartKind → (l r : Term) → Option Meaning → Term
  parted a u x kind l r o = let rest = meant_part a x kind (range_of l r) o in spoilt rest.expr rest.is_constant (u ++ l.broken ++ r.broken ++ rest.broken)

  part_moved : (x : Text) (kind : PartKind) (l r : Term) → part_term there x kind (moved l) (moved r) ≡ moved (part_term look x kind l r)
  part_moved x kind l r =
      ap₂ (λ u o. parted there u x kind (as_bound (moved l)) (as_second kind (moved r)) o) (unknown_moved prefix base look x) (known x)
      ∙ ap₂ (λ a b. parted there (unknown look x) x kind a b (moved_if n (meaning look x))) (bound_moved n l) (second_moved n kind r)
      ∙ go (as_bound l) (as_second kind r)
    where
      go : (a b : Term) → parted there (unknown look x) x kind (moved a) (moved b) (moved_if n (meaning look x)) ≡ moved (parted look (unknown look x) x kind a b (meaning look x))
      go a b =
          ap (λ q. spoilt (meant_part there x kind q (moved_if n (meaning look x))).expr (meant_part there x kind q (moved_if n (meaning look x))).is_constant
          (unknown look x ++ a.broken ++ b.broken ++ (meant_part there x kind q (moved_if n (meaning look x))).broken)) (range_of_moved n a b)
          ∙ ap (λ (t : Term). spoilt t.expr t.is_constant (unknown look x ++ a.broken ++ b.broken ++ t.broken)) (meant_part_moved x kind (range_of a b) (meaning look x))

  -- ---- expressions

  judged_moved : (counted value : Option ℕ) (t : Term) → judged_whole there counted value (moved t) ≡ moved (judged_whole look counted value t)
  judged_moved None value t = refl
  judged_moved (Some m) value t = go (m == 32) value
    where
      go : (b : Bool) (o : Option ℕ) → cond b (whole_number there o) (moved t) ≡ moved (cond b (whole_number look o) t)
      go true None = refl
      go true (Some v) = refl
      go false o = refl

  whole_judged : (e : ExprTree) (t u : Term) → t ≡ moved u → judged_whole there (counted_size there.names e) (whole there.names e) t
      ≡ moved (judged_whole look (counted_size look.names e) (whole look.names e) u)
  whole_judged e t u h =
      ap₃ (judged_whole there) (counted_moved n look.names e) (whole_moved n look.names e) h ∙ judged_moved (counted_size look.names e) (whole look.names e) u

  mutual
    pub read_moved : (e : ExprTree) → read there e ≡ moved (read look e)
    read_moved (number v w spelt) = refl
    read_moved (name x) = ap (meant_term there x) (known x) ∙ meant_moved x (meaning look x)
    read_moved (index x i) = ap (index_term there x) (read_moved i) ∙ index_moved x (read look i)
    read_moved (part x kind l r) = ap₂ (part_term there x kind) (read_moved l) (read_moved r) ∙ part_moved x kind (read look l) (read look r)
    read_moved (unary op a) =
        whole_judged (unary op a) (unary_term op (read there a)) (unary_term op (read look a)) (ap (unary_term op) (read_moved a) ∙ unary_moved n op (read look a))
    read_moved (binary op a b) =
        whole_judged (binary op a b) (also (binary_term op (read there a) (read there b)) (breaks_if (compares_signed there.names op a b) 307 []))
        (also (binary_term op (read look a) (read look b)) (breaks_if (compares_signed look.names op a b) 307 []))
        (ap₃ (λ t u s. also (binary_term op t u) (breaks_if s 307 [])) (read_moved a) (read_moved b) (compares_moved n look.names op a b))
    read_moved (choice c a b) =
        whole_judged (choice c a b) (choice_term (read there c) (read there a) (read there b)) (choice_term (read look c) (read look a) (read look b))
        (ap₃ choice_term (read_moved c) (read_moved a) (read_moved b))
    read_moved (join parts) = ap join_term (parts_moved parts) ∙ join_moved n (read_parts look parts)
    read_moved (repeat c parts) = ap₂ repeat_term (read_moved c) (parts_moved parts) ∙ repeat_moved n (read look c) (read_parts look parts)
    read_moved (paren a) = read_moved a

    parts_moved : (es : ExprTrees) → read_parts there es ≡ moved_terms n (read_parts look es)
    parts_moved no_trees = refl
    parts_moved (and_trees a es) =
        ap₂ (λ t ts. t ∷ ts) (ap₂ (λ t b. also t (breaks_if b 308 [])) (read_moved a) (unsized_moved n look.names a)) (parts_moved es)
