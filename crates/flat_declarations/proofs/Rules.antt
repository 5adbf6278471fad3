-- Rules that bounds, parameters and declarations break, as they are noted.
use Rattle.std.proofs.Common.{◌≡◌, ◌≢◌, ℕ, suc, ◌^◌, Bool, true, false, cond, not, ◌==◌, nat_lt, nat_le, List, [], ◌∷◌, ◌++◌, Option, Some, None, refl, sym, ap, ◌∙◌, arith, rules, eqb-true}
use Rattle.std.specs.Prelude.{filter, is_none}
use Rattle.verilog_reading.specs.ExprTree.{ExprTree, number, name, index, part, unary, binary, choice, join, repeat, paren, ExprTrees, no_trees, and_trees}
use Rattle.verilog_reading.specs.SourceTree.{Bounds}
use Rattle.flat_meaning.specs.Flat.{size}
use Rattle.flat_meaning.proofs.Words.{by_lt}
use Rattle.flat_unfolding.specs.Outcome.{Text, Broken, breaks, breaks_if}
use Rattle.flat_unfolding.specs.Names.{Range, Param, Meaning, a_param, a_signal, a_memory, no_value, Look, meaning, unknown}
use Rattle.flat_unfolding.specs.Constants.{counted_size, whole}
use Rattle.flat_unfolding.specs.Signs.{compares_signed, is_unsized}
use Rattle.verilog_ast.specs.declared.PartKind.{PartKind}
use Rattle.verilog_ast.specs.declared.PartKind.TheVariants as k
use Rattle.flat_unfolding.specs.Expressions.{Term, is_sound, as_constant, as_bound, as_second, as_count, all_broken, range_of, Select, is_whole_only, judged_whole, param_bits, signal_bits, word_bits, binary_term, meant_term, meant_index, meant_part, read, read_parts}
use Rattle.flat_unfolding.specs.Parameters.{bounds_read}
use Rattle.flat_unfolding.specs.Formed.{IsFormed}
use Rattle.flat_names.specs.declared.fault.Order.TheVariants as order
use Rattle.flat_names.specs.Noting.{order_of, Noted, first_of, noted, all_noted, passed_on}
use Rattle.flat_names.specs.Pieces.{EachIs}
use Rattle.flat_names.specs.Looks.{IsFit}
use Rattle.flat_names.specs.Selects.{bound_notes}
use Rattle.flat_names.proofs.Notes.{noted-both, then-noted, noted-late}
use Rattle.flat_names.proofs.Fit.{all-range, one-constant, fit}

-- ---- both bounds of a range: the left one's own rule is noted behind the right one's constant

pub bounds-noted : (l : Look) (b : Bounds) (f0 f1 f2 f3 : Noted) → IsFit l → IsFormed b.right
    → f1 ≡ all_noted f0 (as_constant (read l b.left)).broken → f2 ≡ all_noted f1 (as_constant (read l b.right)).broken
    → f3 ≡ all_noted f2 (bound_notes (read l b.left) ++ bound_notes (read l b.right)) → f3 ≡ all_noted f0 (bounds_read l b).broken
bounds-noted l b f0 f1 f2 f3 is formed e1 e2 e3 = last ∙ then-noted f0 lower (all_noted (all_noted f2 low) high) (left ++ low) (right ++ high)
    (then-noted f0 f1 lower left low e1 refl)
    (then-noted lower (all_noted f2 low) (all_noted (all_noted f2 low) high) right high moved refl)
  where
    left : List Broken
    left = (as_constant (read l b.left)).broken

    right : List Broken
    right = (as_constant (read l b.right)).broken

    low : List Broken
    low = bound_notes (read l b.left)

    high : List Broken
    high = bound_notes (read l b.right)

    lower : Noted
    lower = all_noted f1 low

    moved : all_noted f2 low ≡ all_noted lower right
    moved = ap (λ g. all_noted g low) e2 ∙ noted-late f1 low right (all-range _) (one-constant (read l b.right) (fit l is b.right formed).one)

    last : f3 ≡ all_noted (all_noted f2 low) high
    last = e3 ∙ noted-both f2 low high

-- ---- no expression breaks E304

abbrev pub IsOther : Broken → Type 0
IsOther b = b.number ≢ 304

both-other : (bs cs : List Broken) → EachIs IsOther bs → EachIs IsOther cs → EachIs IsOther (bs ++ cs)
both-other [] cs h k = k
both-other (b ∷ bs) cs h k = (h.0, both-other bs cs h.1 k)

if-other : (t : Bool) (k : ℕ) (x : Text) → k ≢ 304 → EachIs IsOther (breaks_if t k x)
if-other true k x h = (h, tt)
if-other false k x h = tt

break-other : (k : ℕ) (x : Text) → k ≢ 304 → EachIs IsOther (breaks k x)
break-other k x h = (h, tt)

unknown-other : (l : Look) (x : Text) → EachIs IsOther (unknown l x)
unknown-other l x = if-other (is_none (meaning l x)) 305 x (λ e. omega arith)

constant-other : (t : Term) → EachIs IsOther t.broken → EachIs IsOther (as_constant t).broken
constant-other t h = both-other t.broken _ h (if-other (not t.is_constant) 307 [] (λ e. omega arith))

bound-other : (t : Term) → EachIs IsOther t.broken → EachIs IsOther (as_bound t).broken
bound-other t h = both-other (as_constant t).broken _ (constant-other t h) (if-other _ 307 [] (λ e. omega arith))

count-other : (t : Term) → EachIs IsOther t.broken → EachIs IsOther (as_count t).broken
count-other t h = both-other (as_bound t).broken _ (bound-other t h) (if-other _ 307 [] (λ e. omega arith))

abbrev AllOther : List Term → Type 0
AllOther [] = Unit {0}
AllOther (t ∷ ts) = EachIs IsOther t.broken × AllOther ts

all-other : (ts : List Term) → AllOther ts → EachIs IsOther (all_broken ts)
all-other [] h = tt
all-other (t ∷ ts) h = both-other t.broken (all_broken ts) h.0 (all-other ts h.1)

cond-other : (c : Bool) (t u : Term) → EachIs IsOther t.broken → EachIs IsOther u.broken → EachIs IsOther (cond c t u).broken
cond-other true t u h i = h
cond-other false t u h i = i

param-other : (l : Look) (x : Text) (p : Param) (s : Option Select) → EachIs IsOther (param_bits l x p s).broken
param-other l x p None = break-other 314 x (λ e. omega arith)
param-other l x p (Some s) = tt

signal-other : (l : Look) (x : Text) (s : ℕ) (o : Option Select) → EachIs IsOther (signal_bits l x s o).broken
signal-other l x s None = break-other 314 x (λ e. omega arith)
signal-other l x s (Some o) = tt

word-other : (l : Look) (x : Text) (o : Option ℕ) → EachIs IsOther (word_bits l x o).broken
word-other l x None = break-other 314 x (λ e. omega arith)
word-other l x (Some s) = tt

name-other : (l : Look) (x : Text) (m : Option Meaning) → EachIs IsOther (meant_term l x m).broken
name-other l x (Some (a_param p)) = tt
name-other l x (Some (a_signal s)) = tt
name-other l x (Some (a_memory a)) = break-other 319 x (λ e. omega arith)
name-other l x (Some no_value) = unknown-other l x
name-other l x None = unknown-other l x

index-other : (l : Look) (x : Text) (t : Term) (m : Option Meaning) → EachIs IsOther (meant_index l x t m).broken
index-other l x t (Some (a_param p)) = cond-other t.is_constant _ _ (param-other l x p _) (break-other 315 x (λ e. omega arith))
index-other l x t (Some (a_signal s)) = cond-other t.is_constant _ _ (signal-other l x s _) (if-other _ 315 x (λ e. omega arith))
index-other l x t (Some (a_memory a)) = cond-other t.is_constant _ _ (word-other l x _) (cond-other (nat_le (2 ^ size t.expr) a.words) _ _ tt (break-other 315 x (λ e. omega arith)))
index-other l x t (Some no_value) = tt
index-other l x t None = tt

part-other : (l : Look) (x : Text) (kind : PartKind) (o : Option Range) (m : Option Meaning) → EachIs IsOther (meant_part l x kind o m).broken
part-other l x kind (Some p) (Some (a_param a)) = param-other l x a _
part-other l x kind None (Some (a_param a)) = tt
part-other l x kind (Some p) (Some (a_signal s)) = signal-other l x s _
part-other l x kind None (Some (a_signal s)) = tt
part-other l x kind (Some p) (Some (a_memory m)) = break-other 319 x (λ e. omega arith)
part-other l x kind None (Some (a_memory m)) = break-other 319 x (λ e. omega arith)
part-other l x kind (Some p) (Some no_value) = tt
part-other l x kind None (Some no_value) = tt
part-other l x kind (Some p) None = tt
part-other l x kind None None = tt

second-other : (kind : PartKind) (t : Term) → EachIs IsOther t.broken → EachIs IsOther (as_second kind t).broken
second-other k.Range t h = bound-other t h
second-other k.Up t h = count-other t h
second-other k.Down t h = count-other t h

whole-other : (l : Look) (k n : Option ℕ) (t : Term) → EachIs IsOther t.broken → EachIs IsOther (judged_whole l k n t).broken
whole-other l None n t h = h
whole-other l (Some k) None t h = cond-other (k == 32) _ t (break-other 307 [] (λ e. omega arith)) h
whole-other l (Some k) (Some n) t h = cond-other (k == 32) _ t tt h

mutual
  read-other : (l : Look) (e : ExprTree) → EachIs IsOther (read l e).broken
  read-other l (number v w spelt) = tt
  read-other l (name x) = name-other l x (meaning l x)
  read-other l (index x i) =
      both-other (unknown l x ++ (read l i).broken) _ (both-other (unknown l x) (read l i).broken (unknown-other l x) (read-other l i))
      (cond-other (is_sound (read l i)) _ _ (index-other l x (read l i) (meaning l x)) tt)
  read-other l (part x kind a b) =
      both-other (unknown l x ++ (as_bound (read l a)).broken ++ (as_second kind (read l b)).broken) _
      (both-other (unknown l x ++ (as_bound (read l a)).broken) _ (both-other (unknown l x) _ (unknown-other l x) (bound-other (read l a) (read-other l a)))
      (second-other kind (read l b) (read-other l b)))
      (part-other l x kind (range_of (as_bound (read l a)) (as_second kind (read l b))) (meaning l x))
  read-other l (unary op a) = whole-other l (counted_size l.names (unary op a)) (whole l.names (unary op a)) _ (read-other l a)
  read-other l (binary op a b) = whole-other l (counted_size l.names (binary op a b)) (whole l.names (binary op a b)) _
      (both-other (binary_term op (read l a) (read l b)).broken _
      (both-other ((read l a).broken ++ (read l b).broken) _ (both-other (read l a).broken (read l b).broken (read-other l a) (read-other l b)) (if-other (is_whole_only op) 307 [] (λ e. omega arith)))
      (if-other (compares_signed l.names op a b) 307 [] (λ e. omega arith)))
  read-other l (choice c a b) = whole-other l (counted_size l.names (choice c a b)) (whole l.names (choice c a b)) _
      (both-other ((read l c).broken ++ (read l a).broken) (read l b).broken (both-other (read l c).broken (read l a).broken (read-other l c) (read-other l a)) (read-other l b))
  read-other l (join parts) = both-other (all_broken (read_parts l parts)) _ (all-other (read_parts l parts) (reads-other l parts)) (if-other _ 308 [] (λ e. omega arith))
  read-other l (repeat count parts) =
      both-other ((as_count (read l count)).broken ++ all_broken (read_parts l parts)) _
      (both-other (as_count (read l count)).broken _ (count-other (read l count) (read-other l count)) (all-other (read_parts l parts) (reads-other l parts))) (if-other _ 308 [] (λ e. omega arith))
  read-other l (paren a) = read-other l a

  reads-other : (l : Look) (es : ExprTrees) → AllOther (read_parts l es)
  reads-other l no_trees = tt
  reads-other l (and_trees a rest) = (both-other (read l a).broken _ (read-other l a) (if-other (is_unsized l.names a) 308 [] (λ e. omega arith)), reads-other l rest)

bounds-other : (l : Look) (b : Bounds) → EachIs IsOther (bounds_read l b).broken
bounds-other l b = both-other (as_bound (read l b.left)).broken (as_bound (read l b.right)).broken (bound-other (read l b.left) (read-other l b.left)) (bound-other (read l b.right) (read-other l b.right))

-- ---- of the rules of an array's bounds an unknown name alone is told

abbrev is_unknown : Broken → Bool
is_unknown b = b.number == 305

-- where a rule stands among those of a declaration, by whether it is E305
abbrev place_of : Broken → (unknown : Bool) → ℕ
place_of b unknown = suc (cond unknown 0 (suc (cond (b.number == 306) 0 (suc (cond (b.number == 319) 0 (suc (cond (b.number == 307) 0 (suc (cond (b.number == 308) 0 (suc b.number))))))))))

placed : (b : Broken) (t : Bool) → IsOther b → is_unknown b ≡ t → order_of order.Declaration b.number ≡ place_of b t
placed b t h e = go (b.number == 304) refl
  where
    go : (s : Bool) → (b.number == 304) ≡ s → cond s 0 (place_of b (is_unknown b)) ≡ place_of b t
    go true k = absurd (h (eqb-true b.number 304 k))
    go false k = ap (place_of b) e

-- a break of the rule that counts already changes nothing
again-same : (f : Noted) (a b : Broken) → a.number ≡ b.number → noted (noted f a) b ≡ noted f a
again-same f a b e = ap (λ x. record { order = f.order; found = Some x }) (go f.found)
  where
    o : ℕ → ℕ
    o = order_of f.order

    not_less : (k : ℕ) → nat_lt k k ≡ false
    not_less k = search rules

    by : (m : Broken) (t : Bool) → t ≡ nat_lt (o a.number) (o m.number) → cond (nat_lt (o b.number) (o (cond t a m).number)) b (cond t a m) ≡ cond t a m
    by m true d = ap (λ t. cond t b a) (ap (λ k. nat_lt (o k) (o a.number)) (sym e) ∙ not_less (o a.number))
    by m false d = ap (λ t. cond t b m) (ap (λ k. nat_lt (o k) (o m.number)) (sym e) ∙ sym d)

    go : (m : Option Broken) → first_of (order_of f.order) (Some (first_of (order_of f.order) m a)) b ≡ first_of (order_of f.order) m a
    go None = ap (λ t. cond t b a) (ap (λ k. nat_lt (o k) (o a.number)) (sym e) ∙ not_less (o a.number))
    go (Some m) = by m (nat_lt (o a.number) (o m.number)) refl

abbrev IfOther : Option Broken → Type 0
IfOther None = Unit {0}
IfOther (Some a) = IsOther a

first-other : (m : Option Broken) (b : Broken) → IfOther m → IsOther b → IsOther (first_of (order_of order.Declaration) m b)
first-other None b h k = k
first-other (Some a) b h k = go (nat_lt (order_of order.Declaration b.number) (order_of order.Declaration a.number))
  where
    go : (c : Bool) → IsOther (cond c b a)
    go true = k
    go false = h

module _ (other : Noted) where
  picked : (a b : Broken) (c : Bool) → passed_on 305 (Some (cond c b a)) other ≡ cond c (passed_on 305 (Some b) other) (passed_on 305 (Some a) other)
  picked a b true = refl
  picked a b false = refl

  passes-first : (a b : Broken) (s t : Bool) → IsOther a → IsOther b → is_unknown a ≡ s → is_unknown b ≡ t
      → cond (nat_lt (order_of order.Declaration b.number) (order_of order.Declaration a.number)) (cond t (noted other b) other) (cond s (noted other a) other)
      ≡ all_noted (cond s (noted other a) other) (cond t (b ∷ []) [])
  passes-first a b true true h k d e = by_lt (λ c. cond c (noted other b) (noted other a) ≡ noted (noted other a) b) _ _
      (λ l. let x = placed a true h d in let y = placed b true k e in absurd (omega (arith, x, y, l)))
      (λ l. sym (again-same other a b (eqb-true a.number 305 d ∙ sym (eqb-true b.number 305 e))))
  passes-first a b false true h k d e = by_lt (λ c. cond c (noted other b) other ≡ noted other b) _ _
      (λ l. refl)
      (λ l. let x = placed a false h d in let y = placed b true k e in absurd (omega (arith, x, y, l)))
  passes-first a b true false h k d e = by_lt (λ c. cond c other (noted other a) ≡ noted other a) _ _
      (λ l. let x = placed a true h d in let y = placed b false k e in absurd (omega (arith, x, y, l)))
      (λ l. refl)
  passes-first a b false false h k d e = by_lt (λ c. cond c other other ≡ other) _ _ (λ l. refl) (λ l. refl)

  passes-next : (m : Option Broken) (b : Broken) → IfOther m → IsOther b
      → passed_on 305 (Some (first_of (order_of order.Declaration) m b)) other ≡ all_noted (passed_on 305 m other) (cond (is_unknown b) (b ∷ []) [])
  passes-next None b h k = go (is_unknown b)
    where
      go : (t : Bool) → cond t (noted other b) other ≡ all_noted other (cond t (b ∷ []) [])
      go true = refl
      go false = refl
  passes-next (Some a) b h k = picked a b (nat_lt (order_of order.Declaration b.number) (order_of order.Declaration a.number)) ∙ passes-first a b (is_unknown a) (is_unknown b) h k refl refl

  passes-all : (bs : List Broken) (m : Option Broken) → IfOther m → EachIs IsOther bs
      → passed_on 305 (all_noted (record { order = order.Declaration; found = m }) bs).found other ≡ all_noted (passed_on 305 m other) (filter is_unknown bs)
  passes-all [] m h k = refl
  passes-all (b ∷ bs) m h k =
      passes-all bs (Some (first_of (order_of order.Declaration) m b)) (first-other m b h k.0) k.1
      ∙ ap (λ g. all_noted g (filter is_unknown bs)) (passes-next m b h k.0)
      ∙ go (is_unknown b)
    where
      go : (t : Bool) → all_noted (all_noted (passed_on 305 m other) (cond t (b ∷ []) [])) (filter is_unknown bs) ≡ all_noted (passed_on 305 m other) (cond t (b ∷ filter is_unknown bs) (filter is_unknown bs))
      go true = refl
      go false = refl

-- the bounds' own notes, passed on
pub array-noted : (l : Look) (b : Bounds) (inner f0 f1 : Noted) → inner ≡ all_noted (record { order = order.Declaration; found = None }) (bounds_read l b).broken
    → f1 ≡ passed_on 305 inner.found f0 → f1 ≡ all_noted f0 (filter (λ (x : Broken). x.number == 305) (bounds_read l b).broken)
array-noted l b inner f0 f1 d e = e ∙ ap (λ (x : Noted). passed_on 305 x.found f0) d ∙ passes-all f0 (bounds_read l b).broken None tt (bounds-other l b)
