-- A bit has a value exactly where all its terms at it hold.
use Rattle.std.proofs.Common.{◌≡◌, ℕ, zero, suc, ◌+◌, ◌-◌, Bool, true, false, cond, not, ◌&&◌, ◌||◌, ◌==◌, nat_lt, Option, Some, None, List, [], ◌++◌, refl, sym, ap, ap₂, subst, ◌∙◌, eqb-true}
use Rattle.std.specs.Bool.{beq}
use Rattle.std.proofs.lemmas.List.Folds.{list_all-append}
use Rattle.cell_graph.specs.Reading.{Reading}
use Rattle.cell_graph.specs.Tree.{Tree, Var, Const, Not, And, Or, Xor, Add, Sub, Eq, Lt, Shl, Shr, Mux, Concat, Slice, Extend, ReduceAnd, ReduceOr, ReduceXor, width, bit, all_below, any_below}
use Rattle.cell_graph.specs.Cofactor.{known}
use Rattle.cell_graph.specs.Origin.{tree_bit}
use Rattle.cell_graph.proofs.Sound.{Knows, known_sound}
use Rattle.cdc_model.specs.Gray.{exclusive_or}
use Rattle.fifo_terms.specs.Terms.{Term, holds, all_hold, beside_known, Bare, inverted_by, as_it_is, bare, differ, differing, each_below, unless_known, itself, zero_terms, terms}
use Rattle.fifo_terms.proofs.Passing.{either, up_speaks, down_speaks}

-- ---- truth values

pub beq_true : (v : Bool) → beq v true ≡ v
beq_true true = refl
beq_true false = refl

pub beq_false : (v : Bool) → beq v false ≡ not v
beq_false true = refl
beq_false false = refl

and_true : (v : Bool) → (v && true) ≡ v
and_true true = refl
and_true false = refl

pub beq_refl : (v : Bool) → beq v v ≡ true
beq_refl true = refl
beq_refl false = refl

beq_same : (a b : Bool) → beq a b ≡ true → a ≡ b
beq_same true true h = refl
beq_same true false h = cc
beq_same false true h = cc
beq_same false false h = refl

-- a side that is c, on either side
pub moved : (c x v : Bool) → beq x (exclusive_or c v) ≡ beq (exclusive_or c x) v
moved true true true = refl
moved true true false = refl
moved true false true = refl
moved true false false = refl
moved false x v = refl

pub xor_comm : (a b : Bool) → exclusive_or a b ≡ exclusive_or b a
xor_comm true true = refl
xor_comm true false = refl
xor_comm false true = refl
xor_comm false false = refl

xor_assoc : (a b c : Bool) → exclusive_or a (exclusive_or b c) ≡ exclusive_or (exclusive_or a b) c
xor_assoc true true true = refl
xor_assoc true true false = refl
xor_assoc true false c = refl
xor_assoc false b c = refl

-- inversions of either side are one of the whole
regroup : (m n a b : Bool) → exclusive_or (exclusive_or m n) (exclusive_or a b) ≡ exclusive_or (exclusive_or m a) (exclusive_or n b)
regroup m n a b = sym (xor_assoc m n (exclusive_or a b)) ∙ ap (exclusive_or m) (xor_assoc n a b ∙ ap (λ x. exclusive_or x b) (xor_comm n a) ∙ sym (xor_assoc a n b)) ∙ xor_assoc m a (exclusive_or n b)

-- ---- nodes

-- the bare node, inverted as it says, has the bit's value
abbrev pub IsBare : Reading → Bare → Bool → Type 0
IsBare r b v = exclusive_or b.inverted (tree_bit r b.node) ≡ v

inverted_is : (r : Reading) (c : Bool) (b : Bare) (v : Bool) → IsBare r b v → IsBare r (inverted_by c b) (exclusive_or c v)
inverted_is r c b v h = sym (xor_assoc c b.inverted (tree_bit r b.node)) ∙ ap (exclusive_or c) h

module _ (r : Reading) where
  beside_bare : (a b : Tree) (i : ℕ) (o p : Option Bool) → Knows o (bit r a i) → Knows p (bit r b i) → IsBare r (bare a i) (bit r a i) → IsBare r (bare b i) (bit r b i)
      → IsBare r (beside_known o p (λ c. inverted_by c (bare b i)) (λ c. inverted_by c (bare a i)) (as_it_is (Some (Xor a b, i)))) (bit r (Xor a b) i)
  beside_bare a b i (Some c) p h k f s = inverted_is r c (bare b i) (bit r b i) s ∙ ap (λ x. exclusive_or x (bit r b i)) (sym h)
  beside_bare a b i None (Some c) h k f s = inverted_is r c (bare a i) (bit r a i) f ∙ xor_comm c (bit r a i) ∙ ap (exclusive_or (bit r a i)) (sym k)
  beside_bare a b i None None h k f s = refl

  pub bare_sound : (t : Tree) (i : ℕ) → IsBare r (bare t i) (bit r t i)
  bare_sound (Not a) i = inverted_is r true (bare a i) (bit r a i) (bare_sound a i)
  bare_sound (Xor a b) i = beside_bare a b i (known [] a i) (known [] b i) (known_sound [] r tt a i) (known_sound [] r tt b i) (bare_sound a i) (bare_sound b i)
  bare_sound (Concat high low) i = either (IsBare r) (nat_lt i (width low)) (bare low i) (bare high (i - width low)) (bit r low i) (bit r high (i - width low)) (bare_sound low i) (bare_sound high (i - width low))
  bare_sound (Slice a at w) i = bare_sound a (at + i)
  bare_sound (Extend a w) i = either (IsBare r) (nat_lt i (width a)) (bare a i) (as_it_is None) (bit r a i) false (bare_sound a i) refl
  bare_sound (Shl a by) i = up_speaks (IsBare r) r a by i (as_it_is (Some (Shl a by, i))) (as_it_is None) (λ j. bare a j) refl refl (λ j. bare_sound a j)
  bare_sound (Shr a by) i = down_speaks (IsBare r) r a by i (as_it_is (Some (Shr a by, i))) (as_it_is None) (λ j. bare a j) refl refl (λ j. bare_sound a j)
  bare_sound _ i = refl

  -- ---- terms

  -- all hold exactly where x is v
  abbrev pub Decide : Bool → List Term → Bool → Type 0
  Decide v ts x = all_hold r ts ≡ beq x v

  unless_decides : (o : Option Bool) (v : Bool) (ts : List Term) (x : Bool) → Knows o x → Decide v ts x → Decide v (unless_known o v ts) x
  unless_decides None v ts x h k = k
  unless_decides (Some c) v ts x h k = go (beq c v) refl
    where
      go : (u : Bool) → beq c v ≡ u → Decide v (cond u [] ts) x
      go true e = sym e ∙ ap (λ y. beq y v) (sym h)
      go false e = k

  itself_decides : (t : Tree) (i : ℕ) (v : Bool) → Decide v (itself t i v) (bit r t i)
  itself_decides t i v = and_true (beq (bit r t i) v)

  pub zero_decides : (v : Bool) → Decide v (zero_terms v) false
  zero_decides true = refl
  zero_decides false = refl

  joined : (s t : List Term) → all_hold r (s ++ t) ≡ (all_hold r s && all_hold r t)
  joined s t = list_all-append (holds r) s t

  pub differ_decides : (a b : Bare) (x y v : Bool) → IsBare r a x → IsBare r b y → Decide v (differ a b v) (exclusive_or x y)
  differ_decides a b x y v h k = and_true (beq (exclusive_or m n) (exclusive_or (exclusive_or a.inverted b.inverted) v))
      ∙ moved (exclusive_or a.inverted b.inverted) (exclusive_or m n) v
      ∙ ap (λ z. beq z v) (regroup a.inverted b.inverted m n ∙ ap₂ exclusive_or h k)
    where
      m : Bool
      m = tree_bit r a.node

      n : Bool
      n = tree_bit r b.node

  differing_decides : (a b : Tree) (i : ℕ) (first second : Bool → List Term) (v : Bool) → ((u : Bool) → Decide u (first u) (bit r a i)) → ((u : Bool) → Decide u (second u) (bit r b i))
      → Decide v (differing a b i first second v) (exclusive_or (bit r a i) (bit r b i))
  differing_decides a b i first second v f s = go (known [] a i) (known [] b i) (known_sound [] r tt a i) (known_sound [] r tt b i)
    where
      go : (o p : Option Bool) → Knows o (bit r a i) → Knows p (bit r b i)
          → Decide v (beside_known o p (λ c. second (exclusive_or c v)) (λ c. first (exclusive_or c v)) (differ (bare a i) (bare b i) v)) (exclusive_or (bit r a i) (bit r b i))
      go (Some c) p h k = s (exclusive_or c v) ∙ moved c (bit r b i) v ∙ ap (λ x. beq (exclusive_or x (bit r b i)) v) (sym h)
      go None (Some c) h k = f (exclusive_or c v) ∙ moved c (bit r a i) v ∙ ap (λ x. beq x v) (xor_comm c (bit r a i) ∙ ap (exclusive_or (bit r a i)) (sym k))
      go None None h k = differ_decides (bare a i) (bare b i) (bit r a i) (bit r b i) v (bare_sound a i) (bare_sound b i)

  both_decide : (s t : List Term) (x y : Bool) → Decide true s x → Decide true t y → Decide true (s ++ t) (x && y)
  both_decide s t x y h k = joined s t ∙ ap₂ (λ u v. u && v) (h ∙ beq_true x) (k ∙ beq_true y) ∙ sym (beq_true (x && y))

  neither_decides : (s t : List Term) (x y : Bool) → Decide false s x → Decide false t y → Decide false (s ++ t) (x || y)
  neither_decides s t x y h k = joined s t ∙ ap₂ (λ u v. u && v) h k ∙ go x y
    where
      go : (x y : Bool) → (beq x false && beq y false) ≡ beq (x || y) false
      go true y = refl
      go false y = refl

  each_decides : (f : ℕ → List Term) (x : ℕ → Bool) (w : ℕ) → ((j : ℕ) → all_hold r (f j) ≡ x j) → all_hold r (each_below f w) ≡ all_below x w
  each_decides f x zero h = refl
  each_decides f x (suc w) h = joined (each_below f w) (f w) ∙ ap₂ (λ u v. u && v) (each_decides f x w h) (h w)

  all_same : (x y : ℕ → Bool) (w : ℕ) → ((j : ℕ) → x j ≡ y j) → all_below x w ≡ all_below y w
  all_same x y zero h = refl
  all_same x y (suc w) h = ap₂ (λ u v. u && v) (all_same x y w h) (h w)

  -- the bits of two words are the same; or the only ones differ
  equal_decides : (d : Bool → ℕ → List Term) (f g : ℕ → Bool) (w : ℕ) (own : List Term) (v : Bool) → ((u : Bool) (j : ℕ) → Decide u (d u j) (exclusive_or (f j) (g j)))
      → Decide v own (all_below (λ j. not (exclusive_or (f j) (g j))) w)
      → Decide v (cond (v || (w == 1)) (each_below (λ j. d (not v) j) w) own) (all_below (λ j. not (exclusive_or (f j) (g j))) w)
  equal_decides d f g w own true each k = each_decides (λ j. d false j) (λ j. not (exclusive_or (f j) (g j))) w (λ j. each false j ∙ beq_false (exclusive_or (f j) (g j)))
      ∙ sym (beq_true (all_below (λ j. not (exclusive_or (f j) (g j))) w))
  equal_decides d f g w own false each k = go (w == 1) refl
    where
      opposite : (x : Bool) → x ≡ beq (not x) false
      opposite true = refl
      opposite false = refl

      go : (u : Bool) → (w == 1) ≡ u → Decide false (cond u (each_below (λ j. d true j) w) own) (all_below (λ j. not (exclusive_or (f j) (g j))) w)
      go true e = subst (λ (n : ℕ). Decide false (each_below (λ j. d true j) n) (all_below (λ j. not (exclusive_or (f j) (g j))) n)) (sym (eqb-true w 1 e))
          (each true 0 ∙ beq_true (exclusive_or (f 0) (g 0)) ∙ opposite (exclusive_or (f 0) (g 0)))
      go false e = k

  and_decides : (a b : Tree) (i : ℕ) (v : Bool) → Decide v (terms a i v) (bit r a i) → Decide v (terms b i v) (bit r b i)
      → Decide v (cond v (terms a i v ++ terms b i v) (itself (And a b) i v)) (bit r (And a b) i)
  and_decides a b i true h k = both_decide (terms a i true) (terms b i true) (bit r a i) (bit r b i) h k
  and_decides a b i false h k = itself_decides (And a b) i false

  or_decides : (a b : Tree) (i : ℕ) (v : Bool) → Decide v (terms a i v) (bit r a i) → Decide v (terms b i v) (bit r b i)
      → Decide v (cond v (itself (Or a b) i v) (terms a i v ++ terms b i v)) (bit r (Or a b) i)
  or_decides a b i true h k = itself_decides (Or a b) i true
  or_decides a b i false h k = neither_decides (terms a i false) (terms b i false) (bit r a i) (bit r b i) h k

  none_decides : (f : ℕ → List Term) (x : ℕ → Bool) (w : ℕ) → ((j : ℕ) → Decide false (f j) (x j)) → Decide false (each_below f w) (any_below x w)
  none_decides f x zero h = refl
  none_decides f x (suc w) h = neither_decides (each_below f w) (f w) (any_below x w) (x w) (none_decides f x w h) (h w)

  all_decide : (a : Tree) (i : ℕ) (v : Bool) → ((u : Bool) (j : ℕ) → Decide u (terms a j u) (bit r a j))
      → Decide v (cond v (each_below (λ j. terms a j v) (width a)) (itself (ReduceAnd a) i v)) (bit r (ReduceAnd a) i)
  all_decide a i true h = each_decides (λ j. terms a j true) (bit r a) (width a) (λ j. h true j ∙ beq_true (bit r a j)) ∙ sym (beq_true (all_below (bit r a) (width a)))
  all_decide a i false h = itself_decides (ReduceAnd a) i false

  any_decides : (a : Tree) (i : ℕ) (v : Bool) → ((u : Bool) (j : ℕ) → Decide u (terms a j u) (bit r a j))
      → Decide v (cond v (itself (ReduceOr a) i v) (each_below (λ j. terms a j v) (width a))) (bit r (ReduceOr a) i)
  any_decides a i true h = itself_decides (ReduceOr a) i true
  any_decides a i false h = none_decides (λ j. terms a j false) (bit r a) (width a) (λ j. h false j)

  -- any other node stands for itself
  own : (t : Tree) (i : ℕ) (v : Bool) → terms t i v ≡ unless_known (known [] t i) v (itself t i v) → Decide v (terms t i v) (bit r t i)
  own t i v e = ap (all_hold r) e ∙ unless_decides (known [] t i) v (itself t i v) (bit r t i) (known_sound [] r tt t i) (itself_decides t i v)

  pub terms_sound : (t : Tree) (i : ℕ) (v : Bool) → all_hold r (terms t i v) ≡ beq (bit r t i) v
  terms_sound (Not a) i v = unless_decides (known [] (Not a) i) v (terms a i (not v)) (not (bit r a i)) (known_sound [] r tt (Not a) i) (terms_sound a i (not v) ∙ moved true (bit r a i) v)
  terms_sound (And a b) i v = unless_decides (known [] (And a b) i) v (cond v (terms a i v ++ terms b i v) (itself (And a b) i v)) (bit r (And a b) i) (known_sound [] r tt (And a b) i)
      (and_decides a b i v (terms_sound a i v) (terms_sound b i v))
  terms_sound (Or a b) i v = unless_decides (known [] (Or a b) i) v (cond v (itself (Or a b) i v) (terms a i v ++ terms b i v)) (bit r (Or a b) i) (known_sound [] r tt (Or a b) i)
      (or_decides a b i v (terms_sound a i v) (terms_sound b i v))
  terms_sound (Xor a b) i v = unless_decides (known [] (Xor a b) i) v (differing a b i (λ u. terms a i u) (λ u. terms b i u) v) (bit r (Xor a b) i) (known_sound [] r tt (Xor a b) i)
      (differing_decides a b i (λ u. terms a i u) (λ u. terms b i u) v (λ u. terms_sound a i u) (λ u. terms_sound b i u))
  terms_sound (Eq a b) i v = unless_decides (known [] (Eq a b) i) v (cond (v || (width a == 1)) (each_below (λ j. differing a b j (λ u. terms a j u) (λ u. terms b j u) (not v)) (width a)) (itself (Eq a b) i v))
      (bit r (Eq a b) i) (known_sound [] r tt (Eq a b) i)
      (equal_decides (λ u j. differing a b j (λ u. terms a j u) (λ u. terms b j u) u) (bit r a) (bit r b) (width a) (itself (Eq a b) i v) v
      (λ u j. differing_decides a b j (λ u. terms a j u) (λ u. terms b j u) u (λ u. terms_sound a j u) (λ u. terms_sound b j u))
      (itself_decides (Eq a b) i v))
  terms_sound (Concat high low) i v = either (Decide v) (nat_lt i (width low)) (terms low i v) (terms high (i - width low) v) (bit r low i) (bit r high (i - width low)) (terms_sound low i v) (terms_sound high (i - width low) v)
  terms_sound (Slice a at w) i v = terms_sound a (at + i) v
  terms_sound (Extend a w) i v = either (Decide v) (nat_lt i (width a)) (terms a i v) (zero_terms v) (bit r a i) false (terms_sound a i v) (zero_decides v)
  terms_sound (Shl a by) i v = up_speaks (Decide v) r a by i (unless_known (known [] (Shl a by) i) v (itself (Shl a by) i v)) (zero_terms v) (λ j. terms a j v)
      (unless_decides (known [] (Shl a by) i) v (itself (Shl a by) i v) (bit r (Shl a by) i) (known_sound [] r tt (Shl a by) i) (itself_decides (Shl a by) i v)) (zero_decides v) (λ j. terms_sound a j v)
  terms_sound (Shr a by) i v = down_speaks (Decide v) r a by i (unless_known (known [] (Shr a by) i) v (itself (Shr a by) i v)) (zero_terms v) (λ j. terms a j v)
      (unless_decides (known [] (Shr a by) i) v (itself (Shr a by) i v) (bit r (Shr a by) i) (known_sound [] r tt (Shr a by) i) (itself_decides (Shr a by) i v)) (zero_decides v) (λ j. terms_sound a j v)
  terms_sound (Var sig w) i v = own (Var sig w) i v refl
  terms_sound (Const w n) i v = own (Const w n) i v refl
  terms_sound (Add a b) i v = own (Add a b) i v refl
  terms_sound (Sub a b) i v = own (Sub a b) i v refl
  terms_sound (Lt a b) i v = own (Lt a b) i v refl
  terms_sound (Mux c a b) i v = own (Mux c a b) i v refl
  terms_sound (ReduceAnd a) i v = unless_decides (known [] (ReduceAnd a) i) v (cond v (each_below (λ j. terms a j v) (width a)) (itself (ReduceAnd a) i v)) (bit r (ReduceAnd a) i)
      (known_sound [] r tt (ReduceAnd a) i) (all_decide a i v (λ u j. terms_sound a j u))
  terms_sound (ReduceOr a) i v = unless_decides (known [] (ReduceOr a) i) v (cond v (itself (ReduceOr a) i v) (each_below (λ j. terms a j v) (width a))) (bit r (ReduceOr a) i)
      (known_sound [] r tt (ReduceOr a) i) (any_decides a i v (λ u j. terms_sound a j u))
  terms_sound (ReduceXor a) i v = own (ReduceXor a) i v refl

  pub terms_hold : (t : Tree) (i : ℕ) (v : Bool) → bit r t i ≡ v → all_hold r (terms t i v) ≡ true
  terms_hold t i v e = terms_sound t i v ∙ ap (λ x. beq x v) e ∙ beq_refl v

  pub terms_decide : (t : Tree) (i : ℕ) (v : Bool) → all_hold r (terms t i v) ≡ true → bit r t i ≡ v
  terms_decide t i v h = beq_same (bit r t i) v (sym (terms_sound t i v) ∙ h)
