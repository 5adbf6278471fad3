-- What comes over ways that pass guards and reads is one in two readings.
use Rattle.std.proofs.Common.{◌≡◌, ℕ, zero, suc, ◌+◌, ◌-◌, ◌<◌, ◌^◌, Bool, true, false, cond, not, ◌&&◌, ◌||◌, nat_lt, List, ◌⊎◌, inl, inr, refl, sym, ap, ap₂, ◌∙◌, arith, ltb-true}
use Rattle.std.specs.Bool.{beq}
use Rattle.cdc_base.specs.declared.bit.Bit.{Bit}
use Rattle.cell_graph.specs.Reading.{Reading}
use Rattle.cell_graph.specs.Tree.{Tree, Var, Const, Not, And, Or, Xor, Add, Sub, Eq, Lt, Shl, Shr, Mux, Concat, Slice, Extend, ReduceAnd, ReduceOr, ReduceXor, width, bit_at, number, all_below, any_below, odd_below, bit}
use Rattle.cell_graph.specs.Origin.{const_of}
use Rattle.fifo_terms.specs.Terms.{Term, all_hold, terms}
use Rattle.fifo_terms.proofs.Terms.{terms_sound}
use Rattle.fifo_laws.specs.Ways.{Marks, If, Below, MovedUp, MovedDown, Into, Passes}

-- ---- words of like bits

number_same : (f g : ℕ → Bool) (w : ℕ) → ((j : ℕ) → j < w → f j ≡ g j) → number f w ≡ number g w
number_same f g zero h = refl
number_same f g (suc w) h = ap₂ (λ n b. n + cond b (2 ^ w) 0) (number_same f g w (λ j l. h j (omega arith))) (h w (omega arith))

all_same : (f g : ℕ → Bool) (w : ℕ) → ((j : ℕ) → j < w → f j ≡ g j) → all_below f w ≡ all_below g w
all_same f g zero h = refl
all_same f g (suc w) h = ap₂ (λ a b. a && b) (all_same f g w (λ j l. h j (omega arith))) (h w (omega arith))

any_same : (f g : ℕ → Bool) (w : ℕ) → ((j : ℕ) → j < w → f j ≡ g j) → any_below f w ≡ any_below g w
any_same f g zero h = refl
any_same f g (suc w) h = ap₂ (λ a b. a || b) (any_same f g w (λ j l. h j (omega arith))) (h w (omega arith))

odd_same : (f g : ℕ → Bool) (w : ℕ) → ((j : ℕ) → j < w → f j ≡ g j) → odd_below f w ≡ odd_below g w
odd_same f g zero h = refl
odd_same f g (suc w) h = ap₂ (λ a b. cond b (not a) a) (odd_same f g w (λ j l. h j (omega arith))) (h w (omega arith))

-- a bit of the word, or 0 beyond it
low_same : (f g : ℕ → Bool) (w j : ℕ) → ((k : ℕ) → k < w → f k ≡ g k) → cond (nat_lt j w) (f j) false ≡ cond (nat_lt j w) (g j) false
low_same f g w j h = go (nat_lt j w) refl
  where
    go : (v : Bool) → nat_lt j w ≡ v → cond v (f j) false ≡ cond v (g j) false
    go true e = h j (ltb-true j w e)
    go false e = refl

-- of either of two branches
if_same : (v : Bool) (P Q : Type 0) (x y x' y' : Bool) → (P → x ≡ x') → (Q → y ≡ y') → If v P Q → cond v x y ≡ cond v x' y'
if_same true P Q x y x' y' h k p = h p
if_same false P Q x y x' y' h k p = k p

-- ---- gates

-- one and the same, or not looked at since the other is c
abbrev SameUnless : (c x x' y y' : Bool) → Type 0
SameUnless c x x' y y' = (x ≡ x') ⊎ ((y ≡ c) × (y' ≡ c))

and_false : (x : Bool) → (x && false) ≡ false
and_false true = refl
and_false false = refl

or_true : (x : Bool) → (x || true) ≡ true
or_true true = refl
or_true false = refl

and_same : (x x' y y' : Bool) → SameUnless false x x' y y' → SameUnless false y y' x x' → (x && y) ≡ (x' && y')
and_same x x' y y' (inr e) k = ap (λ b. x && b) e.0 ∙ and_false x ∙ sym (ap (λ b. x' && b) e.1 ∙ and_false x')
and_same x x' y y' (inl e) (inr f) = ap (λ b. b && y) f.0 ∙ sym (ap (λ b. b && y') f.1)
and_same x x' y y' (inl e) (inl f) = ap₂ (λ a b. a && b) e f

or_same : (x x' y y' : Bool) → SameUnless true x x' y y' → SameUnless true y y' x x' → (x || y) ≡ (x' || y')
or_same x x' y y' (inr e) k = ap (λ b. x || b) e.0 ∙ or_true x ∙ sym (ap (λ b. x' || b) e.1 ∙ or_true x')
or_same x x' y y' (inl e) (inr f) = ap (λ b. b || y) f.0 ∙ sym (ap (λ b. b || y') f.1)
or_same x x' y y' (inl e) (inl f) = ap₂ (λ a b. a || b) e f

mux_same : (c c' x x' y y' : Bool) → c ≡ c' → SameUnless false x x' c c' → SameUnless true y y' c c' → cond c x y ≡ cond c' x' y'
mux_same c c' x x' y y' e (inl f) (inl h) = ap (λ v. cond v x y) e ∙ ap₂ (λ a b. cond c' a b) f h
mux_same c c' x x' y y' e (inr f) (inl h) = ap (λ v. cond v x y) f.0 ∙ h ∙ sym (ap (λ v. cond v x' y') f.1)
mux_same c c' x x' y y' e (inl f) (inr h) = ap (λ v. cond v x y) h.0 ∙ f ∙ sym (ap (λ v. cond v x' y') h.1)
mux_same c c' x x' y y' e (inr f) (inr h) = cc (f.0, h.0)

-- terms that don't all hold
not_that : (b v : Bool) → beq b v ≡ false → b ≡ not v
not_that true true h = cc
not_that true false h = refl
not_that false true h = refl
not_that false false h = cc

pub not_held : (r : Reading) (t : Tree) (i : ℕ) (v : Bool) → all_hold r (terms t i v) ≡ false → bit r t i ≡ not v
not_held r t i v h = not_that (bit r t i) v (sym (terms_sound r t i v) ∙ h)

-- ---- ways

module _ (m : Marks) (r q : Reading) where
  -- reads have one value
  abbrev pub ReadsAgree : Type 0
  ReadsAgree = (t : Tree) (i : ℕ) → m.read t i → bit r t i ≡ bit q t i

  -- terms with a test don't all hold
  abbrev pub AreShut : Type 0
  AreShut = (ts : List Term) → m.test ts → (all_hold r ts ≡ false) × (all_hold q ts ≡ false)

  -- reads agree; or guards are shut, and none was passed so far
  abbrev Either : Bool → Type 0
  Either g = ReadsAgree ⊎ ((g ≡ false) × AreShut)

  abbrev Agree : Tree → ℕ → Type 0
  Agree t i = bit r t i ≡ bit q t i

  into : (g : Bool) → Either g → (u : Tree) (k : ℕ) (v : Bool) (t : Tree) (i : ℕ) → ((h : Bool) → Either h → Passes m h t i → Agree t i)
      → Into (m.test (terms u k v)) (Passes m true t i) (Passes m g t i) → SameUnless (not v) (bit r t i) (bit q t i) (bit r u k) (bit q u k)
  into g e u k v t i ih (inr p) = inl (ih g e p)
  into g (inl reads) u k v t i ih (inl p) = inl (ih true (inl reads) p.1)
  into g (inr shut) u k v t i ih (inl p) = let s = shut.1 (terms u k v) p.0 in inr (not_held r u k v s.0, not_held q u k v s.1)

  up_same : (g : Bool) (a by : Tree) (i : ℕ) → ((j : ℕ) → Passes m g a j → Agree a j) → ((j : ℕ) → Passes m g by j → Agree by j)
      → MovedUp (const_of by) i (width a) (Below (width a) (λ j. Passes m g a j) × Below (width by) (λ j. Passes m g by j)) (Unit {0}) (λ j. Passes m g a j) → Agree (Shl a by) i
  up_same g a (Const w v) i ha hb p = let n = number (bit_at v) w in
      if_same (nat_lt i n) (Unit {0}) (If (nat_lt (i - n) (width a)) (Passes m g a (i - n)) (Unit {0})) false (cond (nat_lt (i - n) (width a)) (bit r a (i - n)) false)
      false (cond (nat_lt (i - n) (width a)) (bit q a (i - n)) false) (λ u. refl)
      (λ s. if_same (nat_lt (i - n) (width a)) (Passes m g a (i - n)) (Unit {0}) (bit r a (i - n)) false (bit q a (i - n)) false (λ h. ha (i - n) h) (λ u. refl) s) p
  up_same g a by i ha hb p =
      let n = number (bit q by) (width by) in
      let e : number (bit r by) (width by) ≡ n = number_same (bit r by) (bit q by) (width by) (λ j l. hb j (p.1 j l)) in
      ap (λ k. cond (nat_lt i k) false (cond (nat_lt (i - k) (width a)) (bit r a (i - k)) false)) e
      ∙ ap (λ b. cond (nat_lt i n) false b) (low_same (bit r a) (bit q a) (width a) (i - n) (λ k l. ha k (p.0 k l)))

  down_same : (g : Bool) (a by : Tree) (i : ℕ) → ((j : ℕ) → Passes m g a j → Agree a j) → ((j : ℕ) → Passes m g by j → Agree by j)
      → MovedDown (const_of by) i (width a) (Below (width a) (λ j. Passes m g a j) × Below (width by) (λ j. Passes m g by j)) (Unit {0}) (λ j. Passes m g a j) → Agree (Shr a by) i
  down_same g a (Const w v) i ha hb p = let n = number (bit_at v) w in
      if_same (nat_lt (i + n) (width a)) (Passes m g a (i + n)) (Unit {0}) (bit r a (i + n)) false (bit q a (i + n)) false (λ h. ha (i + n) h) (λ u. refl) p
  down_same g a by i ha hb p =
      let n = number (bit q by) (width by) in
      let e : number (bit r by) (width by) ≡ n = number_same (bit r by) (bit q by) (width by) (λ j l. hb j (p.1 j l)) in
      ap (λ k. cond (nat_lt (i + k) (width a)) (bit r a (i + k)) false) e ∙ low_same (bit r a) (bit q a) (width a) (i + n) (λ k l. ha k (p.0 k l))

  mux_ways : (g : Bool) (c x y : Tree) (i : ℕ) → Either g → ((h : Bool) (j : ℕ) → Either h → Passes m h c j → Agree c j) → ((h : Bool) → Either h → Passes m h x i → Agree x i)
      → ((h : Bool) → Either h → Passes m h y i → Agree y i) → Passes m g (Mux c x y) i → Agree (Mux c x y) i
  mux_ways g c x y i (inl reads) hc hx hy (inl p) = reads (Mux c x y) i p.1
  mux_ways g c x y i (inr shut) hc hx hy (inl p) = cc (shut.0, p.0)
  mux_ways g c x y i e hc hx hy (inr p) = mux_same (bit r c 0) (bit q c 0) (bit r x i) (bit q x i) (bit r y i) (bit q y i) (hc g 0 e p.0) (into g e c 0 true x i hx p.1) (into g e c 0 false y i hy p.2)

  module _ (agree : (b : Bit) → (m.word b → ⊥) → r b ≡ q b) where
    -- what the ways bring has one value in both
    pub ways : (g : Bool) → Either g → (t : Tree) (i : ℕ) → Passes m g t i → Agree t i
    ways g e (Var sig w) i p = agree (record { sig = sig; at = i }) p
    ways g e (Const w v) i p = refl
    ways g e (Not a) i p = ap not (ways g e a i p)
    ways g e (And a b) i p = and_same (bit r a i) (bit q a i) (bit r b i) (bit q b i) (into g e b i true a i (λ h f s. ways h f a i s) p.0) (into g e a i true b i (λ h f s. ways h f b i s) p.1)
    ways g e (Or a b) i p = or_same (bit r a i) (bit q a i) (bit r b i) (bit q b i) (into g e b i false a i (λ h f s. ways h f a i s) p.0) (into g e a i false b i (λ h f s. ways h f b i s) p.1)
    ways g e (Xor a b) i p = ap₂ (λ u v. cond u (not v) v) (ways g e a i p.0) (ways g e b i p.1)
    ways g e (Add a b) i p = ap₂ (λ u v. bit_at (u + v) i) (number_same (bit r a) (bit q a) (suc i) (λ j l. ways g e a j (p j l).0)) (number_same (bit r b) (bit q b) (suc i) (λ j l. ways g e b j (p j l).1))
    ways g e (Sub a b) i p = ap₂ (λ u v. bit_at (2 ^ suc i + u - v) i) (number_same (bit r a) (bit q a) (suc i) (λ j l. ways g e a j (p j l).0)) (number_same (bit r b) (bit q b) (suc i) (λ j l. ways g e b j (p j l).1))
    ways g e (Eq a b) i p = all_same (λ j. not (cond (bit r a j) (not (bit r b j)) (bit r b j))) (λ j. not (cond (bit q a j) (not (bit q b j)) (bit q b j))) (width a)
        (λ j l. ap₂ (λ u v. not (cond u (not v) v)) (ways g e a j (p j l).0) (ways g e b j (p j l).1))
    ways g e (Lt a b) i p = ap₂ nat_lt (number_same (bit r a) (bit q a) (width a) (λ j l. ways g e a j (p j l).0)) (number_same (bit r b) (bit q b) (width a) (λ j l. ways g e b j (p j l).1))
    ways g e (Shl a by) i p = up_same g a by i (λ j s. ways g e a j s) (λ j s. ways g e by j s) p
    ways g e (Shr a by) i p = down_same g a by i (λ j s. ways g e a j s) (λ j s. ways g e by j s) p
    ways g e (Mux c x y) i p = mux_ways g c x y i e (λ h j f s. ways h f c j s) (λ h f s. ways h f x i s) (λ h f s. ways h f y i s) p
    ways g e (Concat high low) i p = if_same (nat_lt i (width low)) (Passes m g low i) (Passes m g high (i - width low)) (bit r low i) (bit r high (i - width low)) (bit q low i) (bit q high (i - width low))
        (λ s. ways g e low i s) (λ s. ways g e high (i - width low) s) p
    ways g e (Slice a at w) i p = ways g e a (at + i) p
    ways g e (Extend a w) i p = if_same (nat_lt i (width a)) (Passes m g a i) (Unit {0}) (bit r a i) false (bit q a i) false (λ s. ways g e a i s) (λ u. refl) p
    ways g e (ReduceAnd a) i p = all_same (bit r a) (bit q a) (width a) (λ j l. ways g e a j (p j l))
    ways g e (ReduceOr a) i p = any_same (bit r a) (bit q a) (width a) (λ j l. ways g e a j (p j l))
    ways g e (ReduceXor a) i p = odd_same (bit r a) (bit q a) (width a) (λ j l. ways g e a j (p j l))
