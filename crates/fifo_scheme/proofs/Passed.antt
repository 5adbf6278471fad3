-- Where all ways to words pass reads, and a word is read, some way leads to a read.
use Rattle.std.proofs.Common.{◌≡◌, ◌∙◌, ◌⊎◌, inl, inr, refl, sym, ap, subst, arith, ℕ, zero, suc, ◌+◌, ◌-◌, ◌<◌, Bool, true, false, cond, ◌||◌, ◌==◌, nat_lt, Option, Some, None, is_some, eqb-true, ltb-true, []}
use Rattle.std.proofs.lemmas.Bool.{or_cases}
use Rattle.cdc_base.specs.declared.bit.Bit.{Bit}
use Rattle.cell_graph.specs.Cofactor.{chosen, known, known_number, on_number, if_known_to_be, agreed_bit, same, reads_but, reads}
use Rattle.cell_graph.specs.Tree.{Tree, Var, Const, Not, And, Or, Xor, Add, Sub, Eq, Lt, Shl, Shr, Mux, Concat, Slice, Extend, ReduceAnd, ReduceOr, ReduceXor, width, bit_at, number, any_below}
use Rattle.cdc_model.proofs.GrayShape.{number_known}
use Rattle.cdc_model.proofs.Net.{no_bit, unless_none, but_cases, if_cases, agreed_first, self_reads}
use Rattle.fifo_terms.specs.Terms.{terms}
use Rattle.fifo_laws.specs.Ways.{Marks, If, Below, SomeBelow, Into, Passes, Leads}

-- ---- what reads a bit reads it by a feed

module _ (b : Bit) (Q : Type 0) where
  either : (u v : Bool) → (u ≡ true → Q) → (v ≡ true → Q) → (u || v) ≡ true → Q
  either u v p q h = elim (or_cases u v h) [ inl k ↦ p k | inr k ↦ q k ]

  any : (f : ℕ → Bool) (n : ℕ) → ((j : ℕ) → j < n → f j ≡ true → Q) → any_below f n ≡ true → Q
  any f zero each h = cc
  any f (suc n) each h = elim (or_cases (any_below f n) (f n) h) [
    | inl k ↦ any f n (λ j l. each j (omega arith)) k
    | inr k ↦ each n (omega arith) k
  ]

  plain : (k : Option Bool) (f : Bool) → (f ≡ true → Q) → reads_but k None b f ≡ true → Q
  plain k f q h = elim (but_cases k None b f h) [ inl e ↦ no_bit b e | inr e ↦ q e ]

  gate : (v : Bool) (x y : Tree) (i : ℕ) (k l m : Option Bool) → (reads [] x i b ≡ true → Q) → (reads [] y i b ≡ true → Q)
      → reads_but k (cond (is_some k) None (if_known_to_be l v (same [] y i) (if_known_to_be m v (same [] x i) None))) b (reads [] x i b || reads [] y i b) ≡ true → Q
  gate v x y i k l m p q h =
      elim (but_cases k (cond (is_some k) None (if_known_to_be l v (same [] y i) (if_known_to_be m v (same [] x i) None))) b (reads [] x i b || reads [] y i b) h) [
        | inl e ↦ elim (if_cases l v (same [] y i) (if_known_to_be m v (same [] x i) None) b (unless_none k (if_known_to_be l v (same [] y i) (if_known_to_be m v (same [] x i) None)) b e).1) [
          | inl f ↦ q (self_reads [] y i b f)
          | inr f ↦ elim (if_cases m v (same [] x i) None b f) [ inl g ↦ p (self_reads [] x i b g) | inr g ↦ no_bit b g ]
        ]
        | inr e ↦ either (reads [] x i b) (reads [] y i b) p q e
      ]

  sum : (x y : Tree) (n : ℕ) (k : Option Bool) → ((j : ℕ) → j < n → reads [] x j b ≡ true → Q) → ((j : ℕ) → j < n → reads [] y j b ≡ true → Q)
      → reads_but k None b (any_below (λ j. reads [] x j b || reads [] y j b) n) ≡ true → Q
  sum x y n k p q h = plain k (any_below (λ j. reads [] x j b || reads [] y j b) n) (any (λ j. reads [] x j b || reads [] y j b) n (λ j l. either (reads [] x j b) (reads [] y j b) (p j l) (q j l))) h

  reduce : (x : Tree) (k : Option Bool) → ((j : ℕ) → j < width x → reads [] x j b ≡ true → Q)
      → reads_but k (cond (width x == 1) (same [] x 0) None) b (any_below (λ j. reads [] x j b) (width x)) ≡ true → Q
  reduce x k p h = elim (but_cases k (cond (width x == 1) (same [] x 0) None) b (any_below (λ j. reads [] x j b) (width x)) h) [
    | inl e ↦ go (width x == 1) refl e
    | inr e ↦ any (λ j. reads [] x j b) (width x) p e
  ]
    where
      go : (v : Bool) → (width x == 1) ≡ v → cond v (same [] x 0) None ≡ Some b → Q
      go true e f = p 0 (omega (arith, eqb-true (width x) 1 e)) (self_reads [] x 0 b f)
      go false e f = no_bit b f

  shift : (x by : Tree) (o : Option ℕ) (move : ℕ → ℕ) (out : ℕ → Bool) → ((j : ℕ) → j < width x → reads [] x j b ≡ true → Q) → ((j : ℕ) → j < width by → reads [] by j b ≡ true → Q)
      → on_number o (any_below (λ j. reads [] x j b) (width x) || any_below (λ j. reads [] by j b) (width by)) (λ n. cond (out n) false (cond (nat_lt (move n) (width x)) (reads [] x (move n) b) false)) ≡ true → Q
  shift x by None move out p q h = either (any_below (λ j. reads [] x j b) (width x)) (any_below (λ j. reads [] by j b) (width by)) (any (λ j. reads [] x j b) (width x) p) (any (λ j. reads [] by j b) (width by) q) h
  shift x by (Some n) move out p q h = go (out n) (nat_lt (move n) (width x)) refl h
    where
      go : (u v : Bool) → nat_lt (move n) (width x) ≡ v → cond u false (cond v (reads [] x (move n) b) false) ≡ true → Q
      go true v e h = cc
      go false true e h = p (move n) (ltb-true (move n) (width x) e) h
      go false false e h = cc

  choice : (c x y : Tree) (i : ℕ) (k : Option Bool) → (reads [] c 0 b ≡ true → Q) → (reads [] x i b ≡ true → Q) → (reads [] y i b ≡ true → Q)
      → reads_but k (cond (is_some k) None (chosen (known [] c 0) (same [] x i) (same [] y i) (agreed_bit (same [] x i) (same [] y i)))) b
      (chosen (known [] c 0) (reads [] x i b) (reads [] y i b) (reads [] c 0 b || (reads [] x i b || reads [] y i b))) ≡ true → Q
  choice c x y i k r p q h =
      elim (but_cases k (cond (is_some k) None (chosen (known [] c 0) (same [] x i) (same [] y i) (agreed_bit (same [] x i) (same [] y i)))) b
      (chosen (known [] c 0) (reads [] x i b) (reads [] y i b) (reads [] c 0 b || (reads [] x i b || reads [] y i b))) h) [
        | inl e ↦ by_same (known [] c 0) (unless_none k (chosen (known [] c 0) (same [] x i) (same [] y i) (agreed_bit (same [] x i) (same [] y i))) b e).1
        | inr e ↦ by_feed (known [] c 0) e
      ]
    where
      by_same : (o : Option Bool) → chosen o (same [] x i) (same [] y i) (agreed_bit (same [] x i) (same [] y i)) ≡ Some b → Q
      by_same (Some true) e = p (self_reads [] x i b e)
      by_same (Some false) e = q (self_reads [] y i b e)
      by_same None e = p (self_reads [] x i b (agreed_first (same [] x i) (same [] y i) b e))

      by_feed : (o : Option Bool) → chosen o (reads [] x i b) (reads [] y i b) (reads [] c 0 b || (reads [] x i b || reads [] y i b)) ≡ true → Q
      by_feed (Some true) e = p e
      by_feed (Some false) e = q e
      by_feed None e = either (reads [] c 0 b) (reads [] x i b || reads [] y i b) r (either (reads [] x i b) (reads [] y i b) p q) e

-- ---- branches

if_led : (v : Bool) (P Q L M : Type 0) (r s : Bool) → (P → r ≡ true → L) → (Q → s ≡ true → M) → If v P Q → cond v r s ≡ true → If v L M
if_led true P Q L M r s f g p h = f p h
if_led false P Q L M r s f g p h = g p h

nothing_read : {A L : Type 0} → A → false ≡ true → L
nothing_read a h = cc

module _ (m : Marks) (b : Bit) (word : m.word b) where
  -- a way from there leads to a read where the bit is read
  abbrev IsLed : Bool → Tree → ℕ → Type 0
  IsLed g t i = Passes m g t i → reads [] t i b ≡ true → Leads m.read t i

  into : (A : Type 0) (g : Bool) (t : Tree) (i : ℕ) → IsLed true t i → IsLed g t i → Into A (Passes m true t i) (Passes m g t i) → reads [] t i b ≡ true → Leads m.read t i
  into A g t i behind before (inl p) h = behind p.1 h
  into A g t i behind before (inr p) h = before p h

  up_led : (g : Bool) (x by : Tree) (i : ℕ) → ((j : ℕ) → IsLed g x j) → ((j : ℕ) → IsLed g by j) → IsLed g (Shl x by) i
  up_led g x (Const w v) i hx hby p h = let n = number (bit_at v) w in
      if_led (nat_lt i n) (Unit {0}) (If (nat_lt (i - n) (width x)) (Passes m g x (i - n)) (Unit {0})) ⊥ (If (nat_lt (i - n) (width x)) (Leads m.read x (i - n)) ⊥) false (cond (nat_lt (i - n) (width x)) (reads [] x (i - n) b) false)
      nothing_read (if_led (nat_lt (i - n) (width x)) (Passes m g x (i - n)) (Unit {0}) (Leads m.read x (i - n)) ⊥ (reads [] x (i - n) b) false (hx (i - n)) nothing_read) p
      (sym (ap (λ o. on_number o (any_below (λ j. reads [] x j b) (width x) || any_below (λ j. reads [] (Const w v) j b) w) (λ k. cond (nat_lt i k) false (cond (nat_lt (i - k) (width x)) (reads [] x (i - k) b) false))) (number_known (bit_at v) w)) ∙ h)
  up_led g x by i hx hby p h = shift b (SomeBelow (width x) (λ j. Leads m.read x j) ⊎ SomeBelow (width by) (λ j. Leads m.read by j)) x by (known_number (known [] by) (width by)) (λ n. i - n) (λ n. nat_lt i n)
      (λ j l r. inl (j, l, hx j (p.0 j l) r)) (λ j l r. inr (j, l, hby j (p.1 j l) r)) h

  down_led : (g : Bool) (x by : Tree) (i : ℕ) → ((j : ℕ) → IsLed g x j) → ((j : ℕ) → IsLed g by j) → IsLed g (Shr x by) i
  down_led g x (Const w v) i hx hby p h = let n = number (bit_at v) w in
      if_led (nat_lt (i + n) (width x)) (Passes m g x (i + n)) (Unit {0}) (Leads m.read x (i + n)) ⊥ (reads [] x (i + n) b) false (hx (i + n)) nothing_read p
      (sym (ap (λ o. on_number o (any_below (λ j. reads [] x j b) (width x) || any_below (λ j. reads [] (Const w v) j b) w) (λ k. cond (nat_lt (i + k) (width x)) (reads [] x (i + k) b) false)) (number_known (bit_at v) w)) ∙ h)
  down_led g x by i hx hby p h = shift b (SomeBelow (width x) (λ j. Leads m.read x j) ⊎ SomeBelow (width by) (λ j. Leads m.read by j)) x by (known_number (known [] by) (width by)) (λ n. i + n) (λ n. false)
      (λ j l r. inl (j, l, hx j (p.0 j l) r)) (λ j l r. inr (j, l, hby j (p.1 j l) r)) h

  mux_led : (g : Bool) (c x y : Tree) (i : ℕ) → IsLed g c 0 → IsLed true x i → IsLed g x i → IsLed true y i → IsLed g y i → IsLed g (Mux c x y) i
  mux_led g c x y i hc hx gx hy gy (inl p) h = inl p.1
  mux_led g c x y i hc hx gx hy gy (inr p) h = inr (choice b (Leads m.read c 0 ⊎ (Leads m.read x i ⊎ Leads m.read y i)) c x y i (known [] (Mux c x y) i)
      (λ r. inl (hc p.0 r)) (λ r. inr (inl (into (m.test (terms c 0 true)) g x i hx gx p.1 r))) (λ r. inr (inr (into (m.test (terms c 0 false)) g y i hy gy p.2 r))) h)

  var_led : (g : Bool) (sig w i : ℕ) → IsLed g (Var sig w) i
  var_led g sig w i p h = elim (but_cases (known [] (Var sig w) i) (same [] (Var sig w) i) b false h) [
    | inl e ↦ absurd (p (subst m.word (sym (is (record { sig = sig; at = i }) (unless_none (known [] (Var sig w) i) (Some (record { sig = sig; at = i })) b e).1)) word))
    | inr e ↦ nothing_read i e
  ]
    where
      is : (a : Bit) → Some a ≡ Some b → a ≡ b
      is a e = cc

  -- the trees of a feed's word, below n
  below_led : (g : Bool) (x y : Tree) (n : ℕ) (k : Option Bool) → ((j : ℕ) → IsLed g x j) → ((j : ℕ) → IsLed g y j) → Below n (λ j. Passes m g x j × Passes m g y j)
      → reads_but k None b (any_below (λ j. reads [] x j b || reads [] y j b) n) ≡ true → SomeBelow n (λ j. Leads m.read x j ⊎ Leads m.read y j)
  below_led g x y n k hx hy p h = sum b (SomeBelow n (λ j. Leads m.read x j ⊎ Leads m.read y j)) x y n k (λ j l r. (j, l, inl (hx j (p j l).0 r))) (λ j l r. (j, l, inr (hy j (p j l).1 r))) h

  pub led : (g : Bool) (t : Tree) (i : ℕ) → Passes m g t i → reads [] t i b ≡ true → Leads m.read t i
  led g (Var sig w) i p h = var_led g sig w i p h
  led g (Const w v) i p h = nothing_read i h
  led g (Not x) i p h = plain b (Leads m.read x i) (known [] (Not x) i) (reads [] x i b) (led g x i p) h
  led g (And x y) i p h = gate b (Leads m.read x i ⊎ Leads m.read y i) true x y i (known [] (And x y) i) (known [] x i) (known [] y i)
      (λ r. inl (into (m.test (terms y i true)) g x i (led true x i) (led g x i) p.0 r)) (λ r. inr (into (m.test (terms x i true)) g y i (led true y i) (led g y i) p.1 r)) h
  led g (Or x y) i p h = gate b (Leads m.read x i ⊎ Leads m.read y i) false x y i (known [] (Or x y) i) (known [] x i) (known [] y i)
      (λ r. inl (into (m.test (terms y i false)) g x i (led true x i) (led g x i) p.0 r)) (λ r. inr (into (m.test (terms x i false)) g y i (led true y i) (led g y i) p.1 r)) h
  led g (Xor x y) i p h = gate b (Leads m.read x i ⊎ Leads m.read y i) false x y i (known [] (Xor x y) i) (known [] x i) (known [] y i) (λ r. inl (led g x i p.0 r)) (λ r. inr (led g y i p.1 r)) h
  led g (Add x y) i p h = below_led g x y (suc i) (known [] (Add x y) i) (λ j. led g x j) (λ j. led g y j) p h
  led g (Sub x y) i p h = below_led g x y (suc i) (known [] (Sub x y) i) (λ j. led g x j) (λ j. led g y j) p h
  led g (Eq x y) i p h = below_led g x y (width x) (known [] (Eq x y) i) (λ j. led g x j) (λ j. led g y j) p h
  led g (Lt x y) i p h = below_led g x y (width x) (known [] (Lt x y) i) (λ j. led g x j) (λ j. led g y j) p h
  led g (Shl x by) i p h = up_led g x by i (λ j. led g x j) (λ j. led g by j) p h
  led g (Shr x by) i p h = down_led g x by i (λ j. led g x j) (λ j. led g by j) p h
  led g (Mux c x y) i p h = mux_led g c x y i (led g c 0) (led true x i) (led g x i) (led true y i) (led g y i) p h
  led g (Concat high low) i p h = if_led (nat_lt i (width low)) (Passes m g low i) (Passes m g high (i - width low)) (Leads m.read low i) (Leads m.read high (i - width low)) (reads [] low i b) (reads [] high (i - width low) b)
      (led g low i) (led g high (i - width low)) p h
  led g (Slice x at w) i p h = led g x (at + i) p h
  led g (Extend x w) i p h = if_led (nat_lt i (width x)) (Passes m g x i) (Unit {0}) (Leads m.read x i) ⊥ (reads [] x i b) false (led g x i) nothing_read p h
  led g (ReduceAnd x) i p h = reduce b (SomeBelow (width x) (λ j. Leads m.read x j)) x (known [] (ReduceAnd x) i) (λ j l r. (j, l, led g x j (p j l) r)) h
  led g (ReduceOr x) i p h = reduce b (SomeBelow (width x) (λ j. Leads m.read x j)) x (known [] (ReduceOr x) i) (λ j l r. (j, l, led g x j (p j l) r)) h
  led g (ReduceXor x) i p h = reduce b (SomeBelow (width x) (λ j. Leads m.read x j)) x (known [] (ReduceXor x) i) (λ j l r. (j, l, led g x j (p j l) r)) h
