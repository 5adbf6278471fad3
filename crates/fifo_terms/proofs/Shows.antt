-- A node that shows full and is 0 tells that the FIFO isn't full; and one that shows empty, that it isn't empty.
use Rattle.std.proofs.Common.{◌≡◌, ◌≢◌, ℕ, zero, suc, ◌+◌, ◌-◌, ◌^◌, ◌%◌, ◌≤◌, Bool, true, false, cond, not, nat_lt, Some, None, List, [], ◌∷◌, length, slice_get, refl, sym, ap, ap₂, subst, ◌∙◌, arith, ltb-true, ltb-false, option_map, ◌*◌}
use Rattle.std.specs.Bool.{beq}
use Rattle.std.proofs.lemmas.Option.{slice_get-map}
use Rattle.std.proofs.lemmas.List.{length-map}
use Rattle.cell_graph.specs.Reading.{Reading}
use Rattle.cell_graph.specs.Tree.{Tree, bit}
use Rattle.cell_graph.specs.Origin.{TreeBit, tree_bit}
use Rattle.cdc_model.specs.Gray.{exclusive_or, gray_code}
use Rattle.cdc_model.specs.Word.{values}
use Rattle.fifo_terms.specs.Terms.{Term, Is, Differ, AreOne, holds, terms}
use Rattle.fifo_terms.specs.Shows.{node_terms, full_apart, empty_apart, Shows, IsTest, IsFlagTest}
use Rattle.fifo_terms.specs.Laws.{IsNotFull, IsNotEmpty, AreCodes}
use Rattle.fifo_terms.proofs.Same.{each_holds, all_holds, one_holds}
use Rattle.fifo_terms.specs.Codes.{Code, count_in, IsHeld}
use Rattle.fifo_terms.proofs.Codes.{code_sound, count_length}
use Rattle.fifo_terms.specs.Counts.{number_of, top_inverted, top_two_inverted}
use Rattle.fifo_terms.proofs.Numbers.{half_round, half_round_code}
use Rattle.fifo_terms.proofs.Terms.{Decide, zero_decides, xor_comm, beq_refl, terms_sound, terms_hold}

-- ---- words

same_pair : (v u : Bool) → Some v ≡ Some u → exclusive_or v u ≡ false
same_pair true true q = refl
same_pair true false q = cc
same_pair false true q = cc
same_pair false false q = refl

opposite_pair : (b v u : Bool) → Some b ≡ Some v → Some (not b) ≡ Some u → exclusive_or v u ≡ true
opposite_pair true true false e f = refl
opposite_pair true true true e f = cc
opposite_pair true false u e f = cc
opposite_pair false true u e f = cc
opposite_pair false false true e f = refl
opposite_pair false false false e f = cc

lt_suc : (a b : ℕ) → nat_lt a b ≡ nat_lt (suc a) (suc b)
lt_suc a b = go (nat_lt a b) (nat_lt (suc a) (suc b)) refl refl
  where
    go : (u v : Bool) → nat_lt a b ≡ u → nat_lt (suc a) (suc b) ≡ v → u ≡ v
    go true true e f = refl
    go true false e f = absurd (omega (arith, ltb-true a b e, ltb-false (suc a) (suc b) f))
    go false true e f = absurd (omega (arith, ltb-false a b e, ltb-true (suc a) (suc b) f))
    go false false e f = refl

not_below : (a : ℕ) → nat_lt (suc (suc (suc a))) 3 ≡ false
not_below a = go (nat_lt (suc (suc (suc a))) 3) refl
  where
    go : (u : Bool) → nat_lt (suc (suc (suc a))) 3 ≡ u → u ≡ false
    go true e = absurd (omega (arith, ltb-true (suc (suc (suc a))) 3 e))
    go false e = refl

-- exactly the two highest bits are inverted
full_pairs : (word : List Bool) (i : ℕ) (v u : Bool) → slice_get word i ≡ Some v → slice_get (top_two_inverted word) i ≡ Some u → exclusive_or v u ≡ nat_lt (length word) (i + 3)
full_pairs [] i v u e f = cc
full_pairs (b ∷ []) zero v u e f = opposite_pair b v u e f
full_pairs (b ∷ []) (suc i) v u e f = cc
full_pairs (b ∷ c ∷ []) zero v u e f = opposite_pair b v u e f
full_pairs (b ∷ c ∷ []) (suc zero) v u e f = opposite_pair c v u e f
full_pairs (b ∷ c ∷ []) (suc (suc i)) v u e f = cc
full_pairs (b ∷ c ∷ d ∷ bs) zero v u e f = same_pair v u (sym e ∙ f) ∙ sym (not_below (length bs))
full_pairs (b ∷ c ∷ d ∷ bs) (suc i) v u e f = full_pairs (c ∷ d ∷ bs) i v u e f ∙ lt_suc (length (c ∷ d ∷ bs)) (i + 3)
    ∙ ap (nat_lt (suc (length (c ∷ d ∷ bs)))) (let e : suc (i + 3) ≡ suc i + 3 = omega arith in e)

top_length : (bs : List Bool) → length (top_inverted bs) ≡ length bs
top_length [] = refl
top_length (b ∷ []) = refl
top_length (b ∷ c ∷ bs) = ap (λ n. suc n) (top_length (c ∷ bs))

-- a number tells its word
number_tells : (x y : List Bool) → length x ≡ length y → number_of x ≡ number_of y → x ≡ y
number_tells [] [] l e = refl
number_tells [] (b ∷ y) l e = absurd (omega (arith, l))
number_tells (a ∷ x) [] l e = absurd (omega (arith, l))
number_tells (a ∷ x) (b ∷ y) l e = let p = split a b (number_of x) (number_of y) e in ap₂ (λ z zs. z ∷ zs) p.0 (number_tells x y (omega (arith, l)) p.1)
  where
    split : (a b : Bool) (n m : ℕ) → cond a 1 0 + 2 * n ≡ cond b 1 0 + 2 * m → (a ≡ b) × (n ≡ m)
    split true true n m e = (refl, omega (arith, e))
    split true false n m e = absurd (omega (arith, e))
    split false true n m e = absurd (omega (arith, e))
    split false false n m e = (refl, omega (arith, e))

module _ (r : Reading) where
  node_sound : (x : TreeBit) (v : Bool) → Decide r v (node_terms x v) (tree_bit r x)
  node_sound None v = zero_decides r v
  node_sound (Some n) v = terms_sound r n.0 n.1 v

  -- a term that says what is so holds
  says_holds : (t : Term) (x y : TreeBit) (v : Bool) → AreOne t (Differ x y v) → exclusive_or (tree_bit r x) (tree_bit r y) ≡ v → holds r t ≡ true
  says_holds t x y v o e = one_holds r t (Differ x y v) o ∙ ap (λ z. beq z v) e ∙ beq_refl v

  -- how the codes differ in the reading, of w bits
  abbrev Differs : List Bool → List TreeBit → (ℕ → ℕ → Bool) → Type 0
  Differs word over apart = (i : ℕ) (v : Bool) (y : TreeBit) → slice_get word i ≡ Some v → slice_get over i ≡ Some y → exclusive_or v (tree_bit r y) ≡ apart (length over) i

  -- where the codes differ so, a node that shows it at v is v
  shows_holds : (k : Code) (over : List TreeBit) (apart : ℕ → ℕ → Bool) (word : List Bool) (n : TreeBit) (v : Bool) → IsHeld r k → gray_code (count_in r k) ≡ word → Differs word over apart
      → Shows k over apart n v → beq (tree_bit r n) v ≡ true
  shows_holds k over apart word n v held is d s = sym (node_sound n v) ∙ all_holds r (node_terms n v) (λ u has. let (j, x, y, l, c, o, m) = s u has in
      says_holds u x y (apart (length over) j) m (d j (tree_bit r x) y (subst (λ xs. slice_get xs j ≡ Some (tree_bit r x)) is (code_sound r k j x held c)) o))

  over_value : (over : List TreeBit) (word : List Bool) (i : ℕ) (y : TreeBit) → values r over ≡ word → slice_get over i ≡ Some y → slice_get word i ≡ Some (tree_bit r y)
  over_value over word i y e g = ap (λ xs. slice_get xs i) (sym e) ∙ slice_get-map (tree_bit r) over i ∙ ap (option_map (tree_bit r)) g

  empty_differs : (over : List TreeBit) (word : List Bool) → values r over ≡ word → Differs word over empty_apart
  empty_differs over word e i v y f g = same_pair v (tree_bit r y) (sym f ∙ over_value over word i y e g)

  full_differs : (over : List TreeBit) (word : List Bool) → values r over ≡ word → Differs (top_two_inverted word) over full_apart
  full_differs over word e i v y f g = xor_comm v (tree_bit r y) ∙ full_pairs word i (tree_bit r y) v (over_value over word i y e g) f
      ∙ ap (λ n. nat_lt n (i + 3)) (ap length (sym e) ∙ length-map over (tree_bit r))

  -- a node isn't both values
  other_value : {A : Type 0} (x v : Bool) → beq x (not v) ≡ true → beq x v ≡ true → A
  other_value true true e f = cc
  other_value true false e f = cc
  other_value false true e f = cc
  other_value false false e f = cc

  shows_empty : (k : Code) (over : List TreeBit) (cs : List Bool) (n : TreeBit) (v : Bool) → length cs ≡ k.w → IsHeld r k → values r over ≡ gray_code cs
      → Shows k over empty_apart n (not v) → beq (tree_bit r n) v ≡ true → number_of (count_in r k) ≢ number_of cs
  shows_empty k over cs n v l held came s z e = other_value (tree_bit r n) v
      (shows_holds k over empty_apart (gray_code cs) n (not v) held
      (ap gray_code (number_tells (count_in r k) cs (count_length r k ∙ sym l) e)) (empty_differs over (gray_code cs) came) s) z

  shows_full : (k : Code) (over : List TreeBit) (cs : List Bool) (n : TreeBit) (v : Bool) → 1 ≤ k.w → length cs ≡ k.w → IsHeld r k → values r over ≡ gray_code cs
      → Shows k over full_apart n (not v) → beq (tree_bit r n) v ≡ true → number_of (count_in r k) ≢ (number_of cs + 2 ^ (k.w - 1)) % 2 ^ k.w
  shows_full k over cs n v p l held came s z e = other_value (tree_bit r n) v
      (shows_holds k over full_apart (top_two_inverted (gray_code cs)) n (not v) held
      (ap gray_code far ∙ half_round_code cs) (full_differs over (gray_code cs) came) s) z
    where
      half : number_of (top_inverted cs) ≡ (number_of cs + 2 ^ (k.w - 1)) % 2 ^ k.w
      half = subst (λ (w : ℕ). number_of (top_inverted cs) ≡ (number_of cs + 2 ^ (w - 1)) % 2 ^ w) l (half_round cs (omega (arith, l, p)))

      far : count_in r k ≡ top_inverted cs
      far = number_tells (count_in r k) (top_inverted cs) (count_length r k ∙ sym (top_length cs ∙ l)) (e ∙ sym half)

  value_of : (t : Term) (n : TreeBit) (v : Bool) → t ≡ Is n v → holds r t ≡ true → beq (tree_bit r n) v ≡ true
  value_of t n v e h = sym (ap (holds r) e) ∙ h

  pub test_tells : (k : Code) (over : List TreeBit) (cs : List Bool) (t : Term) → AreCodes r k over cs → holds r t ≡ true
      → (IsTest k over full_apart t → IsNotFull r k cs) × (IsTest k over empty_apart t → IsNotEmpty r k cs)
  test_tells k over cs t c h = (
    λ p. shows_full k over cs p.0 p.1 c.0 c.1 c.2 c.3 p.3 (value_of t p.0 p.1 p.2 h),
    λ p. shows_empty k over cs p.0 p.1 c.1 c.2 c.3 p.3 (value_of t p.0 p.1 p.2 h),
  )

  pub flag_tells : (k : Code) (over : List TreeBit) (cs : List Bool) (next : Tree) (i : ℕ) (u : Bool) → AreCodes r k over cs → bit r next i ≡ u
      → (IsFlagTest k over full_apart next i u → IsNotFull r k cs) × (IsFlagTest k over empty_apart next i u → IsNotEmpty r k cs)
  flag_tells k over cs next i u c e = (
    λ p. (test_tells k over cs p.0 c (each_holds r (terms next i u) p.0 (terms_hold r next i u e) p.1)).0 p.2,
    λ p. (test_tells k over cs p.0 c (each_holds r (terms next i u) p.0 (terms_hold r next i u e) p.1)).1 p.2,
  )
