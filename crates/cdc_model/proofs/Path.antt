-- A path goes down to the bit that is read.
use Rattle.std.proofs.Common.{◌≡◌, ℕ, zero, suc, ◌+◌, ◌-◌, ◌<◌, Bool, true, false, cond, ◌||◌, ◌==◌, nat_lt, Option, Some, None, is_some, List, [], ◌∷◌, ◌⊎◌, inl, inr, refl, sym, ap, subst, ◌∙◌, arith, eqb-true, ltb-true}
use Rattle.std.proofs.lemmas.Bool.{or_left, or_right, cases_eq}
use Rattle.cdc_base.specs.declared.bit.Bit.{Bit}
use Rattle.cell_graph.specs.Tree.{Tree, Var, Const, Not, And, Or, Xor, Add, Sub, Eq, Lt, Shl, Shr, Mux, Concat, Slice, Extend, ReduceAnd, ReduceOr, ReduceXor, width, bit_at, number, any_below}
use Rattle.cell_graph.specs.Cofactor.{chosen, known_number, on_number, known, is_known, if_known_to_be, agreed_bit, same, reads_but, reads}
use Rattle.cell_graph.specs.Origin.{const_of}
use Rattle.cdc_model.specs.Path.{first_below, path, IsPathTo}
use Rattle.cdc_model.proofs.GrayShape.{number_known}
use Rattle.cdc_model.proofs.Net.{no_bit, unless_none, but_cases, if_cases, agreed_first, self_reads}

first_holds : (f : ℕ → Bool) (n : ℕ) → any_below f n ≡ true → f (first_below f n) ≡ true
first_holds f zero h = cc
first_holds f (suc n) h = go (any_below f n) refl h (first_holds f n)
  where
    go : (v : Bool) → any_below f n ≡ v → (v || f n) ≡ true → (any_below f n ≡ true → f (first_below f n) ≡ true) → f (cond v (first_below f n) n) ≡ true
    go true e h ih = ih e
    go false e h ih = h

any_of : (f : ℕ → Bool) (n j : ℕ) → j < n → f j ≡ true → any_below f n ≡ true
any_of f zero j l h = absurd (omega arith)
any_of f (suc n) j l h = elim (cases_eq j n) [
  | inl e ↦ or_right (any_below f n) (f n) (ap f (sym e) ∙ h)
  | inr ne ↦ or_left (any_below f n) (f n) (any_of f n j (omega arith) h)
]

more : (b : Bit) (n : Tree × ℕ) (ns : List (Tree × ℕ)) → reads [] n.0 n.1 b ≡ true → IsPathTo b ns → IsPathTo b (n ∷ ns)
more b n [] h p = absurd p
more b n (m ∷ ns) h p = (h, p)

-- ---- some feed reads what a node reads

gate_feeds : (v : Bool) (x y : Tree) (i : ℕ) (b : Bit) (k l m : Option Bool)
    → reads_but k (cond (is_some k) None (if_known_to_be l v (same [] y i) (if_known_to_be m v (same [] x i) None))) b (reads [] x i b || reads [] y i b) ≡ true
    → (reads [] x i b || reads [] y i b) ≡ true
gate_feeds v x y i b k l m h =
    elim (but_cases k (cond (is_some k) None (if_known_to_be l v (same [] y i) (if_known_to_be m v (same [] x i) None))) b (reads [] x i b || reads [] y i b) h) [
      | inl e ↦ elim (if_cases l v (same [] y i) (if_known_to_be m v (same [] x i) None) b (unless_none k (if_known_to_be l v (same [] y i) (if_known_to_be m v (same [] x i) None)) b e).1) [
        | inl f ↦ or_right (reads [] x i b) (reads [] y i b) (self_reads [] y i b f)
        | inr f ↦ elim (if_cases m v (same [] x i) None b f) [
          | inl g ↦ or_left (reads [] x i b) (reads [] y i b) (self_reads [] x i b g)
          | inr g ↦ no_bit b g
        ]
      ]
      | inr e ↦ e
    ]

plain_feeds : (k : Option Bool) (b : Bit) (f : Bool) → reads_but k None b f ≡ true → f ≡ true
plain_feeds k b f h = elim (but_cases k None b f h) [ inl e ↦ no_bit b e | inr e ↦ e ]

reduce_feeds : (x : Tree) (b : Bit) (k : Option Bool) → reads_but k (cond (width x == 1) (same [] x 0) None) b (any_below (λ j. reads [] x j b) (width x)) ≡ true
    → any_below (λ j. reads [] x j b) (width x) ≡ true
reduce_feeds x b k h = elim (but_cases k (cond (width x == 1) (same [] x 0) None) b (any_below (λ j. reads [] x j b) (width x)) h) [
  | inl e ↦ go (width x == 1) refl e
  | inr e ↦ e
]
  where
    go : (v : Bool) → (width x == 1) ≡ v → cond v (same [] x 0) None ≡ Some b → any_below (λ j. reads [] x j b) (width x) ≡ true
    go true e f = any_of (λ j. reads [] x j b) (width x) 0 (omega (arith, eqb-true (width x) 1 e)) (self_reads [] x 0 b f)
    go false e f = no_bit b f

-- one of two feeds
two_feeds : (x y : Tree) (i : ℕ) (b : Bit) → (reads [] x i b || reads [] y i b) ≡ true → (reads [] x i b ≡ true → IsPathTo b (path x i b)) → (reads [] y i b ≡ true → IsPathTo b (path y i b))
    → IsPathTo b (cond (reads [] x i b) (path x i b) (path y i b))
two_feeds x y i b h p q = go (reads [] x i b) refl h
  where
    go : (v : Bool) → reads [] x i b ≡ v → (v || reads [] y i b) ≡ true → IsPathTo b (cond v (path x i b) (path y i b))
    go true e h = p e
    go false e h = q h

shift_feeds : (x by : Tree) (b : Bit) (o : Option ℕ) (move : ℕ → ℕ) (out : ℕ → Bool)
    → on_number o (any_below (λ j. reads [] x j b) (width x) || any_below (λ j. reads [] by j b) (width by)) (λ n. cond (out n) false (cond (nat_lt (move n) (width x)) (reads [] x (move n) b) false)) ≡ true
    → (any_below (λ j. reads [] x j b) (width x) || any_below (λ j. reads [] by j b) (width by)) ≡ true
shift_feeds x by b None move out h = h
shift_feeds x by b (Some n) move out h = go (out n) (nat_lt (move n) (width x)) refl h
  where
    go : (u v : Bool) → nat_lt (move n) (width x) ≡ v → cond u false (cond v (reads [] x (move n) b) false) ≡ true → (any_below (λ j. reads [] x j b) (width x) || any_below (λ j. reads [] by j b) (width by)) ≡ true
    go true v e h = cc
    go false true e h = or_left (any_below (λ j. reads [] x j b) (width x)) (any_below (λ j. reads [] by j b) (width by)) (any_of (λ j. reads [] x j b) (width x) (move n) (ltb-true (move n) (width x) e) h)
    go false false e h = cc

passed_reads : (u v w : Bool) → cond u false (cond v w false) ≡ true → w ≡ true
passed_reads true v w h = cc
passed_reads false true w h = h
passed_reads false false w h = cc

-- a shift's path, by a constant or not
shift_path : (x by : Tree) (b : Bit) (move : ℕ → ℕ) (out : ℕ → Bool) → ((j : ℕ) → reads [] x j b ≡ true → IsPathTo b (path x j b)) → ((j : ℕ) → reads [] by j b ≡ true → IsPathTo b (path by j b))
    → on_number (known_number (known [] by) (width by)) (any_below (λ j. reads [] x j b) (width x) || any_below (λ j. reads [] by j b) (width by))
    (λ n. cond (out n) false (cond (nat_lt (move n) (width x)) (reads [] x (move n) b) false)) ≡ true
    → IsPathTo b (on_number (const_of by)
    (cond (any_below (λ j. reads [] x j b) (width x)) (path x (first_below (λ j. reads [] x j b) (width x)) b) (path by (first_below (λ j. reads [] by j b) (width by)) b))
    (λ n. path x (move n) b))
shift_path x by b move out p q h = go by h q
  where
    general : (by : Tree) → (any_below (λ j. reads [] x j b) (width x) || any_below (λ j. reads [] by j b) (width by)) ≡ true → ((j : ℕ) → reads [] by j b ≡ true → IsPathTo b (path by j b))
        → IsPathTo b (cond (any_below (λ j. reads [] x j b) (width x)) (path x (first_below (λ j. reads [] x j b) (width x)) b) (path by (first_below (λ j. reads [] by j b) (width by)) b))
    general by h q = two (any_below (λ j. reads [] x j b) (width x)) refl h
      where
        two : (v : Bool) → any_below (λ j. reads [] x j b) (width x) ≡ v → (v || any_below (λ j. reads [] by j b) (width by)) ≡ true
            → IsPathTo b (cond v (path x (first_below (λ j. reads [] x j b) (width x)) b) (path by (first_below (λ j. reads [] by j b) (width by)) b))
        two true e h = p (first_below (λ j. reads [] x j b) (width x)) (first_holds (λ j. reads [] x j b) (width x) e)
        two false e h = q (first_below (λ j. reads [] by j b) (width by)) (first_holds (λ j. reads [] by j b) (width by) h)

    go : (by : Tree)
        → on_number (known_number (known [] by) (width by)) (any_below (λ j. reads [] x j b) (width x) || any_below (λ j. reads [] by j b) (width by))
        (λ n. cond (out n) false (cond (nat_lt (move n) (width x)) (reads [] x (move n) b) false)) ≡ true
        → ((j : ℕ) → reads [] by j b ≡ true → IsPathTo b (path by j b))
        → IsPathTo b (on_number (const_of by)
        (cond (any_below (λ j. reads [] x j b) (width x)) (path x (first_below (λ j. reads [] x j b) (width x)) b) (path by (first_below (λ j. reads [] by j b) (width by)) b))
        (λ n. path x (move n) b))
    go (Const w v) h q = p (move (number (bit_at v) w)) (passed_reads (out (number (bit_at v) w)) (nat_lt (move (number (bit_at v) w)) (width x)) (reads [] x (move (number (bit_at v) w)) b)
        (sym (ap (λ o. on_number o (any_below (λ j. reads [] x j b) (width x) || any_below (λ j. reads [] (Const w v) j b) w) (λ n. cond (out n) false (cond (nat_lt (move n) (width x)) (reads [] x (move n) b) false))) (number_known (bit_at v) w)) ∙ h))
    go by h q = general by (shift_feeds x by b (known_number (known [] by) (width by)) move out h) q

ends_at : (a b : Bit) (w : ℕ) → Some a ≡ Some b → IsPathTo b ((Var a.sig w, a.at) ∷ [])
ends_at a b w e = subst (λ (c : Bit). IsPathTo c ((Var a.sig w, a.at) ∷ [])) (is e) (w, refl)
  where
    is : Some a ≡ Some b → a ≡ b
    is e = cc

-- where a node reads b, its path goes down to b through nodes that read it
pub path_reads : (t : Tree) (i : ℕ) (b : Bit) → reads [] t i b ≡ true → IsPathTo b (path t i b)
path_reads (Var sig w) i b h = elim (but_cases (known [] (Var sig w) i) (same [] (Var sig w) i) b false h) [
  | inl e ↦ ends_at (record { sig = sig; at = i }) b w (unless_none (known [] (Var sig w) i) (Some (record { sig = sig; at = i })) b e).1
  | inr e ↦ none_of e
]
  where
    none_of : {A : Type 0} → false ≡ true → A
    none_of e = cc
path_reads (Const w v) i b h = cc
path_reads (Not x) i b h = more b (Not x, i) (path x i b) h (path_reads x i b (plain_feeds (known [] (Not x) i) b (reads [] x i b) h))
path_reads (And x y) i b h = more b (And x y, i) (cond (reads [] x i b) (path x i b) (path y i b)) h
    (two_feeds x y i b (gate_feeds true x y i b (known [] (And x y) i) (known [] x i) (known [] y i) h) (path_reads x i b) (path_reads y i b))
path_reads (Or x y) i b h = more b (Or x y, i) (cond (reads [] x i b) (path x i b) (path y i b)) h
    (two_feeds x y i b (gate_feeds false x y i b (known [] (Or x y) i) (known [] x i) (known [] y i) h) (path_reads x i b) (path_reads y i b))
path_reads (Xor x y) i b h = more b (Xor x y, i) (cond (reads [] x i b) (path x i b) (path y i b)) h
    (two_feeds x y i b (gate_feeds false x y i b (known [] (Xor x y) i) (known [] x i) (known [] y i) h) (path_reads x i b) (path_reads y i b))
path_reads (Add x y) i b h =
    more b (Add x y, i) (cond (reads [] x (first_below (λ j. reads [] x j b || reads [] y j b) (suc i)) b) (path x (first_below (λ j. reads [] x j b || reads [] y j b) (suc i)) b) (path y (first_below (λ j. reads [] x j b || reads [] y j b) (suc i)) b)) h
    (two_feeds x y (first_below (λ j. reads [] x j b || reads [] y j b) (suc i)) b
    (first_holds (λ j. reads [] x j b || reads [] y j b) (suc i) (plain_feeds (known [] (Add x y) i) b (any_below (λ j. reads [] x j b || reads [] y j b) (suc i)) h))
    (path_reads x (first_below (λ j. reads [] x j b || reads [] y j b) (suc i)) b) (path_reads y (first_below (λ j. reads [] x j b || reads [] y j b) (suc i)) b))
path_reads (Sub x y) i b h =
    more b (Sub x y, i) (cond (reads [] x (first_below (λ j. reads [] x j b || reads [] y j b) (suc i)) b) (path x (first_below (λ j. reads [] x j b || reads [] y j b) (suc i)) b) (path y (first_below (λ j. reads [] x j b || reads [] y j b) (suc i)) b)) h
    (two_feeds x y (first_below (λ j. reads [] x j b || reads [] y j b) (suc i)) b
    (first_holds (λ j. reads [] x j b || reads [] y j b) (suc i) (plain_feeds (known [] (Sub x y) i) b (any_below (λ j. reads [] x j b || reads [] y j b) (suc i)) h))
    (path_reads x (first_below (λ j. reads [] x j b || reads [] y j b) (suc i)) b) (path_reads y (first_below (λ j. reads [] x j b || reads [] y j b) (suc i)) b))
path_reads (Eq x y) i b h =
    more b (Eq x y, i) (cond (reads [] x (first_below (λ j. reads [] x j b || reads [] y j b) (width x)) b) (path x (first_below (λ j. reads [] x j b || reads [] y j b) (width x)) b) (path y (first_below (λ j. reads [] x j b || reads [] y j b) (width x)) b)) h
    (two_feeds x y (first_below (λ j. reads [] x j b || reads [] y j b) (width x)) b
    (first_holds (λ j. reads [] x j b || reads [] y j b) (width x) (plain_feeds (known [] (Eq x y) i) b (any_below (λ j. reads [] x j b || reads [] y j b) (width x)) h))
    (path_reads x (first_below (λ j. reads [] x j b || reads [] y j b) (width x)) b) (path_reads y (first_below (λ j. reads [] x j b || reads [] y j b) (width x)) b))
path_reads (Lt x y) i b h =
    more b (Lt x y, i) (cond (reads [] x (first_below (λ j. reads [] x j b || reads [] y j b) (width x)) b) (path x (first_below (λ j. reads [] x j b || reads [] y j b) (width x)) b) (path y (first_below (λ j. reads [] x j b || reads [] y j b) (width x)) b)) h
    (two_feeds x y (first_below (λ j. reads [] x j b || reads [] y j b) (width x)) b
    (first_holds (λ j. reads [] x j b || reads [] y j b) (width x) (plain_feeds (known [] (Lt x y) i) b (any_below (λ j. reads [] x j b || reads [] y j b) (width x)) h))
    (path_reads x (first_below (λ j. reads [] x j b || reads [] y j b) (width x)) b) (path_reads y (first_below (λ j. reads [] x j b || reads [] y j b) (width x)) b))
path_reads (Shl x by) i b h = more b (Shl x by, i) (on_number (const_of by)
    (cond (any_below (λ j. reads [] x j b) (width x)) (path x (first_below (λ j. reads [] x j b) (width x)) b) (path by (first_below (λ j. reads [] by j b) (width by)) b)) (λ n. path x (i - n) b)) h
    (shift_path x by b (λ n. i - n) (λ n. nat_lt i n) (λ j. path_reads x j b) (λ j. path_reads by j b) h)
path_reads (Shr x by) i b h = more b (Shr x by, i) (on_number (const_of by)
    (cond (any_below (λ j. reads [] x j b) (width x)) (path x (first_below (λ j. reads [] x j b) (width x)) b) (path by (first_below (λ j. reads [] by j b) (width by)) b)) (λ n. path x (i + n) b)) h
    (shift_path x by b (λ n. i + n) (λ n. false) (λ j. path_reads x j b) (λ j. path_reads by j b) h)
path_reads (Mux c x y) i b h = more b (Mux c x y, i) (cond (reads [] c 0 b) (path c 0 b) (cond (reads [] x i b) (path x i b) (path y i b))) h
    (go (reads [] c 0 b) refl (some_feed (known [] c 0) (but_cases (known [] (Mux c x y) i) (same [] (Mux c x y) i) b (chosen (known [] c 0) (reads [] x i b) (reads [] y i b) (reads [] c 0 b || (reads [] x i b || reads [] y i b))) h)
    (by_same (known [] c 0) refl))
    (path_reads c 0 b) (path_reads x i b) (path_reads y i b))
  where
    by_same : (o : Option Bool) → known [] c 0 ≡ o → same [] (Mux c x y) i ≡ Some b → (reads [] x i b || reads [] y i b) ≡ true
    by_same o k e = is o (unless_none (known [] (Mux c x y) i) (chosen o (same [] x i) (same [] y i) (agreed_bit (same [] x i) (same [] y i))) b
        (subst (λ (p : Option Bool). cond (is_known [] (Mux c x y) i) None (chosen p (same [] x i) (same [] y i) (agreed_bit (same [] x i) (same [] y i))) ≡ Some b) k e)).1
      where
        is : (o : Option Bool) → chosen o (same [] x i) (same [] y i) (agreed_bit (same [] x i) (same [] y i)) ≡ Some b → (reads [] x i b || reads [] y i b) ≡ true
        is (Some true) e = or_left (reads [] x i b) (reads [] y i b) (self_reads [] x i b e)
        is (Some false) e = or_right (reads [] x i b) (reads [] y i b) (self_reads [] y i b e)
        is None e = or_left (reads [] x i b) (reads [] y i b) (self_reads [] x i b (agreed_first (same [] x i) (same [] y i) b e))

    some_feed : (o : Option Bool) → (same [] (Mux c x y) i ≡ Some b) ⊎ (chosen o (reads [] x i b) (reads [] y i b) (reads [] c 0 b || (reads [] x i b || reads [] y i b)) ≡ true)
        → (same [] (Mux c x y) i ≡ Some b → (reads [] x i b || reads [] y i b) ≡ true) → (reads [] c 0 b || (reads [] x i b || reads [] y i b)) ≡ true
    some_feed o (inl e) g = or_right (reads [] c 0 b) (reads [] x i b || reads [] y i b) (g e)
    some_feed (Some true) (inr e) g = or_right (reads [] c 0 b) (reads [] x i b || reads [] y i b) (or_left (reads [] x i b) (reads [] y i b) e)
    some_feed (Some false) (inr e) g = or_right (reads [] c 0 b) (reads [] x i b || reads [] y i b) (or_right (reads [] x i b) (reads [] y i b) e)
    some_feed None (inr e) g = e

    go : (v : Bool) → reads [] c 0 b ≡ v → (v || (reads [] x i b || reads [] y i b)) ≡ true → (reads [] c 0 b ≡ true → IsPathTo b (path c 0 b)) → (reads [] x i b ≡ true → IsPathTo b (path x i b))
        → (reads [] y i b ≡ true → IsPathTo b (path y i b)) → IsPathTo b (cond v (path c 0 b) (cond (reads [] x i b) (path x i b) (path y i b)))
    go true e h r p q = r e
    go false e h r p q = two_feeds x y i b h p q
path_reads (Concat high low) i b h = more b (Concat high low, i) (cond (nat_lt i (width low)) (path low i b) (path high (i - width low) b)) h
    (go (nat_lt i (width low)) h (path_reads low i b) (path_reads high (i - width low) b))
  where
    go : (v : Bool) → cond v (reads [] low i b) (reads [] high (i - width low) b) ≡ true → (reads [] low i b ≡ true → IsPathTo b (path low i b))
        → (reads [] high (i - width low) b ≡ true → IsPathTo b (path high (i - width low) b)) → IsPathTo b (cond v (path low i b) (path high (i - width low) b))
    go true h p q = p h
    go false h p q = q h
path_reads (Slice x at w) i b h = more b (Slice x at w, i) (path x (at + i) b) h (path_reads x (at + i) b h)
path_reads (Extend x w) i b h = more b (Extend x w, i) (path x i b) h (path_reads x i b (go (nat_lt i (width x)) h))
  where
    go : (v : Bool) → cond v (reads [] x i b) false ≡ true → reads [] x i b ≡ true
    go true h = h
    go false h = cc
path_reads (ReduceAnd x) i b h = more b (ReduceAnd x, i) (path x (first_below (λ j. reads [] x j b) (width x)) b) h
    (path_reads x (first_below (λ j. reads [] x j b) (width x)) b (first_holds (λ j. reads [] x j b) (width x) (reduce_feeds x b (known [] (ReduceAnd x) i) h)))
path_reads (ReduceOr x) i b h = more b (ReduceOr x, i) (path x (first_below (λ j. reads [] x j b) (width x)) b) h
    (path_reads x (first_below (λ j. reads [] x j b) (width x)) b (first_holds (λ j. reads [] x j b) (width x) (reduce_feeds x b (known [] (ReduceOr x) i) h)))
path_reads (ReduceXor x) i b h = more b (ReduceXor x, i) (path x (first_below (λ j. reads [] x j b) (width x)) b) h
    (path_reads x (first_below (λ j. reads [] x j b) (width x)) b (first_holds (λ j. reads [] x j b) (width x) (reduce_feeds x b (known [] (ReduceXor x) i) h)))
