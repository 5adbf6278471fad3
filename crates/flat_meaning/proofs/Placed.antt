-- A signal's pieces by place: none of them is lost, and where no bit is driven twice they lie one above the other.
use Rattle.std.proofs.Common.{◌≡◌, ℕ, zero, suc, ◌+◌, ◌<◌, ◌≤◌, Bool, true, false, cond, not, ◌&&◌, ◌==◌, nat_lt, List, [], ◌∷◌, ◌++◌, refl, sym, ap, ap₂, ◌∙◌, arith, lt-ltb, le-ltb, ltb-true, eqb-true, eq-eqb, ne_eqb}
use Rattle.std.specs.List.{All, AllByRecursion as Each}
use Rattle.std.proofs.lemmas.List.Elements.{All-head, All-tail, All-nil, All-cons}
use Rattle.cell_graph.specs.Tree.{Tree}
use Rattle.flat_meaning.specs.Design.{once}
use Rattle.flat_meaning.specs.Assigned.{is_within}
use Rattle.flat_meaning.specs.Pieces.{Piece, placed, in_order, Run, add_bit, runs, run_pieces}
use Rattle.flat_meaning.proofs.Words.{never, never_same, by_lt}
use Rattle.flat_meaning.proofs.Depth.{by_bool}

pub within : (at w i : ℕ) → at ≤ i → i < at + w → is_within at w i ≡ true
within at w i h l = ap₂ (λ x y. not x && y) (le-ltb i at h) (lt-ltb i (at + w) l)

pub not_below : (at w i : ℕ) → i < at → is_within at w i ≡ false
not_below at w i h = ap (λ x. not x && nat_lt i (at + w)) (lt-ltb i at h)

pub not_above : (at w i : ℕ) → at + w ≤ i → is_within at w i ≡ false
not_above at w i h = by_lt (λ x. (not x && nat_lt i (at + w)) ≡ false) i at (λ l. refl) (λ l. le-ltb i (at + w) h)

pub from_within : (at w i : ℕ) → is_within at w i ≡ true → (at ≤ i) × (i < at + w)
from_within at w i h = by_lt (λ x. (not x && nat_lt i (at + w)) ≡ true → (at ≤ i) × (i < at + w)) i at
    (λ l k. never_same (sym k)) (λ l k. (l, ltb-true i (at + w) k)) h

-- how many of the pieces have bit i
abbrev pub hits : Piece → ℕ → ℕ
hits p i = once (is_within p.at p.bits i)

abbrev pub times : List Piece → ℕ → ℕ
times [] i = 0
times (p ∷ ps) i = hits p i + times ps i

pub times_both : (ps qs : List Piece) (i : ℕ) → times (ps ++ qs) i ≡ times ps i + times qs i
times_both [] qs i = let e : times qs i ≡ 0 + times qs i = omega arith in e
times_both (p ∷ ps) qs i = let e = times_both ps qs i in let k : hits p i + times (ps ++ qs) i ≡ hits p i + times ps i + times qs i = omega arith in k

times_placed : (p : Piece) (qs : List Piece) (i : ℕ) → times (placed p qs) i ≡ hits p i + times qs i
times_placed p [] i = refl
times_placed p (q ∷ qs) i = go (nat_lt p.at q.at) (times_placed p qs i)
  where
    go : (u : Bool) → times (placed p qs) i ≡ hits p i + times qs i → times (cond u (p ∷ q ∷ qs) (q ∷ placed p qs)) i ≡ hits p i + times (q ∷ qs) i
    go true h = refl
    go false h = let k : hits q i + times (placed p qs) i ≡ hits p i + (hits q i + times qs i) = omega arith in k

pub times_in_order : (ps : List Piece) (i : ℕ) → times (in_order ps) i ≡ times ps i
times_in_order [] i = refl
times_in_order (p ∷ ps) i = times_placed p (in_order ps) i ∙ ap (λ x. hits p i + x) (times_in_order ps i)

module _ (P : Piece → Type 0) where
  all_placed : (p : Piece) (qs : List Piece) → P p → Each P qs → Each P (placed p qs)
  all_placed p [] h k = (h, tt)
  all_placed p (q ∷ qs) h k = go (nat_lt p.at q.at) (all_placed p qs h k.1)
    where
      go : (u : Bool) → Each P (placed p qs) → Each P (cond u (p ∷ q ∷ qs) (q ∷ placed p qs))
      go true z = (h, k)
      go false z = (k.0, z)

  pub all_in_order : (ps : List Piece) → Each P ps → Each P (in_order ps)
  all_in_order [] h = h
  all_in_order (p ∷ ps) h = all_placed p (in_order ps) h.0 (all_in_order ps h.1)

  pub all_both : (ps qs : List Piece) → Each P ps → Each P qs → Each P (ps ++ qs)
  all_both [] qs h k = k
  all_both (p ∷ ps) qs h k = (h.0, all_both ps qs h.1 k)

-- ---- one above the other

-- a piece of one bit or more in a signal of so many bits
pub record IsIn (whole : ℕ) (p : Piece) : Type 0 where
  pub some : 1 ≤ p.bits
  pub room : p.at + p.bits ≤ whole

abbrev pub Ascend : (n : ℕ) → List Piece → (whole : ℕ) → Type 0
Ascend n [] whole = n ≤ whole
Ascend n (p ∷ ps) whole = (n ≤ p.at) × Ascend (p.bits + p.at) ps whole

pub none_below : (n : ℕ) (ps : List Piece) (whole i : ℕ) → Ascend n ps whole → i < n → times ps i ≡ 0
none_below n [] whole i h l = refl
none_below n (p ∷ ps) whole i h l =
    let k = h.0 in
    ap₂ (λ x y. once x + y) (not_below p.at p.bits i (omega arith)) (none_below (p.bits + p.at) ps whole i h.1 (omega arith))

ascend_placed : (whole n : ℕ) (p : Piece) (qs : List Piece) → IsIn whole p → Each (IsIn whole) qs → ((i : ℕ) → hits p i + times qs i ≤ 1) → n ≤ p.at → Ascend n qs whole → Ascend n (placed p qs) whole
ascend_placed whole n p [] a z one l h = let k = a.room in (l, omega arith)
ascend_placed whole n p (q ∷ qs) a z one l h =
    let some_p = a.some in let room_p = a.room in let some_q = z.0.some in let start = h.0 in
    by_lt (λ u. Ascend n (cond u (p ∷ q ∷ qs) (q ∷ placed p qs)) whole) p.at q.at
    (λ k. (
      l,
      (
        by_lt (λ u. p.bits + p.at ≤ q.at) q.at (p.at + p.bits)
            (λ m. let both = one q.at in let x = ap once (within p.at p.bits q.at (omega arith) m) in let y = ap once (within q.at q.bits q.at (omega arith) (omega arith)) in never 0 (omega arith))
            (λ m. omega arith),
        h.1,
      ),
    ))
    (λ k. (
      h.0,
      ascend_placed whole (q.bits + q.at) p qs a z.1 (λ i. let b = one i in omega arith)
          (by_lt (λ u. q.bits + q.at ≤ p.at) p.at (q.at + q.bits)
          (λ m. let both = one p.at in let x = ap once (within p.at p.bits p.at (omega arith) (omega arith)) in let y = ap once (within q.at q.bits p.at k m) in never 0 (omega arith))
          (λ m. omega arith)) h.1,
    ))

pub ascend : (whole : ℕ) (ps : List Piece) → Each (IsIn whole) ps → ((i : ℕ) → times ps i ≤ 1) → Ascend 0 (in_order ps) whole
ascend whole [] h one = omega arith
ascend whole (p ∷ ps) h one =
    ascend_placed whole 0 p (in_order ps) h.0 (all_in_order (IsIn whole) ps h.1) (λ i. let e = times_in_order ps i in let k = one i in omega arith) (omega arith)
    (ascend whole ps h.1 (λ i. let k = one i in omega arith))

-- ---- lists of pieces

module _ {A : Type 0} where
  pub each_map : {P Q : A → Type 0} → ((x : A) → P x → Q x) → (xs : List A) → Each P xs → Each Q xs
  each_map h [] k = tt
  each_map h (x ∷ xs) k = (h x k.0, each_map h xs k.1)

  pub each_of : (P : A → Type 0) (xs : List A) → All P xs → Each P xs
  each_of P [] h = tt
  each_of P (x ∷ xs) h = (All-head P x xs h, each_of P xs (All-tail P x xs h))

  pub of_each : (P : A → Type 0) (xs : List A) → Each P xs → All P xs
  of_each P [] h = All-nil P
  of_each P (x ∷ xs) h = All-cons P x xs h.0 (of_each P xs h.1)

  pub each_all : {P : A → Type 0} → ((x : A) → P x) → (xs : List A) → Each P xs
  each_all h [] = tt
  each_all h (x ∷ xs) = (h x, each_all h xs)

  pub each_and : (P Q : A → Type 0) (xs : List A) → Each P xs → Each Q xs → Each (λ x. P x × Q x) xs
  each_and P Q [] h k = tt
  each_and P Q (x ∷ xs) h k = ((h.0, k.0), each_and P Q xs h.1 k.1)

  pub each_left : (P : A → Type 0) (xs ys : List A) → Each P (xs ++ ys) → Each P xs
  each_left P [] ys h = tt
  each_left P (x ∷ xs) ys h = (h.0, each_left P xs ys h.1)

  pub each_right : (P : A → Type 0) (xs ys : List A) → Each P (xs ++ ys) → Each P ys
  each_right P [] ys h = h
  each_right P (x ∷ xs) ys h = each_right P xs ys h.1

  -- what holds of each for each number holds for each number of each
  pub each_swap : (P : ℕ → A → Type 0) (xs : List A) → ((i : ℕ) → Each (P i) xs) → Each (λ x. (i : ℕ) → P i x) xs
  each_swap P [] h = tt
  each_swap P (x ∷ xs) h = (λ i. (h i).0, each_swap P xs (λ i. (h i).1))

-- a bit of a piece is counted in the list
pub each_hits : (ps : List Piece) (i : ℕ) → Each (λ p. hits p i ≤ times ps i) ps
each_hits [] i = tt
each_hits (p ∷ ps) i = (omega arith, each_map (λ q h. omega arith) ps (each_hits ps i))

pub none_within : (ps : List Piece) (i : ℕ) → times ps i ≡ 0 → Each (λ p. is_within p.at p.bits i ≡ false) ps
none_within ps i h = each_map (λ p k. by_bool (is_within p.at p.bits i) (λ e. let z = ap once e in never 0 (omega arith)) (λ e. e)) ps (each_hits ps i)

-- what each piece with the bit gives, where there is one
pub some_piece : {Q : Type 0} (ps : List Piece) (i : ℕ) → Each (λ p. is_within p.at p.bits i ≡ true → Q) ps → 1 ≤ times ps i → Q
some_piece [] i h l = never 0 (omega arith)
some_piece (p ∷ ps) i h l = by_bool (is_within p.at p.bits i) (λ e. h.0 e) (λ e. let z = ap once e in some_piece ps i h.1 (omega arith))

pub none_past : (whole : ℕ) (ps : List Piece) (i : ℕ) → Each (IsIn whole) ps → whole ≤ i → times ps i ≡ 0
none_past whole [] i h l = refl
none_past whole (p ∷ ps) i h l = let k = h.0.room in ap₂ (λ x y. once x + y) (not_above p.at p.bits i (omega arith)) (none_past whole ps i h.1 l)

-- ---- runs of bits

abbrev pub is_in_run : ℕ → Run → Type 0
is_in_run whole r = (1 ≤ r.bits) × (r.at + r.bits ≤ whole)

added_in : (whole m : ℕ) (rs : List Run) → m < whole → Each (is_in_run whole) rs → Each (is_in_run whole) (add_bit m rs)
added_in whole m [] l h = ((omega arith, omega arith), tt)
added_in whole m (r ∷ rs) l h = go (r.at == suc m) refl
  where
    go : (u : Bool) → (r.at == suc m) ≡ u → Each (is_in_run whole) (cond u (record { at = m; bits = suc r.bits } ∷ rs) (record { at = m; bits = 1 } ∷ r ∷ rs))
    go true e = let z = eqb-true r.at (suc m) e in let k = h.0.1 in ((omega arith, omega arith), h.1)
    go false e = ((omega arith, omega arith), h)

pub runs_in : (whole : ℕ) (p : ℕ → Bool) (m : ℕ) (rs : List Run) → m ≤ whole → Each (is_in_run whole) rs → Each (is_in_run whole) (runs p m rs)
runs_in whole p zero rs l h = h
runs_in whole p (suc m) rs l h = runs_in whole p m (cond (p m) (add_bit m rs) rs) (omega arith) (go (p m))
  where
    go : (u : Bool) → Each (is_in_run whole) (cond u (add_bit m rs) rs)
    go true = added_in whole m rs (omega arith) h
    go false = h

one_more : (m w i : ℕ) → once (is_within m (suc w) i) ≡ once (i == m) + once (is_within (suc m) w i)
one_more m w i = by_lt (λ u. once (is_within m (suc w) i) ≡ once (i == m) + once (is_within (suc m) w i)) i m
    (λ l. let a = ap once (not_below m (suc w) i l) in let b = ap once (ne_eqb i m (λ e. omega arith)) in let c = ap once (not_below (suc m) w i (omega arith)) in omega arith)
    (λ l. by_lt (λ u. once (is_within m (suc w) i) ≡ once (i == m) + once (is_within (suc m) w i)) m i
    (λ k. let b = ap once (ne_eqb i m (λ e. omega arith)) in
    by_lt (λ u. once (is_within m (suc w) i) ≡ once (i == m) + once (is_within (suc m) w i)) i (m + suc w)
    (λ j. let a = ap once (within m (suc w) i l j) in let c = ap once (within (suc m) w i k (omega arith)) in omega arith)
    (λ j. let a = ap once (not_above m (suc w) i j) in let c = ap once (not_above (suc m) w i (omega arith)) in omega arith))
    (λ k. let a = ap once (within m (suc w) i l (omega arith)) in let b = ap once (eq-eqb i m (omega arith)) in let c = ap once (not_below (suc m) w i (omega arith)) in omega arith))

nowhere : (m i : ℕ) → once (is_within (suc m) 0 i) ≡ 0
nowhere m i = by_lt (λ u. once (is_within (suc m) 0 i) ≡ 0) i (suc m) (λ l. ap once (not_below (suc m) 0 i l)) (λ l. ap once (not_above (suc m) 0 i (omega arith)))

module _ (n : ℕ) (t : Tree) where
  times_added : (m : ℕ) (rs : List Run) (i : ℕ) → times (run_pieces n t (add_bit m rs)) i ≡ once (i == m) + times (run_pieces n t rs) i
  times_added m [] i = let a = one_more m 0 i in let b = nowhere m i in omega arith
  times_added m (r ∷ rs) i = go (r.at == suc m) refl
    where
      go : (u : Bool) → (r.at == suc m) ≡ u → times (run_pieces n t (cond u (record { at = m; bits = suc r.bits } ∷ rs) (record { at = m; bits = 1 } ∷ r ∷ rs))) i ≡ once (i == m) + times (run_pieces n t (r ∷ rs)) i
      go true e = let z = ap (λ x. once (is_within x r.bits i)) (eqb-true r.at (suc m) e) in let a = one_more m r.bits i in omega arith
      go false e = let a = one_more m 0 i in let b = nowhere m i in omega arith

  -- the runs have exactly the bits of the set
  pub times_runs : (p : ℕ → Bool) (m : ℕ) (rs : List Run) (i : ℕ) → times (run_pieces n t (runs p m rs)) i ≡ once (nat_lt i m && p i) + times (run_pieces n t rs) i
  times_runs p zero rs i = let e = ap (λ x. once (x && p i)) (le-ltb i 0 (omega arith)) in omega arith
  times_runs p (suc m) rs i = times_runs p m (cond (p m) (add_bit m rs) rs) i ∙ go (p m) refl
    where
      at_m : (u : Bool) → p m ≡ u → once (nat_lt i m && p i) + cond u (once (i == m)) 0 ≡ once (nat_lt i (suc m) && p i)
      at_m u e = by_lt (λ x. once (x && p i) + cond u (once (i == m)) 0 ≡ once (nat_lt i (suc m) && p i)) i m
          (λ l. let a = ap once (ne_eqb i m (λ z. omega arith)) in let b = ap (λ x. once (x && p i)) (lt-ltb i (suc m) (omega arith)) in low u a b)
          (λ l. by_lt (λ x. 0 + cond u (once (i == m)) 0 ≡ once (x && p i)) i (suc m)
          (λ k. let z : i ≡ m = omega arith in let a = ap once (eq-eqb i m z) in high u a (ap once (ap p z ∙ e)))
          (λ k. let a = ap once (ne_eqb i m (λ z. omega arith)) in past u a))
        where
          low : (u : Bool) → once (i == m) ≡ 0 → once (nat_lt i (suc m) && p i) ≡ once (p i) → once (p i) + cond u (once (i == m)) 0 ≡ once (nat_lt i (suc m) && p i)
          low true a b = omega arith
          low false a b = omega arith

          high : (u : Bool) → once (i == m) ≡ 1 → once (p i) ≡ once u → 0 + cond u (once (i == m)) 0 ≡ once (p i)
          high true a b = omega arith
          high false a b = omega arith

          past : (u : Bool) → once (i == m) ≡ 0 → 0 + cond u (once (i == m)) 0 ≡ 0
          past true a = omega arith
          past false a = omega arith

      go : (u : Bool) → p m ≡ u → once (nat_lt i m && p i) + times (run_pieces n t (cond u (add_bit m rs) rs)) i ≡ once (nat_lt i (suc m) && p i) + times (run_pieces n t rs) i
      go true e = let a = at_m true e in let b = times_added m rs i in omega arith
      go false e = let a = at_m false e in omega arith

  pub runs_are_in : (whole : ℕ) (rs : List Run) → Each (is_in_run whole) rs → Each (IsIn whole) (run_pieces n t rs)
  runs_are_in whole [] h = tt
  runs_are_in whole (r ∷ rs) h = (record { some = h.0.0; room = h.0.1 }, runs_are_in whole rs h.1)
