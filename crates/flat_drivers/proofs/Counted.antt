-- Counts of drivers, one step after another.
use Rattle.std.proofs.Common.{◌≡◌, ◌≢◌, ℕ, zero, suc, ◌+◌, ◌^◌, ◌<◌, ◌≤◌, Bool, true, false, not, ◌&&◌, ◌||◌, ◌==◌, nat_le, nat_lt, nat_eq, List, [], ◌∷◌, map, drop, length, get_or, refl, sym, ap, ap₂, subst, ◌∙◌, arith, eqb-true, lt-ltb, le-ltb, le-leb, leb-true, leb-false, ne_eqb}
use Rattle.std.specs.List.{IsDistinct, AllByRecursion, list_any}
use Rattle.std.proofs.lemmas.Bool.{lt-leb}
use Rattle.std.proofs.lemmas.List.{drop_more, drop_all}
use Rattle.std.proofs.lemmas.Map.Keys.{IsDistinct-head, IsDistinct-tail}
use Rattle.std.proofs.Math.Bool.{or-false, or_assoc}
use Rattle.cell_graph.specs.Tree.{bit_at}
use Rattle.cell_graph.proofs.Words.{bit-above, bit-zero, word-same}
use Rattle.flat_form.specs.declared.masks.Masks.{Masks}
use Rattle.flat_form.specs.Masks.{bits_in, Adds}
use Rattle.flat_meaning.specs.Assigned.{is_within, may_assign}
use Rattle.flat_meaning.specs.Flat.{Stmt, assigns}
use Rattle.flat_meaning.specs.Deps.{Bits}
use Rattle.flat_meaning.specs.Design.{Flat, size_in, once, times_assigned, times_processed}
use Rattle.flat_meaning.proofs.Drivers.{not_assigned}
use Rattle.flat_unfolding.specs.Drivers.{assigned_by, is_clocked, all_drivers}
use Rattle.flat_drivers.specs.declared.drivers.Drivers.{Drivers}
use Rattle.flat_drivers.specs.Driving.{Counts, CountsMore, is_among}

-- counts agree at the bits that there are
pub record Same (wid : ℕ → ℕ) (t u : ℕ → ℕ → ℕ) : Type 0 where
  pub at : (s i : ℕ) → i < wid s → i < 64 → t s i ≡ u s i

pub counts-same : (wid : ℕ → ℕ) (d : Drivers) (t u : ℕ → ℕ → ℕ) (p q : ℕ → ℕ) → Same wid t u → ((s : ℕ) → p s ≡ q s) → Counts wid d t p → Counts wid d u q
counts-same wid d t u p q e g c = record {
  driven = λ s i l m. c.driven s i l m ∙ ap (nat_le 1) (e.at s i l m);
  doubly = λ s i l m. c.doubly s i l m ∙ ap₂ (λ a b. nat_le 2 a || nat_le 2 b) (e.at s i l m) (g s);
  assigning = λ s i m. c.assigning s i m ∙ ap (λ a. (i == 0) && nat_le 1 a) (g s);
}

pub more-same : (wid : ℕ → ℕ) (a b : Drivers) (t u : ℕ → ℕ → ℕ) (p q : ℕ → ℕ) → Same wid t u → ((s : ℕ) → p s ≡ q s) → CountsMore wid a b t p → CountsMore wid a b u q
more-same wid a b t u p q e g c = record {
  counts = λ v w k. counts-same wid b (λ s i. v s i + t s i) (λ s i. v s i + u s i) (λ s. w s + p s) (λ s. w s + q s)
      (record { at = λ s i l m. ap (λ n. v s i + n) (e.at s i l m) }) (λ s. ap (λ n. w s + n) (g s)) (c.counts v w k);
}

add-none : (n : ℕ) → n ≡ n + 0
add-none n = omega arith

add-three : (a b c : ℕ) → a + b + c ≡ a + (b + c)
add-three a b c = omega arith

pub more-none : (wid : ℕ → ℕ) (d : Drivers) → CountsMore wid d d (λ s i. 0) (λ s. 0)
more-none wid d = record {
  counts = λ v w k. counts-same wid d v (λ s i. v s i + 0) w (λ s. w s + 0) (record { at = λ s i l m. add-none (v s i) }) (λ s. add-none (w s)) k;
}

pub more-then : (wid : ℕ → ℕ) (a b c : Drivers) (t u : ℕ → ℕ → ℕ) (p q : ℕ → ℕ) → CountsMore wid a b t p → CountsMore wid b c u q → CountsMore wid a c (λ s i. t s i + u s i) (λ s. p s + q s)
more-then wid a b c t u p q h k = record {
  counts = λ v w m. counts-same wid c (λ s i. v s i + t s i + u s i) (λ s i. v s i + (t s i + u s i)) (λ s. w s + p s + q s) (λ s. w s + (p s + q s))
      (record { at = λ s i l n. add-three (v s i) (t s i) (u s i) }) (λ s. add-three (w s) (p s) (q s))
      (k.counts (λ s i. v s i + t s i) (λ s. w s + p s) (h.counts v w m));
}

-- ---- a loop: with what is left it comes to all

pub record Reached (wid : ℕ → ℕ) (old now : Drivers) (left all : ℕ → ℕ → ℕ) (processes_left all_processes : ℕ → ℕ) : Type 0 where
  pub times : ℕ → ℕ → ℕ
  pub processes : ℕ → ℕ
  pub more : CountsMore wid old now times processes
  pub rest : Same wid (λ s i. times s i + left s i) all
  pub processes_rest : (s : ℕ) → processes s + processes_left s ≡ all_processes s

pub reached-start : (wid : ℕ → ℕ) (old : Drivers) (all : ℕ → ℕ → ℕ) (all_p : ℕ → ℕ) → Reached wid old old all all all_p all_p
reached-start wid old all all_p = record {
  times = λ s i. 0;
  processes = λ s. 0;
  more = more-none wid old;
  rest = record { at = λ s i l m. let z : 0 + all s i ≡ all s i = omega arith in z };
  processes_rest = λ s. let z : 0 + all_p s ≡ all_p s = omega arith in z;
}

pub reached-step : (wid : ℕ → ℕ) (old now new : Drivers) (all left before t : ℕ → ℕ → ℕ) (all_p left_p before_p p : ℕ → ℕ)
    → Same wid before (λ s i. t s i + left s i) → ((s : ℕ) → before_p s ≡ p s + left_p s)
    → Reached wid old now before all before_p all_p → CountsMore wid now new t p → Reached wid old new left all left_p all_p
reached-step wid old now new all left before t all_p left_p before_p p e g h k = record {
  times = λ s i. h.times s i + t s i;
  processes = λ s. h.processes s + p s;
  more = more-then wid old now new h.times t h.processes p h.more k;
  rest = record { at = λ s i l m. add-three (h.times s i) (t s i) (left s i) ∙ sym (ap (λ n. h.times s i + n) (e.at s i l m)) ∙ h.rest.at s i l m };
  processes_rest = λ s. add-three (h.processes s) (p s) (left_p s) ∙ sym (ap (λ n. h.processes s + n) (g s)) ∙ h.processes_rest s;
}

pub reached-end : (wid : ℕ → ℕ) (old now : Drivers) (all left : ℕ → ℕ → ℕ) (all_p left_p : ℕ → ℕ)
    → Same wid left (λ s i. 0) → ((s : ℕ) → left_p s ≡ 0) → Reached wid old now left all left_p all_p → CountsMore wid old now all all_p
reached-end wid old now all left all_p left_p e g h = more-same wid old now h.times all h.processes all_p
    (record { at = λ s i l m. add-none (h.times s i) ∙ sym (ap (λ n. h.times s i + n) (e.at s i l m)) ∙ h.rest.at s i l m })
    (λ s. add-none (h.processes s) ∙ sym (ap (λ n. h.processes s + n) (g s)) ∙ h.processes_rest s) h.more

-- one turn of a loop over a list
pub list-step : {X : Type 0} (wid : ℕ → ℕ) (old now new : Drivers) (F : List X → ℕ → ℕ → ℕ) (G : List X → ℕ → ℕ) (t : ℕ → ℕ → ℕ) (p : ℕ → ℕ) (all : List X) (i : ℕ) (x : X)
    → i < length all → x ≡ get_or all i x
    → Same wid (F (x ∷ drop (i + 1) all)) (λ s j. t s j + F (drop (i + 1) all) s j) → ((s : ℕ) → G (x ∷ drop (i + 1) all) s ≡ p s + G (drop (i + 1) all) s)
    → Reached wid old now (F (drop i all)) (F all) (G (drop i all)) (G all) → CountsMore wid now new t p
    → Reached wid old new (F (drop (i + 1) all)) (F all) (G (drop (i + 1) all)) (G all)
list-step {X} wid old now new F G t p all i x l is e g h k =
    let next : drop i all ≡ x ∷ drop (i + 1) all = drop_more all i x l ∙ ap (λ (y : X). y ∷ drop (i + 1) all) (sym is) in
    reached-step wid old now new (F all) (F (drop (i + 1) all)) (F (x ∷ drop (i + 1) all)) t (G all) (G (drop (i + 1) all)) (G (x ∷ drop (i + 1) all)) p e g
    (subst (λ (xs : List X). Reached wid old now (F xs) (F all) (G xs) (G all)) next h) k

pub list-end : {X : Type 0} (wid : ℕ → ℕ) (old now : Drivers) (F : List X → ℕ → ℕ → ℕ) (G : List X → ℕ → ℕ) (all : List X) (i : ℕ)
    → length all ≤ i → ((s j : ℕ) → F [] s j ≡ 0) → ((s : ℕ) → G [] s ≡ 0)
    → Reached wid old now (F (drop i all)) (F all) (G (drop i all)) (G all) → CountsMore wid old now (F all) (G all)
list-end {X} wid old now F G all i l e g h = reached-end wid old now (F all) (F []) (G all) (G []) (record { at = λ s j k m. e s j }) g
    (subst (λ (xs : List X). Reached wid old now (F xs) (F all) (G xs) (G all)) (drop_all i all l) h)

-- ---- tests

-- what a test of equality tells
pub by_same : (P : Bool → Type 0) (a b : ℕ) → (a ≡ b → P true) → ((a == b) ≡ false → P false) → P (a == b)
by_same P a b y n = go (a == b) refl
  where
    go : (t : Bool) → (a == b) ≡ t → P t
    go true e = y (eqb-true a b e)
    go false e = n e

-- a test at one signal
pub at_signal : (s sig : ℕ) (a : Bool) (f : ℕ → Bool) → a ≡ f sig → ((s == sig) && a) ≡ ((s == sig) && f s)
at_signal s sig a f e = by_same (λ t. (t && a) ≡ (t && f s)) s sig (λ same. e ∙ ap f (sym same)) (λ n. refl)

pub or-true : (b : Bool) → (b || true) ≡ true
or-true true = refl
or-true false = refl

and-no : (b : Bool) → (b && false) ≡ false
and-no true = refl
and-no false = refl

and-yes : (b : Bool) → (b && true) ≡ b
and-yes true = refl
and-yes false = refl

pub by_le : (P : Bool → Type 0) (m n : ℕ) → (m ≤ n → P true) → (n < m → P false) → P (nat_le m n)
by_le P m n y z = go (nat_le m n) refl
  where
    go : (t : Bool) → nat_le m n ≡ t → P t
    go true e = y (leb-true m n e)
    go false e = z (leb-false m n e)

-- one more is two where there was one
pub two_of : (t : ℕ) (b : Bool) → nat_le 2 (t + once b) ≡ (nat_le 2 t || (b && nat_le 1 t))
two_of t false = ap (nat_le 2) (sym (add-none t)) ∙ sym (or-false (nat_le 2 t))
two_of t true = by_le (λ z. nat_le 2 (t + 1) ≡ (nat_le 2 t || z)) 1 t
    (λ l. le-leb 2 (t + 1) (omega (arith, l)) ∙ sym (or-true (nat_le 2 t)))
    (λ l. lt-leb 2 (t + 1) (omega (arith, l)) ∙ sym (ap (λ z. z || false) (lt-leb 2 t (omega (arith, l)))))

pub one_of : (t : ℕ) (b : Bool) → nat_le 1 (t + once b) ≡ (nat_le 1 t || b)
one_of t false = ap (nat_le 1) (sym (add-none t)) ∙ sym (or-false (nat_le 1 t))
one_of t true = le-leb 1 (t + 1) (omega arith) ∙ sym (or-true (nat_le 1 t))

pub one_before : (b : Bool) (n : ℕ) → nat_le 1 (once b + n) ≡ (b || nat_le 1 n)
one_before true n = le-leb 1 (1 + n) (omega arith)
one_before false n = ap (nat_le 1) (let e : 0 + n ≡ n = omega arith in e)

pub two_before : (b : Bool) (n : ℕ) → nat_le 2 (once b + n) ≡ (nat_le 2 n || (b && nat_le 1 n))
two_before b n = ap (nat_le 2) (let e : once b + n ≡ n + once b = omega arith in e) ∙ two_of n b

pub none_of : (n : ℕ) → not (nat_le 1 n) ≡ (n == 0)
none_of zero = refl
none_of (suc n) = ap not (le-leb 1 (suc n) (omega arith)) ∙ sym (ne_eqb (suc n) 0 (λ e. absurd (omega (arith, e))))

or_swap : (a b c : Bool) → ((a || b) || c) ≡ ((a || c) || b)
or_swap true b c = refl
or_swap false true true = refl
or_swap false true false = refl
or_swap false false true = refl
or_swap false false false = refl

and_three : (a b c : Bool) → (a && (b && c)) ≡ ((a && c) && b)
and_three true true true = refl
and_three true true false = refl
and_three true false true = refl
and_three true false false = refl
and_three false b c = refl

lowest_of : (z a b : Bool) → ((z && a) || (b && z)) ≡ (z && (a || b))
lowest_of true true b = refl
lowest_of true false true = refl
lowest_of true false false = refl
lowest_of false a true = refl
lowest_of false a false = refl

pub bit_of_one : (i : ℕ) → bit_at 1 i ≡ (i == 0)
bit_of_one zero = refl
bit_of_one (suc i) = bit-above 1 1 (suc i) (let h : 1 < 2 ^ 1 = omega arith in h) (omega arith) ∙ sym (ne_eqb (suc i) 0 (λ e. absurd (omega (arith, e))))

pub within : (n i : ℕ) → i < n → is_within 0 n i ≡ true
within n i l = ap₂ (λ a b. not a && b) (le-ltb i 0 (omega arith)) (lt-ltb i (0 + n) (omega (arith, l)))

-- ---- one more driver

pub counts-none : (wid : ℕ → ℕ) (d : Drivers) → ((s i : ℕ) → bits_in d.once s i ≡ false) → ((s i : ℕ) → bits_in d.twice s i ≡ false) → ((s i : ℕ) → bits_in d.by_process s i ≡ false)
    → Counts wid d (λ s i. 0) (λ s. 0)
counts-none wid d e f g = record { driven = λ s i l m. e s i; doubly = λ s i l m. f s i; assigning = λ s i m. g s i ∙ sym (and-no (i == 0)) }

-- what is added where the mask is empty
pub adds-nothing : (m : Masks) (sig mask : ℕ) → mask ≡ 0 → Adds m m (λ s i. (s == sig) && bit_at mask i)
adds-nothing m sig mask z s i l = sym (or-false (bits_in m s i)) ∙ ap (λ b. bits_in m s i || b) (sym (ap (λ n. (s == sig) && bit_at n i) z ∙ ap (λ b. (s == sig) && b) (bit-zero i) ∙ and-no (s == sig)))

pub one-more : (wid : ℕ → ℕ) (old : Drivers) (first second : Masks) (sig mask again : ℕ)
    → ((i : ℕ) → i < 64 → bit_at again i ≡ (bits_in old.once sig i && bit_at mask i))
    → Adds old.twice second (λ s i. (s == sig) && bit_at again i) → Adds old.once first (λ s i. (s == sig) && bit_at mask i)
    → CountsMore wid old (record { once = first; twice = second; by_process = old.by_process }) (λ s i. once ((s == sig) && bit_at mask i)) (λ s. 0)
one-more wid old first second sig mask again e h k = record {
  counts = λ t p c. record {
    driven = λ s i l m. k s i m ∙ ap (λ a. a || ((s == sig) && bit_at mask i)) (c.driven s i l m) ∙ sym (one_of (t s i) ((s == sig) && bit_at mask i));
    doubly = λ s i l m.
        let b = (s == sig) && bit_at mask i in
        let also : ((s == sig) && bit_at again i) ≡ (b && nat_le 1 (t s i)) =
        at_signal s sig (bit_at again i) (λ x. bits_in old.once x i && bit_at mask i) (e i m) ∙ and_three (s == sig) (bits_in old.once s i) (bit_at mask i) ∙ ap (λ a. b && a) (c.driven s i l m) in
        h s i m ∙ ap₂ (λ a d. a || d) (c.doubly s i l m) also ∙ or_swap (nat_le 2 (t s i)) (nat_le 2 (p s)) (b && nat_le 1 (t s i))
        ∙ ap₂ (λ a n. a || nat_le 2 n) (sym (two_of (t s i) b)) (add-none (p s));
    assigning = λ s i m. c.assigning s i m ∙ ap (λ n. (i == 0) && nat_le 1 n) (add-none (p s));
  };
}

pub once-more : (old : Drivers) (sig mask : ℕ) (of : ℕ) (again : ℕ) → ((i : ℕ) → bit_at again i ≡ (bit_at of i && bit_at mask i)) → ((i : ℕ) → i < 64 → bit_at of i ≡ bits_in old.once sig i)
    → (i : ℕ) → i < 64 → bit_at again i ≡ (bits_in old.once sig i && bit_at mask i)
once-more old sig mask of again e h i l = e i ∙ ap (λ b. b && bit_at mask i) (h i l)

-- ---- one more process

-- the bits that several processes drive, once one more assigns the signal
pub record AreTaken (wid : ℕ → ℕ) (old : Drivers) (sig again : ℕ) : Type 0 where
  pub bits : (t : ℕ → ℕ → ℕ) (p : ℕ → ℕ) → Counts wid old t p → (i : ℕ) → i < 64 → bit_at again i ≡ (nat_le 1 (p sig) && is_within 0 (wid sig) i)

pub one-process : (wid : ℕ → ℕ) (old : Drivers) (second by : Masks) (sig again : ℕ) → AreTaken wid old sig again
    → Adds old.twice second (λ s i. (s == sig) && bit_at again i) → Adds old.by_process by (λ s i. (s == sig) && bit_at 1 i)
    → CountsMore wid old (record { once = old.once; twice = second; by_process = by }) (λ s i. 0) (λ s. once (s == sig))
one-process wid old second by sig again e h k = record {
  counts = λ t p c. record {
    driven = λ s i l m. c.driven s i l m ∙ ap (nat_le 1) (add-none (t s i));
    doubly = λ s i l m.
        let b = s == sig in
        let also : (b && bit_at again i) ≡ (b && nat_le 1 (p s)) =
        at_signal s sig (bit_at again i) (λ x. nat_le 1 (p x) && is_within 0 (wid x) i) (e.bits t p c i m) ∙ ap (λ a. b && (nat_le 1 (p s) && a)) (within (wid s) i l) ∙ ap (λ a. b && a) (and-yes (nat_le 1 (p s))) in
        h s i m ∙ ap₂ (λ a d. a || d) (c.doubly s i l m) also ∙ or_assoc (nat_le 2 (t s i)) (nat_le 2 (p s)) (b && nat_le 1 (p s))
        ∙ ap₂ (λ n a. nat_le 2 n || a) (add-none (t s i)) (sym (two_of (p s) b));
    assigning = λ s i m. k s i m ∙ ap₂ (λ a d. a || ((s == sig) && d)) (c.assigning s i m) (bit_of_one i) ∙ lowest_of (i == 0) (nat_le 1 (p s)) (s == sig)
        ∙ ap (λ a. (i == 0) && a) (sym (one_of (p s) (s == sig)));
  };
}

-- a signal that no process assigns has no entry
pub not-taken : (wid : ℕ → ℕ) (old : Drivers) (sig of : ℕ) → ((i : ℕ) → i < 64 → bit_at of i ≡ bits_in old.by_process sig i) → of ≡ 0 → AreTaken wid old sig 0
not-taken wid old sig of h z = record {
  bits = λ t p c i m.
      let none : nat_le 1 (p sig) ≡ false = sym (c.assigning sig 0 (omega arith)) ∙ sym (h 0 (omega arith)) ∙ ap (λ n. bit_at n 0) z in
      bit-zero i ∙ sym (ap (λ b. b && is_within 0 (wid sig) i) none);
}

pub all-taken : (wid : ℕ → ℕ) (old : Drivers) (sig of again : ℕ) → of < 2 ^ 64 → ((i : ℕ) → i < 64 → bit_at of i ≡ bits_in old.by_process sig i) → of ≢ 0
    → ((i : ℕ) → i < 64 → bit_at again i ≡ is_within 0 (wid sig) i) → AreTaken wid old sig again
all-taken wid old sig of again fits h z e = record { bits = λ t p c i m. e i m ∙ sym (ap (λ b. b && is_within 0 (wid sig) i) (some t p c (nat_le 1 (p sig)) refl)) }
  where
    some : (t : ℕ → ℕ → ℕ) (p : ℕ → ℕ) → Counts wid old t p → (b : Bool) → nat_le 1 (p sig) ≡ b → nat_le 1 (p sig) ≡ true
    some t p c true f = f
    some t p c false f = absurd (z (word-same 64 of 0 fits (omega arith) (λ i m. h i m ∙ c.assigning sig i m ∙ ap (λ b. (i == 0) && b) f ∙ and-no (i == 0) ∙ sym (bit-zero i))))

-- ---- the signals of a process, each once

pub not_among : (x : ℕ) (xs : List ℕ) → AllByRecursion (λ y. nat_eq x y ≡ false) xs → is_among xs x ≡ false
not_among x [] h = refl
not_among x (y ∷ ys) h = ap₂ (λ a b. a || b) h.0 (not_among x ys h.1)

-- one signal, and those after it
pub among-split : (x s : ℕ) (more : List ℕ) (b : Bool) → is_among more x ≡ false → once (((s == x) || is_among more s) && b) ≡ once ((s == x) && b) + once (is_among more s && b)
among-split x s more b h = by_same (λ t. once ((t || is_among more s) && b) ≡ once (t && b) + once (is_among more s && b)) s x
    (λ same. let none : is_among more s ≡ false = ap (is_among more) same ∙ h in add-none (once b) ∙ ap (λ a. once b + once (a && b)) (sym none))
    (λ n. let z : once (is_among more s && b) ≡ 0 + once (is_among more s && b) = omega arith in z)

pub among-first : (x s : ℕ) (more : List ℕ) → is_among more x ≡ false → once ((s == x) || is_among more s) ≡ once (s == x) + once (is_among more s)
among-first x s more h = by_same (λ t. once (t || is_among more s) ≡ once t + once (is_among more s)) s x
    (λ same. let none : is_among more s ≡ false = ap (is_among more) same ∙ h in ap (λ a. 1 + once a) (sym none))
    (λ n. let z : once (is_among more s) ≡ 0 + once (is_among more s) = omega arith in z)

-- what a process may assign is of a signal that it assigns
pub of_process : (wid : ℕ → ℕ) (body : Stmt) (s i : ℕ) → (assigns body s && may_assign wid body s i) ≡ may_assign wid body s i
of_process wid body s i = go (assigns body s) refl
  where
    go : (b : Bool) → assigns body s ≡ b → (b && may_assign wid body s i) ≡ may_assign wid body s i
    go true e = refl
    go false e = sym (not_assigned wid s body i e)

-- ---- the parts of a target

module _ (wid : ℕ → ℕ) (a b : Drivers) (sig mask : ℕ) where
  pub drives-whole : ((i : ℕ) → i < 64 → bit_at mask i ≡ is_within 0 (wid sig) i) → CountsMore wid a b (λ s i. once ((s == sig) && bit_at mask i)) (λ s. 0)
      → CountsMore wid a b (λ s i. once ((s == sig) && is_within 0 (wid sig) i)) (λ s. 0)
  drives-whole e h = more-same wid a b (λ s i. once ((s == sig) && bit_at mask i)) (λ s i. once ((s == sig) && is_within 0 (wid sig) i)) (λ s. 0) (λ s. 0)
      (record { at = λ s i l m. ap (λ x. once ((s == sig) && x)) (e i m) }) (λ s. refl) h

  pub drives-part : (at w : ℕ) → ((i : ℕ) → bit_at mask i ≡ (nat_lt i 64 && is_within at w i)) → CountsMore wid a b (λ s i. once ((s == sig) && bit_at mask i)) (λ s. 0)
      → CountsMore wid a b (λ s i. once ((s == sig) && is_within at w i)) (λ s. 0)
  drives-part at w e h = more-same wid a b (λ s i. once ((s == sig) && bit_at mask i)) (λ s i. once ((s == sig) && is_within at w i)) (λ s. 0) (λ s. 0)
      (record { at = λ s i l m. ap (λ x. once ((s == sig) && x)) (e i ∙ ap (λ x. x && is_within at w i) (lt-ltb i 64 m)) }) (λ s. refl) h

-- ---- all drivers of a design

pub all-counted : (f : Flat) (a b c d : Drivers) → Counts (size_in f) a (λ s i. 0) (λ s. 0)
    → CountsMore (size_in f) a b (λ s i. times_assigned (size_in f) s i f.assigns) (λ s. 0)
    → CountsMore (size_in f) b c (λ s i. times_processed (size_in f) s i f.combs) (λ s. assigned_by f.combs s)
    → CountsMore (size_in f) c d (λ s i. once (is_clocked f s)) (λ s. once (is_clocked f s))
    → Counts (size_in f) d (all_drivers f) (λ s. assigned_by f.combs s + once (is_clocked f s))
all-counted f a b c d none first second third =
    let t = λ (s i : ℕ). times_assigned (size_in f) s i f.assigns in
    let u = λ (s i : ℕ). times_processed (size_in f) s i f.combs in
    let v = λ (s : ℕ). once (is_clocked f s) in
    let p = λ (s : ℕ). assigned_by f.combs s in
    counts-same (size_in f) d (λ s i. 0 + t s i + u s i + v s) (all_drivers f) (λ s. 0 + 0 + p s + v s) (λ s. p s + v s)
    (record { at = λ s i l m. front (t s i) (u s i) (v s) }) (λ s. behind (p s) (v s))
    (third.counts (λ s i. 0 + t s i + u s i) (λ s. 0 + 0 + p s) (second.counts (λ s i. 0 + t s i) (λ s. 0 + 0) (first.counts (λ s i. 0) (λ s. 0) none)))
  where
    front : (x y z : ℕ) → 0 + x + y + z ≡ x + y + z
    front x y z = omega arith

    behind : (x y : ℕ) → 0 + 0 + x + y ≡ x + y
    behind x y = omega arith

-- some clocked process assigns the signal
pub some-assigns : (ps : List (ℕ × Stmt)) (s : ℕ) → list_any (λ (p : ℕ × Stmt). assigns p.1 s) ps ≡ nat_le 1 (assigned_by (map (λ (p : ℕ × Stmt). p.1) ps) s)
some-assigns [] s = refl
some-assigns (p ∷ ps) s = ap (λ b. assigns p.1 s || b) (some-assigns ps s) ∙ sym (one_before (assigns p.1 s) (assigned_by (map (λ (q : ℕ × Stmt). q.1) ps) s))

-- ---- the signals of a process, one after another

zero-add : (n : ℕ) → n ≡ 0 + n
zero-add n = omega arith

-- the process drives those bits of each of its signals
abbrev pub driven_of : (b : Bits) → List ℕ → ℕ → ℕ → ℕ
driven_of b xs s i = once (is_among xs s && b s i)

abbrev pub assigning_of : List ℕ → ℕ → ℕ
assigning_of xs s = once (is_among xs s)

pub wires-turn : (wid : ℕ → ℕ) (old now mid new : Drivers) (b : Bits) (all : List ℕ) (k x mask : ℕ) → drop k all ≡ x ∷ drop (k + 1) all → ((i : ℕ) → i < 64 → bit_at mask i ≡ b x i)
    → IsDistinct nat_eq (drop k all) → Reached wid old now (driven_of b (drop k all)) (driven_of b all) (assigning_of (drop k all)) (assigning_of all)
    → CountsMore wid now mid (λ s i. 0) (λ s. once (s == x)) → CountsMore wid mid new (λ s i. once ((s == x) && bit_at mask i)) (λ s. 0)
    → IsDistinct nat_eq (drop (k + 1) all) × Reached wid old new (driven_of b (drop (k + 1) all)) (driven_of b all) (assigning_of (drop (k + 1) all)) (assigning_of all)
wires-turn wid old now mid new b all k x mask next e dist h p q =
    let rest = drop (k + 1) all in
    let d : IsDistinct nat_eq (x ∷ rest) = subst (IsDistinct nat_eq) next dist in
    let apart : is_among rest x ≡ false = not_among x rest (IsDistinct-head nat_eq x rest d) in (
      IsDistinct-tail nat_eq x rest d,
      reached-step wid old now new (driven_of b all) (driven_of b rest) (driven_of b (x ∷ rest)) (λ s i. 0 + once ((s == x) && bit_at mask i)) (assigning_of all) (assigning_of rest) (assigning_of (x ∷ rest)) (λ s. once (s == x) + 0)
          (record { at = λ s i l m. among-split x s rest (b s i) apart ∙ ap (λ n. n + once (is_among rest s && b s i)) (ap once (sym (at_signal s x (bit_at mask i) (λ z. b z i) (e i m))) ∙ zero-add (once ((s == x) && bit_at mask i))) })
          (λ s. among-first x s rest apart ∙ ap (λ n. n + once (is_among rest s)) (add-none (once (s == x))))
          (subst (λ (xs : List ℕ). Reached wid old now (driven_of b xs) (driven_of b all) (assigning_of xs) (assigning_of all)) next h)
          (more-then wid now mid new (λ s i. 0) (λ s i. once ((s == x) && bit_at mask i)) (λ s. once (s == x)) (λ s. 0) p q),
    )

-- all bits of a signal are those that there are
pub all-driven : (wid : ℕ → ℕ) (old now : Drivers) (xs : List ℕ) → CountsMore wid old now (driven_of (λ s i. is_within 0 (wid s) i) xs) (assigning_of xs) → CountsMore wid old now (λ s i. once (is_among xs s)) (assigning_of xs)
all-driven wid old now xs h = more-same wid old now (driven_of (λ s i. is_within 0 (wid s) i) xs) (λ s i. once (is_among xs s)) (assigning_of xs) (assigning_of xs)
    (record { at = λ s i l m. ap once (ap (λ t. is_among xs s && t) (within (wid s) i l) ∙ and-yes (is_among xs s)) }) (λ s. refl) h
