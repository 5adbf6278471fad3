-- The first bit that breaks a rule, and how trials of drivers end.
use Rattle.std.proofs.Common.{◌≡◌, ℕ, zero, suc, ◌+◌, ◌<◌, ◌≤◌, Bool, true, false, cond, not, ◌&&◌, ◌||◌, ◌==◌, nat_le, nat_lt, List, [], ◌∷◌, ◌++◌, map, drop, length, get_or, Option, Some, None, Result, Ok, Err, bit_and, refl, sym, ap, ap₂, subst, ◌∙◌, arith, lt-ltb, ltb-true, true≢false}
use Rattle.std.specs.Prelude.{All}
use Rattle.std.proofs.Math.Path.{fun_ext}
use Rattle.std.proofs.lemmas.List.{drop_more, drop_all}
use Rattle.std.proofs.lemmas.List.Elements.{All-head, All-tail}
use Rattle.cdc_base.specs.declared.signal.Signal.{Signal}
use Rattle.cdc_base.specs.declared.signal.SigKind.{SigKind}
use Rattle.cdc_base.specs.declared.fault.Stop.{Stop}
use Rattle.cdc_base.specs.declared.fault.Stop.TheVariants.{Refused, Memory}
use Rattle.cdc_base.specs.Bits.{bit_text}
use Rattle.cell_graph.specs.Tree.{bit_at}
use Rattle.cell_graph.proofs.Words.{bit_and-bit, bit-zero}
use Rattle.flat_meaning.specs.Flat.{Expr, Target, Stmt}
use Rattle.flat_meaning.specs.Assigned.{is_within}
use Rattle.flat_meaning.specs.Design.{Flat, width_in, size_in, once, times_assigned, times_processed}
use Rattle.flat_unfolding.specs.Outcome.{Outcome, good, bad, then_}
use Rattle.flat_unfolding.specs.Reads.{first_from}
use Rattle.flat_unfolding.specs.Drivers.{assigned_by, bodies, is_clocked, processes, times_driven, have_other_edges, all_drivers, is_double, is_read, is_undriven, is_from_outside, refuse_bit, refuse_first, driven_once}
use Rattle.flat_form.specs.declared.masks.Masks.{Masks}
use Rattle.flat_form.specs.Masks.{bits_in}
use Rattle.flat_drivers.specs.declared.drivers.Drivers.{Drivers}
use Rattle.flat_drivers.specs.Clocked.{is_shared_bit}
use Rattle.flat_drivers.specs.Driving.{Counts, Meets, Tries, IsMarked, AreMarked, IsFinished, assigns_read, bodies_read, clocks_read}
use Rattle.flat_drivers.proofs.Counted.{by_same, by_le, within, none_of}

pub none_first : (p : ℕ → Bool) (n more : ℕ) → ((i : ℕ) → i < more → p (n + i) ≡ false) → first_from p n more ≡ None
none_first p n zero h = refl
none_first p n (suc more) h =
    let here : p n ≡ false = ap p (let e : n ≡ n + 0 = omega arith in e) ∙ h 0 (omega arith) in
    ap (λ b. cond b (Some n) (first_from p (suc n) more)) here
    ∙ none_first p (suc n) more (λ i l. ap p (let e : suc n + i ≡ n + suc i = omega arith in e) ∙ h (suc i) (omega (arith, l)))

pub some_first : (p : ℕ → Bool) (n more k : ℕ) → k < more → p (n + k) ≡ true → ((i : ℕ) → i < k → p (n + i) ≡ false) → first_from p n more ≡ Some (n + k)
some_first p n zero k l e h = absurd (omega (arith, l))
some_first p n (suc more) zero l e h =
    let z : n ≡ n + 0 = omega arith in
    ap (λ b. cond b (Some n) (first_from p (suc n) more)) (ap p z ∙ e) ∙ ap Some z
some_first p n (suc more) (suc k) l e h =
    let here : p n ≡ false = ap p (let e : n ≡ n + 0 = omega arith in e) ∙ h 0 (omega arith) in
    let z : suc n + k ≡ n + suc k = omega arith in
    ap (λ b. cond b (Some n) (first_from p (suc n) more)) here
    ∙ some_first p (suc n) more k (omega (arith, l)) (ap p z ∙ e) (λ i m. ap p (let e : suc n + i ≡ n + suc i = omega arith in e) ∙ h (suc i) (omega (arith, m)))
    ∙ ap Some z

first_same : (p q : ℕ → Bool) (n more : ℕ) → ((i : ℕ) → p i ≡ q i) → first_from p n more ≡ first_from q n more
first_same p q n zero h = refl
first_same p q n (suc more) h = ap₂ (λ b o. cond b (Some n) o) (h n) (first_same p q (suc n) more h)

-- ---- the lowest bit of a mask

module _ (fails : ℕ → Bool) (w mask low bits : ℕ) (small : w ≤ 64) (is : (i : ℕ) → i < w → bit_at mask i ≡ fails i)
    (ones : (i : ℕ) → bit_at low i ≡ (nat_lt i 64 && is_within 0 w i)) (both : bits ≡ bit_and mask low) where
  inside : (i : ℕ) → i < w → bit_at bits i ≡ fails i
  inside i l = ap (λ n. bit_at n i) both ∙ bit_and-bit mask low i ∙ ap (λ b. bit_at mask i && b) (ones i ∙ ap₂ (λ a b. a && b) (lt-ltb i 64 (omega arith)) (within w i l)) ∙ yes_ (bit_at mask i) ∙ is i l
    where
      yes_ : (b : Bool) → (b && true) ≡ b
      yes_ true = refl
      yes_ false = refl

  outside : (i : ℕ) → bit_at bits i ≡ true → i < w
  outside i e = go (nat_lt i (0 + w)) refl
    where
      no : (a b c : Bool) → c ≡ false → (a && (b && (not (nat_lt i 0) && c))) ≡ false
      no true true c z = ap (λ x. not (nat_lt i 0) && x) z ∙ last (not (nat_lt i 0))
        where
          last : (x : Bool) → (x && false) ≡ false
          last true = refl
          last false = refl
      no true false c z = refl
      no false b c z = refl

      go : (b : Bool) → nat_lt i (0 + w) ≡ b → i < w
      go true f = let l = ltb-true i (0 + w) f in omega arith
      go false f = absurd (true≢false (sym e ∙ ap (λ n. bit_at n i) both ∙ bit_and-bit mask low i ∙ ap (λ b. bit_at mask i && b) (ones i) ∙ no (bit_at mask i) (nat_lt i 64) (nat_lt i (0 + w)) f))

  pub none-fails : bits ≡ 0 → first_from fails 0 w ≡ None
  none-fails z = none_first fails 0 w (λ i l. ap fails (let e : 0 + i ≡ i = omega arith in e) ∙ sym (inside i l) ∙ ap (λ n. bit_at n i) z ∙ bit-zero i)

  pub first-fails : (k : ℕ) → bit_at bits k ≡ true → ((i : ℕ) → i < k → bit_at bits i ≡ false) → first_from fails 0 w ≡ Some k
  first-fails k e h =
      let l : k < w = outside k e in let z : 0 + k ≡ k = omega arith in
      some_first fails 0 w k l (ap fails z ∙ sym (inside k l) ∙ e) (λ i m. ap fails (let e : 0 + i ≡ i = omega arith in e) ∙ sym (inside i (omega (arith, m, l))) ∙ h i m) ∙ ap Some z

-- ---- steps and their ends

pub tries-none : (rule : ℕ) (x : Signal) (o : Option ℕ) → o ≡ None → Tries (refuse_bit rule x o) (Ok tt)
tries-none rule x o e later = ap (λ z. refuse_bit rule x z later) e

pub tries-some : (rule : ℕ) (x : Signal) (o : Option ℕ) (k : ℕ) (name : List ℕ) → o ≡ Some k → name ≡ bit_text x k
    → Tries (refuse_bit rule x o) (Err (Refused (record { number = rule; place = Some x.place; name = name })))
tries-some rule x o k name e is later = ap (λ z. refuse_bit rule x z later) e ∙ ap (λ n. bad (record { number = rule; place = Some x.place; name = n })) (sym is)

pub passes : (o later : Outcome (Unit {0})) (step : Outcome (Unit {0}) → Outcome (Unit {0})) → o ≡ step later → Tries step (Ok tt) → o ≡ later
passes o later step e h = e ∙ h later

pub meets-stop : (o later : Outcome (Unit {0})) (step : Outcome (Unit {0}) → Outcome (Unit {0})) (e : Stop) → o ≡ step later → Tries step (Err e) → Meets o (Err e)
meets-stop o later step (Refused fault) e h = e ∙ h later
meets-stop o later step Memory e h = tt

pub meets-first : (o : Outcome (Unit {0})) (k : Unit {0} → Outcome (Unit {0})) (e : Stop) → Meets o (Err e) → Meets (then_ o k) (Err e)
meets-first o k (Refused fault) h = ap (λ x. then_ x k) h
meets-first o k Memory h = tt

pub meets-then : (o : Outcome (Unit {0})) (k : Unit {0} → Outcome (Unit {0})) (r : Result (Unit {0}) Stop) → o ≡ good tt → Meets (k tt) r → Meets (then_ o k) r
meets-then o k r e h = subst (λ x. Meets x r) (sym (ap (λ x. then_ x k) e)) h

-- one turn of a trial
pub turn : (rule : ℕ) (p : ℕ → Signal → ℕ → Bool) (xs : List Signal) (n : ℕ) (x : Signal) → n < length xs → x ≡ get_or xs n x
    → refuse_first rule p n (drop n xs) ≡ refuse_bit rule x (first_from (p n x) 0 x.width) (refuse_first rule p (n + 1) (drop (n + 1) xs))
turn rule p xs n x l is =
    ap (refuse_first rule p n) (drop_more xs n x l ∙ ap (λ (y : Signal). y ∷ drop (n + 1) xs) (sym is))
    ∙ ap (λ m. refuse_bit rule x (first_from (p n x) 0 x.width) (refuse_first rule p m (drop (n + 1) xs))) (let e : suc n ≡ n + 1 = omega arith in e)

pub width_here : (xs : List Signal) (n : ℕ) (x : Signal) → n < length xs → x ≡ get_or xs n x → width_in xs n ≡ x.width
width_here [] n x l is = absurd (omega (arith, l))
width_here (y ∷ ys) zero x l is = ap (λ (z : Signal). z.width) (sym is)
width_here (y ∷ ys) (suc n) x l is = width_here ys n x (omega (arith, l)) is

pub trial-end : (rule : ℕ) (p : ℕ → Signal → ℕ → Bool) (xs : List Signal) (n : ℕ) → length xs ≤ n → refuse_first rule p 0 xs ≡ refuse_first rule p n (drop n xs) → refuse_first rule p 0 xs ≡ good tt
trial-end rule p xs n l e = e ∙ ap (refuse_first rule p n) (drop_all n xs l)

-- the bits that are read and have no driver
pub wanting : (k : SigKind) (w reads drives mask : ℕ) (read : ℕ → Bool) (times : ℕ → ℕ) → w ≤ 64
    → ((i : ℕ) → i < 64 → bit_at mask i ≡ (not (is_from_outside k) && bit_at reads i && not (bit_at drives i)))
    → ((i : ℕ) → i < w → bit_at reads i ≡ read i) → ((i : ℕ) → i < w → bit_at drives i ≡ nat_le 1 (times i))
    → (i : ℕ) → i < w → bit_at mask i ≡ (not (is_from_outside k) && read i && (times i == 0))
wanting k w reads drives mask read times small is h g i l = is i (omega (arith, l, small))
    ∙ ap₂ (λ a b. not (is_from_outside k) && a && b) (h i l) (ap not (g i l) ∙ none_of (times i))

-- what holds of all signals holds of one
pub one_signal : (P : Signal → Type 0) (xs : List Signal) (n : ℕ) (x : Signal) → All P xs → n < length xs → x ≡ get_or xs n x → P x
one_signal P [] n x h l is = absurd (omega (arith, l))
one_signal P (y ∷ ys) zero x h l is = subst P (sym is) (All-head P y ys h)
one_signal P (y ∷ ys) (suc n) x h l is = one_signal P ys n x (All-tail P y ys h) (omega (arith, l)) is

-- a signal's mask has the bits that a set has of it
pub mask-is : (m : Masks) (sig n word w : ℕ) (xs : List Signal) (p : ℕ → ℕ → Bool) → sig ≡ n → ((i : ℕ) → i < 64 → bit_at word i ≡ bits_in m sig i)
    → ((s i : ℕ) → i < width_in xs s → i < 64 → bits_in m s i ≡ p s i) → width_in xs n ≡ w → w ≤ 64 → (i : ℕ) → i < w → bit_at word i ≡ p n i
mask-is m sig n word w xs p e is h here small i l = let k : i < 64 = omega arith in is i k ∙ ap (λ s. bits_in m s i) e ∙ h n i (let z : i < width_in xs n = omega (arith, here, l) in z) k

-- ---- a design whose registers are marked

marked-width : (b : ℕ → ℕ) (n : ℕ) (xs ys : List Signal) → AreMarked b n xs ys → (s : ℕ) → width_in ys s ≡ width_in xs s
marked-width b n [] [] h s = refl
marked-width b n [] (y ∷ ys) h s = absurd h
marked-width b n (x ∷ xs) [] h s = absurd h
marked-width b n (x ∷ xs) (y ∷ ys) h zero = ap (λ (z : Signal). z.width) h.0.declared
marked-width b n (x ∷ xs) (y ∷ ys) h (suc s) = marked-width b (suc n) xs ys h.1 s

bit-declared : (rule : ℕ) (x y : Signal) (o : Option ℕ) (later : Outcome (Unit {0})) → y ≡ record x { kind = y.kind; known = y.known; start = y.start } → refuse_bit rule y o later ≡ refuse_bit rule x o later
bit-declared rule x y o later e = ap (λ (z : Signal). refuse_bit rule z o later) e ∙ go y.kind y.known y.start o
  where
    go : (k : SigKind) (m s : ℕ) (o : Option ℕ) → refuse_bit rule (record x { kind = k; known = m; start = s }) o later ≡ refuse_bit rule x o later
    go k m s None = refl
    go k m s (Some i) = refl

refuse-same : (rule : ℕ) (p q : ℕ → Signal → ℕ → Bool) (b : ℕ → ℕ) → ((n : ℕ) (x y : Signal) → IsMarked (b n) x y → (i : ℕ) → q n y i ≡ p n x i)
    → (n : ℕ) (xs ys : List Signal) → AreMarked b n xs ys → refuse_first rule q n ys ≡ refuse_first rule p n xs
refuse-same rule p q b e n [] [] h = refl
refuse-same rule p q b e n [] (y ∷ ys) h = absurd h
refuse-same rule p q b e n (x ∷ xs) [] h = absurd h
refuse-same rule p q b e n (x ∷ xs) (y ∷ ys) h =
    bit-declared rule x y (first_from (q n y) 0 y.width) (refuse_first rule q (suc n) ys) h.0.declared
    ∙ ap₂ (λ o l. refuse_bit rule x o l)
    (first_same (q n y) (p n x) 0 y.width (e n x y h.0) ∙ ap (first_from (p n x) 0) (ap (λ (z : Signal). z.width) h.0.declared))
    (refuse-same rule p q b e (suc n) xs ys h.1)

module _ (g f : Flat) (h : IsFinished g f) where
  sizes : size_in f ≡ size_in g
  sizes = fun_ext (λ s. marked-width (assigned_by (bodies g)) 0 g.signals f.signals h.signals s)

  parts-same : {A : Type 0} (r : (ℕ → ℕ) → List (Target × Expr) → List Stmt → List (ℕ × Stmt) → A) → r (size_in f) f.assigns f.combs f.clocked ≡ r (size_in g) g.assigns g.combs g.clocked
  parts-same r = ap (λ w. r w f.assigns f.combs f.clocked) sizes ∙ ap (λ a. r (size_in g) a f.combs f.clocked) h.assigns ∙ ap₂ (λ c k. r (size_in g) g.assigns c k) h.combs h.clocked

  drivers-same : (s i : ℕ) → all_drivers f s i ≡ all_drivers g s i
  drivers-same s i = parts-same (λ w a c k. times_assigned w s i a + times_processed w s i c + once (nat_le 1 (assigned_by (map (λ (p : ℕ × Stmt). p.1) k) s)))

  double-same : (rs : List (Option ℕ × Stmt)) (s i : ℕ) → is_double f rs s i ≡ is_double g rs s i
  double-same rs s i = parts-same (λ w a c k.
      let clocked = once (nat_le 1 (assigned_by (map (λ (p : ℕ × Stmt). p.1) k) s)) in
      nat_le 2 (times_assigned w s i a + times_processed w s i c + clocked) || nat_le 2 (times_driven w (processes k rs) s i) || (nat_le 2 (assigned_by c s + clocked) || have_other_edges (processes k rs) s))

  read-same : (s i : ℕ) → is_read f s i ≡ is_read g s i
  read-same s i = parts-same (λ w a c k. assigns_read w a s i || bodies_read w (c ++ map (λ (p : ℕ × Stmt). p.1) k) s i || clocks_read k s i)

  -- what a clocked process drives wants no other driver, whatever its kind
  wanted : (n d b : ℕ) (u v r : Bool) → (b ≡ 0 → v ≡ u) → n ≡ d + once (nat_le 1 b) → (not v && r && (n == 0)) ≡ (not u && r && (n == 0))
  wanted n d b u v r e is = by_same (λ t. (not v && r && t) ≡ (not u && r && t)) n 0
      (λ z. ap (λ x. not x && r && true) (e (unassigned b (omega (arith, is, z))))) (λ z. no (not v && r) ∙ sym (no (not u && r)))
    where
      no : (x : Bool) → (x && false) ≡ false
      no true = refl
      no false = refl

      unassigned : (k : ℕ) → once (nat_le 1 k) ≡ 0 → k ≡ 0
      unassigned k = by_le (λ t. once t ≡ 0 → k ≡ 0) 1 k (λ l z. absurd (omega (arith, z))) (λ l z. omega (arith, l))

  pub finished : (rs : List (Option ℕ × Stmt)) → driven_once f rs ≡ then_ (refuse_first 309 (λ s x i. is_double g rs s i) 0 g.signals) (λ u. refuse_first 310 (is_undriven g) 0 g.signals)
  finished rs = ap₂ (λ a b. then_ a (λ u. b))
      (refuse-same 309 (λ s x i. is_double g rs s i) (λ s x i. is_double f rs s i) (assigned_by (bodies g)) (λ n x y m i. double-same rs n i) 0 g.signals f.signals h.signals)
      (refuse-same 310 (is_undriven g) (is_undriven f) (assigned_by (bodies g))
      (λ n x y m i. ap₂ (λ r d. not (is_from_outside y.kind) && r && (d == 0)) (read-same n i) (drivers-same n i)
      ∙ wanted (all_drivers g n i) (times_assigned (size_in g) n i g.assigns + times_processed (size_in g) n i g.combs) (assigned_by (bodies g) n) (is_from_outside x.kind) (is_from_outside y.kind) (is_read g n i) m.outside refl)
      0 g.signals f.signals h.signals)

-- ---- two drivers of a bit

four_ways : (all times shared other : Bool) → ((times || other) || (all || shared)) ≡ (all || times || (shared || other))
four_ways true true s o = refl
four_ways true false s true = refl
four_ways true false s false = refl
four_ways false true s o = refl
four_ways false false true true = refl
four_ways false false true false = refl
four_ways false false false true = refl
four_ways false false false false = refl

-- those of clocked processes, and the others
pub all-doubles : (f : Flat) (rs : List (Option ℕ × Stmt)) (d : Drivers) → Counts (size_in f) d (all_drivers f) (λ s. assigned_by f.combs s + once (is_clocked f s))
    → (s i : ℕ) → i < size_in f s → i < 64 → (is_shared_bit (size_in f) (processes f.clocked rs) s i || bits_in d.twice s i) ≡ is_double f rs s i
all-doubles f rs d h s i l m =
    let ps = processes f.clocked rs in
    ap (λ x. is_shared_bit (size_in f) ps s i || x) (h.doubly s i l m)
    ∙ four_ways (nat_le 2 (all_drivers f s i)) (nat_le 2 (times_driven (size_in f) ps s i)) (nat_le 2 (assigned_by f.combs s + once (is_clocked f s))) (have_other_edges ps s)
