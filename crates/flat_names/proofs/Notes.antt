-- Notes of broken rules: in groups, again, and in another order.
use Rattle.std.proofs.Common.{◌≡◌, ◌≢◌, ℕ, suc, ◌||◌, Bool, true, false, cond, ◌==◌, nat_lt, List, [], ◌∷◌, ◌++◌, Option, Some, None, refl, sym, ap, subst, ◌∙◌, arith, eqb-true}
use Rattle.flat_meaning.proofs.Words.{by_lt, never}
use Rattle.flat_unfolding.specs.Outcome as o
use Rattle.flat_unfolding.specs.Outcome.{Broken, breaks_if, as_listed}
use Rattle.flat_names.specs.declared.fault.Order.{Order}
use Rattle.flat_names.specs.declared.fault.Order.TheVariants as k
use Rattle.flat_names.specs.Noting.{order_of, Noted, first_of, noted, all_noted}
use Rattle.flat_names.specs.Pieces.{EachIs, out_of_range}

pub noted-both : (f : Noted) (bs cs : List Broken) → all_noted f (bs ++ cs) ≡ all_noted (all_noted f bs) cs
noted-both f [] cs = refl
noted-both f (b ∷ bs) cs = noted-both (noted f b) bs cs

pub then-noted : (f g h : Noted) (bs cs : List Broken) → g ≡ all_noted f bs → h ≡ all_noted g cs → h ≡ all_noted f (bs ++ cs)
then-noted f g h bs cs d e = e ∙ ap (λ x. all_noted x cs) d ∙ sym (noted-both f bs cs)

same-cond : {A : Type 0} (t : Bool) (a : A) → cond t a a ≡ a
same-cond true a = refl
same-cond false a = refl

again-by : (order : o.Order) (a b : Broken) (t : Bool) → t ≡ nat_lt (order b.number) (order a.number)
    → cond (nat_lt (order b.number) (order (cond t b a).number)) b (cond t b a) ≡ cond t b a
again-by order a b true h = same-cond (nat_lt (order b.number) (order b.number)) b
again-by order a b false h = ap (λ t. cond t b a) (sym h)

first-again : (order : o.Order) (m : Option Broken) (b : Broken) → first_of order (Some (first_of order m b)) b ≡ first_of order m b
first-again order None b = same-cond (nat_lt (order b.number) (order b.number)) b
first-again order (Some a) b = again-by order a b (nat_lt (order b.number) (order a.number)) refl

pub noted-again : (f : Noted) (b : Broken) → noted (noted f b) b ≡ noted f b
noted-again f b = ap (λ x. record { order = f.order; found = Some x }) (first-again (order_of f.order) f.found b)

-- breaks of one rule, of which there is at least one, count as one
pub noted-once : (f : Noted) (b : Broken) (bs : List Broken) → EachIs (λ c. c ≡ b) bs → all_noted (noted f b) bs ≡ noted f b
noted-once f b [] h = refl
noted-once f b (c ∷ cs) h = ap (λ x. all_noted (noted (noted f b) x) cs) h.0 ∙ ap (λ x. all_noted x cs) (noted-again f b) ∙ noted-once f b cs h.1

-- two reasons to break E307 are one break
pub noted-either : (f : Noted) (a b : Bool) → all_noted f (breaks_if (a || b) 307 []) ≡ all_noted (all_noted f (breaks_if a 307 [])) (breaks_if b 307 [])
noted-either f true true = sym (noted-again f out_of_range)
noted-either f true false = refl
noted-either f false b = refl

-- ---- another order

first-apart : (order : o.Order) (m : Option Broken) (a b : Broken) → order a.number ≢ order b.number
    → first_of order (Some (first_of order m a)) b ≡ first_of order (Some (first_of order m b)) a
first-apart order None a b h =
    by_lt (λ t. cond t b a ≡ cond (nat_lt (order a.number) (order b.number)) a b) (order b.number) (order a.number)
    (λ less. by_lt (λ s. b ≡ cond s a b) (order a.number) (order b.number) (λ more. absurd (omega arith)) (λ more. refl))
    (λ less. by_lt (λ s. a ≡ cond s a b) (order a.number) (order b.number) (λ more. refl) (λ more. absurd (h (omega arith))))
first-apart order (Some c) a b h =
    let x = order a.number in let y = order b.number in let z = order c.number in
    by_lt (λ s. cond (nat_lt y (order (cond s a c).number)) b (cond s a c) ≡ cond (nat_lt x (order (cond (nat_lt y z) b c).number)) a (cond (nat_lt y z) b c)) x z
    (λ xz. by_lt (λ t. cond (nat_lt y x) b a ≡ cond (nat_lt x (order (cond t b c).number)) a (cond t b c)) y z
    (λ yz. by_lt (λ t. cond t b a ≡ cond (nat_lt x y) a b) y x
    (λ yx. by_lt (λ s. b ≡ cond s a b) x y (λ xy. absurd (omega arith)) (λ xy. refl))
    (λ yx. by_lt (λ s. a ≡ cond s a b) x y (λ xy. refl) (λ xy. absurd (h (omega arith)))))
    (λ yz. by_lt (λ t. cond t b a ≡ cond (nat_lt x z) a c) y x (λ yx. absurd (omega arith)) (λ yx. by_lt (λ s. a ≡ cond s a c) x z (λ l. refl) (λ l. absurd (omega arith)))))
    (λ xz. by_lt (λ t. cond (nat_lt y z) b c ≡ cond (nat_lt x (order (cond t b c).number)) a (cond t b c)) y z
    (λ yz. by_lt (λ t. cond t b c ≡ cond (nat_lt x y) a b) y z (λ l. by_lt (λ s. b ≡ cond s a b) x y (λ xy. absurd (omega arith)) (λ xy. refl)) (λ l. absurd (omega arith)))
    (λ yz. by_lt (λ t. cond t b c ≡ cond (nat_lt x z) a c) y z (λ l. absurd (omega arith)) (λ l. by_lt (λ s. c ≡ cond s a c) x z (λ m. absurd (omega arith)) (λ m. refl))))

-- what stands where E307 stands in the order is E307 as expressions break it
abbrev pub IsApart : o.Order → Broken → Type 0
IsApart order b = order b.number ≡ order 307 → b ≡ out_of_range

noted-swap : (f : Noted) (b : Broken) → IsApart (order_of f.order) b → noted (noted f out_of_range) b ≡ noted (noted f b) out_of_range
noted-swap f b h =
    let order = order_of f.order in
    let apart : order 307 ≢ order b.number → noted (noted f out_of_range) b ≡ noted (noted f b) out_of_range =
    λ d. ap (λ x. record { order = f.order; found = Some x }) (first-apart order f.found out_of_range b d) in
    by_lt (λ _. noted (noted f out_of_range) b ≡ noted (noted f b) out_of_range) (order 307) (order b.number) (λ l. apart (λ e. absurd (omega arith)))
    (λ g. by_lt (λ _. noted (noted f out_of_range) b ≡ noted (noted f b) out_of_range) (order b.number) (order 307) (λ l. apart (λ e. absurd (omega arith)))
    (λ k. let e = h (omega arith) in subst (λ c. noted (noted f out_of_range) c ≡ noted (noted f c) out_of_range) (sym e) refl))

noted-moved : (f : Noted) (bs : List Broken) → EachIs (IsApart (order_of f.order)) bs → all_noted (noted f out_of_range) bs ≡ noted (all_noted f bs) out_of_range
noted-moved f [] h = refl
noted-moved f (b ∷ bs) h = ap (λ x. all_noted x bs) (noted-swap f b h.0) ∙ noted-moved (noted f b) bs h.1

all-moved : (f : Noted) (es bs : List Broken) → EachIs (λ a. a ≡ out_of_range) es → EachIs (IsApart (order_of f.order)) bs → all_noted (all_noted f es) bs ≡ all_noted (all_noted f bs) es
all-moved f [] bs h k = refl
all-moved f (a ∷ es) bs h k = all-moved (noted f a) es bs h.1 k ∙ ap (λ x. all_noted x es) (subst (λ c. all_noted (noted f c) bs ≡ noted (all_noted f bs) c) (sym h.0) (noted-moved f bs k))

-- ---- orders

listed-by : (ms : List ℕ) (m x y : ℕ) (s t : Bool) → (x == m) ≡ s → (y == m) ≡ t → (as_listed ms x ≡ as_listed ms y → x ≡ y)
    → cond s 0 (suc (as_listed ms x)) ≡ cond t 0 (suc (as_listed ms y)) → x ≡ y
listed-by ms m x y true true hs ht next e = eqb-true x m hs ∙ sym (eqb-true y m ht)
listed-by ms m x y true false hs ht next e = never _ e
listed-by ms m x y false true hs ht next e = never _ (sym e)
listed-by ms m x y false false hs ht next e = next (omega arith)

listed-one : (ms : List ℕ) (x y : ℕ) → as_listed ms x ≡ as_listed ms y → x ≡ y
listed-one [] x y e = e
listed-one (m ∷ ms) x y e = listed-by ms m x y (x == m) (y == m) refl refl (listed-one ms x y) e

order-one : (k : Order) (x y : ℕ) → order_of k x ≡ order_of k y → x ≡ y
order-one k.Parameter x y e = listed-one (305 ∷ 304 ∷ 307 ∷ 308 ∷ []) x y e
order-one k.Declaration x y e = listed-one (304 ∷ 305 ∷ 306 ∷ 319 ∷ 307 ∷ 308 ∷ []) x y e
order-one k.Other x y e = e

-- E307 is always told in one way
abbrev pub IsOne : Broken → Type 0
IsOne b = b.number ≡ 307 → b ≡ out_of_range

all-apart : (k : Order) (bs : List Broken) → EachIs IsOne bs → EachIs (IsApart (order_of k)) bs
all-apart k [] h = tt
all-apart k (b ∷ bs) h = (λ e. h.0 (order-one k b.number 307 e), all-apart k bs h.1)

-- breaks of E307 may be noted behind those that stand behind them
pub noted-late : (f : Noted) (es bs : List Broken) → EachIs (λ a. a ≡ out_of_range) es → EachIs IsOne bs → all_noted (all_noted f bs) es ≡ all_noted (all_noted f es) bs
noted-late f es bs h k = sym (all-moved f es bs h (all-apart f.order bs k))
