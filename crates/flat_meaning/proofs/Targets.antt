-- Assigning to a target keeps trees and values bitwise_xnor.
use Rattle.std.proofs.Common.{◌≡◌, ℕ, zero, suc, ◌+◌, ◌-◌, ◌^◌, ◌<◌, ◌≤◌, Bool, true, false, cond, not, ◌&&◌, ◌||◌, ◌==◌, nat_lt, refl, sym, ap, ap₂, subst, ◌∙◌, arith, le_refl, lt-ltb, le-ltb, ltb-true, eqb-true, eq-eqb, ne_eqb, zero-add, mod-eq_of_lt}
use Rattle.cell_graph.specs.Tree.{Tree, Const, Eq, Mux, Concat, Slice, number, width, bit}
use Rattle.cell_graph.specs.Reading.{Reading}
use Rattle.cell_graph.proofs.Words.{number-lt, number-bits}
use Rattle.std.proofs.lemmas.Bool.{and_parts, or_right}
use Rattle.flat_meaning.specs.Values.{Word, Words}
use Rattle.flat_meaning.specs.Flat.{Expr, Number, Read, At, Unary, Binary, Choose, Gate, Join, Repeat, Exprs, no_exprs, expr, Target, Whole, Part, Pick, Group, Targets, no_targets, target, size, target_size, target_sizes, is_target, are_targets}
use Rattle.flat_meaning.specs.Meaning.{value, cat, index, change, put, put_all}
use Rattle.flat_meaning.specs.Trees.{Trees, Selects, glue, tree, change_tree, part_tree, picked, put_tree, put_trees}
use Rattle.flat_meaning.specs.Fits.{Fits, AllFit}
use Rattle.flat_meaning.specs.Deps.{Bits, union, Deps, is_all, AllIn, replace, reads, all_reads, put_deps, puts_deps}
use Rattle.flat_meaning.specs.Law.{AreWords}
use Rattle.flat_meaning.specs.Assigned.{Done, is_within, covers, cover, FitsTarget, FitTargets}
use Rattle.flat_meaning.proofs.Words.{never_same, by_lt, IsWord, as_word, const_word, eq_word, mux_word, slice_word, glue_word, empty_word}
use Rattle.flat_meaning.proofs.Expressions.{tree_word}

pub left_in : (g a b : Bits) → AllIn g (union a b) → AllIn g a
left_in g a b h s i k = h s i (ap (λ x. x || b s i) k)

pub right_in : (g a b : Bits) → AllIn g (union a b) → AllIn g b
right_in g a b h s i k = h s i (or_right (a s i) (b s i) k)

-- all those signals are assigned by the process
abbrev pub AreLocal : (is_local are : ℕ → Bool) → Type 0
AreLocal is_local are = (x : ℕ) → are x ≡ true → is_local x ≡ true

pub local_first : (is_local a b : ℕ → Bool) → AreLocal is_local (λ x. a x || b x) → AreLocal is_local a
local_first is_local a b h x k = h x (ap (λ u. u || b x) k)

pub local_second : (is_local a b : ℕ → Bool) → AreLocal is_local (λ x. a x || b x) → AreLocal is_local b
local_second is_local a b h x k = h x (or_right (a x) (b x) k)

-- what may be read and reads good bits alone
module _ (wid : ℕ → ℕ) (ok : (sig at width : ℕ) → Type 0) (g : Bits) (through : Deps → (sig at width : ℕ) → Bits) (d : Deps) where
  abbrev pub OkAndGood : (sig at width : ℕ) → Type 0
  OkAndGood s at w = ok s at w × AllIn g (through d s at w)

  mutual
    pub both_fit : (e : Expr) → Fits wid ok e → AllIn g (reads wid through d e) → Fits wid OkAndGood e
    both_fit (Number w n) f h = tt
    both_fit (Read s at w) f h = (f, h)
    both_fit (At s e) f h = ((f.0, left_in g (through d s 0 (wid s)) (reads wid through d e) h), f.1, both_fit e f.2 (right_in g (through d s 0 (wid s)) (reads wid through d e) h))
    both_fit (Unary op a) f h = both_fit a f h
    both_fit (Binary op a b) f h = (f.0, both_fit a f.1 (left_in g (reads wid through d a) (reads wid through d b) h), both_fit b f.2 (right_in g (reads wid through d a) (reads wid through d b) h))
    both_fit (Choose c x y) f h =
        let k = right_in g (reads wid through d c) (union (reads wid through d x) (reads wid through d y)) h in (
          both_fit c f.0 (left_in g (reads wid through d c) (union (reads wid through d x) (reads wid through d y)) h),
          both_fit x f.1 (left_in g (reads wid through d x) (reads wid through d y) k),
          both_fit y f.2 (right_in g (reads wid through d x) (reads wid through d y) k),
        )
    both_fit (Gate op es) f h = (f.0, f.1, all_fit es f.2 h)
    both_fit (Join es) f h = (f.0, all_fit es f.1 h)
    both_fit (Repeat n es) f h = (f.0, f.1, all_fit es f.2 h)

    pub all_fit : (es : Exprs) → AllFit wid ok es → AllIn g (all_reads wid through d es) → AllFit wid OkAndGood es
    all_fit no_exprs f h = tt
    all_fit (expr e es) f h = (both_fit e f.0 (left_in g (reads wid through d e) (all_reads wid through d es) h), all_fit es f.1 (right_in g (reads wid through d e) (all_reads wid through d es) h))

pub is_all-same : (n w : ℕ) → is_all n w ≡ true → w ≡ n
is_all-same n w h = eqb-true w n (and_parts (nat_lt 0 w) (w == n) h).1

-- where all bits are new, nothing of the old tree is left
pub part_all : (n at w : ℕ) (new old : Tree) → is_all n w ≡ true → at + w ≤ n → part_tree n at w new old ≡ new
part_all n at w new old h room =
    let some = ltb-true 0 w (and_parts (nat_lt 0 w) (w == n) h).0 in
    let e = is_all-same n w h in
    ap (λ x. cond x high (cond (n - (at + w) == 0) low (Concat high low))) (ne_eqb (w + at) 0 (λ x. omega arith))
    ∙ ap (λ x. cond x low (Concat high low)) (eq-eqb (n - (at + w)) 0 (omega arith))
    ∙ ap (λ x. cond x new (cond (w == 0) (Slice old 0 at) (Concat new (Slice old 0 at)))) (eq-eqb at 0 (omega arith))
  where
    high : Tree
    high = Slice old (at + w) (n - (at + w))

    low : Tree
    low = glue w new at (Slice old 0 at)

module _ (r : Reading) where
  pub own_word : (t : Tree) (n : ℕ) → width t ≡ n → IsWord r t n (bit r t)
  own_word t n e = record { wide = e; bits = λ i h. refl }

  -- w bits from a place on are new
  part_word : (n at w : ℕ) (new old : Tree) {f : Word} → n ≤ 255 → at + w ≤ n → IsWord r new w f → width old ≡ n
      → IsWord r (part_tree n at w new old) n (λ i. cond (is_within at w i) (f (i - at)) (bit r old i))
  part_word n at w new old {f} room h p e =
      let o = own_word old n e in
      let q = glue_word r (slice_word r o (at + w) (n - (at + w)) (omega arith)) (glue_word r p (slice_word r o 0 at (omega arith)) (omega arith)) (omega arith) in
      as_word r (subst (λ (k : ℕ). IsWord r (part_tree n at w new old) k (cat (λ i. bit r old (at + w + i)) (w + at) (cat f at (λ i. bit r old (0 + i))))) (let z : n - (at + w) + (w + at) ≡ n = omega arith in z) q)
      (λ i l. by_lt (λ u. cond (nat_lt i (w + at)) (cond u (bit r old (0 + i)) (f (i - at))) (bit r old (at + w + (i - (w + at)))) ≡ cond (not u && nat_lt i (at + w)) (f (i - at)) (bit r old i)) i at
      (λ k. ap (λ x. cond x (bit r old (0 + i)) (bit r old (at + w + (i - (w + at))))) (lt-ltb i (w + at) (omega arith)) ∙ ap (bit r old) (zero-add i))
      (λ k. by_lt (λ u. cond u (f (i - at)) (bit r old (at + w + (i - (w + at)))) ≡ cond (nat_lt i (at + w)) (f (i - at)) (bit r old i)) i (w + at)
      (λ j. ap (λ x. cond x (f (i - at)) (bit r old i)) (sym (lt-ltb i (at + w) (omega arith))))
      (λ j. ap (bit r old) (let z : at + w + (i - (w + at)) ≡ i = omega arith in z) ∙ ap (λ x. cond x (f (i - at)) (bit r old i)) (sym (le-ltb i (at + w) (omega arith))))))

  -- and so they are where they are all
  whole_word : (n at w : ℕ) (new old : Tree) {f : Word} → is_all n w ≡ true → at + w ≤ n → IsWord r new w f → (g : Word)
      → IsWord r (part_tree n at w new old) n (λ i. cond (is_within at w i) (f (i - at)) (g i))
  whole_word n at w new old {f} h room p g =
      let z : at ≡ 0 = let k = is_all-same n w h in omega arith in
      subst (λ (k : ℕ). IsWord r (part_tree n at w new old) k (λ i. cond (is_within at w i) (f (i - at)) (g i))) (is_all-same n w h)
      (as_word r (subst (λ (t : Tree). IsWord r t w f) (sym (part_all n at w new old h room)) p)
      (λ i l. ap f (let y : i ≡ i - at = omega arith in y)
      ∙ ap (λ x. cond x (f (i - at)) (g i)) (sym (ap₂ (λ x y. not x && y) (le-ltb i at (omega arith)) (lt-ltb i (at + w) (omega arith))))))

  -- one bit, chosen by an index, is new
  picked_word : (index new old : Tree) (m : ℕ) {f g : Word} (n : ℕ) → n ≤ 255 → IsWord r index m g → IsWord r new 1 f → width old ≡ n → (k : ℕ) → k ≤ n
      → IsWord r (picked index m new old k) k (λ i. cond (number g m == i) (f 0) (bit r old i))
  picked_word index new old m {f} {g} n room p q e zero h = empty_word r (λ i. cond (number g m == i) (f 0) (bit r old i))
  picked_word index new old m {f} {g} n room p q e (suc k) h =
      let whole = glue_word r one (picked_word index new old m n room p q e k (omega arith)) (omega arith) in
      as_word r (subst (λ (j : ℕ). IsWord r (picked index m new old (suc k)) j (cat (λ i. cond (number g m == k) (f 0) (bit r old k)) k (λ i. cond (number g m == i) (f 0) (bit r old i)))) (let z : 1 + k ≡ suc k = omega arith in z) whole)
      (λ i l. by_lt (λ u. cond u (cond (number g m == i) (f 0) (bit r old i)) (cond (number g m == k) (f 0) (bit r old k)) ≡ cond (number g m == i) (f 0) (bit r old i)) i k
      (λ j. refl) (λ j. ap (λ x. cond (number g m == x) (f 0) (bit r old x)) (let z : k ≡ i = omega arith in z)))
    where
      bit_word : IsWord r (Slice old k 1) 1 (λ i. bit r old (k + i))
      bit_word = slice_word r (own_word old n e) k 1 (omega arith)

      one : IsWord r (cond (nat_lt k (2 ^ m)) (Mux (Eq index (Const m k)) new (Slice old k 1)) (Slice old k 1)) 1 (λ i. cond (number g m == k) (f 0) (bit r old k))
      one = by_lt (λ u. IsWord r (cond u (Mux (Eq index (Const m k)) new (Slice old k 1)) (Slice old k 1)) 1 (λ i. cond (number g m == k) (f 0) (bit r old k))) k (2 ^ m)
          (λ l. as_word r (mux_word r q bit_word (eq_word r p (const_word r m k))) (λ i j.
          let z : i ≡ 0 = omega arith in
          ap (λ x. cond (number g m == x) (f i) (bit r old (k + i))) (number-bits k m ∙ mod-eq_of_lt l)
          ∙ ap₂ (λ x y. cond (number g m == k) (f x) (bit r old y)) z (let y : k + i ≡ k = omega arith in y)))
          (λ l. as_word r bit_word (λ i j.
          let small = number-lt g m in
          ap (bit r old) (let y : k + i ≡ k = omega arith in y)
          ∙ ap (λ x. cond x (f 0) (bit r old k)) (sym (ne_eqb (number g m) k (λ x. omega arith)))))

  -- of the signals that a process assigns, those made of good bits have trees and values that agree on the bits done; all else is as in v
  module _ (wid : ℕ → ℕ) (sized : AreWords wid) (is_local : ℕ → Bool) (v : Words) (g : Bits) where
    pub record Agree (d : Done) (m : Deps) (ts : Trees) (st : Words) : Type 0 where
      pub wide : (x : ℕ) → is_local x ≡ true → AllIn g (m x) → width (ts x) ≡ wid x
      pub same : (x : ℕ) → is_local x ≡ true → AllIn g (m x) → (i : ℕ) → i < wid x → d x i ≡ true → bit r (ts x) i ≡ st x i
      pub others : (x : ℕ) → is_local x ≡ false → (i : ℕ) → st x i ≡ v x i

    pub fewer : {d e : Done} {m : Deps} {ts : Trees} {st : Words} → ((x i : ℕ) → e x i ≡ true → d x i ≡ true) → Agree d m ts st → Agree e m ts st
    fewer h a = record { wide = a.wide; same = λ x l o i n k. a.same x l o i n (h x i k); others = a.others }

    -- one signal's tree is new, and some of its bits are
    changed : (s : ℕ) (t : Tree) (b : Bits) (d : Done) (m : Deps) (ts : Trees) (st : Words) (at w : ℕ) (f : Word) (c : Word) → is_local s ≡ true
        → (AllIn g b → (width t ≡ wid s) × ((i : ℕ) → i < wid s → (c i || d s i) ≡ true → bit r t i ≡ cond (is_within at w i) (f (i - at)) (st s i)))
        → Agree d m ts st → Agree (λ x i. ((x == s) && c i) || d x i) (replace s b m) (change_tree s t ts) (change s at w f st)
    changed s t b d m ts st at w f c l h a = record {
      wide = λ x n. wide_at x (x == s) refl n;
      same = λ x n o. same_at x (x == s) refl n o;
      others = λ x n i. others_at x (x == s) refl n i;
    }
      where
        wide_at : (x : ℕ) (u : Bool) → (x == s) ≡ u → is_local x ≡ true → AllIn g (cond u b (m x)) → width (cond u t (ts x)) ≡ wid x
        wide_at x true e n o = (h o).0 ∙ ap wid (sym (eqb-true x s e))
        wide_at x false e n o = a.wide x n o

        same_at : (x : ℕ) (u : Bool) → (x == s) ≡ u → is_local x ≡ true → AllIn g (cond u b (m x)) → (i : ℕ) → i < wid x → ((u && c i) || d x i) ≡ true
            → bit r (cond u t (ts x)) i ≡ cond (u && is_within at w i) (f (i - at)) (st x i)
        same_at x true e n o i q k = let z = eqb-true x s e in
            subst (λ (y : ℕ). i < wid y → (c i || d y i) ≡ true → bit r t i ≡ cond (is_within at w i) (f (i - at)) (st y i)) (sym z) ((h o).1 i) q k
        same_at x false e n o i q k = a.same x n o i q k

        others_at : (x : ℕ) (u : Bool) → (x == s) ≡ u → is_local x ≡ false → (i : ℕ) → cond (u && is_within at w i) (f (i - at)) (st x i) ≡ v x i
        others_at x true e n i = never_same (sym l ∙ ap is_local (sym (eqb-true x s e)) ∙ n)
        others_at x false e n i = a.others x n i

    -- an assignment whose value and indices are read where the bits `before` are done: the selects have the values u
    module _ (ok : Done → (sig at width : ℕ) → Type 0) (before : Done) (sel : Selects) (u : Words) (through : Deps → (sig at width : ℕ) → Bits) (o : Deps)
        (sees : (s at w : ℕ) → ok before s at w → AllIn g (through o s at w) → IsWord r (sel s at w) w (λ i. u s (at + i))) where
      pub good_word : (e : Expr) → Fits wid (ok before) e → AllIn g (reads wid through o e) → (W : ℕ) → size e ≤ W → IsWord r (tree wid sel e W) W (value u e W)
      good_word e f h W l = tree_word r u wid sel (OkAndGood wid (ok before) g through o) (λ s at w k. sees s at w k.0 k.1) e (both_fit wid (ok before) g through o e f h) W l

      mutual
        pub put_agree : (t : Target) (d : Done) (m : Deps) (ts : Trees) (st : Words) (new : Tree) (f : Word) (b : Bits) → AreLocal is_local (is_target t) → FitsTarget wid ok before t
            → (AllIn g b → IsWord r new (target_size wid t) f) → Agree d m ts st
            → Agree (λ x i. covers wid t x i || d x i) (put_deps wid through o t b m) (put_tree wid sel t new ts) (put wid u t f st)
        put_agree (Whole s) d m ts st new f b own l p a = changed s new b d m ts st 0 (wid s) f (is_within 0 (wid s)) (own s (eq-eqb s s refl))
            (λ k. let q = p k in (
              q.wide,
              λ i h j. q.bits i h ∙ ap f (let z : i ≡ i - 0 = omega arith in z)
                  ∙ ap (λ u. cond u (f (i - 0)) (st s i)) (sym (ap₂ (λ x y. not x && y) (le-ltb i 0 (omega arith)) (lt-ltb i (0 + wid s) (omega arith)))),
            )) a
        put_agree (Part s at w) d m ts st new f b own l p a = go (is_all (wid s) w) refl
          where
            t : Tree
            t = part_tree (wid s) at w new (ts s)

            local : is_local s ≡ true
            local = own s (eq-eqb s s refl)

            old : AllIn g (m s) → (u : Bool) (i : ℕ) → i < wid s → (y : Bool) → (u || d s i) ≡ true → cond u y (bit r (ts s) i) ≡ cond u y (st s i)
            old good true i h y k = refl
            old good false i h y k = a.same s local good i h k

            go : (u : Bool) → is_all (wid s) w ≡ u → Agree (λ x i. covers wid (Part s at w) x i || d x i) (replace s (cond u b (union b (m s))) m) (change_tree s t ts) (change s at w f st)
            go false e = changed s t (union b (m s)) d m ts st at w f (is_within at w) local
                (λ k. let good = right_in g b (m s) k in
                let q = part_word (wid s) at w new (ts s) (let k = sized s in omega arith) l (p (left_in g b (m s) k)) (a.wide s local good) in
                (q.wide, λ i h k. q.bits i h ∙ old good (is_within at w i) i h (f (i - at)) k)) a
            go true e = changed s t b d m ts st at w f (is_within at w) local
                (λ k. let q = whole_word (wid s) at w new (ts s) e l (p k) (st s) in (q.wide, λ i h k. q.bits i h)) a
        put_agree (Pick s e) d m ts st new f b own l p a =
            let local = own s (eq-eqb s s refl) in
            let n = index u e in
            fewer (λ x i k. ap (λ u. u || d x i) (no (x == s)) ∙ k)
            (changed s (picked (tree wid sel e (size e)) (size e) new (ts s) (wid s)) (union (reads wid through o e) (union b (m s))) d m ts st n 1 f (λ i. false) local
            (λ h. let rest = right_in g (reads wid through o e) (union b (m s)) h in
            let good = right_in g b (m s) rest in
            let w = good_word e l.1 (left_in g (reads wid through o e) (union b (m s)) h) (size e) (le_refl (size e)) in
            let q = picked_word (tree wid sel e (size e)) new (ts s) (size e) (wid s) (let k = sized s in omega arith) w (p (left_in g b (m s) rest)) (a.wide s local good) (wid s) (le_refl (wid s)) in
            (q.wide, λ i h k. q.bits i h ∙ ap (cond (n == i) (f 0)) (a.same s local good i h k) ∙ here n i)) a)
          where
            no : (u : Bool) → (u && false) ≡ false
            no true = refl
            no false = refl

            here : (n i : ℕ) → cond (n == i) (f 0) (st s i) ≡ cond (is_within n 1 i) (f (i - n)) (st s i)
            here n i = by_lt (λ u. cond (n == i) (f 0) (st s i) ≡ cond (not u && nat_lt i (n + 1)) (f (i - n)) (st s i)) i n
                (λ h. ap (λ x. cond x (f 0) (st s i)) (ne_eqb n i (λ x. omega arith)))
                (λ h. by_lt (λ u. cond (n == i) (f 0) (st s i) ≡ cond u (f (i - n)) (st s i)) i (n + 1)
                (λ j. ap (λ x. cond x (f 0) (st s i)) (eq-eqb n i (omega arith)) ∙ ap f (let z : 0 ≡ i - n = omega arith in z))
                (λ j. ap (λ x. cond x (f 0) (st s i)) (ne_eqb n i (λ x. omega arith))))
        put_agree (Group gs) d m ts st new f b own l p a = put_all_agree gs d m ts st new f (target_sizes wid gs) b own l p (le_refl (target_sizes wid gs)) a

        put_all_agree : (gs : Targets) (d : Done) (m : Deps) (ts : Trees) (st : Words) (new : Tree) (f : Word) (n : ℕ) (b : Bits) → AreLocal is_local (are_targets gs) → FitTargets wid ok before gs
            → (AllIn g b → IsWord r new n f) → target_sizes wid gs ≤ n → Agree d m ts st
            → Agree (λ x i. cover wid gs x i || d x i) (puts_deps wid through o gs b m) (put_trees wid sel gs new ts) (put_all wid u gs f st)
        put_all_agree no_targets d m ts st new f n b own l p h a = a
        put_all_agree (target t gs) d m ts st new f n b own l p h a =
            fewer (λ x i k. swap (covers wid t x i) (cover wid gs x i) (d x i) k)
            (put_all_agree gs (λ x i. covers wid t x i || d x i) (put_deps wid through o t b m) (put_tree wid sel t (Slice new (target_sizes wid gs) (target_size wid t)) ts)
            (put wid u t (λ i. f (target_sizes wid gs + i)) st) new f n b (local_second is_local (is_target t) (are_targets gs) own) l.1 p (omega arith)
            (put_agree t d m ts st (Slice new (target_sizes wid gs) (target_size wid t)) (λ i. f (target_sizes wid gs + i)) b (local_first is_local (is_target t) (are_targets gs) own) l.0
            (λ k. slice_word r (p k) (target_sizes wid gs) (target_size wid t) (omega arith)) a))
          where
            swap : (x y z : Bool) → ((x || y) || z) ≡ true → (y || (x || z)) ≡ true
            swap true true z k = refl
            swap true false z k = refl
            swap false true z k = refl
            swap false false z k = k
