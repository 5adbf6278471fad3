-- Clocked processes of one register, one after another.
use Rattle.std.proofs.Common.{◌≡◌, ℕ, zero, suc, ◌+◌, ◌<◌, ◌≤◌, Bool, true, false, cond, not, ◌&&◌, ◌||◌, ◌==◌, nat_le, nat_eq, List, [], ◌∷◌, drop, length, get_or, Option, Some, None, refl, sym, ap, ap₂, subst, ◌∙◌, arith, eqb-true, nat_lt, ltb-true, ltb-false, Bor}
use Rattle.std.specs.Prelude.{unwrap_or, is_some, slice_get, IfSome}
use Rattle.std.specs.Option.{option_copied}
use Rattle.std.specs.List.{IsDistinct}
use Rattle.std.proofs.lemmas.Bool.{or_parts}
use Rattle.std.proofs.lemmas.Option.{slice_get_past, slice_get_read}
use Rattle.std.proofs.lemmas.List.{drop_more, drop_all}
use Rattle.std.proofs.lemmas.Map.Keys.{IsDistinct-head, IsDistinct-tail}
use Rattle.std.proofs.Math.Bool.{or-false, or_assoc}
use Rattle.cell_graph.specs.Tree.{bit_at}
use Rattle.flat_form.specs.declared.flat.FlatClocked.{FlatClocked}
use Rattle.flat_form.specs.declared.flat.FlatReset.{FlatReset}
use Rattle.flat_form.specs.Masks.{bits_in}
use Rattle.flat_meaning.specs.Deps.{Bits}
use Rattle.flat_meaning.specs.Flat.{Null, assigns}
use Rattle.flat_meaning.specs.Design.{once}
use Rattle.flat_meaning.proofs.Drivers.{not_assigned}
use Rattle.flat_unfolding.specs.Drivers.{Process, drives, may_drive, times_driven, have_same_edges, is_driven_apart, have_other_edges}
use Rattle.flat_drivers.specs.declared.clocked.Edges.{Edges}
use Rattle.flat_drivers.specs.declared.clocked.ClockedBits.{ClockedBits}
use Rattle.flat_drivers.specs.Driving.{is_among}
use Rattle.flat_drivers.specs.Clocked.{process_of, processes_in, is_shared_bit, edges_of, edges_at, is_apart, IsUnused, AddsProcess}
use Rattle.flat_drivers.proofs.Counted.{or-true, one_before, two_before, not_among}

-- ---- the signals of a process, one after another

-- no signal is added
pub added-none : (wid : ℕ → ℕ) (edges : Edges) (may : Bits) (b : ClockedBits) → AddsProcess wid edges (λ s. false) may b b
added-none wid edges may b = record {
  first = λ s. refl;
  once = λ s i l. sym (or-false (bits_in b.once s i));
  twice = λ s i l m. sym (or-false (bits_in b.twice s i));
}

-- some signals, and others after them
pub added-more : (wid : ℕ → ℕ) (edges : Edges) (these those : ℕ → Bool) (may also : Bits) (a b c : ClockedBits) → ((s : ℕ) → these s ≡ true → those s ≡ false) → ((s i : ℕ) → i < 64 → these s ≡ true → also s i ≡ may s i)
    → AddsProcess wid edges these also a b → AddsProcess wid edges those may b c → AddsProcess wid edges (λ s. these s || those s) may a c
added-more wid edges these those may also a b c apart same h k = record {
  first = λ s. k.first s ∙ ap (λ (o : Option Edges). cond (those s) (Some (unwrap_or o edges)) o) (h.first s) ∙ firsts (these s) (those s) (edges_at a s) (apart s);
  once = λ s i l. k.once s i l ∙ ap (λ x. x || (those s && may s i)) (h.once s i l) ∙ ones (bits_in a.once s i) (these s) (those s) (also s i) (may s i) (same s i l);
  twice = λ s i l m. k.twice s i l m
      ∙ ap₂ (λ (x : Bool) (y : Bool × Option Edges). x || (those s && (is_apart y.1 edges || (y.0 && may s i)))) (h.twice s i l m) (pair (h.once s i m) (h.first s))
      ∙ twos (bits_in a.twice s i) (bits_in a.once s i) (edges_at a s) (these s) (those s) (also s i) (may s i) (apart s) (same s i m);
}
  where
    pair : {A B : Type 0} {x y : A} {u v : B} → x ≡ y → u ≡ v → (let p : A × B = (x, u) in p) ≡ (y, v)
    pair e f = ap₂ (λ p q. (p, q)) e f

    firsts : (t u : Bool) (o : Option Edges) → (t ≡ true → u ≡ false)
        → cond u (Some (unwrap_or (cond t (Some (unwrap_or o edges)) o) edges)) (cond t (Some (unwrap_or o edges)) o) ≡ cond (t || u) (Some (unwrap_or o edges)) o
    firsts true u o e = ap (λ b. cond b (Some (unwrap_or o edges)) (Some (unwrap_or o edges))) (e refl)
    firsts false u o e = refl

    ones : (x t u p q : Bool) → (t ≡ true → p ≡ q) → ((x || (t && p)) || (u && q)) ≡ (x || ((t || u) && q))
    ones x t u p q e = or_assoc x (t && p) (u && q) ∙ ap (λ y. x || y) (go t u e)
      where
        go : (t u : Bool) → (t ≡ true → p ≡ q) → ((t && p) || (u && q)) ≡ ((t || u) && q)
        go true u e = ap (λ y. y || (u && q)) (e refl) ∙ both u q
          where
            both : (u q : Bool) → (q || (u && q)) ≡ q
            both u true = refl
            both true false = refl
            both false false = refl
        go false u e = refl

    twos : (z x : Bool) (o : Option Edges) (t u p q : Bool) → (t ≡ true → u ≡ false) → (t ≡ true → p ≡ q)
        → ((z || (t && (is_apart o edges || (x && p)))) || (u && (is_apart (cond t (Some (unwrap_or o edges)) o) edges || ((x || (t && p)) && q)))) ≡ (z || ((t || u) && (is_apart o edges || (x && q))))
    twos z x o true u p q e f = ap (λ y. (z || (is_apart o edges || (x && p))) || (y && (is_apart (Some (unwrap_or o edges)) edges || ((x || p) && q)))) (e refl)
        ∙ or-false (z || (is_apart o edges || (x && p))) ∙ ap (λ y. z || (is_apart o edges || (x && y))) (f refl)
    twos z x o false u p q e f = ap₂ (λ (y : Bool) (w : Bool). y || (u && (is_apart o edges || (w && q)))) (or-false z) (or-false x)

-- once the signals that are left are added as well, all are
pub record Remains (wid : ℕ → ℕ) (edges : Edges) (may : Bits) (left all : List ℕ) (old now : ClockedBits) : Type 0 where
  pub apart : IsDistinct nat_eq left
  pub rest : (new : ClockedBits) → AddsProcess wid edges (is_among left) may now new → AddsProcess wid edges (is_among all) may old new

pub remains-start : (wid : ℕ → ℕ) (edges : Edges) (may : Bits) (all : List ℕ) (old : ClockedBits) → IsDistinct nat_eq all → Remains wid edges may all all old old
remains-start wid edges may all old d = record { apart = d; rest = λ new h. h }

pub remains-step : (wid : ℕ → ℕ) (edges : Edges) (may : Bits) (all : List ℕ) (k x mask : ℕ) (old now next : ClockedBits) → drop k all ≡ x ∷ drop (k + 1) all → ((i : ℕ) → i < 64 → bit_at mask i ≡ may x i)
    → Remains wid edges may (drop k all) all old now → AddsProcess wid edges (λ s. s == x) (λ s i. bit_at mask i) now next → Remains wid edges may (drop (k + 1) all) all old next
remains-step wid edges may all k x mask old now next e is r h =
    let left = drop (k + 1) all in
    let d : IsDistinct nat_eq (x ∷ left) = subst (IsDistinct nat_eq) e r.apart in
    let other : is_among left x ≡ false = not_among x left (IsDistinct-head nat_eq x left d) in
    record {
      apart = IsDistinct-tail nat_eq x left d;
      rest = λ new m. r.rest new (subst (λ (xs : List ℕ). AddsProcess wid edges (is_among xs) may now new) (sym e)
          (added-more wid edges (λ s. s == x) (is_among left) may (λ s i. bit_at mask i) now next new
          (λ s t. ap (is_among left) (eqb-true s x t) ∙ other) (λ s i l t. is i l ∙ ap (λ z. may z i) (sym (eqb-true s x t))) h m));
    }

pub remains-end : (wid : ℕ → ℕ) (edges : Edges) (may : Bits) (all : List ℕ) (k : ℕ) (old now : ClockedBits) → length all ≤ k → Remains wid edges may (drop k all) all old now → AddsProcess wid edges (is_among all) may old now
remains-end wid edges may all k old now l r = r.rest now (subst (λ (xs : List ℕ). AddsProcess wid edges (is_among xs) may now now) (sym (drop_all k all l)) (added-none wid edges may now))

-- ---- what a process drives

-- the signals and bits that a set has are those of the process
pub process-added : (wid : ℕ → ℕ) (p : Process) (edges : Edges) (among : ℕ → Bool) (may : Bits) (old new : ClockedBits) → edges ≡ edges_of p → ((s : ℕ) → among s ≡ drives p s) → ((s i : ℕ) → i < 64 → may s i ≡ may_drive wid p s i)
    → AddsProcess wid edges among may old new → AddsProcess wid (edges_of p) (drives p) (may_drive wid p) old new
process-added wid p edges among may old new e g m h = record {
  first = λ s. h.first s ∙ ap₂ (λ (t : Bool) (f : Edges). cond t (Some (unwrap_or (edges_at old s) f)) (edges_at old s)) (g s) e;
  once = λ s i l. h.once s i l ∙ ap₂ (λ t b. bits_in old.once s i || (t && b)) (g s) (m s i l);
  twice = λ s i l n. h.twice s i l n ∙ ap₂ (λ t b. bits_in old.twice s i || (t && (is_apart (edges_at old s) edges || (bits_in old.once s i && b)))) (g s) (m s i n)
      ∙ ap (λ (f : Edges). bits_in old.twice s i || (drives p s && (is_apart (edges_at old s) f || (bits_in old.once s i && may_drive wid p s i)))) e;
}

-- what it may assign is of a signal that it drives
driven_is : (wid : ℕ → ℕ) (p : Process) (s i : ℕ) → drives p s ≡ false → may_drive wid p s i ≡ false
driven_is wid p s i e = let h = or_parts (assigns p.branch s) (assigns p.body s) e in ap₂ (λ a b. a || b) (not_assigned wid s p.branch i h.0) (not_assigned wid s p.body i h.1)

-- ---- processes, one after another

-- some process at these edges
abbrev process_at : Edges → Process
process_at e = record { clock = e.clock; edge = e.second; branch = Null; body = Null }

-- those that are left drive a signal at other edges than the first one
abbrev left_apart : Option Edges → List Process → ℕ → Bool
left_apart None ps s = have_other_edges ps s
left_apart (Some e) ps s = is_driven_apart (process_at e) ps s

-- with those that are left all are counted
pub record AreLeft (wid : ℕ → ℕ) (b : ClockedBits) (left all : List Process) : Type 0 where
  pub total : (s i : ℕ) → i < wid s → i < 64
      → ((bits_in b.twice s i || nat_le 2 (times_driven wid left s i)) || ((bits_in b.once s i && nat_le 1 (times_driven wid left s i)) || left_apart (edges_at b s) left s))
      ≡ is_shared_bit wid all s i

pub left-start : (wid : ℕ → ℕ) (b : ClockedBits) (all : List Process) → IsUnused b → AreLeft wid b all all
left-start wid b all h = record {
  total = λ s i l m. ap₂ (λ x y. (x || nat_le 2 (times_driven wid all s i)) || ((y && nat_le 1 (times_driven wid all s i)) || left_apart (edges_at b s) all s)) (h.twice s i) (h.once s i)
      ∙ ap (λ (o : Option Edges). nat_le 2 (times_driven wid all s i) || left_apart o all s) (h.first s);
}

pub left-end : (wid : ℕ → ℕ) (b : ClockedBits) (left all : List Process) → left ≡ [] → AreLeft wid b left all → (s i : ℕ) → i < wid s → i < 64 → bits_in b.twice s i ≡ is_shared_bit wid all s i
left-end wid b left all e h s i l m = go (bits_in b.twice s i) (bits_in b.once s i) (edges_at b s)
    ∙ sym (ap (λ (ps : List Process). (bits_in b.twice s i || nat_le 2 (times_driven wid ps s i)) || ((bits_in b.once s i && nat_le 1 (times_driven wid ps s i)) || left_apart (edges_at b s) ps s)) e)
    ∙ h.total s i l m
  where
    go : (t o : Bool) (f : Option Edges) → t ≡ ((t || false) || ((o && false) || left_apart f [] s))
    go true o f = refl
    go false true None = refl
    go false true (Some f) = refl
    go false false None = refl
    go false false (Some f) = refl

-- only its edges count where a process is compared
apart-at : (p : Process) (ps : List Process) (s : ℕ) → is_driven_apart p ps s ≡ is_driven_apart (process_at (edges_of p)) ps s
apart-at p [] s = refl
apart-at p (q ∷ qs) s = ap (λ b. (drives q s && not (have_same_edges p q)) || b) (apart-at p qs s)

-- what was counted once and twice before (o, t), what the process may assign (m), and what those after it count (one, two)
counts : (t o m one two x : Bool) → (((t || (o && m)) || two) || (((o || m) && one) || x)) ≡ ((t || (two || (m && one))) || ((o && (m || one)) || x))
counts true o m one two x = refl
counts false true true one true x = refl
counts false true true true false x = refl
counts false true true false false x = refl
counts false true false one true x = refl
counts false true false one false x = refl
counts false false true one true x = refl
counts false false true one false x = refl
counts false false false one true x = refl
counts false false false one false x = refl

-- a process at other edges
others : (t y two z a x : Bool) → (((t || (a || y)) || two) || (z || x)) ≡ (((t || y) || two) || (z || (a || x)))
others t y two z false x = refl
others t y two z true x = ap (λ b. (b || two) || (z || x)) (or-true t) ∙ sym (or-true ((t || y) || two)) ∙ ap (λ b. ((t || y) || two) || b) (sym (or-true z))

-- nothing of the signal is driven
unchanged : (t o one two x : Bool) → (((t || false) || two) || (((o || false) && one) || x)) ≡ ((t || (two || false)) || ((o && one) || x))
unchanged t o one two x = ap₂ (λ a b. (a || two) || ((b && one) || x)) (or-false t) (or-false o) ∙ ap (λ c. (t || c) || ((o && one) || x)) (sym (or-false two))

module _ (wid : ℕ → ℕ) (p : Process) (rest : List Process) (s i : ℕ) where
  not_driven : (f : Option Edges) → drives p s ≡ false → left_apart f rest s ≡ left_apart f (p ∷ rest) s
  not_driven None e = sym (ap (λ b. cond b (is_driven_apart p rest s) (have_other_edges rest s)) e)
  not_driven (Some g) e = sym (ap (λ b. (b && not (have_same_edges (process_at g) p)) || is_driven_apart (process_at g) rest s) e)

  is_driven : (f : Option Edges) → drives p s ≡ true → (is_apart f (edges_of p) || left_apart (Some (unwrap_or f (edges_of p))) rest s) ≡ left_apart f (p ∷ rest) s
  is_driven None e = sym (apart-at p rest s) ∙ sym (ap (λ b. cond b (is_driven_apart p rest s) (have_other_edges rest s)) e)
  is_driven (Some g) e = sym (ap (λ b. (b && not (have_same_edges (process_at g) p)) || is_driven_apart (process_at g) rest s) e)

  turn : (b t o : Bool) (f : Option Edges) → drives p s ≡ b →
      (((t || (b && (is_apart f (edges_of p) || (o && may_drive wid p s i)))) || nat_le 2 (times_driven wid rest s i))
      || (((o || (b && may_drive wid p s i)) && nat_le 1 (times_driven wid rest s i)) || left_apart (cond b (Some (unwrap_or f (edges_of p))) f) rest s))
      ≡ ((t || nat_le 2 (times_driven wid (p ∷ rest) s i)) || ((o && nat_le 1 (times_driven wid (p ∷ rest) s i)) || left_apart f (p ∷ rest) s))
  turn true t o f e =
      let m = may_drive wid p s i in
      let n = times_driven wid rest s i in
      let a = is_apart f (edges_of p) in
      let x = left_apart (Some (unwrap_or f (edges_of p))) rest s in
      others t (o && m) (nat_le 2 n) ((o || m) && nat_le 1 n) a x ∙ counts t o m (nat_le 1 n) (nat_le 2 n) (a || x)
      ∙ ap₂ (λ two one. (t || two) || ((o && one) || (a || x))) (sym (two_before m n)) (sym (one_before m n))
      ∙ ap (λ z. (t || nat_le 2 (once m + n)) || ((o && nat_le 1 (once m + n)) || z)) (is_driven f e)
  turn false t o f e =
      let m = may_drive wid p s i in
      let n = times_driven wid rest s i in
      let none : once m + n ≡ n = ap (λ b. once b + n) (driven_is wid p s i e) ∙ (let z : 0 + n ≡ n = omega arith in z) in
      unchanged t o (nat_le 1 n) (nat_le 2 n) (left_apart f rest s)
      ∙ ap₂ (λ two one. (t || two) || ((o && one) || left_apart f rest s)) (or-false (nat_le 2 n) ∙ sym (ap (nat_le 2) none)) (sym (ap (nat_le 1) none))
      ∙ ap (λ z. (t || nat_le 2 (once m + n)) || ((o && nat_le 1 (once m + n)) || z)) (not_driven f e)

pub left-step : (wid : ℕ → ℕ) (p : Process) (rest all : List Process) (now next : ClockedBits) → AreLeft wid now (p ∷ rest) all → AddsProcess wid (edges_of p) (drives p) (may_drive wid p) now next → AreLeft wid next rest all
left-step wid p rest all now next h k = record {
  total = λ s i l m.
      let n = times_driven wid rest s i in
      let t = bits_in now.twice s i in
      let o = bits_in now.once s i in
      let f = edges_at now s in
      let d = drives p s in
      let may = may_drive wid p s i in
      ap₂ (λ x y. (x || nat_le 2 n) || ((y && nat_le 1 n) || left_apart (edges_at next s) rest s)) (k.twice s i l m) (k.once s i m)
      ∙ ap (λ (g : Option Edges). ((t || (d && (is_apart f (edges_of p) || (o && may)))) || nat_le 2 n) || (((o || (d && may)) && nat_le 1 n) || left_apart g rest s)) (k.first s)
      ∙ turn wid p rest s i d t o f refl ∙ h.total s i l m;
}

-- ---- the processes with their resets

-- what a look-up by place gives
pub entry-at : {A : Type 0} (xs : List A) (k : ℕ) (r : Option (Bor A)) → is_some r ≡ nat_lt k (length xs) → IfSome r (λ x. x.now ≡ get_or xs k x.now) → option_copied r ≡ slice_get xs k
entry-at xs k None e h = sym (slice_get_past xs k (ltb-false k (length xs) (sym e)))
entry-at xs k (Some x) e h = sym (slice_get_read xs (length xs) k x.now refl (ltb-true k (length xs) (sym e)) h)

first-process : (x : FlatClocked) (more : List FlatClocked) (rs : List FlatReset) (k : ℕ) → processes_in (x ∷ more) (drop k rs) ≡ process_of x (slice_get rs k) ∷ processes_in more (drop (suc k) rs)
first-process x more [] zero = refl
first-process x more [] (suc k) = refl
first-process x more (r ∷ rs) zero = refl
first-process x more (r ∷ rs) (suc k) = first-process x more rs k

pub next-process : (cs : List FlatClocked) (rs : List FlatReset) (k : ℕ) (x : FlatClocked) → k < length cs → x ≡ get_or cs k x
    → processes_in (drop k cs) (drop k rs) ≡ process_of x (slice_get rs k) ∷ processes_in (drop (k + 1) cs) (drop (k + 1) rs)
next-process cs rs k x l is =
    let more = drop (k + 1) cs in
    ap (λ (ps : List FlatClocked). processes_in ps (drop k rs)) (drop_more cs k x l ∙ ap (λ (y : FlatClocked). y ∷ more) (sym is))
    ∙ first-process x more rs k ∙ ap (λ n. process_of x (slice_get rs k) ∷ processes_in more (drop n rs)) (let e : suc k ≡ k + 1 = omega arith in e)

pub no-process : (cs : List FlatClocked) (rs : List FlatReset) (k : ℕ) → length cs ≤ k → processes_in (drop k cs) (drop k rs) ≡ []
no-process cs rs k l = ap (λ (ps : List FlatClocked). processes_in ps (drop k rs)) (drop_all k cs l)
