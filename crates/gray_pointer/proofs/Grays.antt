-- The Gray registers of one pair more, and of one register more.
use Rattle.std.proofs.Common.{◌≡◌, ◌∙◌, ◌++◌, sym, ap, ap₂, refl, subst, inl, inr, arith, ℕ, zero, suc, ◌+◌, ◌<◌, List, [], ◌∷◌, length, take, get_or, Contains, Option, Some, None, true, nat_lt, ◌==◌, ◌&&◌, ◌||◌, lt-ltb, eq-eqb}
use Rattle.std.proofs.lemmas.List.{take_more, append_assoc}
use Rattle.std.proofs.lemmas.List.Elements.{Contains-append_left, Contains-append_right, Contains-append_cases, Contains-push, Contains-push_cases, Contains-get_or}
use Rattle.cell_graph.specs.Cells.{Cells}
use Rattle.cdc_model.specs.declared.scheme.GrayReg.{GrayReg}
use Rattle.cdc_model.specs.declared.scheme.Shape.{Shape}
use Rattle.cdc_model.specs.declared.scheme.Shape.TheVariants.{G1, G2, G3}
use Rattle.cdc_model.specs.GrayShape.{HasShape}
use Rattle.cdc_model.specs.Ordered.{is_before, IsAscending}
use Rattle.cdc_model.specs.Verdict.{gray_key}
use Rattle.cdc_model.proofs.Ascending.{here, parts, nothing_in, ascending, joined_ascend}
use Rattle.cdc_model.proofs.Keys.{ascends}
use Rattle.cell_graph.specs.Origin.{TreeBit}
use Rattle.gray_pointer.specs.declared.register.Register.{Register}
use Rattle.gray_pointer.specs.Grays.{Follows, gray_reg, found_grays, IsFollowed, AreGrays}
use Rattle.gray_pointer.specs.Registers.{Ascend}

-- a pair has one shape
pub one_shape : (s t : Shape) (b c w : ℕ) (n m : List TreeBit) → HasShape s b c w n m → HasShape t b c w n m → s ≡ t
one_shape G1 G1 b c w n m h k = refl
one_shape G1 G2 b c w n m h k = absurd (k.0 h)
one_shape G1 G3 b c w n m h k = absurd (k.0 h)
one_shape G2 G1 b c w n m h k = absurd (h.0 k)
one_shape G2 G2 b c w n m h k = refl
one_shape G2 G3 b c w n m h k = absurd (k.1 h.1)
one_shape G3 G1 b c w n m h k = absurd (h.0 k)
one_shape G3 G2 b c w n m h k = absurd (h.1 k.1)
one_shape G3 G3 b c w n m h k = refl

-- ---- order

pub joined : (xs ys : List GrayReg) → IsAscending gray_key xs → IsAscending gray_key ys → ((x y : GrayReg) → Contains xs x → Contains ys y → is_before (gray_key x) (gray_key y) ≡ true)
    → IsAscending gray_key (xs ++ ys)
joined xs ys h k before = ascending gray_key (xs ++ ys) (joined_ascend gray_key xs ys (ascends gray_key xs h) (ascends gray_key ys k) before)

before_by_gray : (x y : GrayReg) → x.gray < y.gray → is_before (gray_key x) (gray_key y) ≡ true
before_by_gray x y l = ap (λ v. v || ((x.gray == y.gray) && is_before (x.count ∷ []) (y.count ∷ []))) (lt-ltb x.gray y.gray l)

before_by_count : (x y : GrayReg) → x.gray ≡ y.gray → x.count < y.count → is_before (gray_key x) (gray_key y) ≡ true
before_by_count x y e l = go (nat_lt x.gray y.gray)
  where
    rest : ((x.gray == y.gray) && is_before (x.count ∷ []) (y.count ∷ [])) ≡ true
    rest = ap₂ (λ u v. u && (v || ((x.count == y.count) && is_before [] []))) (eq-eqb x.gray y.gray e) (lt-ltb x.count y.count l)

    go : (v : _) → (v || ((x.gray == y.gray) && is_before (x.count ∷ []) (y.count ∷ []))) ≡ true
    go v = ap (λ u. v || u) rest ∙ or_true v
      where
        or_true : (v : _) → (v || true) ≡ true
        or_true true = refl
        or_true _ = refl

-- what was taken so far comes before the next
pub before_next : (rs : List Register) → Ascend rs → (i : ℕ) (d : Register) → i < length rs → (r : Register) → Contains (take i rs) r → r.sig < (get_or rs i d).sig
before_next [] h i d l r k = absurd (omega arith)
before_next (q ∷ rs) h zero d l r k = absurd (nothing_in r k)
before_next (q ∷ rs) h (suc i) d l r k = elim (parts q (take i rs) r k) [
  | inl same ↦ let m = h.0 (get_or rs i d) (Contains-get_or rs i d (omega arith)) in let e : q.sig ≡ r.sig = ap (λ (p : Register). p.sig) same in omega arith
  | inr j ↦ before_next rs h.1 i d (omega arith) r j
]

module _ (g : Cells) where
  pub no_counter : (grays : List Register) → AreGrays g [] grays []
  no_counter grays = record {
    only = λ x i. absurd (nothing_in x i);
    all = λ c r s i j f. absurd (nothing_in c i);
    ordered = λ i j x y l e f. cc;
  }

  pub no_register : (counts : List Register) → AreGrays g counts [] []
  no_register counts = record {
    only = λ x i. absurd (nothing_in x i);
    all = λ c r s i j f. absurd (nothing_in r j);
    ordered = λ i j x y l e f. cc;
  }

  -- one counter more
  module _ (counts : List Register) (c r : Register) (found : List GrayReg) (so : AreGrays g counts (r ∷ []) found) (less : (b : Register) → Contains counts b → b.sig < c.sig) (s : Option Shape)
      (is : IsFollowed g c r s) where
    the_one : (q : Register) → Contains (r ∷ []) q → q ≡ r
    the_one q i = elim (parts r [] q i) [ inl e ↦ sym e | inr j ↦ absurd (nothing_in q j) ]

    new_is : (o : Option Shape) → IsFollowed g c r o → (x : GrayReg) → Contains (found_grays c r o) x → Follows g c r x.shape × (x ≡ gray_reg c r x.shape)
    new_is None h x i = absurd (nothing_in x i)
    new_is (Some t) h x i = elim (parts (gray_reg c r t) [] x i) [
      | inl e ↦ subst (λ (y : GrayReg). Follows g c r y.shape × (y ≡ gray_reg c r y.shape)) e (h, refl)
      | inr j ↦ absurd (nothing_in x j)
    ]

    new_all : (o : Option Shape) → IsFollowed g c r o → (t : Shape) → Follows g c r t → Contains (found_grays c r o) (gray_reg c r t)
    new_all None h t f = absurd (h t f)
    new_all (Some u) h t f =
        let same = one_shape u t c.sig r.sig c.width _ _ h.1 f.1 in
        subst (λ (v : Shape). Contains (gray_reg c r u ∷ []) (gray_reg c r v)) same (here (gray_reg c r u) [])

    new_ordered : (o : Option Shape) → IsAscending gray_key (found_grays c r o)
    new_ordered None = λ i j x y l e f. cc
    new_ordered (Some t) = ascending gray_key (gray_reg c r t ∷ []) (λ y i. absurd (nothing_in y i), tt)

    pub counter_more : AreGrays g (counts ++ c ∷ []) (r ∷ []) (found ++ found_grays c r s)
    counter_more = record {
      only = λ x i. elim (Contains-append_cases found (found_grays c r s) x i) [
        | inl j ↦ let h = so.only x j in (h.0, h.1, Contains-append_left counts (c ∷ []) h.0 h.2, h.3, h.4, h.5)
        | inr j ↦ let h = new_is s is x j in (c, r, Contains-push counts c, here r [], h.0, h.1)
      ];
      all = λ b q t i j f. elim (Contains-push_cases counts c b i) [
        | inl k ↦ Contains-append_left found (found_grays c r s) (gray_reg b q t) (so.all b q t k j f)
        | inr e ↦ let one = the_one q j in
            subst (λ (p : Register). Contains (found ++ found_grays c r s) (gray_reg p q t)) e
            (subst (λ (p : Register). Contains (found ++ found_grays c r s) (gray_reg c p t)) (sym one)
            (Contains-append_right found (found_grays c r s) (gray_reg c r t)
            (new_all s is t (subst (λ (p : Register). Follows g c p t) one (subst (λ (p : Register). Follows g p q t) (sym e) f)))))
      ];
      ordered = joined found (found_grays c r s) so.ordered (new_ordered s) (λ x y i j.
          let h = so.only x i in
          let k = new_is s is y j in
          let one = the_one h.1 h.3 in
          let m = less h.0 h.2 in
          let a : x.gray ≡ h.1.sig = ap (λ (z : GrayReg). z.gray) h.5 in
          let b : x.count ≡ h.0.sig = ap (λ (z : GrayReg). z.count) h.5 in
          let d : y.gray ≡ r.sig = ap (λ (z : GrayReg). z.gray) k.1 in
          let e : y.count ≡ c.sig = ap (λ (z : GrayReg). z.count) k.1 in
          let f : h.1.sig ≡ r.sig = ap (λ (p : Register). p.sig) one in
          before_by_count x y (a ∙ f ∙ sym d) (omega arith));
    }

  -- one register more, by its candidates for counters
  module _ (counts candidates done : List Register) (r : Register) (found more : List GrayReg) (so : AreGrays g counts done found) (own : AreGrays g candidates (r ∷ []) more)
      (less : (q : Register) → Contains done q → q.sig < r.sig) (only : (c : Register) → Contains candidates c → Contains counts c)
      (all : (c : Register) (s : Shape) → Contains counts c → Follows g c r s → Contains candidates c) where
    of_one : (q : Register) → Contains (r ∷ []) q → q ≡ r
    of_one q i = elim (parts r [] q i) [ inl e ↦ sym e | inr j ↦ absurd (nothing_in q j) ]

    pub register_more : AreGrays g counts (done ++ r ∷ []) (found ++ more)
    register_more = record {
      only = λ x i. elim (Contains-append_cases found more x i) [
        | inl j ↦ let h = so.only x j in (h.0, h.1, h.2, Contains-append_left done (r ∷ []) h.1 h.3, h.4, h.5)
        | inr j ↦ let h = own.only x j in (h.0, h.1, only h.0 h.2, subst (Contains (done ++ r ∷ [])) (sym (of_one h.1 h.3)) (Contains-push done r), h.4, h.5)
      ];
      all = λ c q s i j f. elim (Contains-push_cases done r q j) [
        | inl k ↦ Contains-append_left found more (gray_reg c q s) (so.all c q s i k f)
        | inr e ↦ let h = subst (λ (p : Register). Follows g c p s) (sym e) f in
            subst (λ (p : Register). Contains (found ++ more) (gray_reg c p s)) e
            (Contains-append_right found more (gray_reg c r s) (own.all c r s (all c s i h) (here r []) h))
      ];
      ordered = joined found more so.ordered own.ordered (λ x y i j.
          let h = so.only x i in
          let k = own.only y j in
          let m = less h.1 h.3 in
          let a : x.gray ≡ h.1.sig = ap (λ (z : GrayReg). z.gray) h.5 in
          let d : y.gray ≡ k.1.sig = ap (λ (z : GrayReg). z.gray) k.5 in
          let f : k.1.sig ≡ r.sig = ap (λ (p : Register). p.sig) (of_one k.1 k.3) in
          before_by_gray x y (omega arith));
    }

-- ---- steps of the walks over registers

module _ (g : Cells) (cs : List Register) (r : Register) (i : ℕ) (d : Register) (l : i < length cs) (up : Ascend cs) (old before now : List GrayReg) where
  -- one counter more of a list
  pub next_counter : (so : (more : List GrayReg) × (before ≡ old ++ more) × AreGrays g (take i cs) (r ∷ []) more) (s : Option Shape) → now ≡ before ++ found_grays (get_or cs i d) r s
      → IsFollowed g (get_or cs i d) r s → (more : List GrayReg) × (now ≡ old ++ more) × AreGrays g (take (i + 1) cs) (r ∷ []) more
  next_counter (more, e, so) s pushed is = (
    more ++ found_grays (get_or cs i d) r s,
    pushed ∙ ap (λ xs. xs ++ found_grays (get_or cs i d) r s) e ∙ append_assoc old more (found_grays (get_or cs i d) r s),
    subst (λ (l : List Register). AreGrays g l (r ∷ []) (more ++ found_grays (get_or cs i d) r s)) (sym (take_more cs i d l))
        (counter_more g (take i cs) (get_or cs i d) r more so (before_next cs up i d l) s is),
  )

module _ (g : Cells) (rs candidates : List Register) (i : ℕ) (d : Register) (l : i < length rs) (up : Ascend rs) (found now : List GrayReg) (so : AreGrays g rs (take i rs) found)
    (only : (c : Register) → Contains candidates c → Contains rs c) (all : (c : Register) (s : Shape) → Contains rs c → Follows g c (get_or rs i d) s → Contains candidates c) where
  -- one register more of the list
  pub next_register : (more : List GrayReg) × (now ≡ found ++ more) × AreGrays g candidates (get_or rs i d ∷ []) more → AreGrays g rs (take (i + 1) rs) now
  next_register (more, e, own) =
      subst (AreGrays g rs (take (i + 1) rs)) (sym e)
      (subst (λ (l : List Register). AreGrays g rs l (found ++ more)) (sym (take_more rs i d l))
      (register_more g rs candidates (take i rs) (get_or rs i d) found more so own (before_next rs up i d l) only all))
