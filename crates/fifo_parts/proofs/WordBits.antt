-- Register bits that are word bits, by the terms under which they take nodes.
use Rattle.std.proofs.Common.{◌≡◌, ◌∙◌, ◌↔◌, ◌⊎◌, inl, inr, sym, ap, ap₂, refl, subst, arith, ℕ, zero, suc, ◌-◌, ◌<◌, ◌==◌, ◌&&◌, ◌||◌, not, Bool, true, false, cond, Option, Some, None, List, Contains, eqb-true}
use Rattle.std.proofs.lemmas.Bool.Decides.{nat_tests}
use Rattle.cell_graph.specs.Cells.{Cells, signal_width}
use Rattle.cell_graph.specs.Origin.{TreeBit}
use Rattle.cell_graph.specs.Tree.{Tree, Var, all_below, bit_at, number}
use Rattle.cell_graph.proofs.Words.{bit-number}
use Rattle.cdc_model.specs.Design.{Design}
use Rattle.cdc_model.proofs.Ascending.{here, later, nothing_in, parts, in_map, from_map}
use Rattle.cdc_model.proofs.Loads.{all_of, each_of}
use Rattle.fifo_terms.specs.Terms as rules
use Rattle.fifo_terms.specs.Terms.{AreOne, HasTerm}
use Rattle.fifo_laws.specs.Sides.{Side}
use Rattle.fifo_laws.specs.Tests.{IsFullTest}
use Rattle.fifo_laws.specs.Words.{low_bits}
use Rattle.gray_pointer.specs.Words.{IsPlain}
use Rattle.gray_pointer.proofs.Bits.{same_place}
use Rattle.fifo_nodes.specs.declared.term.Term.{Term as Found}
use Rattle.fifo_nodes.specs.Terms.{AreTerms, AreTermsIn, IsTermIn, term_of, terms_of}
use Rattle.fifo_parts.specs.declared.words.Said.{Said}
use Rattle.fifo_parts.specs.Words.{AreAllowed, HaveCommon, is_of, is_said, is_told, said_by, says_all, says_word, word_bit, word_said}
use Rattle.fifo_parts.proofs.SaidBits.{beq-true, beq-same, bit_term, bit_node, has_is, has_said, one_is, said_has, says_term, term_says}

pub true_all : (f : ℕ → Bool) (n : ℕ) → ((i : ℕ) → i < n → f i ≡ true) → all_below f n ≡ true
true_all f zero h = refl
true_all f (suc n) h = ap₂ (λ p q. p && q) (true_all f n (λ i l. h i (omega arith))) (h n (omega arith))

pub all_true : (f : ℕ → Bool) (n : ℕ) → all_below f n ≡ true → (i : ℕ) → i < n → f i ≡ true
all_true f zero e i l = absurd (omega arith)
all_true f (suc n) e i l = go (all_below f n) refl (f n) refl e (λ h lt. all_true f n h i lt)
  where
    last_or_before : (a b : ℕ) → a < suc b → (a ≡ b) ⊎ (a < b)
    last_or_before a b h = grind arith

    go : (p : Bool) → all_below f n ≡ p → (q : Bool) → f n ≡ q → (p && q) ≡ true → (all_below f n ≡ true → i < n → f i ≡ true) → f i ≡ true
    go true h true k z ih = elim (last_or_before i n l) [ inl same ↦ ap f same ∙ k | inr lt ↦ ih h lt ]
    go true h false k z ih = cc
    go false h true k z ih = cc
    go false h false k z ih = cc

-- the terms of a word are its bits
pub low_has : (b w m n i : ℕ) → i < m → Contains (low_bits b w m n) (bit_term b w i (bit_at n i))
low_has b w zero n i l = absurd (omega arith)
low_has b w (suc m) n i l = go (i == m) refl (low_has b w m n i)
  where
    go : (t : Bool) → (i == m) ≡ t → (i < m → Contains (low_bits b w m n) (bit_term b w i (bit_at n i)))
        → Contains (low_bits b w (suc m) n) (bit_term b w i (bit_at n i))
    go true e ih = subst (λ k. Contains (low_bits b w (suc m) n) (bit_term b w k (bit_at n k))) (sym (eqb-true i m e))
        (here (bit_term b w m (bit_at n m)) (low_bits b w m n))
    go false e ih = later (bit_term b w m (bit_at n m)) (low_bits b w m n) (bit_term b w i (bit_at n i)) (ih (grind (arith, nat_tests, e)))

pub low_is : (b w m n : ℕ) (t : rules.Term) → Contains (low_bits b w m n) t → (i : ℕ) × (i < m) × (t ≡ bit_term b w i (bit_at n i))
low_is b w zero n t h = absurd (nothing_in t h)
low_is b w (suc m) n t h = elim (parts (bit_term b w m (bit_at n m)) (low_bits b w m n) t h) [
  | inl same ↦ (m, (omega arith), sym same)
  | inr i ↦ let k = low_is b w m n t i in let l = k.1 in (k.0, (omega arith), k.2)
]

-- a test for full is a term of one node
full_is : (d : Design) (tree : ℕ → Tree) (write read : Side) (t : rules.Term) → IsFullTest d tree write read t → (n : TreeBit) × (v : Bool)
    × (t ≡ rules.Is n v)
full_is d tree write read t (inl (n, v, e, k)) = (n, v, e)
full_is d tree write read t (inr (f, u, e, k)) = (_, u, e)

-- the terms say each bit of a word, and nothing else but terms of a push
abbrev pub Says : (index ts : List rules.Term) → Type 0
Says index ts = (t : rules.Term) → Contains index t → HasTerm ts t

abbrev pub Allowed : (index ts ps : List rules.Term) → Type 0
Allowed index ts ps = (t : rules.Term) → Contains ts t → HasTerm index t ⊎ HasTerm ps t

-- one of them is a test for full among those of a push
abbrev pub Guarded : Design → (ℕ → Tree) → (write read : Side) → (ts ps : List rules.Term) → Type 0
Guarded d tree write read ts ps = (t : rules.Term) × Contains ts t × HasTerm ps t × IsFullTest d tree write read t

module _ (g : Cells) (plain : IsPlain g) (count w : ℕ) (wide : signal_width g.signals count ≡ w) (ts ps : List rules.Term) (found pushed : List Found)
    (is_found : AreTerms g ts found) (is_pushed : AreTerms g ps pushed) where
  abbrev pub index : ℕ → List rules.Term
  index n = low_bits count w (w - 1) n

  says_bit : (i : ℕ) (v : Bool) → is_said g count w found i v ≡ true → Contains ts (bit_term count w i v)
  says_bit i v e = is_found.only (bit_term count w i v) (said_has g plain count w wide found i v is_found.within e)

  bit_says : (i : ℕ) (v : Bool) → i < w - 1 → Contains ts (bit_term count w i v) → is_said g count w found i v ≡ true
  bit_says i v l h = has_said g plain count w wide found i v is_found.within (omega arith) (is_found.all (bit_term count w i v) h)

  pub says_is : (n : ℕ) → (says_all g count w found n ≡ true) ↔ Says (index n) ts
  says_is n = (
    λ e t h. let k = low_is count w (w - 1) n t h in
        subst (HasTerm ts) (sym k.2) ((has_is ts (bit_node count w k.0) (bit_at n k.0)).1
        (says_bit k.0 (bit_at n k.0) (all_true (λ i. is_said g count w found i (bit_at n i)) (w - 1) e k.0 k.1))),
    λ h. true_all (λ i. is_said g count w found i (bit_at n i)) (w - 1) (λ i l. bit_says i (bit_at n i) l
        ((has_is ts (bit_node count w i) (bit_at n i)).0 (h (bit_term count w i (bit_at n i)) (low_has count w (w - 1) n i l)))),
  )

  -- a term of the word says a bit of it
  of_word : (n : ℕ) (t : Found) → IsTermIn g t → says_word g count w n t ≡ true → HasTerm (index n) (term_of g t)
  of_word n t inside e = go (said_by g count w t) refl e
    where
      go : (o : Option Said) → said_by g count w t ≡ o → is_of n o ≡ true → HasTerm (index n) (term_of g t)
      go None f k = cc
      go (Some s) f k =
          let h = says_term g plain count w wide t s inside f in
          let l = h.1 in
          let v = beq-true (bit_at n s.at) s.value k in
          subst (HasTerm (index n)) (sym h.0) ((has_is (index n) (bit_node count w s.at) s.value).1
          (subst (λ x. Contains (index n) (bit_term count w s.at x)) v (low_has count w (w - 1) n s.at (omega arith))))

  word_of : (n : ℕ) (t : Found) → IsTermIn g t → HasTerm (index n) (term_of g t) → says_word g count w n t ≡ true
  word_of n t inside (u, h, one) =
      let k = low_is count w (w - 1) n u h in
      let same = one_is (term_of g t) (bit_node count w k.0) (bit_at n k.0) (subst (AreOne (term_of g t)) k.2 one) in
      let l = k.1 in
      ap (is_of n) (term_says g plain count w wide t k.0 (bit_at n k.0) inside (omega arith) same) ∙ beq-same (bit_at n k.0)

  pushed_has : (t : rules.Term) → HasTerm (terms_of g pushed) t → HasTerm ps t
  pushed_has t (u, h, one) = (u, is_pushed.only u h, one)

  has_pushed : (t : rules.Term) → HasTerm ps t → HasTerm (terms_of g pushed) t
  has_pushed t (u, h, one) = (u, is_pushed.all u h, one)

  pub allowed_is : (n : ℕ) → AreAllowed g count w n pushed found ↔ Allowed (index n) ts ps
  allowed_is n = (
    λ h t i. let k = from_map (term_of g) found t (is_found.all t i) in
        subst (λ x. HasTerm (index n) x ⊎ HasTerm ps x) k.2 (elim (each_of (λ x. (says_word g count w n x ≡ true) ⊎ HasTerm (terms_of g pushed)
        (term_of g x)) found h k.0 k.1) [
          | inl e ↦ inl (of_word n k.0 (is_found.within k.0 k.1) e)
          | inr j ↦ inr (pushed_has (term_of g k.0) j)
        ]),
    λ h. all_of (λ x. (says_word g count w n x ≡ true) ⊎ HasTerm (terms_of g pushed) (term_of g x)) found
        (λ x i. elim (h (term_of g x) (is_found.only (term_of g x) (in_map (term_of g) found x i))) [
          | inl j ↦ inl (word_of n x (is_found.within x i) j)
          | inr j ↦ inr (has_pushed (term_of g x) j)
        ]),
  )

  module _ (d : Design) (tree : ℕ → Tree) (write read : Side) (full : List Found)
      (are_full : (t : Found) → Contains full t ↔ (Contains pushed t × IsFullTest d tree write read (term_of g t))) where
    pub full_within : AreTermsIn g full
    full_within t i = is_pushed.within t ((are_full t).0 i).0

    pub common_is : HaveCommon g found full ↔ Guarded d tree write read ts ps
    common_is = (forth, back)
      where
        forth : HaveCommon g found full → Guarded d tree write read ts ps
        forth (t, i, (u, h, one)) =
            let k = from_map (term_of g) full u h in
            let test = subst (IsFullTest d tree write read) k.2 ((are_full k.0).0 k.1).1 in
            let form = full_is d tree write read u test in
            let same = one_is (term_of g t) form.0 form.1 (subst (AreOne (term_of g t)) form.2 one) ∙ sym form.2 in (
              term_of g t,
              is_found.only (term_of g t) (in_map (term_of g) found t i),
              (u, is_pushed.only u (subst (Contains (terms_of g pushed)) k.2 (in_map (term_of g) pushed k.0 ((are_full k.0).0 k.1).0)), one),
              subst (IsFullTest d tree write read) (sym same) test,
            )

        back : Guarded d tree write read ts ps → HaveCommon g found full
        back (t, i, has, test) =
            let form = full_is d tree write read t test in
            let there = subst (Contains ps) (sym form.2) ((has_is ps form.0 form.1).0 (subst (HasTerm ps) form.2 has)) in
            let p = from_map (term_of g) pushed t (is_pushed.all t there) in
            let f = from_map (term_of g) found t (is_found.all t i) in
            let in_full = (are_full p.0).1 (p.1, subst (IsFullTest d tree write read) (sym p.2) test) in (
              f.0,
              f.1,
              subst (HasTerm (terms_of g full)) (sym f.2)
                  (subst (HasTerm (terms_of g full)) (sym form.2) ((has_is (terms_of g full) form.0 form.1).1
                  (subst (Contains (terms_of g full)) (p.2 ∙ form.2) (in_map (term_of g) full p.0 in_full)))),
            )

  -- the word that they say, where there is one for which they are allowed
  module _ (n : ℕ) (says : Says (index n) ts) (allowed : Allowed (index n) ts ps) where
    abbrev pub word : ℕ
    word = number (word_bit g count w found pushed) (w - 1)

    said_n : (i : ℕ) → i < w - 1 → is_said g count w found i (bit_at n i) ≡ true
    said_n = all_true (λ i. is_said g count w found i (bit_at n i)) (w - 1) ((says_is n).1 says)

    told : (i : ℕ) → i < w - 1 → is_told g count w found i ≡ true
    told i l = go (bit_at n i) (is_said g count w found i true) refl (is_said g count w found i false) refl (said_n i l)
      where
        go : (v p : Bool) → is_said g count w found i true ≡ p → (q : Bool) → is_said g count w found i false ≡ q
            → is_said g count w found i v ≡ true → (p || q) ≡ true
        go v true h q k e = refl
        go true false h q k e = cc
        go false false h true k e = refl
        go false false h false k e = cc

    pub word_is : word_said g count w found pushed ≡ Some word
    word_is = ap (λ b. cond b (Some word) None) (true_all (is_told g count w found) (w - 1) told)

    word_at : (i : ℕ) → i < w - 1 → bit_at word i ≡ word_bit g count w found pushed i
    word_at i l = bit-number (word_bit g count w found pushed) (w - 1) i l

    -- both values are said: which is the word's
    chosen : (p q u : Bool) → (p || q) ≡ true → cond (p && (not q || not u)) p q ≡ true
    chosen true true true e = refl
    chosen true true false e = refl
    chosen true false u e = refl
    chosen false true u e = refl
    chosen false false u e = cc

    pub word_says : Says (index word) ts
    word_says = (says_is word).0 (true_all (λ i. is_said g count w found i (bit_at word i)) (w - 1) (λ i l.
        ap (is_said g count w found i) (word_at i l) ∙ by_value (word_bit g count w found pushed i) i
        ∙ chosen (is_said g count w found i true) (is_said g count w found i false) (is_said g count w pushed i true) (told i l)))
      where
        by_value : (v : Bool) (i : ℕ) → is_said g count w found i v ≡ cond v (is_said g count w found i true) (is_said g count w found i false)
        by_value true i = refl
        by_value false i = refl

    bit_here : (i : ℕ) (p q u : Bool) → is_said g count w found i true ≡ p → is_said g count w found i false ≡ q → is_said g count w pushed i true ≡ u
        → word_bit g count w found pushed i ≡ (p && (not q || not u))
    bit_here i p q u h k m = ap₂ (λ x y. x && y) h (ap₂ (λ x y. x || y) (ap not k) (ap not m))

    in_word : (t : rules.Term) (i : ℕ) → i < w - 1 → t ≡ bit_term count w i (word_bit g count w found pushed i) → HasTerm (index word) t
    in_word t i l e = subst (HasTerm (index word)) (sym e) ((has_is (index word) (bit_node count w i) (word_bit g count w found pushed i)).1
        (subst (λ v. Contains (index word) (bit_term count w i v)) (word_at i l) (low_has count w (w - 1) word i l)))

    pushed_bit : (i : ℕ) (v : Bool) → is_said g count w pushed i v ≡ true → HasTerm ps (bit_term count w i v)
    pushed_bit i v e = (has_is ps (bit_node count w i) v).1 (is_pushed.only (bit_term count w i v)
        (said_has g plain count w wide pushed i v is_pushed.within e))

    -- where a word has 0, a term that says 1 is one of a push
    one_pushed : (i : ℕ) → i < w - 1 → bit_at n i ≡ false → is_said g count w found i true ≡ true → is_said g count w pushed i true ≡ true
    one_pushed i l zero_there said = elim (allowed (bit_term count w i true) (says_bit i true said)) [
      | inl (u, h, one) ↦
          let k = low_is count w (w - 1) n u h in
          let same : bit_term count w i true ≡ bit_term count w k.0 (bit_at n k.0) = one_is (bit_term count w i true) (bit_node count w k.0)
          (bit_at n k.0) (subst (AreOne (bit_term count w i true)) k.2 one) in
          let node : bit_node count w i ≡ bit_node count w k.0 = cc in
          let at = same_place (Var count w) (Var count w) i k.0 node in
          let value : true ≡ bit_at n k.0 = cc in
          let clash : true ≡ false = value ∙ ap (bit_at n) (sym at) ∙ zero_there in cc
      | inr h ↦ has_said g plain count w wide pushed i true is_pushed.within (omega arith)
          (is_pushed.all (bit_term count w i true) ((has_is ps (bit_node count w i) true).0 h))
    ]

    pub word_allowed : Allowed (index word) ts ps
    word_allowed t i = elim (allowed t i) [
      | inr h ↦ inr h
      | inl (u, h, one) ↦
          let k = low_is count w (w - 1) n u h in
          let same = one_is t (bit_node count w k.0) (bit_at n k.0) (subst (AreOne t) k.2 one) in
          go t k.0 k.1 (bit_at n k.0) refl same (is_said g count w found k.0 true) refl (is_said g count w found k.0 false) refl
          (is_said g count w pushed k.0 true) refl
    ]
      where
        go : (t : rules.Term) (i : ℕ) → i < w - 1 → (v : Bool) → bit_at n i ≡ v → t ≡ bit_term count w i v → (p : Bool)
            → is_said g count w found i true ≡ p → (q : Bool) → is_said g count w found i false ≡ q
            → (u : Bool) → is_said g count w pushed i true ≡ u → HasTerm (index word) t ⊎ HasTerm ps t
        go t i l true b e true h true k true m = inr (subst (HasTerm ps) (sym e) (pushed_bit i true m))
        go t i l true b e true h true k false m = inl (in_word t i l (e ∙ ap (bit_term count w i) (sym (bit_here i true true false h k m))))
        go t i l true b e true h false k u m = inl (in_word t i l (e ∙ ap (bit_term count w i) (sym (bit_here i true false u h k m))))
        go t i l true b e false h q k u m = let clash : false ≡ true = sym h ∙ ap (is_said g count w found i) (sym b) ∙ said_n i l in cc
        go t i l false b e true h true k true m = inl (in_word t i l (e ∙ ap (bit_term count w i) (sym (bit_here i true true true h k m))))
        go t i l false b e true h true k false m = let clash : false ≡ true = sym m ∙ one_pushed i l b h in cc
        go t i l false b e true h false k u m = let clash : false ≡ true = sym k ∙ ap (is_said g count w found i) (sym b) ∙ said_n i l in cc
        go t i l false b e false h q k u m = inl (in_word t i l (e ∙ ap (bit_term count w i) (sym (bit_here i false q u h k m))))
