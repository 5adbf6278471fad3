-- Tests have one value in readings that agree on the firm bits of their side.
use Rattle.std.proofs.Common.{◌≡◌, ℕ, zero, suc, Bool, true, false, not, ◌&&◌, Some, None, List, [], ◌∷◌, Contains, map, length, inl, inr, refl, sym, ap, ap₂, subst, ◌∙◌, arith}
use Rattle.std.specs.Prelude.{slice_get}
use Rattle.std.specs.Bool.{beq}
use Rattle.cdc_base.specs.declared.bit.Bit.{Bit}
use Rattle.cell_graph.specs.Reading.{Reading}
use Rattle.cell_graph.specs.Tree.{Tree, bit}
use Rattle.cell_graph.specs.Origin.{TreeBit, tree_bit}
use Rattle.cdc_model.specs.declared.scheme.GrayReg.{GrayReg}
use Rattle.cdc_model.specs.Design.{Design, flipped, word}
use Rattle.cdc_model.specs.Facts.{OnlySettling, IsCoded}
use Rattle.cdc_model.specs.Gray.{exclusive_or, gray_code}
use Rattle.cdc_model.specs.Runs.{State, AreLoose}
use Rattle.cdc_model.specs.Schemes.{Trees, Sync, last_flop}
use Rattle.cdc_model.specs.Word.{values}
use Rattle.fifo_terms.specs.Terms.{Term, Differ, holds, all_hold}
use Rattle.fifo_terms.specs.Codes.{Code, count_in, IsHeld}
use Rattle.fifo_terms.specs.Shows.{node_terms, full_apart, empty_apart, IsTest}
use Rattle.fifo_terms.proofs.Codes.{code_sound}
use Rattle.fifo_terms.proofs.Same.{one_holds}
use Rattle.fifo_terms.proofs.Terms.{terms_sound}
use Rattle.fifo_laws.specs.Sides.{Side, side_width, IsSide, code_of, came_over}
use Rattle.fifo_laws.specs.Tests.{IsFlag, IsFullTest, IsEmptyTest}
use Rattle.fifo_laws.specs.Laws.{AreLists}
use Rattle.fifo_laws.proofs.Sides.{own_values, came_values, same_map, IsFirm, free_settled, firm_flipped, counts_firm, codes_firm, last_firm}
use Rattle.fifo_laws.proofs.Tell.{held_now}

-- ---- values

map_get : {A B : Type 0} (f : A → B) (xs : List A) (i : ℕ) (x : A) → slice_get xs i ≡ Some x → slice_get (map f xs) i ≡ Some (f x)
map_get f [] i x e = cc
map_get f (y ∷ ys) zero x e = ap Some (ap f (let h : y ≡ x = cc in h))
map_get f (y ∷ ys) (suc i) x e = map_get f ys i x e

same_some : {A : Type 0} (x y : A) → Some x ≡ Some y → x ≡ y
same_some x y e = cc

all_same : (r q : Reading) (ts : List Term) → ((t : Term) → Contains ts t → holds r t ≡ holds q t) → all_hold r ts ≡ all_hold q ts
all_same r q [] h = refl
all_same r q (t ∷ ts) h = ap₂ (λ u v. u && v) (h t (0, omega arith, refl)) (all_same r q ts (λ s i. h s (suc i.0, omega (arith, i.1), i.2)))

beq_tells : (a b v : Bool) → beq a v ≡ beq b v → a ≡ b
beq_tells true true v e = refl
beq_tells false false v e = refl
beq_tells true false true e = cc
beq_tells true false false e = cc
beq_tells false true true e = cc
beq_tells false true false e = cc

-- a node whose terms hold alike has one value
node_same : (r q : Reading) (n : TreeBit) (u : Bool) → all_hold r (node_terms n u) ≡ all_hold q (node_terms n u) → tree_bit r n ≡ tree_bit q n
node_same r q None u e = refl
node_same r q (Some n) u e = beq_tells (bit r n.0 n.1) (bit q n.0 n.1) u (sym (terms_sound r n.0 n.1 u) ∙ e ∙ terms_sound q n.0 n.1 u)

-- a test by a code has one value where the code's count and the code that came over have
test_same : (r q : Reading) (k : Code) (over : List TreeBit) (apart : ℕ → ℕ → Bool) (t : Term) → IsHeld r k → IsHeld q k → count_in r k ≡ count_in q k → values r over ≡ values q over
    → IsTest k over apart t → holds r t ≡ holds q t
test_same r q k over apart t hr hq count came (n, v, e, shows) =
    ap (holds r) e ∙ ap (λ x. beq x v) (node_same r q n (not v) (all_same r q (node_terms n (not v)) term)) ∙ sym (ap (holds q) e)
  where
    term : (s : Term) → Contains (node_terms n (not v)) s → holds r s ≡ holds q s
    term s i =
        let (j, x, y, l, code, there, one) = shows s i in
        let ex : tree_bit r x ≡ tree_bit q x = same_some (tree_bit r x) (tree_bit q x) (sym (code_sound r k j x hr code) ∙ ap (λ c. slice_get (gray_code c) j) count ∙ code_sound q k j x hq code) in
        let ey : tree_bit r y ≡ tree_bit q y = same_some (tree_bit r y) (tree_bit q y) (sym (map_get (tree_bit r) over j y there) ∙ ap (λ bs. slice_get bs j) came ∙ map_get (tree_bit q) over j y there) in
        let b = apart (length over) j in
        one_holds r s (Differ x y b) one ∙ ap₂ (λ u w. beq (exclusive_or u w) b) ex ey ∙ sym (one_holds q s (Differ x y b) one)

-- ---- firm bits

-- both readings have the firm bits of a clock
abbrev pub AgreeOn : Design → List Sync → (clock : ℕ) → Reading → Reading → Type 0
AgreeOn d syncs c r q = (b : Bit) → IsFirm d syncs c b → r b ≡ q b

module _ (d : Design) (tree : ℕ → Tree) (t : Trees) (syncs : List Sync) (grays : List GrayReg) (lists : AreLists d tree t syncs grays) where
  -- the flips of a bit leave the firm bits of its clock as they are
  pub flips_agree : (old : State) (new : Reading) (x : Bit) (c : ℕ) (flips : Bit → Bool) → OnlySettling d syncs old → d.clock x ≡ Some c → AreLoose d old new x flips
      → AgreeOn d syncs c (flipped flips old.values) old.values
  flips_agree old new x c flips only on loose b firm = firm_flipped d tree t syncs grays lists old new x b c flips only firm on loose

  module _ (to : ℕ) (s : Side) (side : IsSide d tree syncs grays to s) (r q : Reading) where
    pub count_same : AgreeOn d syncs s.clock r q → map r (word d s.reg.count) ≡ map q (word d s.reg.count)
    count_same agree = same_map r q (word d s.reg.count) (counts_firm d tree t syncs grays lists to s side) agree

    coded_same : AgreeOn d syncs s.clock r q → IsCoded s.reg.shape (map q (word d s.reg.count)) (map q (word d s.reg.gray)) → IsCoded s.reg.shape (map r (word d s.reg.count)) (map r (word d s.reg.gray))
    coded_same agree h = subst (λ (bs : List Bool). IsCoded s.reg.shape bs (map r (word d s.reg.gray))) (sym (count_same agree))
        (subst (IsCoded s.reg.shape (map q (word d s.reg.count))) (sym (same_map r q (word d s.reg.gray) (codes_firm d tree t syncs grays lists to s side) agree)) h)

    came_same : AgreeOn d syncs to r q → values r (came_over d s) ≡ values q (came_over d s)
    came_same agree = came_values d r s ∙ same_map r q (map last_flop s.over) (last_firm d tree t syncs grays lists to s side) agree ∙ sym (came_values d q s)

    -- a test by this side's code has one value
    code_test_same : (far : Side) → values r (came_over d far) ≡ values q (came_over d far) → AgreeOn d syncs s.clock r q → IsCoded s.reg.shape (map q (word d s.reg.count)) (map q (word d s.reg.gray))
        → (apart : ℕ → ℕ → Bool) (u : Term) → IsTest (code_of d s) (came_over d far) apart u → holds r u ≡ holds q u
    code_test_same far came agree coded apart u test = test_same r q (code_of d s) (came_over d far) apart u (held_now d tree t syncs grays lists to s side r (coded_same agree coded))
        (held_now d tree t syncs grays lists to s side q coded)
        (own_values r s.reg.count (side_width d s) 0 (side_width d s) ∙ count_same agree ∙ sym (own_values q s.reg.count (side_width d s) 0 (side_width d s))) came test

  -- ---- tests

  -- so has a flag
  flag_same : (near far : Side) (apart : ℕ → ℕ → Bool) (f : Bit) (u : Bool) → IsFlag d tree near far apart f u → (r q : Reading) → AgreeOn d syncs near.clock r q → r f ≡ q f
  flag_same near far apart f u flag r q agree = agree f (record { clock = flag.clock; settled = free_settled d t lists.trees syncs lists.are_syncs near.clock f flag.register flag.clock flag.own })

  module _ (write read : Side) (writes : IsSide d tree syncs grays read.clock write) (reads : IsSide d tree syncs grays write.clock read) (r q : Reading) where
    -- a test for full has one value in readings that agree on the firm bits of the write side
    pub full_same : AgreeOn d syncs write.clock r q → IsCoded write.reg.shape (map q (word d write.reg.count)) (map q (word d write.reg.gray)) → (u : Term) → IsFullTest d tree write read u → holds r u ≡ holds q u
    full_same agree coded u (inl test) = code_test_same read.clock write writes r q read (came_same write.clock read reads r q agree) agree coded full_apart u test
    full_same agree coded u (inr (f, v, e, flag)) = ap (holds r) e ∙ ap (λ x. beq x v) (flag_same write read full_apart f v flag r q agree) ∙ sym (ap (holds q) e)

    -- a test for empty in readings that agree on those of the read side
    pub empty_same : AgreeOn d syncs read.clock r q → IsCoded read.reg.shape (map q (word d read.reg.count)) (map q (word d read.reg.gray)) → (u : Term) → IsEmptyTest d tree write read u → holds r u ≡ holds q u
    empty_same agree coded u (inl test) = code_test_same write.clock read reads r q write (came_same read.clock write writes r q agree) agree coded empty_apart u test
    empty_same agree coded u (inr (f, v, e, flag)) = ap (holds r) e ∙ ap (λ x. beq x v) (flag_same read write empty_apart f v flag.0 r q agree) ∙ sym (ap (holds q) e)
