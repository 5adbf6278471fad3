-- A ring whose request also reads another group's bit: after one step its values may turn twice, where the request is unsettled.
-- So the law of the ring needs that only settling flops are unsettled after the step too.
use Rattle.std.proofs.Common.{◌≡◌, ℕ, zero, suc, ◌<◌, ◌≤◌, ◌==◌, ◌&&◌, ◌||◌, nat_lt, Bool, true, false, cond, not, Some, None, List, [], ◌∷◌, ◌⊎◌, inl, inr, refl, sym, ap, ap₂, subst, ◌∙◌, arith, eqb-true, map}
use Rattle.std.proofs.lemmas.Bool.{both_ways, and_parts, or_cases, not-true, ltb-true, eqb-false}
use Rattle.cdc_base.specs.declared.bit.Bit.{Bit}
use Rattle.cell_graph.specs.Reading.{bit_eq, Reading}
use Rattle.cell_graph.proofs.Bits.{bit_eq-true}
use Rattle.cell_graph.specs.Tree.{Tree, Var, Const, And, Xor, Mux, bit}
use Rattle.cell_graph.specs.Cofactor.{same, reads}
use Rattle.cdc_model.specs.Design.{Design}
use Rattle.cdc_model.specs.Runs.{State, IsStep}
use Rattle.cdc_model.specs.Schemes.{Trees, AreTrees, Follows, Sync, IsSync, Ring, behind_request, IsRing}
use Rattle.cdc_model.specs.Facts.{OnlySettling, IsSeen, TurnsOnce, RingTurnsOnce}
use Rattle.cdc_model.specs.declared.record.RecordStep.{RecordStep}
use Rattle.cdc_model.specs.Replay.{has_edge, stepped}
use Rattle.cdc_model.proofs.Replay.{fixed_step}
use Rattle.cdc_model.specs.Nets.{trees_of}
use Rattle.cdc_model.proofs.Net.{trees_are}

abbrev bit_of : ℕ → Bit
bit_of sig = record { sig = sig; at = 0 }

-- request 0, flops there 1 and 2, acknowledgement 3, flops back 4 and 5, and an input 6 of the other clock
abbrev tree_at : List Tree → ℕ → Tree
tree_at [] n = Const 1 0
tree_at (t ∷ ts) zero = t
tree_at (t ∷ ts) (suc n) = tree_at ts n

abbrev tree : ℕ → Tree
tree n = tree_at (Mux (Xor (Var 0 1) (Var 5 1)) (Var 0 1) (Var 6 1) ∷ Var 0 1 ∷ Var 1 1 ∷ And (Var 2 1) (Var 2 1) ∷ Var 3 1 ∷ Var 4 1 ∷ []) n

abbrev clock_by : ℕ → ℕ
clock_by n = cond ((n == 0) || ((n == 4) || (n == 5))) 0 1

abbrev design : Design
design = record {
  width = λ sig. 1;
  is_register = λ b. (b.at == 0) && nat_lt b.sig 6;
  is_input = λ b. (b.at == 0) && (b.sig == 6);
  clocks = 2;
  clock = λ b. cond ((b.at == 0) && nat_lt b.sig 7) (Some (clock_by b.sig)) None;
  group_of = λ c. c;
  settle = λ c. 1;
  start = λ b. cond ((b.at == 0) && nat_lt b.sig 6) (Some false) None;
  next = λ r x. bit r (tree x.sig) x.at;
  copied = λ x. same [] (tree x.sig) x.at;
}

abbrev trees : Trees
trees = trees_of tree (λ b. false) (λ g. false)

are_trees : AreTrees design trees
are_trees = trees_are design tree (λ b. false) (λ g. false) (record { next = λ r x reg. refl; copied = λ x reg. refl }) (λ c. (omega arith, omega arith)) (λ b c e. low b ((b.at == 0) && nat_lt b.sig 7) refl e) (λ g e. absurd (no_gray e))
  where
    no_gray : false ≡ true → ⊥
    no_gray e = cc

    low : (b : Bit) (v : Bool) → ((b.at == 0) && nat_lt b.sig 7) ≡ v → {c : ℕ} → cond v (Some (clock_by b.sig)) None ≡ Some c → b.at < 1
    low b true h e = let p = eqb-true b.at 0 (and_parts (b.at == 0) (nat_lt b.sig 7) h).0 in omega arith
    low b false h e = cc

-- of the first n registers only g may read f
abbrev only_one : (f g n : ℕ) → Bool
only_one f g zero = true
only_one f g (suc n) = ((n == g) || not (reads [] (tree n) 0 (bit_of f))) && only_one f g n

one_of : (f g n k : ℕ) → only_one f g n ≡ true → k < n → reads [] (tree k) 0 (bit_of f) ≡ true → k ≡ g
one_of f g zero k h l r = absurd (omega arith)
one_of f g (suc n) k h l r =
    let p = and_parts ((n == g) || not (reads [] (tree n) 0 (bit_of f))) (only_one f g n) h in
    go (n == k) refl p.0 (one_of f g n k p.1)
  where
    go : (v : Bool) → (n == k) ≡ v → ((n == g) || not (reads [] (tree n) 0 (bit_of f))) ≡ true → (k < n → reads [] (tree k) 0 (bit_of f) ≡ true → k ≡ g) → k ≡ g
    go true e q ih =
        let m : n ≡ k = eqb-true n k e in
        elim (or_cases (n == g) (not (reads [] (tree n) 0 (bit_of f))) q) [
          | inl w ↦ sym m ∙ eqb-true n g w
          | inr w ↦ absurd (both_ways (reads [] (tree n) 0 (bit_of f)) (not-true (reads [] (tree n) 0 (bit_of f)) w) (subst (λ (j : ℕ). reads [] (tree j) 0 (bit_of f) ≡ true) (sym m) r))
        ]
    go false e q ih = ih (omega (arith, eqb-false n k e)) r

follows : (f g : ℕ) → only_one f g 6 ≡ true → design.is_register (bit_of g) ≡ true → design.copied (bit_of g) ≡ Some (bit_of f) → design.clock (bit_of g) ≡ design.clock (bit_of f)
    → Follows design trees (bit_of f) (bit_of g)
follows f g h reg copy clock = record { register = reg; copy = copy; clock = clock; only = λ x r reads. place x r reads; hidden = refl }
  where
    place : (x : Bit) → design.is_register x ≡ true → trees.reads [] x (bit_of f) ≡ true → x ≡ bit_of g
    place x r q =
        let p = and_parts (x.at == 0) (nat_lt x.sig 6) r in
        let e : x.at ≡ 0 = eqb-true x.at 0 p.0 in
        let k = one_of f g 6 x.sig h (ltb-true x.sig 6 p.1) (subst (λ (i : ℕ). reads [] (tree x.sig) i (bit_of f) ≡ true) e q) in
        ap₂ (λ s a. record { sig = s; at = a }) k e

abbrev there : Sync
there = record { from = bit_of 0; first = bit_of 1; more = bit_of 2 ∷ [] }

abbrev back : Sync
back = record { from = bit_of 3; first = bit_of 4; more = bit_of 5 ∷ [] }

abbrev syncs : List Sync
syncs = there ∷ back ∷ []

no_copy : {A : Type 0} (a : Bit) → None ≡ Some a → A
no_copy a e = cc

-- what reads the last flops is no copy, so the chains end there
last_there : (g : Bit) → Follows design trees (bit_of 2) g → ⊥
last_there g k = no_copy (bit_of 2) (ap design.copied (k.only (bit_of 3) refl refl) ∙ k.copy)

last_back : (g : Bit) → Follows design trees (bit_of 5) g → ⊥
last_back g k = no_copy (bit_of 5) (ap design.copied (k.only (bit_of 0) refl refl) ∙ k.copy)

there_ok : IsSync design trees there
there_ok = record {
  crossing = record { register = refl; reads = refl; async = refl };
  copy = refl;
  chain = (follows 1 2 refl refl refl refl, inr last_there);
}

back_ok : IsSync design trees back
back_ok = record {
  crossing = record { register = refl; reads = refl; async = refl };
  copy = refl;
  chain = (follows 4 5 refl refl refl refl, inr last_back);
}

abbrev ring : Ring
ring = record { there = there; back = back }

pub ring_ok : IsRing design trees syncs ring
ring_ok = record {
  there = (0, omega arith, refl);
  back = (1, omega arith, refl);
  registers = (refl, refl);
  there_group = refl;
  back_group = refl;
  apart = λ e. let n : 3 ≡ 2 = ap (λ (b : Bit). b.sig) e in omega arith;
  start = (false, (refl, (refl, (refl, (refl, (refl, (refl, tt)))))));
  reads = refl;
  waits = waits;
  answers = answers;
}
  where
    waits : (v : Bool) → trees.known ((bit_of 0, v) ∷ (bit_of 5, not v) ∷ []) (bit_of 0) ≡ Some v
    waits true = refl
    waits false = refl

    answers : (v : Bool) → trees.known ((bit_of 2, v) ∷ (bit_of 3, v) ∷ []) (bit_of 3) ≡ Some v
    answers true = refl
    answers false = refl

-- ---- a step

abbrev old : State
old = record { values = λ b. false; left = λ b. 0 }

-- the input rises while the request and the first flop race
abbrev step : RecordStep
step = record {
  edges = 0 ∷ 1 ∷ [];
  inputs = record { sig = 6; value = 1 } ∷ [];
  races = record { bit = bit_of 0; flip = bit_of 6 ∷ []; other = Some [] } ∷ record { bit = bit_of 1; flip = bit_of 0 ∷ []; other = None } ∷ [];
}

abbrev new : State
new = stepped design old step

pub is_step : IsStep design (has_edge step.edges) old new
is_step = fixed_step design old step (record { edges = known_clock }) refl
  where
    known_clock : (c : ℕ) → has_edge (0 ∷ 1 ∷ []) c ≡ true → c < 2
    known_clock c h = elim (or_cases (0 == c) ((1 == c) || false) h) [
      | inl e ↦ let n : 0 ≡ c = eqb-true 0 c e in omega arith
      | inr e ↦ elim (or_cases (1 == c) false e) [
        | inl f ↦ let n : 1 ≡ c = eqb-true 1 c f in omega arith
        | inr f ↦ cc
      ]
    ]

pub old_settled : OnlySettling design syncs old
old_settled x u = absurd (omega arith)

pub old_turns : RingTurnsOnce ring old
old_turns v seen = subst (λ (w : Bool). TurnsOnce w (map v (behind_request ring))) (sym (is 0))
    (inl (is 1, inl (is 2, inl (is 3, inl (is 4, inl (is 5, tt))))))
  where
    is : (n : ℕ) → v (bit_of n) ≡ false
    is n = elim (seen (bit_of n)) [ inl e ↦ e | inr u ↦ absurd (omega arith) ]

-- the request isn't settled, and may still be taken for 0
abbrev taken : Reading
taken b = cond (bit_eq b (bit_of 0)) false (new.values b)

taken_seen : IsSeen new taken
taken_seen b = go (bit_eq b (bit_of 0)) refl
  where
    go : (v : Bool) → bit_eq b (bit_of 0) ≡ v → (cond v false (new.values b) ≡ new.values b) ⊎ (1 ≤ new.left b)
    go true e = inr (subst (λ (a : Bit). 1 ≤ new.left a) (sym (bit_eq-true b (bit_of 0) e)) one)
      where
        one : 1 ≤ new.left (bit_of 0)
        one = omega arith
    go false e = inl refl

pub new_turns_twice : RingTurnsOnce ring new → ⊥
new_turns_twice h = elim (h taken taken_seen) [
  | inl p ↦ wrong p.0
  | inr p ↦ wrong (sym p.1.0)
]
  where
    wrong : true ≡ false → ⊥
    wrong e = cc
