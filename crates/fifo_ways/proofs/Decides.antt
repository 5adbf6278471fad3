-- Tests that decide facts.
use Rattle.std.proofs.Common.{◌≡◌, ◌↔◌, ◌⊎◌, inl, inr, refl, sym, subst, arith, ℕ, zero, suc, ◌<◌, Bool, true, false, not, ◌&&◌, ◌||◌}
use Rattle.std.proofs.lemmas.Bool.{and_parts, and_from, both_ways}
use Rattle.cell_graph.specs.Tree.{all_below}
use Rattle.fifo_laws.specs.Ways.{Below, Into}
use Rattle.fifo_ways.specs.Judged.{into}

-- the test is true exactly where the fact holds
abbrev pub Decides : Bool → Type 0 → Type 0
Decides b P = (b ≡ true) ↔ P

pub holds-always : {P : Type 0} → P → Decides true P
holds-always p = ((λ h. p), λ q. refl)

pub both-decide : {P Q : Type 0} (a b : Bool) → Decides a P → Decides b Q → Decides (a && b) (P × Q)
both-decide {P = P} {Q = Q} a b p q = (
  (λ h. let e = and_parts a b h in (p.0 e.0, q.0 e.1)),
  λ (h : P × Q). and_from a b (p.1 h.0) (q.1 h.1),
)

pub three-decide : {P Q R : Type 0} (a b c : Bool) → Decides a P → Decides b Q → Decides c R → Decides (a && (b && c)) (P × Q × R)
three-decide {P = P} {Q = Q} {R = R} a b c p q r = (
  (λ h. let e = and_parts a (b && c) h in let f = and_parts b c e.1 in (p.0 e.0, q.0 f.0, r.0 f.1)),
  λ (h : P × Q × R). and_from a (b && c) (p.1 h.0) (and_from b c (q.1 h.1) (r.1 h.2)),
)

pub either-decides : {P Q : Type 0} (a b : Bool) → Decides a P → Decides b Q → Decides (a || b) (P ⊎ Q)
either-decides true b p q = ((λ h. inl (p.0 refl)), λ h. refl)
either-decides false b p q = (
  (λ h. inr (q.0 h)),
  λ h. elim h [
    | inl x ↦ absurd (both_ways false refl (p.1 x))
    | inr y ↦ q.1 y
  ],
)

pub not-decides : {P : Type 0} (a : Bool) → Decides a P → Decides (not a) (P → ⊥)
not-decides true p = ((λ h. absurd (both_ways false refl h)), λ none. absurd (none (p.0 refl)))
not-decides false p = ((λ h x. both_ways false refl (p.1 x)), λ none. refl)

pub same-decides : {P Q : Type 0} (b : Bool) → P ↔ Q → Decides b P → Decides b Q
same-decides b e p = ((λ h. e.0 (p.0 h)), λ q. p.1 (e.1 q))

pub into-decides : {G B F : Type 0} (guard behind before : Bool) → Decides guard G → Decides behind B → Decides before F
    → Decides (into guard behind before) (Into G B F)
into-decides guard behind before p q r = either-decides (guard && behind) before (both-decide guard behind p q) r

-- each number below n passes a test
pub below-decides : (f : ℕ → Bool) (P : ℕ → Type 0) (n : ℕ) → ((j : ℕ) → j < n → Decides (f j) (P j)) → Decides (all_below f n) (Below n P)
below-decides f P zero each = holds-always (λ j lt. absurd (omega arith))
below-decides f P (suc n) each =
    let ih = below-decides f P n (λ j lt. each j (omega arith)) in
    let last = each n (omega arith) in (
      (λ h j lt. let e = and_parts (all_below f n) (f n) h in go j lt (ih.0 e.0) (last.0 e.1)),
      λ all. and_from (all_below f n) (f n) (ih.1 (λ j lt. all j (omega arith))) (last.1 (all n (omega arith))),
    )
  where
    go : (j : ℕ) → j < suc n → Below n P → P n → P j
    go j lt all last = elim (split j lt) [ inl l ↦ all j l | inr e ↦ subst P (sym e) last ]
      where
        split : (j : ℕ) → j < suc n → (j < n) ⊎ (j ≡ n)
        split j lt = grind arith

-- the same of two tests
pub pairs-decide : (f g : ℕ → Bool) (P Q : ℕ → Type 0) (n : ℕ) → ((j : ℕ) → j < n → Decides (f j) (P j)) → ((j : ℕ) → j < n → Decides (g j) (Q j))
    → Decides (all_below f n && all_below g n) (Below n (λ j. P j × Q j))
pairs-decide f g P Q n p q =
    same-decides (all_below f n && all_below g n)
    ((λ (h : Below n P × Below n Q) j lt. (h.0 j lt, h.1 j lt)), λ h. ((λ j lt. (h j lt).0), λ j lt. (h j lt).1))
    (both-decide (all_below f n) (all_below g n) (below-decides f P n p) (below-decides g Q n q))
