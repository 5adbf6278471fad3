-- Settling flops are read on their own clocks alone, so that races of others leave what is loose for them.
use Rattle.std.proofs.Common.{◌≡◌, ◌∙◌, ℕ, zero, suc, ◌-◌, nat_lt, Bool, true, false, cond, not, ◌&&◌, ◌||◌, List, [], ◌∷◌, Contains, Option, Some, None, refl, sym, ap, subst, eq-eqb}
use Rattle.std.specs.Prelude.{option_map}
use Rattle.std.specs.Bool.{beq}
use Rattle.std.specs.List.{list_any}
use Rattle.cdc_base.specs.declared.bit.Bit.{Bit}
use Rattle.cell_graph.specs.Reading.{Reading, bit_eq}
use Rattle.cell_graph.proofs.Bits.{bit_eq-true}
use Rattle.cdc_model.specs.declared.record.Given.{Given}
use Rattle.cdc_model.specs.declared.record.Race.{Race}
use Rattle.cdc_model.specs.Design.{Design, are_async, differ, flipped, settle_of}
use Rattle.cdc_model.specs.Replay.{flips_of, given_to, has_edge, is_loose, is_settling_for, race_of, stepped}
use Rattle.cdc_model.specs.Runs.{State, ticks}
use Rattle.cdc_model.specs.Schemes.{Trees, Sync, Follows, IsChain, AreSyncs, flops, in_first, is_settling}
use Rattle.cdc_model.proofs.Ascending.{here, later}
use Rattle.campaign.specs.Drawn.{step_with}

-- an item that passes is in the list
pub any-in : {A : Type 0} (p : A → Bool) (xs : List A) → list_any p xs ≡ true → (x : A) × Contains xs x × (p x ≡ true)
any-in p [] h = cc
any-in {A = A} p (x ∷ xs) h = go (p x) refl h (any-in p xs)
  where
    go : (t : Bool) → p x ≡ t → (t || list_any p xs) ≡ true → (list_any p xs ≡ true → (y : A) × Contains xs y × (p y ≡ true)) → (y : A) × Contains (x ∷ xs) y × (p y ≡ true)
    go true e h ih = (x, here x xs, e)
    go false e h ih = let r = ih h in (r.0, later x xs r.0 r.1, r.2)

-- the flop behind one of the first m of a chain
chain-next : (d : Design) (t : Trees) (m n : ℕ) (f : Bit) (gs : List Bit) (b : Bit) → IsChain d t m n f gs → in_first m b (f ∷ gs) ≡ true → (g : Bit) × Follows d t b g
chain-next d t zero n f gs b h e = cc
chain-next d t (suc m) n f [] b h e = absurd h
chain-next d t (suc m) n f (g ∷ gs) b h e = go (bit_eq f b) refl e (chain-next d t m n g gs b h.1)
  where
    go : (v : Bool) → bit_eq f b ≡ v → (v || in_first m b (g ∷ gs)) ≡ true → (in_first m b (g ∷ gs) ≡ true → (g : Bit) × Follows d t b g) → (g : Bit) × Follows d t b g
    go true same e ih = (g, subst (λ (x : Bit). Follows d t x g) (bit_eq-true f b same) h.0)
    go false same e ih = ih e

-- a settling flop is read on its own clock alone
pub reader-clock : (d : Design) (t : Trees) (syncs : List Sync) → AreSyncs d t syncs → (b x : Bit) → is_settling d syncs b ≡ true → d.is_register x ≡ true → t.reads [] x b ≡ true → d.clock x ≡ d.clock b
reader-clock d t syncs are b x h register reads =
    let s = any-in (λ (s : Sync). in_first (settle_of d s.first) b (flops s)) syncs h in
    let g = chain-next d t (settle_of d s.0.first) (3 - settle_of d s.0.first) s.0.first s.0.more b (are s.0 s.1).chain s.2 in
    ap d.clock (g.1.only x register reads) ∙ g.1.clock

-- bits of one clock are of one group
pub one-group : (d : Design) (b x : Bit) → d.clock x ≡ d.clock b → are_async d b x ≡ false
one-group d b x e = ap (λ (o : Option ℕ). differ (option_map d.group_of (d.clock b)) (option_map d.group_of o)) e ∙ go (d.clock b)
  where
    go : (o : Option ℕ) → differ (option_map d.group_of o) (option_map d.group_of o) ≡ false
    go None = refl
    go (Some c) = ap not (eq-eqb (d.group_of c) (d.group_of c) refl)

-- values that agree at a bit of another group leave it loose or not
pub loose-same : (d : Design) (s : State) (t u : Reading) (x b : Bit) → (are_async d b x ≡ true → t b ≡ u b) → is_loose d s t x b ≡ is_loose d s u x b
loose-same d s t u x b h = go (are_async d b x) refl
  where
    go : (v : Bool) → are_async d b x ≡ v
        → ((are_async d b x && not (beq (s.values b) (t b))) || (nat_lt 0 (s.left b) && not (is_settling_for d s x b)))
        ≡ ((are_async d b x && not (beq (s.values b) (u b))) || (nat_lt 0 (s.left b) && not (is_settling_for d s x b)))
    go true e = ap (λ w. (are_async d b x && not (beq (s.values b) w)) || (nat_lt 0 (s.left b) && not (is_settling_for d s x b))) (h e)
    go false e =
        ap (λ v. (v && not (beq (s.values b) (t b))) || (nat_lt 0 (s.left b) && not (is_settling_for d s x b))) e
        ∙ sym (ap (λ v. (v && not (beq (s.values b) (u b))) || (nat_lt 0 (s.left b) && not (is_settling_for d s x b))) e)

-- a bit whose race is the same takes the same
pub taken-same : (d : Design) (s : State) (edges : List ℕ) (inputs : List Given) (rs qs : List Race) (b : Bit) → race_of rs b ≡ race_of qs b
    → (stepped d s (step_with edges inputs rs)).values b ≡ (stepped d s (step_with edges inputs qs)).values b
taken-same d s edges inputs rs qs b e =
    ap (λ (q : Option Race). cond (ticks d (has_edge edges) b)
    (cond (d.is_register b) (d.next (flipped (flips_of q) s.values) b) (cond (d.is_input b) (given_to inputs b (s.values b)) (s.values b))) (s.values b)) e
