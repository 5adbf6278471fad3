-- What bits that a ring holds, and ends that are blind under it, read without a cube.
use Rattle.std.proofs.Common.{◌≡◌, ◌≢◌, ◌∙◌, ◌⊎◌, inl, inr, refl, sym, ap, subst, ℕ, zero, suc, ◌-◌, Bool, true, false, not, cond, Option, Some, None, List, [], ◌∷◌, Contains, eq-eqb}
use Rattle.cdc_base.specs.declared.bit.Bit.{Bit}
use Rattle.cell_graph.specs.declared.net.Net.{Net}
use Rattle.cell_graph.specs.Cofactor.{fixed, same, reads}
use Rattle.cell_graph.specs.Reading.{bit_eq}
use Rattle.cell_graph.proofs.Bits.{bit_eq-true}
use Rattle.domains.specs.declared.Domains.{Domains}
use Rattle.cdc_model.specs.declared.scheme.GrayReg.{GrayReg}
use Rattle.cdc_model.specs.Design.{Design, group, differ, settle_of}
use Rattle.cdc_model.specs.Nets.{design_of, net_trees, next_tree}
use Rattle.cdc_model.specs.Schemes.{Trees, AreTrees, Follows, IsCrossing, Sync, IsSync, IsChain, AreSyncs, last_of, last_flop, flops, Ring, request, IsRing, IsHeld, IsBlind}
use Rattle.cdc_model.proofs.Ascending.{here, later, parts, nothing_in}
use Rattle.cdc_model.proofs.Loads.{gate_pair}
use Rattle.mux_recirc.proofs.Unfixed.{same_stays, unfixed}

-- ---- cubes of two bits

other_bit : (p a : Bit) → p ≢ a → bit_eq p a ≡ false
other_bit p a n = go (bit_eq p a) refl
  where
    go : (t : Bool) → bit_eq p a ≡ t → t ≡ false
    go true e = absurd (n (bit_eq-true p a e))
    go false e = refl

pub free_of_two : (p q a : Bit) (v w : Bool) → p ≢ a → q ≢ a → fixed ((p, v) ∷ (q, w) ∷ []) a ≡ None
free_of_two p q a v w m n = ap (λ t. cond t (Some v) (cond (bit_eq q a) (Some w) None)) (other_bit p a m) ∙ ap (λ t. cond t (Some w) None) (other_bit q a n)

-- ---- flops copy other bits

no_difference : (o : Option ℕ) → differ o o ≡ false
no_difference None = refl
no_difference (Some g) = ap not (eq-eqb g g refl)

same_bit : (a b : Bit) → Some a ≡ Some b → a ≡ b
same_bit a b e = cc

never : {A : Type 0} → true ≡ false → A
never e = cc

pub last_in : (f : Bit) (gs : List Bit) → Contains (f ∷ gs) (last_of f gs)
last_in f [] = here f []
last_in f (g ∷ gs) = later f (g ∷ gs) (last_of g gs) (last_in g gs)

module _ (d : Design) (t : Trees) where
  next_other : (f g : Bit) → d.copied f ≢ Some f → Follows d t f g → d.copied g ≢ Some g
  next_other f g n k e = n (let s : g ≡ f = same_bit g f (sym e ∙ k.copy) in subst (λ b. d.copied b ≡ Some b) s e)

  chain_other : (m n : ℕ) (f : Bit) (gs : List Bit) → IsChain d t m n f gs → d.copied f ≢ Some f → (x : Bit) → Contains (f ∷ gs) x → d.copied x ≢ Some x
  chain_other m n f [] c h x i = elim (parts f [] x i) [ inl e ↦ subst (λ b. d.copied b ≢ Some b) e h | inr j ↦ absurd (nothing_in x j) ]
  chain_other (suc m) n f (g ∷ gs) c h x i = elim (parts f (g ∷ gs) x i) [ inl e ↦ subst (λ b. d.copied b ≢ Some b) e h | inr j ↦ chain_other m n g gs c.1 (next_other f g h c.0) x j ]
  chain_other zero zero f (g ∷ gs) c h x i = absurd c
  chain_other zero (suc n) f (g ∷ gs) c h x i = elim (parts f (g ∷ gs) x i) [ inl e ↦ subst (λ b. d.copied b ≢ Some b) e h | inr j ↦ chain_other zero n g gs c.1 (next_other f g h c.0) x j ]

  -- no flop of a synchronizer copies itself
  pub flop_other : (s : Sync) → IsSync d t s → (x : Bit) → Contains (flops s) x → d.copied x ≢ Some x
  flop_other s k = chain_other (settle_of d s.first) (3 - settle_of d s.first) s.first s.more k.chain
      (λ e. let same : s.first ≡ s.from = same_bit s.first s.from (sym e ∙ k.copy) in
      never (sym (subst (λ b. differ (group d s.from) (group d b) ≡ true) same k.crossing.async) ∙ no_difference (group d s.from)))

module _ (net : Net) (domains : Domains) (grays : GrayReg → Bool) (laws : AreTrees (design_of net domains) (net_trees net grays)) (syncs : List Sync)
    (are : AreSyncs (design_of net domains) (net_trees net grays) syncs) where
  -- ---- held bits

  module _ (r : Ring) (is : IsRing (design_of net domains) (net_trees net grays) syncs r) where
    last_other : (design_of net domains).copied (last_flop r.back) ≢ Some (last_flop r.back)
    last_other = flop_other (design_of net domains) (net_trees net grays) r.back (are r.back is.back) (last_flop r.back) (last_in r.back.first r.back.more)

    -- a bit that copies itself is no end of the ring
    pub no_last : (b : Bit) → (design_of net domains).copied b ≡ Some b → last_flop r.back ≢ b
    no_last b e same = last_other (subst (λ x. (design_of net domains).copied x ≡ Some x) (sym same) e)

    pub no_request : (b : Bit) → (design_of net domains).copied b ≡ Some b → request r ≢ b
    no_request b e same =
        let at : (design_of net domains).copied (request r) ≡ Some (request r) = subst (λ x. (design_of net domains).copied x ≡ Some x) (sym same) e in
        let one : last_flop r.back ≡ request r = laws.same_only [] (request r) (request r) (last_flop r.back) is.registers.0 at is.reads in
        no_last b e (one ∙ same)

    -- what always keeps its value is held
    pub constant_held : (b : Bit) → (design_of net domains).is_register b ≡ true → group (design_of net domains) b ≡ group (design_of net domains) (request r)
        → (design_of net domains).copied b ≡ Some b → IsHeld (design_of net domains) (net_trees net grays) r b
    constant_held b reg together e = record {
      register = reg;
      group = together;
      holds = λ v. (same_stays ((request r, v) ∷ (last_flop r.back, not v) ∷ []) b (free_of_two (request r) (last_flop r.back) b v (not v) (no_request b e) (no_last b e)) (next_tree net b.sig) b.at e).1;
    }

  -- a bit that reads neither of two bits is as without a cube of them
  free_unread : (x p q : Bit) (v w : Bool) → reads [] (next_tree net x.sig) x.at p ≡ false → reads [] (next_tree net x.sig) x.at q ≡ false
      → (b : Bit) → reads [] (next_tree net x.sig) x.at b ≡ true → fixed ((p, v) ∷ (q, w) ∷ []) b ≡ None
  free_unread x p q v w m n b h =
      free_of_two p q b v w
      (λ e. never (sym h ∙ subst (λ a. reads [] (next_tree net x.sig) x.at a ≡ false) e m))
      (λ e. never (sym h ∙ subst (λ a. reads [] (next_tree net x.sig) x.at a ≡ false) e n))

  -- what is held and doesn't always keep its value reads an end of the ring
  pub held_reads : (r : Ring) (b : Bit) → IsHeld (design_of net domains) (net_trees net grays) r b → (design_of net domains).copied b ≢ Some b
      → (reads [] (next_tree net b.sig) b.at (request r) ≡ true) ⊎ (reads [] (next_tree net b.sig) b.at (last_flop r.back) ≡ true)
  held_reads r b held other = go (reads [] (next_tree net b.sig) b.at (request r)) refl (reads [] (next_tree net b.sig) b.at (last_flop r.back)) refl
    where
      go : (u : Bool) → reads [] (next_tree net b.sig) b.at (request r) ≡ u → (w : Bool) → reads [] (next_tree net b.sig) b.at (last_flop r.back) ≡ w → (u ≡ true) ⊎ (w ≡ true)
      go true e w f = inl refl
      go false e true f = inr refl
      go false e false f = absurd (other (sym (unfixed ((request r, true) ∷ (last_flop r.back, false) ∷ []) (next_tree net b.sig) b.at (free_unread b (request r) (last_flop r.back) true false e f)).1 ∙ held.holds true))

  -- ---- blind ends

  -- a blind end reads a bit of the gate
  pub blind_reads : (b x p q : Bit) → reads [] (next_tree net x.sig) x.at b ≡ true → ((v : Bool) → reads ((p, v) ∷ (q, v) ∷ []) (next_tree net x.sig) x.at b ≡ false)
      → (reads [] (next_tree net x.sig) x.at p ≡ true) ⊎ (reads [] (next_tree net x.sig) x.at q ≡ true)
  blind_reads b x p q h blind = go (reads [] (next_tree net x.sig) x.at p) refl (reads [] (next_tree net x.sig) x.at q) refl
    where
      go : (u : Bool) → reads [] (next_tree net x.sig) x.at p ≡ u → (w : Bool) → reads [] (next_tree net x.sig) x.at q ≡ w → (u ≡ true) ⊎ (w ≡ true)
      go true e w f = inl refl
      go false e true f = inr refl
      go false e false f = never (sym h ∙ sym ((unfixed ((p, true) ∷ (q, true) ∷ []) (next_tree net x.sig) x.at (free_unread x p q true true e f)).2 b) ∙ blind true)

  -- a blind end is no plain copy
  pub blind_no_copy : (r : Ring) → IsRing (design_of net domains) (net_trees net grays) syncs r → (place : ℕ) (b x : Bit) → IsCrossing (design_of net domains) (net_trees net grays) b x
      → IsBlind (design_of net domains) (net_trees net grays) r place b x → (design_of net domains).copied x ≢ Some b
  blind_no_copy r is place b x crossing blind e =
      let p = blind.gate.0 in
      let q = blind.gate.1 in
      let groups = gate_pair (design_of net domains) (net_trees net grays) laws syncs are r is place p q b x blind.gate.2 blind in
      let k = same_stays ((p, true) ∷ (q, true) ∷ []) b (free_of_two p q b true true (apart p groups.0) (apart q groups.1)) (next_tree net x.sig) x.at e in
      never (sym (laws.same_reads ((p, true) ∷ (q, true) ∷ []) x b crossing.register k.1) ∙ blind.gate.3 true)
    where
      -- a bit of the end's group isn't the source
      apart : (a : Bit) → group (design_of net domains) a ≡ group (design_of net domains) x → a ≢ b
      apart a e same = never (sym crossing.async ∙ ap (λ o. differ o (group (design_of net domains) x)) (sym (ap (group (design_of net domains)) same) ∙ e) ∙ no_difference (group (design_of net domains) x))
