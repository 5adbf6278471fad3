-- Where FIFOs are kept, their crossings bring nothing: the bits of one FIFO after the other are left out.
use Rattle.std.proofs.Common.{◌≡◌, ℕ, suc, ◌&&◌, ◌||◌, Bool, true, false, cond, List, [], ◌∷◌, Contains, ◌⊎◌, inl, inr, refl, sym, ap, ap₂, subst, ◌∙◌, arith}
use Rattle.std.specs.List.{list_any}
use Rattle.std.proofs.lemmas.List.Folds.{Any-from_list_any}
use Rattle.cdc_base.specs.declared.bit.Bit.{Bit}
use Rattle.cell_graph.specs.Reading.{bit_eq}
use Rattle.cell_graph.specs.Tree.{Tree}
use Rattle.cell_graph.proofs.Bits.{bit_eq-true}
use Rattle.cdc_model.specs.declared.scheme.Crossing.{Crossing}
use Rattle.cdc_model.specs.declared.scheme.GrayReg.{GrayReg}
use Rattle.cdc_model.specs.Design.{Design, flipped}
use Rattle.cdc_model.specs.Facts.{Facts}
use Rattle.cdc_model.specs.Runs.{State, AreLoose, IsStep}
use Rattle.cdc_model.specs.Schemes.{Trees, Sync, is_settling, Ring}
use Rattle.fifo_laws.specs.Words.{IsWord}
use Rattle.fifo_laws.specs.Fifos.{IsReader, Fifo, IsFifo, is_crossing_between, is_fifo_crossing}
use Rattle.fifo_laws.specs.Laws.{AreLists}
use Rattle.fifo_laws.proofs.Flip.{Room, flip_same, flips_same}
use Rattle.fifo_laws.proofs.FlipCross.{crossing_is, of_columns, word_settled}

-- the flips but those that come over the FIFOs' crossings
abbrev without : List Fifo → (Bit → Bool) → Bit → Bit → Bool
without fs flips x b = cond (is_fifo_crossing fs b x) false (flips b)

flips_of : (c v : Bool) → cond c false v ≡ true → v ≡ true
flips_of true v h = cc
flips_of false v h = h

without_more : (u v w : Bool) → u ≡ false → cond v false w ≡ cond (u || v) false w
without_more u v w e = ap (λ z. cond (z || v) false w) (sym e)

or_false : (x y : Bool) → (x || y) ≡ false → (x ≡ false) × (y ≡ false)
or_false true y h = cc
or_false false y h = (refl, h)

no_crossing : (b x : Bit) (cs : List Crossing) → list_any (λ (c : Crossing). bit_eq c.to x) cs ≡ false → list_any (is_crossing_between b x) cs ≡ false
no_crossing b x [] h = refl
no_crossing b x (c ∷ cs) h = let p = or_false (bit_eq c.to x) (list_any (λ (c : Crossing). bit_eq c.to x) cs) h in
    ap₂ (λ u v. (bit_eq c.from b && u) || v) p.0 (no_crossing b x cs p.1) ∙ beside (bit_eq c.from b)
  where
    beside : (v : Bool) → ((v && false) || false) ≡ false
    beside true = refl
    beside false = refl

module _ (d : Design) (tree : ℕ → Tree) (t : Trees) (syncs : List Sync) (grays : List GrayReg) (lists : AreLists d tree t syncs grays) (rings : List Ring)
    (edges : ℕ → Bool) (old new : State) (step : IsStep d edges old new) (facts : Facts d syncs grays rings old) (x : Bit) (reg : d.is_register x ≡ true) (flips : Bit → Bool)
    (loose : AreLoose d old new.values x flips) where
  still_loose : (fs : List Fifo) → AreLoose d old new.values x (without fs flips x)
  still_loose fs b h = loose b (flips_of (is_fifo_crossing fs b x) (flips b) h)

  -- one more FIFO's bits are left out
  one_more : (f : Fifo) (fs : List Fifo) (k : IsFifo d tree syncs grays f) → Room d tree k.write k.read old.values
      → d.next (flipped (without fs flips x) old.values) x ≡ d.next (flipped (without (f ∷ fs) flips x) old.values) x
  one_more f fs k room = go (list_any (λ (c : Crossing). bit_eq c.to x) f.crossings) refl
    where
      go : (v : Bool) → list_any (λ (c : Crossing). bit_eq c.to x) f.crossings ≡ v → d.next (flipped (without fs flips x) old.values) x ≡ d.next (flipped (without (f ∷ fs) flips x) old.values) x
      go false e = lists.trees.reads [] x (flipped (without fs flips x) old.values) (flipped (without (f ∷ fs) flips x) old.values) reg tt tt
          (λ b r. flip_same (without fs flips x) (without (f ∷ fs) flips x) old.values b
          (without_more (list_any (is_crossing_between b x) f.crossings) (is_fifo_crossing fs b x) (flips b) (no_crossing b x f.crossings e)))
      go true e = flips_same d tree t syncs grays lists rings f k old facts room edges new step x reader (without fs flips x) (without (f ∷ fs) flips x) (still_loose fs) (still_loose (f ∷ fs))
          (λ b. apart b (list_any (is_crossing_between b x) f.crossings) refl)
        where
          reader : IsReader d tree k.write k.read x
          reader =
              let (n, c, l, at, p) = Any-from_list_any (λ (c : Crossing). bit_eq c.to x) f.crossings e in
              subst (IsReader d tree k.write k.read) (bit_eq-true c.to x p) (k.readers.only c.to (k.crossings.only c (n, l, at)).to)

          apart : (b : Bit) (v : Bool) → list_any (is_crossing_between b x) f.crossings ≡ v
              → (without fs flips x b ≡ without (f ∷ fs) flips x b) ⊎ (IsWord d tree k.write k.read b × (is_settling d syncs b ≡ false))
          apart b false h = inl (without_more (list_any (is_crossing_between b x) f.crossings) (is_fifo_crossing fs b x) (flips b) h)
          apart b true h = let from = crossing_is d tree t syncs grays lists f k b x h in
              inr (of_columns d tree t syncs grays lists f k b from.from, word_settled d tree t syncs grays lists f k b x from)

  pub all_flip : (fs : List Fifo) → ((f : Fifo) → Contains fs f → (k : IsFifo d tree syncs grays f) × Room d tree k.write k.read old.values)
      → d.next (flipped flips old.values) x ≡ d.next (flipped (without fs flips x) old.values) x
  all_flip [] kept = refl
  all_flip (f ∷ fs) kept = all_flip fs (λ g i. kept g (suc i.0, omega (arith, i.1), i.2)) ∙ (let h = kept f (0, omega arith, refl) in one_more f fs h.0 h.1)
