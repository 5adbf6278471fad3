-- Between the clocks of a FIFO codes are brought in both directions.
use Rattle.std.proofs.Common.{◌≡◌, ◌∙◌, refl, ap, ap₂, sym, subst, arith, inl, inr, ℕ, zero, suc, ◌≤◌, ◌==◌, ◌&&◌, Bool, true, false, cond, Option, Some, List, [], ◌∷◌, map, Contains}
use Rattle.std.specs.Prelude.{option_and_then, option_map}
use Rattle.std.specs.List.{AllByRecursion, list_any}
use Rattle.std.proofs.lemmas.Bool.{and_parts}
use Rattle.std.proofs.lemmas.List.Elements.{Contains-append_left, Contains-append_right}
use Rattle.std.proofs.lemmas.List.Folds.{list_any-from_Any}
use Rattle.cdc_base.specs.declared.bit.Bit.{Bit}
use Rattle.cell_graph.specs.declared.net.Net.{Net}
use Rattle.cell_graph.specs.Reading.{bit_eq}
use Rattle.cell_graph.proofs.Bits.{bit_eq-true}
use Rattle.domains.specs.declared.Domains.{Domains}
use Rattle.domains.specs.Assignment.{clock_of}
use Rattle.cdc_model.specs.declared.scheme.GrayReg.{GrayReg}
use Rattle.cdc_model.specs.Design.{Design, are_equal, bits_from}
use Rattle.cdc_model.specs.GrayShape.{IsGrayReg}
use Rattle.cdc_model.specs.Listed.{sync_entry}
use Rattle.cdc_model.specs.Nets.{design_of, is_within, next_tree}
use Rattle.cdc_model.specs.Ordered.{IsAll}
use Rattle.cdc_model.specs.Schemes.{Sync}
use Rattle.cdc_model.proofs.Ascending.{from_filter, here, nothing_in, parts}
use Rattle.cdc_model.proofs.Chain.{equal_eq}
use Rattle.cdc_model.proofs.NetDesign.{cond_some}
use Rattle.fifo_laws.specs.Fifos.{Fifo, IsFifo}
use Rattle.fifo_laws.specs.Sides.{IsSide, Side, syncs_on}
use Rattle.fifo_scheme.specs.declared.finder.Way.{Way}
use Rattle.fifo_scheme.specs.Candidates.{is_code_word, is_left, is_returned, way_of, ways_of, listed}

some : {A : Type 0} (p : A → Bool) (xs : List A) (x : A) → Contains xs x → p x ≡ true → list_any p xs ≡ true
some p xs x i h = list_any-from_Any p xs (i.0, x, i.1, i.2, h)

same_number : (n m : ℕ) → n ≡ m → (n == m) ≡ true
same_number n m e = grind (arith, e)

-- the synchronizer from the first of several bits
first_of : (d : Design) (syncs over : List Sync) (c : ℕ) (b : Bit) (bs : List Bit) → map (syncs_on d syncs c) (b ∷ bs) ≡ map (λ (y : Sync). y ∷ []) over
    → (y : Sync) × Contains syncs y × (y.from ≡ b) × (d.clock y.first ≡ Some c)
first_of d syncs [] c b bs e = cc
first_of d syncs (y ∷ ys) c b bs e =
    let one : syncs_on d syncs c b ≡ y ∷ [] = cc in
    let (there, from) = from_filter (λ (s : Sync). bit_eq s.from b && are_equal (d.clock s.first) (Some c)) syncs y (subst (λ (zs : List Sync). Contains zs y) (sym one) (here y [])) in
    let both = and_parts (bit_eq y.from b) (are_equal (d.clock y.first) (Some c)) from in
    (y, there, bit_eq-true y.from b both.0, equal_eq (d.clock y.first) (Some c) both.1)

module _ (net : Net) (domains : Domains) (grays : List GrayReg) where
  abbrev design : Design
  design = design_of net domains

  way_is : (y : Sync) (c e : ℕ) → design.clock y.from ≡ Some c → design.clock y.first ≡ Some e → way_of domains (sync_entry y) ≡ Some (record { from = c; to = e })
  way_is y c e h k =
      let from = (cond_some (is_within net y.from) (clock_of domains y.from) c h).1 in
      let to = (cond_some (is_within net y.first) (clock_of domains y.first) e k).1 in
      ap₂ (λ (f t : Option ℕ). option_and_then (λ (n : ℕ). option_map (λ (m : ℕ). let w : Way = record { from = n; to = m } in w) t) f) from to

  has_way : (syncs : List Sync) (y : Sync) (w : Way) → Contains syncs y → is_code_word grays y.from.sig ≡ true → way_of domains (sync_entry y) ≡ Some w
      → Contains (ways_of domains (map sync_entry syncs) grays) w
  has_way [] y w i code is = absurd (nothing_in y i)
  has_way (s ∷ ss) y w i code is =
      let rest = ways_of domains (map sync_entry ss) grays in
      let front = cond (is_code_word grays s.from.sig) (listed (way_of domains (sync_entry s))) [] in
      elim (parts s ss y i) [
        | inl same ↦
            let one : front ≡ w ∷ [] = ap (λ (x : Sync). cond (is_code_word grays x.from.sig) (listed (way_of domains (sync_entry x))) []) same
            ∙ ap₂ (λ (t : Bool) (o : Option Way). cond t (listed o) []) code is in
            Contains-append_left front rest w (subst (λ (ws : List Way). Contains ws w) (sym one) (here w []))
        | inr j ↦ Contains-append_right front rest w (has_way ss y w j code is)
      ]

  module _ (syncs : List Sync) (are_grays : (g : GrayReg) → Contains grays g → IsGrayReg design (next_tree net) g) where
    clock_of_code : (to : ℕ) (s : Side) → IsSide design (next_tree net) syncs grays to s → (n : ℕ) → 1 ≤ n
        → AllByRecursion (λ b. design.clock b ≡ Some s.clock) (bits_from s.reg.count 0 n) → (c : ℕ)
        → AllByRecursion (λ b. (design.is_register b ≡ true) × (design.clock b ≡ Some c)) (bits_from s.reg.count 0 n) → c ≡ s.clock
    clock_of_code to s side zero l own c one = absurd (omega arith)
    clock_of_code to s side (suc n) l own c one = same (sym one.0.1 ∙ own.0)
      where
        same : {m k : ℕ} → Some m ≡ Some k → m ≡ k
        same h = cc

    first_clock : (sig c n : ℕ) → 1 ≤ n → AllByRecursion (λ b. (design.is_register b ≡ true) × (design.clock b ≡ Some c)) (bits_from sig 0 n)
        → design.clock (record { sig = sig; at = 0 }) ≡ Some c
    first_clock sig c zero l all = absurd (omega arith)
    first_clock sig c (suc n) l all = all.0.1

    first_sync : (to : ℕ) (s : Side) → IsSide design (next_tree net) syncs grays to s → (n : ℕ) → 1 ≤ n
        → map (syncs_on design syncs to) (bits_from s.reg.gray 0 n) ≡ map (λ (y : Sync). y ∷ []) s.over
        → (y : Sync) × Contains syncs y × (y.from ≡ record { sig = s.reg.gray; at = 0 }) × (design.clock y.first ≡ Some to)
    first_sync to s side zero l over = absurd (omega arith)
    first_sync to s side (suc n) l over = first_of design syncs s.over to (record { sig = s.reg.gray; at = 0 }) (bits_from s.reg.gray 1 n) over

    -- the code of a side is brought from its clock
    side_brings : (to : ℕ) (s : Side) → IsSide design (next_tree net) syncs grays to s → Contains (ways_of domains (map sync_entry syncs) grays) (record { from = s.clock; to = to })
    side_brings to s side =
        let g = are_grays s.reg side.listed in
        let (y, there, from, first) = first_sync to s side (design.width s.reg.gray) (omega (arith, g.width.0, g.width.2)) side.over in
        let clock = clock_of_code to s side (design.width s.reg.count) (omega (arith, g.width.0)) side.clock g.one_clock.0 g.one_clock.1 in
        let source : design.clock y.from ≡ Some s.clock = ap design.clock from
        ∙ first_clock s.reg.gray g.one_clock.0 (design.width s.reg.gray) (omega (arith, g.width.0, g.width.2)) g.one_clock.2 ∙ ap Some clock in
        has_way syncs y (record { from = s.clock; to = to }) there
        (some (λ (k : GrayReg). k.gray == y.from.sig) grays s.reg side.listed (same_number s.reg.gray y.from.sig (ap (λ (b : Bit). b.sig) (sym from))))
        (way_is y s.clock to source first)

    fifo_returns : (f : Fifo) → IsFifo design (next_tree net) syncs grays f → is_returned (ways_of domains (map sync_entry syncs) grays) ≡ true
    fifo_returns f k =
        let ways = ways_of domains (map sync_entry syncs) grays in
        let there = side_brings k.read.clock k.write k.writes in
        let back = side_brings k.write.clock k.read k.reads in
        some (λ (w : Way). is_left ways w.to) ways (record { from = k.write.clock; to = k.read.clock }) there
        (some (λ (w : Way). w.from == k.read.clock) ways (record { from = k.read.clock; to = k.write.clock }) back (same_number k.read.clock k.read.clock refl))

    -- so where none is brought back, no FIFO is the list of all
    pub none_is_all : {E : Type 0} (IsOne : E → Type 0) (key : E → List ℕ) → ((e : E) → IsOne e → (f : Fifo) × IsFifo design (next_tree net) syncs grays f)
        → is_returned (ways_of domains (map sync_entry syncs) grays) ≡ false → IsAll IsOne key []
    none_is_all IsOne key fifo none = record {
      all = λ e is. let (f, k) = fifo e is in absurd (never (sym none) (fifo_returns f k));
      only = λ e i. absurd (nothing_in e i);
      ordered = λ i j x y l p q. cc;
    }
      where
        never : {b : Bool} → false ≡ b → b ≡ true → ⊥
        never p q = cc
