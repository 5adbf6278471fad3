-- A FIFO is told by the Gray registers of its two sides.
use Rattle.std.proofs.Common.{◌≡◌, ◌∙◌, sym, ap, ap₂, subst, refl, inl, inr, arith, ℕ, zero, suc, ◌≤◌, ◌-◌, ◌^◌, true, false, Some, List, [], ◌∷◌, ◌++◌, map}
use Rattle.std.specs.List.{AllByRecursion}
use Rattle.cdc_base.specs.declared.bit.Bit.{Bit}
use Rattle.cell_graph.specs.Origin.{TreeBit}
use Rattle.cell_graph.specs.Tree.{Tree, Add, Mux}
use Rattle.cdc_model.specs.declared.scheme.GrayReg.{GrayReg}
use Rattle.cdc_model.specs.Design.{Design, bits_from, word}
use Rattle.cdc_model.specs.Ordered.{IsAll}
use Rattle.cdc_model.specs.Schemes.{Sync}
use Rattle.cdc_model.specs.Verdict.{crossing_key}
use Rattle.cdc_model.specs.Word.{cells, origins}
use Rattle.cdc_model.proofs.Ordered.{one_list}
use Rattle.fifo_terms.specs.Counts.{CountsUnder, First, Second, Then, Else}
use Rattle.fifo_terms.specs.Terms.{Term, terms}
use Rattle.fifo_laws.specs.Fifos.{Fifo, IsFifo, IsReader, IsPassed, IsFrom, all_flops, one_bit_key, column_key}
use Rattle.fifo_laws.specs.Sides.{Side, IsSide, side_width, syncs_on}
use Rattle.fifo_laws.specs.Words.{Column}
use Rattle.fifo_nodes.proofs.Counting.{counts_only, counts_not_own, turn_only}
use Rattle.fifo_scheme.specs.Met.{IsMatch}

-- a word counts a register under one list of terms
pub one_count : (b w : ℕ) (wide : 2 ≤ w) (n : List TreeBit) (ts us : List Term) → CountsUnder b w n ts → CountsUnder b w n us → us ≡ ts
one_count b w wide n ts us (First x y o s) k = counts_only b w wide (cells (Add x y) 0 w) x y o s (inl refl) us k
one_count b w wide n ts us (Second x y o s) k = counts_only b w wide (cells (Add x y) 0 w) y x o s (inr refl) us k
one_count b w wide n ts us (Then c x y vs m o) k =
    let t = turn_only b w wide (cells (Mux c x y) 0 w) c y x o (counts_not_own b w wide (origins x 0 w) vs m) true refl us k in
    t.1 ∙ ap (λ zs. terms c 0 true ++ zs) (one_count b w wide (origins x 0 w) vs t.0 m t.2)
one_count b w wide n ts us (Else c x y vs o m) k =
    let t = turn_only b w wide (cells (Mux c x y) 0 w) c x y o (counts_not_own b w wide (origins y 0 w) vs m) false refl us k in
    t.1 ∙ ap (λ zs. terms c 0 false ++ zs) (one_count b w wide (origins y 0 w) vs t.0 m t.2)

pub first_bit : (P : Bit → Type 0) (sig i n : ℕ) → 1 ≤ n → AllByRecursion P (bits_from sig i n) → P (record { sig = sig; at = i })
first_bit P sig i zero l h = absurd (omega arith)
first_bit P sig i (suc n) l h = h.0

-- lists of one item each tell the items
one_of_each : (xs ys : List Sync) → map (λ (y : Sync). y ∷ []) xs ≡ map (λ (y : Sync). y ∷ []) ys → xs ≡ ys
one_of_each [] [] e = refl
one_of_each [] (y ∷ ys) e = cc
one_of_each (x ∷ xs) [] e = cc
one_of_each (x ∷ xs) (y ∷ ys) e =
    let heads : x ≡ y = cc in
    let tails : map (λ (z : Sync). z ∷ []) xs ≡ map (λ (z : Sync). z ∷ []) ys = cc in
    ap₂ (λ (z : Sync) zs. z ∷ zs) heads (one_of_each xs ys tails)

module _ (d : Design) (tree : ℕ → Tree) (syncs : List Sync) (grays : List GrayReg) where
  pub one_clock : (to to' : ℕ) (s r : Side) → IsSide d tree syncs grays to s → IsSide d tree syncs grays to' r → s.reg ≡ r.reg → 1 ≤ side_width d s → s.clock ≡ r.clock
  one_clock to to' s r h k e l =
      let a = first_bit (λ b. d.clock b ≡ Some s.clock) s.reg.count 0 (side_width d s) l h.clock in
      let b = first_bit (λ b. d.clock b ≡ Some r.clock) s.reg.count 0 (side_width d s) l (subst (λ (g : GrayReg). AllByRecursion (λ b. d.clock b ≡ Some r.clock) (word d g.count)) (sym e) k.clock) in
      let both : Some s.clock ≡ Some r.clock = sym a ∙ b in
      cc

  pub one_side : (to : ℕ) (s r : Side) → IsSide d tree syncs grays to s → IsSide d tree syncs grays to r → s.reg ≡ r.reg → 2 ≤ side_width d s → s ≡ r
  one_side to s r h k e wide = λ i. record { reg = e i; clock = clock i; under = under i; over = over i }
    where
      clock : s.clock ≡ r.clock
      clock = one_clock to to s r h k e (omega arith)

      under : s.under ≡ r.under
      under = sym (one_count s.reg.count (side_width d s) wide (origins (tree s.reg.count) 0 (side_width d s)) s.under r.under h.counts
          (subst (λ (g : GrayReg). CountsUnder g.count (d.width g.count) (origins (tree g.count) 0 (d.width g.count)) r.under) (sym e) k.counts))

      over : s.over ≡ r.over
      over = one_of_each s.over r.over (sym h.over ∙ subst (λ (g : GrayReg). map (syncs_on d syncs to) (word d g.gray) ≡ map (λ (y : Sync). y ∷ []) r.over) (sym e) k.over)

  -- two sides that fit each other are told by their registers
  pub one_match : (w r w' r' : Side) → IsMatch d tree syncs grays w r → IsMatch d tree syncs grays w' r' → w.reg ≡ w'.reg → r.reg ≡ r'.reg → (w ≡ w') × (r ≡ r')
  one_match w r w' r' h k e f =
      let wide = h.wide in
      let at_write : w.clock ≡ w'.clock = one_clock r.clock r'.clock w w' h.writes k.writes e (omega arith) in
      let at_read : r.clock ≡ r'.clock = one_clock w.clock w'.clock r r' h.reads k.reads f (omega arith) in (
        one_side r.clock w w' h.writes (subst (λ (c : ℕ). IsSide d tree syncs grays c w') (sym at_read) k.writes) e h.wide.0,
        one_side w.clock r r' h.reads (subst (λ (c : ℕ). IsSide d tree syncs grays c r') (sym at_write) k.reads) f (omega arith),
      )

  pub fifo_match : (f : Fifo) (k : IsFifo d tree syncs grays f) → IsMatch d tree syncs grays k.write k.read
  fifo_match f k = record {
    writes = k.writes;
    reads = k.reads;
    apart = k.apart;
    settles = k.settles;
    wide = (
      subst (λ (n : ℕ). 2 ≤ n) (sym k.wide.2) k.wide.0,
      subst (λ (n : ℕ). n ≤ 11) (sym k.wide.2) k.wide.1,
      k.wide.3 ∙ sym k.wide.2,
    );
    pushes = k.pushes;
    pops = k.pops;
  }

  pub one_fifo : (f f' : Fifo) (k : IsFifo d tree syncs grays f) (k' : IsFifo d tree syncs grays f') → k.write.reg ≡ k'.write.reg → k.read.reg ≡ k'.read.reg → f ≡ f'
  one_fifo f f' k k' e h = λ i. record { wb = wb i; wg = wg i; rb = rb i; rg = rg i; width = width i; depth = depth i; columns = columns i; readers = readers i; crossings = crossings i; there = there i; back = back i }
    where
      sides : (k.write ≡ k'.write) × (k.read ≡ k'.read)
      sides = one_match k.write k.read k'.write k'.read (fifo_match f k) (fifo_match f' k') e h

      wb : f.wb ≡ f'.wb
      wb = sym k.named.0 ∙ ap (λ (g : GrayReg). g.count) e ∙ k'.named.0

      wg : f.wg ≡ f'.wg
      wg = sym k.named.1 ∙ ap (λ (g : GrayReg). g.gray) e ∙ k'.named.1

      rb : f.rb ≡ f'.rb
      rb = sym k.named.2 ∙ ap (λ (g : GrayReg). g.count) h ∙ k'.named.2

      rg : f.rg ≡ f'.rg
      rg = sym k.named.3 ∙ ap (λ (g : GrayReg). g.gray) h ∙ k'.named.3

      width : f.width ≡ f'.width
      width = sym k.wide.2 ∙ ap (λ (s : Side). side_width d s) sides.0 ∙ k'.wide.2

      depth : f.depth ≡ f'.depth
      depth = k.deep ∙ ap (λ (n : ℕ). 2 ^ (n - 1)) width ∙ sym k'.deep

      columns : f.columns ≡ f'.columns
      columns = one_list column_key (IsPassed d tree k.write k.read) f.columns f'.columns k.columns
          (subst (λ (s : Side). IsAll (IsPassed d tree s k.read) column_key f'.columns) (sym sides.0)
          (subst (λ (s : Side). IsAll (IsPassed d tree k'.write s) column_key f'.columns) (sym sides.1) k'.columns))

      readers : f.readers ≡ f'.readers
      readers = one_list one_bit_key (IsReader d tree k.write k.read) f.readers f'.readers k.readers
          (subst (λ (s : Side). IsAll (IsReader d tree s k.read) one_bit_key f'.readers) (sym sides.0)
          (subst (λ (s : Side). IsAll (IsReader d tree k'.write s) one_bit_key f'.readers) (sym sides.1) k'.readers))

      crossings : f.crossings ≡ f'.crossings
      crossings = one_list crossing_key (IsFrom tree f.columns f.readers) f.crossings f'.crossings k.crossings
          (subst (λ (cs : List Column). IsAll (IsFrom tree cs f.readers) crossing_key f'.crossings) (sym columns)
          (subst (λ (bs : List Bit). IsAll (IsFrom tree f'.columns bs) crossing_key f'.crossings) (sym readers) k'.crossings))

      there : f.there ≡ f'.there
      there = k.flops.0 ∙ ap all_flops sides.0 ∙ sym k'.flops.0

      back : f.back ≡ f'.back
      back = k.flops.1 ∙ ap all_flops sides.1 ∙ sym k'.flops.1
