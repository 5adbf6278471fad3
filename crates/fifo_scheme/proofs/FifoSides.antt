-- The sides of FIFOs are among those that were found, and some read leads to them.
use Rattle.std.proofs.Common.{◌≡◌, ◌≢◌, ◌∙◌, sym, ap, subst, refl, arith, ℕ, zero, suc, ◌-◌, ◌^◌, ◌<◌, ◌≤◌, ◌&&◌, true, false, Option, Some, None, List, [], ◌∷◌, length, slice_get, Contains, option_and_then}
use Rattle.std.specs.List.{AllByRecursion}
use Rattle.std.specs.HashMap as hash
use Rattle.std.proofs.lemmas.Bool.{and_parts}
use Rattle.cdc_base.specs.contracts.bit.BitPartialEq.TheImpl as equality
use Rattle.cdc_base.specs.declared.bit.Bit.{Bit}
use Rattle.cell_graph.specs.declared.cell.CellId.{CellId}
use Rattle.cell_graph.specs.declared.cell.Node.{Node}
use Rattle.cell_graph.specs.declared.net.Net.{Net}
use Rattle.cell_graph.specs.Cofactor.{reads}
use Rattle.cell_graph.specs.Origin.{TreeBit}
use Rattle.cell_graph.specs.Reading.{bit_eq}
use Rattle.cell_graph.specs.Tree.{Tree}
use Rattle.cell_graph.specs.Unfolded.{IsNodeOf, tree_of}
use Rattle.cell_graph.proofs.Bits.{bit_eq-true}
use Rattle.domains.specs.declared.Domains.{Domains}
use Rattle.domains.specs.Assignment.{clock_of}
use Rattle.cdc_model.specs.declared.scheme.GrayReg.{GrayReg}
use Rattle.cdc_model.specs.declared.scheme.Shape.{Shape}
use Rattle.cdc_model.specs.Design.{are_equal, bits_from, word}
use Rattle.cdc_model.specs.GrayShape.{HasShape, IsGrayReg}
use Rattle.cdc_model.specs.Nets.{HasNextCells, bit_count, clock_of_bit, design_of, is_register_bit, is_within, next_cell, next_tree}
use Rattle.cdc_model.specs.Schemes.{Sync, Trees}
use Rattle.cdc_model.specs.Word.{origins}
use Rattle.cdc_model.proofs.Ascending.{from_filter, from_map, here, in_map}
use Rattle.cdc_model.proofs.Justify.{slice_in}
use Rattle.cdc_model.proofs.NetDesign.{cond_some}
use Rattle.gray_pointer.specs.Words.{IsPlain}
use Rattle.gray_pointer.proofs.Grays.{one_shape}
use Rattle.fifo_laws.specs.Fifos.{Fifo, IsFifo, marks_of}
use Rattle.fifo_laws.specs.Laws.{AreLists}
use Rattle.fifo_laws.specs.Sides.{Side, IsSide, side_width, syncs_on}
use Rattle.fifo_laws.specs.Ways.{Leads}
use Rattle.fifo_laws.specs.Words.{Column, IsReadOf, IsWordBit, depth_of}
use Rattle.fifo_ways.specs.Feeds.{first}
use Rattle.fifo_ways.proofs.Fed.{fed-node, reached}
use Rattle.fifo_scheme.specs.declared.finder.Key.{Key}
use Rattle.fifo_scheme.specs.declared.index.Index.{Index}
use Rattle.fifo_parts.specs.declared.side.Outline.{Outline}
use Rattle.fifo_parts.specs.declared.side.Side.{Side as SideEntry}
use Rattle.fifo_parts.specs.declared.words.Taking.{Taking}
use Rattle.fifo_scheme.specs.Candidates.{AreBy, IsReadTo, OfOne, key_of}
use Rattle.fifo_parts.specs.Words.{SaysLowest}
use Rattle.fifo_scheme.specs.Indexed.{HasOneShape, IsIndex, IsPlaceOf}
use Rattle.fifo_parts.specs.Sides.{HasVar, MakesSide}
use Rattle.fifo_scheme.proofs.MetPlaces.{next_there, tree_there, within_register}
use Rattle.fifo_scheme.proofs.MetReads.{some_words}
use Rattle.fifo_scheme.proofs.MetSides.{says_lowest, taking_of}
use Rattle.fifo_scheme.proofs.Passed.{led}
use Rattle.fifo_scheme.proofs.VarsRead.{read_var}

-- the key of a FIFO
abbrev pub fifo_is : Fifo → Key
fifo_is f = record { wb = f.wb; wg = f.wg; rb = f.rb; rg = f.rg }

-- ---- what comes first

first_word : (P : Bit → Type 0) (bits : List Bit) (b : Bit) → Contains bits b → AllByRecursion P bits → P b
first_word P [] b i h = absurd (let l = i.1 in omega arith)
first_word P (c ∷ bits) b (zero, l, e) h = subst P e h.0
first_word P (c ∷ bits) b (suc k, l, e) h = first_word P bits b (k, omega arith, e) h.1

first_in : (sig n : ℕ) → 1 ≤ n → Contains (bits_from sig 0 n) (record { sig = sig; at = 0 })
first_in sig zero l = absurd (omega arith)
first_in sig (suc n) l = here (record { sig = sig; at = 0 }) (bits_from sig 1 n)

first_item : {A : Type 0} (xs : List A) → xs ≢ [] → (x : A) × Contains xs x
first_item [] h = absurd (h refl)
first_item (x ∷ xs) h = (x, here x xs)

first_there : (xs : List Bit) → 1 ≤ length xs → (b : Bit) × (slice_get xs 0 ≡ Some b)
first_there [] l = absurd (omega arith)
first_there (b ∷ bs) l = (b, refl)

module _ (net : Net) (domains : Domains) (plain : IsPlain net.graph) (has : HasNextCells net) (t : Trees) (syncs : List Sync) (grays : List GrayReg)
    (lists : AreLists (design_of net domains) (next_tree net) t syncs grays) where
  abbrev codes_of : (sig count : ℕ) → List TreeBit
  codes_of sig count = origins (next_tree net sig) 0 (bit_count net.graph.signals count)

  abbrev Shaped : Shape → (count gray : ℕ) → Type 0
  Shaped s count gray = HasShape s count gray (bit_count net.graph.signals count) (codes_of count count) (codes_of gray count)

  -- Gray registers of the lists with one counter and one register are one
  pub one_reg : (reg other : GrayReg) → Contains grays reg → Contains grays other → other.count ≡ reg.count → other.gray ≡ reg.gray → other ≡ reg
  one_reg reg other i j count gray = λ k. record { gray = gray k; count = count k; shape = shape k }
    where
      is : IsGrayReg (design_of net domains) (next_tree net) reg
      is = lists.are_grays reg i

      like : IsGrayReg (design_of net domains) (next_tree net) other
      like = lists.are_grays other j

      shape : other.shape ≡ reg.shape
      shape = one_shape other.shape reg.shape reg.count reg.gray (bit_count net.graph.signals reg.count) (codes_of reg.count reg.count) (codes_of reg.gray reg.count)
          (subst (λ (n : ℕ). Shaped other.shape n reg.gray) count (subst (λ (n : ℕ). Shaped other.shape other.count n) gray like.shape)) is.shape

  pub one_listed : (reg : GrayReg) → Contains grays reg → HasOneShape grays reg
  one_listed reg i other j count gray = one_reg reg other i j count gray

  module _ (to : ℕ) (s : Side) (side : IsSide (design_of net domains) (next_tree net) syncs grays to s) (wide : 2 ≤ side_width (design_of net domains) s)
      (narrow : side_width (design_of net domains) s ≤ 11) (settles : (design_of net domains).settle s.clock ≡ 1) where
    is_gray : IsGrayReg (design_of net domains) (next_tree net) s.reg
    is_gray = lists.are_grays s.reg side.listed

    abbrev count_bit : Bit
    count_bit = record { sig = s.reg.count; at = 0 }

    abbrev gray_bit : Bit
    gray_bit = record { sig = s.reg.gray; at = 0 }

    gray_wide : bit_count net.graph.signals s.reg.gray ≡ bit_count net.graph.signals s.reg.count
    gray_wide = is_gray.width.2

    in_count : Contains (word (design_of net domains) s.reg.count) count_bit
    in_count = first_in s.reg.count (bit_count net.graph.signals s.reg.count) (omega arith)

    in_gray : Contains (word (design_of net domains) s.reg.gray) gray_bit
    in_gray = let e = gray_wide in first_in s.reg.gray (bit_count net.graph.signals s.reg.gray) (omega arith)

    -- both registers have next values
    count_next : (c : CellId) × (next_cell net.regs s.reg.count ≡ Some c)
    count_next = next_there net count_bit (first_word (λ b. (is_register_bit net b ≡ true) × (clock_of_bit net domains b ≡ Some is_gray.one_clock.0)) (word (design_of net domains) s.reg.count) count_bit in_count is_gray.one_clock.1).0

    gray_next : (c : CellId) × (next_cell net.regs s.reg.gray ≡ Some c)
    gray_next = next_there net gray_bit (first_word (λ b. (is_register_bit net b ≡ true) × (clock_of_bit net domains b ≡ Some is_gray.one_clock.0)) (word (design_of net domains) s.reg.gray) gray_bit in_gray is_gray.one_clock.2).0

    on_clock : clock_of domains count_bit ≡ Some s.clock
    on_clock = (cond_some (is_within net count_bit) (clock_of domains count_bit) s.clock
        (first_word (λ b. clock_of_bit net domains b ≡ Some s.clock) (word (design_of net domains) s.reg.count) count_bit in_count side.clock)).1

    -- a synchronizer reads the Gray register
    brought : (y : Sync) × Contains syncs y × (y.from ≡ gray_bit)
    brought =
        let m = from_map (λ (y : Sync). y ∷ []) s.over (syncs_on (design_of net domains) syncs to gray_bit)
        (subst (λ (xs : List (List Sync)). Contains xs (syncs_on (design_of net domains) syncs to gray_bit)) side.over
        (in_map (syncs_on (design_of net domains) syncs to) (word (design_of net domains) s.reg.gray) gray_bit in_gray)) in
        let f = from_filter (λ (y : Sync). bit_eq y.from gray_bit && are_equal (clock_of_bit net domains y.first) (Some to)) syncs m.0
        (subst (λ (ys : List Sync). Contains ys m.0) m.2 (here m.0 [])) in
        (m.0, f.0, bit_eq-true m.0.from gray_bit (and_parts (bit_eq m.0.from gray_bit) (are_equal (clock_of_bit net domains m.0.first) (Some to)) f.1).0)

    is_read : HasVar net.graph s.reg.gray
    is_read =
        let y = brought in
        let sync = lists.are_syncs y.0 y.1 in
        let c = next_there net y.0.first sync.crossing.register in
        let read = sym (lists.reads y.0.first y.0.from sync.crossing.register) ∙ sync.crossing.reads in
        read_var net.graph plain.well s.reg.gray c.0 (has y.0.first.sig c.0 c.1).0 y.0.first.at y.0.from (ap (λ (b : Bit). b.sig) y.2)
        (subst (λ (u : Tree). reads [] u y.0.first.at y.0.from ≡ true) (tree_there net y.0.first c.0 c.1) read)

    abbrev the_outline : Outline
    the_outline = record { width = bit_count net.graph.signals s.reg.count; clock = s.clock; next = count_next.0; gray_next = gray_next.0 }

    makes : MakesSide net domains s.reg the_outline s.under
    makes = record {
      outline = record {
        wide = (wide, narrow);
        count_width = refl;
        gray_width = gray_wide;
        clock = on_clock;
        settles = settles;
        start = (side.start.0, side.start.1);
        next = count_next.1;
        gray_next = gray_next.1;
      };
      counts = side.counts;
      read = λ h. is_read;
    }

    -- so the side is among those that were found
    pub side_there : (i : Index) → IsIndex net domains syncs grays i → (e : SideEntry) × Contains i.sides.items e × (e.reg ≡ s.reg)
    side_there i is = is.sides.all s.reg the_outline s.under side.listed (one_listed s.reg side.listed) makes

  module _ (i : Index) (is : IsIndex net domains syncs grays i) (f : Fifo) (fifo : IsFifo (design_of net domains) (next_tree net) syncs grays f) where
    wide_write : (2 ≤ side_width (design_of net domains) fifo.write) × (side_width (design_of net domains) fifo.write ≤ 11)
    wide_write = (subst (λ (n : ℕ). 2 ≤ n) (sym fifo.wide.2) fifo.wide.0, subst (λ (n : ℕ). n ≤ 11) (sym fifo.wide.2) fifo.wide.1)

    wide_read : (2 ≤ side_width (design_of net domains) fifo.read) × (side_width (design_of net domains) fifo.read ≤ 11)
    wide_read = (subst (λ (n : ℕ). 2 ≤ n) (sym fifo.wide.3) fifo.wide.0, subst (λ (n : ℕ). n ≤ 11) (sym fifo.wide.3) fifo.wide.1)

    one_width : side_width (design_of net domains) fifo.write ≡ side_width (design_of net domains) fifo.read
    one_width = fifo.wide.2 ∙ sym fifo.wide.3

    -- both sides were found
    pub fifo_by : AreBy i.sides.items f.wb f.rb (fifo_is f)
    fifo_by =
        let w = side_there fifo.read.clock fifo.write fifo.writes wide_write.0 wide_write.1 fifo.settles.0 i is in
        let r = side_there fifo.write.clock fifo.read fifo.reads wide_read.0 wide_read.1 fifo.settles.1 i is in
        let wb : w.0.reg.count ≡ f.wb = ap (λ (g : GrayReg). g.count) w.2 ∙ fifo.named.0 in
        let wg : w.0.reg.gray ≡ f.wg = ap (λ (g : GrayReg). g.gray) w.2 ∙ fifo.named.1 in
        let rb : r.0.reg.count ≡ f.rb = ap (λ (g : GrayReg). g.count) r.2 ∙ fifo.named.2 in
        let rg : r.0.reg.gray ≡ f.rg = ap (λ (g : GrayReg). g.gray) r.2 ∙ fifo.named.3 in
        let key : key_of w.0 r.0 ≡ fifo_is f = λ k. record { wb = wb k; wg = wg k; rb = rb k; rg = rg k } in
        (w.0, r.0, w.1, r.1, wb, rb, key)

    abbrev IsReadNode : Tree → ℕ → Type 0
    IsReadNode u j = (c : Column) × IsReadOf (design_of net domains) (next_tree net) fifo.write fifo.read c (Some (u, j))

    -- the way of a reader leads to a read
    read_node : (n : Node) × IsNodeOf net.graph n × IsReadNode (tree_of net.graph n.cell) n.at
    read_node =
        let x = first_item f.readers fifo.reader in
        let reader = fifo.readers.only x.0 x.1 in
        let leads = led (marks_of (design_of net domains) (next_tree net) fifo.write fifo.read) reader.reads.0 reader.reads.1 false (next_tree net x.0.sig) x.0.at reader.passes reader.reads.2 in
        let c = next_there net x.0 reader.register in
        let root : Node = record { cell = c.0; at = x.0.at } in
        let w = has x.0.sig c.0 c.1 in
        let node : IsNodeOf net.graph root = (w.0, subst (λ (m : ℕ). x.0.at < m) (sym w.1) (within_register net x.0 reader.register)) in
        let nodes = λ (m : Node) (h : Contains (root ∷ []) m). subst (IsNodeOf net.graph) (only_item root m h) node in
        let r = reached net.graph plain.well (root ∷ []) nodes IsReadNode (suc c.0.0) root (omega arith) (first (here root [])) (subst (λ (u : Tree). Leads IsReadNode u x.0.at) (tree_there net x.0 c.0 c.1) leads) in
        (r.0, fed-node net.graph plain.well (root ∷ []) nodes r.0 r.1, r.3)
      where
        only_item : {A : Type 0} (a b : A) → Contains (a ∷ []) b → a ≡ b
        only_item a b (zero, l, e) = e
        only_item a b (suc k, l, e) = absurd (omega arith)

    deep : (c : Column) → length c.words ≡ depth_of (design_of net domains) fifo.write → length c.words ≡ depth_of (design_of net domains) fifo.read
    deep c e = e ∙ ap (λ (n : ℕ). 2 ^ (n - 1)) one_width

    -- some read leads to the two sides
    pub fifo_read : OfOne (IsReadTo net i) i.reads (fifo_is f)
    fifo_read =
        let (n, node, (c, (column, chooses))) = read_node in
        let r = is.reads.all n fifo.read c.words node (refl, wide_read.0, wide_read.1) (deep c column.depth, chooses) in
        let m = first_there c.words (subst (λ (k : ℕ). 1 ≤ k) (sym column.depth) (some_words (design_of net domains) fifo.write)) in
        let bit = column.words 0 m.0 m.1 in
        let there = taking_of net domains i.takings is.takings m.0 bit.register in
        let taking = taken_there (hash.get equality.ghosts.eq i.taking_by_bit m.0) (is.taking_at m.0) there in
        let says = says_lowest net domains plain fifo.write fifo.read 0 c.value taking.0 wide_write.0 (is.takings.each taking.0 taking.1)
        (subst (λ (b : Bit). IsWordBit (design_of net domains) (next_tree net) fifo.write fifo.read 0 c.value b) (sym taking.3) bit) in (
          r.0,
          r.1,
          (
            m.0,
            ap (λ (ws : List Bit). slice_get ws 0) r.4 ∙ m.1,
            (
              f.wb,
              (taking.0, taking.2, subst (λ (k : ℕ). SaysLowest net k taking.0) fifo.named.0 says),
              subst (λ (k : ℕ). AreBy i.sides.items f.wb k (fifo_is f)) (sym (r.3 ∙ fifo.named.2)) fifo_by,
            ),
          ),
        )
      where
        taken_there : {b : Bit} (o : Option ℕ) → IsPlaceOf i.takings b o → (t : Taking) × Contains i.takings t × (t.bit ≡ b)
            → (t : Taking) × Contains i.takings t × (option_and_then (slice_get i.takings) o ≡ Some t) × (t.bit ≡ b)
        taken_there None h k = absurd (h k.0 k.1 k.2)
        taken_there (Some n) h k = (h.0, slice_in i.takings n h.0 h.1, h.1, h.2)
