-- Flags and tests of the near side, for full and for empty alike.
use Rattle.std.proofs.Common.{◌≡◌, ◌∙◌, ◌↔◌, sym, ap, subst, ◌⊎◌, ℕ, ◌<◌, Bool, true, cond, Option, Some, None, is_some, List, map, Contains}
use Rattle.std.proofs.Common.{ltb-true}
use Rattle.std.proofs.lemmas.Bool.{and_parts}
use Rattle.cdc_base.specs.declared.bit.Bit.{Bit}
use Rattle.cell_graph.specs.declared.cell.CellId.{CellId}
use Rattle.cell_graph.specs.declared.cell.Node.{Node}
use Rattle.cell_graph.specs.declared.net.Net.{Net}
use Rattle.cell_graph.specs.Cells.{cell_width}
use Rattle.cell_graph.specs.Origin.{TreeBit}
use Rattle.cell_graph.specs.Tree.{Tree}
use Rattle.cell_graph.specs.Unfolded.{IsNodeOf, tree_of}
use Rattle.cofactor.specs.Shown.{Shown as Rows}
use Rattle.domains.specs.declared.Domains.{Domains}
use Rattle.domains.specs.Assignment.{clock_of}
use Rattle.domains.specs.Nets.{IsNet}
use Rattle.cdc_model.specs.Design.{Design}
use Rattle.cdc_model.specs.Nets.{bit_count, bits_of_registers, design_of, is_within, is_register_bit, next_cell, next_node_of, next_tree, start_of}
use Rattle.cdc_model.specs.Nets.{tree_or_zero}
use Rattle.cdc_model.specs.Schemes.{last_flop}
use Rattle.cdc_model.proofs.NetDesign.{in_bits}
use Rattle.cdc_model.proofs.Synced.{unlisted}
use Rattle.cdc_model.proofs.ReadBits.{cell-of, place-of, no-cell, node-is}
use Rattle.fifo_terms.specs.Codes.{Code}
use Rattle.fifo_terms.specs.Shows.{IsFlagTest, IsTest}
use Rattle.fifo_terms.specs.Terms.{Term, Is}
use Rattle.fifo_laws.specs.Sides as laws
use Rattle.fifo_laws.specs.Sides.{Side, bit_node, came_over, next_code_of}
use Rattle.fifo_laws.specs.Tests.{IsFlag}
use Rattle.gray_pointer.specs.Words.{IsPlain}
use Rattle.fifo_nodes.specs.declared.shows.Apart.{Apart}
use Rattle.fifo_nodes.specs.declared.shows.Apart.TheVariants.{Full, Empty}
use Rattle.fifo_nodes.specs.Codes.{apart_of, code_of, nodes_of}
use Rattle.fifo_parts.specs.declared.flags.Flag.{Flag}
use Rattle.fifo_parts.specs.declared.pair.Teller.{Teller}
use Rattle.fifo_parts.specs.declared.side.Side.{Side as SideEntry}
use Rattle.fifo_parts.specs.Comparisons.{IsOwn}
use Rattle.fifo_parts.specs.Tellers.{IsFlagBy, IsShown, IsSideOf, IsTeller, IsTestBy, MayStart, SaysFlag}
use Rattle.fifo_parts.proofs.NearSides.{next_test, now_code, over_nodes, test_next}

pub plain_net : (net : Net) (table : Rows) → IsShown net table → IsPlain net.graph
plain_net net table shown = record { well = shown.is_net.graph; shared = shown.is_shared }

module _ (d : Design) (tree : ℕ → Tree) (near far : Side) where
  -- a flag tells by its next value, and starts as it may
  pub flag_by : (a : Apart) (f : Bit) (u : Bool) → IsFlagBy a d tree near far f u → IsFlag d tree near far (apart_of a) f u × MayStart a (d.start f) u
  flag_by Full f u h = (h, tt)
  flag_by Empty f u h = h

  pub by_flag : (a : Apart) (f : Bit) (u : Bool) → IsFlag d tree near far (apart_of a) f u → MayStart a (d.start f) u → IsFlagBy a d tree near far f u
  by_flag Full f u h s = h
  by_flag Empty f u h s = (h, s)

  -- a test is one by the code or by a flag
  abbrev pub IsTestOr : Apart → Term → Type 0
  IsTestOr a t = IsTest (laws.code_of d near) (came_over d far) (apart_of a) t
      ⊎ ((f : Bit) × (u : Bool) × (t ≡ Is (bit_node d f) u) × IsFlagBy a d tree near far f u)

  pub test_by : (a : Apart) (t : Term) → IsTestBy a d tree near far t ↔ IsTestOr a t
  test_by Full t = (λ h. h, λ h. h)
  test_by Empty t = (λ h. h, λ h. h)

module _ (net : Net) (domains : Domains) (e : SideEntry) (near far : Side) (side : IsSideOf net domains e near) (over : List Bit)
    (came : over ≡ map last_flop far.over) (a : Apart) (t : Term) where
  -- what tests by the code on nodes does so by the side's code
  pub told_test : IsTest (code_of net.graph e.now) (nodes_of net.graph over) (apart_of a) t
      → IsTest (laws.code_of (design_of net domains) near) (came_over (design_of net domains) far) (apart_of a) t
  told_test h =
      subst (λ (ns : List TreeBit). IsTest (laws.code_of (design_of net domains) near) ns (apart_of a) t) (over_nodes net domains over far.over came)
      (subst (λ (k : Code). IsTest k (nodes_of net.graph over) (apart_of a) t) (now_code net domains e near side) h)

  pub test_told : IsTest (laws.code_of (design_of net domains) near) (came_over (design_of net domains) far) (apart_of a) t
      → IsTest (code_of net.graph e.now) (nodes_of net.graph over) (apart_of a) t
  test_told h =
      subst (λ (k : Code). IsTest k (nodes_of net.graph over) (apart_of a) t) (sym (now_code net domains e near side))
      (subst (λ (ns : List TreeBit). IsTest (laws.code_of (design_of net domains) near) ns (apart_of a) t)
      (sym (over_nodes net domains over far.over came)) h)

module _ (net : Net) (domains : Domains) (t : Teller) (near far : Side) (tells : IsTeller net domains t near far) (term : Term) where
  -- a term says one of the flags that a teller has where it says a flag
  pub says_flag : SaysFlag net.graph t.flags term
      ↔ ((f : Bit) × (u : Bool) × (term ≡ Is (bit_node (design_of net domains) f) u)
      × IsFlagBy t.apart (design_of net domains) (next_tree net) near far f u)
  says_flag = (
    λ (f, i, e). (f.bit, f.value, e, tells.flags.only f i),
    λ (f, u, e, h). let flag : Flag = record { bit = f; value = u } in (flag, tells.flags.all flag h, e),
  )

module _ (net : Net) (table : Rows) (shown : IsShown net table) (domains : Domains) (x : Bit) (reg : is_register_bit net x ≡ true) where
  within : is_within net x ≡ true
  within = (and_parts _ (is_within net x) reg).1

  -- the clock of a register bit
  pub register_clock : (design_of net domains).clock x ≡ clock_of domains x
  register_clock = ap (λ v. cond v (clock_of domains x) None) within

  -- it is among the bits of all registers
  pub register_in : Contains (bits_of_registers net.graph.signals net.regs) x
  register_in = in_bits net.graph.signals x (ltb-true x.at (bit_count net.graph.signals x.sig) within) net.regs (and_parts _ (is_within net x) reg).0

  -- a register bit has a next value
  pub has_next : next_node_of net x ≡ None → ⊥
  has_next e = no_cell (next_cell net.regs x.sig) (no-cell net x e) (and_parts _ (is_within net x) reg).0
    where
      no_cell : (o : Option CellId) → o ≡ None → is_some o ≡ true → ⊥
      no_cell None e h = cc
      no_cell (Some c) e h = cc

  module _ (n : Node) (next : next_node_of net x ≡ Some n) where
    pub next_in : IsNodeOf net.graph n
    next_in =
        let node = node-is net shown.has_next x (ltb-true x.at (bit_count net.graph.signals x.sig) within) n.cell (cell-of net x n next) in
        (node.0, subst (λ i. i < cell_width net.graph n.cell) (sym (place-of net x n next)) node.1)

    pub next_is : next_tree net x.sig ≡ tree_of net.graph n.cell
    next_is = ap (tree_or_zero net.graph) (cell-of net x n next)

-- what is listed of all registers are register bits
pub listed_register : (net : Net) → IsNet net → (bits : List Bit) → bits ≡ bits_of_registers net.graph.signals net.regs → (x : Bit)
    → Contains bits x → is_register_bit net x ≡ true
listed_register net is bits e x i = unlisted net is x x (subst (λ (bs : List Bit). Contains bs x) e i)

-- Whether a flag's next value tells, by the code or by the design.
module _ (net : Net) (table : Rows) (shown : IsShown net table) (domains : Domains) (e : SideEntry) (near far : Side)
    (side : IsSideOf net domains e near)
    (over : List Bit) (came : over ≡ map last_flop far.over) (a : Apart) (flag : Flag) (own : IsOwn net domains flag) where
  starts : IsFlagBy a (design_of net domains) (next_tree net) near far flag.bit flag.value
      → MayStart a (start_of net.graph.signals flag.bit) flag.value
  starts h = (flag_by (design_of net domains) (next_tree net) near far a flag.bit flag.value h).1

  is_flag : IsFlagBy a (design_of net domains) (next_tree net) near far flag.bit flag.value
      → IsFlag (design_of net domains) (next_tree net) near far (apart_of a) flag.bit flag.value
  is_flag h = (flag_by (design_of net domains) (next_tree net) near far a flag.bit flag.value h).0

  -- a flag is on the side's clock, and starts as it may
  pub flag_clock : IsFlagBy a (design_of net domains) (next_tree net) near far flag.bit flag.value → clock_of domains flag.bit ≡ Some e.clock
  flag_clock h = sym (register_clock net table shown domains flag.bit own.0) ∙ (is_flag h).clock ∙ ap Some side.clock

  pub flag_starts : IsFlagBy a (design_of net domains) (next_tree net) near far flag.bit flag.value
      → MayStart a (start_of net.graph.signals flag.bit) flag.value
  flag_starts = starts

  module _ (n : Node) (next : next_node_of net flag.bit ≡ Some n) where
    abbrev pub IsTold : Type 0
    IsTold = IsFlagTest (code_of net.graph e.next) (nodes_of net.graph over) (apart_of a) (tree_of net.graph n.cell) n.at flag.value

    place : n.at ≡ flag.bit.at
    place = place-of net flag.bit n next

    tree : next_tree net flag.bit.sig ≡ tree_of net.graph n.cell
    tree = next_is net table shown domains flag.bit own.0 n next

    pub flag_told : IsFlagBy a (design_of net domains) (next_tree net) near far flag.bit flag.value → IsTold
    flag_told h =
        subst (λ i. IsFlagTest (code_of net.graph e.next) (nodes_of net.graph over) (apart_of a) (tree_of net.graph n.cell) i flag.value) (sym place)
        (subst (λ (t : Tree). IsFlagTest (code_of net.graph e.next) (nodes_of net.graph over) (apart_of a) t flag.bit.at flag.value) tree
        (test_next net domains e near side (nodes_of net.graph over) (apart_of a) (next_tree net flag.bit.sig) flag.bit.at flag.value
        (subst (λ (ns : List TreeBit). IsFlagTest (next_code_of (design_of net domains) (next_tree net) near) ns (apart_of a)
        (next_tree net flag.bit.sig) flag.bit.at flag.value)
        (sym (over_nodes net domains over far.over came)) (is_flag h).shows)))

    pub told_flag : clock_of domains flag.bit ≡ Some e.clock → MayStart a (start_of net.graph.signals flag.bit) flag.value → IsTold
        → IsFlagBy a (design_of net domains) (next_tree net) near far flag.bit flag.value
    told_flag clock start h = by_flag (design_of net domains) (next_tree net) near far a flag.bit flag.value (record {
      register = own.0;
      clock = register_clock net table shown domains flag.bit own.0 ∙ clock ∙ ap Some (sym side.clock);
      own = own.1;
      shows =
          subst (λ (ns : List TreeBit). IsFlagTest (next_code_of (design_of net domains) (next_tree net) near) ns (apart_of a)
          (next_tree net flag.bit.sig) flag.bit.at flag.value)
          (over_nodes net domains over far.over came)
          (next_test net domains e near side (nodes_of net.graph over) (apart_of a) (next_tree net flag.bit.sig) flag.bit.at flag.value
          (subst (λ (t : Tree). IsFlagTest (code_of net.graph e.next) (nodes_of net.graph over) (apart_of a) t flag.bit.at flag.value) (sym tree)
          (subst (λ i. IsFlagTest (code_of net.graph e.next) (nodes_of net.graph over) (apart_of a)
          (tree_of net.graph n.cell) i flag.value) place h)));
    }) start
