-- The fields of a net's design, and its trees, are those of the flat design.
use Rattle.std.proofs.Common.{◌≡◌, ◌∙◌, refl, sym, ap, ap₂, ℕ, Bool, cond, not, ◌&&◌, nat_lt, List, [], length, Option, Some, None, is_some, option_map, unwrap_or, slice_get}
use Rattle.std.specs.List.{list_any}
use Rattle.std.proofs.Math.Path.{fun_ext}
use Rattle.cdc_base.specs.declared.bit.Bit.{Bit}
use Rattle.cdc_base.specs.declared.signal.Signal.{Signal}
use Rattle.cell_graph.specs.declared.net.Net.{Net}
use Rattle.cell_graph.specs.declared.net.Reg.{Reg}
use Rattle.cell_graph.specs.Cofactor.{same, reads}
use Rattle.cell_graph.specs.Nets.{bit_count, is_register, next_cell, register_signals}
use Rattle.cell_graph.specs.Tree.{Tree, Const, width, bit, any_below}
use Rattle.cell_graph.specs.Unfolded as graph
use Rattle.clock_constraints.specs.declared.Constraints.{Constraints}
use Rattle.clock_constraints.proofs.Places.{list_any-map}
use Rattle.domains.specs.declared.Domains.{Domains}
use Rattle.domains.specs.Assignment.{clock_of}
use Rattle.domains.specs.Clocks.{register_of}
use Rattle.cdc_model.specs.declared.scheme.GrayReg.{GrayReg}
use Rattle.cdc_model.specs.Design.{Design}
use Rattle.cdc_model.specs.Nets.{settle_on, start_of, trees_of, tree_or_zero, net_trees}
use Rattle.cdc_model.specs.Nets as net_model
use Rattle.flat_meaning.specs.Design.{Flat, kind_in, size_in}
use Rattle.flat_meaning.specs.SignalTrees.{next_tree_of, tree_of}
use Rattle.flat_meaning.specs.Trees.{Selects}
use Rattle.elaborate.specs.NetTrees.{IsRegisterOf}
use Rattle.flat_model.specs.Designs.{flat_trees, is_read_by_output, next_tree, start_bit}
use Rattle.flat_model.specs.Laws.{IsNetOf}
use Rattle.flat_model.proofs.Words.{bits_word, registers_word, start_word}
use Rattle.flat_model.proofs.Registers.{is_found, next_of_register, register_has}

-- a design, by its signals' bits and start values, which of them are registers and what their trees are
abbrev pub made : (ℕ → ℕ) → (Bit → Option Bool) → (ℕ → Bool) → (ℕ → Tree) → Domains → Design
made bits start registers tree domains = record {
  width = bits;
  is_register = λ b. registers b.sig && nat_lt b.at (bits b.sig);
  is_input = λ b. is_some (cond (nat_lt b.at (bits b.sig)) (clock_of domains b) None) && not (registers b.sig && nat_lt b.at (bits b.sig));
  clocks = length domains.clocks;
  clock = λ b. cond (nat_lt b.at (bits b.sig)) (clock_of domains b) None;
  group_of = λ c. unwrap_or (slice_get domains.group_by_clock c) 0;
  settle = settle_on domains;
  start = start;
  next = λ r x. bit r (tree x.sig) x.at;
  copied = λ x. same [] (tree x.sig) x.at;
}

module _ (f : Flat) (sel : Selects) (c : Constraints) (net : Net) (domains : Domains) (n : IsNetOf f sel c net domains) where
  abbrev pub registers : ℕ → Bool
  registers sig = is_register (kind_in f.signals sig)

  pub found : (sig : ℕ) → is_some (register_of net.regs sig) ≡ registers sig
  found sig = is_found f.signals net.regs (n.is_net.registers ∙ ap (register_signals 0) n.signals ∙ registers_word 0 f.signals) sig

  some_next : (o : Option Reg) → is_some (option_map (λ (r : Reg). r.next) o) ≡ is_some o
  some_next None = refl
  some_next (Some r) = refl

  has_next : (sig : ℕ) → is_some (next_cell net.regs sig) ≡ registers sig
  has_next sig = ap is_some (next_of_register net.regs sig) ∙ some_next (register_of net.regs sig) ∙ found sig

  -- the next values' trees are the design's
  pub next_trees : (sig : ℕ) → net_model.next_tree net sig ≡ next_tree f sel sig
  next_trees sig = ap (tree_or_zero net.graph) (next_of_register net.regs sig) ∙ go (register_of net.regs sig) refl (found sig)
    where
      go : (o : Option Reg) → register_of net.regs sig ≡ o → is_some o ≡ registers sig
          → tree_or_zero net.graph (option_map (λ (r : Reg). r.next) o) ≡ cond (registers sig) (next_tree_of f sel sig) (Const 1 0)
      go None e k = ap (λ b. cond b (next_tree_of f sel sig) (Const 1 0)) k
      go (Some r) e k =
          let has = register_has (IsRegisterOf f sel net.graph) net.regs sig r n.has_trees.registers e in
          has.1.next ∙ ap (next_tree_of f sel) has.0 ∙ ap (λ b. cond b (next_tree_of f sel sig) (Const 1 0)) k

  pub same_bits : (sig : ℕ) → bit_count net.graph.signals sig ≡ size_in f sig
  same_bits sig = ap (λ (ss : List Signal). bit_count ss sig) n.signals ∙ bits_word f.signals sig n.sized

  same_start : (b : Bit) → start_of net.graph.signals b ≡ start_bit f b
  same_start b = ap (λ (ss : List Signal). start_of ss b) n.signals ∙ start_word f.signals n.sized b

  pub same_made : net_model.design_of net domains ≡ made (size_in f) (start_bit f) registers (next_tree f sel) domains
  same_made =
      ap₂ (λ (bits : ℕ → ℕ) (start : Bit → Option Bool). made bits start (λ sig. is_some (next_cell net.regs sig)) (net_model.next_tree net) domains) (fun_ext same_bits) (fun_ext same_start)
      ∙ ap₂ (λ (has : ℕ → Bool) (tree : ℕ → Tree). made (size_in f) (start_bit f) has tree domains) (fun_ext has_next) (fun_ext next_trees)

  -- a top output reads the same bits
  abbrev reads_one : Bit → Tree → Bool
  reads_one b t = any_below (λ i. reads [] t i b) (width t)

  same_outputs : (b : Bit) → net_model.is_read_by_output net b ≡ is_read_by_output f sel b
  same_outputs b = sym (list_any-map (reads_one b) (graph.tree_of net.graph) net.outputs)
      ∙ ap (list_any (reads_one b)) n.has_trees.outputs
      ∙ list_any-map (reads_one b) (tree_of f sel) f.outputs

  pub same_trees : (grays : GrayReg → Bool) → flat_trees f sel grays ≡ net_trees net grays
  same_trees grays = sym (ap₂ (λ (tree : ℕ → Tree) (outputs : Bit → Bool). trees_of tree outputs grays) (fun_ext next_trees) (fun_ext same_outputs))
