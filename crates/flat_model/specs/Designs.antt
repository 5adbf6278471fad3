-- What a flat design and its domains mean as a design with runs. It knows no cell.
use Rattle.std.specs.Prelude.{◌≡◌, ℕ, Bool, false, cond, not, ◌&&◌, nat_lt, Option, None, is_some, unwrap_or, [], length, slice_get, true, ◌↔◌, List}
use Rattle.std.specs.List.{list_any}
use Rattle.cdc_base.specs.declared.bit.Bit.{Bit}
use Rattle.cell_graph.specs.Cofactor.{same, reads}
use Rattle.cell_graph.specs.Nets.{is_register}
use Rattle.cell_graph.specs.Reading.{Reading}
use Rattle.cell_graph.specs.Tree.{Tree, Const, width, any_below}
use Rattle.clock_constraints.specs.declared.Constraints.{Constraints}
use Rattle.domains.specs.declared.Domains.{Domains}
use Rattle.domains.specs.Assignment.{clock_of}
use Rattle.domains.specs.Clocks.{Roles}
use Rattle.cdc_model.specs.declared.scheme.GrayReg.{GrayReg}
use Rattle.cdc_model.specs.declared.scheme.Load.{Load}
use Rattle.cdc_model.specs.Design.{Design}
use Rattle.cdc_model.specs.GrayShape.{IsGrayReg}
use Rattle.cdc_model.specs.Nets.{settle_on, start_of, trees_of}
use Rattle.cdc_model.specs.Schemes.{Sync, Trees}
use Rattle.cdc_model.specs.Verdict.{IsVerdict, Verdict}
use Rattle.flat_meaning.specs.Values.{Words}
use Rattle.flat_meaning.specs.Design.{Consistent, Flat, Next, kind_in, size_in}
use Rattle.flat_meaning.specs.SignalTrees.{AreTrees, next_tree_of, tree_of}
use Rattle.flat_meaning.specs.Trees.{Selects}
use Rattle.flat_model.specs.Clocked.{AreDomains, pins_of}

-- the tree of a register's next value; a zero bit for any other signal
abbrev pub next_tree : Flat → Selects → ℕ → Tree
next_tree f sel sig = cond (is_register (kind_in f.signals sig)) (next_tree_of f sel sig) (Const 1 0)

-- the bit lies in its signal
abbrev pub is_within : Flat → Bit → Bool
is_within f b = nat_lt b.at (size_in f b.sig)

-- a bit of a register
abbrev pub is_register_bit : Flat → Bit → Bool
is_register_bit f b = is_register (kind_in f.signals b.sig) && is_within f b

-- the clock of a bit of a register or a clocked input, where the bit lies in its signal
abbrev pub clock_of_bit : Flat → Domains → Bit → Option ℕ
clock_of_bit f domains b = cond (is_within f b) (clock_of domains b) None

-- the value that a register bit starts with, where it is known
abbrev pub start_bit : Flat → Bit → Option Bool
start_bit f b = cond (is_register_bit f b) (start_of f.signals b) None

-- the bit that a register bit's process gives it, executed on the values; zero for any other bit
abbrev pub next_bit : Flat → Words → Bit → Bool
next_bit f v x = cond (is_register (kind_in f.signals x.sig)) (Next f v x.sig x.at) false

-- the design, by the values of all signals in each reading: a clock has its group and its cycles to settle by its number
abbrev pub design_of : Flat → Selects → Domains → (Reading → Words) → Design
design_of f sel domains values = record {
  width = size_in f;
  is_register = is_register_bit f;
  is_input = λ b. is_some (clock_of_bit f domains b) && not (is_register_bit f b);
  clocks = length domains.clocks;
  clock = clock_of_bit f domains;
  group_of = λ c. unwrap_or (slice_get domains.group_by_clock c) 0;
  settle = settle_on domains;
  start = start_bit f;
  next = λ r x. next_bit f (values r) x;
  copied = λ x. same [] (next_tree f sel x.sig) x.at;
}

-- a top output reads the bit
abbrev pub is_read_by_output : Flat → Selects → Bit → Bool
is_read_by_output f sel b = list_any (λ o. any_below (λ i. reads [] (tree_of f sel o) i b) (width (tree_of f sel o))) f.outputs

-- what the trees of a flat design show, with a test for its Gray registers
abbrev pub flat_trees : Flat → Selects → (GrayReg → Bool) → Trees
flat_trees f sel grays = trees_of (next_tree f sel) (is_read_by_output f sel) grays

-- the values are those that each reading makes, with clock pins at 0 and resets at their inactive levels
abbrev pub AreValues : Flat → Constraints → Roles → (Reading → Words) → Type 0
AreValues f c roles values = (r : Reading) → Consistent f (pins_of f c roles) r (values r)

-- The design is what the flat one means under constraints.
pub record IsMeaning (f : Flat) (c : Constraints) (d : Design) : Type 0 where
  pub sel : Selects
  pub trees : AreTrees f sel
  pub roles : Roles
  pub domains : Domains
  pub are_domains : AreDomains f sel c roles domains
  pub values : Reading → Words
  pub are_values : AreValues f c roles values
  pub is : d ≡ design_of f sel domains values

-- the verdict of the flat design: which pairs of registers are counters with their codes, all synchronizers and all loads
pub record HasVerdict (f : Flat) (sel : Selects) (d : Design) (is_extra : Bit → Bit → Bool) (v : Verdict) : Type 0 where
  pub grays : GrayReg → Bool
  pub finds : (g : GrayReg) → (grays g ≡ true) ↔ IsGrayReg d (next_tree f sel) g
  pub syncs : List Sync
  pub loads : List Load
  pub is_verdict : IsVerdict d (flat_trees f sel grays) is_extra syncs loads v
