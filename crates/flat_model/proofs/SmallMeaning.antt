-- A meaning at work: an input d of a clock, and a register q that takes it; beside them the clock's pin and a reset that acts low.
use Rattle.std.proofs.Common.{◌≡◌, ℕ, zero, suc, ◌<◌, true, false, Some, None, [], ◌∷◌, refl, arith, slice_get}
use Rattle.std.specs.Prelude.{codes}
use Rattle.std.proofs.lemmas.List.Elements.{All-cons, All-nil}
use Rattle.cdc_base.specs.declared.signal.SigKind.{SigKind}
use Rattle.cdc_base.specs.declared.signal.SigKind.TheVariants.{Input, Register}
use Rattle.cdc_base.specs.declared.signal.Signal.{Signal}
use Rattle.cell_graph.specs.Cofactor.{reads}
use Rattle.cell_graph.specs.Reading.{Reading}
use Rattle.cell_graph.specs.Tree.{Const}
use Rattle.clock_constraints.specs.declared.Constraints.{Constraints}
use Rattle.clock_constraints.specs.Refusals.{Text}
use Rattle.domains.specs.declared.Domains.{Domains}
use Rattle.domains.specs.declared.port.Role.TheVariants.{Pin, Clocked, Reset}
use Rattle.domains.specs.Clocks.{Roles}
use Rattle.cdc_model.specs.Design.{Design, group}
use Rattle.flat_meaning.specs.Values.{Words}
use Rattle.flat_meaning.specs.Flat.{Read, Whole, Stmt, Set}
use Rattle.flat_meaning.specs.Trees.{Selects}
use Rattle.flat_meaning.specs.Design.{Flat, bit_of, given, is_variable, kind_in, size_in}
use Rattle.flat_meaning.specs.SignalTrees.{next_tree_of, select_of}
use Rattle.flat_model.specs.Clocked.{AreDomains, IsClocked, clock_of_signal, pins_of}
use Rattle.flat_model.specs.Designs.{AreValues, IsMeaning, design_of}

abbrev signal : Text → SigKind → Signal
signal name kind = record { name = name; place = record { line = 1; column = 1 }; width = 1; ranged = false; left = 0; right = 0; kind = kind; known = 0; start = 0 }

abbrev body : Stmt
body = Set false (Whole 3) (Read 2 0 1)

-- input clk, rst, d; reg q; always @(posedge clk) q <= d;
abbrev small : Flat
small = record {
  signals = signal (codes "clk") Input ∷ signal (codes "rst") Input ∷ signal (codes "d") Input ∷ signal (codes "q") Register ∷ [];
  assigns = [];
  combs = [];
  clocked = (0, body) ∷ [];
  outputs = [];
}

abbrev declared : Constraints
declared = record {
  top = codes "small";
  clocks = record { name = codes "clk"; group = codes "a"; settle = 1 } ∷ [];
  inputs = record { name = codes "d"; clock = 0 } ∷ [];
  resets = record { name = codes "rst"; high = false } ∷ [];
  statics = [];
  waivers = [];
}

abbrev roles : Roles
roles = Some (Pin 0) ∷ Some Reset ∷ Some (Clocked 0) ∷ None ∷ []

abbrev domains : Domains
domains = record {
  clocks = declared.clocks;
  groups = codes "a" ∷ [];
  clock_by_sig = None ∷ None ∷ Some 0 ∷ Some 0 ∷ [];
  group_by_clock = 0 ∷ [];
  statics = [];
}

-- there are no wires
abbrev sel : Selects
sel = select_of small (λ s at w. Const 1 0)

registers : (sig : ℕ) → kind_in small.signals sig ≡ Register → IsClocked small sel roles sig
registers zero e = cc
registers (suc zero) e = cc
registers (suc (suc zero)) e = cc
registers (suc (suc (suc zero))) e = ((0, refl), λ i l. All-cons (λ b. reads [] (next_tree_of small sel 3) i b ≡ false) (bit_of 0 0) [] refl (All-nil _))
registers (suc (suc (suc (suc sig)))) e = cc

clocks : (sig : ℕ) → sig < 4 → slice_get domains.clock_by_sig sig ≡ Some (clock_of_signal small sel roles sig)
clocks zero l = refl
clocks (suc zero) l = refl
clocks (suc (suc zero)) l = refl
clocks (suc (suc (suc zero))) l = refl
clocks (suc (suc (suc (suc sig)))) l = absurd (omega (arith, l))

are_domains : AreDomains small sel declared roles domains
are_domains = record {
  ports = refl;
  registers = registers;
  clocks = refl;
  groups = refl;
  group_by_clock = (refl, tt);
  clock_by_sig = (refl, clocks);
  statics = refl;
}

abbrev values : Reading → Words
values r s i = given small (pins_of small declared roles) r (bit_of s i)

undriven : (r : Reading) (s i : ℕ) → i < size_in small s → is_variable small s ≡ false → values r s i ≡ false
undriven r zero i l e = cc
undriven r (suc zero) i l e = cc
undriven r (suc (suc zero)) i l e = cc
undriven r (suc (suc (suc zero))) i l e = cc
undriven r (suc (suc (suc (suc s)))) i l e = refl

are_values : AreValues small declared roles values
are_values r = record { variables = λ s i l e. refl; undriven = λ s i l e none. undriven r s i l e; assigned = All-nil _; processed = All-nil _ }

abbrev meaning : Design
meaning = design_of small sel domains values

is_meaning : IsMeaning small declared meaning
is_meaning = record {
  sel = sel;
  trees = λ s at w. refl;
  roles = roles;
  domains = domains;
  are_domains = are_domains;
  values = values;
  are_values = are_values;
  is = refl;
}

-- q takes d at its clock's edge and copies it, and both are of the clock's group; the pin is at 0, and the reset at 1
takes_d : (r : Reading) → meaning.next r (bit_of 3 0) ≡ r (bit_of 2 0)
takes_d r = refl

copies_d : meaning.copied (bit_of 3 0) ≡ Some (bit_of 2 0)
copies_d = refl

one_group : (group meaning (bit_of 3 0) ≡ Some 0) × (group meaning (bit_of 2 0) ≡ Some 0)
one_group = (refl, refl)

only_state : (meaning.is_register (bit_of 3 0) ≡ true) × (meaning.is_input (bit_of 2 0) ≡ true) × (meaning.is_input (bit_of 1 0) ≡ false) × (meaning.clock (bit_of 0 0) ≡ None)
only_state = (refl, refl, refl, refl)

levels : (r : Reading) → (values r 0 0 ≡ false) × (values r 1 0 ≡ true)
levels r = (refl, refl)
