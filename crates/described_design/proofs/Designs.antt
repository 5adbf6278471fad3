-- The design that texts describe, as its layers make it.
use Rattle.std.proofs.Common.{◌≡◌, ◌∙◌, ℕ, ◌≤◌, ◌^◌, Bool, true, false, ◌||◌, List, length, Option, Result, Ok, Err, refl, sym, ap, subst}
use Rattle.std.specs.Prelude.{IfOk}
use Rattle.std.specs.Option.{option_map_or}
use Rattle.cdc_base.specs.declared.fault.Fault.{Fault}
use Rattle.cdc_base.specs.declared.fault.Stop.{Stop}
use Rattle.cdc_base.specs.declared.signal.Signal.{Signal}
use Rattle.cell_graph.specs.declared.net.Net.{Net}
use Rattle.cell_graph.specs.Shared.{IsShared}
use Rattle.clock_constraints.specs.declared.Constraints.{Constraints}
use Rattle.clock_constraints.specs.Fit.{AreFit}
use Rattle.clock_constraints.specs.Refusals.{Gives}
use Rattle.cofactor.specs.contracts.nodes.PlainCofactors.TheImpl as plain
use Rattle.domains.specs.declared.Domains.{Domains}
use Rattle.domains.specs.Assignment.{AreDomains}
use Rattle.domains.specs.Fit.{Fit}
use Rattle.domains.specs.Nets.{IsNet, is_register}
use Rattle.cdc_model.specs.Nets.{HasNextCells}
use Rattle.elaborate.specs.Words.{AreStarted}
use Rattle.verilog_reading.specs.SourceTree.{ModuleTree}
use Rattle.flat_unfolding.specs.Formed.{IsSourceFormed}
use Rattle.settling_sim.specs.Starts.{HasStarts}
use Rattle.settling_sim.specs.State.{has_kind, is_clocked_input, is_static}
use Rattle.command_files.specs.declared.answer.Ending.{Ending}
use Rattle.described_design.specs.ConstraintFiles.{HasConstraints}
use Rattle.described_design.specs.Described.{IsNetOfModules, ReadsAs}
use Rattle.described_design.specs.Designs.{IsDesign, IsDesignOf}
use Rattle.described_design.proofs.Described.{modules_formed}

-- what a layer gives keeps what holds of it
pub given_holds : {T : Type 0} (P : T → Type 0) (given : Result T Stop) (r : Result T Ending) → IfOk r (λ v. given ≡ Ok v) → IfOk given P → IfOk r P
given_holds P given (Ok v) same holds = subst (λ (x : Result _ Stop). IfOk x P) same holds
given_holds P given (Err e) same holds = tt

-- and so does a layer whose answer is given whole
pub given_gives : {T : Type 0} (given : Result T Stop) (told : Result T Fault) (v : T) → given ≡ Ok v → Gives given told → told ≡ Ok v
given_gives given told v same gives = subst (λ (x : Result _ Stop). Gives x told) same gives

-- registers hold state, so only signals that hold state have known start bits
has_starts : (net : Net) (domains : Domains) → AreStarted net.graph.signals → HasStarts net domains
has_starts net domains started = record {
  within = started.known;
  states = λ sig s at none. started.registers sig s at (sym (ap (λ (o : Option Signal). option_map_or (λ (p : Signal). is_register p.kind) o false) at)
      ∙ first_false (has_kind net is_register sig) (is_clocked_input net domains sig) (is_static domains sig) none);
}
  where
    first_false : (a b c : Bool) → ((a || b) || c) ≡ false → a ≡ false
    first_false false b c e = refl
    first_false true b c e = cc

pub is_design : (c : Constraints) (net : Net) (domains : Domains) → IsNet net → HasNextCells net → IsShared net.graph → AreStarted net.graph.signals
    → AreDomains plain.ghosts.reads net c domains → Fit net domains → (length net.graph.signals ≤ 2 ^ 32) × (length domains.clocks ≤ 2 ^ 32)
    → IsDesign c net domains
is_design c net domains is next shared started assigned fit numbers = record {
  assigned = assigned;
  can = record {
    is_net = is;
    next_cells = next;
    fit = fit;
    read = record { signals = numbers.0; clocks = numbers.1; statics = fit.ascending };
    starts = has_starts net domains started;
  };
  can_audit = record { is_net = is; has_next = next; fits = fit; is_shared = shared; narrow = record { known = started.known; start = started.start } };
}

-- the design of both texts
pub is_design_of : (word text con : List ℕ) (modules : List ModuleTree) (c : Constraints) (net : Net) (domains : Domains)
    → ReadsAs text modules → HasConstraints word modules con c → AreFit c → (IsSourceFormed modules → IsNetOfModules modules c net)
    → (AreFit c → IsDesign c net domains) → IsDesignOf word text con c net domains
is_design_of word text con modules c net domains reads means fits unfolded made = record {
  modules = modules;
  reads = reads;
  means = means;
  of_modules = unfolded (modules_formed text modules reads);
  design = made fits;
}
