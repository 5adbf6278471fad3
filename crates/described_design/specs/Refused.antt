-- Why texts describe no design, stage by stage in the order in which they are read.
use Rattle.std.specs.Prelude.{◌≡◌, ℕ, List, Ok, Err}
use Rattle.cdc_base.specs.declared.fault.Fault.{Fault}
use Rattle.cell_graph.specs.declared.net.Net.{Net}
use Rattle.clock_constraints.specs.declared.Constraints.{Constraints as ConstraintsOf}
use Rattle.cofactor.specs.contracts.nodes.PlainCofactors.TheImpl as plain
use Rattle.domains.specs.Assignment.{IsBroken}
use Rattle.domains.specs.Nets.{IsNet}
use Rattle.verilog_lex.specs.declared.token.Token.{Token}
use Rattle.verilog_lex.specs.Tokens.{tokens_of}
use Rattle.verilog_parse.specs.Refusals.{TellsFirst}
use Rattle.verilog_reading.specs.SourceTree.{ModuleTree}
use Rattle.flat_form.specs.declared.flat.Flat.{Flat}
use Rattle.flat_form.specs.View.{flat_of}
use Rattle.flat_unfolding.specs.Outcome.{bad}
use Rattle.reset_nets.specs.Designs.{Unfolds}
use Rattle.elaborate.specs.Refusals.{IsFlattened, IsRefusedFor}
use Rattle.command_files.specs.declared.status.Status.{Status}
use Rattle.command_files.specs.declared.status.Status.TheVariants.{Netlist, Constraints}
use Rattle.described_design.specs.ConstraintFiles.{BreaksRule, HasConstraints}
use Rattle.described_design.specs.Described.{IsNetOfModules, ReadsAs, UnfoldsTo, named_in}

-- a netlist's bytes: the first token that breaks a rule; or the first token with which no source goes on
pub data IsNetlistRefused (text : List ℕ) (fault : Fault) : Status → Type 0 where
  tokens : tokens_of text ≡ Err fault → IsNetlistRefused text fault Netlist
  reading : (ts : List Token) → tokens_of text ≡ Ok ts → TellsFirst 255 ts fault → IsNetlistRefused text fault Netlist

-- modules under constraints: the first broken rule of their unfolding; the cause for which their flat design has no cells; or the rule of clocks and
-- inputs that its net breaks
pub data IsDesignRefused (modules : List ModuleTree) (c : ConstraintsOf) (fault : Fault) : Status → Type 0 where
  rule : Unfolds modules c.top c.resets (named_in c) (bad fault) → IsDesignRefused modules c fault Netlist
  cells : (flat : Flat) → UnfoldsTo modules c (flat_of flat) → IsFlattened flat → IsRefusedFor flat fault → IsDesignRefused modules c fault Netlist
  domains : (net : Net) → IsNetOfModules modules c net → IsNet net → IsBroken plain.ghosts.reads net c fault → IsDesignRefused modules c fault Constraints

-- the bytes of both files: the netlist's; those of the constraint file with this word, by the first rule that they break; or the design
pub data AreTextsRefused (word text con : List ℕ) (fault : Fault) (status : Status) : Type 0 where
  netlist : IsNetlistRefused text fault status → AreTextsRefused word text con fault status
  constraints : (modules : List ModuleTree) → ReadsAs text modules → status ≡ Constraints → BreaksRule word modules con fault
      → AreTextsRefused word text con fault status
  design : (modules : List ModuleTree) → ReadsAs text modules → (c : ConstraintsOf) → HasConstraints word modules con c → IsDesignRefused modules c fault status
      → AreTextsRefused word text con fault status
