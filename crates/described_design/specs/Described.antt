-- The flat design that a netlist's text describes, and the net that is made of it.
use Rattle.std.specs.Prelude.{◌≡◌, ℕ, List, ◌++◌, map, Ok}
use Rattle.cell_graph.specs.declared.net.Net.{Net}
use Rattle.cell_graph.specs.Nets.{AreSized}
use Rattle.clock_constraints.specs.declared.ClockPin.{ClockPin}
use Rattle.clock_constraints.specs.declared.InputPin.{InputPin}
use Rattle.clock_constraints.specs.declared.Constraints.{Constraints}
use Rattle.verilog_lex.specs.declared.token.Token.{Token}
use Rattle.verilog_lex.specs.Tokens.{tokens_of}
use Rattle.verilog_reading.specs.ItemReading.{IsSource}
use Rattle.verilog_reading.specs.SourceTree.{ModuleTree}
use Rattle.flat_unfolding.specs.Outcome.{good}
use Rattle.flat_meaning.specs.Design.{Flat}
use Rattle.flat_meaning.specs.Segments.{IsLoopFree}
use Rattle.flat_meaning.specs.SignalTrees.{AreTrees}
use Rattle.flat_meaning.specs.Sound.{IsSound}
use Rattle.flat_meaning.specs.Trees.{Selects}
use Rattle.reset_nets.specs.Designs.{Unfolds}
use Rattle.elaborate.specs.NetTrees.{HasTrees}
use Rattle.elaborate.specs.Words.{as_word}

-- the text has tokens, and they read as these modules alone
pub record ReadsAs (text : List ℕ) (modules : List ModuleTree) : Type 0 where
  pub tokens : List Token
  pub are_tokens : tokens_of text ≡ Ok tokens
  pub reads : IsSource tokens modules
  pub alone : (others : List ModuleTree) → IsSource tokens others → others ≡ modules

-- the names of clocks, inputs and static inputs
abbrev pub named_in : Constraints → List (List ℕ)
named_in c = (map (λ (k : ClockPin). k.name) c.clocks ++ map (λ (i : InputPin). i.name) c.inputs) ++ c.statics

-- the modules unfold to the flat design, from the top that the constraints name, with their resets, all reset nets and their other names
abbrev pub UnfoldsTo : List ModuleTree → Constraints → Flat → Type 0
UnfoldsTo modules c f = Unfolds modules c.top c.resets (named_in c) (good f)

-- the net has the trees and the signals of the flat design that the modules unfold to, which is sound and has no loop
pub record IsNetOfModules (modules : List ModuleTree) (c : Constraints) (net : Net) : Type 0 where
  pub flat : Flat
  pub unfolds : UnfoldsTo modules c flat
  pub sound : IsSound flat
  pub loop_free : IsLoopFree flat
  pub sized : AreSized flat.signals
  pub signals : net.graph.signals ≡ map as_word flat.signals
  pub has_trees : (sel : Selects) → AreTrees flat sel → HasTrees flat sel net
