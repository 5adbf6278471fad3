-- The design that a netlist's text describes, by the layers that read, unfold and elaborate it.
use Rattle.std.proofs.Common.{◌≡◌, ◌≤◌, ◌++◌, ℕ, List, map, Result, Ok, Err}
use Rattle.std.specs.Prelude.{IfOk}
use Rattle.cdc_base.specs.declared.fault.Stop.{Stop}
use Rattle.cdc_base.specs.declared.signal.Signal.{Signal}
use Rattle.cell_graph.specs.declared.net.Net.{Net}
use Rattle.cell_graph.specs.Nets.{AreSized}
use Rattle.clock_constraints.specs.declared.Constraints.{Constraints}
use Rattle.domains.specs.declared.Domains.{Domains}
use Rattle.verilog_ast.specs.declared.Source.{Source}
use Rattle.verilog_lex.specs.declared.token.Token.{Token}
use Rattle.verilog_lex.specs.Tokens.{tokens_of}
use Rattle.verilog_reading.specs.ItemReading.{IsSource}
use Rattle.verilog_reading.specs.Refusals.{IsEnded}
use Rattle.verilog_reading.specs.SourceTree.{ModuleTree, source_of}
use Rattle.verilog_parse.proofs.Ended.{texts_are_ended}
use Rattle.source_forms.proofs.Sources.{source_formed}
use Rattle.source_forms.proofs.Texts.{numbers_fit}
use Rattle.flat_form.specs.declared.flat.Flat as f
use Rattle.flat_form.specs.Sizes.{IsWellSized}
use Rattle.flat_form.specs.View.{flat_of}
use Rattle.flat_unfolding.specs.Formed.{IsSourceFormed}
use Rattle.flat_unfolding.specs.Widths.{KeepsSizes}
use Rattle.flat_unfolding.proofs.Sound.{sound_law}
use Rattle.flat_unfolding.proofs.Visited.{sizes_law}
use Rattle.flat_unfolding.proofs.Widths.{well_sized_law}
use Rattle.reset_nets.specs.Designs.{IsDesign as IsUnfolded}
use Rattle.flat_meaning.specs.SignalTrees.{AreTrees}
use Rattle.flat_meaning.specs.Sound.{IsSound}
use Rattle.flat_meaning.specs.Trees.{Selects}
use Rattle.flat_meaning.proofs.Unfolded.{trees_law}
use Rattle.elaborate.specs.NetTrees.{HasTrees}
use Rattle.elaborate.specs.Refusals.{IsAccepted, IsFlattened}
use Rattle.elaborate.specs.Words.{as_word}
use Rattle.flat_model.specs.Laws.{IsNetOf}
use Rattle.settling_sim.proofs.Stepped.{at-place}
use Rattle.described_design.specs.Described.{IsNetOfModules, ReadsAs, UnfoldsTo, named_in}
use Rattle.described_design.specs.Designs.{IsDesign}

-- the tokens of a text end with their one end
pub text_ended : (text : List ℕ) (ts : List Token) → tokens_of text ≡ Ok ts → IsEnded ts
text_ended text ts are = texts_are_ended text ts are

-- the modules that a text is parsed as are those that it reads as
pub text_reads : (text : List ℕ) (ts : List Token) (parsed : Result Source Stop) → tokens_of text ≡ Ok ts
    → IfOk parsed (λ s. IsEnded ts → IsSource ts (source_of s))
    → IfOk parsed (λ s. IsEnded ts → (ms : List ModuleTree) → IsSource ts ms → ms ≡ source_of s)
    → IfOk parsed (λ s. ReadsAs text (source_of s))
text_reads text ts (Ok s) are reads one =
    let ended = texts_are_ended text ts are in
    record { tokens = ts; are_tokens = are; reads = reads ended; alone = one ended }
text_reads text ts (Err e) are reads one = tt

-- and they are formed
pub modules_formed : (text : List ℕ) (modules : List ModuleTree) → ReadsAs text modules → IsSourceFormed modules
modules_formed text modules r = source_formed r.tokens modules (numbers_fit text r.tokens r.are_tokens) r.reads

module _ (modules : List ModuleTree) (c : Constraints) where
  -- what flattening gives: it keeps what elaboration asks for
  pub record IsFlatOfModules (flat : f.Flat) : Type 0 where
    pub unfolds : UnfoldsTo modules c (flat_of flat)
    pub flattened : IsFlattened flat
    pub sized : AreSized flat.signals

  pub flat_of_modules : IsSourceFormed modules → (given : Result f.Flat Stop) → IsUnfolded modules c.top c.resets (named_in c) given
      → IfOk given KeepsSizes → IfOk given IsFlatOfModules
  flat_of_modules formed (Ok flat) unfolds keeps = record {
    unfolds = unfolds;
    flattened = record {
      sized = well_sized_law modules formed c.top (c.resets ++ unfolds.nets) (named_in c) flat unfolds.unfolds keeps;
      sound = sound_law modules formed c.top (c.resets ++ unfolds.nets) (named_in c) (flat_of flat) unfolds.unfolds;
    };
    sized = λ sig s at. at-place (λ (x : Signal). (1 ≤ x.width) × (x.width ≤ 64)) flat.signals sig s at
        (sizes_law modules formed c.top (c.resets ++ unfolds.nets) (named_in c) (flat_of flat) unfolds.unfolds).signals;
  }
  flat_of_modules formed (Err e) unfolds keeps = tt

  -- its elaboration
  pub net_of_modules : (flat : f.Flat) → IsFlatOfModules flat → (given : Result Net Stop)
      → (IsWellSized flat → IsSound (flat_of flat) → IfOk given (λ net. (sel : Selects) → AreTrees (flat_of flat) sel → HasTrees (flat_of flat) sel net))
      → IfOk given (λ net. IsAccepted flat) → IfOk given (λ net. net.graph.signals ≡ map as_word flat.signals)
      → IfOk given (IsNetOfModules modules c)
  net_of_modules flat is (Ok net) trees accepted signals = record {
    flat = flat_of flat;
    unfolds = is.unfolds;
    sound = is.flattened.sound;
    loop_free = accepted.loop_free is.flattened;
    sized = is.sized;
    signals = signals;
    has_trees = trees is.flattened.sized is.flattened.sound;
  }
  net_of_modules flat is (Err e) trees accepted signals = tt

  -- which has the domains under the constraints
  pub net_of_design : (net : Net) (domains : Domains) → IsDesign c net domains → (n : IsNetOfModules modules c net)
      → (sel : Selects) × IsNetOf n.flat sel c net domains
  net_of_design net domains design n =
      let trees = trees_law n.flat n.sound n.loop_free in (
        trees.0,
        record {
          sound = n.sound;
          loop_free = n.loop_free;
          are_trees = trees.1;
          has_trees = n.has_trees trees.0 trees.1;
          sized = n.sized;
          signals = n.signals;
          is_net = design.can.is_net;
          next_cells = design.can.next_cells;
          assigned = design.assigned;
          fit = design.can.fit;
        },
      )
