-- The causes of refusals, from those of the layers.
use Rattle.std.proofs.Common.{◌≡◌, ℕ, List, Result, Ok, Err, refl, sym, subst}
use Rattle.std.specs.Prelude.{IfErr}
use Rattle.cdc_base.specs.declared.fault.Fault.{Fault}
use Rattle.cdc_base.specs.declared.fault.Stop.{Stop}
use Rattle.cdc_base.specs.declared.fault.Stop.TheVariants as stop
use Rattle.cell_graph.specs.declared.net.Net.{Net}
use Rattle.clock_constraints.specs.declared.Constraints.{Constraints as ConstraintsOf}
use Rattle.cofactor.specs.contracts.nodes.PlainCofactors.TheImpl as plain
use Rattle.domains.specs.declared.Domains.{Domains}
use Rattle.domains.specs.Assignment.{IsBroken, Refuses}
use Rattle.domains.specs.Nets.{IsNet}
use Rattle.flat_unfolding.specs.Formed.{IsSourceFormed}
use Rattle.verilog_ast.specs.declared.Source.{Source}
use Rattle.verilog_lex.specs.declared.token.Token.{Token}
use Rattle.verilog_lex.specs.Tokens.{tokens_of}
use Rattle.verilog_parse.specs.Refusals.{RefusesFirst}
use Rattle.verilog_reading.specs.Refusals.{IsEnded}
use Rattle.verilog_reading.specs.SourceTree.{ModuleTree}
use Rattle.flat_form.specs.declared.flat.Flat.{Flat}
use Rattle.reset_nets.specs.Designs.{IsDesign as IsUnfolded}
use Rattle.refusals.specs.Limits.{Tells}
use Rattle.elaborate.specs.Refusals.{IsRefusedFor}
use Rattle.command_files.specs.declared.answer.Ending.{Ending}
use Rattle.command_files.specs.declared.status.Status.{Status}
use Rattle.command_files.specs.declared.status.Status.TheVariants.{Netlist, Constraints}
use Rattle.command_files.specs.Endings.{HasCause, ended_with}
use Rattle.command_files.proofs.Ended.{also}
use Rattle.described_design.specs.Refused.{IsNetlistRefused, tokens, reading, IsDesignRefused, rule, cells, domains, AreTextsRefused, netlist, constraints, design}
use Rattle.described_design.specs.ConstraintFiles.{BreaksRule, HasConstraints}
use Rattle.described_design.specs.Described.{IsNetOfModules, ReadsAs, named_in}
use Rattle.described_design.proofs.Described.{IsFlatOfModules, modules_formed, text_ended}

-- a layer's refusal has the cause that the layer tells
pub caused : {T : Type 0} (cause : Status → Fault → Type 0) (s : Status) (given : Result T Stop) (r : Result T Ending) → r ≡ ended_with s given
    → IfErr given (Refuses (cause s)) → IfErr r (HasCause cause)
caused cause s (Ok v) r is h = subst (λ (x : Result _ Ending). IfErr x (HasCause cause)) (sym is) tt
caused cause s (Err (stop.Refused f)) r is h = subst (λ (x : Result _ Ending). IfErr x (HasCause cause)) (sym is) h
caused cause s (Err stop.Memory) r is h = subst (λ (x : Result _ Ending). IfErr x (HasCause cause)) (sym is) tt

pub token_cause : (text : List ℕ) (given : Result (List Token) Stop) → ((f : Fault) → given ≡ Err (stop.Refused f) → tokens_of text ≡ Err f)
    → IfErr given (Refuses (λ f. IsNetlistRefused text f Netlist))
token_cause text (Ok ts) h = tt
token_cause text (Err (stop.Refused f)) h = tokens (h f refl)
token_cause text (Err stop.Memory) h = tt

pub reading_cause : (text : List ℕ) (ts : List Token) (given : Result Source Stop) → tokens_of text ≡ Ok ts
    → IfErr given (λ e. IsEnded ts → RefusesFirst 255 ts e) → IfErr given (Refuses (λ f. IsNetlistRefused text f Netlist))
reading_cause text ts (Ok s) are h = tt
reading_cause text ts (Err (stop.Refused f)) are h = reading ts are (h (text_ended text ts are) f refl)
reading_cause text ts (Err stop.Memory) are h = tt

module _ (modules : List ModuleTree) (c : ConstraintsOf) where
  pub unfolding_cause : (given : Result Flat Stop) → IsUnfolded modules c.top c.resets (named_in c) given
      → IfErr given (Refuses (λ f. IsDesignRefused modules c f Netlist))
  unfolding_cause (Ok flat) h = tt
  unfolding_cause (Err (stop.Refused f)) h = rule h
  unfolding_cause (Err stop.Memory) h = tt

  pub cells_cause : (flat : Flat) → IsFlatOfModules modules c flat → (given : Result Net Stop) → IfErr given (Tells (IsRefusedFor flat))
      → IfErr given (Refuses (λ f. IsDesignRefused modules c f Netlist))
  cells_cause flat is (Ok net) h = tt
  cells_cause flat is (Err (stop.Refused f)) h = cells flat is.unfolds is.flattened h
  cells_cause flat is (Err stop.Memory) h = tt

  pub domains_cause : (net : Net) → IsNetOfModules modules c net → IsNet net → (given : Result Domains Stop) → IfErr given (Refuses (IsBroken plain.ghosts.reads net c))
      → IfErr given (Refuses (λ f. IsDesignRefused modules c f Constraints))
  domains_cause net of_modules is (Ok d) h = tt
  domains_cause net of_modules is (Err (stop.Refused f)) h = domains net of_modules is h
  domains_cause net of_modules is (Err stop.Memory) h = tt

-- ---- the stages of an audit

-- an ending is passed on with its cause
pub passed_on : {T : Type 0} {U : Type 0} (cause : Status → Fault → Type 0) (r : Result T Ending) (out : Result U Ending) (e : Ending) → r ≡ Err e → out ≡ Err e
    → IfErr r (HasCause cause) → IfErr out (HasCause cause)
passed_on cause r out e is same h = subst (λ (x : Result _ Ending). IfErr x (HasCause cause)) (sym same) (subst (λ (x : Result _ Ending). IfErr x (HasCause cause)) is h)

module _ (word text con : List ℕ) where
  pub netlist_refused : {T : Type 0} (r : Result T Ending) → IfErr r (HasCause (λ s f. IsNetlistRefused text f s)) → IfErr r (HasCause (λ s f. AreTextsRefused word text con f s))
  netlist_refused r h = also (λ s f. IsNetlistRefused text f s) (λ s f. AreTextsRefused word text con f s) r (λ s f x. netlist x) h

  pub constraints_refused : (modules : List ModuleTree) → ReadsAs text modules → (given : Result ConstraintsOf Stop) (r : Result ConstraintsOf Ending)
      → r ≡ ended_with Constraints given → IfErr given (Refuses (BreaksRule word modules con)) → IfErr r (HasCause (λ s f. AreTextsRefused word text con f s))
  constraints_refused modules reads given r is h = caused (λ s f. AreTextsRefused word text con f s) Constraints given r is (told given h)
    where
      told : (g : Result ConstraintsOf Stop) → IfErr g (Refuses (BreaksRule word modules con)) → IfErr g (Refuses (λ f. AreTextsRefused word text con f Constraints))
      told (Ok c) h = tt
      told (Err (stop.Refused f)) h = constraints modules reads refl h
      told (Err stop.Memory) h = tt

  pub design_refused : {T : Type 0} (modules : List ModuleTree) → ReadsAs text modules → (c : ConstraintsOf) → HasConstraints word modules con c → (r : Result T Ending)
      → (IsSourceFormed modules → IfErr r (HasCause (λ s f. IsDesignRefused modules c f s))) → IfErr r (HasCause (λ s f. AreTextsRefused word text con f s))
  design_refused modules reads c means r h = also (λ s f. IsDesignRefused modules c f s) (λ s f. AreTextsRefused word text con f s) r
      (λ s f x. design modules reads c means x) (h (modules_formed text modules reads))
