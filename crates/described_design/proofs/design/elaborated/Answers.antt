use Rattle.std.proofs.Common.{Ok, refl, ◌∙◌, rules}
use Rattle.std.specs.Prelude.{IfErr}
use Rattle.cell_graph.specs.Nets.{HasNextCells, IsNet}
use Rattle.cell_graph.specs.Shared.{IsShared}
use Rattle.elaborate.specs.Words.{AreStarted}
use Rattle.refusals.specs.Numbers.{unfolding_numbers, elaboration_numbers}
use Rattle.verilog_reading.specs.SourceTree.{source_of}
use Rattle.described_design.specs.Described.{IsNetOfModules}
use Rattle.command_files.specs.Endings.{HasCause, IsOfFiles}
use Rattle.described_design.proofs.Described.{IsFlatOfModules, flat_of_modules, net_of_modules}
use Rattle.described_design.proofs.Designs.{given_holds}
use Rattle.described_design.specs.Refused.{IsDesignRefused}
use Rattle.described_design.proofs.Refused.{caused, cells_cause, unfolding_cause}
use Rattle.described_design.proofs.design.elaborated.Goals as goal

pub returns-in_err-flat-clause-of_files : goal.returns-in_err-flat-clause-of_files
returns-in_err-flat-clause-of_files c =
    let refused : IfErr c.or_refused.result IsOfFiles = c.or_refused.ensures.ended unfolding_numbers refl c.design-flat.ensures.numbered in
    search rules

pub returns-clause-of_files : goal.returns-clause-of_files
returns-clause-of_files c = c.or_refused-2.ensures.ended elaboration_numbers refl c.elaborate.ensures.numbered

pub returns-clause-is_net : goal.returns-clause-is_net
returns-clause-is_net c = given_holds IsNet _ _ c.or_refused-2.ensures.given c.elaborate.ensures.is_net

pub returns-clause-next_cells : goal.returns-clause-next_cells
returns-clause-next_cells c = given_holds HasNextCells _ _ c.or_refused-2.ensures.given c.elaborate.ensures.next_cells

pub returns-clause-started : goal.returns-clause-started
returns-clause-started c = given_holds (λ net. AreStarted net.graph.signals) _ _ c.or_refused-2.ensures.given c.elaborate.ensures.started

pub returns-clause-shared : goal.returns-clause-shared
returns-clause-shared c = given_holds (λ net. IsShared net.graph) _ _ c.or_refused-2.ensures.given c.elaborate.ensures.shared

pub returns-clause-unfolded : goal.returns-clause-unfolded
returns-clause-unfolded c = λ formed.
    let modules = source_of c.args.source.now in
    let constraints = c.args.constraints.now in
    let unfolds = rw (c.as_slice-named.ensures ∙ c.in_ok-names.ensures) at (rw c.as_slice-resets.ensures at (c.design-flat.ensures.exact formed)) in
    let flat = given_holds (IsFlatOfModules modules constraints) _ (Ok c.in_ok-flat.flat) c.in_ok-flat.ensures.given
    (flat_of_modules modules constraints formed _ unfolds (c.design-flat.ensures.sizes formed)) in
    given_holds (IsNetOfModules modules constraints) _ _ c.or_refused-2.ensures.given
    (net_of_modules modules constraints c.in_ok-flat.flat flat _ c.elaborate.ensures.unfolds c.elaborate.ensures.accepted c.elaborate.ensures.signals)

pub returns-in_err-flat-clause-refused : goal.returns-in_err-flat-clause-refused
returns-in_err-flat-clause-refused c = λ formed.
    let modules = source_of c.args.source.now in
    let constraints = c.args.constraints.now in
    let unfolds = rw (c.as_slice-named.ensures ∙ c.in_ok-names.ensures) at (rw c.as_slice-resets.ensures at (c.design-flat.ensures.exact formed)) in
    let refused : IfErr c.or_refused.result (HasCause (λ status fault. IsDesignRefused modules constraints fault status))
    = caused (λ status fault. IsDesignRefused modules constraints fault status) _ _ _ c.or_refused.ensures.exact (unfolding_cause modules constraints _ unfolds) in
    search rules

pub returns-clause-refused : goal.returns-clause-refused
returns-clause-refused c = λ formed.
    let modules = source_of c.args.source.now in
    let constraints = c.args.constraints.now in
    let unfolds = rw (c.as_slice-named.ensures ∙ c.in_ok-names.ensures) at (rw c.as_slice-resets.ensures at (c.design-flat.ensures.exact formed)) in
    let flat = given_holds (IsFlatOfModules modules constraints) _ (Ok c.in_ok-flat.flat) c.in_ok-flat.ensures.given
    (flat_of_modules modules constraints formed _ unfolds (c.design-flat.ensures.sizes formed)) in
    caused (λ status fault. IsDesignRefused modules constraints fault status) _ _ _ c.or_refused-2.ensures.exact
    (cells_cause modules constraints c.in_ok-flat.flat flat _ c.elaborate.ensures.refused)
