use Rattle.std.proofs.Common.{Ok, refl, rules}
use Rattle.std.specs.Prelude.{IfErr}
use Rattle.clock_constraints.specs.Fit.{AreFit}
use Rattle.verilog_reading.specs.SourceTree.{source_of}
use Rattle.command_files.specs.Endings.{HasCause, IsOfFiles}
use Rattle.described_design.specs.ConstraintFiles.{HasConstraints, file_numbers}
use Rattle.described_design.specs.Refused.{AreTextsRefused}
use Rattle.described_design.proofs.Designs.{given_holds, is_design_of}
use Rattle.described_design.proofs.Refused.{constraints_refused, design_refused, netlist_refused}
use Rattle.described_design.proofs.design_of_texts.Goals as goal

pub returns-in_err-constraints-clause-of_files : goal.returns-in_err-constraints-clause-of_files
returns-in_err-constraints-clause-of_files c =
    let refused : IfErr c.or_refused.result IsOfFiles = c.or_refused.ensures.ended file_numbers refl c.read_constraints-constraints.ensures.numbered in
    search (rules, refused, c.in_err-constraints.was, c.from_residual-in_err-constraints.ensures.0, c.from_residual-in_err-constraints.ensures.1)

pub returns-clause-fit : goal.returns-clause-fit
returns-clause-fit c = given_holds AreFit _ (Ok c.in_ok-constraints.constraints) c.in_ok-constraints.ensures.given c.read_constraints-constraints.ensures.fit

pub returns-clause-design : goal.returns-clause-design
returns-clause-design c =
    let means = given_holds (HasConstraints c.args.word.now (source_of c.in_ok-source.source) c.args.con.now) _ (Ok c.in_ok-constraints.constraints) c.in_ok-constraints.ensures.given c.read_constraints-constraints.ensures.ok in
    let fits = given_holds AreFit _ (Ok c.in_ok-constraints.constraints) c.in_ok-constraints.ensures.given c.read_constraints-constraints.ensures.fit in
    is_design_of _ _ _ _ _ _ _ c.in_ok-source.ensures.reads means fits c.in_ok-net.ensures.unfolded c.in_ok-net.ensures.design

pub returns-in_err-source-clause-refused : goal.returns-in_err-source-clause-refused
returns-in_err-source-clause-refused c =
    let word = c.args.word.now in
    let text = c.args.net.now in
    let con = c.args.con.now in
    let refused : IfErr c.read_source.result (HasCause (λ status fault. AreTextsRefused word text con fault status))
    = netlist_refused word text con _ c.read_source.ensures.refused in
    search (rules, refused, c.in_err-source.was, c.from_residual.ensures.0, c.from_residual.ensures.1)

pub returns-in_err-constraints-clause-refused : goal.returns-in_err-constraints-clause-refused
returns-in_err-constraints-clause-refused c =
    let word = c.args.word.now in
    let text = c.args.net.now in
    let con = c.args.con.now in
    let refused : IfErr c.or_refused.result (HasCause (λ status fault. AreTextsRefused word text con fault status))
    = constraints_refused word text con _ c.in_ok-source.ensures.reads _ _ c.or_refused.ensures.exact c.read_constraints-constraints.ensures.refused in
    search (rules, refused, c.in_err-constraints.was, c.from_residual-in_err-constraints.ensures.0, c.from_residual-in_err-constraints.ensures.1)

pub returns-in_err-net-clause-refused : goal.returns-in_err-net-clause-refused
returns-in_err-net-clause-refused c =
    let word = c.args.word.now in
    let text = c.args.net.now in
    let con = c.args.con.now in
    let constraints = c.in_ok-constraints.constraints in
    let means = given_holds (HasConstraints c.args.word.now (source_of c.in_ok-source.source) con) _ (Ok constraints) c.in_ok-constraints.ensures.given c.read_constraints-constraints.ensures.ok in
    let refused : IfErr c.constrained.result (HasCause (λ status fault. AreTextsRefused word text con fault status))
    = design_refused word text con _ c.in_ok-source.ensures.reads constraints means _ c.constrained.ensures.refused in
    search (rules, refused, c.in_err-net.was, c.from_residual-in_err-net.ensures.0, c.from_residual-in_err-net.ensures.1)
