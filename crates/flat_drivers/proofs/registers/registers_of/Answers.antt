use Rattle.std.proofs.Common.{false, ◌||◌, List, refl, sym, ap, ◌∙◌}
use Rattle.std.proofs.lemmas.List.{drop_all}
use Rattle.std.proofs.Math.Bool.{or-false}
use Rattle.flat_meaning.specs.Flat.{assigns}
use Rattle.flat_form.specs.declared.flat.FlatClocked.{FlatClocked}
use Rattle.flat_form.specs.View.{stmt_of}
use Rattle.flat_form.specs.Masks.{has_signal}
use Rattle.flat_form.proofs.Listed.{names-step}
use Rattle.flat_drivers.proofs.Marked.{are_registers}
use Rattle.flat_drivers.proofs.registers.registers_of.Goals as goal

pub loop-process-init : goal.loop-process-init
loop-process-init c = λ s. ap (λ b. b || are_registers c.args.clocked.now s) (c.new-registers.ensures.unlisted s)

pub loop-process-preserved : goal.loop-process-preserved
loop-process-preserved c =
    let all = c.args.clocked.now in
    names-step are_registers (λ (p : FlatClocked). assigns (stmt_of p.body)) (λ s. false) c.loop-process.registers c.add_may_assign.new.assigned (are_registers all) all c.loop-process.process-index c.process-item.result
    c.loop-process-test.true c.process-item.is refl c.loop-process.invariant c.in_ok-add_may_assign.ensures.listed

pub returns : goal.returns
returns c = λ s.
    let all = c.args.clocked.now in
    let now = c.loop-process.registers in
    sym (or-false (has_signal now s)) ∙ ap (λ (xs : List FlatClocked). has_signal now s || are_registers xs s) (sym (drop_all c.loop-process.process-index all c.loop-process-test.false)) ∙ c.loop-process.invariant s
