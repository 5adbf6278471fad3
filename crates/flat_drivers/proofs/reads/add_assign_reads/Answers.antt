use Rattle.std.proofs.lemmas.Result.{IfOk-weaker}
use Rattle.flat_meaning.specs.Design.{width_in}
use Rattle.flat_form.specs.View.{expr_of, target_of}
use Rattle.flat_meaning.specs.Law.{expr_reads}
use Rattle.flat_form.specs.Uses.{target_reads}
use Rattle.flat_form.proofs.MaskSets.{adds-two}
use Rattle.flat_drivers.proofs.reads.add_assign_reads.Goals as goal

pub returns : goal.returns
returns c =
    let wid = width_in c.args.signals.now in
    let a = c.args.assign.now in
    IfOk-weaker c.add_target_reads.result _ _ (λ _ h. adds-two c.args.reads.now c.add_reads.new.reads c.add_target_reads.new.reads (expr_reads wid (expr_of a.value)) (target_reads wid (target_of a.target)) c.in_ok-add_reads.ensures.added h) c.add_target_reads.ensures.added
