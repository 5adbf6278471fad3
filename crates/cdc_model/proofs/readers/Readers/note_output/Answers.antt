-- The output reads no bit of a marked signal.
use Rattle.std.proofs.Common.{◌∙◌, sym, ap, arith, cond}
use Rattle.cdc_model.specs.declared.readers.Reader.TheVariants.{Others}
use Rattle.cdc_model.specs.Readers.{reader_at}
use Rattle.cdc_model.proofs.Noted.{output_absent, output_unmarked}
use Rattle.cdc_model.proofs.readers.Readers.note_output.Goals as goal

pub returns-then-output-cell_count-clause-noted : goal.returns-then-output-cell_count-clause-noted
returns-then-output-cell_count-clause-noted c = λ marks is shown sb b h m.
    sym (ap (λ v. cond v Others (reader_at c.args.self.now b)) (output_absent c.args.net.now b c.args.output (let l = c.if-output-cell_count.true in let n = c.cell_count.ensures in omega arith)))

pub returns-in-Nothing-clause-noted : goal.returns-in-Nothing-clause-noted
returns-in-Nothing-clause-noted c = λ marks is shown sb b h m.
    sym (ap (λ v. cond v Others (reader_at c.args.self.now b))
    (output_unmarked c.args.net.now marks c.args.below.now c.args.output (sb c.args.output (let l = c.if-output-cell_count.false in let n = c.cell_count.ensures in omega arith))
    (sym c.of.ensures ∙ c.in-Nothing.is) b m))
