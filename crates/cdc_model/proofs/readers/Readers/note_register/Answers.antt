-- The bits of marked signals that the register bit reads are noted.
use Rattle.std.proofs.Common.{◌∙◌, []}
use Rattle.cdc_model.specs.declared.readers.Reader.TheVariants.{Alone}
use Rattle.cdc_model.specs.Readers.{reader_at}
use Rattle.cdc_model.proofs.Noted.{register_noted}
use Rattle.cdc_model.proofs.readers.Readers.note_register.Goals as goal

pub returns-clause-noted : goal.returns-clause-noted
returns-clause-noted c = λ is has shown sb l b h m.
    register_noted c.args.net.now is has c.args.bit l c.args.marks.now c.as_slice.result.now (c.as_slice.ensures ∙ c.in_ok-reads.ensures.exact [] is has shown l) b m (Alone c.args.bit)
    (reader_at c.note_all.new.self b) (reader_at c.args.self.now b) (c.note_all.ensures.noted b h)
