-- The register bits are noted, and then the outputs.
use Rattle.std.proofs.Common.{◌∙◌, sym, ap, subst, []}
use Rattle.std.specs.Prelude.{cond}
use Rattle.cdc_model.specs.declared.readers.Reader.TheVariants.{Others}
use Rattle.cdc_model.specs.Nets.{is_read_by_output}
use Rattle.cdc_model.specs.Readers.{HasPlace, IsStateBit}
use Rattle.cdc_model.specs.Tables.{ShowsNet}
use Rattle.cdc_model.proofs.readers.Readers.find.Goals as goal

pub returns-clause-exact : goal.returns-clause-exact
returns-clause-exact c = λ is has shown b state m.
    let sb = c.in_ok-below.ensures is.graph in
    let h = c.in_ok-readers.ensures.places b (subst (λ signals. IsStateBit signals b) (sym c.signals.ensures) state) in
    c.in_ok-note_outputs.ensures.noted c.args.marks.now is (subst (ShowsNet c.args.net.now []) (sym c.in_ok-note_registers.ensures.unchanged) shown) sb b
    (subst (λ ss. HasPlace ss b) (sym c.in_ok-note_registers.ensures.spans) h) m
    ∙ ap (cond (is_read_by_output c.args.net.now b) Others) (c.in_ok-note_registers.ensures.noted is has shown sb b h m (c.in_ok-readers.ensures.nobody b))
