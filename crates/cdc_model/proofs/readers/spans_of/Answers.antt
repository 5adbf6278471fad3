-- One span more follows the others.
use Rattle.std.proofs.Common.{◌≡◌, ◌∙◌, ◌+◌, ◌++◌, ◌∷◌, [], sym, ap, subst, arith, map, drop}
use Rattle.std.proofs.lemmas.Grind.{common_steps}
use Rattle.cdc_model.specs.declared.readers.Span.{Span}
use Rattle.cdc_model.specs.Readers.{AreLaid, state_width}
use Rattle.cdc_model.proofs.Noted.{laid_more, widths_more}
use Rattle.cdc_model.proofs.readers.spans_of.Goals as goal

pub loop-signal-preserved : goal.loop-signal-preserved
loop-signal-preserved c =
    let old = c.loop-signal.spans.items in
    let span : Span = record { start = c.loop-signal.start; width = c.state_width-width.result } in
    let pushed : c.push.new.self.items ≡ old ++ span ∷ [] = (let i = c.push.ensures.items in let e = c.if-is_err.ensures.value in grind (arith, common_steps, i, e)) in
    let next : c.in-Some.next ≡ c.loop-signal.start + c.state_width-width.result = (let k = c.in-Some.ensures.1 in let f = c.from.ensures in omega arith) in
    record {
      laid = subst (λ ss. AreLaid 0 ss c.in-Some.next) (sym pushed) (subst (AreLaid 0 (old ++ span ∷ [])) (sym next) (laid_more 0 old c.loop-signal.start c.state_width-width.result c.loop-signal.invariant.laid));
      widths = subst (λ ss. map state_width c.args.signals.now ≡ map (λ (q : Span). q.width) ss ++ map state_width (drop (c.loop-signal.signal-index + 1) c.args.signals.now)) (sym pushed)
          (widths_more (map state_width c.args.signals.now) old c.args.signals.now c.loop-signal.signal-index c.signal-item.result span c.loop-signal-test.true
          (c.state_width-width.ensures ∙ ap state_width c.signal-item.is) c.loop-signal.invariant.widths);
    }
