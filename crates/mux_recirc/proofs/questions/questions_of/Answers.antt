-- The questions of one bit more, and in the end of all.
use Rattle.std.proofs.Common.{◌∙◌, sym, subst, [], get_or}
use Rattle.std.proofs.lemmas.List.Elements.{Contains-get_or}
use Rattle.cdc_base.specs.declared.bit.Bit.{Bit}
use Rattle.cdc_model.specs.Tables.{ShowsNet}
use Rattle.mux_recirc.specs.Questions.{IsAskedOf}
use Rattle.mux_recirc.proofs.Added.{item_more, in_none}
use Rattle.mux_recirc.proofs.Asking.{asked_all}
use Rattle.mux_recirc.proofs.questions.questions_of.Goals as goal

abbrev none : Bit
none = record { sig = 0; at = 0 }

pub loop-bit-preserved : goal.loop-bit-preserved
loop-bit-preserved c = record {
  same = c.in_ok-add_questions.ensures.unchanged ∙ c.loop-bit.invariant.same;
  asked = λ is has shown within sorted q.
      item_more c.args.bits.now (λ b. IsAskedOf c.args.net.now c.args.parts.now.entries.items b q) c.loop-bit.bit-index none c.loop-bit-test.true
      (c.loop-bit.invariant.asked is has shown within sorted q)
      (c.in_ok-add_questions.ensures.added is has (subst (ShowsNet c.args.net.now []) (sym c.loop-bit.invariant.same) shown)
      (within (get_or c.args.bits.now c.loop-bit.bit-index none) (Contains-get_or c.args.bits.now c.loop-bit.bit-index none c.loop-bit-test.true)) sorted q);
}

pub returns-clause-exact : goal.returns-clause-exact
returns-clause-exact c = λ is has shown within sorted q.
    asked_all c.args.net.now c.args.parts.now.entries.items c.args.bits.now c.loop-bit.bit-index q c.loop-bit-test.false (in_none c.new-questions.result.items q c.new-questions.ensures.items)
    (c.loop-bit.invariant.asked is has shown within sorted q)
