-- One term more says that a bit of the signal is 0.
use Rattle.std.proofs.Common.{◌≡◌, ◌∙◌, sym, inr, Some, None, false, get_or}
use Rattle.std.proofs.lemmas.List.Elements.{Contains-get_or}
use Rattle.cdc_model.proofs.Loads.{each_of}
use Rattle.fifo_nodes.specs.declared.term.Term.TheVariants.{Is}
use Rattle.fifo_parts.specs.Words.{IsZeroOf}
use Rattle.fifo_parts.proofs.ReadCells.{zero_end, zero_more}
use Rattle.fifo_parts.proofs.reads.count_at_zero.Goals as goal

pub returns-in_err-sig : goal.returns-in_err-sig
returns-in_err-sig c = λ sig say.
    let ts = c.args.terms.now in
    let i = c.loop-term.term-index in
    let is = c.zero_of.ensures sig (each_of (IsZeroOf c.args.net.now.graph sig) ts say.1 (get_or ts i (Is None false))
    (Contains-get_or ts i (Is None false) c.loop-term-test.true)) in
    let both : None ≡ Some sig = sym c.in_err-sig.was ∙ is in
    cc

pub loop-term-preserved : goal.loop-term-preserved
loop-term-preserved c = λ sig say.
    let ts = c.args.terms.now in
    let i = c.loop-term.term-index in
    let is = c.zero_of.ensures sig (each_of (IsZeroOf c.args.net.now.graph sig) ts say.1 (get_or ts i (Is None false))
    (Contains-get_or ts i (Is None false) c.loop-term-test.true)) in
    inr (sym c.in_ok-sig.was ∙ is)

pub returns : goal.returns
returns c = λ sig say. zero_end c.args.net.now.graph sig c.loop-term.term-index c.args.terms.now c.loop-term.count say c.loop-term-test.false
    (c.loop-term.invariant sig say)

pub returns-then-unwrap_or-sig : goal.returns-then-unwrap_or-sig
returns-then-unwrap_or-sig c = λ sig say.
    let ts = c.args.terms.now in
    let i = c.loop-term.term-index in
    let is = c.zero_of.ensures sig (each_of (IsZeroOf c.args.net.now.graph sig) ts say.1 (get_or ts i (Is None false))
    (Contains-get_or ts i (Is None false) c.loop-term-test.true)) in
    let both = sym c.in_ok-sig.was ∙ is in
    let same : c.in_ok-sig.sig ≡ sig = cc in
    absurd (zero_more sig c.in_ok-sig.sig i c.loop-term.count (c.loop-term.invariant sig say)
    (λ e. c.if-unwrap_or-sig.true (c.unwrap_or.ensures ∙ e)) same)
