-- One item more is a Gray register, or it is the first that isn't.
use Rattle.std.proofs.Common.{◌∙◌, sym, get_or}
use Rattle.std.proofs.lemmas.Option.{slice_get-get_or}
use Rattle.cdc_model.specs.GrayShape.{IsGrayReg}
use Rattle.cdc_model.specs.Nets.{design_of, next_tree}
use Rattle.cert_check.proofs.FirstFailing.{one_more, all_hold, other}
use Rattle.cert_check.proofs.grays.first_bad_gray.Goals as goal

pub loop-place-preserved : goal.loop-place-preserved
loop-place-preserved c = λ is has shared narrow shown.
    let net = c.args.net.now in
    let domains = c.args.domains.now in
    let grays = c.args.grays.now in
    let i = c.loop-place.place in
    let test = c.in_ok-holds.ensures domains (c.as_slice.ensures.value ∙ c.in_ok-registers.ensures) is has shared narrow shown in
    one_more (IsGrayReg (design_of net domains) (next_tree net)) grays i (c.loop-place.invariant is has shared narrow shown) (get_or grays i _) (slice_get-get_or grays i _ c.loop-place-test.true) (test.0 c.if-not-holds.false)

pub returns-then-not-holds : goal.returns-then-not-holds
returns-then-not-holds c = λ is has shared narrow shown.
    let domains = c.args.domains.now in
    let grays = c.args.grays.now in
    let i = c.loop-place.place in
    let test = c.in_ok-holds.ensures domains (c.as_slice.ensures.value ∙ c.in_ok-registers.ensures) is has shared narrow shown in
    (get_or grays i _, slice_get-get_or grays i _ c.loop-place-test.true, (λ h. other (sym c.if-not-holds.true ∙ test.1 h)), c.loop-place.invariant is has shared narrow shown)

pub returns : goal.returns
returns c = λ is has shared narrow shown.
    all_hold (IsGrayReg (design_of c.args.net.now c.args.domains.now) (next_tree c.args.net.now)) c.args.grays.now c.loop-place.place (c.loop-place.invariant is has shared narrow shown) c.loop-place-test.false
