-- The Gray registers of one register more, and in the end of all.
use Rattle.std.proofs.Common.{◌∙◌, sym, subst, [], List, Contains, get_or, arith}
use Rattle.std.proofs.lemmas.List.{take_all}
use Rattle.std.proofs.lemmas.List.Elements.{Contains-get_or}
use Rattle.cdc_model.specs.GrayShape.{IsGrayReg}
use Rattle.cdc_model.specs.Nets.{design_of, next_tree}
use Rattle.cdc_model.proofs.Found.{net_ascends}
use Rattle.gray_pointer.specs.declared.register.Register.{Register}
use Rattle.gray_pointer.specs.Counters.{AreRegistersIn}
use Rattle.gray_pointer.specs.Grays.{AreGrays}
use Rattle.gray_pointer.specs.Registers.{Ascend}
use Rattle.gray_pointer.specs.Words.{IsPlain}
use Rattle.gray_pointer.proofs.Every.{every_gray}
use Rattle.gray_pointer.proofs.Grays.{no_register, next_register}
use Rattle.gray_pointer.proofs.Registers.{among_ascend, registers_in, is_gray}
use Rattle.gray_pointer.proofs.gray_regs_with.Goals as goal

pub loop-gray-init : goal.loop-gray-init
loop-gray-init c = λ is has shared narrow shown. subst (AreGrays c.args.net.now.graph c.as_slice-registers.result.now []) (sym c.new-grays.ensures) (no_register c.args.net.now.graph c.as_slice-registers.result.now)

pub loop-gray-preserved : goal.loop-gray-preserved
loop-gray-preserved c = λ is has shared narrow shown.
    let net = c.args.net.now in
    let domains = c.args.domains.now in
    let g = net.graph in
    let rs = c.as_slice-registers.result.now in
    let listed = c.as_slice-registers.ensures.value ∙ c.in_ok-listed.ensures in
    let i = c.loop-gray.gray-index in
    let lt = c.loop-gray-test.true in
    let plain : IsPlain g = record { well = is.graph; shared = shared } in
    let up = subst Ascend (sym listed) (among_ascend net domains net.regs (net_ascends net is)) in
    let inside = subst (AreRegistersIn g) (sym listed) (registers_in net domains is has narrow) in
    let gray_in = (inside (get_or rs i _) (Contains-get_or rs i _ lt)).0 in
    let idle = c.in_ok-candidates.ensures plain inside in
    let candidates = c.as_slice.result.now in
    let only = λ (r : Register) (k : Contains candidates r). c.in_ok-counters.ensures.only r (subst (λ (l : List Register). Contains l r) c.as_slice.ensures.value k) in
    let more = c.in_ok-add_grays.ensures plain shown (λ r k. (inside r (only r k)).0) gray_in (subst Ascend (sym c.as_slice.ensures.value) (c.in_ok-counters.ensures.ordered up)) in
    next_register g rs candidates i _ lt up c.loop-gray.grays c.add_grays.new.grays (c.loop-gray.invariant is has shared narrow shown) only
    (λ count s k follows. subst (λ (l : List Register). Contains l count) (sym c.as_slice.ensures.value) (c.in_ok-counters.ensures.all plain inside up gray_in idle count s k follows)) more

pub returns : goal.returns
returns c = record {
  exact = λ is has shared narrow shown.
      let net = c.args.net.now in
      let domains = c.args.domains.now in
      let rs = c.as_slice-registers.result.now in
      let listed = c.as_slice-registers.ensures.value ∙ c.in_ok-listed.ensures in
      let e = take_all c.loop-gray.gray-index rs (let l = c.loop-gray-test.false in omega arith) in
      let so = subst (λ (l : List Register). AreGrays net.graph rs l c.loop-gray.grays) e (c.loop-gray.invariant is has shared narrow shown) in
      record {
        all = λ x h.
            let (count, gray, i, j, follows, same) = every_gray net domains is has narrow x h in
            subst (Contains c.loop-gray.grays) (sym same)
            (so.all count gray x.shape (subst (λ (l : List Register). Contains l count) (sym listed) i) (subst (λ (l : List Register). Contains l gray) (sym listed) j) follows);
        only = λ x k.
            let h = so.only x k in
            subst (IsGrayReg (design_of net domains) (next_tree net)) (sym h.5)
            (is_gray net domains is has narrow h.0 h.1 (subst (λ (l : List Register). Contains l h.0) listed h.2) (subst (λ (l : List Register). Contains l h.1) listed h.3) h.4.0 x.shape h.4.1);
        ordered = so.ordered;
      };
}
