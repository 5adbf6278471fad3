-- One counter more.
use Rattle.std.proofs.Common.{◌≡◌, ◌++◌, sym, subst, [], ◌∷◌, List, get_or, arith}
use Rattle.std.proofs.lemmas.List.{append-nil, take_all}
use Rattle.std.proofs.lemmas.List.Elements.{Contains-get_or}
use Rattle.cdc_model.specs.declared.scheme.GrayReg.{GrayReg}
use Rattle.gray_pointer.specs.declared.register.Register.{Register}
use Rattle.gray_pointer.specs.Grays.{AreGrays}
use Rattle.gray_pointer.proofs.Grays.{no_counter, next_counter}
use Rattle.gray_pointer.proofs.add_grays.Goals as goal

pub loop-count-init : goal.loop-count-init
loop-count-init c = λ plain shown all own up. ([], sym (append-nil c.args.grays.now), no_counter c.args.net.now.graph (c.args.gray.now ∷ []))

pub loop-count-preserved : goal.loop-count-preserved
loop-count-preserved c = λ plain shown all own up.
    let g = c.args.net.now.graph in
    let cs = c.args.counters.now in
    let i = c.loop-count.count-index in
    let lt = c.loop-count-test.true in
    let s = c.in_ok-add_gray.ensures plain shown (all (get_or cs i _) (Contains-get_or cs i _ lt)) own in
    next_counter g cs c.args.gray.now i _ lt up c.args.grays.now c.loop-count.grays c.add_gray.new.grays (c.loop-count.invariant plain shown all own up) s.0 s.1 s.2

pub returns : goal.returns
returns c = λ plain shown all own up.
    let g = c.args.net.now.graph in
    let cs = c.args.counters.now in
    let e = take_all c.loop-count.count-index cs (let l = c.loop-count-test.false in omega arith) in
    subst (λ (l : List Register). (more : List GrayReg) × (c.loop-count.grays ≡ c.args.grays.now ++ more) × AreGrays g l (c.args.gray.now ∷ []) more) e (c.loop-count.invariant plain shown all own up)
