-- Both registers are there, fit and have the shape that is listed.
use Rattle.std.proofs.Common.{◌∙◌, sym, subst}
use Rattle.gray_pointer.specs.Shapes.{IsShape}
use Rattle.gray_pointer.specs.Words.{IsPlain, word_of}
use Rattle.cert_check.specs.Items.{IsRegisterAt}
use Rattle.cert_check.proofs.FirstFailing.{other}
use Rattle.cert_check.proofs.GrayItems.{register_in, no_count, no_code, unfit, shapeless, equal_shapes, same_shapes, other_shape, has_shape}
use Rattle.cert_check.proofs.grays.is_gray_item.Goals as goal

pub returns-in_default : goal.returns-in_default
returns-in_default c = λ domains listed is has shared narrow shown. (
  λ e. other e,
  λ h. absurd (no_count c.args.net.now domains is has narrow c.args.registers.now listed c.args.gray
      (subst (IsRegisterAt c.args.registers.now c.args.gray.count) c.in_default.is c.register_of.ensures) h),
)

pub returns-in_default-register_of : goal.returns-in_default-register_of
returns-in_default-register_of c = λ domains listed is has shared narrow shown. (
  λ e. other e,
  λ h. absurd (no_code c.args.net.now domains is has narrow c.args.registers.now listed c.args.gray
      (subst (IsRegisterAt c.args.registers.now c.args.gray.gray) c.in_default-register_of.is c.register_of-2.ensures) h),
)

pub returns-then-not-fit : goal.returns-then-not-fit
returns-then-not-fit c = λ domains listed is has shared narrow shown.
    let net = c.args.net.now in
    let rs = c.args.registers.now in
    let g = c.args.gray in
    let count = c.in-Some.count in
    let code = c.in-Some-register_of.code in
    let at_count = subst (IsRegisterAt rs g.count) c.in-Some.is c.register_of.ensures in
    let at_code = subst (IsRegisterAt rs g.gray) c.in-Some-register_of.is c.register_of-2.ensures in
    ((λ e. other e), λ h. absurd (unfit net domains is has narrow rs listed g count code at_count at_code (λ f. other (sym c.if-not-fit.true ∙ c.fit.ensures.1 f)) h))

pub returns-in-None : goal.returns-in-None
returns-in-None c = λ domains listed is has shared narrow shown.
    let net = c.args.net.now in
    let rs = c.args.registers.now in
    let g = c.args.gray in
    let count = c.in-Some.count in
    let code = c.in-Some-register_of.code in
    let at_count = subst (IsRegisterAt rs g.count) c.in-Some.is c.register_of.ensures in
    let at_code = subst (IsRegisterAt rs g.gray) c.in-Some-register_of.is c.register_of-2.ensures in
    let fits = c.fit.ensures.0 c.if-not-fit.false in
    let plain : IsPlain net.graph = record { well = is.graph; shared = shared } in
    let shape = c.in_ok-found.ensures plain shown (register_in net domains is has narrow rs listed g.count count at_count) (register_in net domains is has narrow rs listed g.gray code at_code) (sym fits.2) in
    let none = subst (IsShape count.sig code.sig count.width (word_of net.graph count.next count.width) (word_of net.graph code.next count.width)) c.in-None.is shape in
    ((λ e. other e), λ h. absurd (shapeless net domains is has narrow rs listed g count code at_count at_code none h))

pub returns-in-Some-found : goal.returns-in-Some-found
returns-in-Some-found c = λ domains listed is has shared narrow shown.
    let net = c.args.net.now in
    let rs = c.args.registers.now in
    let g = c.args.gray in
    let count = c.in-Some.count in
    let code = c.in-Some-register_of.code in
    let at_count = subst (IsRegisterAt rs g.count) c.in-Some.is c.register_of.ensures in
    let at_code = subst (IsRegisterAt rs g.gray) c.in-Some-register_of.is c.register_of-2.ensures in
    let fits = c.fit.ensures.0 c.if-not-fit.false in
    let plain : IsPlain net.graph = record { well = is.graph; shared = shared } in
    let shape = c.in_ok-found.ensures plain shown (register_in net domains is has narrow rs listed g.count count at_count) (register_in net domains is has narrow rs listed g.gray code at_code) (sym fits.2) in
    let s = c.in-Some-found.shape in
    let has_it = subst (IsShape count.sig code.sig count.width (word_of net.graph count.next count.width) (word_of net.graph code.next count.width)) c.in-Some-found.is shape in (
      λ e. has_shape net domains is has narrow rs listed g count code at_count at_code s has_it fits (equal_shapes s g.shape (sym c.eq.ensures ∙ e)),
      λ h. c.eq.ensures ∙ same_shapes s g.shape (other_shape net domains is has narrow rs listed g count code at_count at_code s has_it h),
    )
