use Rattle.std.proofs.Common.{◌≡◌, ◌==◌, ◌&&◌, not, cond, Some, Err, Ok, ap, sym, subst, ◌∙◌, rules}
use Rattle.std.specs.Prelude.{option_map}
use Rattle.std.specs.Cmp.Lexicographic.{pointwise}
use Rattle.verilog_reading.specs.SourceTree.{decl_of}
use Rattle.flat_unfolding.specs.Declarations.{is_plain_port, entry, add_signal}
use Rattle.flat_names.specs.declared.scope.Meaning.TheVariants as m
use Rattle.flat_names.specs.Looks.{range_of, kept_in}
use Rattle.flat_names.specs.Designs.{Meets}
use Rattle.flat_declarations.specs.Declaring.{Adds}
use Rattle.flat_declarations.proofs.Added.{signal-err, signal-ok}
use Rattle.flat_declarations.proofs.declare.add_named_signal.Goals as goal
use Rattle.flat_declarations.proofs.declare.add_named_signal.Goals.{then-is_plain_port, else-is_plain_port}

pub returns-in_err-sig-clause-exact : goal.returns-in_err-sig-clause-exact
returns-in_err-sig-clause-exact c = λ pins s at sh here header placed narrow free.
    let x = decl_of c.args.decl.now in let r = option_map range_of c.args.bounds in let d = c.add_signal.new.design in let stop = c.in_err-sig.field-0.0 in
    let plain = c.is_plain_port.ensures in
    let opened : c.if-is_plain_port.is_open ≡ (is_plain_port x.kind && not at.in_header) = elim c.if-is_plain_port.branch [
      | then-is_plain_port w ↦ w.is_open-is ∙ ap (λ b. not b) (sym header) ∙ ap (λ b. b && not at.in_header) (sym (w.if-is_plain_port.true) ∙ plain)
      | else-is_plain_port w ↦ w.is_open-is ∙ w.if-is_plain_port.false ∙ ap (λ b. b && not at.in_header) (sym (w.if-is_plain_port.false) ∙ plain)
    ] in
    let same : c.from_residual.result ≡ Err stop = search rules in
    subst (λ q. Meets pins c.args.names.now (add_signal s at x r) q d) (sym same) (signal-err pins c.args.names.now c.args.names.now d s at x r stop
    (subst (λ o. Adds pins s.design (entry at x.kind r o x.name) (Err stop) d) opened
    (subst (λ y. Adds pins s.design (entry at x.kind r c.if-is_plain_port.is_open y) (Err stop) d) c.as_str-name.ensures (c.in_err-sig.ensures.exact pins s.design at sh.design here placed narrow))))

pub returns-clause-exact : goal.returns-clause-exact
returns-clause-exact c = λ pins s at sh here header placed narrow free.
    let x = decl_of c.args.decl.now in let r = option_map range_of c.args.bounds in let d = c.add_signal.new.design in let sig = c.in_ok-sig.sig in
    let plain = c.is_plain_port.ensures in
    let opened : c.if-is_plain_port.is_open ≡ (is_plain_port x.kind && not at.in_header) = elim c.if-is_plain_port.branch [
      | then-is_plain_port w ↦ w.is_open-is ∙ ap (λ b. not b) (sym header) ∙ ap (λ b. b && not at.in_header) (sym (w.if-is_plain_port.true) ∙ plain)
      | else-is_plain_port w ↦ w.is_open-is ∙ w.if-is_plain_port.false ∙ ap (λ b. b && not at.in_header) (sym (w.if-is_plain_port.false) ∙ plain)
    ] in
    signal-ok pins c.args.names.now c.define.new.names d s at x r sig tt sh.names free
    (subst (λ o. Adds pins s.design (entry at x.kind r o x.name) (Ok sig) d) opened
    (subst (λ y. Adds pins s.design (entry at x.kind r c.if-is_plain_port.is_open y) (Ok sig) d) c.as_str-name.ensures (c.in_ok-sig.ensures.exact pins s.design at sh.design here placed narrow)))
    (λ y. c.in_ok-define.ensures y ∙ ap (λ z. cond (pointwise ◌==◌ z y) (Some (m.Signal sig)) (kept_in c.args.names.now y)) c.as_str-name.ensures)
