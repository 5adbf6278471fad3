use Rattle.std.proofs.Common.{◌≡◌, ◌<◌, ◌≤◌, true, false, Some, length, get_or, sym, subst, ◌∙◌}
use Rattle.verilog_reading.specs.SourceTree.{module_of}
use Rattle.flat_unfolding.specs.Outcome.{each}
use Rattle.flat_unfolding.specs.Declarations.{header_of, has_direction, directed}
use Rattle.flat_unfolding.specs.Design.{look_of}
use Rattle.flat_names.specs.Noting.{Refuses}
use Rattle.flat_names.specs.Designs.{ShowsNames}
use Rattle.flat_declarations.proofs.Ended.{look-shown}
use Rattle.flat_declarations.proofs.Headers.{directed-next, directed-refused, directed-done}
use Rattle.flat_declarations.proofs.declare.try_header.Goals as goal

pub returns-then-not-has_direction-clause-exact : goal.returns-then-not-has_direction-clause-exact
returns-then-not-has_direction-clause-exact c = λ pins s sh.
    let m = c.args.module.now in let x = c.port-item.result in let i = c.loop-port.port-index in let at = c.as_slice-port-items.ensures in
    let shows = look-shown pins c.look-look.result c.args.design.now s (subst (λ t. ShowsNames t s.names) (sym c.look-look.ensures.names) sh.names) sh.design c.look-look.ensures.entries c.look-look.ensures.active in
    let d = c.has_direction.ensures (look_of s) shows in let t = c.if-not-has_direction.true in
    let undirected : has_direction (look_of s) x.name ≡ false = sym d ∙ t in
    directed-refused pins c.args.names.now c.args.design.now m s i x (subst (λ xs. i < length xs) at c.loop-port-test.true) (subst (λ xs. x ≡ get_or xs i x) at c.port-item.is)
    (each (directed (module_of m)) s (header_of (module_of m))) c.refused.result (c.loop-port.invariant pins s sh) undirected
    (subst (λ y. Refuses (record { number = 306; place = Some m.place; name = y }) c.refused.result) c.as_str.ensures c.refused.ensures.exact)

pub loop-port-preserved : goal.loop-port-preserved
loop-port-preserved c = λ pins s sh.
    let m = c.args.module.now in let x = c.port-item.result in let i = c.loop-port.port-index in let at = c.as_slice-port-items.ensures in
    let shows = look-shown pins c.look-look.result c.args.design.now s (subst (λ t. ShowsNames t s.names) (sym c.look-look.ensures.names) sh.names) sh.design c.look-look.ensures.entries c.look-look.ensures.active in
    let d = c.has_direction.ensures (look_of s) shows in let t = c.if-not-has_direction.false in
    let is_directed : has_direction (look_of s) x.name ≡ true = sym d ∙ t in
    c.loop-port.invariant pins s sh
    ∙ directed-next pins c.args.names.now c.args.design.now m s i x (subst (λ xs. i < length xs) at c.loop-port-test.true) (subst (λ xs. x ≡ get_or xs i x) at c.port-item.is) is_directed

pub returns-clause-exact : goal.returns-clause-exact
returns-clause-exact c = λ pins s sh.
    let i = c.loop-port.port-index in
    directed-done pins c.args.names.now c.args.design.now c.args.module.now s i tt (subst (λ xs. length xs ≤ i) c.as_slice-port-items.ensures c.loop-port-test.false) sh (c.loop-port.invariant pins s sh)
