use Rattle.std.proofs.Common.{◌≡◌, ◌∙◌, ◌++◌, ◌+◌, ◌<◌, [], ◌∷◌, sym, ap, ap₂, arith, map, drop, get_or, length}
use Rattle.std.proofs.lemmas.List.{append-nil}
use Rattle.cell_graph.specs.declared.cell.CellId.{CellId}
use Rattle.driver_trees.specs.declared.sketch.Register.{Register}
use Rattle.elaborate.specs.Counts.{register_roots}
use Rattle.elaborate.proofs.NetTrees.{drop-whole}
use Rattle.elaborate.proofs.Roots.{output-roots-more, register-roots-more}
use Rattle.elaborate.proofs.roots_of.Goals as goal

abbrev none : CellId
none = record { 0 = 0 }

abbrev nothing : Register
nothing = record { sig = 0; next = none; clock = none }

pub loop-register-preserved : goal.loop-register-preserved
loop-register-preserved c =
    let items = c.args.sketch.now.registers.items in let k = c.loop-register.register-index in
    let old = c.loop-register.roots.items in let mid = c.push.new.items.items in let new = c.push-in-loop-register.new.items.items in
    let value = c.deref-register-items.ensures.value in
    let same = ap (λ xs. get_or xs k nothing) value in
    let first : mid ≡ old ++ (get_or items k nothing).clock.0 ∷ [] = c.in_ok-push.ensures ∙ ap (λ (r : Register). old ++ r.clock.0 ∷ []) same in
    let second : new ≡ mid ++ (get_or items k nothing).next.0 ∷ [] = c.in_ok-push-2.ensures ∙ ap (λ (r : Register). mid ++ r.next.0 ∷ []) same in
    register-roots-more old mid new items k nothing (omega (arith, c.loop-register-test.true, ap length value)) first second ∙ c.loop-register.invariant

pub loop-output-init : goal.loop-output-init
loop-output-init c =
    let items = c.args.sketch.now.registers.items in let k = c.loop-register.register-index in let roots = c.loop-register.roots.items in
    let whole : roots ≡ register_roots items =
    sym (append-nil roots) ∙ ap (λ rs. roots ++ register_roots rs) (sym (drop-whole items k (omega (arith, c.loop-register-test.false, ap length c.deref-register-items.ensures.value)))) ∙ c.loop-register.invariant in
    ap (λ vs. vs ++ map (λ (o : CellId). o.0) c.args.sketch.now.outputs.items) whole

pub loop-output-preserved : goal.loop-output-preserved
loop-output-preserved c =
    let items = c.args.sketch.now.outputs.items in let k = c.loop-output.output-index in
    let old = c.loop-output.roots.items in let new = c.push-in-loop-output.new.items.items in
    let value = c.deref-output-items.ensures.value in
    let pushed : new ≡ old ++ (get_or items k none).0 ∷ [] = c.in_ok-push-3.ensures ∙ ap (λ xs. old ++ (get_or xs k none).0 ∷ []) value in
    output-roots-more old new items k none (omega (arith, c.loop-output-test.true, ap length value)) pushed ∙ c.loop-output.invariant

pub returns : goal.returns
returns c =
    let items = c.args.sketch.now.outputs.items in let k = c.loop-output.output-index in let roots = c.loop-output.roots.items in
    sym (append-nil roots) ∙ ap (λ os. roots ++ map (λ (o : CellId). o.0) os) (sym (drop-whole items k (omega (arith, c.loop-output-test.false, ap length c.deref-output-items.ensures.value)))) ∙ c.loop-output.invariant
