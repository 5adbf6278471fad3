use Rattle.std.proofs.Common.{◌≡◌, ◌∙◌, ◌++◌, ◌+◌, ◌<◌, List, Option, refl, sym, ap, subst, map, drop, All, arith, rules, get_or, length}
use Rattle.std.proofs.lemmas.List.Elements.{All-get_or}
use Rattle.cell_graph.specs.declared.net.Reg.{Reg}
use Rattle.cell_graph.specs.declared.cell.CellId.{CellId}
use Rattle.cell_graph.specs.Cells.{signal_width}
use Rattle.driver_trees.specs.declared.sketch.Register.{Register}
use Rattle.driver_trees.specs.Drafts.{tree_in, width_at}
use Rattle.driver_trees.specs.Sketches.{IsRegisterIn}
use Rattle.cell_graph.specs.Nets.{IsWordOf}
use Rattle.elaborate.specs.declared.lower.Tree.{Tree as Lowered}
use Rattle.elaborate.specs.Lowered.{IsDraftMet, IsMet}
use Rattle.elaborate.specs.NetTrees.{IsRegisterOf}
use Rattle.elaborate.specs.Words.{IsRegOf}
use Rattle.elaborate.proofs.CellTrees.{met-kept}
use Rattle.elaborate.proofs.Fits.{one-more, one-name-more}
use Rattle.elaborate.proofs.Grown.{grows_refl, grows_trans}
use Rattle.elaborate.proofs.NetTrees.{next-wide, register-more}
use Rattle.elaborate.proofs.registers.Goals as goal

abbrev no_cell : CellId
no_cell = record { 0 = 0 }

abbrev none : Register
none = record { sig = 0; next = no_cell; clock = no_cell }

pub loop-register-preserved : goal.loop-register-preserved
loop-register-preserved c =
    let inv = c.loop-register.invariant in
    let first = c.args.lowering.now.graph in let g = c.loop-register.lowering.graph in
    let h = c.word.new.self.graph in let j = c.word-in-loop-register.new.self.graph in
    let items = c.args.sketch.now.registers.items in let k = c.loop-register.register-index in
    let own = c.deref-register-items.result.now in let value = c.deref-register-items.ensures.value in
    let lt : k < length items = omega (arith, c.loop-register-test.true, ap length value) in
    let word = subst (IsWordOf h c.in_ok-next.next) c.signal_width-width.ensures.exact c.in_ok-next.ensures.word in
    record {
      signals = c.in_ok-clock.ensures.signals ∙ c.in_ok-next.ensures.signals ∙ inv.signals;
      same = c.in_ok-clock.ensures.trees ∙ c.in_ok-next.ensures.trees ∙ inv.same;
      grown = grows_trans first g j inv.grown (grows_trans g h j c.in_ok-next.ensures.grown c.in_ok-clock.ensures.grown);
      names = ap (λ rs. map (λ (r : Reg). r.sig) rs ++ map (λ (r : Register). r.sig) (drop (k + 1) items)) c.in_ok-push.ensures.pushed
          ∙ one-name-more c.loop-register.regs _ items k none lt (search rules)
          ∙ inv.names;
      fit = subst (All (IsRegOf j)) (sym c.in_ok-push.ensures.pushed)
          (one-more g h j c.in_ok-next.ensures.grown c.in_ok-clock.ensures.grown
          c.loop-register.regs _ c.in_ok-next.next c.in_ok-clock.clock inv.fit word c.in_ok-clock.ensures.word);
      trees = λ f sel can met.
          let ds = c.args.sketch.now.drafts in let old = c.args.lowering.now.trees.items in
          let r = get_or own k none in
          let is = All-get_or (IsRegisterIn f ds) own k none c.loop-register-test.true (subst (All (IsRegisterIn f ds)) (sym value) can.sketch.registers) in
          let was = All-get_or (λ (x : Register). IsDraftMet sel ds first old x.next × IsDraftMet sel ds first old x.clock) own k none c.loop-register-test.true
          (subst (All (λ (x : Register). IsDraftMet sel ds first old x.next × IsDraftMet sel ds first old x.clock)) (sym value) met.registers) in
          let wide : width_at ds r.next ≡ c.signal_width-width.result =
          next-wide f g.signals (inv.signals ∙ can.words) ds r.next r.sig is.next first c.fits.ensures old (tree_in sel ds r.next) was.0 ∙ sym c.signal_width-width.ensures.exact in
          let next = subst (λ (ts : List (Option Lowered)). IsMet g ts r.next.0 (tree_in sel ds r.next) (width_at ds r.next)) (ap (λ v. v.items) (sym inv.same))
          (met-kept first g inv.grown old r.next.0 (tree_in sel ds r.next) (width_at ds r.next) was.0) in
          let clock = subst (λ (ts : List (Option Lowered)). IsMet h ts r.clock.0 (tree_in sel ds r.clock) (width_at ds r.clock)) (ap (λ v. v.items) (sym (c.in_ok-next.ensures.trees ∙ inv.same)))
          (met-kept first h (grows_trans first g h inv.grown c.in_ok-next.ensures.grown) old r.clock.0 (tree_in sel ds r.clock) (width_at ds r.clock) was.1) in
          subst (All (IsRegisterOf f sel j)) (sym c.in_ok-push.ensures.pushed)
          (register-more f sel g h j c.in_ok-next.ensures.grown c.in_ok-clock.ensures.grown c.loop-register.regs r.sig c.in_ok-next.next c.in_ok-clock.clock (inv.trees f sel can met)
          c.in_ok-next.ensures.word.0 c.in_ok-clock.ensures.word.0
          (c.in_ok-next.ensures.tree (tree_in sel ds r.next) (subst (IsMet g c.loop-register.lowering.trees.items r.next.0 (tree_in sel ds r.next)) wide next) ∙ is.next_tree sel can.trees)
          (c.in_ok-clock.ensures.tree (tree_in sel ds r.clock) (subst (IsMet h c.word.new.self.trees.items r.clock.0 (tree_in sel ds r.clock)) is.clock.1 clock) ∙ is.clock_tree sel));
    }
