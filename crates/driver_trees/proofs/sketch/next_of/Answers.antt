-- The next value by all processes that assign the register, or the register itself.
use Rattle.std.proofs.Common.{◌≡◌, List, [], Option, None, Some, option_map, sym, ap, subst, ◌∙◌, arith}
use Rattle.std.specs.Option.{option_map_or}
use Rattle.std.specs.Ordering.{nat_cmp}
use Rattle.std.specs.BTreeMap.{get}
use Rattle.flat_meaning.specs.SignalTrees.{sharing}
use Rattle.cell_graph.specs.declared.cell.CellId.{CellId}
use Rattle.driver_trees.specs.declared.shared.Giver.{Giver}
use Rattle.driver_trees.specs.declared.sketch.Next.{Next}
use Rattle.driver_trees.specs.Sketched.{AreGivers, IsClockOf, next_by}
use Rattle.driver_trees.proofs.Growing.{place-kept, tree-kept, still-grows}
use Rattle.driver_trees.proofs.Begun.{no_clock_tree}
use Rattle.driver_trees.proofs.sketch.next_of.Goals as goal

pub returns-in_ok-next-in-Some : goal.returns-in_ok-next-in-Some
returns-in_ok-next-in-Some c = record {
  exact = λ wid all drafts is some most nexts.
      let x = c.args.sig in let ds = c.args.drafts.now in let es = c.next_tree.new.drafts in let known = c.in-Some.known.now in
      let here : get nat_cmp c.args.nexts.now x ≡ Some known = sym c.in-Some.ensures.value in
      let shares = subst (λ (gs : List Giver). AreGivers wid ds x gs (sharing all x)) (ap (λ (o : Option Next). option_map_or (λ (n : Next). n.givers.items) o []) here ∙ sym c.as_slice.ensures.value) (nexts.shares x) in
      let clock = subst (λ (o : Option CellId). IsClockOf ds x o all) (ap (option_map (λ (n : Next). n.clock)) here) (nexts.clocks x) in
      let b = c.in_ok-next-in-Some.ensures.built wid (sharing all x) drafts is some most shares in (
        b.grows,
        record {
          next = record { place = b.place; tree = b.tree };
          clock = place-kept ds es known.clock 1 b.grows.longer clock.0;
          clock_tree = λ sel. tree-kept sel ds es b.grows.longer known.clock clock.0.0 ∙ clock.1 sel;
        },
      );
}

pub returns-in_ok-clock-in-None : goal.returns-in_ok-clock-in-None
returns-in_ok-clock-in-None c = record {
  exact = λ wid all drafts is some most nexts.
      let x = c.args.sig in let w = c.args.width in let ds = c.args.drafts.now in let es = c.read.new.self in let fs = c.constant.new.self in
      let here : get nat_cmp c.args.nexts.now x ≡ None = sym c.in-None.ensures.value in
      let none : sharing all x ≡ [] = subst (λ (o : Option CellId). IsClockOf ds x o all) (ap (option_map (λ (n : Next). n.clock)) here) (nexts.clocks x) in
      let b = c.in_ok-own-in-None.ensures.built wid drafts some (omega (arith, is)) (omega (arith, is, most)) in
      let k = c.in_ok-clock-in-None.ensures.built wid b.grows.drafts (omega arith) (omega arith) (omega arith) in
      let place = place-kept es fs c.in_ok-own-in-None.own w k.grows.longer b.place in (
        still-grows wid ds es fs b.grows k.grows,
        record {
          next = record {
            place = (place.0, place.1 ∙ is);
            tree = λ sel. tree-kept sel es fs k.grows.longer c.in_ok-own-in-None.own b.place.0 ∙ b.tree sel ∙ ap (λ n. sel x 0 n) is ∙ sym (ap (λ l. next_by wid sel l x) none);
          };
          clock = k.place;
          clock_tree = λ sel. k.tree sel ∙ sym (no_clock_tree sel x all none);
        },
      );
}
