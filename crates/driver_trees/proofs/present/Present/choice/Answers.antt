-- The choice is over the signal's two trees.
use Rattle.std.proofs.Common.{rules, ◌≡◌, Some, sym, ap, ap₂, ◌∙◌}
use Rattle.std.specs.Option.{option_or}
use Rattle.std.specs.Ordering.{nat_cmp}
use Rattle.std.specs.BTreeMap.{get}
use Rattle.cell_graph.specs.Tree.{Mux}
use Rattle.driver_trees.specs.Drafts.{tree_in}
use Rattle.driver_trees.specs.Presents.{present_of}
use Rattle.driver_trees.proofs.present.Present.choice.Goals as goal

pub returns-in_ok-add-in-Some-Some : goal.returns-in_ok-add-in-Some-Some
returns-in_ok-add-in-Some-Some c = record {
  chosen = λ wid t ts us drafts condition yes other is.
      let x = c.args.sig in
      let left : option_or (get nat_cmp c.args.yes.now x) (present_of c.args.self.now x) ≡ Some c.in-Some-Some.yes = search rules in
      let right : option_or (get nat_cmp c.args.other.now x) (present_of c.args.self.now x) ≡ Some c.in-Some-Some.other = search rules in
      let y = yes x c.in-Some-Some.yes left in
      let o = other x c.in-Some-Some.other right in
      let b = c.in_ok-add-in-Some-Some.ensures.built wid (wid x) drafts (sym y.place.1, condition.place.0, condition.place.1, (y.place.0, o.place.0, y.place.1 ∙ sym o.place.1)) in (
        b.grows,
        record {
          place = b.place;
          tree = λ sel. b.tree sel ∙ ap (λ u. Mux u (tree_in sel c.args.drafts.now c.in-Some-Some.yes) (tree_in sel c.args.drafts.now c.in-Some-Some.other)) (condition.tree sel)
              ∙ ap₂ (Mux (t sel)) (y.tree sel) (o.tree sel);
        },
      );
}
