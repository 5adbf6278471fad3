-- A select of the tree that is seen, or of the signal as it is.
use Rattle.std.proofs.Common.{◌≡◌, Option, Some, None, sym, ap, ◌∙◌}
use Rattle.std.specs.Option.{option_map_or}
use Rattle.cell_graph.specs.declared.cell.CellId.{CellId}
use Rattle.driver_trees.specs.Presents.{shown_of}
use Rattle.driver_trees.proofs.Growing.{built-as, ok-map}
use Rattle.driver_trees.proofs.Seen.{looks-shown, seen, shown-present}
use Rattle.driver_trees.proofs.present.Present.read.Goals as goal

pub returns-in-Some : goal.returns-in-Some
returns-in-Some c = record {
  built = λ wid look are sees some within.
      let p = c.args.self.now in
      let old = c.args.drafts.now in
      let e : shown_of p c.args.sig ≡ Some c.in-Some.tree = sym c.shown.ensures ∙ c.in-Some.is in
      ok-map c.cut.result
      (λ id b. built-as (λ sel. look sel c.args.sig c.args.at c.args.width) b
      (λ sel. sym (sees.looks sel c.args.sig c.args.at c.args.width within ∙ looks-shown wid sel p c.args.sig c.args.at c.args.width old
      ∙ ap (seen wid sel p c.args.sig c.args.at c.args.width old) e)))
      (c.cut.ensures.built wid (wid c.args.sig) are (sees.trees c.args.sig c.in-Some.tree (shown-present p c.args.sig c.in-Some.tree e)) some within);
}

pub returns-in-None : goal.returns-in-None
returns-in-None c = record {
  built = λ wid look are sees some within.
      let p = c.args.self.now in
      let old = c.args.drafts.now in
      let e : shown_of p c.args.sig ≡ None = sym c.shown.ensures ∙ c.in-None.is in
      ok-map c.read.result
      (λ id b. built-as (λ sel. look sel c.args.sig c.args.at c.args.width) b
      (λ sel. sym (sees.looks sel c.args.sig c.args.at c.args.width within ∙ looks-shown wid sel p c.args.sig c.args.at c.args.width old
      ∙ ap (seen wid sel p c.args.sig c.args.at c.args.width old) e)))
      (c.read.ensures.built wid are some within (sees.words c.args.sig));
}
