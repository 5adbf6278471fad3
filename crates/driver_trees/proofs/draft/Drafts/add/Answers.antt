-- The cell is the last draft, of the bits that it may have.
use Rattle.std.proofs.Common.{◌≡◌, ◌∷◌, [], ◌++◌, sym, ap, ◌∙◌, length}
use Rattle.driver_trees.specs.declared.draft.Form.TheVariants.{Made}
use Rattle.driver_trees.specs.Growth.{drafted}
use Rattle.driver_trees.proofs.Growing.{built-push, made-bits, ok-map}
use Rattle.driver_trees.proofs.draft.Drafts.add.Goals as goal

pub returns-clause-built : goal.returns-clause-built
returns-clause-built c = λ wid w are is.
    let old = c.args.self.now in
    let e : w ≡ c.width_of-width.result = made-bits old (length old) w c.args.cell is ∙ sym c.width_of-width.ensures in
    ok-map c.push.result (λ id h. built-push wid old c.push.new.self id (Made c.args.cell) w h.0 (h.1 ∙ ap (λ v. old ++ drafted (Made c.args.cell) v ∷ []) (sym e)) are is) c.push.ensures.added
