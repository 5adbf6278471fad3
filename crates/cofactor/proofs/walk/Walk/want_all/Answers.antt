use Rattle.std.proofs.Common.{◌<◌, ℕ, inl, inr, refl}
use Rattle.cell_graph.proofs.Cones.{on_ok}
use Rattle.cell_graph.specs.Cells.{cell_width}
use Rattle.cofactor.specs.Shown.{HasPlace}
use Rattle.cofactor.specs.Walked.{IsAsked}
use Rattle.cofactor.proofs.Makers.{ones-there}
use Rattle.cofactor.proofs.SamePush.{both_ok}
use Rattle.cofactor.proofs.WantedLists.{in-turn, of-either, asked-kept, keep-trans}
use Rattle.cofactor.proofs.walk.Walk.want_all.Goals as goal

pub returns-clause-asked : goal.returns-clause-asked
returns-clause-asked c =
    let t = c.args.table.now in
    let g = c.args.graph.now in
    let mid = c.want.new.self.wanted in
    let new = c.want-2.new.self.wanted in
    both_ok c.want-2.result (λ f keep x. of-either (λ y. HasPlace t y → (i : ℕ) → i < cell_width g y → i < 64 → IsAsked t new y i) c.args.a c.args.b x
    (λ place i l s. asked-kept t mid new keep c.args.a i (c.in_ok-want.ensures.asked place i (ones-there c.mask.result c.width.result (cell_width g c.args.a) i c.mask.ensures c.width.ensures l s)))
    (λ place i l s. f place i (ones-there c.mask-2.result c.width-2.result (cell_width g c.args.b) i c.mask-2.ensures c.width-2.ensures l s))) c.want-2.ensures.asked c.want-2.ensures.kept

pub returns-clause-only : goal.returns-clause-only
returns-clause-only c = on_ok c.want-2.result (λ f w h. in-turn (λ p. (c.args.a, inl refl, p.0)) (λ q. (c.args.b, inr refl, q.0)) (c.in_ok-want.ensures.only w) (f w h)) c.want-2.ensures.only

pub returns-clause-kept : goal.returns-clause-kept
returns-clause-kept c = on_ok c.want-2.result (keep-trans c.args.self.now.wanted c.want.new.self.wanted c.want-2.new.self.wanted c.in_ok-want.ensures.kept) c.want-2.ensures.kept
