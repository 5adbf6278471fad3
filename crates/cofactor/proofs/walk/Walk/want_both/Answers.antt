use Rattle.std.proofs.Common.{◌≡◌, ℕ, true, inl, inr, refl}
use Rattle.cell_graph.proofs.Cones.{on_ok}
use Rattle.cell_graph.specs.Tree.{bit_at}
use Rattle.cofactor.specs.Shown.{HasPlace}
use Rattle.cofactor.specs.Walked.{IsAsked}
use Rattle.cofactor.proofs.SamePush.{both_ok}
use Rattle.cofactor.proofs.WantedLists.{in-turn, of-either, asked-kept}
use Rattle.cofactor.proofs.walk.Walk.want_both.Goals as goal

pub returns-clause-asked : goal.returns-clause-asked
returns-clause-asked c =
    let t = c.args.table.now in
    let mid = c.want.new.self.wanted in
    let new = c.want-2.new.self.wanted in
    both_ok c.want-2.result (λ f keep x. of-either (λ y. HasPlace t y → (i : ℕ) → bit_at c.args.bits i ≡ true → IsAsked t new y i) c.args.a c.args.b x
    (λ place i set. asked-kept t mid new keep c.args.a i (c.in_ok-want.ensures.asked place i set)) f) c.want-2.ensures.asked c.want-2.ensures.kept

pub returns-clause-only : goal.returns-clause-only
returns-clause-only c = on_ok c.want-2.result (λ f w h. in-turn (λ p. (c.args.a, inl refl, p)) (λ q. (c.args.b, inr refl, q)) (c.in_ok-want.ensures.only w) (f w h)) c.want-2.ensures.only
