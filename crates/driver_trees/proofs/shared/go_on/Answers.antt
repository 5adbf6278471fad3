-- The run ends below the bit, and another one begins.
use Rattle.std.proofs.Common.{◌≡◌, ℕ, suc, ◌+◌, Bool, false, cond, ◌==◌, refl, sym, ap, ap₂, ◌∙◌, arith, add-one, ne_eqb}
use Rattle.cell_graph.specs.Tree.{Tree}
use Rattle.flat_meaning.specs.SignalTrees.{with_run, with_bits}
use Rattle.driver_trees.specs.Givers.{low_tree}
use Rattle.driver_trees.proofs.shared.go_on.Goals as goal

pub returns : goal.returns
returns c = record {
  goes_on = λ wid words giver drafts is some most given begun room.
      let at = c.args.at in let run = c.args.run in let w = wid c.args.sig in
      let b = c.in_ok-low.ensures.built wid words giver drafts is some most given begun (omega (arith, room)) in
      let mine : c.giver_of-giver.result ≡ giver at = c.giver_of-giver.ensures ∙ given.givers at (omega (arith, room, most)) in
      let other : (giver at == run.giver) ≡ false = ne_eqb (giver at) run.giver (λ e. c.if-giver-run.false (mine ∙ e)) in (
        b.grows,
        record { some = (omega arith); place = (b.place.0, refl); below = b.place.1 },
        λ sel n. let below = with_run w (words sel) giver run.from at run.giver (low_tree sel c.args.drafts.now run) in
            ap₂ (λ (k : ℕ) (t : Tree). with_bits w (words sel) giver n at (at + 1) k t) mine (b.tree sel) ∙ ap (λ m. with_bits w (words sel) giver n at m (giver at) below) (add-one at)
            ∙ sym (ap (λ (z : Bool). cond z (with_bits w (words sel) giver n run.from (suc at) run.giver (low_tree sel c.args.drafts.now run)) (with_bits w (words sel) giver n at (suc at) (giver at) below)) other),
      );
}
