-- A select of all bits.
use Rattle.std.proofs.Common.{◌≡◌, ◌≤◌, IfOk, sym, subst, ◌∙◌, arith}
use Rattle.driver_trees.specs.Growth.{IsBuilt}
use Rattle.driver_trees.proofs.present.Present.whole.Goals as goal

pub returns : goal.returns
returns c = record {
  built = λ wid look are sees some.
      let e : c.width.result ≡ wid c.args.sig = c.width.ensures ∙ sees.widths c.args.sig in
      subst (λ n. IfOk c.read.result (λ id. IsBuilt wid c.args.drafts.now c.read.new.drafts id n (λ sel. look sel c.args.sig 0 n))) e
      (c.read.ensures.built wid look are sees (subst (λ n. 1 ≤ n) (sym e) some) (omega arith));
}
