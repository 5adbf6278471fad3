use Rattle.std.proofs.Common.{◌≡◌, ◌+◌, subst, arith}
use Rattle.flat_unfolding.specs.Names.{whole_of}
use Rattle.flat_names.specs.Selects.{StandsFor}
use Rattle.flat_names.proofs.Selected.{whole-stands}
use Rattle.flat_names.proofs.select.word_read.Goals as goal

pub returns : goal.returns
returns c = λ l h f i.
    let few = f.few in
    let s : c.saturating_add-sig.result ≡ c.args.memory.first + c.args.n = omega (arith, c.saturating_add-sig.ensures) in
    subst (λ k. StandsFor c.read.result (whole_of l k)) s (whole-stands c.args.look.now l c.saturating_add-sig.result c.width.result c.read.result h f (omega arith) c.width.ensures c.read.ensures)
