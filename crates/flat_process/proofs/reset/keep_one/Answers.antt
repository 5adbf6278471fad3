use Rattle.std.proofs.Common.{◌≡◌, ap, ◌∙◌, rules}
use Rattle.flat_process.specs.Resets.{with_given}
use Rattle.flat_process.proofs.Keeping.{shows-given}
use Rattle.flat_process.proofs.reset.keep_one.Goals as goal

pub returns : goal.returns
returns c = λ pins e v h i.
    let g = c.args.one in
    let d = c.args.design.now in
    let place : c.unwrap_or-place.result ≡ g.sig = search rules in
    shows-given pins d e h c.write_given.new.entries v g i (c.write_given.ensures ∙ ap (λ k. with_given k g d.entries.items) place)
