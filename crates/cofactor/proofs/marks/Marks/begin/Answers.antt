use Rattle.std.proofs.Common.{◌≡◌, ◌∙◌, ap, arith, length, replicate}
use Rattle.cofactor.specs.Marks.{bits_met}
use Rattle.cofactor.proofs.MarkLists.{later-none}
use Rattle.cofactor.proofs.marks.Marks.begin.Goals as goal

pub returns : goal.returns
returns c =
    let marks = c.self.inside.marks.items in
    let same : length marks ≡ c.args.places = (let n = c.len.ensures in let o = c.self.inside.marks.ok in let p = c.if-len-places.false in omega arith) in
    ap (λ w. bits_met w marks) c.in-Some.ensures.1 ∙ later-none c.self.inside.walk marks c.self.invariant ∙ ap (λ n. replicate n 0) same
