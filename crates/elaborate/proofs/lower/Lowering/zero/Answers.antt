use Rattle.std.proofs.lemmas.Nat.{pow_pos}
use Rattle.elaborate.proofs.lower.Lowering.zero.Goals as goal

pub returns-clause-zero : goal.returns-clause-zero
returns-clause-zero c = λ some room.
    let made = c.in_ok-zero.ensures.made (some, room, pow_pos c.args.width) in record { word = (made.there, made.wide); tree = made.tree }
