use Rattle.std.proofs.Common.{rules, ◌≡◌, Some, slice_get}
use Rattle.std.proofs.lemmas.Result.{IfOk-weaker}
use Rattle.fifo_scheme.specs.Candidates.{AreLookedUp, Grows, IsReadTo, IsWordTo}
use Rattle.fifo_scheme.proofs.Growing.{grows_as}
use Rattle.fifo_scheme.proofs.Led.{by_first}
use Rattle.fifo_scheme.proofs.finder.add_read.Goals as goal

pub returns-in-Some : goal.returns-in-Some
returns-in-Some c =
    let i = c.args.index.now in
    let r = c.args.read.now in
    let word = c.in-Some.word.now in
    let first : slice_get r.words 0 ≡ Some word = search rules in
    IfOk-weaker c.add_word.result (λ x. AreLookedUp i → Grows i.sides.items (IsWordTo c.args.net.now i r.count word) c.args.candidates.now c.add_word.new.candidates)
    (λ x. AreLookedUp i → Grows i.sides.items (IsReadTo c.args.net.now i r) c.args.candidates.now c.add_word.new.candidates)
    (λ x h by. grows_as i.sides.items (IsWordTo c.args.net.now i r.count word) (IsReadTo c.args.net.now i r) c.args.candidates.now c.add_word.new.candidates (by_first c.args.net.now i r word first) (h by)) c.add_word.ensures
