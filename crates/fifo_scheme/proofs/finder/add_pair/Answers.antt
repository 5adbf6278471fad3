use Rattle.std.proofs.Common.{rules, arith, ◌≡◌, Some, slice_get, subst}
use Rattle.std.specs.Ordering.{eq_by_cmp}
use Rattle.fifo_scheme.specs.Candidates.{key_of}
use Rattle.fifo_scheme.specs.contracts.finder.KeyOrd.TheImpl as order
use Rattle.fifo_scheme.proofs.Growing.{grows_put, found_at}
use Rattle.fifo_scheme.proofs.KeyOrder.{equal_is, equal_to_itself}
use Rattle.fifo_scheme.proofs.finder.add_pair.Goals as goal

pub returns : goal.returns
returns c =
    let key = key_of c.in-Some-Some.write.now c.in-Some-Some.read.now in
    let sides = c.args.index.now.sides.items in
    let all : c.deref.result.now ≡ sides = search rules in
    let again : c.deref-2.result.now ≡ sides = search rules in
    grows_put sides c.args.sides c.in-Some-Some.write.now c.in-Some-Some.read.now c.args.candidates.now c.insert.new.self (eq_by_cmp order.ghosts.cmp key)
    (subst (λ xs. slice_get xs c.args.sides.write ≡ Some c.in-Some-Some.write.now) all (found_at c.deref.result.now c.args.sides.write c.get.result c.in-Some-Some.write c.in-Some-Some.is-0 c.get.ensures.lookup.0 (c.get.ensures.lookup.4 (omega arith))))
    (subst (λ xs. slice_get xs c.args.sides.read ≡ Some c.in-Some-Some.read.now) again (found_at c.deref-2.result.now c.args.sides.read c.get-2.result c.in-Some-Some.read c.in-Some-Some.is-1 c.get-2.ensures.lookup.0 (c.get-2.ensures.lookup.4 (omega arith))))
    (λ k. search rules) (λ k. equal_is key k) (equal_to_itself key)
