use Rattle.std.proofs.Common.{◌≡◌, Some, None, inl, inr, sym, ap, ap₂, ◌∙◌, rules}
use Rattle.flat_meaning.specs.Flat.{binary_size}
use Rattle.flat_form.specs.View.{binary_of}
use Rattle.flat_form.specs.Whole.{binary_whole}
use Rattle.flat_unfolding.specs.Constants.{both}
use Rattle.flat_names.specs.Noting.{all_noted}
use Rattle.flat_names.proofs.Options.{ok-map}
use Rattle.flat_names.proofs.Terms.{counted-of, open-of}
use Rattle.flat_names.proofs.Counted.{both-none, binary-quiet, binary-loud}
use Rattle.flat_names.proofs.resolved.binary.Goals as goal
use Rattle.flat_names.proofs.resolved.binary.Goals.{in-Some+in-None-1, in-None-1}

pub returns-in-Some-Some : goal.returns-in-Some-Some
returns-in-Some-Some c = λ l p q pa fp qb fq.
    let op = c.args.op in
    let i = c.in-Some-Some in
    let first : c.args.a.count ≡ Some i.first = search rules in
    let second : c.args.b.count ≡ Some i.second = search rules in
    let j = counted-of p c.args.a i.first pa first in
    let k = counted-of q c.args.b i.second qb second in
    let size : c.binary_size-width.result ≡ binary_size (binary_of op) j.0 k.0 =
    c.binary_size-width.ensures ∙ ap₂ (binary_size (binary_of op)) (c.width.ensures ∙ pa.width j.0 j.1) (c.width-in-Some-Some.ensures ∙ qb.width k.0 k.1) in
    let whole : c.whole_binary-whole.result ≡ binary_whole op (binary_size (binary_of op) j.0 k.0) p.whole q.whole =
    c.whole_binary-whole.ensures ∙ ap (λ w. binary_whole op w i.first.whole i.second.whole) size ∙ ap₂ (binary_whole op (binary_size (binary_of op) j.0 k.0)) (sym j.2) (sym k.2) in
    ok-map c.counted_binary.result (λ r h. (h, ap (all_noted c.args.faults.now) (binary-quiet op p q j.0 k.0 j.1 k.1))) (c.counted_binary.ensures l p q j.0 k.0 pa fp qb fq j.1 k.1 whole)

pub returns : goal.returns
returns c = λ l p q pa fp qb fq.
    let none : both (λ j k. k) p.size q.size ≡ None = both-none p.size q.size (elim c.match-a.branch [
      | in-Some+in-None-1 w ↦ inr (open-of q c.args.b qb (let e : c.args.b.count ≡ None = search rules in e))
      | in-None-1 w ↦ inl (open-of p c.args.a pa (let e : c.args.a.count ≡ None = search rules in e))
    ]) in
    ok-map c.open_binary.result (λ r h. (h.0, h.1 ∙ ap (all_noted c.args.faults.now) (binary-loud c.args.op p q none))) (c.open_binary.ensures l p q pa fp qb fq none)
