use Rattle.std.proofs.Common.{◌≡◌, max, Some, None, inl, inr, sym, ap, ap₂, ◌∙◌, rules}
use Rattle.flat_form.specs.Whole.{choice_whole}
use Rattle.flat_unfolding.specs.Constants.{both}
use Rattle.flat_names.specs.Noting.{all_noted}
use Rattle.flat_names.proofs.Options.{ok-map}
use Rattle.flat_names.proofs.Terms.{counted-of, open-of}
use Rattle.flat_names.proofs.Counted.{all-none, choice-quiet, choice-loud}
use Rattle.flat_names.proofs.resolved.choose.Goals as goal
use Rattle.flat_names.proofs.resolved.choose.Goals.{in-Some+in-Some-yes+in-None-1, in-Some+in-None-1, in-None-1}

pub returns-in-Some-Some-Some : goal.returns-in-Some-Some-Some
returns-in-Some-Some-Some c = λ l p q o pa fp qb fq oc fo.
    let n = c.in-Some-Some-Some in
    let test : c.args.cond.count ≡ Some n.test = search rules in
    let first : c.args.yes.count ≡ Some n.first = search rules in
    let second : c.args.other.count ≡ Some n.second = search rules in
    let i = counted-of p c.args.cond n.test pa test in
    let j = counted-of q c.args.yes n.first qb first in
    let k = counted-of o c.args.other n.second oc second in
    let size : c.max-width.result ≡ max j.0 k.0 = c.max-width.ensures ∙ ap₂ max (c.width.ensures ∙ qb.width j.0 j.1) (c.width-in-Some-Some-Some.ensures ∙ oc.width k.0 k.1) in
    let whole : c.whole_choice-whole.result ≡ choice_whole (max j.0 k.0) p.whole q.whole o.whole = c.whole_choice-whole.ensures ∙ ap (λ w. choice_whole w n.test.whole n.first.whole n.second.whole) size
    ∙ ap (λ x. choice_whole (max j.0 k.0) x n.first.whole n.second.whole) (sym i.2) ∙ ap₂ (choice_whole (max j.0 k.0) p.whole) (sym j.2) (sym k.2) in
    ok-map c.counted_choice.result (λ r h. (h, ap (all_noted c.args.faults.now) (choice-quiet p q o i.0 j.0 k.0 i.1 j.1 k.1))) (c.counted_choice.ensures l p q o i.0 j.0 k.0 pa fp qb fq oc fo i.1 j.1 k.1 whole)

pub returns : goal.returns
returns c = λ l p q o pa fp qb fq oc fo.
    let none : both (λ i k. k) p.size (both (λ j k. k) q.size o.size) ≡ None = all-none p.size q.size o.size (elim c.match-cond.branch [
      | in-Some+in-Some-yes+in-None-1 w ↦ inr (inr (open-of o c.args.other oc (let e : c.args.other.count ≡ None = search rules in e)))
      | in-Some+in-None-1 w ↦ inr (inl (open-of q c.args.yes qb (let e : c.args.yes.count ≡ None = search rules in e)))
      | in-None-1 w ↦ inl (open-of p c.args.cond pa (let e : c.args.cond.count ≡ None = search rules in e))
    ]) in
    ok-map c.open_choice.result (λ r h. (h.0, h.1 ∙ ap (all_noted c.args.faults.now) (choice-loud p q o none))) (c.open_choice.ensures l p q o pa fp qb fq oc fo none)
