use Rattle.std.proofs.Common.{◌≡◌, ◌+◌, ◌++◌, ◌∷◌, ◌<◌, ◌≤◌, [], Bor, List, length, map, take, drop, sym, subst, ap, ◌∙◌}
use Rattle.std.proofs.lemmas.List.{length-map, drop_all}
use Rattle.flat_meaning.specs.Flat.{Target}
use Rattle.flat_form.specs.declared.flat.FTarget.{FTarget}
use Rattle.flat_form.specs.View.{target_of}
use Rattle.flat_targets.specs.Parts.{width_among, IsPart, Holds, first_met}
use Rattle.flat_targets.proofs.Shared.{taken-more, left-more, all-at, holds-more, met-here, met-later}
use Rattle.flat_targets.proofs.parts.first_met.Goals as goal

pub returns-then-branch : goal.returns-then-branch
returns-then-branch c = λ n w all.
    let wid = width_among c.args.entries.now in
    let f = λ (p : Bor FTarget). target_of p.now in
    let ps = c.args.parts.now in
    let k = c.loop-place.place in
    let ts = map f ps in
    let x = c.index-parts-place.result in
    let v = c.loop-place.invariant n w all in
    let part = all-at IsPart f ps k x c.loop-place-test.true c.index-parts-place.is all in
    let met = c.in_ok-is_met.ensures n (take k ts) ts w part v.0 (c.in_ok-all.ensures all) in
    sym (v.1 ∙ met-here wid n k ts (f x) (subst (λ m. k < m) (sym (length-map ps f)) c.loop-place-test.true) (left-more f ps k x c.loop-place-test.true c.index-parts-place.is) (sym met ∙ c.if-branch.true))

pub loop-place-preserved : goal.loop-place-preserved
loop-place-preserved c = λ n w all.
    let wid = width_among c.args.entries.now in
    let f = λ (p : Bor FTarget). target_of p.now in
    let ps = c.args.parts.now in
    let k = c.loop-place.place in
    let ts = map f ps in
    let x = c.index-parts-place.result in
    let v = c.loop-place.invariant n w all in
    let part = all-at IsPart f ps k x c.loop-place-test.true c.index-parts-place.is all in
    let met = c.in_ok-is_met.ensures n (take k ts) ts w part v.0 (c.in_ok-all.ensures all) in
    let more = taken-more f ps k x c.loop-place-test.true c.index-parts-place.is in (
      subst (λ (ts : List Target). Holds wid ts c.add_part.new.assigned) (sym more) (holds-more wid (take k ts) (f x) c.loop-place.before c.add_part.new.assigned v.0 (c.in_ok-add_part.ensures part)),
      v.1 ∙ met-later wid n k ts (f x) (left-more f ps k x c.loop-place-test.true c.index-parts-place.is) more (sym met ∙ c.if-branch.false),
    )

pub returns : goal.returns
returns c = λ n w all.
    let f = λ (p : Bor FTarget). target_of p.now in
    let ps = c.args.parts.now in
    let k = c.loop-place.place in
    let ts = map f ps in
    let none : drop k ts ≡ [] = drop_all k ts (subst (λ m. m ≤ k) (sym (length-map ps f)) c.loop-place-test.false) in
    sym ((c.loop-place.invariant n w all).1 ∙ ap (first_met (width_among c.args.entries.now) n ts (take k ts)) none)
