use Rattle.std.proofs.Common.{◌≡◌, ◌+◌, ◌-◌, ◌/◌, ◌^◌, ◌≤◌, [], ◌∷◌, ◌++◌, length, map, drop, sym, ap, subst, ◌∙◌, arith}
use Rattle.std.proofs.lemmas.List.{drop_more, drop_all}
use Rattle.flat_meaning.specs.Flat.{Whole, target_size}
use Rattle.flat_form.specs.declared.flat.FTarget.{FTarget}
use Rattle.flat_form.specs.View.{target_of, targets_of}
use Rattle.flat_form.proofs.Folds.{target_of-Whole}
use Rattle.flat_unfolding.specs.Names.{width_at}
use Rattle.flat_names.proofs.Looked.{width-is}
use Rattle.flat_names.proofs.Options.{ok-map}
use Rattle.flat_process.specs.Resets.{IsPlain, bits_given, AreGiven, Gives}
use Rattle.flat_process.proofs.Given.{gives-whole, GivesSoFar, so-next, so-all}
use Rattle.flat_process.proofs.reset.+give.Goals as goal

pub give-returns-in-Whole : goal.give-returns-in-Whole
give-returns-in-Whole t c = λ l us shows plain fits small given.
    let a = c.args in
    let s = c.in-Whole.sig in
    let n = length l.entries in
    let tree : target_of a.target.now ≡ Whole s = ap target_of c.in-Whole.is ∙ target_of-Whole s in
    let declared = subst (IsPlain n) tree plain in
    let width = c.width.ensures ∙ width-is a.look.now l shows s declared in
    ok-map c.give_bits.result
    (λ r h. let k = subst (λ w. (r + w ≡ a.top) × AreGiven n (us ++ bits_given s 0 w (a.word / 2 ^ (a.top - w)) ∷ []) c.give_bits.new.given.items) width h in
    subst (λ v. Gives l us v a.word a.top r c.give_bits.new.given.items) (sym tree) (gives-whole l us a.word a.top r c.give_bits.new.given.items s k.0 k.1))
    (c.give_bits.ensures n us declared (subst (λ w. w ≤ a.top) (sym width) (subst (λ v. target_size (width_at l.entries) v ≤ a.top) tree fits)) small given)

pub give_all-loop-target-preserved : goal.give_all-loop-target-preserved
give_all-loop-target-preserved t c = λ l us shows plain fits small given.
    let all = c.args.targets.now in
    let i = c.loop-target.target-index in
    let x = c.target-item.result in
    let rest = drop (i + 1) all in
    let ts = targets_of (map target_of all) in
    let later = targets_of (map target_of rest) in
    let now = c.loop-target.given.items in
    let next : drop i all ≡ x ∷ rest = drop_more all i x c.loop-target-test.true ∙ ap (λ (z : FTarget). z ∷ rest) (sym c.target-item.is) in
    let s = subst (λ vs. GivesSoFar l us ts (targets_of (map target_of vs)) c.args.word c.args.top c.loop-target.left now) next (c.loop-target.invariant l us shows plain fits small given) in
    let room = s.fits in
    let one : target_size (width_at l.entries) (target_of x) ≤ c.loop-target.left = omega arith in
    so-next l us ts c.args.word c.args.top (target_of x) later c.loop-target.left c.in_ok-left.left now c.give.new.given.items s (c.in_ok-left.ensures l s.so_far shows s.plain.0 one s.small s.are)

pub give_all-returns : goal.give_all-returns
give_all-returns t c = λ l us shows plain fits small given.
    let all = c.args.targets.now in
    let ts = targets_of (map target_of all) in
    so-all l us ts c.args.word c.args.top c.loop-target.left c.loop-target.given.items
    (subst (λ vs. GivesSoFar l us ts (targets_of (map target_of vs)) c.args.word c.args.top c.loop-target.left c.loop-target.given.items) (drop_all c.loop-target.target-index all c.loop-target-test.false)
    (c.loop-target.invariant l us shows plain fits small given))
