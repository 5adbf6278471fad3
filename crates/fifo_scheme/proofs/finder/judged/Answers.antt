use Rattle.std.proofs.Common.{rules, ◌≡◌, ◌++◌, ◌∷◌, [], None, Some, subst, sym}
use Rattle.std.specs.List.Sorted.{IsStrictlySortedBy}
use Rattle.std.specs.Map.{keys_of}
use Rattle.std.proofs.lemmas.Map.Iter.{rest_more}
use Rattle.fifo_scheme.specs.contracts.finder.KeyOrd.TheImpl as order
use Rattle.fifo_scheme.specs.declared.finder.Key.{Key}
use Rattle.fifo_scheme.specs.declared.finder.Sides.{Sides}
use Rattle.fifo_scheme.specs.Candidates.{AreMade, IsJudgedAt, kept}
use Rattle.fifo_scheme.proofs.Made.{kept_turn, made_more, made_not, sorted_turn, turn}
use Rattle.fifo_scheme.proofs.finder.judged.Goals as goal
use Rattle.fifo_scheme.proofs.finder.judged.Goals.{In-Some}

rest : (c : In-Some) → c.loop-sides.sides-iterator ≡ (c.in-Some.field-0-0, c.in-Some.sides) ∷ c.next.new.self
rest c = rest_more (λ (x : Key × Sides). x) c.loop-sides.sides-iterator c.next.new.self c.next.result (c.in-Some.field-0-0, c.in-Some.sides) c.in-Some.is c.next.ensures.steps

is_kept : (c : In-Some) → kept c.args.candidates c.in-Some.field-0-0 ≡ Some c.in-Some.sides
is_kept c = kept_turn c.args.candidates c.loop-sides.yielded c.loop-sides.sides-iterator c.next.new.self (c.in-Some.field-0-0, c.in-Some.sides)
    c.into_iter-sides-iterator.ensures.into_iter_gives.5 c.loop-sides.invariant.0 (rest c)

are_sorted : (c : In-Some) → IsStrictlySortedBy order.ghosts.cmp (keys_of (c.loop-sides.yielded ++ (c.in-Some.field-0-0, c.in-Some.sides) ∷ c.next.new.self))
are_sorted c = sorted_turn c.args.candidates c.loop-sides.yielded c.loop-sides.sides-iterator c.next.new.self (c.in-Some.field-0-0, c.in-Some.sides)
    c.into_iter-sides-iterator.ensures.into_iter_gives.5 c.loop-sides.invariant.0 (rest c)

pub loop-sides-preserved-in-Continue-branch-3 : goal.loop-sides-preserved-in-Continue-branch-3
loop-sides-preserved-in-Continue-branch-3 c =
    let at = (goal.at.loop-sides-preserved-in-Continue-branch-3 c).In-Some in
    let net = c.args.shown.net.now in
    let domains = c.args.shown.domains.now in
    let sides = c.args.index.now.sides.items in
    let k = c.in-Some.field-0-0 in
    let p = c.in-Some.sides in
    let es = c.loop-sides.yielded in
    let more : c.push.new.self ≡ c.loop-sides.fifos ++ c.in-Some-2.fifo ∷ [] = search rules in (
      turn es c.loop-sides.sides-iterator c.next.new.self c.args.candidates.entries (k, p) c.loop-sides.invariant.0 (rest at),
      λ syncs grays given shown index kept.
          subst (AreMade net domains syncs grays sides (es ++ (k, p) ∷ [])) (sym more)
          (made_more net domains syncs grays sides es c.next.new.self k p (kept k p (is_kept at)) (are_sorted at) c.loop-sides.fifos (c.loop-sides.invariant.1 syncs grays given shown index kept)
          c.in-Some-2.fifo (subst (IsJudgedAt net domains syncs grays sides p) c.in-Some-2.is (c.in_ok-fifo.ensures syncs grays given shown index))),
    )

pub loop-sides-preserved : goal.loop-sides-preserved
loop-sides-preserved c =
    let at = (goal.at.loop-sides-preserved c).In-Some in
    let net = c.args.shown.net.now in
    let domains = c.args.shown.domains.now in
    let sides = c.args.index.now.sides.items in
    let k = c.in-Some.field-0-0 in
    let p = c.in-Some.sides in
    let es = c.loop-sides.yielded in
    let none : c.in_ok-fifo.field-0 ≡ None = search rules in (
      turn es c.loop-sides.sides-iterator c.next.new.self c.args.candidates.entries (k, p) c.loop-sides.invariant.0 (rest at),
      λ syncs grays given shown index kept.
          made_not net domains syncs grays sides es c.next.new.self k p (kept k p (is_kept at)) (are_sorted at) c.loop-sides.fifos (c.loop-sides.invariant.1 syncs grays given shown index kept)
          (subst (IsJudgedAt net domains syncs grays sides p) none (c.in_ok-fifo.ensures syncs grays given shown index)),
    )
