use Rattle.std.proofs.Common.{rules, arith, sym, subst, get_or, Ok, Some, true, false, ◌≡◌, ◌∙◌}
use Rattle.std.specs.HashSet as set
use Rattle.std.specs.Prelude.{IfOk}
use Rattle.std.proofs.lemmas.Option.{slice_get-get_or}
use Rattle.fifo_scheme.specs.contracts.found.FifoPairPartialEq.TheImpl as equality
use Rattle.fifo_scheme.specs.declared.found.FifoPair.{FifoPair}
use Rattle.fifo_scheme.specs.Candidates.{IsFirst}
use Rattle.fifo_scheme.proofs.Standing.{all_there, one_there}
use Rattle.fifo_scheme.proofs.finder.missing.Goals as goal
use Rattle.fifo_scheme.proofs.finder.missing.Goals.{in-Ok, in-Err}

abbrev nothing : FifoPair
nothing = record { wb = 0; rb = 0 }

never : {A : Type 0} → true ≡ false → A
never h = cc

pub returns-then-not-contains : goal.returns-then-not-contains
returns-then-not-contains c =
    let pairs = c.args.pairs.now in
    let n = c.loop-place.place in
    let p = get_or pairs n nothing in
    let absent : set.contains equality.ghosts.eq c.in_ok-there.there p ≡ false = sym c.contains.ensures ∙ c.if-not-contains.true in
    let first : IsFirst c.args.fifos.now pairs (Some n) = (p, slice_get-get_or pairs n nothing (omega arith), (λ h. never (sym ((c.in_ok-there.ensures p).1 h) ∙ absent)), c.loop-place.invariant) in
    elim c.match-try_from.branch [
      | in-Ok w ↦ (let e : c.match-try_from.result ≡ Ok (Some n) = search rules in subst (λ r. IfOk r (λ found. IsFirst c.args.fifos.now pairs found)) (sym e) first)
      | in-Err w ↦ search rules
    ]

pub loop-place-preserved : goal.loop-place-preserved
loop-place-preserved c =
    let pairs = c.args.pairs.now in
    let n = c.loop-place.place in
    let p = get_or pairs n nothing in
    let there : set.contains equality.ghosts.eq c.in_ok-there.there p ≡ true = sym c.contains.ensures ∙ c.if-not-contains.false in
    one_there c.args.fifos.now pairs n p (slice_get-get_or pairs n nothing (omega arith)) ((c.in_ok-there.ensures p).0 there) c.loop-place.invariant

pub returns : goal.returns
returns c = all_there c.args.fifos.now c.args.pairs.now c.loop-place.place (omega arith) c.loop-place.invariant
