-- One guard more, and in the end all that are asked for.
use Rattle.std.proofs.Common.{◌≡◌, ◌∙◌, ◌++◌, [], ◌∷◌, ◌+◌, refl, sym, ap, subst, arith, true, false, not, List, get_or, take, Bool, Contains, rules}
use Rattle.std.proofs.lemmas.List.{take_all}
use Rattle.std.proofs.lemmas.List.Elements.{Contains-get_or}
use Rattle.std.specs.HashSet as set
use Rattle.std.specs.Result.{is_ok}
use Rattle.fifo_ways.specs.declared.sought.Guard.{Guard}
use Rattle.fifo_ways.specs.Marked.{same_guard}
use Rattle.fifo_scheme.proofs.Items.{when_ok}
use Rattle.fifo_scheme.proofs.MetTests.{AreTestsSoFar, met_before, no_test, one_test}
use Rattle.fifo_scheme.proofs.judge.tests_of.Goals as goal
use Rattle.fifo_scheme.proofs.judge.tests_of.Goals.{then-is_new+in_ok-has_test+then-branch+in_ok-push, else-is_new, else-is_new-via-then-is_new+in_ok-has_test+else-branch, else-is_new-via-else-is_new}

abbrev none : Guard
none = record { node = record { cell = record { 0 = 0 }; at = 0 }; value = false }

turned : (b : Bool) → not b ≡ false → b ≡ true
turned true e = refl
turned false e = cc

pub loop-guard-preserved : goal.loop-guard-preserved
loop-guard-preserved c = λ shown write read pair nodes.
    let net = c.args.shown.net.now in
    let domains = c.args.shown.domains.now in
    let qs = c.as_slice-guard-items.result.now in
    let k = c.loop-guard.guard-index in
    let so_far = c.loop-guard.invariant shown write read pair nodes in
    let ok = sym c.map_err.ensures.variant ∙ ap is_ok c.in_ok-is_new.was in
    let grown = λ (p : Guard). (when_ok c.insert.result ok c.insert.ensures.updates).0 p in
    let is = c.in_ok-asked.ensures.nodes shown.is_net.graph nodes (get_or qs k none) (subst (λ (l : List Guard). Contains l (get_or qs k none)) c.as_slice-guard-items.ensures (Contains-get_or qs k none c.loop-guard-test.true)) in
    elim c.if-is_new.branch [
      | then-is_new+in_ok-has_test+then-branch+in_ok-push w ↦
          let pushed : w.push.new.self ≡ c.loop-guard.tests ++ get_or qs k none ∷ [] = search rules in
          subst (AreTestsSoFar net domains write read (take (k + 1) qs) c.insert.new.self) (sym (w.tests-is ∙ pushed))
          (one_test net domains write read qs k none c.loop-guard-test.true c.loop-guard.met c.insert.new.self c.loop-guard.tests so_far grown ((w.in_ok-has_test.ensures shown write read pair is).0 w.if-branch.true))
      | else-is_new w ↦ subst (AreTestsSoFar net domains write read (take (k + 1) qs) c.insert.new.self) (sym w.tests-is) (elim w.else-is_new.branch [
        | else-is_new-via-then-is_new+in_ok-has_test+else-branch v ↦
            no_test net domains write read qs k none c.loop-guard-test.true c.loop-guard.met c.insert.new.self c.loop-guard.tests so_far grown
            (λ has. let yes = (v.in_ok-has_test.ensures shown write read pair is).1 has in let e : true ≡ false = sym yes ∙ v.if-branch.false in cc)
        | else-is_new-via-else-is_new v ↦
            let added : c.in_ok-is_new.is_new ≡ not (set.contains same_guard c.loop-guard.met (get_or qs k none)) = search rules in
            let old : set.contains same_guard c.loop-guard.met (get_or qs k none) ≡ true = turned (set.contains same_guard c.loop-guard.met (get_or qs k none)) (sym added ∙ v.if-is_new.false) in
            met_before net domains write read qs k none c.loop-guard-test.true c.loop-guard.met c.insert.new.self c.loop-guard.tests so_far grown old
      ])
    ]

pub returns : goal.returns
returns c = λ shown write read pair nodes p asked.
    let qs = c.as_slice-guard-items.result.now in
    let so_far = c.loop-guard.invariant shown write read pair nodes in
    let there = c.in_ok-asked.ensures.all shown.is_net.graph nodes p asked in
    let in_all = subst (λ (l : List Guard). Contains l p) (sym (take_all c.loop-guard.guard-index qs (let l = c.loop-guard-test.false in omega arith) ∙ c.as_slice-guard-items.ensures)) there in
    (so_far.only p, λ has. so_far.all p (so_far.there p in_all) has)
