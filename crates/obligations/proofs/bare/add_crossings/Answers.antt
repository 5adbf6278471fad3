-- The finding of one crossing more, where it has the number.
use Rattle.std.proofs.Common.{◌≡◌, ◌∙◌, sym, ap, subst, get_or, length}
use Rattle.std.proofs.lemmas.Option.{slice_get-get_or}
use Rattle.cdc_model.proofs.Justify.{slice_in}
use Rattle.obligations.specs.declared.bare.Lack.TheVariants.{Flops}
use Rattle.obligations.specs.declared.bare.Uncovered.{Uncovered}
use Rattle.obligations.specs.Bare.{finding_at}
use Rattle.obligations.specs.Findings.{HavePaths, number_of}
use Rattle.obligations.proofs.Numbered.{none_added, one_added}
use Rattle.obligations.proofs.Walked.{one_more, walks_on}
use Rattle.obligations.proofs.bare.add_crossings.Goals as goal
use Rattle.obligations.proofs.bare.add_crossings.Goals.{then-number_of-number+in_ok-finding_of+in_ok-push, else-number_of-number}

abbrev none : Uncovered
none = record { crossing = record { from = record { sig = 0; at = 0 }; to = record { sig = 0; at = 0 } }; lack = Flops }

pub loop-uncovered-preserved : goal.loop-uncovered-preserved
loop-uncovered-preserved c =
    let net = c.args.found.now.net.now in
    let us = c.args.uncovered.now in
    let i = c.loop-uncovered.uncovered-index in
    let u = get_or us i none in
    let before = c.loop-uncovered.invariant in
    let number : number_of (finding_at u) ≡ c.number_of.result = sym (c.number_of.ensures u.crossing) in
    elim c.if-number_of-number.branch [
      | then-number_of-number+in_ok-finding_of+in_ok-push w ↦
          let added = w.findings-is ∙ w.in_ok-push.ensures.pushed in (
            one_added c.args.number us c.args.findings.now c.loop-uncovered.findings i none c.loop-uncovered-test.true before.0 c.if-number_of-number.findings w.in_ok-finding_of.field-0
                (number ∙ w.if-number_of-number.true) w.in_ok-finding_of.ensures.finding added,
            ap length w.paths-is ∙ w.finding_of.ensures.kept ∙ before.1,
            λ walk each had. one_more net c.loop-uncovered.findings c.if-number_of-number.findings w.in_ok-finding_of.field-0 added (before.2 walk each had)
                (w.in_ok-finding_of.ensures.path (walks_on net c.args.plain.now c.args.paths.now c.loop-uncovered.paths before.1 walk) (each u (slice_in us i u (slice_get-get_or us i none c.loop-uncovered-test.true)))),
          )
      | else-number_of-number w ↦ (
        none_added c.args.number us c.args.findings.now c.loop-uncovered.findings i none c.loop-uncovered-test.true before.0 c.if-number_of-number.findings
            (λ e. w.if-number_of-number.false (sym number ∙ e)) w.findings-is,
        ap length w.paths-is ∙ before.1,
        λ walk each had. subst (HavePaths net) (sym w.findings-is) (before.2 walk each had),
      )
    ]
