use Rattle.std.proofs.Common.{◌≡◌, ℕ, ◌<◌, ◌||◌, false, refl, sym, subst, ap, ◌∙◌}
use Rattle.flat_meaning.specs.Flat.{Target}
use Rattle.flat_meaning.specs.Law.{expr_reads}
use Rattle.flat_form.specs.declared.flat.FTarget.TheVariants as f
use Rattle.flat_form.specs.View.{expr_of, target_of}
use Rattle.flat_form.specs.Masks.{bits_in}
use Rattle.flat_form.specs.Uses.{target_reads}
use Rattle.flat_form.proofs.Folds.{target_of-Whole, target_of-At, target_of-Part, target_of-Join}
use Rattle.flat_targets.specs.Parts.{width_among, is_pick}
use Rattle.flat_targets.proofs.Shared.{reads-word, reads-nothing, none-reads}
use Rattle.flat_targets.proofs.parts.reads_assigned.Goals as goal

pub returns-in_ok-add_reads-in-At : goal.returns-in_ok-add_reads-in-At
returns-in_ok-add_reads-in-At c = λ n all w part holds.
    let wid = width_among c.args.entries.now in
    let x = c.in-At in
    let r = c.add_reads.new.reads in
    let e = ap target_of x.is ∙ target_of-At x.sig x.index in
    let reads : (s i : ℕ) → i < 64 → bits_in r s i ≡ target_reads wid (target_of c.args.part.now) s i =
    λ s i l. c.in_ok-add_reads-in-At.ensures s i l ∙ ap (λ b. b || expr_reads wid (expr_of x.index) s i) (c.new-reads.ensures.none s i) ∙ ap (λ (t : Target). target_reads wid t s i) (sym e) in
    c.are_read.ensures n w ∙ reads-word wid n (target_of c.args.part.now) w all c.args.assigned.now r holds reads

pub returns-in-Whole : goal.returns-in-Whole
returns-in-Whole c = λ n all w part holds. let wid = width_among c.args.entries.now in let x = c.in-Whole in
    reads-nothing wid n (target_of c.args.part.now) all (none-reads wid (target_of c.args.part.now) part (ap (λ z. is_pick (target_of z)) x.is ∙ ap is_pick (target_of-Whole x.sig)))

pub returns-in-Part : goal.returns-in-Part
returns-in-Part c = λ n all w part holds. let wid = width_among c.args.entries.now in let x = c.in-Part in
    reads-nothing wid n (target_of c.args.part.now) all (none-reads wid (target_of c.args.part.now) part (ap (λ z. is_pick (target_of z)) x.is ∙ ap is_pick (target_of-Part x.sig x.at x.width)))

pub returns-in-Join : goal.returns-in-Join
returns-in-Join c = λ n all w part holds. let wid = width_among c.args.entries.now in let x = c.in-Join in
    reads-nothing wid n (target_of c.args.part.now) all (none-reads wid (target_of c.args.part.now) part (ap (λ z. is_pick (target_of z)) x.is ∙ ap is_pick (target_of-Join x.field-0)))
