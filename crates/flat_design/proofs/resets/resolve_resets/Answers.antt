use Rattle.std.proofs.Common.{◌≡◌, ◌≤◌, ◌<◌, List, length, sym, subst, ◌∙◌, arith, rules}
use Rattle.flat_unfolding.specs.Names.{Entry}
use Rattle.flat_unfolding.specs.Design.{change_entry}
use Rattle.flat_unfolding.specs.Unfolding.{declared_reset}
use Rattle.flat_names.specs.Designs.{ShowsDesign}
use Rattle.flat_design.proofs.Changes.{next-change, no-change-left}
use Rattle.flat_design.proofs.DeclaredResets.{entries-counted}
use Rattle.flat_design.proofs.resets.resolve_resets.Goals as goal

pub loop-sig-preserved : goal.loop-sig-preserved
loop-sig-preserved c = λ pins s shows h.
    let i = c.loop-sig.sig in let f = declared_reset s.design.pins in
    let so_far = c.loop-sig.invariant pins s shows h in
    let inside : i < length s.design.entries = let t = c.loop-sig-test.true in let m : c.len-sig-end.result ≡ length c.args.design.now.entries.items = search rules in let n = m ∙ entries-counted pins c.args.design.now s.design h in omega (arith, t, n) in
    (change_entry f i so_far.0, next-change f (length s.design.entries) i so_far.0 inside ∙ so_far.1, c.resolve_reset.ensures pins (record s.design { entries = so_far.0 }) shows so_far.2)

pub returns : goal.returns
returns c = λ pins s shows h.
    let i = c.loop-sig.sig in let f = declared_reset s.design.pins in
    let so_far = c.loop-sig.invariant pins s shows h in
    let past : length s.design.entries ≤ i = let t = c.loop-sig-test.false in let m : c.len-sig-end.result ≡ length c.args.design.now.entries.items = search rules in let n = m ∙ entries-counted pins c.args.design.now s.design h in omega (arith, t, n) in
    subst (λ (es : List Entry). ShowsDesign pins c.loop-sig.design (record s.design { entries = es })) (sym (no-change-left f (length s.design.entries) i so_far.0 past) ∙ so_far.1) so_far.2
