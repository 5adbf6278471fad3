use Rattle.std.proofs.Common.{map, sym, ap, ◌∙◌}
use Rattle.std.proofs.lemmas.List.{drop_all}
use Rattle.flat_form.specs.View.{expr_of, exprs_of}
use Rattle.flat_form.specs.Sizes.{kept_of}
use Rattle.reset_nets.specs.Finding.{known_in, levels_at}
use Rattle.reset_nets.proofs.Reading.{all_done, read_kept, small_bit}
use Rattle.reset_nets.proofs.levels.+at_levels.Goals as goal

pub at_levels-returns-after-at-eq0-clause-kept : goal.at_levels-returns-after-at-eq0-clause-kept
at_levels-returns-after-at-eq0-clause-kept t c =
    read_kept c.in-Read.sig c.in-Read.at c.from.result c.in-Read.width (small_bit c.if-at-eq0.from c.from.result c.from.ensures) ∙ sym (ap kept_of c.in-Read.is)

pub all_at_levels-returns-clause-levels : goal.all_at_levels-returns-clause-levels
all_at_levels-returns-clause-levels t c =
    ap (λ es. exprs_of (map expr_of es)) c.from_vec.ensures
    ∙ all_done (levels_at c.args.active (known_in c.args.levels.now)) c.loop-expr.all.items _ c.args.exprs.now
    (drop_all c.loop-expr.expr-index c.args.exprs.now c.loop-expr-test.false) c.loop-expr.invariant.levels
