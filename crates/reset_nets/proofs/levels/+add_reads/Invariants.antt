use Rattle.std.proofs.Common.{◌≡◌, map, drop}
use Rattle.driver_loops.specs.Links.{extended}
use Rattle.flat_form.specs.View.{expr_of, exprs_of}
use Rattle.reset_nets.specs.Nets.{all_reads_of}
use Rattle.reset_nets.proofs.levels.+add_reads.Given as goal

abbrev pub invariant-add_all_reads-loop-expr : goal.invariant-add_all_reads-loop-expr
invariant-add_all_reads-loop-expr l =
    extended l.links (all_reads_of (exprs_of (map expr_of (drop l.expr-index l.exprs)))) ≡ extended l.initial.links (all_reads_of (exprs_of (map expr_of l.exprs)))
