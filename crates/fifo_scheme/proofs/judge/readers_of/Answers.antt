-- Those whose ways pass, by the words, the reads and the tests.
use Rattle.std.proofs.Common.{◌≡◌, ◌∙◌, refl, sym, ap, subst, false, List}
use Rattle.cofactor.proofs.Places.{if_ok}
use Rattle.cell_graph.specs.declared.cell.Node.{Node}
use Rattle.cell_graph.specs.Unfolded.{tree_of}
use Rattle.cdc_model.specs.Nets.{design_of, next_tree}
use Rattle.cdc_model.proofs.Found.{net_ascends}
use Rattle.fifo_laws.specs.Fifos.{marks_of}
use Rattle.fifo_laws.specs.Ways.{Passes}
use Rattle.fifo_ways.specs.declared.sought.Guard.{Guard}
use Rattle.fifo_ways.specs.Sought.{AreJudged, AreNodes, ShowsMarks}
use Rattle.fifo_scheme.specs.Met.{AreReadersAt, bits_at, kept_by, roots_at}
use Rattle.fifo_scheme.proofs.MetPlaces.{roots_are}
use Rattle.fifo_scheme.proofs.MetReaders.{bit_registers, readers_are, shows_sought, tests_over}
use Rattle.fifo_scheme.proofs.judge.readers_of.Goals as goal

pub returns : goal.returns
returns c = if_ok c.kept.result
    (λ kept are syncs grays write read met words reads candidates.
    let net = c.args.shown.net.now in
    let domains = c.args.shown.domains.now in
    let table = c.args.shown.table.now in
    let i = c.args.index.now in
    let pair = c.args.pair.now in
    let ns = c.args.candidates.now in
    let all = roots_at net (bits_at i.readings ns) in
    let roots : c.in_ok-roots.roots ≡ roots_at net (bits_at i.readings ns) = c.in_ok-roots.ensures (net_ascends net met.shown.is_net) ∙ ap (roots_at net) (c.as_slice.ensures ∙ c.in_ok-bits.ensures) in
    let nodes = roots_are net met.shown.has_next (bits_at i.readings ns) (bit_registers net domains table syncs grays i pair write read met c.args.words words c.args.reads.now reads ns candidates) in
    let second : c.as_slice-2.result.now ≡ roots_at net (bits_at i.readings ns) = c.as_slice-2.ensures ∙ roots in
    let third : c.as_slice-3.result.now ≡ roots_at net (bits_at i.readings ns) = c.as_slice-3.ensures ∙ roots in
    let tests = λ (q : Guard). c.in_ok-sought.ensures.tests met.shown write read met.pair (subst (AreNodes net.graph) (sym second) nodes) q in
    let marks = shows_sought net domains table syncs grays i pair write read met c.args.words words c.args.reads.now reads ns candidates all c.in_ok-sought.sought c.in_ok-sought.ensures.words c.in_ok-sought.ensures.reads
    (tests_over net domains write read c.in_ok-sought.sought.tests c.args.words c.args.words c.as_slice-2.result.now all refl second tests) in
    let judged = c.in_ok-answers.ensures.exact (design_of net domains) (next_tree net) write read met.shown.is_net.graph (subst (AreNodes net.graph) (sym third) nodes)
    (subst (λ (rs : List Node). ShowsMarks net.graph rs c.in_ok-sought.sought (marks_of (design_of net domains) (next_tree net) write read)) (sym third) marks) in
    let ends = subst (λ (rs : List Node). AreJudged (λ (n : Node). Passes (marks_of (design_of net domains) (next_tree net) write read) false (tree_of net.graph n.cell) n.at) rs c.in_ok-answers.answers) third judged in
    subst (AreReadersAt net domains i write read) (sym (are ∙ ap (kept_by ns) c.as_slice-4.ensures))
    (readers_are net domains table syncs grays i pair write read met c.args.words words c.args.reads.now reads ns candidates c.in_ok-answers.answers ends))
    c.kept.ensures
