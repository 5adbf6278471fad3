-- Those to which ways of the readers lead, by their words.
use Rattle.std.proofs.Common.{◌≡◌, ◌∙◌, ◌↔◌, sym, ap, subst, ℕ, List, Contains, map, Some}
use Rattle.cell_graph.specs.declared.cell.Node.{Node}
use Rattle.cell_graph.specs.Tree.{Tree}
use Rattle.cell_graph.specs.Unfolded.{bit_of, tree_of}
use Rattle.cdc_model.proofs.Found.{net_ascends}
use Rattle.fifo_laws.specs.Ways.{Leads}
use Rattle.fifo_ways.specs.Sought.{AreNodes}
use Rattle.fifo_scheme.specs.declared.found.Column.{Column}
use Rattle.fifo_scheme.specs.Met.{bits_at, column_at, entry_column, HaveOneValue, roots_at}
use Rattle.fifo_scheme.proofs.Items.{both_ok}
use Rattle.fifo_scheme.proofs.MetColumns.{columns_are, have_one_value, roots_nodes}
use Rattle.fifo_scheme.proofs.MetSides.{plain_shown}
use Rattle.fifo_scheme.proofs.judge.columns_of.Goals as goal

pub returns : goal.returns
returns c = both_ok c.listed.result
    (λ columns same up pair syncs grays write read met reads readers.
    let net = c.args.shown.net.now in
    let domains = c.args.shown.domains.now in
    let table = c.args.shown.table.now in
    let i = c.args.index.now in
    let found = c.args.reads.now in
    let places = c.args.readers.now in
    let roots : c.as_slice-3.result.now ≡ roots_at net (bits_at i.readings places) = c.as_slice-3.ensures ∙ c.in_ok-roots.ensures (net_ascends net met.shown.is_net) ∙ ap (roots_at net) (c.as_slice.ensures ∙ c.in_ok-bits.ensures) in
    let nodes : c.as_slice-2.result.now ≡ found.nodes = c.as_slice-2.ensures in
    let rooted = roots_nodes net domains table syncs grays i pair write read met found reads places readers in
    let led = c.in_ok-passed.ensures.exact (plain_shown net table met.shown) (subst (AreNodes net.graph) (sym nodes) reads.nodes) (subst (AreNodes net.graph) (sym roots) rooted) in
    let passed = c.in_ok-passed.passed in
    let exact = subst (λ (rs : List Node). (n : Node) → Contains passed n ↔ (Contains found.nodes n × ((root : Node) × Contains rs root × Leads (λ (t : Tree) (j : ℕ). bit_of net.graph n ≡ (t, j)) (tree_of net.graph root.cell) root.at))) roots
    (subst (λ (ms : List Node). (n : Node) → Contains passed n ↔ (Contains ms n × ((root : Node) × Contains c.as_slice-3.result.now root × Leads (λ (t : Tree) (j : ℕ). bit_of net.graph n ≡ (t, j)) (tree_of net.graph root.cell) root.at))) nodes led) in
    let given = c.as_slice-4.ensures in
    let one = have_one_value net domains table syncs grays i pair write read met found reads passed (λ n h. ((exact n).0 h).0) in
    let values = c.in_ok-values.ensures (subst (HaveOneValue i found) (sym given) one) in
    columns_are net domains table syncs grays i pair write read met found reads places readers passed columns exact
    (subst (λ (cs : List Column). (e : Column) → Contains cs e ↔ ((n : Node) × Contains passed n × (column_at i found n ≡ Some e))) (sym same)
    (subst (λ (ms : List Node). (e : Column) → Contains (map entry_column c.in_ok-values.values.entries) e ↔ ((n : Node) × Contains ms n × (column_at i found n ≡ Some e))) given values)) up)
    c.listed.ensures.same c.listed.ensures.ordered
