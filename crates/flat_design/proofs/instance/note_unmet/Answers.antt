use Rattle.std.proofs.Common.{◌≡◌, ◌+◌, not, ◌||◌, [], ◌∷◌, map, drop, sym, ap, ◌∙◌}
use Rattle.std.proofs.lemmas.List.{drop_more, drop_all}
use Rattle.cdc_base.specs.Words.{is_in}
use Rattle.verilog_ast.specs.declared.Conn.{Conn}
use Rattle.verilog_reading.specs.SourceTree.{conn_of}
use Rattle.flat_unfolding.specs.Outcome.{breaks_if}
use Rattle.flat_unfolding.specs.Instances.{unmet}
use Rattle.flat_names.specs.Noting.{all_noted}
use Rattle.flat_declarations.specs.Declaring.{ShowsHeader}
use Rattle.flat_design.proofs.Joints.{met-step}
use Rattle.flat_design.proofs.instance.note_unmet.Goals as goal

pub loop-conn-preserved : goal.loop-conn-preserved
loop-conn-preserved c = λ names h.
    let word = c.args.word.now in
    let all = c.args.conns.now in
    let i = c.loop-conn.conn-index in
    let x = c.conn-item.result in
    let rest = drop (i + 1) all in
    let next : drop i all ≡ x ∷ rest = drop_more all i x c.loop-conn-test.true ∙ ap (λ (z : Conn). z ∷ rest) (sym c.conn-item.is) in
    let met = c.loop-conn.invariant names h in
    let told = c.in_ok-note_name.ensures met.before met.has in
    met-step ShowsHeader word names (map conn_of all) (map conn_of (drop i all)) (map conn_of rest) (conn_of x) c.loop-conn.seen c.note_name.new.seen c.args.faults.now c.loop-conn.faults c.note_name.new.faults
    (ap (map conn_of) next) met told.0 (told.1 ∙ ap (λ b. all_noted c.loop-conn.faults (breaks_if (is_in met.before x.name || not b) 306 word)) (c.contains-is_known.ensures ∙ h x.name))

pub returns : goal.returns
returns c = λ names h.
    let all = c.args.conns.now in
    let i = c.loop-conn.conn-index in
    let none : drop i all ≡ [] = drop_all i all c.loop-conn-test.false in
    let met = c.loop-conn.invariant names h in
    ap (λ cs. all_noted c.loop-conn.faults (unmet c.args.word.now names met.before (map conn_of cs))) (sym none) ∙ met.notes
