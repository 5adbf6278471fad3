use Rattle.std.proofs.Common.{◌≡◌, ◌+◌, [], ◌∷◌, map, drop, sym, ap, subst, ◌∙◌}
use Rattle.std.specs.Prelude.{filter_map}
use Rattle.std.proofs.lemmas.List.{drop_more, drop_all}
use Rattle.verilog_ast.specs.declared.Conn.{Conn}
use Rattle.verilog_reading.specs.ExprTree.{tree_of}
use Rattle.verilog_reading.specs.SourceTree.{ConnTree, maybe, conn_of}
use Rattle.flat_unfolding.specs.Declarations.{header_of}
use Rattle.flat_unfolding.specs.Instances.{Joint, if_among, named_joint, linked}
use Rattle.flat_unfolding.specs.Formed.{IsFormedIf}
use Rattle.flat_design.specs.Visiting.{joint_if, AreLinked}
use Rattle.flat_design.proofs.Joints.{item-at, named-step, SoFar, so-far-more, so-far-all}
use Rattle.flat_design.proofs.instance.connect_named.Goals as goal

pub loop-conn-preserved : goal.loop-conn-preserved
loop-conn-preserved c = λ pins l m h resets is shown formed given.
    let ports = c.args.ports.now in
    let names = header_of m in
    let all = c.args.conns.now in
    let i = c.loop-conn.conn-index in
    let x = c.conn-item.result in
    let rest = drop (i + 1) all in
    let joints = λ (cs : _). filter_map (named_joint names) (map conn_of cs) in
    let next : drop i all ≡ x ∷ rest = drop_more all i x c.loop-conn-test.true ∙ ap (λ (z : Conn). z ∷ rest) (sym c.conn-item.is) in
    let before = c.loop-conn.invariant pins l m h resets is shown formed given in
    let value = item-at (λ (k : ConnTree). IsFormedIf k.value) conn_of all i x formed c.loop-conn-test.true c.conn-item.is in
    let one = c.in_ok-connect.ensures pins l m (if_among names x.name) before.done h resets is shown (c.port_named-port.ensures m shown) value before.holds in
    so-far-more (AreLinked pins l m ports) (λ (j : Joint). (linked l m j).broken) (joints all) (joints (drop i all)) (joint_if (if_among names x.name) (maybe tree_of x.value)) (joints rest) c.loop-conn.connected c.connect.new.connected
    c.args.faults.now c.loop-conn.faults c.connect.new.faults (ap joints next ∙ named-step names (conn_of x) (map conn_of rest)) before one.0 one.1

pub returns : goal.returns
returns c = λ pins l m h resets is shown formed given.
    let ports = c.args.ports.now in
    let all = c.args.conns.now in
    let i = c.loop-conn.conn-index in
    let joints = λ (cs : _). filter_map (named_joint (header_of m)) (map conn_of cs) in
    let broken = λ (j : Joint). (linked l m j).broken in
    let none : drop i all ≡ [] = drop_all i all c.loop-conn-test.false in
    so-far-all (AreLinked pins l m ports) broken (joints all) c.loop-conn.connected c.args.faults.now c.loop-conn.faults
    (subst (λ cs. SoFar (AreLinked pins l m ports) broken (joints all) (joints cs) c.loop-conn.connected c.args.faults.now c.loop-conn.faults) none (c.loop-conn.invariant pins l m h resets is shown formed given))
