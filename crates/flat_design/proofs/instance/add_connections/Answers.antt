use Rattle.std.proofs.Common.{◌≡◌, ◌∷◌, [], length, rules, arith}
use Rattle.std.proofs.lemmas.List.{nil_from_length}
use Rattle.flat_design.proofs.Wired.{wired-step, wired-all}
use Rattle.flat_design.proofs.instance.add_connections.Goals as goal

pub loop-connection-preserved : goal.loop-connection-preserved
loop-connection-preserved c = λ pins names e links h shown fit are.
    let left = c.loop-connection.connection-iterator.rest.items in
    let x = c.in-Some.connection in
    let rest = c.next.new.self.rest.items in
    let split : left ≡ x ∷ rest = search rules in
    wired-step pins names c.args.ports.now e links x rest left c.loop-connection.design c.connect_port.new.design split (c.loop-connection.invariant pins names e links h shown fit are)
    (λ o link s f is. c.in_ok-connect_port.ensures pins names o link h s f is)

pub returns : goal.returns
returns c = λ pins names e links h shown fit are.
    let left = c.loop-connection.connection-iterator.rest.items in
    let over = c.in-None.ensures.steps.0 in
    let long = c.loop-connection.connection-iterator.rest.ok in
    let empty : length left ≡ 0 = omega arith in
    let none : left ≡ [] = nil_from_length left empty in
    wired-all pins names c.args.ports.now e links left c.loop-connection.design none (c.loop-connection.invariant pins names e links h shown fit are)
