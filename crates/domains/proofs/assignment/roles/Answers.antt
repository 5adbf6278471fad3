use Rattle.std.proofs.Common.{◌≡◌, ◌∙◌, ap, List, Bor, Option}
use Rattle.clock_constraints.specs.Refusals.{Text}
use Rattle.domains.specs.declared.port.Port.{Port}
use Rattle.domains.specs.declared.port.Role.{Role}
use Rattle.domains.specs.Tables.{found_in, named, pairs_of}
use Rattle.domains.specs.Ports.{signal_ports, roles, signal_roles}
use Rattle.domains.specs.Assignment.{broken_port}
use Rattle.domains.proofs.PortNumbers.{gives-numbered, port_roles-listed}
use Rattle.domains.proofs.PortNames.{same-ports, same-roles, gives-same}
use Rattle.domains.proofs.assignment.roles.Goals as goal

pub returns-clause-given : goal.returns-clause-given
returns-clause-given c =
    let all = roles c.args.constraints.now in
    let ports = named (signal_ports c.args.signals.now) in
    let found : Text → Option Port = λ q. found_in c.in_ok-ports.ports q in
    let same : (q : Text) → found q ≡ ports q = λ q.
    c.in_ok-ports.ensures q ∙ ap (λ (ps : List (Bor Text × Port)). named (pairs_of ps) q) c.as_slice.ensures.value
    ∙ ap (λ (ps : List (Text × Port)). named ps q) c.in_ok-pairs.ensures in
    let declared : Text → Option Role = λ q. found_in c.in_ok-declared.declared q in
    let known : (q : Text) → declared q ≡ named all q = λ q.
    c.in_ok-declared.ensures q ∙ ap (λ (ps : List (Bor Text × Role)). named (pairs_of ps) q) c.as_slice-2.ensures.value
    ∙ ap (λ (ps : List (Text × Role)). named ps q) c.in_ok-roles.ensures in
    let pairs = pairs_of c.as_slice-3.result.now in
    let listed : pairs ≡ all = ap (λ (ps : List (Bor Text × Role)). pairs_of ps) c.as_slice-3.ensures.value ∙ c.in_ok-roles.ensures in
    gives-same c.checked_roles.result (broken_port found pairs c.args.constraints.now) (broken_port ports all c.args.constraints.now)
    (signal_roles declared c.args.signals.now) (signal_roles (named all) c.args.signals.now)
    (same-ports found ports pairs all c.args.constraints.now same listed)
    (same-roles declared (named all) c.args.signals.now known) c.checked_roles.ensures

pub returns-clause-numbered : goal.returns-clause-numbered
returns-clause-numbered c = gives-numbered _ _ (returns-clause-given c) (port_roles-listed c.args.signals.now c.args.constraints.now)
