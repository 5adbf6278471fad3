-- By the first rings.
use Rattle.std.proofs.Common.{Some, None}
use Rattle.cdc_model.proofs.Justify.{slice_in}
use Rattle.obligations.proofs.Lacks.{first_blind, first_held, lacks_gate, lacks_hold, lacks_scheme}
use Rattle.obligations.proofs.bare.lack_of.Goals as goal

pub returns-in-Some : goal.returns-in-Some
returns-in-Some c = λ grays rings is_extra are at is.
    let found = c.args.found.now in
    let k = c.args.crossing.now in
    let blind = c.in-Some.ensures.exact found.net.now found.domains.now found.crossings.now rings k are.guards at in
    lacks_hold grays rings is_extra found k is c.in-Some.ring (first_blind grays rings is_extra found k (Some c.in-Some.ring) blind)

pub returns-in-None : goal.returns-in-None
returns-in-None c = λ grays rings is_extra are at is.
    let found = c.args.found.now in
    let k = c.args.crossing.now in
    let blind = c.in_default.ensures.exact found.net.now found.domains.now found.crossings.now rings k are.guards at in
    let held = c.in-None.ensures.exact found.net.now found.crossings.now rings are.guards (slice_in found.crossings.now c.args.place k at) in
    lacks_scheme grays rings is_extra found k is (first_blind grays rings is_extra found k None blind) (first_held grays rings is_extra found k None held)

pub returns-in-Some-first_held : goal.returns-in-Some-first_held
returns-in-Some-first_held c = λ grays rings is_extra are at is.
    let found = c.args.found.now in
    let k = c.args.crossing.now in
    let ring = c.in-Some-first_held.ring in
    let blind = c.in_default.ensures.exact found.net.now found.domains.now found.crossings.now rings k are.guards at in
    let held = c.in-Some-first_held.ensures.exact found.net.now found.crossings.now rings are.guards (slice_in found.crossings.now c.args.place k at) in
    lacks_gate grays rings is_extra found k is (first_blind grays rings is_extra found k None blind) ring (first_held grays rings is_extra found k (Some ring) held)
