-- The arrival at the bit, if there is one, is the only one there.
use Rattle.std.proofs.Common.{rules, sym, [], ◌∷◌, append-nil}
use Rattle.obligations.proofs.AddedReads.{read_there, nothing_there}
use Rattle.obligations.proofs.Readers.{source_grouped}
use Rattle.obligations.proofs.arrivals.add_read.Goals as goal

pub returns-in_ok-map_err : goal.returns-in_ok-map_err
returns-in_ok-map_err c = λ grays rings are all.
    let found = c.args.found.now in
    let a = c.in-Some.arrival in
    let at = c.in-Some.ensures all.ordered in
    let g = c.in-Some-group_of.group in
    let f = c.family_of-family.result in (
      record { group = g; family = f; arrival = a } ∷ [],
      search rules,
      read_there found.net.now found.domains.now found.grays.now are.is_net are.fits c.args.bit a (all.only a at.0) at.1 g (sym c.in-Some-group_of.ensures) f (c.family_of-family.ensures are.all_grays.ordered),
    )

pub returns-in_default-group_of : goal.returns-in_default-group_of
returns-in_default-group_of c = λ grays rings are all.
    let found = c.args.found.now in
    let a = c.in-Some.arrival in
    absurd (source_grouped found.net.now found.domains.now are.is_net are.fits found.grays.now a (all.only a (c.in-Some.ensures all.ordered).0) (sym c.in_default-group_of.ensures))

pub returns-in_default : goal.returns-in_default
returns-in_default c = λ grays rings are all.
    let found = c.args.found.now in
    ([], sym (append-nil c.args.reads.now.items), nothing_there found.net.now found.domains.now found.grays.now c.args.arrivals.now all c.args.bit (c.in_default.ensures all.ordered))
