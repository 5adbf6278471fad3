-- The first neighbours that meet, among all entries in order.
use Rattle.std.proofs.Common.{sym, subst}
use Rattle.cert_check.proofs.Neighbours.{found_meeting}
use Rattle.cert_check.specs.Meetings.{AreCodes, IsFirstPair}
use Rattle.cert_check.proofs.meetings.first_meeting.Goals as goal

pub returns : goal.returns
returns c = λ net is_gray ss is has fit same are.
    found_meeting net c.args.domains.now is_gray fit c.args.grays.now ss are c.args.syncs.now same c.in_ok-entries.entries.items c.in_ok-entries.ensures.all c.in_ok-entries.ensures.sorted c.first_pair.result
    (subst (λ es. IsFirstPair c.args.grays.now es c.first_pair.result) c.as_slice-2.ensures.value
    (c.first_pair.ensures c.args.grays.now (subst (AreCodes c.args.grays.now) (sym c.as_slice.ensures.value) c.in_ok-codes.ensures)))
