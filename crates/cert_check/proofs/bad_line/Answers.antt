-- The first bad item of a kind, behind the good ones of the kinds before it.
use Rattle.std.proofs.Common.{◌∙◌, ap, sym, subst, arith, Some, None, List, [], length}
use Rattle.std.specs.Prelude.{⊤}
use Rattle.cdc_model.specs.declared.scheme.Ring.{Ring as RingEntry}
use Rattle.cdc_model.specs.declared.scheme.Sync.{Sync as SyncEntry}
use Rattle.cdc_model.specs.Nets.{design_of}
use Rattle.cdc_model.specs.Tables.{ShowsNet}
use Rattle.fifo_scheme.specs.declared.found.FifoPair.{FifoPair}
use Rattle.cert_check.specs.Certified.{IsSyncItem, IsRingItem, IsLoadItem}
use Rattle.cert_check.specs.Items.{IsFirstFailing}
use Rattle.cert_check.specs.OnNets.{is_among, trees_by, IsGrayOn, Stands}
use Rattle.cert_check.proofs.Lines.{given, place_within, count_entries, bad_sync, bad_gray, bad_ring, bad_load, all_good}
use Rattle.cert_check.proofs.Meant.{all_syncs, all_rings}
use Rattle.cert_check.proofs.bad_line.Goals as goal

pub returns-in-Some-clause-exact : goal.returns-in-Some-clause-exact
returns-in-Some-clause-exact c = λ can shown.
    let net = c.args.net.now in
    let domains = c.args.domains.now in
    let cert = c.args.certificate.now in
    let d = design_of net domains in
    let t = trees_by net cert in
    let is_gray = IsGrayOn net domains in
    let stands = Stands net domains cert in
    let count = count_entries d t is_gray stands cert in
    let few = can.few in
    let by_sync = c.in_ok-sync.ensures.exact can.is_net can.has_next can.fits shown (is_among cert.grays) in
    let i = c.in-Some.place in
    let bad = given (IsSyncItem d t) c.as_slice-syncs.result.now cert.syncs c.in_ok-sync.sync (Some i) c.as_slice-syncs.ensures c.in-Some.is by_sync in
    let within = place_within (IsSyncItem d t) cert.syncs i bad in
    bad_sync d t is_gray stands cert i c.line_of.result bad (omega (arith, c.line_of.ensures))

pub returns-in-Some-gray-clause-exact : goal.returns-in-Some-gray-clause-exact
returns-in-Some-gray-clause-exact c = λ can shown.
    let net = c.args.net.now in
    let domains = c.args.domains.now in
    let cert = c.args.certificate.now in
    let d = design_of net domains in
    let t = trees_by net cert in
    let is_gray = IsGrayOn net domains in
    let stands = Stands net domains cert in
    let count = count_entries d t is_gray stands cert in
    let few = can.few in
    let by_sync = c.in_ok-sync.ensures.exact can.is_net can.has_next can.fits shown (is_among cert.grays) in
    let syncs = given (IsSyncItem d t) c.as_slice-syncs.result.now cert.syncs c.in_ok-sync.sync None c.as_slice-syncs.ensures c.in_default.is by_sync in
    let all_syncs_len = ap length c.as_slice-syncs.ensures in
    let shown-2 = subst (ShowsNet net []) (sym c.in_ok-sync.ensures.unchanged) shown in
    let by_gray = c.in_ok-gray.ensures can.is_net can.has_next can.is_shared can.narrow shown-2 in
    let i = c.in-Some-gray.place in
    let bad = given is_gray c.as_slice-grays.result.now cert.grays c.in_ok-gray.gray (Some i) c.as_slice-grays.ensures c.in-Some-gray.is by_gray in
    let within = place_within is_gray cert.grays i bad in
    bad_gray d t is_gray stands cert syncs i c.line_of-in-Some-gray.result bad (omega (arith, c.line_of-in-Some-gray.ensures, c.saturating_add-gray_lines.ensures))

pub returns-in-Some-ring-clause-exact : goal.returns-in-Some-ring-clause-exact
returns-in-Some-ring-clause-exact c = λ can shown.
    let net = c.args.net.now in
    let domains = c.args.domains.now in
    let cert = c.args.certificate.now in
    let d = design_of net domains in
    let t = trees_by net cert in
    let is_gray = IsGrayOn net domains in
    let stands = Stands net domains cert in
    let count = count_entries d t is_gray stands cert in
    let few = can.few in
    let by_sync = c.in_ok-sync.ensures.exact can.is_net can.has_next can.fits shown (is_among cert.grays) in
    let syncs = given (IsSyncItem d t) c.as_slice-syncs.result.now cert.syncs c.in_ok-sync.sync None c.as_slice-syncs.ensures c.in_default.is by_sync in
    let all_syncs_len = ap length c.as_slice-syncs.ensures in
    let shown-2 = subst (ShowsNet net []) (sym c.in_ok-sync.ensures.unchanged) shown in
    let by_gray = c.in_ok-gray.ensures can.is_net can.has_next can.is_shared can.narrow shown-2 in
    let codes = given is_gray c.as_slice-grays.result.now cert.grays c.in_ok-gray.gray None c.as_slice-grays.ensures c.in_default-gray.is by_gray in
    let all_grays_len = ap length c.as_slice-grays.ensures in
    let meant = all_syncs d t cert.syncs syncs in
    let by_ring = subst (λ (es : List SyncEntry). IsFirstFailing (IsRingItem d t es) c.as_slice-rings.result.now c.in_ok-ring.ring) c.as_slice-syncs.ensures
    (c.in_ok-ring.ensures.exact can.is_net can.has_next can.fits shown-2 (is_among cert.grays) meant.0 (c.as_slice-syncs.ensures ∙ meant.1) meant.2) in
    let i = c.in-Some-ring.place in
    let bad = given (IsRingItem d t cert.syncs) c.as_slice-rings.result.now cert.rings c.in_ok-ring.ring (Some i) c.as_slice-rings.ensures c.in-Some-ring.is by_ring in
    let within = place_within (IsRingItem d t cert.syncs) cert.rings i bad in
    bad_ring d t is_gray stands cert syncs codes i c.line_of-in-Some-ring.result bad (omega (arith, c.line_of-in-Some-ring.ensures, c.saturating_add-gray_lines.ensures, c.saturating_add-ring_lines.ensures))

pub returns-in-Some-load-clause-exact : goal.returns-in-Some-load-clause-exact
returns-in-Some-load-clause-exact c = λ can shown.
    let net = c.args.net.now in
    let domains = c.args.domains.now in
    let cert = c.args.certificate.now in
    let d = design_of net domains in
    let t = trees_by net cert in
    let is_gray = IsGrayOn net domains in
    let stands = Stands net domains cert in
    let count = count_entries d t is_gray stands cert in
    let few = can.few in
    let by_sync = c.in_ok-sync.ensures.exact can.is_net can.has_next can.fits shown (is_among cert.grays) in
    let syncs = given (IsSyncItem d t) c.as_slice-syncs.result.now cert.syncs c.in_ok-sync.sync None c.as_slice-syncs.ensures c.in_default.is by_sync in
    let all_syncs_len = ap length c.as_slice-syncs.ensures in
    let shown-2 = subst (ShowsNet net []) (sym c.in_ok-sync.ensures.unchanged) shown in
    let by_gray = c.in_ok-gray.ensures can.is_net can.has_next can.is_shared can.narrow shown-2 in
    let codes = given is_gray c.as_slice-grays.result.now cert.grays c.in_ok-gray.gray None c.as_slice-grays.ensures c.in_default-gray.is by_gray in
    let all_grays_len = ap length c.as_slice-grays.ensures in
    let meant = all_syncs d t cert.syncs syncs in
    let by_ring = subst (λ (es : List SyncEntry). IsFirstFailing (IsRingItem d t es) c.as_slice-rings.result.now c.in_ok-ring.ring) c.as_slice-syncs.ensures
    (c.in_ok-ring.ensures.exact can.is_net can.has_next can.fits shown-2 (is_among cert.grays) meant.0 (c.as_slice-syncs.ensures ∙ meant.1) meant.2) in
    let rings = given (IsRingItem d t cert.syncs) c.as_slice-rings.result.now cert.rings c.in_ok-ring.ring None c.as_slice-rings.ensures c.in_default-ring.is by_ring in
    let all_rings_len = ap length c.as_slice-rings.ensures in
    let shown-3 = subst (ShowsNet net []) (sym c.in_ok-ring.ensures.unchanged) shown-2 in
    let turned = all_rings d t cert.syncs meant.0 meant.1 cert.rings rings in
    let by_load = subst (λ (es : List RingEntry). IsFirstFailing (IsLoadItem d t es) c.as_slice-loads.result.now c.in_ok-load.load) c.as_slice-rings.ensures
    (c.in_ok-load.ensures.exact can.is_net can.has_next can.fits shown-3 (is_among cert.grays) meant.0 turned.0 (c.as_slice-rings.ensures ∙ turned.1) turned.2) in
    let i = c.in-Some-load.place in
    let bad = given (IsLoadItem d t cert.rings) c.as_slice-loads.result.now cert.loads c.in_ok-load.load (Some i) c.as_slice-loads.ensures c.in-Some-load.is by_load in
    let within = place_within (IsLoadItem d t cert.rings) cert.loads i bad in
    bad_load d t is_gray stands cert syncs codes rings i c.line_of-in-Some-load.result bad
    (omega (arith, c.line_of-in-Some-load.ensures, c.saturating_add-gray_lines.ensures, c.saturating_add-ring_lines.ensures, c.saturating_add-load_lines.ensures))

pub returns-in-None-clause-exact : goal.returns-in-None-clause-exact
returns-in-None-clause-exact c = λ can shown.
    let net = c.args.net.now in
    let domains = c.args.domains.now in
    let cert = c.args.certificate.now in
    let d = design_of net domains in
    let t = trees_by net cert in
    let is_gray = IsGrayOn net domains in
    let stands = λ (p : FifoPair). ⊤ in
    let by_sync = c.in_ok-sync.ensures.exact can.is_net can.has_next can.fits shown (is_among cert.grays) in
    let syncs = given (IsSyncItem d t) c.as_slice-syncs.result.now cert.syncs c.in_ok-sync.sync None c.as_slice-syncs.ensures c.in_default.is by_sync in
    let shown-2 = subst (ShowsNet net []) (sym c.in_ok-sync.ensures.unchanged) shown in
    let by_gray = c.in_ok-gray.ensures can.is_net can.has_next can.is_shared can.narrow shown-2 in
    let codes = given is_gray c.as_slice-grays.result.now cert.grays c.in_ok-gray.gray None c.as_slice-grays.ensures c.in_default-gray.is by_gray in
    let meant = all_syncs d t cert.syncs syncs in
    let by_ring = subst (λ (es : List SyncEntry). IsFirstFailing (IsRingItem d t es) c.as_slice-rings.result.now c.in_ok-ring.ring) c.as_slice-syncs.ensures
    (c.in_ok-ring.ensures.exact can.is_net can.has_next can.fits shown-2 (is_among cert.grays) meant.0 (c.as_slice-syncs.ensures ∙ meant.1) meant.2) in
    let rings = given (IsRingItem d t cert.syncs) c.as_slice-rings.result.now cert.rings c.in_ok-ring.ring None c.as_slice-rings.ensures c.in_default-ring.is by_ring in
    let shown-3 = subst (ShowsNet net []) (sym c.in_ok-ring.ensures.unchanged) shown-2 in
    let turned = all_rings d t cert.syncs meant.0 meant.1 cert.rings rings in
    let by_load = subst (λ (es : List RingEntry). IsFirstFailing (IsLoadItem d t es) c.as_slice-loads.result.now c.in_ok-load.load) c.as_slice-rings.ensures
    (c.in_ok-load.ensures.exact can.is_net can.has_next can.fits shown-3 (is_among cert.grays) meant.0 turned.0 (c.as_slice-rings.ensures ∙ turned.1) turned.2) in
    all_good d t is_gray stands cert syncs codes rings
    (given (IsLoadItem d t cert.rings) c.as_slice-loads.result.now cert.loads c.in_ok-load.load None c.as_slice-loads.ensures c.in-None.is by_load) (λ p i. tt)
