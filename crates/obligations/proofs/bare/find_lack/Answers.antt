-- Whether the crossing is covered, into a bare copy, or extra.
use Rattle.std.proofs.Common.{◌≡◌, ◌↔◌, ap, Bool, true, false, Some}
use Rattle.std.proofs.lemmas.Bool.{both_ways}
use Rattle.cdc_model.proofs.Justify.{slice_in}
use Rattle.obligations.proofs.Lacks.{crossing_is, is_open, lacks_cover, lacks_extra, lacks_flops}
use Rattle.obligations.proofs.bare.find_lack.Goals as goal

-- what a test that fails stands for doesn't hold
not_so : {P : Type 0} (v : Bool) → (v ≡ true) ↔ P → v ≡ false → P → ⊥
not_so v is e p = both_ways v e (is.1 p)

pub returns-then-is_covered : goal.returns-then-is_covered
returns-then-is_covered c = λ grays rings is_extra handed shown at.
    let k = c.args.crossing.now in
    let t = (c.is_covered.ensures handed.all_covers.ordered).0 c.if-is_covered.true in
    lacks_cover grays rings is_extra c.args.found.now k c.args.covers.now c.args.extra.now handed t.0 t.1 t.2 t.3

pub returns-then-is_bare_copy : goal.returns-then-is_bare_copy
returns-then-is_bare_copy c = λ grays rings is_extra handed shown at.
    let found = c.args.found.now in
    let k = c.args.crossing.now in
    let crossing = crossing_is grays rings found handed.are_found k (slice_in found.crossings.now c.args.place k at) in
    let copy = (c.is_bare_copy.ensures grays rings handed.are_found shown crossing.register).0 c.if-is_bare_copy.true in
    lacks_flops grays rings is_extra found k (crossing, copy.0, copy.1)

pub returns-then-is_extra : goal.returns-then-is_extra
returns-then-is_extra c = λ grays rings is_extra handed shown at.
    let found = c.args.found.now in
    let k = c.args.crossing.now in
    let crossing = crossing_is grays rings found handed.are_found k (slice_in found.crossings.now c.args.place k at) in
    lacks_extra grays rings is_extra found k c.args.covers.now c.args.extra.now handed ((c.is_extra.ensures handed.ordered).0 c.if-is_extra.true)
    (λ copy. not_so c.is_bare_copy.result (c.is_bare_copy.ensures grays rings handed.are_found shown crossing.register) c.if-is_bare_copy.false (copy.1, copy.2))

pub returns : goal.returns
returns c = λ grays rings is_extra handed shown at lack.
    let found = c.args.found.now in
    let k = c.args.crossing.now in
    let crossing = crossing_is grays rings found handed.are_found k (slice_in found.crossings.now c.args.place k at) in
    let is = is_open grays rings is_extra found k c.args.covers.now c.args.extra.now handed crossing
    (λ d i e f. not_so c.is_covered.result (c.is_covered.ensures handed.all_covers.ordered) c.if-is_covered.false (d, i, e, f))
    (not_so c.is_extra.result (c.is_extra.ensures handed.ordered) c.if-is_extra.false)
    (λ copy. not_so c.is_bare_copy.result (c.is_bare_copy.ensures grays rings handed.are_found shown crossing.register) c.if-is_bare_copy.false (copy.1, copy.2)) in
    let l = c.lack_of.ensures grays rings is_extra handed.are_found at is lack in
    (λ e. l.0 (cc), λ h. ap Some (l.1 h))
