-- Each part keeps what it is to keep.
use Rattle.std.proofs.Common.{◌≡◌, ◌∙◌, ◌↔◌, sym, ap, subst, [], map, Some, slice_get, Contains}
use Rattle.cdc_model.specs.Tables.{ShowsNet}
use Rattle.mux_recirc.specs.Given.{sides_of}
use Rattle.mux_recirc.proofs.Crossed.{plain_given}
use Rattle.mux_recirc.proofs.guards.Guards.find.Goals as goal

pub returns-clause-shown : goal.returns-clause-shown
returns-clause-shown c = λ grays list given shown.
    let later = subst (ShowsNet c.args.net.now []) (sym c.in_ok-blind.ensures.unchanged) shown in
    record {
      given = plain_given c.args.net.now c.args.domains.now grays c.args.crossings.now list c.args.rings.now given;
      blind = c.in_ok-blind.ensures.exact grays list given shown;
      blind_sorted = c.in_ok-blind.ensures.sorted;
      held = c.in_ok-held.ensures.exact grays list given later;
      constant_sorted = c.in_ok-held.ensures.constant_sorted grays list given later;
      pairs_sorted = c.in_ok-held.ensures.pairs_sorted;
      sides = c.in_ok-sides.ensures ∙ ap (map (sides_of c.args.domains.now)) given.listed;
      joints = λ j. subst (λ xs. Contains c.in_ok-joints.joints.items j ↔ (slice_get xs j.ring ≡ Some j.sides)) c.as_slice.ensures.value (c.in_ok-joints.ensures.exact j);
      joints_sorted = c.in_ok-joints.ensures.sorted;
    }
