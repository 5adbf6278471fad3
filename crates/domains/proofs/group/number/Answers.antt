use Rattle.std.proofs.Common.{◌≡◌, ◌∙◌, ◌+◌, ◌++◌, sym, ap, subst, List, [], ◌∷◌, map, take, drop, get_or, Some, Bor}
use Rattle.std.specs.List.{AllZip}
use Rattle.std.proofs.lemmas.List.{drop_more}
use Rattle.clock_constraints.specs.declared.ClockPin.{ClockPin}
use Rattle.clock_constraints.specs.Refusals.{Text}
use Rattle.domains.specs.Groups.{mentions, with_name, IsInGroup}
use Rattle.domains.proofs.GroupPlaces.{mentions-step, in_groups-more}
use Rattle.domains.proofs.Zips.{zip-more}
use Rattle.domains.proofs.group.number.Goals as goal

pub loop-clock-preserved : goal.loop-clock-preserved
loop-clock-preserved c =
    let group : ClockPin → Text = λ k. k.group in
    let clocks = c.args.clocks.now in
    let i = c.loop-clock.clock-index in
    let clock = c.clock-item.result in
    let before : List Text = map (λ (n : Bor Text). n.now) c.loop-clock.names.keys in
    let after : List Text = map (λ (n : Bor Text). n.now) c.place_in.new.names.keys in
    let text : c.as_str.result.now ≡ clock.group = c.as_str.ensures in
    let names : after ≡ with_name before clock.group = c.in_ok-place.ensures.names ∙ ap (with_name before) text in
    let here : get_or clocks i clock ≡ clock = sym c.clock-item.is in
    let next : drop i clocks ≡ clock ∷ drop (i + 1) clocks = drop_more clocks i clock c.loop-clock-test.true ∙ ap (λ (k : ClockPin). k ∷ drop (i + 1) clocks) here in
    let grouped : IsInGroup after clock c.in_ok-place.place = c.in_ok-place.ensures.place ∙ ap Some text in
    let in_groups : AllZip (IsInGroup after) (take (i + 1) clocks) (c.loop-clock.by_clock ++ c.in_ok-place.place ∷ []) =
    zip-more (IsInGroup after) clocks c.loop-clock.by_clock i clock c.in_ok-place.place c.loop-clock-test.true
    (subst (λ (w : List Text). AllZip (IsInGroup w) (take i clocks) c.loop-clock.by_clock) (sym names)
    (in_groups-more before clock.group (take i clocks) c.loop-clock.by_clock c.loop-clock.invariant.in_groups))
    (subst (λ (k : ClockPin). IsInGroup after k c.in_ok-place.place) (sym here) grouped) in
    record {
      mentioned = c.loop-clock.invariant.mentioned ∙ ap (λ (ks : List ClockPin). before ++ mentions before (map group ks)) next
          ∙ mentions-step before clock.group (map group (drop (i + 1) clocks)) ∙ ap (λ (w : List Text). w ++ mentions w (map group (drop (i + 1) clocks))) (sym names);
      in_groups = subst (AllZip (IsInGroup after) (take (i + 1) clocks)) (sym c.in_ok-push.ensures.pushed) in_groups;
    }
