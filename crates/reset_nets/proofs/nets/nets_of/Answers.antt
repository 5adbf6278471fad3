use Rattle.std.proofs.Common.{◌≡◌, ℕ, ◌<◌, true, length, sym, ap, ◌∙◌, subst, arith}
use Rattle.std.specs.List.{Contains, list_all}
use Rattle.std.proofs.lemmas.Result.{IfOk-weaker}
use Rattle.driver_loops.specs.Orders.{IsDepthFirst}
use Rattle.flat_form.specs.declared.flat.FlatAssign.{FlatAssign}
use Rattle.flat_form.specs.Sizes.{is_sized}
use Rattle.reset_nets.specs.Nets.{further_pins}
use Rattle.reset_nets.specs.Shown.{Finds}
use Rattle.reset_nets.proofs.Shown.{all_found, signals_count}
use Rattle.reset_nets.proofs.nets.nets_of.Goals as goal

pub returns : goal.returns
returns c = λ d shown sized.
    let resets = c.args.resets.now in
    let wires = c.in_ok-wires.wires in
    let shows = c.in_ok-wires.ensures.shows d shown in
    let graph = c.in_ok-links.links in
    let links = c.in_ok-links.ensures resets d shows in
    let roots = c.as_slice.ensures.value in
    let all : (s : ℕ) → s < length graph → Contains c.as_slice.result.now s
    = λ s l. let n = links.count in let m = signals_count resets wires d shows in
    let within : s < length wires.signals.now = omega (arith, l, n, m) in
    subst (λ vs. Contains vs s) (sym roots) (c.in_ok-roots.ensures s within) in
    let order = c.in_ok-order.ensures in
    let walked = c.as_slice-2.ensures.value in
    let right : list_all (λ (a : FlatAssign). is_sized a.value) wires.assigns.now ≡ true = ap (list_all (λ (a : FlatAssign). is_sized a.value)) c.in_ok-wires.ensures.assigns ∙ sized in
    let levels = c.in_ok-levels.levels.items in
    let found = subst (λ vs. Finds resets d vs levels) walked (c.in_ok-levels.ensures resets d shows links right (subst (IsDepthFirst graph) (sym walked) order.depth_first)) in
    let known = c.as_slice-3.ensures.value in
    IfOk-weaker c.pins_of.result _ _
    (λ nets listed. all_found resets d graph links c.as_slice.result.now c.in_ok-order.order.items all order levels found nets.items (listed ∙ ap (further_pins resets d.entries) known))
    (c.pins_of.ensures resets d shows (ap length known ∙ found.count))
