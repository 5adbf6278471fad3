-- The plan's lists are those of the campaign.
use Rattle.std.proofs.Common.{◌≡◌, ◌∙◌, ◌<◌, List, ℕ, sym, ap, subst, refl}
use Rattle.std.specs.Prelude.{All}
use Rattle.std.specs.List.Sorted.{IsPermutation}
use Rattle.cdc_base.specs.declared.bit.Bit.{Bit}
use Rattle.cell_graph.specs.Values.{reading_of}
use Rattle.cdc_model.specs.Nets.{bit_count}
use Rattle.settling_sim.specs.Design.{copied_in}
use Rattle.campaign.specs.Plan.{inputs_of}
use Rattle.campaign.specs.Planned.{flops_in, watched_in}
use Rattle.campaign.proofs.PlanLists.{flops-are, flops-placed, pairs-are, within-in}
use Rattle.campaign.proofs.plan.Plan.open.Goals as goal

pub returns : goal.returns
returns c = λ can same.
    let net = c.args.net.now in
    let domains = c.args.domains.now in
    let marks = c.in_ok-settling.settling.items in
    let marked = c.in_ok-settling.ensures (flops-placed net domains can c.args.syncs.now same) in
    let bits = c.as_slice-3.ensures ∙ c.in_ok-bits.ensures in
    let again = c.as_slice-5.ensures ∙ c.in_ok-bits.ensures in
    let inputs : c.in_ok-inputs.inputs ≡ inputs_of net domains = c.in_ok-inputs.ensures can.opens.numbered in
    let shows = c.in_ok-design.ensures.copies can.opens.cells.graph in
    let copied = copied_in c.in_ok-design.design.cells.items c.in_ok-design.design.copies in
    record {
      net_is = c.in_ok-design.ensures.net;
      domains_are = c.in_ok-design.ensures.domains;
      cells = c.in_ok-design.ensures.cells;
      copies = shows;
      inputs = inputs;
      named_is = refl;
      are_named = record {
        same = subst (λ (ss : List ℕ). IsPermutation ss c.in_ok-named.named.items) (c.as_slice.ensures ∙ inputs) c.in_ok-named.ensures.same;
        sorted = c.in_ok-named.ensures.sorted;
      };
      flops = c.in_ok-flops.ensures
          ∙ ap (λ (ws : List ℕ). flops_in copied (reading_of ws) c.as_slice-3.result.now) c.as_slice-2.ensures.value
          ∙ flops-are net domains can c.args.syncs.now same marks marked c.as_slice-3.result.now bits c.in_ok-design.design.cells.items c.in_ok-design.design.copies c.in_ok-design.ensures.cells shows;
      pairs = c.in_ok-pairs.ensures can.is can.has (subst (λ (bs : List Bit). All (λ (b : Bit). b.at < bit_count net.graph.signals b.sig) bs) (sym again) (within-in net domains can))
          ∙ ap (λ (ws : List ℕ). watched_in net domains (reading_of ws) c.as_slice-5.result.now) c.as_slice-4.ensures.value
          ∙ pairs-are net domains can c.args.syncs.now same marks marked c.as_slice-5.result.now again;
    }
