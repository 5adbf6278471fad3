use Rattle.std.proofs.Common.{◌∙◌, ◌≤◌, ◌^◌, ℕ, ap₂, sym, subst, map, List}
use Rattle.std.specs.Borrow.{Bor}
use Rattle.std.specs.Ordering.{nat_cmp}
use Rattle.std.specs.Cmp.Lexicographic.{slice_cmp}
use Rattle.std.specs.List.Sorted.{IsPermutation, IsSortedByKey}
use Rattle.cdc_model.specs.declared.record.Given.{Given}
use Rattle.cdc_model.specs.declared.record.Race.{Race}
use Rattle.cdc_model.specs.declared.record.RecordStep.{RecordStep}
use Rattle.cdc_model.specs.Replay.{has_edge}
use Rattle.campaign.specs.Lines.{bit_order}
use Rattle.campaign.specs.Names.{name_of}
use Rattle.campaign.specs.Numbers.{numbers_from}
use Rattle.campaign.proofs.Written.{one-written}
use Rattle.campaign.proofs.text.add_step.Goals as goal

pub returns : goal.returns
returns c =
    let o : RecordStep = record { edges = c.as_slice-4.result.now; inputs = c.as_slice-5.result.now; races = map (λ (r : Bor Race). r.now) c.as_slice-6.result.now } in
    one-written c.args.net.now c.args.domains.now c.args.step.now o c.args.output.now c.add_ordered.new.output c.add_ordered.result c.add_ordered.ensures (λ small. record {
      edges = c.as_slice-4.ensures ∙ c.in_ok-edges.ensures (subst (λ (n : ℕ). n ≤ 2 ^ 32) (sym c.len.ensures) small)
          ∙ ap₂ (λ (es : List ℕ) (n : ℕ). numbers_from (has_edge es) 0 n) c.as_slice.ensures c.len.ensures;
      inputs = subst (λ (gs : List Given). IsPermutation gs c.as_slice-5.result.now) c.as_slice-2.ensures
          (subst (λ (gs : List Given). IsPermutation c.as_slice-2.result.now gs) (sym c.as_slice-5.ensures.value) c.in_ok-inputs.ensures.same);
      by_name = subst (λ (gs : List Given). IsSortedByKey (λ (g : Given). name_of c.args.net.now.graph.signals g.sig) (slice_cmp nat_cmp) gs) (sym c.as_slice-5.ensures.value) c.in_ok-inputs.ensures.sorted;
      races = subst (λ (rs : List Race). IsPermutation rs (map (λ (r : Bor Race). r.now) c.as_slice-6.result.now)) c.as_slice-3.ensures
          (subst (λ (rs : List (Bor Race)). IsPermutation c.as_slice-3.result.now (map (λ (r : Bor Race). r.now) rs)) (sym c.as_slice-6.ensures.value) c.in_ok-races.ensures.same);
      by_bit = subst (λ (rs : List (Bor Race)). IsSortedByKey (λ (r : Race). r.bit) bit_order (map (λ (r : Bor Race). r.now) rs)) (sym c.as_slice-6.ensures.value) c.in_ok-races.ensures.sorted;
    })
