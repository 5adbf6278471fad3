-- At first no bit is marked.
use Rattle.std.proofs.Common.{◌≡◌, ◌∙◌, ℕ, zero, suc, Bool, false, ◌||◌, List, ◌++◌, length, take, drop, replicate, refl, sym, ap, subst}
use Rattle.std.proofs.lemmas.List.{length-replicate}
use Rattle.cdc_base.specs.declared.bit.Bit.{Bit}
use Rattle.cdc_model.specs.declared.scheme.Sync.{Sync}
use Rattle.cell_graph.specs.Tree.{bit_at}
use Rattle.cell_graph.specs.Values.{reading_of, word_at}
use Rattle.cell_graph.proofs.Words.{bit-zero}
use Rattle.campaign.specs.Planned.{HavePlaces, is_settling_in}
use Rattle.campaign.proofs.StepRoom.{kept}
use Rattle.campaign.proofs.marks.settling_flops.Goals as goal

zero-at : (n i : ℕ) → word_at (replicate n 0) i ≡ 0
zero-at zero i = refl
zero-at (suc n) zero = refl
zero-at (suc n) (suc i) = zero-at n i

unmarked : (n : ℕ) (x : Bit) → reading_of (replicate n 0) x ≡ false
unmarked n x = ap (λ (w : ℕ). bit_at w x.at) (zero-at n x.sig) ∙ bit-zero x.at

pub returns : goal.returns
returns c = λ places x.
    let full = c.in_ok-marks.marks in
    let count = length c.signals.result.now in
    let counts : length full.items ≡ length c.args.net.now.graph.signals = ap length c.in_ok-marks.ensures ∙ length-replicate count 0 ∙ ap length c.signals.ensures in
    let entered : c.deref_mut.result.now ≡ replicate count 0 = c.deref_mut.ensures.value ∙ c.in_ok-marks.ensures in
    let counted : length c.deref_mut.result.now ≡ length c.args.net.now.graph.signals = ap length c.deref_mut.ensures.value ∙ counts in
    let stays : take full.len (c.mark_chains.new.marks ++ drop (length c.mark_chains.new.marks) full.items) ≡ c.mark_chains.new.marks
    = kept full.len c.mark_chains.new.marks _ (c.mark_chains.ensures.counted ∙ ap length c.deref_mut.ensures.value ∙ sym full.ok.0) in
    ap (λ (ws : List ℕ). reading_of ws x) stays
    ∙ c.mark_chains.ensures.marked (λ s i. subst (λ (n : ℕ). HavePlaces n s.flops) (sym counted) (places s i)) x
    ∙ ap (λ (t : Bool). t || is_settling_in c.args.domains.now c.args.syncs.now x) (ap (λ (ws : List ℕ). reading_of ws x) entered ∙ unmarked count x)
