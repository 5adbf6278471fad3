-- One synchronizer more is marked.
use Rattle.std.proofs.Common.{◌≡◌, ◌∙◌, ℕ, zero, suc, ◌+◌, ◌<◌, ◌≤◌, Bool, true, false, ◌||◌, List, [], ◌∷◌, length, drop, get_or, refl, sym, ap, ap₂, subst, arith}
use Rattle.cdc_base.specs.declared.bit.Bit.{Bit}
use Rattle.cell_graph.specs.Values.{reading_of}
use Rattle.cdc_model.specs.declared.scheme.Sync.{Sync}
use Rattle.domains.specs.declared.Domains.{Domains}
use Rattle.campaign.specs.Planned.{HavePlaces, is_settling_in, settles_in}
use Rattle.campaign.proofs.marks.mark_chains.Goals as goal

one-sync : (domains : Domains) (x : Bit) (ss : List Sync) (i : ℕ) (s : Sync) → i < length ss → s ≡ get_or ss i s
    → is_settling_in domains (drop i ss) x ≡ (settles_in domains x s.flops || is_settling_in domains (drop (suc i) ss) x)
one-sync domains x [] i s l e = absurd (omega arith)
one-sync domains x (t ∷ ts) zero s l e = ap (λ (q : Sync). settles_in domains x q.flops || is_settling_in domains ts x) (sym e)
one-sync domains x (t ∷ ts) (suc i) s l e = one-sync domains x ts i s (omega arith) e

none-left : (domains : Domains) (x : Bit) (ss : List Sync) (i : ℕ) → length ss ≤ i → is_settling_in domains (drop i ss) x ≡ false
none-left domains x [] zero l = refl
none-left domains x [] (suc i) l = refl
none-left domains x (s ∷ ss) zero l = absurd (omega arith)
none-left domains x (s ∷ ss) (suc i) l = none-left domains x ss i (omega arith)

or-none : (a : Bool) → (a || false) ≡ a
or-none true = refl
or-none false = refl

or-three : (a b c : Bool) → (a || (b || c)) ≡ ((a || b) || c)
or-three true b c = refl
or-three false b c = refl

pub loop-sync-preserved : goal.loop-sync-preserved
loop-sync-preserved c =
    let i = c.loop-sync.sync-index in
    let sync = c.sync-item.result in
    let at : sync ≡ get_or c.args.syncs.now i sync = c.sync-item.is in
    let marks = c.loop-sync.marks in
    let counted = c.loop-sync.invariant.counted in
    let domains = c.args.domains.now in
    let next : suc i ≡ i + 1 = omega arith in
    record {
      counted = c.mark_first.ensures.counted ∙ counted;
      marked = λ places x.
          let here = subst (λ (n : ℕ). HavePlaces n sync.flops) (sym counted) (places sync (i, c.loop-sync-test.true, sym at)) in
          c.loop-sync.invariant.marked places x
          ∙ ap (λ (t : Bool). reading_of marks x || t) (one-sync domains x c.args.syncs.now i sync c.loop-sync-test.true at)
          ∙ or-three (reading_of marks x) (settles_in domains x sync.flops) (is_settling_in domains (drop (suc i) c.args.syncs.now) x)
          ∙ ap₂ (λ (t : Bool) (k : ℕ). t || is_settling_in domains (drop k c.args.syncs.now) x)
          (sym (c.mark_first.ensures.marked (subst (λ (bs : List Bit). HavePlaces (length marks) bs) (sym c.as_slice-flops.ensures) here) x
          ∙ ap (λ (t : Bool). reading_of marks x || t) (sym (c.settling_count-count.ensures x) ∙ ap (λ (bs : List Bit). settles_in domains x bs) c.as_slice-flops.ensures))) next;
    }

pub returns-clause-marked : goal.returns-clause-marked
returns-clause-marked c = λ places x.
    sym (c.loop-sync.invariant.marked places x
    ∙ ap (λ (t : Bool). reading_of c.loop-sync.marks x || t) (none-left c.args.domains.now x c.args.syncs.now c.loop-sync.sync-index c.loop-sync-test.false)
    ∙ or-none (reading_of c.loop-sync.marks x))
