-- One flop more is marked, or none is left.
use Rattle.std.proofs.Common.{◌≡◌, ◌∙◌, ℕ, zero, suc, ◌+◌, ◌-◌, ◌<◌, ◌≤◌, Bool, true, false, cond, ◌||◌, List, [], ◌∷◌, length, drop, get_or, refl, sym, ap, ap₂, subst, arith}
use Rattle.std.proofs.lemmas.List.{length-set}
use Rattle.std.proofs.lemmas.List.Elements.{Contains-get_or}
use Rattle.cdc_base.specs.declared.bit.Bit.{Bit}
use Rattle.cell_graph.specs.Reading.{bit_eq}
use Rattle.cell_graph.specs.Values.{reading_of}
use Rattle.cdc_model.specs.Schemes.{in_first}
use Rattle.settling_sim.specs.Words.{put_bit}
use Rattle.settling_sim.proofs.Words.{reading-put}
use Rattle.campaign.proofs.marks.mark_first.Goals as goal

abbrev first : Bit
first = record { sig = 0; at = 0 }

one-flop : (k : ℕ) (x : Bit) (fs : List Bit) (i : ℕ) (d : Bit) → i < length fs → in_first (suc k) x (drop i fs) ≡ (bit_eq (get_or fs i d) x || in_first k x (drop (suc i) fs))
one-flop k x [] i d l = absurd (omega arith)
one-flop k x (f ∷ fs) zero d l = refl
one-flop k x (f ∷ fs) (suc i) d l = one-flop k x fs i d (omega arith)

none-in : (m : ℕ) (x : Bit) → in_first m x [] ≡ false
none-in zero x = refl
none-in (suc m) x = refl

none-left : (m : ℕ) (x : Bit) (fs : List Bit) (i : ℕ) → length fs ≤ i → in_first m x (drop i fs) ≡ false
none-left m x [] zero l = none-in m x
none-left m x [] (suc i) l = none-in m x
none-left m x (f ∷ fs) zero l = absurd (omega arith)
none-left m x (f ∷ fs) (suc i) l = none-left m x fs i (omega arith)

or-none : (a : Bool) → (a || false) ≡ a
or-none true = refl
or-none false = refl

marked-one : (a e b : Bool) → (a || (e || b)) ≡ (cond e true a || b)
marked-one true true b = refl
marked-one true false b = refl
marked-one false true b = refl
marked-one false false b = refl

pub loop-flop-preserved : goal.loop-flop-preserved
loop-flop-preserved c =
    let i = c.loop-flop.flop-index in
    let flop = get_or c.args.flops.now i first in
    let marks = c.loop-flop.marks in
    let counted = c.loop-flop.invariant.counted in
    let put : c.put_bit.new.words ≡ put_bit marks flop true = c.put_bit.ensures in
    let more : c.loop-flop.left ≡ suc (c.loop-flop.left - 1) = (let ne = c.if-left-eq0.false in omega (arith, ne)) in
    let next : suc i ≡ i + 1 = omega arith in
    record {
      counted = ap length put ∙ length-set marks flop.sig _ ∙ counted;
      marked = λ places x.
          let place = places flop (Contains-get_or c.args.flops.now i first c.loop-flop-test.true) in
          let there : flop.sig < length marks = (let at = place.0 in omega (arith, at, counted)) in
          c.loop-flop.invariant.marked places x
          ∙ ap (λ (t : Bool). reading_of marks x || t)
          (ap (λ (m : ℕ). in_first m x (drop i c.args.flops.now)) more ∙ one-flop (c.loop-flop.left - 1) x c.args.flops.now i first c.loop-flop-test.true)
          ∙ marked-one (reading_of marks x) (bit_eq flop x) (in_first (c.loop-flop.left - 1) x (drop (suc i) c.args.flops.now))
          ∙ ap₂ (λ (t : Bool) (k : ℕ). t || in_first (c.loop-flop.left - 1) x (drop k c.args.flops.now))
          (sym (ap (λ (ws : List ℕ). reading_of ws x) put ∙ reading-put marks flop x true there place.1)) next;
    }

pub returns-clause-marked : goal.returns-clause-marked
returns-clause-marked c = λ places x.
    sym (c.loop-flop.invariant.marked places x
    ∙ ap (λ (t : Bool). reading_of c.loop-flop.marks x || t) (none-left c.loop-flop.left x c.args.flops.now c.loop-flop.flop-index c.loop-flop-test.false)
    ∙ or-none (reading_of c.loop-flop.marks x))

pub returns-then-left-eq0-clause-marked : goal.returns-then-left-eq0-clause-marked
returns-then-left-eq0-clause-marked c = λ places x.
    sym (c.loop-flop.invariant.marked places x
    ∙ ap (λ (m : ℕ). reading_of c.loop-flop.marks x || in_first m x (drop c.loop-flop.flop-index c.args.flops.now)) c.if-left-eq0.true
    ∙ or-none (reading_of c.loop-flop.marks x))
