-- The constraints of the generated design fit together.
use Rattle.std.proofs.Common.{◌≡◌, ◌≢◌, ◌∙◌, ◌<◌, ◌≤◌, Bool, true, false, List, [], ◌∷◌, length, refl, ap, sym, codes, arith}
use Rattle.std.specs.Prelude.{All, AllPairs}
use Rattle.std.specs.Str.{bytes_eq}
use Rattle.std.proofs.lemmas.Bool.{false≢true}
use Rattle.std.proofs.lemmas.List.Elements.{All-cons, All-nil}
use Rattle.std.proofs.lemmas.List.Kept.{AllPairs-cons}
use Rattle.clock_constraints.specs.declared.ClockPin.{ClockPin}
use Rattle.clock_constraints.specs.declared.InputPin.{InputPin}
use Rattle.clock_constraints.specs.Fit.{AreFit}
use Rattle.clock_constraints.specs.Refusals.{Text}
use Rattle.generated_design.specs.Clocks.{generated_constraints}

differ : (x y : Text) → bytes_eq x x ≡ true → bytes_eq x y ≡ false → x ≢ y
differ x y same apart e = false≢true (sym apart ∙ ap (λ (t : Text). bytes_eq x t) (sym e) ∙ same)

abbrev Differ : Text → Text → Type 0
Differ x y = x ≢ y

none_after : AllPairs Differ []
none_after i j d before within = absurd (omega (arith, before, within))

abbrev IsThere : InputPin → Type 0
IsThere i = i.clock < 2

abbrev Settles : ClockPin → Type 0
Settles k = (1 ≤ k.settle) × (k.settle ≤ 3)

there : (i : InputPin) → i.clock ≡ 0 → IsThere i
there i is = omega (arith, is)

settles_in : (k : ClockPin) → k.settle ≡ 1 → Settles k
settles_in k is = (omega (arith, is), omega (arith, is))

pub generated_fit : AreFit generated_constraints
unfolding generated_constraints
generated_fit =
    let send : InputPin = record { name = codes "send"; clock = 0 } in
    let d : InputPin = record { name = codes "d"; clock = 0 } in
    let ca : ClockPin = record { name = codes "ca"; group = codes "A"; settle = 1 } in
    let cb : ClockPin = record { name = codes "cb"; group = codes "B"; settle = 1 } in
    record {
      inputs = All-cons IsThere send (d ∷ []) (there send refl) (All-cons IsThere d [] (there d refl) (All-nil IsThere));
      names = AllPairs-cons Differ (codes "ca") (codes "cb" ∷ codes "send" ∷ codes "d" ∷ [])
          (All-cons (Differ (codes "ca")) (codes "cb") (codes "send" ∷ codes "d" ∷ []) (differ (codes "ca") (codes "cb") refl refl)
          (All-cons (Differ (codes "ca")) (codes "send") (codes "d" ∷ []) (differ (codes "ca") (codes "send") refl refl)
          (All-cons (Differ (codes "ca")) (codes "d") [] (differ (codes "ca") (codes "d") refl refl) (All-nil (Differ (codes "ca"))))))
          (AllPairs-cons Differ (codes "cb") (codes "send" ∷ codes "d" ∷ [])
          (All-cons (Differ (codes "cb")) (codes "send") (codes "d" ∷ []) (differ (codes "cb") (codes "send") refl refl)
          (All-cons (Differ (codes "cb")) (codes "d") [] (differ (codes "cb") (codes "d") refl refl) (All-nil (Differ (codes "cb")))))
          (AllPairs-cons Differ (codes "send") (codes "d" ∷ [])
          (All-cons (Differ (codes "send")) (codes "d") [] (differ (codes "send") (codes "d") refl refl) (All-nil (Differ (codes "send"))))
          (AllPairs-cons Differ (codes "d") [] (All-nil (Differ (codes "d"))) none_after)));
      settles = All-cons Settles ca (cb ∷ []) (settles_in ca refl) (All-cons Settles cb [] (settles_in cb refl) (All-nil Settles));
    }
