use Rattle.std.proofs.Common.{◌≡◌, ℕ, [], map, take, drop}
use Rattle.std.specs.Prelude.{All}
use Rattle.flat_form.specs.View.{target_of}
use Rattle.flat_targets.specs.Parts.{width_among, AreWidths, IsPart, Holds, first_met}
use Rattle.flat_targets.proofs.parts.first_met.Given as goal

abbrev pub invariant-loop-place : goal.invariant-loop-place
invariant-loop-place l = (n : ℕ) → AreWidths (width_among l.entries) n → All IsPart (map (λ p. target_of p.now) l.parts)
    → Holds (width_among l.entries) (take l.place (map (λ p. target_of p.now) l.parts)) l.before
    × (first_met (width_among l.entries) n (map (λ p. target_of p.now) l.parts) [] (map (λ p. target_of p.now) l.parts)
    ≡ first_met (width_among l.entries) n (map (λ p. target_of p.now) l.parts) (take l.place (map (λ p. target_of p.now) l.parts)) (drop l.place (map (λ p. target_of p.now) l.parts)))
