use Rattle.std.proofs.Common.{◌≡◌, ℕ, ◌-◌, ◌^◌, true, bit_or, bit_and, ap, ap₂, ◌∙◌}
use Rattle.cdc_base.specs.declared.signal.SigKind.TheVariants.{Register}
use Rattle.flat_unfolding.specs.Signals.{known_bits, start_bits}
use Rattle.flat_unfolding.specs.Starts.{given_bit, start_bit}
use Rattle.flat_drivers.proofs.Marked.{known-is, start-is}
use Rattle.flat_drivers.proofs.registers.make_register.Goals as goal

pub returns : goal.returns
returns c = λ d s small h.
    let old = c.args.signal.now in
    let kept = c.args.starts in
    let w = old.width in
    let g = λ (i : ℕ). given_bit d.givens s i in
    let b = λ (i : ℕ). start_bit d.starts s i in
    let known : bit_or c.declared_bits-known.result kept.reset_known ≡ known_bits d s w true = ap (λ n. bit_or n kept.reset_known) c.declared_bits-known.ensures ∙ known-is kept.start w g b small h.declared kept.reset_known h.known in
    let start : bit_or (bit_and c.unwrap_or-start.result (2 ^ 64 - 1 - kept.reset_known)) kept.reset_start ≡ start_bits d s w true =
    ap (λ n. bit_or (bit_and n (2 ^ 64 - 1 - kept.reset_known)) kept.reset_start) c.unwrap_or-start.ensures ∙ start-is kept.start w g b small h.declared kept.reset_known kept.reset_start h.known h.given h.fits in
    ap₂ (λ (m n : ℕ). record old { kind = Register; known = m; start = n }) known start
