use Rattle.std.proofs.Common.{◌≡◌, bit_and, subst, rules}
use Rattle.std.specs.Prelude.{option_map}
use Rattle.flat_drivers.specs.Registers.{HasStarts}
use Rattle.flat_design.proofs.Finished.{kept-starts}
use Rattle.flat_design.proofs.finish.starts_of.Goals as goal

pub returns : goal.returns
returns c = λ d s h.
    subst (λ o. HasStarts d s c.args.entry.now.width (record { start = o; reset_known = bit_and c.args.entry.now.reset_known c.low_bits-bits.result; reset_start = bit_and c.args.entry.now.reset_start c.low_bits-bits.result }))
    (let e : option_map (λ v. bit_and v c.low_bits-bits.result) c.args.entry.now.start ≡ c.map.result = search rules in e) (kept-starts d s c.low_bits-bits.result c.args.entry.now c.low_bits-bits.ensures.ones h)
