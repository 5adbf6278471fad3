use Rattle.std.proofs.Common.{◌≡◌, ℕ, false, take}
use Rattle.std.specs.Prelude.{Contains}
use Rattle.flat_form.specs.Masks.{bits_in}
use Rattle.flat_targets.specs.Parts.{width_among, is_read}
use Rattle.flat_targets.proofs.parts.are_read.Given as goal

abbrev pub invariant-loop-sig : goal.invariant-loop-sig
invariant-loop-sig l = (x : ℕ) → Contains (take l.sig-index l.sig-items) x → is_read (width_among l.entries) (bits_in l.reads) (bits_in l.assigned) x ≡ false
