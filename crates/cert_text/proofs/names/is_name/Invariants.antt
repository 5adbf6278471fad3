use Rattle.std.proofs.Common.{◌≡◌, drop}
use Rattle.cert_text.specs.Names.{goes_on, is_name}
use Rattle.cert_text.proofs.names.is_name.Given as goal

abbrev pub invariant-loop-byte : goal.invariant-loop-byte
invariant-loop-byte l = goes_on l.part (drop l.byte-index l.text) ≡ is_name l.text
