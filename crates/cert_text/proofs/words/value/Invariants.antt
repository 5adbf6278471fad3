use Rattle.std.proofs.Common.{◌≡◌, drop}
use Rattle.cert_text.specs.Words.{value_from}
use Rattle.cert_text.proofs.words.value.Given as goal

abbrev pub invariant-loop-digit : goal.invariant-loop-digit
invariant-loop-digit l = value_from 0 l.text ≡ value_from l.value (drop l.digit-index l.text)
