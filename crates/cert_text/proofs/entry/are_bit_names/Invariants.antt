use Rattle.std.proofs.Common.{◌≡◌, drop}
use Rattle.std.specs.List.{list_all}
use Rattle.cert_text.specs.Read.{is_bit_name}
use Rattle.cert_text.proofs.entry.are_bit_names.Given as goal

abbrev pub invariant-loop-word : goal.invariant-loop-word
invariant-loop-word l = list_all is_bit_name l.words ≡ list_all is_bit_name (drop l.word-index l.words)
