use Rattle.std.proofs.Common.{◌≡◌, ◌++◌, drop, false}
use Rattle.cert_text.specs.Words.{onto_word, words_from}
use Rattle.cert_text.proofs.words.words.Given as goal

abbrev pub invariant-loop-byte : goal.invariant-loop-byte
invariant-loop-byte l = words_from false l.line ≡ l.words ++ onto_word l.word (words_from l.escaped (drop l.byte-index l.line))
