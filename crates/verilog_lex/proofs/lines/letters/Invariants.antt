use Rattle.std.proofs.Common.{◌≡◌, ◌+◌, drop}
use Rattle.std.specs.List.{prefix_len}
use Rattle.std.specs.Char.{is_ascii_lowercase}
use Rattle.verilog_lex.proofs.lines.letters.Given as goal

abbrev pub invariant-loop-byte : goal.invariant-loop-byte
invariant-loop-byte l =
    (prefix_len is_ascii_lowercase l.line ≡ l.count + prefix_len is_ascii_lowercase (drop l.byte-index l.line)) × (l.count ≡ l.byte-index)
