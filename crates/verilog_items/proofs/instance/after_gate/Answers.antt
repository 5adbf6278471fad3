use Rattle.std.proofs.Common.{◌≡◌, ◌∙◌, ap, Some, rules}
use Rattle.verilog_lex.specs.declared.token.TokenKind.TheVariants.{Word}
use Rattle.verilog_reading.specs.ItemReader.{as_gate, gate_word_of}
use Rattle.verilog_reading.specs.ItemReading.{gate_of}
use Rattle.verilog_reading.specs.Lexemes.{spot_of}
use Rattle.verilog_items.proofs.instance.after_gate.Goals as goal

pub returns-in-Some-clause-found : goal.returns-in-Some-clause-found
returns-in-Some-clause-found c = let t = c.in_ok-first.first.now in
    let e : t.kind ≡ Word c.in-Word.word = search rules in
    let q : gate_of c.in-Word.word ≡ Some c.in-Some.kind = search rules in
    (record { kind = c.in-Some.kind; sign = c.in-Word.word; spot = spot_of t }, record { token = t; is = search rules; finds = ap (λ x. gate_word_of x (spot_of t)) e ∙ ap (λ o. as_gate o c.in-Word.word (spot_of t)) q }, search rules)
