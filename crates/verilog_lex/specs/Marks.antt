-- The marks.
use Rattle.std.specs.Prelude.{ℕ, List, [], ◌∷◌, codes, Option}
use Rattle.cdc_base.specs.Words.{found_in}
use Rattle.verilog_lex.specs.declared.marks.MarkKind.{MarkKind}
use Rattle.verilog_lex.specs.declared.marks.MarkKind.TheVariants as mark

abbrev pub marks : List (List ℕ × MarkKind)
marks =
    (codes "(", mark.ParenOpen) ∷ (codes ")", mark.ParenClose) ∷ (codes "[", mark.BracketOpen) ∷ (codes "]", mark.BracketClose) ∷
    (codes "{", mark.BraceOpen) ∷ (codes "}", mark.BraceClose) ∷ (codes ",", mark.Comma) ∷ (codes ";", mark.Semicolon) ∷
    (codes ":", mark.Colon) ∷ (codes ".", mark.Dot) ∷ (codes "#", mark.Hash) ∷ (codes "@", mark.At) ∷
    (codes "?", mark.Question) ∷ (codes "=", mark.Equals) ∷ (codes "<=", mark.LessEqual) ∷ (codes "+", mark.Plus) ∷
    (codes "-", mark.Minus) ∷ (codes "*", mark.Star) ∷ (codes "/", mark.Slash) ∷ (codes "%", mark.Percent) ∷
    (codes "!", mark.Bang) ∷ (codes "~", mark.Tilde) ∷ (codes "&", mark.Ampersand) ∷ (codes "|", mark.Bar) ∷
    (codes "^", mark.Caret) ∷ (codes "~&", mark.TildeAmpersand) ∷ (codes "~|", mark.TildeBar) ∷ (codes "~^", mark.TildeCaret) ∷
    (codes "^~", mark.CaretTilde) ∷ (codes "<<", mark.ShiftLeft) ∷ (codes ">>", mark.ShiftRight) ∷ (codes "<", mark.Less) ∷
    (codes ">", mark.Greater) ∷ (codes ">=", mark.GreaterEqual) ∷ (codes "==", mark.EqualEqual) ∷ (codes "!=", mark.BangEqual) ∷
    (codes "&&", mark.AmpersandAmpersand) ∷ (codes "||", mark.BarBar) ∷ (codes "<<<", mark.LessLessLess) ∷ (codes "&&&", mark.AmpersandAmpersandAmpersand) ∷
    (codes "+:", mark.PlusColon) ∷ (codes "-:", mark.MinusColon) ∷ []

unfoldable pub mark_of : List ℕ → Option MarkKind
mark_of text = found_in marks text
