-- Lines that are each ended by a line feed are the lines of their text.
use Rattle.std.proofs.Common.{◌≡◌, ◌∙◌, refl, ap, ◌==◌, Bool, false, Some, List, [], ◌∷◌, ◌++◌, append_assoc, map}
use Rattle.std.specs.Prelude.{if◌then◌else◌}
use Rattle.report.specs.VerdictText.{ended}
use Rattle.cert_text.specs.Words.{lines_of, onto_line}
use Rattle.clock_constraints.specs.Refusals.{Text}

-- no byte of the line ends it
abbrev pub HasNoEnd : Text → Type 0
HasNoEnd [] = Unit {0}
HasNoEnd (b ∷ bs) = ((b == 10) ≡ false) × HasNoEnd bs

abbrev pub HaveNoEnd : List Text → Type 0
HaveNoEnd [] = Unit {0}
HaveNoEnd (l ∷ ls) = HasNoEnd l × HaveNoEnd ls

one_line : (l rest : Text) → HasNoEnd l → lines_of (l ++ 10 ∷ rest) ≡ Some l ∷ lines_of rest
one_line [] rest h = refl
one_line (b ∷ bs) rest h =
    ap (λ (v : Bool). if v then Some [] ∷ lines_of (bs ++ 10 ∷ rest) else onto_line b (lines_of (bs ++ 10 ∷ rest))) h.0
    ∙ ap (onto_line b) (one_line bs rest h.1)

pub lines_ended : (ls : List Text) → HaveNoEnd ls → lines_of (ended ls) ≡ map Some ls
lines_ended [] h = refl
lines_ended (l ∷ ls) h =
    let e : (l ++ 10 ∷ []) ++ ended ls ≡ l ++ 10 ∷ ended ls = simp append_assoc in
    ap lines_of e ∙ (one_line l (ended ls) h.0 ∙ ap (λ xs. Some l ∷ xs) (lines_ended ls h.1))
