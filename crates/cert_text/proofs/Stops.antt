-- Refusals by lines.
use Rattle.std.proofs.Common.{◌≡◌, ◌≢◌, ◌∙◌, refl, sym, ap, ℕ, ◌++◌, ◌==◌, Bool, true, false, Option, Some, None, List, [], ◌∷◌, Result, Err}
use Rattle.std.specs.Prelude.{codes, if◌then◌else◌}
use Rattle.std.specs.Fmt.{decimal}
use Rattle.cdc_base.specs.declared.fault.Fault.{Fault}
use Rattle.cdc_base.specs.declared.fault.Stop.{Stop}
use Rattle.cdc_base.specs.declared.fault.Stop.TheVariants.{Refused, Memory}
use Rattle.clock_constraints.specs.Refusals.{Text, Gives, IsStop}
use Rattle.cert_text.specs.declared.certificate.Certificate.{Certificate}
use Rattle.cert_text.specs.Read.{at_end, broken_line}
use Rattle.cert_text.specs.Words.{lines_of, onto_line}

-- a refusal of the line gives a reading that is broken there
pub stop_gives : {A : Type 0} (s : Stop) (n : ℕ) (r : Result A Fault) → IsStop 510 (codes "line " ++ decimal n) s → r ≡ Err (broken_line n) → Gives {A = A} (Err s) r
stop_gives (Refused f) n r h e = e ∙ ap Err (sym h)
stop_gives Memory n r h e = tt

-- a text that isn't empty has a line
data HasLine : List (Option Text) → Type 0 where
  Line : (l : Option Text) (ls : List (Option Text)) → HasLine (l ∷ ls)

onto_has : (b : ℕ) (ls : List (Option Text)) → HasLine (onto_line b ls)
onto_has b [] = Line None []
onto_has b (None ∷ ls) = Line None ls
onto_has b (Some l ∷ ls) = Line (Some (b ∷ l)) ls

has_line : (t : Text) → t ≢ [] → HasLine (lines_of t)
has_line [] ne = absurd (ne refl)
has_line (b ∷ bs) ne = go (b == 10)
  where
    go : (v : Bool) → HasLine (if v then Some [] ∷ lines_of bs else onto_line b (lines_of bs))
    go true = Line (Some []) (lines_of bs)
    go false = onto_has b (lines_of bs)

end_of : (n : ℕ) (c : Certificate) (ls : List (Option Text)) → HasLine ls → at_end n c ls ≡ Err (broken_line n)
end_of n c [] h = elim h [ ]
end_of n c (l ∷ ls) h = refl

pub not_at_end : (n : ℕ) (c : Certificate) (t : Text) → t ≢ [] → at_end n c (lines_of t) ≡ Err (broken_line n)
not_at_end n c t ne = end_of n c (lines_of t) (has_line t ne)
