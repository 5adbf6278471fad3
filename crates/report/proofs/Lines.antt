-- Lines that grow piece by piece.
use Rattle.std.proofs.Common.{◌≡◌, ◌∙◌, ℕ, List, [], ◌∷◌, ◌++◌, Result, ap, sym, refl, append_assoc}
use Rattle.std.specs.Prelude.{⊤, codes, IfOk}
use Rattle.std.proofs.lemmas.Result.{IfOk-equal}
use Rattle.cdc_base.specs.declared.list.NoMemory.{NoMemory}
use Rattle.report.specs.VerdictText.{ended}

-- three pieces, one by one
pub three-pieces : (done : Result ⊤ NoMemory) (old first second longer x y z : List ℕ) → first ≡ old ++ x → second ≡ first ++ y → IfOk done (λ _. longer ≡ second ++ z)
    → IfOk done (λ _. longer ≡ old ++ ((x ++ y) ++ z))
three-pieces done old first second longer x y z by_x by_y by_z = IfOk-equal done longer (second ++ z) (old ++ ((x ++ y) ++ z)) by_z
    (ap (λ t. t ++ z) (by_y ∙ ap (λ t. t ++ y) by_x ∙ append_assoc old x y) ∙ append_assoc old (x ++ y) z)

-- two pieces that make a whole
pub two-pieces : (done : Result ⊤ NoMemory) (old first longer x y whole : List ℕ) → whole ≡ x ++ y → first ≡ old ++ x → IfOk done (λ _. longer ≡ first ++ y)
    → IfOk done (λ _. longer ≡ old ++ whole)
two-pieces done old first longer x y whole is by_x by_y = IfOk-equal done longer (first ++ y) (old ++ whole) by_y
    (ap (λ t. t ++ y) by_x ∙ append_assoc old x y ∙ ap (λ t. old ++ t) (sym is))

-- three pieces that make a whole
pub three-parts : (done : Result ⊤ NoMemory) (old first second longer x y z whole : List ℕ) → whole ≡ (x ++ y) ++ z → first ≡ old ++ x → second ≡ first ++ y
    → IfOk done (λ _. longer ≡ second ++ z) → IfOk done (λ _. longer ≡ old ++ whole)
three-parts done old first second longer x y z whole is by_x by_y by_z =
    two-pieces done old second longer (x ++ y) z whole is (by_y ∙ ap (λ t. t ++ y) by_x ∙ append_assoc old x y) by_z

pub ended-append : (ls ms : List (List ℕ)) → ended (ls ++ ms) ≡ ended ls ++ ended ms
ended-append [] ms = refl
ended-append (l ∷ ls) ms = ap (λ t. (l ++ codes "\n") ++ t) (ended-append ls ms) ∙ sym (append_assoc (l ++ codes "\n") (ended ls) (ended ms))

-- some of the lines that are left go to the end
pub lines-go : (whole text longer : List ℕ) (left now later : List (List ℕ)) → whole ≡ text ++ ended left → left ≡ now ++ later → longer ≡ text ++ ended now → whole ≡ longer ++ ended later
lines-go whole text longer left now later before split added =
    before ∙ ap (λ ls. text ++ ended ls) split ∙ ap (λ t. text ++ t) (ended-append now later) ∙ sym (append_assoc text (ended now) (ended later))
    ∙ ap (λ t. t ++ ended later) (sym added)

-- texts of lines, one behind the other
pub ended-next : (text longer : List ℕ) (ls ms : List (List ℕ)) → text ≡ ended ls → longer ≡ text ++ ended ms → longer ≡ ended (ls ++ ms)
ended-next text longer ls ms is added = added ∙ ap (λ t. t ++ ended ms) is ∙ sym (ended-append ls ms)
