-- Texts that grow line by line.
use Rattle.std.proofs.Common.{◌≡◌, ◌∙◌, ℕ, ◌+◌, ◌<◌, List, ◌∷◌, ◌++◌, length, drop, get_or, Result, sym, ap, append_assoc}
use Rattle.std.specs.Prelude.{⊤, IfOk}
use Rattle.std.proofs.lemmas.List.{drop_more}
use Rattle.std.proofs.lemmas.Result.{IfOk-equal}
use Rattle.cdc_base.specs.declared.list.NoMemory.{NoMemory}

-- the next item's line goes to the end
pub line-goes : {A : Type 0} (lines : List A → List ℕ) (line : A → List ℕ) → ((x : A) (xs : List A) → lines (x ∷ xs) ≡ line x ++ lines xs)
    → (xs : List A) (i : ℕ) (d : A) → i < length xs → (whole text longer : List ℕ) → whole ≡ text ++ lines (drop i xs) → longer ≡ text ++ line (get_or xs i d)
    → whole ≡ longer ++ lines (drop (i + 1) xs)
line-goes lines line step xs i d within whole text longer before added =
    before ∙ ap (λ ys. text ++ lines ys) (drop_more xs i d within) ∙ ap (λ t. text ++ t) (step (get_or xs i d) (drop (i + 1) xs))
    ∙ sym (append_assoc text (line (get_or xs i d)) (lines (drop (i + 1) xs))) ∙ ap (λ t. t ++ lines (drop (i + 1) xs)) (sym added)

-- three pieces, one by one
pub three-pieces : (done : Result ⊤ NoMemory) (old first second longer x y z : List ℕ) → first ≡ old ++ x → second ≡ first ++ y → IfOk done (λ _. longer ≡ second ++ z)
    → IfOk done (λ _. longer ≡ old ++ ((x ++ y) ++ z))
three-pieces done old first second longer x y z by_x by_y by_z = IfOk-equal done longer (second ++ z) (old ++ ((x ++ y) ++ z)) by_z
    (ap (λ t. t ++ z) (by_y ∙ ap (λ t. t ++ y) by_x ∙ append_assoc old x y) ∙ append_assoc old (x ++ y) z)
