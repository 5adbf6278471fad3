-- Lists of names, one by one.
use Rattle.std.proofs.Common.{◌≡◌, Bool, true, false, ◌||◌, List, ◌∷◌, sym, ap, ◌∙◌}
use Rattle.std.specs.List.{list_any}

pub names-found : {A : Type 0} (P : A → Bool) (x : A) (rest : List A) (b : Bool) → list_any P (x ∷ rest) ≡ b → P x ≡ true → true ≡ b
names-found P x rest b h e = ap (λ t. t || list_any P rest) (sym e) ∙ h

pub names-then : {A : Type 0} (P : A → Bool) (x : A) (rest : List A) (b : Bool) → list_any P (x ∷ rest) ≡ b → P x ≡ false → list_any P rest ≡ b
names-then P x rest b h e = ap (λ t. t || list_any P rest) (sym e) ∙ h
