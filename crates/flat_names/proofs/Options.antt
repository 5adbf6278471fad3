-- Equations between options, and facts of results.
use Rattle.std.proofs.Common.{◌≡◌, Some, None, is_some, Result, Ok, Err, IfOk, ap}
use Rattle.std.specs.Prelude.{unwrap_or}
use Rattle.std.proofs.lemmas.Bool.{false≢true}

pub none-some : {A B : Type 0} (b : B) → None ≡ Some b → A
none-some b h = absurd (false≢true (ap is_some h))

pub some-same : {A : Type 0} (a b : A) → Some a ≡ Some b → a ≡ b
some-same a b h = ap (λ o. unwrap_or o a) h

pub ok-map : {A E : Type 0} {P Q : A → Type 0} (r : Result A E) → ((a : A) → P a → Q a) → IfOk r P → IfOk r Q
ok-map (Ok a) f h = f a h
ok-map (Err e) f h = h

pub ok-both : {A E : Type 0} (P Q : A → Type 0) (r : Result A E) → IfOk r P → IfOk r Q → IfOk r (λ a. P a × Q a)
ok-both P Q (Ok a) h i = (h, i)
ok-both P Q (Err e) h i = h
