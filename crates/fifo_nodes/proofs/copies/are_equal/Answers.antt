-- What an equality tells of items it tells of lists.
use Rattle.std.proofs.Common.{◌≡◌, ◌∙◌, ◌∷◌, [], sym, refl, ap₂, Bool, true, List}
use Rattle.std.specs.Cmp.Lexicographic.{pointwise}
use Rattle.std.proofs.lemmas.Bool.{and_parts}
use Rattle.fifo_nodes.proofs.copies.are_equal.Goals as goal

same_lists : {A : Type 0} (eq : A → A → Bool) → ((a b : A) → eq a b ≡ true → a ≡ b) → (xs ys : List A) → pointwise eq xs ys ≡ true → xs ≡ ys
same_lists eq tells [] [] h = refl
same_lists eq tells [] (y ∷ ys) h = cc
same_lists eq tells (x ∷ xs) [] h = cc
same_lists {A} eq tells (x ∷ xs) (y ∷ ys) h =
    let both = and_parts (eq x y) (pointwise eq xs ys) h in
    ap₂ (λ (z : A) (zs : List A). z ∷ zs) (tells x y both.0) (same_lists eq tells xs ys both.1)

pub returns : goal.returns
returns g c = λ e. same_lists g.T.PartialEq.eq c.requires c.args.one.now c.args.another.now (sym c.eq.ensures ∙ e)
