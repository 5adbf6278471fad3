-- What a design's entries show of a signal.
use Rattle.std.proofs.Common.{◌≡◌, ℕ, zero, suc, List, [], ◌∷◌, map, Some, sym, ap, ◌∙◌, rules}
use Rattle.std.specs.Prelude.{slice_get}
use Rattle.flat_unfolding.specs.Names as n
use Rattle.flat_unfolding.specs.Names.{width_at}
use Rattle.flat_unfolding.proofs.Steps.{some_is}
use Rattle.flat_names.specs.declared.design.Entry.{Entry}
use Rattle.flat_names.specs.Looks.{Seen, seen, shown}
use Rattle.flat_design.proofs.Resolving.{heads}

-- the width of a signal that is there
pub width-shown : (xs : List Entry) (es : List n.Entry) → map seen xs ≡ map shown es → (s : ℕ) (x : Entry) → slice_get xs s ≡ Some x → x.width ≡ width_at es s
width-shown [] es h s x d = absurd (search (rules, d))
width-shown (y ∷ xs) [] h s x d = absurd (search (rules, h))
width-shown (y ∷ xs) (a ∷ es) h zero x d = ap (λ (z : Entry). z.width) (sym (some_is y x d)) ∙ ap (λ (k : Seen). k.width) (heads (seen y) (shown a) (map seen xs) (map shown es) h).0
width-shown (y ∷ xs) (a ∷ es) h (suc s) x d = width-shown xs es (heads (seen y) (shown a) (map seen xs) (map shown es) h).1 s x d
