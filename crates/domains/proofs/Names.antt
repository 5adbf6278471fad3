-- Look-ups by name over lists.
use Rattle.std.proofs.Common.{◌≡◌, Bool, true, false, cond, List, [], ◌∷◌, ◌++◌, Option, None, Some, refl}
use Rattle.std.specs.Str.{bytes_eq}
use Rattle.clock_constraints.specs.Refusals.{Text}
use Rattle.domains.specs.Tables.{or_else, named}

-- of two lists the first counts
pub named-append : {V : Type 0} (xs ys : List (Text × V)) (q : Text) → named (xs ++ ys) q ≡ or_else (named xs q) (named ys q)
named-append [] ys q = refl
named-append (x ∷ xs) ys q =
    let rest = named-append xs ys q in
    elim (bytes_eq q x.0) as (λ b. cond b (Some x.1) (named (xs ++ ys) q) ≡ or_else (cond b (Some x.1) (named xs q)) (named ys q)) [ true ↦ refl | false ↦ rest ]

-- a pair at the end counts where no earlier one has the name
pub named-push : {V : Type 0} (ps : List (Text × V)) (p : Text × V) (q : Text) → named (ps ++ p ∷ []) q ≡ or_else (named ps q) (cond (bytes_eq q p.0) (Some p.1) None)
named-push ps p q = named-append ps (p ∷ []) q

-- a value that is added last counts where no earlier one is there
pub or-step : {V : Type 0} (a : Option V) (t : Bool) (v : V) (r : Option V) → or_else (or_else a (cond t (Some v) None)) r ≡ or_else a (cond t (Some v) r)
or-step None true v r = refl
or-step None false v r = refl
or-step (Some x) t v r = refl

pub or-none : {V : Type 0} (a : Option V) → or_else a None ≡ a
or-none None = refl
or-none (Some x) = refl
