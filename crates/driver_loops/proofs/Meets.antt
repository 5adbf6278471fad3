-- The pieces of one signal, among pieces in order.
use Rattle.std.proofs.Common.{◌≡◌, ◌∙◌, sym, ap, subst, refl, arith, ℕ, zero, suc, ◌<◌, ◌≤◌, ◌+◌, ◌==◌, ◌&&◌, List, [], ◌∷◌, length, drop, get_or, Bool, true, false, cond}
use Rattle.std.specs.List.{AllWithin}
use Rattle.std.specs.List.Sorted.{IsNonDecreasingBy}
use Rattle.std.proofs.lemmas.List.{drop_more, get_or-drop, length-drop}
use Rattle.std.proofs.lemmas.Bool.Decides.{nat_tests}
use Rattle.driver_trees.specs.declared.sketch.Piece.{Piece}
use Rattle.driver_trees.specs.Sketches.{AreOrdered}
use Rattle.driver_loops.specs.Leads.{has_bits, meeting_places}
use Rattle.driver_loops.specs.Links.{extended}
use Rattle.driver_loops.proofs.Rows.{extended-twice}

-- pieces of other signals meet nothing
other_skipped : (n : ℕ) (p : Piece) (ps : List Piece) (sig at w : ℕ) → (p.sig ≡ sig → ⊥) → meeting_places n (p ∷ ps) sig at w ≡ meeting_places (suc n) ps sig at w
other_skipped n p ps sig at w h = ap (λ b. cond (b && has_bits p at w) (n ∷ meeting_places (suc n) ps sig at w) (meeting_places (suc n) ps sig at w)) (unequal p.sig sig h)
  where
    unequal : (a b : ℕ) → (a ≡ b → ⊥) → (a == b) ≡ false
    unequal a b h = grind (arith, nat_tests)

pub lower_skipped : (n : ℕ) (ps : List Piece) (sig at w m : ℕ) → m ≤ length ps → AllWithin (λ (p : Piece). p.sig < sig) ps 0 m
    → meeting_places n ps sig at w ≡ meeting_places (n + m) (drop m ps) sig at w
lower_skipped n ps sig at w zero h below = ap (λ k. meeting_places k ps sig at w) (let e : n ≡ n + 0 = omega arith in e)
lower_skipped n [] sig at w (suc m) h below = absurd (omega arith)
lower_skipped n (p ∷ ps) sig at w (suc m) h below =
    let lt : p.sig < sig = below 0 p (omega arith) (omega arith) in
    other_skipped n p ps sig at w (λ e. absurd (omega arith))
    ∙ lower_skipped (suc n) ps sig at w m (omega arith) (λ k d l g. below (suc k) d (omega arith) (omega arith))
    ∙ ap (λ k. meeting_places k (drop m ps) sig at w) (let e : suc n + m ≡ n + suc m = omega arith in e)

pub none_above : (n : ℕ) (ps : List Piece) (sig at w : ℕ) → ((k : ℕ) (d : Piece) → k < length ps → sig < (get_or ps k d).sig) → meeting_places n ps sig at w ≡ []
none_above n [] sig at w above = refl
none_above n (p ∷ ps) sig at w above =
    let lt : sig < p.sig = above 0 p (omega arith) in
    other_skipped n p ps sig at w (λ e. absurd (omega arith)) ∙ none_above (suc n) ps sig at w (λ k d h. above (suc k) d (omega arith))

pub upper_skipped : (n : ℕ) (ps : List Piece) (sig at w m : ℕ) → AllWithin (λ (p : Piece). sig < p.sig) ps m (length ps) → meeting_places n (drop m ps) sig at w ≡ []
upper_skipped n ps sig at w m above = none_above n (drop m ps) sig at w
    (λ k d h. subst (λ (p : Piece). sig < p.sig) (sym (get_or-drop m ps k d)) (above (m + k) d (omega arith) (let l = length-drop m ps in omega arith)))

-- the next piece of the signal
pub one_met : (n : ℕ) (ps : List Piece) (sig at w k : ℕ) (d : Piece) → k < length ps → (get_or ps k d).sig ≡ sig
    → meeting_places n (drop k ps) sig at w
    ≡ cond (has_bits (get_or ps k d) at w) (n ∷ meeting_places (suc n) (drop (k + 1) ps) sig at w) (meeting_places (suc n) (drop (k + 1) ps) sig at w)
one_met n ps sig at w k d lt e =
    ap (λ xs. meeting_places n xs sig at w) (drop_more ps k d lt)
    ∙ ap (λ b. cond (b && has_bits (get_or ps k d) at w) (n ∷ meeting_places (suc n) (drop (k + 1) ps) sig at w) (meeting_places (suc n) (drop (k + 1) ps) sig at w)) (equal (get_or ps k d).sig sig e)
  where
    equal : (a b : ℕ) → a ≡ b → (a == b) ≡ true
    equal a b e = grind (arith, nat_tests)

pub by_signal : (ps : List Piece) → AreOrdered ps → IsNonDecreasingBy (λ (p : Piece). p.sig) ps
by_signal [] h i j d le within = absurd (omega arith)
by_signal (p ∷ ps) h zero zero d le within = omega arith
by_signal (p ∷ ps) h zero (suc j) d le within = (h.0 j d (omega arith)).1
by_signal (p ∷ ps) h (suc i) zero d le within = absurd (omega arith)
by_signal (p ∷ ps) h (suc i) (suc j) d le within = by_signal ps h.1 i j d (omega arith) (omega arith)

-- what is left to meet at the next piece of the signal
pub pieces_step : (n : ℕ) (ps : List Piece) (sig at w k : ℕ) (d : Piece) → k < length ps → (get_or ps k d).sig ≡ sig → (old new : List (List ℕ)) (b : Bool) → has_bits (get_or ps k d) at w ≡ b
    → new ≡ cond b (extended old ((n + k) ∷ [])) old
    → extended new (meeting_places (n + (k + 1)) (drop (k + 1) ps) sig at w) ≡ extended old (meeting_places (n + k) (drop k ps) sig at w)
pieces_step n ps sig at w k d lt is old new b has made =
    ap (λ r. extended r (meeting_places (n + (k + 1)) (drop (k + 1) ps) sig at w)) made
    ∙ ap (λ m. extended (cond b (extended old ((n + k) ∷ [])) old) (meeting_places m (drop (k + 1) ps) sig at w)) (let e : n + (k + 1) ≡ suc (n + k) = omega arith in e)
    ∙ go b
    ∙ ap (extended old) (sym (one_met (n + k) ps sig at w k d lt is ∙ ap (λ c. cond c ((n + k) ∷ meeting_places (suc (n + k)) (drop (k + 1) ps) sig at w) (meeting_places (suc (n + k)) (drop (k + 1) ps) sig at w)) has))
  where
    go : (c : Bool) → extended (cond c (extended old ((n + k) ∷ [])) old) (meeting_places (suc (n + k)) (drop (k + 1) ps) sig at w)
        ≡ extended old (cond c ((n + k) ∷ meeting_places (suc (n + k)) (drop (k + 1) ps) sig at w) (meeting_places (suc (n + k)) (drop (k + 1) ps) sig at w))
    go true = extended-twice old ((n + k) ∷ []) (meeting_places (suc (n + k)) (drop (k + 1) ps) sig at w)
    go false = refl
