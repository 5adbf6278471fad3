-- What more roots add to a walk.
use Rattle.std.proofs.Common.{◌≡◌, ◌∙◌, ◌⊎◌, ◌↔◌, inl, inr, sym, ap, subst, arith, ℕ, ◌<◌, ◌+◌, List, [], ◌∷◌, ◌++◌, length, take, replicate, Bool, false}
use Rattle.std.specs.List.{Contains}
use Rattle.std.proofs.lemmas.List.{length-replicate, length-append, take_at}
use Rattle.std.proofs.lemmas.List.Elements.{Contains-push, Contains-push_cases, Contains-append_left}
use Rattle.driver_loops.specs.Orders.{Reaches, IsReached, IsFront, IsOrderOf}
use Rattle.driver_loops.specs.declared.walk.Walk.{Walk}
use Rattle.driver_loops.specs.Walks.{IsDone, HasWalked}
use Rattle.driver_loops.proofs.Members.{nothing_in, none_marked}

pub none_reached : (ls : List (List ℕ)) (v : ℕ) → Contains [] v ↔ IsReached ls [] v
none_reached ls v = (λ h. absurd (nothing_in v h), λ r. absurd (nothing_in r.root r.given))

-- nothing is entered yet
pub nothing_done : (ls : List (List ℕ)) → IsDone ls (replicate (length ls) false) []
nothing_done ls = record {
  size = length-replicate (length ls) false;
  marked = λ v h. absurd (nothing_in v h);
  met = λ v h. absurd (none_marked (length ls) v h);
  once = λ i j d lt within. absurd (omega arith);
  closed = λ v w h l. absurd (nothing_in v h);
  depth_first = λ i v u w at h l. absurd (cc);
}

module _ (ls : List (List ℕ)) (roots : List ℕ) (root : ℕ) (o new : List ℕ) (old : (v : ℕ) → Contains o v ↔ IsReached ls roots v)
    (step : (v : ℕ) → Contains new v ↔ (Contains o v ⊎ ((root < length ls) × Reaches ls root v))) where
  there : (v : ℕ) → Contains o v ⊎ ((root < length ls) × Reaches ls root v) → IsReached ls (roots ++ root ∷ []) v
  there v (inl h) =
      let r = (old v).0 h in
      record { root = r.root; given = Contains-append_left roots (root ∷ []) r.root r.given; vertex = r.vertex; way = r.way }
  there v (inr h) = record { root = root; given = Contains-push roots root; vertex = h.0; way = h.1 }

  back : (v : ℕ) → IsReached ls (roots ++ root ∷ []) v → Contains o v ⊎ ((root < length ls) × Reaches ls root v)
  back v r = elim (Contains-push_cases roots root r.root r.given) [
    | inl k ↦ inl ((old v).1 record { root = r.root; given = k; vertex = r.vertex; way = r.way })
    | inr same ↦ inr (subst (λ x. x < length ls) (sym same) r.vertex, subst (λ x. Reaches ls x v) (sym same) r.way)
  ]

  -- a root more adds what it leads to
  pub more_reached : (v : ℕ) → Contains new v ↔ IsReached ls (roots ++ root ∷ []) v
  more_reached v = (λ h. there v ((step v).0 h), λ r. (step v).1 (back v r))

-- a walk's order
pub order_of : (ls : List (List ℕ)) (e : List Bool) (roots o : List ℕ) → IsDone ls e o → ((v : ℕ) → Contains o v ↔ IsReached ls roots v) → IsOrderOf ls roots o
order_of ls e roots o done reached = record { once = done.once; reached = reached; depth_first = done.depth_first }

pub front_of : (ls : List (List ℕ)) (roots o rest new : List ℕ) → ((v : ℕ) → Contains o v ↔ IsReached ls roots v) → new ≡ o ++ rest → (n : ℕ) → n ≡ length o → IsFront ls roots new n
front_of ls roots o rest new reached longer n count =
    let same : take n new ≡ o = ap (take n) longer ∙ take_at o rest n (sym count) in
    let l : length new ≡ length o + length rest = ap length longer ∙ length-append o rest in
    record { within = omega arith; reached = subst (λ xs. (v : ℕ) → Contains xs v ↔ IsReached ls roots v) (sym same) reached }

pub walk_begun : (ls : List (List ℕ)) (w : Walk) (n : ℕ) → n ≡ length ls → w.entered.items ≡ replicate n false → w.way.items ≡ [] → w.order.items ≡ [] → HasWalked ls [] w
walk_begun ls w n count entered way order = record {
  way = way;
  done = subst (IsDone ls w.entered.items) (sym order)
      (subst (λ marks. IsDone ls marks []) (sym (entered ∙ ap (λ k. replicate k false) count)) (nothing_done ls));
  reached = subst (λ o. (v : ℕ) → Contains o v ↔ IsReached ls [] v) (sym order) (none_reached ls);
}
