-- What a walk over nodes adds to those that it has met.
use Rattle.std.proofs.Common.{◌≡◌, ◌∙◌, ◌⊎◌, inl, inr, sym, ap, subst, refl, arith, ℕ, zero, suc, ◌+◌, ◌<◌, ◌≤◌, Bool, true, false, nat_lt, ltb-true, ltb-false, List, [], ◌∷◌, length, take, get_or, Some, None, slice_get}
use Rattle.std.specs.List.{Contains}
use Rattle.std.proofs.lemmas.List.{take_more}
use Rattle.std.proofs.lemmas.List.Elements.{Contains-push_cases}
use Rattle.std.proofs.lemmas.Option.{slice_get_within, slice_get-get_or, get_or_from_slice_get}
use Rattle.cell_graph.specs.declared.cell.Node.{Node}
use Rattle.cell_graph.specs.Cells.{Cells}
use Rattle.fifo_ways.specs.Feeds.{IsFeedOf, IsFed, first, below, KeepPlaces}

pub taken-cases : {X : Type 0} (xs : List X) (i : ℕ) (d x : X) → i < length xs → Contains (take (i + 1) xs) x
    → Contains (take i xs) x ⊎ (get_or xs i d ≡ x)
taken-cases xs i d x lt h = Contains-push_cases (take i xs) (get_or xs i d) x (subst (λ ys. Contains ys x) (take_more xs i d lt) h)

-- an item by its place
pub placed : {X : Type 0} (xs : List X) (k : ℕ) (x : X) → slice_get xs k ≡ Some x → Contains xs x
placed xs k x e = (k, slice_get_within xs k x e, get_or_from_slice_get xs k x x e)

pub place-of : {X : Type 0} (xs : List X) (x : X) → Contains xs x → (k : ℕ) × (k < length xs) × (slice_get xs k ≡ Some x)
place-of xs x h = (h.0, h.1, slice_get-get_or xs h.0 x h.1 ∙ ap Some h.2)

-- a place where there is none is past the list
past : {X : Type 0} (xs : List X) (k : ℕ) → slice_get xs k ≡ None → length xs ≤ k
past [] k e = omega arith
past (x ∷ xs) zero e = cc
past (x ∷ xs) (suc k) e = let l = past xs k e in omega arith

-- ---- the feeds of one node

module _ (feeds : List Node) (n : ℕ) (feed : Node) (at : slice_get feeds n ≡ Some feed) where
  pub feed-more : (old new : List Node) → Contains new feed → ((m : Node) → Contains old m → Contains new m)
      → ((k : ℕ) (m : Node) → k < n → slice_get feeds k ≡ Some m → Contains old m)
      → (k : ℕ) (m : Node) → k < n + 1 → slice_get feeds k ≡ Some m → Contains new m
  feed-more old new there kept so k m lt e = go (nat_lt k n) refl
    where
      go : (b : Bool) → nat_lt k n ≡ b → Contains new m
      go true f = kept m (so k m (ltb-true k n f) e)
      go false f =
          let l = ltb-false k n f in
          let is : n ≡ k = omega arith in
          let t = ap (slice_get feeds) is in
          let same : feed ≡ m = cc in
          subst (Contains new) same there

  pub feed-only : {O A : Type 0} (m : Node) → (O ⊎ (m ≡ feed)) → (O → A ⊎ Contains feeds m) → A ⊎ Contains feeds m
  feed-only m (inl o) so = so o
  feed-only m (inr e) so = inr (subst (Contains feeds) (sym e) (placed feeds n feed at))

-- where there are no further feeds all were met
pub feeds-end : (feeds : List Node) (n : ℕ) (nodes : List Node) → slice_get feeds n ≡ None
    → ((k : ℕ) (m : Node) → k < n → slice_get feeds k ≡ Some m → Contains nodes m) → (m : Node) → Contains feeds m → Contains nodes m
feeds-end feeds n nodes end so m h =
    let at = place-of feeds m h in
    let l = past feeds n end in
    let lt = at.1 in
    so at.0 m (omega arith) at.2

-- ---- the nodes in turn

module _ (g : Cells) (roots old new : List Node) (place : ℕ) (node : Node) (at : slice_get old place ≡ Some node) (places : KeepPlaces old new)
    (kept : (n : Node) → Contains old n → Contains new n) (there : (n : Node) → IsFeedOf g node n → Contains new n)
    (only : (n : Node) → Contains new n → Contains old n ⊎ IsFeedOf g node n) where
  pub more_closed : ((k : ℕ) (n m : Node) → k < place → slice_get old k ≡ Some n → IsFeedOf g n m → Contains old m)
      → (k : ℕ) (n m : Node) → k < place + 1 → slice_get new k ≡ Some n → IsFeedOf g n m → Contains new m
  more_closed closed k n m lt e of = go (nat_lt k place) refl
    where
      go : (b : Bool) → nat_lt k place ≡ b → Contains new m
      go true t =
          let l = ltb-true k place t in
          let w : place < length old = slice_get_within old place node at in
          let o = slice_get-get_or old k node (omega arith) in
          let p = places k (get_or old k node) o in
          let s : get_or old k node ≡ n = cc in
          kept m (closed k n m l (o ∙ ap Some s) of)
      go false t =
          let l = ltb-false k place t in
          let is : place ≡ k = omega arith in
          let p = places place node at in
          let q = ap (slice_get new) is in
          let s : n ≡ node = cc in
          there m (subst (λ x. IsFeedOf g x m) s of)

  pub more_below : ((n : Node) → Contains old n → IsFed g roots n) → (n : Node) → Contains new n → IsFed g roots n
  more_below fed n h = go (only n h)
    where
      go : Contains old n ⊎ IsFeedOf g node n → IsFed g roots n
      go (inl k) = fed n k
      go (inr of) = below (fed node (placed old place node at)) of

-- where the walk has come to its end all that is fed was met
pub all_fed : (g : Cells) (roots nodes : List Node) (place : ℕ) → slice_get nodes place ≡ None → ((n : Node) → Contains roots n → Contains nodes n)
    → ((k : ℕ) (n m : Node) → k < place → slice_get nodes k ≡ Some n → IsFeedOf g n m → Contains nodes m) → (n : Node) → IsFed g roots n
    → Contains nodes n
all_fed g roots nodes place end tops closed n (first h) = tops n h
all_fed g roots nodes place end tops closed m (below {n = n} fed of) =
    let at = place-of nodes n (all_fed g roots nodes place end tops closed n fed) in
    let l = past nodes place end in
    let lt = at.1 in
    closed at.0 n m (omega arith) at.2 of
