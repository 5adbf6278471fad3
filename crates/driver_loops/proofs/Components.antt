-- Vertices that lead to each other. A walk against the links, its roots taken from the order's end, adds at each root
-- the vertices that lead to the root and back.
use Rattle.std.proofs.Common.{◌≡◌, ◌≢◌, ◌∙◌, ◌⊎◌, ◌↔◌, inl, inr, sym, ap, subst, refl, arith, ℕ, zero, suc, ◌<◌, ◌≤◌, ◌+◌, List, [], ◌∷◌, ◌++◌, Some, slice_get, Bool, length, take, drop, get_or, replicate, false}
use Rattle.std.specs.List.{Contains, AllPairs}
use Rattle.std.proofs.lemmas.Bool.{cases_eq, cases_lt}
use Rattle.std.proofs.lemmas.Option.{slice_get_within}
use Rattle.std.proofs.lemmas.List.{get_or_append_left, get_or-append-add, length-append, drop_at}
use Rattle.std.proofs.lemmas.List.Elements.{Contains-append_left, Contains-append_right, Contains-append_cases, Contains-get_or}
use Rattle.driver_loops.specs.Links.{ends_of, IsLink}
use Rattle.driver_loops.specs.Orders.{Reaches, here, link, LeadsBack, IsClosed, IsDepthFirst, IsOrderOf}
use Rattle.driver_loops.specs.declared.walk.Walk.{Walk}
use Rattle.driver_loops.specs.Walks.{IsMarked, IsDone}
use Rattle.driver_loops.proofs.Members.{contains_get, get_contains, nothing_in, none_marked}
use Rattle.driver_loops.proofs.Ways.{reaches-trans, closed_reaches}
use Rattle.driver_loops.proofs.Fronts.{nothing_done}
use Rattle.driver_loops.proofs.Loops.{place_in, in_front, same_place}

-- ---- ways of one link or more

-- the first link of a way and a link
pub first_link : (ls : List (List ℕ)) (v u w : ℕ) → Reaches ls v u → IsLink ls u w → (next : ℕ) × IsLink ls v next × Reaches ls next w
first_link ls v u w here l = (w, l, here)
first_link ls v u w (link {u = x} more k) l =
    let r = first_link ls v x u more k in
    (r.0, r.1, link r.2 l)

pub leads_back_by : (ls : List (List ℕ)) (v u w : ℕ) → Reaches ls v u → IsLink ls u w → Reaches ls w v → LeadsBack ls v
leads_back_by ls v u w first l rest =
    let r = first_link ls v u w first l in
    record { next = r.0; first = r.1; rest = reaches-trans ls r.0 w v r.2 rest }

-- to another vertex and back
pub there_and_back : (ls : List (List ℕ)) (v w : ℕ) → v ≢ w → Reaches ls v w → Reaches ls w v → LeadsBack ls v
there_and_back ls v w other here back = absurd (other refl)
there_and_back ls v w other (link {u = u} more l) back = leads_back_by ls v u w more l back

-- ---- items that are there once

pub once_apart : (xs ys : List ℕ) (v : ℕ) → AllPairs (λ v w. v ≢ w) (xs ++ ys) → Contains xs v → Contains ys v → ⊥
once_apart xs ys v once h k =
    let a = h.1 in
    let b = k.1 in
    let n = length-append xs ys in
    once h.0 (length xs + k.0) v (omega arith) (omega arith)
    (get_or_append_left xs ys v h.0 h.1 ∙ h.2 ∙ sym (get_or-append-add xs ys k.0 v ∙ k.2))

pub once_behind : (xs ys : List ℕ) → AllPairs (λ v w. v ≢ w) (xs ++ ys) → AllPairs (λ v w. v ≢ w) ys
once_behind xs ys once i j d lt within =
    let n = length-append xs ys in
    subst (λ z. get_or ys i d ≢ z) (get_or-append-add xs ys j d)
    (subst (λ z. z ≢ get_or (xs ++ ys) (length xs + j) d) (get_or-append-add xs ys i d) (once (length xs + i) (length xs + j) d (omega arith) (omega arith)))

-- one of several items is another than v
pub another : (xs : List ℕ) (v : ℕ) → AllPairs (λ v w. v ≢ w) xs → 1 < length xs → (u : ℕ) × Contains xs u × (v ≢ u)
another xs v once many = elim (cases_eq (get_or xs 0 v) v) [
  | inl e ↦ (get_or xs 1 v, Contains-get_or xs 1 v many, λ s. once 0 1 v (omega arith) many (e ∙ s))
  | inr d ↦ (get_or xs 0 v, Contains-get_or xs 0 v (omega arith), λ s. d (sym s))
]

-- a list of one item at most has the same items
pub only_one : (xs : List ℕ) (v w : ℕ) → length xs ≤ 1 → Contains xs v → Contains xs w → v ≡ w
only_one [] v w few h k = absurd (nothing_in v h)
only_one (x ∷ []) v w few h k = lone x v h ∙ sym (lone x w k)
  where
    lone : (x y : ℕ) → Contains (x ∷ []) y → y ≡ x
    lone x y (zero, lt, e) = sym e
    lone x y (suc n, lt, e) = absurd (omega arith)
only_one (x ∷ y ∷ xs) v w few h k = absurd (omega arith)

-- ---- depth-first orders

-- v leads to a vertex that stands at place i or behind it
pub record LeadsPast (ls : List (List ℕ)) (o : List ℕ) (i v : ℕ) : Type 0 where
  pub place : ℕ
  pub vertex : ℕ
  pub past : i ≤ place
  pub at : slice_get o place ≡ Some vertex
  pub way : Reaches ls v vertex

-- a way from x to r leaves the front that ends with v, which stands at place p
record Leaves (ls : List (List ℕ)) (o : List ℕ) (p v x r : ℕ) : Type 0 where
  place : ℕ
  vertex : ℕ
  past : p < place
  at : slice_get o place ≡ Some vertex
  returns : Reaches ls vertex v
  before : Reaches ls x vertex
  rest : Reaches ls vertex r

module _ (ls : List (List ℕ)) (o : List ℕ) (once : AllPairs (λ v w. v ≢ w) o) (closed : IsClosed ls o) (depth : IsDepthFirst ls o) where
  pub past_more : (i v w : ℕ) → Reaches ls v w → LeadsPast ls o i w → LeadsPast ls o i v
  past_more i v w way h = record { place = h.place; vertex = h.vertex; past = h.past; at = h.at; way = reaches-trans ls v w h.vertex way h.way }

  leaves_by : (p v x u r : ℕ) → slice_get o p ≡ Some v → Contains (take (p + 1) o) u → Reaches ls x u → IsLink ls u r → Reaches ls r v
      → Contains (take (p + 1) o) r ⊎ Leaves ls o p v x r
  leaves_by p v x u r at h first l turn =
      let u_at = place_in o (p + 1) u h in
      let r_at = get_contains o r (closed u r (contains_get o u_at.0 u u_at.2) l) in
      elim (cases_lt p r_at.0) [
        | inl past ↦ inr record { place = r_at.0; vertex = r; past = past; at = r_at.2; returns = turn; before = link first l; rest = here }
        | inr le ↦ inl (in_front o (p + 1) r_at.0 r (omega arith) r_at.2)
      ]

  leaves : (p v x r : ℕ) → slice_get o p ≡ Some v → Contains (take (p + 1) o) x → Reaches ls x r → Contains (take (p + 1) o) r ⊎ Leaves ls o p v x r
  leaves p v x r at h here = inl h
  leaves p v x r at h (link {u = u} first l) = elim (leaves p v x u at h first) [
    | inl k ↦ elim (depth p v u r at k l) [
      | inl j ↦ inl j
      | inr turn ↦ leaves_by p v x u r at k first l turn
    ]
    | inr e ↦ inr record { place = e.place; vertex = e.vertex; past = e.past; at = e.at; returns = e.returns; before = e.before; rest = link e.rest l }
  ]

  stays : (p v i r q : ℕ) → p ≤ i → q < p + 1 → slice_get o p ≡ Some v → slice_get o i ≡ Some r → slice_get o q ≡ Some r → Reaches ls r v
  stays p v i r q front lt at r_at q_at = elim (cases_lt q i) [
    | inl low ↦ absurd (same_place o q i r once low q_at r_at)
    | inr high ↦
        let e : p ≡ i = omega arith in
        let s : v ≡ r = (let f = ap (slice_get o) e in cc) in
        subst (λ x. Reaches ls r x) (sym s) here
  ]

  leads_once : (p v i r : ℕ) → slice_get o p ≡ Some v → slice_get o i ≡ Some r → Reaches ls v r
      → (Reaches ls r v ⊎ LeadsPast ls o (i + 1) v) ⊎ Leaves ls o p v v r
  leads_once p v i r at r_at way = elim (cases_lt i p) [
    | inl past ↦ inl (inr record { place = p; vertex = v; past = omega arith; at = at; way = here })
    | inr front ↦ elim (leaves p v v r at (in_front o (p + 1) p v (omega arith) at) way) [
      | inl k ↦ let q = place_in o (p + 1) r k in inl (inl (stays p v i r q.0 front q.1 at r_at q.2))
      | inr e ↦ inr e
    ]
  ]

  -- the vertex at place i leads to those that lead to it, except where they lead past it
  pub leads_to : (n p v i r : ℕ) → i ≤ p + n → slice_get o p ≡ Some v → slice_get o i ≡ Some r → Reaches ls v r → Reaches ls r v ⊎ LeadsPast ls o (i + 1) v
  leads_to zero p v i r le at r_at way = elim (leads_once p v i r at r_at way) [
    | inl d ↦ d
    | inr e ↦ inr record { place = e.place; vertex = e.vertex; past = (let q = e.past in omega arith); at = e.at; way = e.before }
  ]
  leads_to (suc n) p v i r le at r_at way = elim (leads_once p v i r at r_at way) [
    | inl d ↦ d
    | inr e ↦ elim (leads_to n e.place e.vertex i r (let q = e.past in omega arith) e.at r_at e.rest) [
      | inl back ↦ inl (reaches-trans ls r e.vertex v back e.returns)
      | inr past ↦ inr (past_more (i + 1) v e.vertex e.before past)
    ]
  ]

  -- ---- links turned round

  module _ (back : List (List ℕ)) (within : (v : ℕ) → Contains o v → v < length ls) (size : length back ≡ length ls)
      (turned : (v w : ℕ) → Contains (ends_of back w) v ↔ (Contains o v × IsLink ls v w)) where
    forth : (r v : ℕ) → Contains o r → Reaches back r v → Contains o v × Reaches ls v r
    forth r v h here = (h, here)
    forth r v h (link {u = u} first l) =
        let p = forth r u h first in
        let t = (turned v u).0 l.end in
        (t.0, reaches-trans ls v u r (link here t.1) p.1)

    against : (v r : ℕ) → Contains o v → Reaches ls v r → Reaches back r v
    against v r h here = here
    against v r h (link {u = u} first l) =
        let u_in = closed_reaches ls o v u closed h first in
        let k : IsLink back r u = record { end = (turned u r).1 (u_in, l); vertex = (let lt = within u u_in in let n = size in omega arith) } in
        reaches-trans back r u v (link here k) (against v u h first)

    -- the walk's vertices are those that lead to place i or past it
    abbrev pub AreJoined : ℕ → List ℕ → Type 0
    AreJoined i joined = (v : ℕ) → Contains joined v ↔ (Contains o v × LeadsPast ls o i v)

    pub none_joined : AreJoined (length o) []
    none_joined v = (λ h. absurd (nothing_in v h), λ h. absurd (let lt = slice_get_within o h.1.place h.1.vertex h.1.at in let p = h.1.past in omega arith))

    pub all_joined : (joined : List ℕ) → AreJoined 0 joined → (v : ℕ) → Contains joined v ↔ Contains o v
    all_joined joined are v = (
      λ h. ((are v).0 h).0,
      λ h. let at = get_contains o v h in (are v).1 (h, record { place = at.0; vertex = v; past = omega arith; at = at.2; way = here }),
    )

    module _ (i r : ℕ) (joined added : List ℕ) (r_at : slice_get o i ≡ Some r) (are : AreJoined (i + 1) joined)
        (step : (v : ℕ) → Contains (joined ++ added) v ↔ (Contains joined v ⊎ ((r < length back) × Reaches back r v)))
        (apart : AllPairs (λ v w. v ≢ w) (joined ++ added)) where
      r_in : Contains o r
      r_in = contains_get o i r r_at

      more : (v : ℕ) → Contains (joined ++ added) v → Contains o v × LeadsPast ls o i v
      more v h = elim ((step v).0 h) [
        | inl k ↦
            let p = ((are v).0 k).1 in
            (((are v).0 k).0, record { place = p.place; vertex = p.vertex; past = (let q = p.past in omega arith); at = p.at; way = p.way })
        | inr k ↦
            let p = forth r v r_in k.1 in
            (p.0, record { place = i; vertex = r; past = omega arith; at = r_at; way = p.1 })
      ]

      leads_to_root : (v : ℕ) → Contains o v → Reaches ls v r → Contains (joined ++ added) v
      leads_to_root v h way = (step v).1 (inr ((let lt = within r r_in in let n = size in omega arith), against v r h way))

      was_joined : (v : ℕ) → Contains o v × LeadsPast ls o i v → Contains (joined ++ added) v
      was_joined v (h, p) = elim (cases_lt i p.place) [
        | inl past ↦ (step v).1 (inl ((are v).1 (h, record { place = p.place; vertex = p.vertex; past = omega arith; at = p.at; way = p.way })))
        | inr le ↦
            let e : p.place ≡ i = (let q = p.past in omega arith) in
            let s : p.vertex ≡ r = (let f = ap (slice_get o) e in let g = p.at in cc) in
            leads_to_root v h (subst (λ x. Reaches ls v x) s p.way)
      ]

      pub root_joined : AreJoined i (joined ++ added)
      root_joined v = (more v, was_joined v)

      -- what is added leads to the root and back
      pub both_ways : (v : ℕ) → Contains added v → Reaches ls v r × Reaches ls r v
      both_ways v h = elim ((step v).0 (Contains-append_right joined added v h)) [
        | inl k ↦ absurd (once_apart joined added v apart k h)
        | inr k ↦
            let p = forth r v r_in k.1 in
            let at = get_contains o v p.0 in
            elim (leads_to i at.0 v i r (omega arith) at.2 r_at p.1) [
              | inl back_way ↦ (p.1, back_way)
              | inr past ↦ absurd (once_apart joined added v apart ((are v).1 (p.0, past)) h)
            ]
      ]

      -- a vertex that leads to the root and that the root leads to is added, where anything is
      component : (v w : ℕ) → Contains added v → Contains o w → Reaches ls w r → Reaches ls r w → Contains added w
      component v w h w_in to from = elim (Contains-append_cases joined added w (leads_to_root w w_in to)) [
        | inl k ↦ absurd (once_apart joined added v apart
            ((are v).1 (((more v (Contains-append_right joined added v h)).0), past_more (i + 1) v w (reaches-trans ls v r w (both_ways v h).0 from) ((are w).0 k).1)) h)
        | inr k ↦ k
      ]

      pub on_loop : (v : ℕ) → Contains added v → (1 < length added) ⊎ Contains (ends_of ls r) r → LeadsBack ls v
      on_loop v h (inl many) =
          let u = another added v (once_behind joined added apart) many in
          there_and_back ls v u.0 u.2 (reaches-trans ls v r u.0 (both_ways v h).0 (both_ways u.0 u.1).1) (reaches-trans ls u.0 r v (both_ways u.0 u.1).0 (both_ways v h).1)
      on_loop v h (inr itself) = leads_back_by ls v r r (both_ways v h).0 record { end = itself; vertex = within r r_in } (both_ways v h).1

      pub is_loop : (v : ℕ) → Contains added v → LeadsBack ls v → (1 < length added) ⊎ Contains (ends_of ls r) r
      is_loop v h back_way = elim (cases_lt 1 (length added)) [
        | inl many ↦ inl many
        | inr few ↦ inr (itself few)
      ]
        where
          v_in : Contains o v
          v_in = (more v (Contains-append_right joined added v h)).0

          itself : length added ≤ 1 → Contains (ends_of ls r) r
          itself few =
              let w = back_way.next in
              let w_in = closed v w v_in back_way.first in
              let w_to = reaches-trans ls w v r back_way.rest (both_ways v h).0 in
              let w_from = reaches-trans ls r v w (both_ways v h).1 (link here back_way.first) in
              let w_is : w ≡ r = only_one added w r few (component v w h w_in w_to w_from) (component v r h r_in here here) in
              let v_is : v ≡ r = only_one added v r few h (component v r h r_in here here) in
              subst (λ x. Contains (ends_of ls x) r) v_is (subst (λ x. Contains (ends_of ls v) x) w_is back_way.first.end)

      -- ---- marks

      module _ (marks new : List Bool) (long : length marks ≡ length ls) (old : (v : ℕ) → IsMarked marks v ↔ (Contains joined v × LeadsBack ls v)) where
        pub marks_more : (1 < length added) ⊎ Contains (ends_of ls r) r
            → ((v : ℕ) → IsMarked new v ↔ (IsMarked marks v ⊎ (Contains added v × (v < length marks))))
            → (v : ℕ) → IsMarked new v ↔ (Contains (joined ++ added) v × LeadsBack ls v)
        marks_more test marked v = (
          λ h. elim ((marked v).0 h) [
            | inl k ↦ (Contains-append_left joined added v ((old v).0 k).0, ((old v).0 k).1)
            | inr k ↦ (Contains-append_right joined added v k.0, on_loop v k.0 test)
          ],
          λ h. elim (Contains-append_cases joined added v h.0) [
            | inl k ↦ (marked v).1 (inl ((old v).1 (k, h.1)))
            | inr k ↦ (marked v).1 (inr (k, (let lt = within v (more v h.0).0 in let n = long in omega arith)))
          ],
        )

        pub marks_stay : ((1 < length added) ⊎ Contains (ends_of ls r) r → ⊥) → (v : ℕ) → IsMarked marks v ↔ (Contains (joined ++ added) v × LeadsBack ls v)
        marks_stay test v = (
          λ h. (Contains-append_left joined added v ((old v).0 h).0, ((old v).0 h).1),
          λ h. elim (Contains-append_cases joined added v h.0) [
            | inl k ↦ (old v).1 (k, h.1)
            | inr k ↦ absurd (test (is_loop v k h.1))
          ],
        )

-- ---- the walk against the links

order_closed : (ls : List (List ℕ)) (roots o : List ℕ) → IsOrderOf ls roots o → IsClosed ls o
order_closed ls roots o is v w h l =
    let r = (is.reached v).0 h in
    (is.reached w).1 record { root = r.root; given = r.given; vertex = r.vertex; way = link r.way l }

reaches_within : (ls : List (List ℕ)) (v w : ℕ) → v < length ls → Reaches ls v w → w < length ls
reaches_within ls v w lt here = lt
reaches_within ls v w lt (link {u = u} first l) = l.vertex

order_within : (ls : List (List ℕ)) (roots o : List ℕ) → IsOrderOf ls roots o → (v : ℕ) → Contains o v → v < length ls
order_within ls roots o is v h = let r = (is.reached v).0 h in reaches_within ls r.root v r.vertex r.way

-- the roots from place i on were walked against the links, and what leads back to itself among the walk's vertices has a mark
pub record HasJoined (ls back : List (List ℕ)) (o : List ℕ) (i : ℕ) (walk : Walk) (marks : List Bool) : Type 0 where
  pub way : walk.way.items ≡ []
  pub done : IsDone back walk.entered.items walk.order.items
  pub joined : (v : ℕ) → Contains walk.order.items v ↔ (Contains o v × LeadsPast ls o i v)
  pub marked : (v : ℕ) → IsMarked marks v ↔ (Contains walk.order.items v × LeadsBack ls v)

module _ (ls back : List (List ℕ)) (roots o : List ℕ) (is : IsOrderOf ls roots o) (size : length back ≡ length ls)
    (turned : (v w : ℕ) → Contains (ends_of back w) v ↔ (Contains o v × IsLink ls v w)) where
  closed : IsClosed ls o
  closed = order_closed ls roots o is

  within : (v : ℕ) → Contains o v → v < length ls
  within = order_within ls roots o is

  pub joining_begun : (w : Walk) (n k : ℕ) (marks : List Bool) → n ≡ length ls → w.entered.items ≡ replicate n false → w.way.items ≡ [] → w.order.items ≡ [] → marks ≡ replicate k false
      → HasJoined ls back o (length o) w marks
  joining_begun w n k marks count entered way order none = record {
    way = way;
    done = subst (IsDone back w.entered.items) (sym order)
        (subst (λ es. IsDone back es []) (sym (entered ∙ ap (λ m. replicate m false) (count ∙ sym size))) (nothing_done back));
    joined = subst (λ vs. (v : ℕ) → Contains vs v ↔ (Contains o v × LeadsPast ls o (length o) v)) (sym order)
        (none_joined ls o is.once closed is.depth_first back within size turned);
    marked = λ v. (
      λ h. absurd (none_marked k v (subst (λ ms. IsMarked ms v) none h)),
      λ h. absurd (nothing_in v (subst (λ vs. Contains vs v) order h.0)),
    );
  }

  module _ (i r : ℕ) (r_at : slice_get o i ≡ Some r) (w new : Walk) (marks : List Bool) (long : length marks ≡ length ls) (old : HasJoined ls back o (i + 1) w marks)
      (added : List ℕ) (longer : new.order.items ≡ w.order.items ++ added) (way : new.way.items ≡ []) (done : IsDone back new.entered.items new.order.items)
      (step : (v : ℕ) → Contains new.order.items v ↔ (Contains w.order.items v ⊎ ((r < length back) × Reaches back r v))) where
    steps : (v : ℕ) → Contains (w.order.items ++ added) v ↔ (Contains w.order.items v ⊎ ((r < length back) × Reaches back r v))
    steps = subst (λ vs. (v : ℕ) → Contains vs v ↔ (Contains w.order.items v ⊎ ((r < length back) × Reaches back r v))) longer step

    apart : AllPairs (λ v w. v ≢ w) (w.order.items ++ added)
    apart = subst (AllPairs (λ v w. v ≢ w)) longer done.once

    joined_with : (ms : List Bool) → ((v : ℕ) → IsMarked ms v ↔ (Contains (w.order.items ++ added) v × LeadsBack ls v)) → HasJoined ls back o i new ms
    joined_with ms marked = record {
      way = way;
      done = done;
      joined = subst (λ vs. (v : ℕ) → Contains vs v ↔ (Contains o v × LeadsPast ls o i v)) (sym longer)
          (root_joined ls o is.once closed is.depth_first back within size turned i r w.order.items added r_at old.joined steps apart);
      marked = subst (λ vs. (v : ℕ) → IsMarked ms v ↔ (Contains vs v × LeadsBack ls v)) (sym longer) marked;
    }

    -- what the root adds lies on a loop
    pub loop_joined : (ms : List Bool) → (1 < length added) ⊎ Contains (ends_of ls r) r
        → ((v : ℕ) → IsMarked ms v ↔ (IsMarked marks v ⊎ (Contains added v × (v < length marks)))) → HasJoined ls back o i new ms
    loop_joined ms test marked = joined_with ms
        (marks_more ls o is.once closed is.depth_first back within size turned i r w.order.items added r_at old.joined steps apart marks ms long old.marked test marked)

    pub other_joined : ((1 < length added) ⊎ Contains (ends_of ls r) r → ⊥) → HasJoined ls back o i new marks
    other_joined test = joined_with marks
        (marks_stay ls o is.once closed is.depth_first back within size turned i r w.order.items added r_at old.joined steps apart marks marks long old.marked test)

  pub all_marked : (w : Walk) (marks : List Bool) → HasJoined ls back o 0 w marks → (v : ℕ) → IsMarked marks v ↔ (Contains o v × LeadsBack ls v)
  all_marked w marks done v =
      let all = all_joined ls o is.once closed is.depth_first back within size turned w.order.items done.joined v in (
        λ h. let k = (done.marked v).0 h in (all.0 k.0, k.1),
        λ h. (done.marked v).1 (all.1 h.0, h.1),
      )

-- what stands behind the place where a walk's order ended before
pub added_behind : (o new rest vs : List ℕ) (n : ℕ) → n ≡ length o → new ≡ o ++ rest → vs ≡ new → new ≡ o ++ drop n vs
added_behind o new rest vs n count longer same = longer ∙ ap (λ xs. o ++ xs) (sym (ap (drop n) (same ∙ longer) ∙ drop_at o rest n (sym count)))

pub get_middle : (xs : List ℕ) (x : ℕ) (ys : List ℕ) → slice_get (xs ++ x ∷ ys) (length xs) ≡ Some x
get_middle [] x ys = refl
get_middle (y ∷ xs) x ys = get_middle xs x ys
