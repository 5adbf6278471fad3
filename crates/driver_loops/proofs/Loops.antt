-- Loops, and orders in which ends stand first.
use Rattle.std.proofs.Common.{◌≡◌, ◌≢◌, ◌∙◌, inl, inr, sym, ap, subst, refl, arith, ℕ, zero, suc, ◌<◌, ◌≤◌, ◌+◌, List, [], ◌∷◌, Some, slice_get, Bool, true, false, length, take, set, nat_lt, ltb-true, ltb-false}
use Rattle.std.specs.List.{Contains, AllPairs, list_any}
use Rattle.std.proofs.lemmas.Option.{slice_get_within, get_or_from_slice_get}
use Rattle.std.proofs.lemmas.List.{length-set}
use Rattle.driver_loops.specs.Links.{IsLink, ends_of}
use Rattle.driver_loops.specs.Orders.{Reaches, here, HasLoop, IsClosed, IsDepthFirst, EndsStandBefore}
use Rattle.driver_loops.specs.Walks.{IsMarked, is_unmarked}
use Rattle.driver_loops.proofs.Members.{contains_get, get_contains, take_cases, any-some, any-none, unmarked_at, unmarked-not, marked_at, mark_here, mark_stays, mark_cases}
use Rattle.driver_loops.proofs.Ways.{closed_reaches}

-- ---- members of a front

pub take_get : (xs : List ℕ) (i k x : ℕ) → slice_get (take i xs) k ≡ Some x → (k < i) × (slice_get xs k ≡ Some x)
take_get xs zero k x at = absurd (cc)
take_get [] (suc i) k x at = absurd (cc)
take_get (y ∷ xs) (suc i) zero x at = (omega arith, at)
take_get (y ∷ xs) (suc i) (suc k) x at = let r = take_get xs i k x at in ((let l = r.0 in omega arith), r.1)

pub get_take : (xs : List ℕ) (i k x : ℕ) → k < i → slice_get xs k ≡ Some x → slice_get (take i xs) k ≡ Some x
get_take xs zero k x lt at = absurd (omega arith)
get_take [] (suc i) k x lt at = absurd (cc)
get_take (y ∷ xs) (suc i) zero x lt at = at
get_take (y ∷ xs) (suc i) (suc k) x lt at = get_take xs i k x (omega arith) at

-- where a member of a front stands
pub place_in : (xs : List ℕ) (i x : ℕ) → Contains (take i xs) x → (k : ℕ) × (k < i) × (slice_get xs k ≡ Some x)
place_in xs i x h =
    let at = get_contains (take i xs) x h in
    let r = take_get xs i at.0 x at.2 in
    (at.0, r.0, r.1)

pub in_front : (xs : List ℕ) (i k x : ℕ) → k < i → slice_get xs k ≡ Some x → Contains (take i xs) x
in_front xs i k x lt at = contains_get (take i xs) k x (get_take xs i k x lt at)

pub front-in : (xs : List ℕ) (i j x : ℕ) → i ≤ j → Contains (take i xs) x → Contains (take j xs) x
front-in xs i j x le h = let at = place_in xs i x h in in_front xs j at.0 x (let l = at.1 in omega arith) at.2

-- two places of one vertex are one
pub same_place : (xs : List ℕ) (i j x : ℕ) → AllPairs (λ v w. v ≢ w) xs → i < j → slice_get xs i ≡ Some x → slice_get xs j ≡ Some x → ⊥
same_place xs i j x once lt first second =
    once i j x lt (slice_get_within xs j x second) (get_or_from_slice_get xs i x x first ∙ sym (get_or_from_slice_get xs j x x second))

-- ---- loops

-- a vertex with an end that doesn't stand before it lies on a loop
pub loop_found : (ls : List (List ℕ)) (o : List ℕ) (i v w : ℕ) → IsDepthFirst ls o → slice_get o i ≡ Some v → IsLink ls v w → (Contains (take i o) w → ⊥) → HasLoop ls o
loop_found ls o i v w depth at l past = (v, contains_get o i v at, record { next = w; first = l; rest = leads_back })
  where
    leads_back : Reaches ls w v
    leads_back = elim (depth i v v w at (in_front o (i + 1) i v (omega arith) at) l) [
      | inl k ↦ elim (take_cases o i v w at k) [
        | inl j ↦ absurd (past j)
        | inr same ↦ subst (λ x. Reaches ls x v) same here
      ]
      | inr r ↦ r
    ]

pub no_loop : (ls : List (List ℕ)) (o : List ℕ) → EndsStandBefore ls o → AllPairs (λ v w. v ≢ w) o → HasLoop ls o → ⊥
no_loop ls o before once (v, h, back) =
    let at = get_contains o v h in
    let begin = before at.0 v back.next at.2 back.first in
    let again = place_in o at.0 v (closed_reaches ls (take at.0 o) back.next v (closed at.0) begin back.rest) in
    same_place o again.0 at.0 v once again.1 again.2 at.2
  where
    closed : (i : ℕ) → IsClosed ls (take i o)
    closed i x w h l =
        let at = place_in o i x h in
        front-in o at.0 i w (let l = at.1 in omega arith) (before at.0 x w at.2 l)

-- ---- the vertices before a place of an order, marked

-- an end of the vertex at place i that doesn't stand before it
pub record Past (ls : List (List ℕ)) (o : List ℕ) (i v : ℕ) : Type 0 where
  pub end : ℕ
  pub link : IsLink ls v end
  pub past : Contains (take i o) end → ⊥

pub record AreDone (ls : List (List ℕ)) (o : List ℕ) (i : ℕ) (done : List Bool) : Type 0 where
  pub size : length done ≡ length ls
  pub shown : (v : ℕ) → IsMarked done v → Contains (take i o) v
  pub marked : (v : ℕ) → v < length ls → Contains (take i o) v → IsMarked done v
  pub before : (k v w : ℕ) → k < i → slice_get o k ≡ Some v → IsLink ls v w → Contains (take k o) w

module _ (ls : List (List ℕ)) (o : List ℕ) (i v : ℕ) (done : List Bool) (is : AreDone ls o i done) where
  pub past_found : list_any (is_unmarked done) (ends_of ls v) ≡ true → Past ls o i v
  past_found h =
      let r = any-some (is_unmarked done) (ends_of ls v) h in
      let at = unmarked_at done r.0 r.2 in
      let lt : r.0 < length ls = (let w = slice_get_within done r.0 false at in let n = is.size in omega arith) in
      record { end = r.0; link = record { end = r.1; vertex = lt }; past = λ k. unmarked-not done r.0 at (is.marked r.0 lt k) }

  module _ (at : slice_get o i ≡ Some v) (none : list_any (is_unmarked done) (ends_of ls v) ≡ false) where
    here_before : (w : ℕ) → IsLink ls v w → Contains (take i o) w
    here_before w l = is.shown w (marked_at done w (any-none (is_unmarked done) (ends_of ls v) w none l.end) (let lt = l.vertex in let n = is.size in omega arith))

    before : (k x w : ℕ) → k < i + 1 → slice_get o k ≡ Some x → IsLink ls x w → Contains (take k o) w
    before k x w lt is_at l = go (nat_lt k i) refl
      where
        go : (b : Bool) → nat_lt k i ≡ b → Contains (take k o) w
        go true c = is.before k x w (ltb-true k i c) is_at l
        go false c =
            let e : i ≡ k = (let n = ltb-false k i c in omega arith) in
            let s : x ≡ v = (let f = ap (slice_get o) e in cc) in
            subst (λ n. Contains (take n o) w) e (here_before w (subst (λ y. IsLink ls y w) s l))

    pub more_done : AreDone ls o (i + 1) (set done v true)
    more_done = record {
      size = length-set done v true ∙ is.size;
      shown = λ w h. elim (mark_cases done v w h) [
        | inl k ↦ front-in o i (i + 1) w (omega arith) (is.shown w k)
        | inr same ↦ in_front o (i + 1) i w (omega arith) (at ∙ ap Some same)
      ];
      marked = λ w lt h. elim (take_cases o i v w at h) [
        | inl k ↦ mark_stays done v w (is.marked w lt k)
        | inr same ↦ subst (IsMarked (set done v true)) same (mark_here done v (let n = is.size in let l = subst (λ y. y < length ls) (sym same) lt in omega arith))
      ];
      before = before;
    }
