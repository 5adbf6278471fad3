-- The rounds of a walk: what holds after each of them, and at its end.
use Rattle.std.proofs.Common.{◌≡◌, ◌∙◌, ◌⊎◌, inl, inr, sym, ap, subst, refl, arith, ℕ, zero, suc, ◌+◌, ◌*◌, ◌%◌, ◌^◌, ◌<◌, ◌≤◌, Bool, true, false, nat_lt, ◌&&◌, List, [], ◌∷◌, length, get_or, Option, Some, slice_get, ltb-true, ltb-false}
use Rattle.std.specs.Prelude.{◌↔◌}
use Rattle.std.specs.List.{Contains}
use Rattle.std.proofs.lemmas.Option.{slice_get_within, get_or_from_slice_get, slice_get-get_or}
use Rattle.cdc_base.specs.declared.bit.Bit.{Bit}
use Rattle.cell_graph.specs.declared.cell.CellId.{CellId}
use Rattle.cell_graph.specs.declared.cell.Node.{Node}
use Rattle.cell_graph.specs.Below.{IsOperand, IsBelow, root, operand}
use Rattle.cell_graph.specs.Cells.{Cells, cell_at, cell_width}
use Rattle.cell_graph.specs.Cofactor.{reads}
use Rattle.cell_graph.specs.Reading.{Cube}
use Rattle.cell_graph.specs.Tree.{bit_at}
use Rattle.cell_graph.specs.Unfolded.{IsWellFormed, IsNodeOf, tree_of}
use Rattle.cell_graph.proofs.Cones.{below-within, operand-before, cell-there}
use Rattle.cell_graph.proofs.Words.{bit-within}
use Rattle.cofactor.specs.declared.walk.Wanted.{Wanted}
use Rattle.cofactor.specs.Shown.{Shown, place_in, HasPlace, Shows}
use Rattle.cofactor.specs.Walked.{Walked, IsAsked, IsPartOf, KeepEntries, LeadsOn, IsReadBy, is_sought, IsRead}
use Rattle.cofactor.proofs.Arms.{small-width}
use Rattle.cofactor.proofs.Makers.{up-there, up-only}
use Rattle.cofactor.proofs.Places.{own-root, root-within}
use Rattle.cofactor.proofs.Walks.{and-true, both-true}
use Rattle.cofactor.proofs.WantedLists.{asked-kept}

-- all that the node reads and is sought is found, or read by what was asked for and isn't read yet; and nothing else is
pub record IsUnderWay (g : Cells) (cube : Cube) (t : Shown) (marks : List (Option ℕ)) (node : Node) (turn : ℕ) (walk : Walked) : Type 0 where
  pub first : IsAsked t walk.wanted node.cell node.at
  pub all : (k : ℕ) (w : Wanted) (id : CellId) (b : Bit) → k < turn → slice_get walk.wanted k ≡ Some w → IsBelow g (node.cell ∷ []) id → place_in t.cells id ≡ Some w.place
      → is_sought marks b ≡ true → IsReadBy g cube id w.bits b → LeadsOn g cube t id walk b
  pub wanted : (w : Wanted) → Contains walk.wanted w → (id : CellId) × IsBelow g (node.cell ∷ []) id × (place_in t.cells id ≡ Some w.place)
      × ((b : Bit) → IsReadBy g cube id w.bits b → reads cube (tree_of g node.cell) node.at b ≡ true)
  pub found : (b : Bit) → Contains walk.found b → reads cube (tree_of g node.cell) node.at b ≡ true
  pub sought : (b : Bit) → Contains walk.found b → is_sought marks b ≡ true

get-at : (xs : List Wanted) (w : Wanted) → Contains xs w → (k : ℕ) × (k < length xs) × (slice_get xs k ≡ Some w)
get-at xs w h = (h.0, h.1, slice_get-get_or xs h.0 w h.1 ∙ ap Some h.2)

at-get : (xs : List Wanted) (k : ℕ) (w : Wanted) → slice_get xs k ≡ Some w → Contains xs w
at-get xs k w e = (k, slice_get_within xs k w e, get_or_from_slice_get xs k w w e)

no-member : {A P : Type 0} (xs : List A) (x : A) → xs ≡ [] → Contains xs x → P
no-member xs x e h = let l = h.1 in let z = ap length e in absurd (omega arith)

-- the word of one bit
one-there : (r at : ℕ) → r ≡ 1 * 2 ^ at % 2 ^ 64 → at < 64 → bit_at r at ≡ true
one-there r at e l = up-there 1 at r 0 at e refl (omega arith) l

one-only : (r at j : ℕ) → r ≡ 1 * 2 ^ at % 2 ^ 64 → r < 2 ^ 64 → bit_at r j ≡ true → j ≡ at
one-only r at j e small set =
    let u = up-only 1 at r j e small set in
    let l = bit-within 1 1 u.0 (let z : 1 < 2 ^ 1 = omega arith in z) u.1 in
    let p = u.2 in
    omega arith

module _ (g : Cells) (well : IsWellFormed g) (cube : Cube) (t : Shown) (marks : List (Option ℕ)) (node : Node) (is : IsNodeOf g node)
    (shows : (id : CellId) → IsBelow g (node.cell ∷ []) id → Shows g cube t id) where
  abbrev Root : Bit → Bool
  Root = reads cube (tree_of g node.cell) node.at

  inside : (id : CellId) → IsBelow g (node.cell ∷ []) id → id.0 < length g.cells
  inside id below = below-within g (node.cell ∷ []) well (root-within g node.cell is.0) id below

  pub under-way : (old walk : Walked) (r : ℕ) → old.wanted ≡ [] → walk.found ≡ [] → r ≡ 1 * 2 ^ node.at % 2 ^ 64 → r < 2 ^ 64
      → (HasPlace t node.cell → (i : ℕ) → bit_at r i ≡ true → IsAsked t walk.wanted node.cell i)
      → ((w : Wanted) → Contains walk.wanted w → Contains old.wanted w ⊎ IsPartOf t node.cell r w) → IsUnderWay g cube t marks node 0 walk
  under-way old walk r none empty e small asked only = record {
    first = asked (shows node.cell (root (own-root node.cell))).place node.at (one-there r node.at e (let l = small-width g well node.cell in let m = is.1 in omega arith));
    all = λ k w id b lt at below place q by. absurd (omega arith);
    wanted = λ w h. elim (only w h) [
      | inl k ↦ no-member old.wanted w none k
      | inr p ↦ (node.cell, root (own-root node.cell), p.0, λ b by. sym (ap (λ i. reads cube (tree_of g node.cell) i b) (one-only r node.at by.0 e small (p.1 by.0 by.1))) ∙ by.3)
    ];
    found = λ b h. no-member walk.found b empty h;
    sought = λ b h. no-member walk.found b empty h;
  }

  module _ (turn : ℕ) (old new : Walked) (w : Wanted) (at : slice_get old.wanted turn ≡ Some w) (keep : KeepEntries old.wanted new.wanted)
      (read : (id : CellId) → id.0 < length g.cells → place_in t.cells id ≡ Some w.place → Shows g cube t id → ((a : CellId) → IsOperand (cell_at g id) a → Shows g cube t a) → IsRead g cube t marks id w.bits old new)
      (before : IsUnderWay g cube t marks node turn old) where
    read-of : (id : CellId) → IsBelow g (node.cell ∷ []) id → place_in t.cells id ≡ Some w.place → IsRead g cube t marks id w.bits old new
    read-of id below place = read id (inside id below) place (shows id below) (λ a op. shows a (operand below op))

    still : (id : CellId) (b : Bit) → IsRead g cube t marks id w.bits old new → (x : CellId) → LeadsOn g cube t x old b → LeadsOn g cube t x new b
    still id b r x (inl h) = inl (r.kept b h)
    still id b r x (inr h) = inr (h.0, h.1, h.2, h.3, asked-kept t old.wanted new.wanted keep h.0 h.1 h.4, h.5)

    pub still-under-way : IsUnderWay g cube t marks node (turn + 1) new
    still-under-way =
        let own = before.wanted w (at-get old.wanted turn w at) in
        let done = read-of own.0 own.1 own.2 in
        record {
          first = asked-kept t old.wanted new.wanted keep node.cell node.at before.first;
          all = λ k v id b lt there below place q by. go own.0 done k v id b lt there below place q by (nat_lt k turn) refl;
          wanted = λ v h. elim (done.wanted v h) [
            | inl k ↦ before.wanted v k
            | inr k ↦ (k.0, operand own.1 k.1, k.2, λ b by. own.3 b (k.3 by.0 by.1 by.2 b by.3))
          ];
          found = λ b h. elim (done.found b h) [ inl k ↦ before.found b k | inr k ↦ own.3 b k ];
          sought = λ b h. elim (done.sought b h) [ inl k ↦ before.sought b k | inr k ↦ k ];
        }
      where
        go : (o : CellId) → IsRead g cube t marks o w.bits old new → (k : ℕ) (v : Wanted) (id : CellId) (b : Bit) → k < turn + 1 → slice_get new.wanted k ≡ Some v
            → IsBelow g (node.cell ∷ []) id → place_in t.cells id ≡ Some v.place → is_sought marks b ≡ true → IsReadBy g cube id v.bits b → (c : Bool) → nat_lt k turn ≡ c → LeadsOn g cube t id new b
        go o done k v id b lt there below place q by true e =
            let l = ltb-true k turn e in
            let m = slice_get_within old.wanted turn w at in
            let s = slice_get-get_or old.wanted k v (omega arith) in
            let n = keep k (get_or old.wanted k v) s in
            let same : get_or old.wanted k v ≡ v = cc in
            still o b done id (before.all k v id b l (s ∙ ap Some same) below place q by)
        go o done k v id b lt there below place q by false e =
            let l = ltb-false k turn e in
            let s : turn ≡ k = omega arith in
            let n = keep turn w at in
            let m = ap (slice_get new.wanted) s in
            let same : v ≡ w = cc in
            (read-of id below (place ∙ ap (λ (u : Wanted). Some u.place) same)).all b q (subst (λ (u : Wanted). IsReadBy g cube id u.bits b) same by)

  module _ (turn : ℕ) (walk : Walked) (whole : length walk.wanted ≤ turn) (end : IsUnderWay g cube t marks node turn walk) where
    all-found : (n : ℕ) (id : CellId) → id.0 < n → IsBelow g (node.cell ∷ []) id → (i : ℕ) → i < cell_width g id → IsAsked t walk.wanted id i → (b : Bit)
        → is_sought marks b ≡ true → reads cube (tree_of g id) i b ≡ true → Contains walk.found b
    all-found zero id lt below i l asked b q h = absurd (omega arith)
    all-found (suc n) id lt below i l asked b q h =
        let m = asked.2 in
        let k = get-at walk.wanted m.0 m.1 in
        let within = k.1 in
        go (end.all k.0 m.0 id b (omega arith) k.2 below (asked.1 ∙ ap Some (sym m.2)) q (i, m.3, l, h))
        (λ x op j less there r. all-found n x (let before = operand-before g id.0 (cell_at g id) (well.cells id.0 (cell_at g id) (cell-there g id (inside id below))) x op in omega arith)
        (operand below op) j less there b q r)
      where
        go : LeadsOn g cube t id walk b
            → ((x : CellId) → IsOperand (cell_at g id) x → (j : ℕ) → j < cell_width g x → IsAsked t walk.wanted x j → reads cube (tree_of g x) j b ≡ true → Contains walk.found b) → Contains walk.found b
        go (inl k) f = k
        go (inr k) f = f k.0 k.2 k.1 k.3 k.4 k.5

    pub found-all : (b : Bit) → (Contains walk.found b) ↔ ((is_sought marks b && reads cube (tree_of g node.cell) node.at b) ≡ true)
    found-all b = (
      λ h. both-true (is_sought marks b) (reads cube (tree_of g node.cell) node.at b) (end.sought b h) (end.found b h),
      λ h.
          let p = and-true (is_sought marks b) (reads cube (tree_of g node.cell) node.at b) h in
          all-found (suc node.cell.0) node.cell (omega arith) (root (own-root node.cell)) node.at is.1 end.first b p.0 p.1,
    )
