-- What a vertex leads to are the ends of its links.
use Rattle.std.proofs.Common.{◌≡◌, ◌∙◌, ◌⊎◌, inl, inr, refl, sym, ap, ap₂, subst, arith, ℕ, zero, suc, ◌+◌, ◌<◌, ◌≤◌, max, min, Bool, true, false, cond, ◌&&◌, ◌==◌, nat_lt, eq-eqb, lt-ltb, List, [], ◌∷◌, ◌++◌, length, length-append, map, take, All, Option, Some, None, slice_get, option_map, unwrap_or}
use Rattle.std.specs.List.{Contains}
use Rattle.std.proofs.lemmas.List.{length-map}
use Rattle.std.proofs.lemmas.List.Elements.{Contains-append_right}
use Rattle.std.proofs.lemmas.Option.{slice_get-map, slice_get_within}
use Rattle.cdc_base.specs.declared.signal.Signal.{Signal}
use Rattle.cdc_base.specs.declared.signal.SigKind.{SigKind}
use Rattle.cdc_base.specs.declared.signal.SigKind.TheVariants.{Input, Register, Wire}
use Rattle.cell_graph.specs.declared.cell.Cell.{Cell}
use Rattle.cell_graph.specs.declared.cell.Cell.TheVariants.{Var, Const, Not, And, Or, Xor, Add, Sub, Eq, Lt, Shl, Shr, Mux, Concat, Slice, Extend, Reduce}
use Rattle.cell_graph.specs.declared.cell.CellId.{CellId}
use Rattle.cell_graph.specs.Below.{IsOperand}
use Rattle.flat_meaning.specs.Design.{Flat, kind_in, kind_is_variable, size_in, width_in}
use Rattle.driver_trees.specs.declared.draft.Draft.{Draft}
use Rattle.driver_trees.specs.declared.draft.Form.{Form}
use Rattle.driver_trees.specs.declared.draft.Form.TheVariants.{Read, Made}
use Rattle.driver_trees.specs.declared.sketch.Piece.{Piece}
use Rattle.driver_trees.specs.Drafts.{AreDrafts, IsDraftAt}
use Rattle.driver_trees.specs.Sketches.{IsPieceIn}
use Rattle.driver_loops.specs.Leads.{draft_ends, form_ends, has_bits, is_wire_in, links_of, meeting_places, operand_ids, piece_ends}
use Rattle.driver_loops.specs.Links.{IsLink, ends_of}
use Rattle.driver_loops.specs.Orders as orders
use Rattle.driver_loops.specs.Orders.{IsFront, IsOrderOf, Reaches}
use Rattle.driver_loops.proofs.Loops.{get_take, in_front, place_in, take_get}
use Rattle.driver_loops.proofs.Members.{contains_get, get_left}
use Rattle.elaborate.specs.Lowered.{EndsStandBefore, FormLeadsTo, LeadsTo, Meets}
use Rattle.elaborate.proofs.Vertices.{all-at, operand-before}

-- ---- operands

first : (x a : CellId) (xs : List ℕ) → x ≡ a → Contains (a.0 ∷ xs) x.0
first x a xs e = subst (λ (y : CellId). Contains (a.0 ∷ xs) y.0) (sym e) (0, (omega arith), refl)

second : (x a : CellId) (n : ℕ) (xs : List ℕ) → x ≡ a → Contains (n ∷ a.0 ∷ xs) x.0
second x a n xs e = subst (λ (y : CellId). Contains (n ∷ a.0 ∷ xs) y.0) (sym e) (1, (omega arith), refl)

both : (x a b : CellId) → (x ≡ a) ⊎ (x ≡ b) → Contains (a.0 ∷ b.0 ∷ []) x.0
both x a b (inl e) = first x a (b.0 ∷ []) e
both x a b (inr e) = second x b a.0 [] e

third : (x c y z : CellId) → (x ≡ c) ⊎ ((x ≡ y) ⊎ (x ≡ z)) → Contains (c.0 ∷ y.0 ∷ z.0 ∷ []) x.0
third x c y z (inl e) = first x c (y.0 ∷ z.0 ∷ []) e
third x c y z (inr (inl e)) = second x y c.0 (z.0 ∷ []) e
third x c y z (inr (inr e)) = subst (λ (u : CellId). Contains (c.0 ∷ y.0 ∷ z.0 ∷ []) u.0) (sym e) (2, (omega arith), refl)

operand-listed : (x : CellId) (c : Cell) → IsOperand c x → Contains (operand_ids c) x.0
operand-listed x (Var sig) e = absurd e
operand-listed x (Const w value) e = absurd e
operand-listed x (Not a) e = first x a [] e
operand-listed x (And a b) e = both x a b e
operand-listed x (Or a b) e = both x a b e
operand-listed x (Xor a b) e = both x a b e
operand-listed x (Add a b) e = both x a b e
operand-listed x (Sub a b) e = both x a b e
operand-listed x (Eq a b) e = both x a b e
operand-listed x (Lt a b) e = both x a b e
operand-listed x (Shl a by) e = both x a by e
operand-listed x (Shr a by) e = both x a by e
operand-listed x (Mux c y z) e = third x c y z e
operand-listed x (Concat high low) e = both x high low e
operand-listed x (Slice a at w) e = first x a [] e
operand-listed x (Extend a w) e = first x a [] e
operand-listed x (Reduce k a) e = first x a [] e

-- ---- pieces that a read meets

further : (n x : ℕ) (xs : List ℕ) (b : Bool) → Contains xs x → Contains (cond b (n ∷ xs) xs) x
further n x xs true h = (suc h.0, (let l = h.1 in omega arith), h.2)
further n x xs false h = h

meeting-listed : (n : ℕ) (ps : List Piece) (sig at w i k : ℕ) (p : Piece) → k ≡ n + i → slice_get ps i ≡ Some p → p.sig ≡ sig → has_bits p at w ≡ true → Contains (meeting_places n ps sig at w) k
meeting-listed n [] sig at w i k p e here own has = cc
meeting-listed n (q ∷ ps) sig at w zero k p e here own has =
    let same : q ≡ p = cc in
    let passes : ((q.sig == sig) && has_bits q at w) ≡ true = ap₂ (λ x y. x && y) (eq-eqb q.sig sig (ap (λ (y : Piece). y.sig) same ∙ own)) (ap (λ y. has_bits y at w) same ∙ has) in
    let rest = meeting_places (suc n) ps sig at w in
    subst (λ b. Contains (cond b (n ∷ rest) rest) k) (sym passes) (0, (omega arith), (omega arith))
meeting-listed n (q ∷ ps) sig at w (suc i) k p e here own has =
    further n k (meeting_places (suc n) ps sig at w) ((q.sig == sig) && has_bits q at w) (meeting-listed (suc n) ps sig at w i k p (omega arith) here own has)

meets-bits : (p : Piece) (at w : ℕ) → Meets p at w → has_bits p at w ≡ true
meets-bits p at w l = ap₂ (λ x y. x && y) (lt-ltb p.at (at + w) (omega arith)) (lt-ltb at (p.at + p.width) (omega arith))

wire-kind : (ss : List Signal) (sig : ℕ) → 1 ≤ width_in ss sig → kind_is_variable (kind_in ss sig) ≡ false → is_wire_in ss sig ≡ true
wire-kind [] sig some e = absurd (omega arith)
wire-kind (s ∷ ss) zero some e = go s.kind refl e
  where
    go : (kind : SigKind) → s.kind ≡ kind → kind_is_variable kind ≡ false → is_wire_in (s ∷ ss) zero ≡ true
    go Input same f = cc
    go Register same f = cc
    go Wire same f = rw same refl
wire-kind (s ∷ ss) (suc sig) some e = wire-kind ss sig some e

-- ---- links

get-right : {A : Type 0} (xs ys : List A) (i k : ℕ) → k ≡ length xs + i → slice_get (xs ++ ys) k ≡ slice_get ys i
get-right [] ys i k e = ap (slice_get ys) (let f : k ≡ i = omega arith in f)
get-right (x ∷ xs) ys i zero e = absurd (omega arith)
get-right (x ∷ xs) ys i (suc k) e = get-right xs ys i k (omega arith)

module _ (f : Flat) (ds : List Draft) (ps : List Piece) (drafts : AreDrafts (size_in f) ds) (stand : All (IsPieceIn ds) ps) where
  abbrev n : ℕ
  n = length ds

  abbrev ls : List (List ℕ)
  ls = links_of f.signals ds ps

  pub vertices : length ls ≡ length ds + length ps
  vertices =
      length-append (map (draft_ends f.signals n ps) ds) (map piece_ends ps)
      ∙ ap₂ (λ x y. x + y) (length-map ds (draft_ends f.signals n ps)) (length-map ps piece_ends)

  draft-ends : (v : ℕ) (d : Draft) → slice_get ds v ≡ Some d → ends_of ls v ≡ draft_ends f.signals n ps d
  draft-ends v d here = ap (λ o. unwrap_or o [])
      (get_left (map (draft_ends f.signals n ps) ds) (map piece_ends ps) v (let l = slice_get_within ds v d here in let e = length-map ds (draft_ends f.signals n ps) in omega arith)
      ∙ slice_get-map (draft_ends f.signals n ps) ds v ∙ ap (option_map (draft_ends f.signals n ps)) here)

  piece-ends : (v i : ℕ) (p : Piece) → v ≡ length ds + i → slice_get ps i ≡ Some p → ends_of ls v ≡ piece_ends p
  piece-ends v i p at here = ap (λ o. unwrap_or o [])
      (get-right (map (draft_ends f.signals n ps) ds) (map piece_ends ps) i v (let e = length-map ds (draft_ends f.signals n ps) in omega arith)
      ∙ slice_get-map piece_ends ps i ∙ ap (option_map piece_ends) here)

  form-listed : (v w e : ℕ) (form : Form) → v < length ds → IsDraftAt (size_in f) ds v w form → FormLeadsTo f n ps w form e → Contains (form_ends f.signals n ps w form) e × (e < length ls)
  form-listed v w e (Made cell) l is leads =
      let a = leads.0 in let before = operand-before v a ds w cell is leads.1 in let same = leads.2 in let count = vertices in
      (subst (Contains (operand_ids cell)) same (operand-listed a cell leads.1), omega arith)
  form-listed v w e (Read sig at) l is leads =
      let i = leads.1.0 in let p = leads.1.1 in let here = leads.1.2 in let at_ = leads.1.5 in
      let wire = wire-kind f.signals sig (let some = is.0 in let room = is.1 in omega arith) leads.0 in
      let within = slice_get_within ps i p here in let count = vertices in (
        subst (λ b. Contains (cond b (meeting_places n ps sig at w) []) e) (sym wire) (meeting-listed n ps sig at w i e p at_ here leads.1.3 (meets-bits p at w leads.1.4)),
        omega arith,
      )

  pub leads-link : (v e : ℕ) → LeadsTo f ds ps v e → IsLink ls v e
  leads-link v e (LeadsTo.draft d here leads) =
      let listed = form-listed v d.width e d.form (slice_get_within ds v d here) (drafts v d here) leads in
      record { end = subst (λ es. Contains es e) (sym (draft-ends v d here)) listed.0; vertex = listed.1 }
  leads-link v e (LeadsTo.piece i p at here same) = record {
    end = subst (λ es. Contains es e) (sym (piece-ends v i p at here)) (subst (Contains (p.tree.0 ∷ [])) (sym same) (0, (omega arith), refl));
    vertex = let t = (all-at (IsPieceIn ds) ps i p stand here).0.0 in let count = vertices in omega arith;
  }

  -- a front of an order in which all ends stand before
  pub front-ends : (order : List ℕ) (k : ℕ) → orders.EndsStandBefore ls order → EndsStandBefore f ds ps (take k order)
  front-ends order k sorted i v e at leads =
      let here = take_get order k i v at in
      let found = place_in order i e (sorted i v e here.1 (leads-link v e leads)) in
      in_front (take k order) i found.0 e found.1 (get_take order k found.0 e (let l = found.1 in let m = here.0 in omega arith) found.2)

  -- what the front's roots are stands in it
  pub root-in : (roots order : List ℕ) (k v : ℕ) → IsFront ls roots order k → Contains roots v → v < length ds → Contains (take k order) v
  root-in roots order k v front given l =
      (front.reached v).1 (record { root = v; given = given; vertex = (let count = vertices in omega arith); way = Reaches.here })

  -- an order that begins at the pieces has them
  pub piece-in : (roots others order : List ℕ) → IsOrderOf ls (roots ++ others) order → ((i : ℕ) → i < length ps → slice_get others i ≡ Some (length ds + i)) → (i : ℕ) → i < length ps
      → Contains order (length ds + i)
  piece-in roots others order of listed i l =
      (of.reached (length ds + i)).1 (record {
        root = length ds + i;
        given = Contains-append_right roots others (length ds + i) (contains_get others i (length ds + i) (listed i l));
        vertex = (let count = vertices in omega arith);
        way = Reaches.here;
      })
