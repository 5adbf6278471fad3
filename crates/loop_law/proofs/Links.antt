-- What links of drafts and pieces lead to.
use Rattle.std.proofs.Common.{◌≡◌, ◌⊎◌, inl, inr, ℕ, zero, suc, ◌+◌, ◌-◌, ◌<◌, Bool, true, false, cond, ◌&&◌, ◌==◌, refl, sym, ap, ap₂, subst, ◌∙◌, arith, List, [], ◌∷◌, length, map, Some, slice_get, unwrap_or, length-append, eqb-true, eq-eqb}
use Rattle.std.specs.Option.{option_map}
use Rattle.std.specs.List.{Contains}
use Rattle.std.proofs.lemmas.Bool.{and_parts}
use Rattle.std.proofs.lemmas.List.{length-map}
use Rattle.std.proofs.lemmas.Option.{slice_get-map, slice_get_within, slice_get_past}
use Rattle.cdc_base.specs.declared.signal.Signal.{Signal}
use Rattle.flat_meaning.proofs.Words.{by_lt}
use Rattle.cell_graph.specs.declared.cell.Cell.{Cell}
use Rattle.driver_trees.specs.declared.draft.Draft.{Draft}
use Rattle.driver_trees.specs.declared.draft.Form.{Form}
use Rattle.driver_trees.specs.declared.draft.Form.TheVariants.{Read, Made}
use Rattle.driver_trees.specs.declared.sketch.Piece.{Piece}
use Rattle.driver_loops.specs.Links.{ends_of, IsLink}
use Rattle.driver_loops.specs.Leads.{has_bits, meeting_places, form_ends, draft_ends, piece_ends, links_of}
use Rattle.driver_loops.proofs.Members.{get_left, nothing_in}
use Rattle.loop_law.proofs.Members.{found, get_past, contains_first, contains_later, contains_cases}

-- ---- pieces that a read meets

-- the piece at a place has some of those bits of the signal
pub record IsMet (ps : List Piece) (sig at w place : ℕ) : Type 0 where
  pub piece : Piece
  pub stands : slice_get ps place ≡ Some piece
  pub of_signal : piece.sig ≡ sig
  pub some : has_bits piece at w ≡ true

pub met_at : (n : ℕ) (ps : List Piece) (sig at w v : ℕ) → Contains (meeting_places n ps sig at w) v → (k : ℕ) × (v ≡ n + k) × IsMet ps sig at w k
met_at n [] sig at w v h = absurd (nothing_in v h)
met_at n (p ∷ ps) sig at w v h = go ((p.sig == sig) && has_bits p at w) refl (met_at (suc n) ps sig at w v) h
  where
    later : (k : ℕ) × (v ≡ suc n + k) × IsMet ps sig at w k → (k : ℕ) × (v ≡ n + k) × IsMet (p ∷ ps) sig at w k
    later r = let e = r.1 in (suc r.0, (omega arith), record { piece = r.2.piece; stands = r.2.stands; of_signal = r.2.of_signal; some = r.2.some })

    go : (u : Bool) → ((p.sig == sig) && has_bits p at w) ≡ u → (Contains (meeting_places (suc n) ps sig at w) v → (k : ℕ) × (v ≡ suc n + k) × IsMet ps sig at w k)
        → Contains (cond u (n ∷ meeting_places (suc n) ps sig at w) (meeting_places (suc n) ps sig at w)) v → (k : ℕ) × (v ≡ n + k) × IsMet (p ∷ ps) sig at w k
    go true e more h = elim (contains_cases n v (meeting_places (suc n) ps sig at w) h) [
      | inl same ↦ let a = and_parts (p.sig == sig) (has_bits p at w) e in (0, (omega arith), record { piece = p; stands = refl; of_signal = eqb-true p.sig sig a.0; some = a.1 })
      | inr rest ↦ later (more rest)
    ]
    go false e more h = later (more h)

pub meets_at : (n : ℕ) (ps : List Piece) (sig at w k : ℕ) → IsMet ps sig at w k → Contains (meeting_places n ps sig at w) (n + k)
meets_at n [] sig at w k h = absurd (let l = slice_get_within [] k h.piece h.stands in omega arith)
meets_at n (p ∷ ps) sig at w zero h =
    let same : p ≡ h.piece = cc in
    let e : ((p.sig == sig) && has_bits p at w) ≡ true = ap₂ (λ x y. x && y) (eq-eqb p.sig sig (ap (λ (q : Piece). q.sig) same ∙ h.of_signal)) (ap (λ (q : Piece). has_bits q at w) same ∙ h.some) in
    subst (λ v. Contains (meeting_places n (p ∷ ps) sig at w) v) (let z : n ≡ n + 0 = omega arith in z)
    (subst (λ (u : Bool). Contains (cond u (n ∷ meeting_places (suc n) ps sig at w) (meeting_places (suc n) ps sig at w)) n) (sym e) (contains_first n (meeting_places (suc n) ps sig at w)))
meets_at n (p ∷ ps) sig at w (suc k) h =
    let rest = meets_at (suc n) ps sig at w k (record { piece = h.piece; stands = h.stands; of_signal = h.of_signal; some = h.some }) in
    go ((p.sig == sig) && has_bits p at w) (subst (λ v. Contains (meeting_places (suc n) ps sig at w) v) (let z : suc n + k ≡ n + suc k = omega arith in z) rest)
  where
    go : (u : Bool) → Contains (meeting_places (suc n) ps sig at w) (n + suc k) → Contains (cond u (n ∷ meeting_places (suc n) ps sig at w) (meeting_places (suc n) ps sig at w)) (n + suc k)
    go true r = contains_later n (n + suc k) (meeting_places (suc n) ps sig at w) r
    go false r = r

-- ---- rows

pub by_form : {A : Type 0} (f : Form) → ((c : Cell) → f ≡ Made c → A) → ((sig at : ℕ) → f ≡ Read sig at → A) → A
by_form (Made c) h k = h c refl
by_form (Read sig at) h k = k sig at refl

module _ (signals : List Signal) (ds : List Draft) (ps : List Piece) where
  count : length (links_of signals ds ps) ≡ length ds + length ps
  count = length-append (map (draft_ends signals (length ds) ps) ds) (map piece_ends ps) ∙ ap₂ (λ m n. m + n) (length-map ds (draft_ends signals (length ds) ps)) (length-map ps piece_ends)

  draft_row : (n : ℕ) (d : Draft) → slice_get ds n ≡ Some d → ends_of (links_of signals ds ps) n ≡ draft_ends signals (length ds) ps d
  draft_row n d h =
      let l = slice_get_within ds n d h in let m = length-map ds (draft_ends signals (length ds) ps) in
      ap (λ o. unwrap_or o []) (get_left (map (draft_ends signals (length ds) ps) ds) (map piece_ends ps) n (omega arith)
      ∙ slice_get-map (draft_ends signals (length ds) ps) ds n ∙ ap (option_map (draft_ends signals (length ds) ps)) h)

  pub form_row : (n : ℕ) (d : Draft) (g : Form) → slice_get ds n ≡ Some d → d.form ≡ g → ends_of (links_of signals ds ps) n ≡ form_ends signals (length ds) ps d.width g
  form_row n d g h e = draft_row n d h ∙ ap (form_ends signals (length ds) ps d.width) e

  pub piece_row : (k : ℕ) (p : Piece) → slice_get ps k ≡ Some p → ends_of (links_of signals ds ps) (length ds + k) ≡ p.tree.0 ∷ []
  piece_row k p h =
      ap (λ o. unwrap_or o []) (ap (λ m. slice_get (links_of signals ds ps) (m + k)) (sym (length-map ds (draft_ends signals (length ds) ps)))
      ∙ get_past (map (draft_ends signals (length ds) ps) ds) (map piece_ends ps) k ∙ slice_get-map piece_ends ps k ∙ ap (option_map piece_ends) h)

  -- a vertex is a draft or a piece
  pub record IsDraftVertex (v : ℕ) : Type 0 where
    pub draft : Draft
    pub stands : slice_get ds v ≡ Some draft

  pub record IsPieceVertex (v : ℕ) : Type 0 where
    pub place : ℕ
    pub piece : Piece
    pub at : v ≡ length ds + place
    pub stands : slice_get ps place ≡ Some piece

  pub vertex_cases : (v : ℕ) → v < length (links_of signals ds ps) → IsDraftVertex v ⊎ IsPieceVertex v
  vertex_cases v h = by_lt (λ u. IsDraftVertex v ⊎ IsPieceVertex v) v (length ds)
      (λ l. let r = found ds v l in inl (record { draft = r.0; stands = r.1 }))
      (λ l. let c = count in let r = found ps (v - length ds) (omega arith) in inr (record { place = v - length ds; piece = r.0; at = (omega arith); stands = r.1 }))

  pub from_vertex : (v w : ℕ) → IsLink (links_of signals ds ps) v w → IsDraftVertex v ⊎ IsPieceVertex v
  from_vertex v w l = by_lt (λ u. IsDraftVertex v ⊎ IsPieceVertex v) v (length (links_of signals ds ps)) (vertex_cases v)
      (λ m. absurd (nothing_in w (subst (λ (xs : List ℕ). Contains xs w) (ap (λ o. unwrap_or o []) (slice_get_past (links_of signals ds ps) v m)) l.end)))

  pub draft_vertex : (n : ℕ) → n < length ds → n < length (links_of signals ds ps)
  draft_vertex n l = let c = count in omega arith

  pub piece_vertex : (k : ℕ) (p : Piece) → slice_get ps k ≡ Some p → length ds + k < length (links_of signals ds ps)
  piece_vertex k p h = let c = count in let l = slice_get_within ps k p h in omega arith

  -- a piece leads to its tree alone
  pub tree_linked : (k : ℕ) (p : Piece) → slice_get ps k ≡ Some p → p.tree.0 < length ds → IsLink (links_of signals ds ps) (length ds + k) p.tree.0
  tree_linked k p h l = record { end = subst (λ (xs : List ℕ). Contains xs p.tree.0) (sym (piece_row k p h)) (contains_first p.tree.0 []); vertex = draft_vertex p.tree.0 l }

  pub piece_linked : (k : ℕ) (p : Piece) (w : ℕ) → slice_get ps k ≡ Some p → IsLink (links_of signals ds ps) (length ds + k) w → p.tree.0 ≡ w
  piece_linked k p w h l = elim (contains_cases p.tree.0 w [] (subst (λ (xs : List ℕ). Contains xs w) (piece_row k p h) l.end)) [
    | inl e ↦ e
    | inr none ↦ absurd (nothing_in w none)
  ]
