-- A loop leads through a piece: a draft that reads no signal leads to earlier drafts alone.
use Rattle.std.proofs.Common.{◌≡◌, ◌∙◌, ◌⊎◌, inl, inr, refl, ap, ap₂, subst, arith, ℕ, suc, ◌+◌, ◌-◌, ◌<◌, ◌≤◌, Bool, true, false, cond, ◌&&◌, ◌==◌, List, [], ◌∷◌, length, map, Some, slice_get, unwrap_or, length-append}
use Rattle.std.specs.Option.{option_map}
use Rattle.std.specs.List.{Contains, AllByRecursion as Each}
use Rattle.std.proofs.lemmas.Option.{slice_get-map, slice_get_cases}
use Rattle.std.proofs.lemmas.List.{length-map}
use Rattle.std.proofs.lemmas.List.Elements.{All-contains}
use Rattle.cdc_base.specs.declared.signal.Signal.{Signal}
use Rattle.cell_graph.specs.declared.cell.Cell.{Cell}
use Rattle.cell_graph.specs.declared.cell.Cell.TheVariants.{Var, Const, Not, And, Or, Xor, Add, Sub, Eq, Lt, Shl, Shr, Mux, Concat, Slice, Extend, Reduce}
use Rattle.flat_meaning.proofs.Placed.{each_map, of_each}
use Rattle.driver_trees.specs.declared.draft.Draft.{Draft}
use Rattle.driver_trees.specs.declared.draft.Form.{Form}
use Rattle.driver_trees.specs.declared.draft.Form.TheVariants.{Read, Made}
use Rattle.driver_trees.specs.declared.sketch.Piece.{Piece}
use Rattle.driver_trees.specs.Drafts.{IsMade, IsDraftAt, AreDrafts}
use Rattle.driver_loops.specs.Links.{ends_of, IsLink}
use Rattle.driver_loops.specs.Orders.{Reaches, here, link, LeadsBack}
use Rattle.driver_loops.specs.Leads.{operand_ids, is_wire_in, has_bits, meeting_places, form_ends, draft_ends, piece_ends, links_of}
use Rattle.driver_loops.proofs.Members.{get_left, nothing_in}
use Rattle.driver_loops.proofs.Components.{leads_back_by}

pub operands_before : (ds : List Draft) (n w : ℕ) (c : Cell) → IsMade ds n w c → Each (λ k. k < n) (operand_ids c)
operands_before ds n w (Var sig) is = tt
operands_before ds n w (Const v value) is = tt
operands_before ds n w (Not a) is = (is.1, tt)
operands_before ds n w (And a b) is = (is.1.0, (is.1.1, tt))
operands_before ds n w (Or a b) is = (is.1.0, (is.1.1, tt))
operands_before ds n w (Xor a b) is = (is.1.0, (is.1.1, tt))
operands_before ds n w (Add a b) is = (is.1.0, (is.1.1, tt))
operands_before ds n w (Sub a b) is = (is.1.0, (is.1.1, tt))
operands_before ds n w (Eq a b) is = (is.1.0, (is.1.1, tt))
operands_before ds n w (Lt a b) is = (is.1.0, (is.1.1, tt))
operands_before ds n w (Shl a by) is = (is.1, (is.2, tt))
operands_before ds n w (Shr a by) is = (is.1, (is.2, tt))
operands_before ds n w (Mux c x y) is = (is.1, (is.3.0, (is.3.1, tt)))
operands_before ds n w (Concat high low) is = (is.1, (is.2, tt))
operands_before ds n w (Slice a at v) is = (is.1, tt)
operands_before ds n w (Extend a v) is = (is.1, tt)
operands_before ds n w (Reduce k a) is = (is.1, tt)

-- what a read meets are places of pieces
places_between : (n : ℕ) (ps : List Piece) (sig at w : ℕ) → Each (λ k. (n ≤ k) × (k < n + length ps)) (meeting_places n ps sig at w)
places_between n [] sig at w = tt
places_between n (p ∷ ps) sig at w =
    go ((p.sig == sig) && has_bits p at w)
    (each_map (λ k h. (let l = h.0 in omega arith, let l = h.1 in omega arith)) (meeting_places (suc n) ps sig at w) (places_between (suc n) ps sig at w))
  where
    go : (b : Bool) → Each (λ k. (n ≤ k) × (k < n + length (p ∷ ps))) (meeting_places (suc n) ps sig at w)
        → Each (λ k. (n ≤ k) × (k < n + length (p ∷ ps))) (cond b (n ∷ meeting_places (suc n) ps sig at w) (meeting_places (suc n) ps sig at w))
    go true rest = ((omega arith, omega arith), rest)
    go false rest = rest

module _ (wid : ℕ → ℕ) (signals : List Signal) (ds : List Draft) (ps : List Piece) (drafts : AreDrafts wid ds) where
  abbrev ls : List (List ℕ)
  ls = links_of signals ds ps

  -- the vertex is a piece
  abbrev IsPiece : ℕ → Type 0
  IsPiece v = (length ds ≤ v) × (v < length ds + length ps)

  count : length ls ≡ length ds + length ps
  count = length-append (map (draft_ends signals (length ds) ps) ds) (map piece_ends ps) ∙ ap₂ (λ m n. m + n) (length-map ds (draft_ends signals (length ds) ps)) (length-map ps piece_ends)

  ends_of_draft : (v : ℕ) (d : Draft) → v < length ds → slice_get ds v ≡ Some d → ends_of ls v ≡ draft_ends signals (length ds) ps d
  ends_of_draft v d lt at =
      ap (λ o. unwrap_or o []) (get_left (map (draft_ends signals (length ds) ps) ds) (map piece_ends ps) v (let n = length-map ds (draft_ends signals (length ds) ps) in omega arith)
      ∙ slice_get-map (draft_ends signals (length ds) ps) ds v ∙ ap (option_map (draft_ends signals (length ds) ps)) at)

  form_leads : (v w : ℕ) (d : Draft) (f : Form) → slice_get ds v ≡ Some d → d.form ≡ f → Contains (form_ends signals (length ds) ps d.width f) w → (w < v) ⊎ IsPiece w
  form_leads v w d (Made c) at e h =
      inl (All-contains (λ k. k < v) (operand_ids c) w (of_each (λ k. k < v) (operand_ids c) (operands_before ds v d.width c (subst (IsDraftAt wid ds v d.width) e (drafts v d at)))) h)
  form_leads v w d (Read sig from) at e h = go (is_wire_in signals sig) h
    where
      met : List ℕ
      met = meeting_places (length ds) ps sig from d.width

      go : (b : Bool) → Contains (cond b met []) w → (w < v) ⊎ IsPiece w
      go true k = inr (All-contains IsPiece met w (of_each IsPiece met (places_between (length ds) ps sig from d.width)) k)
      go false k = absurd (nothing_in w k)

  -- a link from a piece, or from a draft to an earlier one or to a piece
  step : (v w : ℕ) → IsLink ls v w → IsPiece v ⊎ ((v < length ds) × ((w < v) ⊎ IsPiece w))
  step v w l = elim (slice_get_cases ds v).1 [
    | inl is ↦ inr (is.1, form_leads v w is.0 is.0.form is.2 refl (subst (λ es. Contains es w) (ends_of_draft v is.0 is.1 is.2) l.end))
    | inr past ↦ elim (slice_get_cases ls v).1 [
      | inl is ↦ inl (past.0, (let lt = is.1 in let n = count in omega arith))
      | inr none ↦ absurd (nothing_in w (subst (λ es. Contains es w) (ap (λ o. unwrap_or o []) none.1) l.end))
    ]
  ]

  -- a way on which a piece stands
  record IsThrough (v w : ℕ) : Type 0 where
    piece : ℕ
    is : IsPiece piece
    before : Reaches ls v piece
    after : Reaches ls piece w

  -- from a draft a way leads to earlier drafts, or through a piece
  down_or_through : (v w : ℕ) → v < length ds → Reaches ls v w → (w ≤ v) ⊎ IsThrough v w
  down_or_through v w lt here = inl (omega arith)
  down_or_through v w lt (link {u = u} way last) = elim (down_or_through v u lt way) [
    | inl low ↦ elim (step u w last) [
      | inl piece ↦ absurd (let l = piece.0 in omega arith)
      | inr draft ↦ elim draft.1 [
        | inl less ↦ inl (omega arith)
        | inr piece ↦ inr record { piece = w; is = piece; before = link way last; after = here }
      ]
    ]
    | inr t ↦ inr record { piece = t.piece; is = t.is; before = t.before; after = link t.after last }
  ]

  through_piece : (v : ℕ) → LeadsBack ls v → (w : ℕ) × IsPiece w × LeadsBack ls w
  through_piece v back = elim (step v back.next back.first) [
    | inl piece ↦ (v, piece, back)
    | inr draft ↦ elim draft.1 [
      | inl less ↦ elim (down_or_through back.next v (let l = draft.0 in omega arith) back.rest) [
        | inl low ↦ absurd (omega arith)
        | inr t ↦ (t.piece, t.is, leads_back_by ls t.piece v back.next t.after back.first t.before)
      ]
      | inr piece ↦ (back.next, piece, leads_back_by ls back.next v back.next back.rest back.first here)
    ]
  ]

  -- where some vertex leads back to itself, some piece does
  pub piece_leads_back : (v : ℕ) → LeadsBack ls v → (k : ℕ) × (k < length ps) × LeadsBack ls (length ds + k)
  piece_leads_back v back =
      let r = through_piece v back in
      let low = r.1.0 in
      let high = r.1.1 in
      let e : r.0 ≡ length ds + (r.0 - length ds) = omega arith in
      (r.0 - length ds, omega arith, subst (LeadsBack ls) e r.2)
