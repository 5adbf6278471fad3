-- What leads back to itself among drafts and pieces, and among segments.
use Rattle.std.proofs.Common.{◌≡◌, inl, inr, ℕ, zero, suc, ◌+◌, ◌<◌, ◌≤◌, max, Bool, true, false, cond, ◌&&◌, ◌||◌, ◌==◌, nat_lt, refl, sym, ap, ap₂, subst, ◌∙◌, arith, List, [], ◌∷◌, length, Option, Some, None, slice_get, unwrap_or, lt-ltb, ltb-true, eqb-true}
use Rattle.std.specs.List.{Contains}
use Rattle.std.specs.Option.{option_map_or}
use Rattle.std.proofs.lemmas.Bool.{and_parts}
use Rattle.std.proofs.lemmas.Option.{slice_get_within, get_or_from_slice_get}
use Rattle.std.proofs.lemmas.List.Elements.{All-contains}
use Rattle.cdc_base.specs.declared.signal.Signal.{Signal}
use Rattle.cell_graph.specs.declared.cell.Cell.{Cell}
use Rattle.cell_graph.specs.Tree as tree
use Rattle.cell_graph.specs.Tree.{Tree}
use Rattle.flat_meaning.specs.Assigned.{is_within}
use Rattle.flat_meaning.specs.Deps.{Bits}
use Rattle.flat_meaning.specs.Design.{Flat, size_in}
use Rattle.flat_meaning.specs.Sound.{IsSound}
use Rattle.flat_meaning.specs.Segments.{made_of, made_by_assigns, made_by_combs, DependsIn, IsLoopFree}
use Rattle.flat_meaning.proofs.Words.{never_same, by_lt}
use Rattle.flat_meaning.proofs.Depth.{by_bool}
use Rattle.flat_meaning.proofs.Placed.{from_within}
use Rattle.flat_meaning.proofs.Selects.{in_span}
use Rattle.flat_reads.specs.Marks.{marked, marks}
use Rattle.flat_reads.specs.Filled.{IsDesignFilled}
use Rattle.driver_trees.specs.declared.draft.Draft.{Draft}
use Rattle.driver_trees.specs.declared.draft.Form.TheVariants.{Read, Made}
use Rattle.driver_trees.specs.declared.sketch.Piece.{Piece}
use Rattle.driver_trees.specs.declared.sketch.Sketch.{Sketch}
use Rattle.driver_trees.specs.Drafts.{draft_trees, IsDraftAt}
use Rattle.driver_trees.specs.Sketches.{IsPieceIn, IsSketchOf}
use Rattle.driver_loops.specs.Links.{IsLink}
use Rattle.driver_loops.specs.Orders.{Reaches, here, link, LeadsBack}
use Rattle.driver_loops.specs.Leads.{operand_ids, is_wire_in, has_bits, meeting_places, links_of}
use Rattle.driver_loops.proofs.Members.{contains_get, nothing_in}
use Rattle.driver_loops.proofs.Ways.{reaches-trans}
use Rattle.driver_loops.proofs.Meets.{by_signal}
use Rattle.loop_law.specs.Loops.{HasLoopPiece, HasLoopSegment, SignalsOnLoops, LoopsAreSegments, FirstLoopIsFirst, LoopsAreOfSignals}
use Rattle.loop_law.proofs.Members.{found, contains_first, contains_later, contains_cases, each_contains}
use Rattle.loop_law.proofs.Trees.{any_reads, reads_at, read_reads, made_reads, operands_stand_before}
use Rattle.loop_law.proofs.Links.{by_form, IsMet, met_at, meets_at, form_row, IsDraftVertex, from_vertex, draft_vertex, piece_vertex, tree_linked, piece_linked}
use Rattle.loop_law.proofs.LoopPieces.{loops_have_pieces}
use Rattle.loop_law.proofs.Pieces.{HasBit, piece_reads, piece_wire, bit_piece}

-- ---- sets of bits, and what they lead to

pub depends_more : (f : Flat) (n s i u k t j : ℕ) → DependsIn f n s i u k → made_of f u k t j ≡ true → DependsIn f (suc n) s i t j
depends_more f zero s i u k t j h m = (u, k, h, m)
depends_more f (suc n) s i u k t j h m = (h.0, h.1, h.2, depends_more f n h.0 h.1 u k t j h.3 m)

depends_on_some : (f : Flat) (n s i t j : ℕ) → DependsIn f n s i t j → (u : ℕ) × (v : ℕ) × (made_of f s i u v ≡ true)
depends_on_some f zero s i t j h = (t, j, h)
depends_on_some f (suc n) s i t j h = (h.0, h.1, h.2)

-- the bit is one of the set, or one of the set depends on it
data From (f : Flat) (b : Bits) (x y : ℕ) : Type 0 where
  at_once : b x y ≡ true → From f b x y
  later : (n t j : ℕ) → b t j ≡ true → DependsIn f n t j x y → From f b x y

from_more : (f : Flat) (b : Bits) (x y t j : ℕ) → From f b x y → made_of f x y t j ≡ true → From f b t j
from_more f b x y t j (at_once h) m = later 0 x y h m
from_more f b x y t j (later n u k h d) m = later (suc n) u k h (depends_more f n u k x y t j d m)

any_true : (ts : List Tree) (ids : List ℕ) (a s j : ℕ) → Contains ids a → marks (unwrap_or (slice_get ts a) (tree.Const 1 0)) s j ≡ true → any_reads ts ids s j ≡ true
any_true ts [] a s j h m = absurd (nothing_in a h)
any_true ts (c ∷ ids) a s j h m = elim (contains_cases c a ids h) [
  | inl e ↦ ap (λ x. x || any_reads ts ids s j) (ap (λ k. marks (unwrap_or (slice_get ts k) (tree.Const 1 0)) s j) e ∙ m)
  | inr more ↦ last (marks (unwrap_or (slice_get ts c) (tree.Const 1 0)) s j) (any_true ts ids a s j more m)
]
  where
    last : (u : Bool) → any_reads ts ids s j ≡ true → (u || any_reads ts ids s j) ≡ true
    last true e = refl
    last false e = e

any_found : (ts : List Tree) (ids : List ℕ) (s j : ℕ) → any_reads ts ids s j ≡ true → (a : ℕ) × Contains ids a × (marks (unwrap_or (slice_get ts a) (tree.Const 1 0)) s j ≡ true)
any_found ts [] s j h = never_same (sym h)
any_found ts (c ∷ ids) s j h = by_bool (marks (unwrap_or (slice_get ts c) (tree.Const 1 0)) s j)
    (λ e. (c, contains_first c ids, e))
    (λ e. let r = any_found ts ids s j (ap (λ x. x || any_reads ts ids s j) (sym e) ∙ h) in (r.0, contains_later c r.0 ids r.1, r.2))

module _ (f : Flat) (ds : List Draft) (k : Sketch) (sound : IsSound f) (filled : IsDesignFilled f) (is : IsSketchOf f ds k) where
  abbrev ls : List (List ℕ)
  ls = links_of f.signals ds k.pieces.items

  piece_in : (n : ℕ) (p : Piece) → slice_get k.pieces.items n ≡ Some p → IsPieceIn ds p
  piece_in n p h = All-contains (IsPieceIn ds) k.pieces.items p is.stand (contains_get k.pieces.items n p h)

  tree_stands : (n : ℕ) (p : Piece) → slice_get k.pieces.items n ≡ Some p → p.tree.0 < length ds
  tree_stands n p h = (piece_in n p h).0.0

  -- ---- from links to segments

  -- what the vertex reads is from those bits; and of a piece so is one of its own bits
  record IsKnown (b : Bits) (v : ℕ) : Type 0 where
    of_draft : (d : Draft) → slice_get ds v ≡ Some d → (x y : ℕ) → reads_at ds v x y ≡ true → From f b x y
    of_piece : (n : ℕ) (p : Piece) → v ≡ length ds + n → slice_get k.pieces.items n ≡ Some p → (x y : ℕ) → reads_at ds p.tree.0 x y ≡ true → From f b x y
    own_bit : (n : ℕ) (p : Piece) → v ≡ length ds + n → slice_get k.pieces.items n ≡ Some p → (i : ℕ) × HasBit p i × From f b p.sig i

  known_draft : (b : Bits) (v : ℕ) → v < length ds → ((x y : ℕ) → reads_at ds v x y ≡ true → From f b x y) → IsKnown b v
  known_draft b v l h = record {
    of_draft = λ d e. h;
    of_piece = λ n p e s. absurd (omega arith);
    own_bit = λ n p e s. absurd (omega arith);
  }

  known_piece : (b : Bits) (n : ℕ) (p : Piece) → slice_get k.pieces.items n ≡ Some p → (i : ℕ) → HasBit p i → From f b p.sig i → IsKnown b (length ds + n)
  known_piece b n p s i has h = record {
    of_draft = λ d e. absurd (let l = slice_get_within ds (length ds + n) d e in omega arith);
    of_piece = λ m q e t x y r. let same = same_piece m q e t in
        from_more f b p.sig i x y h (sym (piece_reads f ds k sound filled is n p s i has x y) ∙ ap (λ (o : Piece). reads_at ds o.tree.0 x y) same ∙ r);
    own_bit = λ m q e t. (i, subst (λ (o : Piece). HasBit o i) (same_piece m q e t) has, subst (λ (o : Piece). From f b o.sig i) (same_piece m q e t) h);
  }
    where
      same_piece : (m : ℕ) (q : Piece) → length ds + n ≡ length ds + m → slice_get k.pieces.items m ≡ Some q → p ≡ q
      same_piece m q e t = let z : n ≡ m = omega arith in let y = sym s ∙ ap (slice_get k.pieces.items) z ∙ t in cc

  known_step : (b : Bits) (u w : ℕ) → IsKnown b u → IsLink ls u w → IsKnown b w
  known_step b u w known l = elim (from_vertex f.signals ds k.pieces.items u w l) [
    | inl v ↦ by_form v.draft.form (made v) (read v)
    | inr v ↦
        let e = piece_linked f.signals ds k.pieces.items v.place v.piece w v.stands (subst (λ n. IsLink ls n w) v.at l) in
        known_draft b w (subst (λ n. n < length ds) e (tree_stands v.place v.piece v.stands))
        (λ x y r. known.of_piece v.place v.piece v.at v.stands x y (ap (λ n. reads_at ds n x y) e ∙ r))
  ]
    where
      made : (v : IsDraftVertex f.signals ds k.pieces.items u) (c : Cell) → v.draft.form ≡ Made c → IsKnown b w
      made v c e =
          let end = subst (λ (xs : List ℕ). Contains xs w) (form_row f.signals ds k.pieces.items u v.draft (Made c) v.stands e) l.end in
          let before = each_contains (λ n. n < u) (operand_ids c) w (operands_stand_before (size_in f) ds is.drafts u v.draft v.stands c e) end in
          let stands = slice_get_within ds u v.draft v.stands in
          known_draft b w (omega arith)
          (λ x y r. known.of_draft v.draft v.stands x y (made_reads (size_in f) ds is.drafts u v.draft v.stands c e x y ∙ any_true (draft_trees marked ds) (operand_ids c) w x y end r))

      read : (v : IsDraftVertex f.signals ds k.pieces.items u) (sig at : ℕ) → v.draft.form ≡ Read sig at → IsKnown b w
      read v sig at e = go (is_wire_in f.signals sig) (subst (λ (xs : List ℕ). Contains xs w) (form_row f.signals ds k.pieces.items u v.draft (Read sig at) v.stands e) l.end)
        where
          met : (n : ℕ) → w ≡ length ds + n → IsMet k.pieces.items sig at v.draft.width n → IsKnown b w
          met n z m =
              let both = and_parts (nat_lt m.piece.at (at + v.draft.width)) (nat_lt at (m.piece.at + m.piece.width)) m.some in
              let low = ltb-true m.piece.at (at + v.draft.width) both.0 in
              let high = ltb-true at (m.piece.at + m.piece.width) both.1 in
              let some = (piece_in n m.piece m.stands).1 in
              let wide = (subst (IsDraftAt (size_in f) ds u v.draft.width) e (is.drafts u v.draft v.stands)).0 in
              let y = max at m.piece.at in
              let from = known.of_draft v.draft v.stands sig y
              (read_reads (size_in f) ds is.drafts u v.draft v.stands sig at e sig y ∙ in_span sig at v.draft.width y (omega arith) (omega arith)) in
              subst (λ n. IsKnown b n) (sym z)
              (known_piece b n m.piece m.stands y (record { low = omega arith; high = omega arith }) (subst (λ s. From f b s y) (sym m.of_signal) from))

          go : (wire : Bool) → Contains (cond wire (meeting_places (length ds) k.pieces.items sig at v.draft.width) []) w → IsKnown b w
          go true h = let r = met_at (length ds) k.pieces.items sig at v.draft.width w h in met r.0 r.1 r.2
          go false h = absurd (nothing_in w h)

  known_reach : (b : Bits) (u w : ℕ) → IsKnown b u → Reaches ls u w → IsKnown b w
  known_reach b u w known here = known
  known_reach b u w known (link {u = x} way l) = known_step b x w (known_reach b u x known way) l

  pub piece_to_segment : (n : ℕ) (p : Piece) → slice_get k.pieces.items n ≡ Some p → LeadsBack ls (length ds + n) → HasLoopSegment f p.sig
  piece_to_segment n p h back =
      let e = piece_linked f.signals ds k.pieces.items n p back.next h back.first in
      let known = known_reach (reads_at ds p.tree.0) back.next (length ds + n)
      (known_draft (reads_at ds p.tree.0) back.next (subst (λ m. m < length ds) e (tree_stands n p h)) (λ x y r. at_once (ap (λ m. reads_at ds m x y) e ∙ r))) back.rest in
      let own = known.own_bit n p refl h in
      go own.0 own.1 own.2
    where
      go : (i : ℕ) → HasBit p i → From f (reads_at ds p.tree.0) p.sig i → HasLoopSegment f p.sig
      go i has (at_once r) = (0, i, sym (piece_reads f ds k sound filled is n p h i has p.sig i) ∙ r)
      go i has (later m t j r d) = (suc m, i, (t, j, sym (piece_reads f ds k sound filled is n p h i has t j) ∙ r, d))

  -- ---- from segments to links

  -- a draft that reads the bit, below another one
  record IsReader (n t j : ℕ) : Type 0 where
    place : ℕ
    draft : Draft
    at : ℕ
    stands : slice_get ds place ≡ Some draft
    reads : draft.form ≡ Read t at
    low : at ≤ j
    high : j < at + draft.width
    way : Reaches ls n place

  reader : (bound n t j : ℕ) → n < bound → n < length ds → reads_at ds n t j ≡ true → IsReader n t j
  reader zero n t j l m h = absurd (omega arith)
  reader (suc bound) n t j l m h =
      let d = found ds n m in
      by_form d.0.form (made d.0 d.1 (λ a o r. reader bound a t j (omega arith) (omega arith) r)) (read d.0 d.1)
    where
      made : (d : Draft) → slice_get ds n ≡ Some d → ((a : ℕ) → a < n → reads_at ds a t j ≡ true → IsReader a t j) → (c : Cell) → d.form ≡ Made c → IsReader n t j
      made d s below c e =
          let r = any_found (draft_trees marked ds) (operand_ids c) t j (sym (made_reads (size_in f) ds is.drafts n d s c e t j) ∙ h) in
          let o = each_contains (λ a. a < n) (operand_ids c) r.0 (operands_stand_before (size_in f) ds is.drafts n d s c e) r.1 in
          let rest = below r.0 o r.2 in
          let first : IsLink ls n r.0 = record { end = subst (λ (xs : List ℕ). Contains xs r.0) (sym (form_row f.signals ds k.pieces.items n d (Made c) s e)) r.1; vertex = draft_vertex f.signals ds k.pieces.items r.0 (omega arith) } in
          record { place = rest.place; draft = rest.draft; at = rest.at; stands = rest.stands; reads = rest.reads; low = rest.low; high = rest.high; way = reaches-trans ls n r.0 rest.place (link here first) rest.way }

      read : (d : Draft) → slice_get ds n ≡ Some d → (sig at : ℕ) → d.form ≡ Read sig at → IsReader n t j
      read d s sig at e =
          let both = and_parts (t == sig) (is_within at d.width j) (sym (read_reads (size_in f) ds is.drafts n d s sig at e t j) ∙ h) in
          let range = from_within at d.width j both.1 in
          record { place = n; draft = d; at = at; stands = s; reads = e ∙ ap (λ x. Read x at) (sym (eqb-true t sig both.0)); low = range.0; high = range.1; way = here }

  -- what reads a bit of a piece leads to the piece
  to_piece : (n t j m : ℕ) (p : Piece) → n < length ds → reads_at ds n t j ≡ true → slice_get k.pieces.items m ≡ Some p → p.sig ≡ t → HasBit p j → Reaches ls n (length ds + m)
  to_piece n t j m p l h s e has =
      let r = reader (suc n) n t j (omega arith) l h in
      let low = has.low in let high = has.high in let from = r.low in let to = r.high in
      let wire : is_wire_in f.signals t ≡ true = ap (is_wire_in f.signals) (sym e) ∙ piece_wire f ds k sound filled is m p s in
      let met : has_bits p r.at r.draft.width ≡ true = ap₂ (λ x y. x && y) (lt-ltb p.at (r.at + r.draft.width) (omega arith)) (lt-ltb r.at (p.at + p.width) (omega arith)) in
      let row = form_row f.signals ds k.pieces.items r.place r.draft (Read t r.at) r.stands r.reads ∙ ap (λ u. cond u (meeting_places (length ds) k.pieces.items t r.at r.draft.width) []) wire in
      link r.way (record {
        end = subst (λ (xs : List ℕ). Contains xs (length ds + m)) (sym row) (meets_at (length ds) k.pieces.items t r.at r.draft.width m (record { piece = p; stands = s; of_signal = e; some = met }));
        vertex = piece_vertex f.signals ds k.pieces.items m p s;
      })

  -- a piece leads to those that its bits depend on
  leads : (n i t j a c : ℕ) (p q : Piece) → slice_get k.pieces.items a ≡ Some p → HasBit p i → DependsIn f n p.sig i t j → slice_get k.pieces.items c ≡ Some q → q.sig ≡ t → HasBit q j → Reaches ls p.tree.0 (length ds + c)
  leads zero i t j a c p q s has h z e own = to_piece p.tree.0 t j c q (tree_stands a p s) (piece_reads f ds k sound filled is a p s i has t j ∙ h) z e own
  leads (suc n) i t j a c p q s has h z e own =
      let some = depends_on_some f n h.0 h.1 t j h.3 in
      let m = bit_piece f ds k sound filled is h.0 h.1 some.0 some.1 some.2 in
      let first = to_piece p.tree.0 h.0 h.1 m.place m.piece (tree_stands a p s) (piece_reads f ds k sound filled is a p s i has h.0 h.1 ∙ h.2) m.stands m.of_signal m.has in
      let next = tree_linked f.signals ds k.pieces.items m.place m.piece m.stands (tree_stands m.place m.piece m.stands) in
      let rest = leads n h.1 t j m.place c m.piece q m.stands m.has (subst (λ x. DependsIn f n x h.1 t j) (sym m.of_signal) h.3) z e own in
      reaches-trans ls p.tree.0 m.piece.tree.0 (length ds + c) (link first next) rest

  pub segment_to_piece : (s : ℕ) → HasLoopSegment f s → HasLoopPiece ls (length ds) k.pieces.items s
  segment_to_piece s h =
      let some = depends_on_some f h.0 s h.1 s h.1 h.2 in
      let m = bit_piece f ds k sound filled is s h.1 some.0 some.1 some.2 in record {
        place = m.place;
        piece = m.piece;
        stands = m.stands;
        of_signal = m.of_signal;
        back = record {
          next = m.piece.tree.0;
          first = tree_linked f.signals ds k.pieces.items m.place m.piece m.stands (tree_stands m.place m.piece m.stands);
          rest = leads h.0 h.1 s h.1 m.place m.place m.piece m.piece m.stands m.has (subst (λ x. DependsIn f h.0 x h.1 s h.1) (sym m.of_signal) h.2) m.stands m.of_signal m.has;
        };
      }

  pub some_loop : (v : ℕ) → LeadsBack ls v → IsLoopFree f → ⊥
  some_loop v back free =
      let q = loops_have_pieces f.signals (size_in f) ds k.pieces.items is.drafts v back in
      let h = piece_to_segment q.1.place q.1.piece q.1.stands q.1.back in
      free h.0 q.1.piece.sig h.1 h.2

pub signals_on_loops : SignalsOnLoops
signals_on_loops f ds k sound filled is s = (
  λ h. subst (HasLoopSegment f) h.of_signal (piece_to_segment f ds k sound filled is h.place h.piece h.stands h.back),
  segment_to_piece f ds k sound filled is s,
)

pub loops_are_segments : LoopsAreSegments
loops_are_segments f ds k sound filled is = (
  λ none n s i h. let p = segment_to_piece f ds k sound filled is s (n, i, h) in none (length ds + p.place) p.back,
  λ free v back. some_loop f ds k sound filled is v back free,
)

pub first_loop_is_first : FirstLoopIsFirst
first_loop_is_first f ds k sound filled is n p stands back none = (
  piece_to_segment f ds k sound filled is n p stands back,
  λ s l h.
      let q = segment_to_piece f ds k sound filled is s h in
      by_lt (λ u. ⊥) q.place n (λ m. none q.place m q.back)
      (λ m.
      let rising = by_signal k.pieces.items is.ordered n q.place p m (slice_get_within k.pieces.items q.place q.piece q.stands) in
      let a = ap (λ (r : Piece). r.sig) (get_or_from_slice_get k.pieces.items n p p stands) in
      let b = ap (λ (r : Piece). r.sig) (get_or_from_slice_get k.pieces.items q.place q.piece p q.stands) in
      let e = q.of_signal in absurd (omega arith)),
)

pub loops_are_of_signals : LoopsAreOfSignals
loops_are_of_signals f s h = go (slice_get f.signals s) refl
  where
    within : h.1 < size_in f s
    within =
        let some = depends_on_some f h.0 s h.1 s h.1 h.2 in
        ltb-true h.1 (size_in f s) (and_parts (nat_lt h.1 (size_in f s)) (made_by_assigns (size_in f) f.assigns s h.1 some.0 some.1 || made_by_combs (size_in f) f.combs s h.1 some.0 some.1) some.2).0

    go : (o : Option Signal) → slice_get f.signals s ≡ o → (x : Signal) × (slice_get f.signals s ≡ Some x)
    go (Some x) e = (x, e)
    go None e = absurd (let l = within in let none : size_in f s ≡ 0 = ap (λ o. option_map_or (λ (x : Signal). x.width) o 0) e in omega arith)
