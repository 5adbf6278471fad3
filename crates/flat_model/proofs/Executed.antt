-- Processes take no notice of bits that aren't there: values that agree on all bits of signals have the same next values.
use Rattle.std.proofs.Common.{◌≡◌, ◌∙◌, refl, sym, ap, arith, ℕ, ◌+◌, ◌<◌, ◌≤◌, Bool, true, false, cond, ◌==◌, nat_lt, nat_le, List, [], ◌∷◌, eqb-true, leb-true, lt-ltb, ltb-true}
use Rattle.std.specs.List.{AllByRecursion as Each}
use Rattle.std.proofs.lemmas.Bool.{and_parts}
use Rattle.std.proofs.Math.Path.{fun_ext}
use Rattle.cdc_base.specs.declared.bit.Bit.{Bit}
use Rattle.cell_graph.specs.Reading.{Reading}
use Rattle.cell_graph.specs.Tree.{Var, Slice, width, bit}
use Rattle.flat_meaning.specs.Values.{Words}
use Rattle.flat_meaning.specs.Flat.{Stmt, assigns}
use Rattle.flat_meaning.specs.Meaning.{run_clocked}
use Rattle.flat_meaning.specs.Trees.{Selects, cut}
use Rattle.flat_meaning.specs.Assigned.{may_assign}
use Rattle.flat_meaning.specs.Law.{AreWords, Shows, every, next_tree}
use Rattle.flat_meaning.specs.Design.{Flat, next_in, size_in}
use Rattle.flat_meaning.specs.Sound.{inside, IsSoundClocked}
use Rattle.flat_meaning.proofs.Depth.{by_bool}
use Rattle.flat_meaning.proofs.Drivers.{not_assigned}
use Rattle.flat_meaning.proofs.Law.{clocked_law}

module _ (f : Flat) (sized : AreWords (size_in f)) where
  -- the signals themselves
  abbrev own : Selects
  own s at w = cut (size_in f s) at w (Var s (size_in f s))

  -- the reading with the bits of all signals
  abbrev reading_of : Words → Reading
  reading_of v b = cond (nat_lt b.at (size_in f b.sig)) (v b.sig b.at) false

  has_bit : (v : Words) (s i : ℕ) → i < size_in f s → reading_of v (record { sig = s; at = i }) ≡ v s i
  has_bit v s i l = ap (λ t. cond t (v s i) false) (lt-ltb i (size_in f s) l)

  shows : (v : Words) → Shows (reading_of v) v (inside f) every own
  shows v s at w h k = go (size_in f s == w) refl
    where
      room : at + w ≤ size_in f s
      room = leb-true (at + w) (size_in f s) (and_parts (nat_lt 0 w) (nat_le (at + w) (size_in f s)) h).1

      go : (t : Bool) → (size_in f s == w) ≡ t → (width (cond t (Var s (size_in f s)) (Slice (Var s (size_in f s)) at w)) ≡ w)
          × ((i : ℕ) → i < w → bit (reading_of v) (cond t (Var s (size_in f s)) (Slice (Var s (size_in f s)) at w)) i ≡ v s (at + i))
      go true e =
          let whole = eqb-true (size_in f s) w e in
          (whole, λ i l. has_bit v s i (omega (arith, whole, l)) ∙ ap (v s) (let r = room in let first : i ≡ at + i = omega (arith, whole, r) in first))
      go false e = (refl, λ i l. has_bit v s (at + i) (let r = room in omega (arith, r, l)))

  module _ (v u : Words) (same : (s i : ℕ) → i < size_in f s → v s i ≡ u s i) where
    reading_same : reading_of v ≡ reading_of u
    reading_same = fun_ext (λ b. go b (nat_lt b.at (size_in f b.sig)) refl)
      where
        go : (b : Bit) (t : Bool) → nat_lt b.at (size_in f b.sig) ≡ t → cond t (v b.sig b.at) false ≡ cond t (u b.sig b.at) false
        go b true e = same b.sig b.at (ltb-true b.at (size_in f b.sig) e)
        go b false e = refl

    clocked_same : (body : Stmt) → IsSoundClocked f body → (x : ℕ) → assigns body x ≡ true → (i : ℕ) → i < size_in f x → run_clocked (size_in f) body v x i ≡ run_clocked (size_in f) body u x i
    clocked_same body ok x h i l =
        sym ((clocked_law (reading_of v) v (size_in f) (inside f) own sized (shows v) body ok.fits (λ s j a. has_bit v s j) x h).1 i l)
        ∙ ap (λ (r : Reading). bit r (next_tree (size_in f) own body x) i) reading_same
        ∙ (clocked_law (reading_of u) u (size_in f) (inside f) own sized (shows u) body ok.fits (λ s j a. has_bit u s j) x h).1 i l

    -- a process that may assign a bit of a signal assigns the signal
    assigned : (body : Stmt) (x i : ℕ) → may_assign (size_in f) body x i ≡ true → assigns body x ≡ true
    assigned body x i m = by_bool (assigns body x) (λ e. e) (λ e. absurd (let never : true ≡ false → ⊥ = λ k. cc in never (sym m ∙ not_assigned (size_in f) x body i e)))

    pub next_same : (ps : List (ℕ × Stmt)) → Each (λ p. IsSoundClocked f p.1) ps → (s i : ℕ) → i < size_in f s → next_in (size_in f) ps v s i ≡ next_in (size_in f) ps u s i
    next_same [] h s i l = same s i l
    next_same (p ∷ ps) h s i l = go (may_assign (size_in f) p.1 s i) refl (next_same ps h.1 s i l)
      where
        go : (t : Bool) → may_assign (size_in f) p.1 s i ≡ t → next_in (size_in f) ps v s i ≡ next_in (size_in f) ps u s i
            → cond t (run_clocked (size_in f) p.1 v s i) (next_in (size_in f) ps v s i) ≡ cond t (run_clocked (size_in f) p.1 u s i) (next_in (size_in f) ps u s i)
        go true e rest = clocked_same p.1 h.0 s (assigned p.1 s i e) i l
        go false e rest = rest
