-- Inputs that nothing reads change no other signal's value, and no next value.
use Rattle.std.proofs.Common.{◌≡◌, ◌∙◌, refl, sym, ap, ap₂, arith, ℕ, ◌+◌, ◌<◌, ◌≤◌, Bool, true, false, cond, ◌&&◌, ◌==◌, nat_lt, nat_le, List, [], ◌∷◌, eqb-true, leb-true, lt-ltb}
use Rattle.std.specs.List.{AllByRecursion as Each}
use Rattle.std.proofs.lemmas.Bool.{and_parts}
use Rattle.std.proofs.Math.Path.{fun_ext}
use Rattle.cdc_base.specs.declared.bit.Bit.{Bit}
use Rattle.cell_graph.specs.Reading.{Reading}
use Rattle.cell_graph.specs.Tree.{Var, Slice, width, bit}
use Rattle.flat_meaning.specs.Values.{Words}
use Rattle.flat_meaning.specs.Flat.{Expr, Stmt, Target, Whole, Part, Pick, Group, Targets, no_targets, target, assigns, size, target_sizes, value_size}
use Rattle.flat_meaning.specs.Fits.{Fits}
use Rattle.flat_meaning.specs.Meaning.{cat, value, run_blocking, run_clocked}
use Rattle.flat_meaning.specs.Trees.{Selects, cut, tree}
use Rattle.flat_meaning.specs.Assigned.{may_assign, surely}
use Rattle.flat_meaning.specs.Law.{AreWords, IsClocked, IsComb, MayBe, Readable, Shows, every, next_tree, wire_tree}
use Rattle.flat_meaning.specs.Design.{Flat, Pin, Consistent, HoldsValue, IsKept, Next, all_held, bit_of, given, held, is_variable, kind_in, kind_value, next_in, size_in}
use Rattle.flat_meaning.specs.SignalTrees.{AreTrees, next_tree_of}
use Rattle.flat_meaning.specs.Segments.{IsLoopFree}
use Rattle.flat_meaning.specs.Sound.{AllDriveWires, DrivesWires, IsSound, IsSoundAssign, IsSoundClocked, IsSoundComb, inside}
use Rattle.flat_meaning.proofs.Depth.{by_bool}
use Rattle.flat_meaning.proofs.Drivers.{not_assigned}
use Rattle.flat_meaning.proofs.Elaboration.{law_of_elaboration}
use Rattle.flat_meaning.proofs.Held.{run_keeps}
use Rattle.flat_meaning.proofs.Law.{clocked_law, comb_law, expression_law}
use Rattle.flat_meaning.proofs.Placed.{each_and, each_map, each_of, of_each}
use Rattle.flat_model.proofs.Executed.{next_same}
use Rattle.reset_reads.specs.Read.{Reads, StmtReads}
use Rattle.replay_laws.proofs.Fitted.{fits_on, stmt_on}

never : {A : Type 0} → true ≡ false → A
never h = cc

module _ (f : Flat) (sized : AreWords (size_in f)) (may : ℕ → Bool) where
  -- the selects of signals that may be read
  abbrev ok : Readable
  ok s at w = inside f s at w && may s

  both : (s at w : ℕ) → may s ≡ true → inside f s at w ≡ true → ok s at w ≡ true
  both s at w m h = ap₂ (λ a b. a && b) h m

  -- the signals themselves, and the reading with the bits of those that may be read
  abbrev own : Selects
  own s at w = cut (size_in f s) at w (Var s (size_in f s))

  abbrev reading_of : Words → Reading
  reading_of v b = cond (may b.sig && nat_lt b.at (size_in f b.sig)) (v b.sig b.at) false

  has_bit : (v : Words) (s i : ℕ) → may s ≡ true → i < size_in f s → reading_of v (record { sig = s; at = i }) ≡ v s i
  has_bit v s i m l = ap₂ (λ a b. cond (a && b) (v s i) false) m (lt-ltb i (size_in f s) l)

  shows : (v : Words) → Shows (reading_of v) v ok every own
  shows v s at w h k = go (size_in f s == w) refl
    where
      m : may s ≡ true
      m = (and_parts (inside f s at w) (may s) h).1

      room : at + w ≤ size_in f s
      room = leb-true (at + w) (size_in f s) (and_parts (nat_lt 0 w) (nat_le (at + w) (size_in f s)) (and_parts (inside f s at w) (may s) h).0).1

      go : (t : Bool) → (size_in f s == w) ≡ t → (width (cond t (Var s (size_in f s)) (Slice (Var s (size_in f s)) at w)) ≡ w)
          × ((i : ℕ) → i < w → bit (reading_of v) (cond t (Var s (size_in f s)) (Slice (Var s (size_in f s)) at w)) i ≡ v s (at + i))
      go true e =
          let whole = eqb-true (size_in f s) w e in
          (whole, λ i l. has_bit v s i m (omega (arith, whole, l)) ∙ ap (v s) (let r = room in let first : i ≡ at + i = omega (arith, whole, r) in first))
      go false e = (refl, λ i l. has_bit v s (at + i) m (let r = room in omega (arith, r, l)))

  -- ---- values that agree on what may be read

  module _ (v u : Words) (same : (s i : ℕ) → may s ≡ true → v s i ≡ u s i) where
    reading_same : reading_of v ≡ reading_of u
    reading_same = fun_ext (λ b. go b (may b.sig) refl (nat_lt b.at (size_in f b.sig)))
      where
        go : (b : Bit) (m : Bool) → may b.sig ≡ m → (l : Bool) → cond (m && l) (v b.sig b.at) false ≡ cond (m && l) (u b.sig b.at) false
        go b true e true = same b.sig b.at e
        go b true e false = refl
        go b false e l = refl

    value_same : (e : Expr) → Fits (size_in f) (MayBe ok) e → (W : ℕ) → size e ≤ W → (i : ℕ) → i < W → value v e W i ≡ value u e W i
    value_same e fits W l i k =
        sym ((expression_law (reading_of v) v (size_in f) ok every own (shows v) e fits (λ t j m. refl) W l).1 i k)
        ∙ ap (λ (r : Reading). bit r (tree (size_in f) own e W) i) reading_same
        ∙ (expression_law (reading_of u) u (size_in f) ok every own (shows u) e fits (λ t j m. refl) W l).1 i k

    comb_same : (body : Stmt) → IsComb (size_in f) ok body → (x i : ℕ) → assigns body x ≡ true → i < size_in f x → surely (size_in f) body (λ y j. false) x i ≡ true
        → run_blocking (size_in f) body v x i ≡ run_blocking (size_in f) body u x i
    comb_same body fits x i a l done =
        sym ((comb_law (reading_of v) v (size_in f) ok every own sized (shows v) body fits x a (λ t j m. refl)).1 i l done)
        ∙ ap (λ (r : Reading). bit r (wire_tree (size_in f) own body x) i) reading_same
        ∙ (comb_law (reading_of u) u (size_in f) ok every own sized (shows u) body fits x a (λ t j m. refl)).1 i l done

    clocked_same : (body : Stmt) → IsClocked (size_in f) ok body → ((s : ℕ) → assigns body s ≡ true → may s ≡ true) → (x i : ℕ) → assigns body x ≡ true → i < size_in f x
        → run_clocked (size_in f) body v x i ≡ run_clocked (size_in f) body u x i
    clocked_same body fits locals x i a l =
        sym ((clocked_law (reading_of v) v (size_in f) ok own sized (shows v) body fits (λ s j local k. has_bit v s j (locals s local) k) x a).1 i l)
        ∙ ap (λ (r : Reading). bit r (next_tree (size_in f) own body x) i) reading_same
        ∙ (clocked_law (reading_of u) u (size_in f) ok own sized (shows u) body fits (λ s j local k. has_bit u s j (locals s local) k) x a).1 i l

    assigned : (body : Stmt) (x i : ℕ) → may_assign (size_in f) body x i ≡ true → assigns body x ≡ true
    assigned body x i m = by_bool (assigns body x) (λ e. e) (λ e. never (sym m ∙ not_assigned (size_in f) x body i e))

    -- a clocked process that reads and assigns such signals alone
    abbrev IsApart : ℕ × Stmt → Type 0
    IsApart p = IsSoundClocked f p.1 × (StmtReads may may p.1 × ((s : ℕ) → assigns p.1 s ≡ true → may s ≡ true))

    next_apart : (ps : List (ℕ × Stmt)) → Each IsApart ps → (s i : ℕ) → may s ≡ true → i < size_in f s → next_in (size_in f) ps v s i ≡ next_in (size_in f) ps u s i
    next_apart [] h s i m l = same s i m
    next_apart (p ∷ ps) h s i m l = go (may_assign (size_in f) p.1 s i) refl (next_apart ps h.1 s i m l)
      where
        fits : IsClocked (size_in f) ok p.1
        fits = stmt_on (size_in f) may (λ d. MayBe (inside f)) (λ d. MayBe ok) (λ d. both) (λ x j. true) p.1 h.0.1.0 h.0.0.fits

        go : (t : Bool) → may_assign (size_in f) p.1 s i ≡ t → next_in (size_in f) ps v s i ≡ next_in (size_in f) ps u s i
            → cond t (run_clocked (size_in f) p.1 v s i) (next_in (size_in f) ps v s i) ≡ cond t (run_clocked (size_in f) p.1 u s i) (next_in (size_in f) ps u s i)
        go true e rest = clocked_same p.1 fits h.0.1.1 s i (assigned p.1 s i e) l
        go false e rest = rest

    -- what wires have
    module _ (wires : (s : ℕ) → is_variable f s ≡ false → may s ≡ true) where
      mutual
        held_same : (t : Target) → DrivesWires f t → (i : ℕ) → held (size_in f) v t i ≡ held (size_in f) u t i
        held_same (Whole s) d i = same s i (wires s d.0)
        held_same (Part s at w) d i = same s (at + i) (wires s d.0)
        held_same (Pick s e) d i = absurd d
        held_same (Group ts) d i = all_held_same ts d i

        all_held_same : (ts : Targets) → AllDriveWires f ts → (i : ℕ) → all_held (size_in f) v ts i ≡ all_held (size_in f) u ts i
        all_held_same no_targets d i = refl
        all_held_same (target t ts) d i = ap₂ (λ (g h : ℕ → Bool). cat g (target_sizes (size_in f) ts) h i) (fun_ext (held_same t d.0)) (fun_ext (all_held_same ts d.1))

      holds_too : (a : Target × Expr) → IsSoundAssign f a → Reads may may a.1 → HoldsValue f v a → HoldsValue f u a
      holds_too a sound reads h i l =
          sym (held_same a.0 sound.1 i) ∙ h i l
          ∙ value_same a.1 (fits_on (size_in f) may (MayBe (inside f)) (MayBe ok) both a.1 reads sound.0) (value_size (size_in f) a.0 a.1) (omega arith) i (omega (arith, l))

      kept_too : (body : Stmt) → IsSoundComb f body → StmtReads may may body → IsKept f v body → IsKept f u body
      kept_too body sound reads h s i l = by_bool (may_assign (size_in f) body s i)
          (λ e. let a = assigned body s i e in let m = wires s (sound.wires s a) in
          sym (comb_same body fits s i a l (sound.no_latch s i l e)) ∙ h s i l ∙ same s i m)
          (λ e. run_keeps (size_in f) s i l (λ now. now) body u e)
        where
          fits : IsComb (size_in f) ok body
          fits = stmt_on (size_in f) may _ _ (λ d s at w m k. (λ e. both s at w m (k.0 e), k.1)) (λ x j. false) body reads sound.fits

-- ---- inputs at other levels

-- A design that reads no signal but those that may be read: no wire is among the others, and no process assigns one of them.
pub record IsUnread (f : Flat) (may : ℕ → Bool) : Type 0 where
  pub wires : (s : ℕ) → is_variable f s ≡ false → may s ≡ true
  pub values : Each (λ (a : Target × Expr). Reads may may a.1) f.assigns
  pub combs : Each (StmtReads may may) f.combs
  pub clocked : Each (λ (p : ℕ × Stmt). StmtReads may may p.1 × ((s : ℕ) → assigns p.1 s ≡ true → may s ≡ true)) f.clocked

module _ (f : Flat) (sound : IsSound f) (may : ℕ → Bool) (unread : IsUnread f may) (pins others : ℕ → Pin) (same : (s : ℕ) → may s ≡ true → pins s ≡ others s) (r : Reading) where
  module _ (v w : Words) (c : Consistent f pins r v) (k : Consistent f others r w) where
    -- the values of the first, and the others' of what isn't read
    abbrev mixed : Words
    mixed s i = cond (may s) (v s i) (w s i)

    first : (s i : ℕ) → may s ≡ true → v s i ≡ mixed s i
    first s i m = sym (ap (λ t. cond t (v s i) (w s i)) m)

    given_same : (s i : ℕ) → may s ≡ true → given f pins r (bit_of s i) ≡ given f others r (bit_of s i)
    given_same s i m = ap (λ p. kind_value (kind_in f.signals s) p r (bit_of s i)) (same s m)

    mixed_variables : (s i : ℕ) → i < size_in f s → is_variable f s ≡ true → mixed s i ≡ given f others r (bit_of s i)
    mixed_variables s i l e = by_bool (may s)
        (λ m. sym (first s i m) ∙ c.variables s i l e ∙ given_same s i m)
        (λ m. ap (λ t. cond t (v s i) (w s i)) m ∙ k.variables s i l e)

    pub mixed_consistent : Consistent f others r mixed
    mixed_consistent = record {
      variables = mixed_variables;
      undriven = λ s i l e z. sym (first s i (unread.wires s e)) ∙ c.undriven s i l e z;
      assigned = of_each _ f.assigns (each_map {Q = HoldsValue f mixed} (λ a h. holds_too f sound.sized may v mixed first unread.wires a h.0 h.1.0 h.1.1) f.assigns
          (each_and _ _ f.assigns (each_of _ f.assigns sound.assigned) (each_and _ _ f.assigns unread.values (each_of _ f.assigns c.assigned))));
      processed = of_each _ f.combs (each_map {Q = IsKept f mixed} (λ body h. kept_too f sound.sized may v mixed first unread.wires body h.0 h.1.0 h.1.1) f.combs
          (each_and _ _ f.combs (each_of _ f.combs sound.processed) (each_and _ _ f.combs unread.combs (each_of _ f.combs c.processed))));
    }

    next_first : (s i : ℕ) → may s ≡ true → i < size_in f s → Next f v s i ≡ Next f mixed s i
    next_first s i m l = next_apart f sound.sized may v mixed first f.clocked (each_and (λ (p : ℕ × Stmt). IsSoundClocked f p.1) _ f.clocked (each_of _ f.clocked sound.clocked) unread.clocked) s i m l

  -- next values don't rest on the level of what isn't read
  module _ (free : IsLoopFree f) (sel : Selects) (are : AreTrees f sel) where
    pub next_levels : (s i : ℕ) → is_variable f s ≡ true → may s ≡ true → i < size_in f s
        → bit (given f pins r) (next_tree_of f sel s) i ≡ bit (given f others r) (next_tree_of f sel s) i
    next_levels s i e m l =
        let a = law_of_elaboration f sound free sel are pins r in
        let b = law_of_elaboration f sound free sel are others r in
        let x = mixed a.values b.values a.consistent b.consistent in
        (a.nexts s e).1 i l ∙ next_first a.values b.values a.consistent b.consistent s i m l
        ∙ next_same f sound.sized x b.values (b.one x (mixed_consistent a.values b.values a.consistent b.consistent)) f.clocked (each_of _ f.clocked sound.clocked) s i l
        ∙ sym ((b.nexts s e).1 i l)
