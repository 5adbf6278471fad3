-- The stack of modules that are being visited, and the marks of these.
use Rattle.std.proofs.Common.{◌≡◌, ◌≢◌, ℕ, zero, suc, ◌<◌, ◌==◌, Bool, true, false, cond, List, [], ◌∷◌, ◌++◌, length, Some, refl, sym, ap, ap₂, subst, ◌∙◌, arith, rules, bytes_eq, eqb-true}
use Rattle.std.proofs.lemmas.Bool.{eqb-false}
use Rattle.std.specs.Prelude.{slice_get, slice_set, flat_map}
use Rattle.std.proofs.lemmas.Slice.Eq.{bytes_eq-Decides}
use Rattle.std.proofs.lemmas.List.Elements.{All-tail}
use Rattle.cdc_base.specs.Words.{is_in}
use Rattle.cdc_base.specs.declared.signal.ResetPin.{ResetPin}
use Rattle.verilog_ast.specs.declared.Module.{Module}
use Rattle.verilog_reading.specs.SourceTree.{ModuleTree}
use Rattle.flat_unfolding.specs.Outcome.{Text}
use Rattle.flat_unfolding.specs.Design as u
use Rattle.flat_unfolding.proofs.Steps.{some_is}
use Rattle.flat_names.specs.declared.design.Design.{Design}
use Rattle.flat_design.specs.declared.visit.Open.{Open}
use Rattle.flat_design.specs.Visiting.{Frame, visited, IsFrame, AreFrames, mark_at, AreMarked, AreFitNames, IsVisiting, part_of, prefix_of}

-- ---- the last of a list

nothing-behind : {A : Type 0} (xs : List A) (x : A) → [] ≢ (xs ++ x ∷ [])
nothing-behind [] x e = absurd (search (rules, e))
nothing-behind (y ∷ xs) x e = absurd (search (rules, e))

pub last-is : {A : Type 0} (xs ys : List A) (x y : A) → xs ++ x ∷ [] ≡ ys ++ y ∷ [] → (xs ≡ ys) × (x ≡ y)
last-is [] [] x y e = (refl, cc)
last-is [] (b ∷ ys) x y e = let t : [] ≡ ys ++ y ∷ [] = cc in absurd (nothing-behind ys y t)
last-is (a ∷ xs) [] x y e = let t : [] ≡ xs ++ x ∷ [] = cc in absurd (nothing-behind xs x t)
last-is (a ∷ xs) (b ∷ ys) x y e =
    let t : xs ++ x ∷ [] ≡ ys ++ y ∷ [] = cc in let h : a ≡ b = cc in let r = last-is xs ys x y t in (ap₂ (λ z zs. z ∷ zs) h r.0, r.1)

-- ---- marks

pub mark-here : (marks : List Bool) (k : ℕ) (b : Bool) → k < length marks → mark_at (slice_set marks k b) k ≡ b
mark-here [] k b l = absurd (omega arith)
mark-here (m ∷ marks) zero b l = refl
mark-here (m ∷ marks) (suc k) b l = mark-here marks k b (omega arith)

pub mark-other : (marks : List Bool) (k j : ℕ) (b : Bool) → j ≢ k → mark_at (slice_set marks k b) j ≡ mark_at marks j
mark-other [] k j b n = refl
mark-other (m ∷ marks) zero zero b n = absurd (n refl)
mark-other (m ∷ marks) zero (suc j) b n = refl
mark-other (m ∷ marks) (suc k) zero b n = refl
mark-other (m ∷ marks) (suc k) (suc j) b n = mark-other marks k j b (λ e. n (ap suc e))

pub as-many : (marks : List Bool) (k : ℕ) (b : Bool) → length (slice_set marks k b) ≡ length marks
as-many [] k b = refl
as-many (m ∷ marks) zero b = refl
as-many (m ∷ marks) (suc k) b = ap suc (as-many marks k b)

-- no two modules have one name
abbrev pub AreNamedApart : List Module → Type 0
AreNamedApart modules = (i j : ℕ) (m q : Module) → slice_get modules i ≡ Some m → slice_get modules j ≡ Some q → m.name ≡ q.name → i ≡ j

module _ (modules : List Module) (apart : AreNamedApart modules) (marks : List Bool) (number : ℕ) (m : Module) (at : slice_get modules number ≡ Some m) (names : List Text) where
  other-name : (j : ℕ) (q : Module) → slice_get modules j ≡ Some q → j ≢ number → bytes_eq m.name q.name ≡ false
  other-name j q e n = go (bytes_eq m.name q.name) refl
    where
      go : (b : Bool) → bytes_eq m.name q.name ≡ b → bytes_eq m.name q.name ≡ false
      go false d = d
      go true d = absurd (n (sym (apart number j m q at e ((bytes_eq-Decides m.name q.name).0 d))))

  same-name : (j : ℕ) (q : Module) → slice_get modules j ≡ Some q → j ≡ number → bytes_eq m.name q.name ≡ true
  same-name j q e i = (bytes_eq-Decides m.name q.name).1 (ap (λ (z : Module). z.name) (some_is m q (sym at ∙ ap (slice_get modules) (sym i) ∙ e)))

  -- the module is visited
  pub mark-entered : AreMarked modules marks names → AreMarked modules (slice_set marks number true) (m.name ∷ names)
  mark-entered h j q e = let o = h j q e in (subst (λ n. j < n) (sym (as-many marks number true)) o.0, go (j == number) refl)
    where
      go : (b : Bool) → (j == number) ≡ b → mark_at (slice_set marks number true) j ≡ cond (bytes_eq m.name q.name) true (is_in names q.name)
      go true d =
          let i = eqb-true j number d in
          ap (mark_at (slice_set marks number true)) i ∙ mark-here marks number true (subst (λ n. n < length marks) i (h j q e).0)
          ∙ sym (ap (λ c. cond c true (is_in names q.name)) (same-name j q e i))
      go false d =
          let n : j ≢ number = eqb-false j number d in
          mark-other marks number j true n ∙ (h j q e).1 ∙ sym (ap (λ c. cond c true (is_in names q.name)) (other-name j q e n))

  -- the module is left
  pub mark-left : is_in names m.name ≡ false → AreMarked modules marks (m.name ∷ names) → AreMarked modules (slice_set marks number false) names
  mark-left new h j q e = let o = h j q e in (subst (λ n. j < n) (sym (as-many marks number false)) o.0, go (j == number) refl)
    where
      go : (b : Bool) → (j == number) ≡ b → mark_at (slice_set marks number false) j ≡ is_in names q.name
      go true d =
          let i = eqb-true j number d in
          ap (mark_at (slice_set marks number false)) i ∙ mark-here marks number false (subst (λ n. n < length marks) i (h j q e).0)
          ∙ sym (ap (is_in names) (sym ((bytes_eq-Decides m.name q.name).0 (same-name j q e i))) ∙ new)
      go false d =
          let n : j ≢ number = eqb-false j number d in
          mark-other marks number j false n ∙ (h j q e).1 ∙ ap (λ c. cond c true (is_in names q.name)) (other-name j q e n)

-- ---- a module whose items are done is left

module _ (pins : List ResetPin) (modules : List Module) (apart : AreNamedApart modules) (opens outer : List Open) (o : Open) (marks : List Bool) (kept : Design) (d : u.Design) (popped : opens ≡ outer ++ o ∷ []) where
  -- the innermost frame is that of the module that was opened last
  pub record IsInnermost (frames : List Frame) : Type 0 where
    pub f : Frame
    pub fs : List Frame
    pub frames_are : frames ≡ f ∷ fs
    pub is : IsFrame modules o f
    pub prefix : f.prefix ≡ flat_map (λ (p : Open). part_of modules p) outer
    pub around : AreFrames modules outer fs

  pub innermost : (frames : List Frame) → AreFrames modules opens frames → IsInnermost frames
  innermost [] h = absurd (nothing-behind outer o (sym h ∙ popped))
  innermost (f ∷ fs) h =
      let e = last-is h.0 outer h.1 o (sym h.2 ∙ popped) in record {
        f = f;
        fs = fs;
        frames_are = refl;
        is = subst (λ (p : Open). IsFrame modules p f) e.1 h.3;
        prefix = h.4 ∙ ap (prefix_of modules) e.0;
        around = subst (λ (ps : List Open). AreFrames modules ps fs) e.0 h.5;
      }

  pub left-behind : (f : Frame) (fs : List Frame) → IsVisiting pins modules opens marks kept (f ∷ fs) d → IsFrame modules o f → AreFrames modules outer fs
      → IsVisiting pins modules outer (slice_set marks o.module false) kept fs d
  left-behind f fs h is around = record {
    frames_are = around;
    marks_are = mark-left modules apart marks o.module is.tree is.found (visited fs)
        (ap (is_in (visited fs)) (ap (λ (t : ModuleTree). t.name) (sym is.is)) ∙ h.different.0) (subst (λ (x : Text). AreMarked modules marks (x ∷ visited fs)) (ap (λ (t : ModuleTree). t.name) is.is) h.marks_are);
    design = h.design;
    fit = h.fit;
    names = All-tail (λ (g : Frame). AreFitNames g.names (length d.entries)) f fs h.names;
    bounded = h.bounded.1;
    different = h.different.1;
  }
