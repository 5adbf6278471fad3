-- What flattening gives, as far as the law of elaboration rests on it.
use Rattle.std.specs.Prelude.{◌≡◌, ℕ, ◌+◌, ◌<◌, ◌≤◌, true, false, ◌&&◌, nat_lt, nat_le, All}
use Rattle.flat_meaning.specs.Flat.{Expr, Stmt, Target, Whole, Part, Pick, Group, Targets, no_targets, target, assigns}
use Rattle.flat_meaning.specs.Fits.{Fits}
use Rattle.flat_meaning.specs.Assigned.{surely, may_assign}
use Rattle.flat_meaning.specs.Law.{AreWords, MayBe, Readable, IsClocked, IsComb}
use Rattle.flat_meaning.specs.Design.{Flat, size_in, is_variable, drivers}

-- a select of one bit or more inside its signal
abbrev pub inside : Flat → Readable
inside f s at w = nat_lt 0 w && nat_le (at + w) (size_in f s)

-- the target of an assignment: wires and parts of them, and no variable index
module _ (f : Flat) where
  abbrev mutual
    pub DrivesWires : Target → Type 0
    DrivesWires (Whole s) = (is_variable f s ≡ false) × (1 ≤ size_in f s)
    DrivesWires (Part s at w) = (is_variable f s ≡ false) × (1 ≤ w) × (at + w ≤ size_in f s)
    DrivesWires (Pick s e) = ⊥
    DrivesWires (Group ts) = AllDriveWires ts

    pub AllDriveWires : Targets → Type 0
    AllDriveWires no_targets = Unit {0}
    AllDriveWires (target t ts) = DrivesWires t × AllDriveWires ts

  abbrev pub IsSoundAssign : Target × Expr → Type 0
  IsSoundAssign a = Fits (size_in f) (MayBe (inside f)) a.1 × DrivesWires a.0

  -- a process of wires has no latch: what it may assign it assigns on every path
  pub record IsSoundComb (body : Stmt) : Type 0 where
    pub fits : IsComb (size_in f) (inside f) body
    pub wires : (s : ℕ) → assigns body s ≡ true → is_variable f s ≡ false
    pub no_latch : (s i : ℕ) → i < size_in f s → may_assign (size_in f) body s i ≡ true → surely (size_in f) body (λ x j. false) s i ≡ true

  pub record IsSoundClocked (body : Stmt) : Type 0 where
    pub fits : IsClocked (size_in f) (inside f) body
    pub registers : (s : ℕ) → assigns body s ≡ true → is_variable f s ≡ true

  -- the rules of flattening that elaboration rests on; no bit has two drivers, and clocks and outputs are signals
  pub record IsSound : Type 0 where
    pub sized : AreWords (size_in f)
    pub assigned : All IsSoundAssign f.assigns
    pub processed : All IsSoundComb f.combs
    pub clocked : All (λ p. IsSoundClocked p.1) f.clocked
    pub clocks : All (λ p. 1 ≤ size_in f p.0) f.clocked
    pub outputs : All (λ s. 1 ≤ size_in f s) f.outputs
    pub one_driver : (s i : ℕ) → i < size_in f s → drivers f s i ≤ 1
