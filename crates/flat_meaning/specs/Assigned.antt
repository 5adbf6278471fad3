-- Which bits a statement surely assigns, and what it may read: a target of a process only where it is assigned on the path so far.
use Rattle.std.specs.Prelude.{ℕ, ◌+◌, ◌^◌, ◌≤◌, Bool, false, cond, not, ◌&&◌, ◌||◌, ◌==◌, nat_lt}
use Rattle.flat_meaning.specs.Flat.{Target, Whole, Part, Pick, Group, Targets, no_targets, target, Stmt, Null, Set, If, Case, Block, Items, no_items, default_item, item, Stmts, no_stmts, stmt, size, case_size}
use Rattle.flat_meaning.specs.Full.{is_full}
use Rattle.flat_meaning.specs.Fits.{Fits, AllFit}

-- the bits that are assigned so far
abbrev pub Done : Type 0
Done = ℕ → ℕ → Bool

-- bit i is one of the w bits from a place on
abbrev pub is_within : (at w i : ℕ) → Bool
is_within at w i = not (nat_lt i at) && nat_lt i (at + w)

module _ (wid : ℕ → ℕ) where
  -- the bits that an assignment to the target surely assigns: a variable index counts as assigning none
  abbrev mutual
    pub covers : Target → Done
    covers (Whole s) x i = (x == s) && is_within 0 (wid s) i
    covers (Part s at w) x i = (x == s) && is_within at w i
    covers (Pick s e) x i = false
    covers (Group ts) x i = cover ts x i

    pub cover : Targets → Done
    cover no_targets x i = false
    cover (target t ts) x i = covers t x i || cover ts x i

  -- the bits that each path assigns, besides those done before
  abbrev mutual
    pub surely : Stmt → Done → Done
    surely Null d = d
    surely (Set b t e) d = λ x i. covers t x i || d x i
    surely (If c a b) d = λ x i. surely a d x i && surely b d x i
    surely (Case e is) d = surely_case (is_full (case_size e is) is) d is d
    surely (Block ss) d = surely_all ss d

    -- `otherwise` is done where no item's label is met; a full case has no such path
    pub surely_case : (full : Bool) → (otherwise : Done) → Items → Done → Done
    surely_case full otherwise no_items d = otherwise
    surely_case full otherwise (default_item body) d = surely body d
    surely_case full otherwise (item ls body rest) d = λ x i. surely body d x i && surely_case full (cond full (surely body d) otherwise) rest d x i

    pub surely_all : Stmts → Done → Done
    surely_all no_stmts d = d
    surely_all (stmt s ss) d = surely_all ss (surely s d)

  -- the bits that some path may assign: a variable index may assign each bit of its signal
  abbrev mutual
    pub reaches : Target → Done
    reaches (Whole s) x i = (x == s) && is_within 0 (wid s) i
    reaches (Part s at w) x i = (x == s) && is_within at w i
    reaches (Pick s e) x i = (x == s) && is_within 0 (wid s) i
    reaches (Group ts) x i = reach ts x i

    pub reach : Targets → Done
    reach no_targets x i = false
    reach (target t ts) x i = reaches t x i || reach ts x i

  abbrev mutual
    pub may_assign : Stmt → Done
    may_assign Null x i = false
    may_assign (Set b t e) x i = reaches t x i
    may_assign (If c a b) x i = may_assign a x i || may_assign b x i
    may_assign (Case e is) x i = may_assign_in is x i
    may_assign (Block ss) x i = any_may_assign ss x i

    pub may_assign_in : Items → Done
    may_assign_in no_items x i = false
    may_assign_in (default_item body) x i = may_assign body x i
    may_assign_in (item ls body rest) x i = may_assign body x i || may_assign_in rest x i

    pub any_may_assign : Stmts → Done
    any_may_assign no_stmts x i = false
    any_may_assign (stmt s ss) x i = may_assign s x i || any_may_assign ss x i

  -- a part lies in its signal, and an index names no bit that isn't there; `ok` says which selects may be read where those bits are done
  module _ (ok : Done → (sig at width : ℕ) → Type 0) where
    abbrev mutual
      pub FitsTarget : Done → Target → Type 0
      FitsTarget d (Whole s) = Unit {0}
      FitsTarget d (Part s at w) = at + w ≤ wid s
      FitsTarget d (Pick s e) = (2 ^ size e ≤ wid s) × Fits wid (ok d) e
      FitsTarget d (Group ts) = FitTargets d ts

      pub FitTargets : Done → Targets → Type 0
      FitTargets d no_targets = Unit {0}
      FitTargets d (target t ts) = FitsTarget d t × FitTargets d ts

    abbrev mutual
      pub FitsStmt : Done → Stmt → Type 0
      FitsStmt d Null = Unit {0}
      FitsStmt d (Set b t e) = Fits wid (ok d) e × FitsTarget d t
      FitsStmt d (If c x y) = Fits wid (ok d) c × FitsStmt d x × FitsStmt d y
      FitsStmt d (Case e is) = Fits wid (ok d) e × FitItems d is
      FitsStmt d (Block ss) = FitStmts d ss

      pub FitItems : Done → Items → Type 0
      FitItems d no_items = Unit {0}
      FitItems d (default_item body) = FitsStmt d body
      FitItems d (item ls body rest) = AllFit wid (ok d) ls × FitsStmt d body × FitItems d rest

      pub FitStmts : Done → Stmts → Type 0
      FitStmts d no_stmts = Unit {0}
      FitStmts d (stmt s ss) = FitsStmt d s × FitStmts (surely s d) ss
