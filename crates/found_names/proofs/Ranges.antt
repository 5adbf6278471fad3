-- The bits of an unfolding's signals are those of their ranges.
use Rattle.std.proofs.Common.{◌≡◌, ℕ, suc, ◌+◌, ◌-◌, max, min, true, false, List, [], ◌∷◌, length, Option, Some, None, is_some, refl, subst, rules}
use Rattle.std.specs.List.{AllByRecursion}
use Rattle.cdc_base.specs.declared.signal.ResetPin.{ResetPin}
use Rattle.cdc_base.specs.declared.signal.Signal.{Signal}
use Rattle.verilog_reading.specs.SourceTree.{ModuleTree}
use Rattle.flat_meaning.specs.Design.{Flat}
use Rattle.flat_unfolding.specs.Design.{Design, Stage, no_design}
use Rattle.flat_unfolding.specs.Declarations.{header_of}
use Rattle.flat_unfolding.specs.Names.{Entry, Range, width_of}
use Rattle.flat_unfolding.specs.Outcome.{Text, good}
use Rattle.flat_unfolding.specs.Signals.{left_of, right_of, signals_from, with_constants, with_free}
use Rattle.flat_unfolding.specs.Unfolding.{finished, from_top, module_named, modules_differ, top_ports, unfolded, visit}
use Rattle.flat_unfolding.proofs.Steps.{good_then}
use Rattle.flat_unfolding.proofs.Visits.{accepted}

-- one bit where there is no range, and else as many as the range has indices
pub record IsRanged (s : Signal) : Type 0 where
  pub one : s.ranged ≡ false → s.width ≡ 1
  pub many : s.ranged ≡ true → s.width ≡ max s.left s.right - min s.left s.right + 1

one-bit : (r : Option Range) → is_some r ≡ false → width_of r ≡ 1
one-bit None e = refl
one-bit (Some b) e = cc

many-bits : (r : Option Range) → is_some r ≡ true → width_of r ≡ max (left_of r) (right_of r) - min (left_of r) (right_of r) + 1
many-bits None e = cc
many-bits (Some b) e = refl

each-ranged : (d : Design) (n : ℕ) (es : List Entry) → AllByRecursion IsRanged (signals_from d n es)
each-ranged d n [] = tt
each-ranged d n (e ∷ es) = (record { one = one-bit e.range; many = many-bits e.range }, each-ranged d (suc n) es)

top-ranged : (modules : List ModuleTree) (resets : List ResetPin) (named : List Text) (top : Text) (o : Option ModuleTree) (f : Flat) → from_top modules resets named top o ≡ good f → AllByRecursion IsRanged f.signals
top-ranged modules resets named top None f e = absurd (search (rules, e))
top-ranged modules resets named top (Some m) f e =
    let g = good_then (visit modules (length modules) [] (m.name ∷ []) m [] (top_ports (header_of m)) (no_design resets)) (λ (s : Stage). finished named s.design) f e in
    let a = accepted named g.0.design f g.2 in
    subst (λ (x : Flat). AllByRecursion IsRanged x.signals) a.2 (each-ranged (with_constants (with_free named g.0.design)) 0 (with_free named g.0.design).entries)

pub signals-ranged : (modules : List ModuleTree) (top : Text) (resets : List ResetPin) (named : List Text) (f : Flat) → unfolded modules top resets named ≡ good f → AllByRecursion IsRanged f.signals
signals-ranged modules top resets named f e =
    let g = good_then (modules_differ modules) (λ u. from_top modules resets named top (module_named top modules)) f e in
    top-ranged modules resets named top (module_named top modules) f g.2
