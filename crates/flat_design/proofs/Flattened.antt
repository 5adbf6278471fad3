-- Each flat design that unfolds has what the layers above may rest on.
use Rattle.std.proofs.Common.{Result, Ok, Err, IfOk, ◌≡◌, ℕ, zero, suc, ◌+◌, ◌<◌, Bool, false, List, [], ◌∷◌, length, Option, Some, None, sym, ap, subst, ◌∙◌, arith, rules, slice_get}
use Rattle.cdc_base.specs.declared.signal.ResetPin.{ResetPin}
use Rattle.cdc_base.specs.declared.signal.Signal.{Signal}
use Rattle.cdc_base.specs.declared.fault.Stop.{Stop}
use Rattle.verilog_reading.specs.SourceTree.{ModuleTree}
use Rattle.flat_form.specs.declared.flat.Flat as code
use Rattle.flat_form.specs.View.{flat_of}
use Rattle.flat_meaning.specs.Flat.{Stmt}
use Rattle.flat_meaning.specs.Design.{Flat}
use Rattle.flat_unfolding.specs.Outcome.{Text, good}
use Rattle.flat_unfolding.specs.Design.{Stage, no_design}
use Rattle.flat_unfolding.specs.Declarations.{header_of}
use Rattle.flat_unfolding.specs.Drivers.{is_double, is_undriven, refuse_first, driven_once}
use Rattle.flat_unfolding.specs.Formed.{IsSourceFormed}
use Rattle.flat_unfolding.specs.Reads.{first_from}
use Rattle.flat_unfolding.specs.Unfolding.{IsUnfolding, unfolded, from_top, module_named, modules_differ, visit, top_ports, finished}
use Rattle.flat_unfolding.specs.Widths.{KeepsSizes}
use Rattle.flat_unfolding.proofs.OneDriver.{none_from, no_bit}
use Rattle.flat_unfolding.proofs.Sound.{well_clocked_law, sound_law}
use Rattle.flat_unfolding.proofs.Steps.{good_then, some_is}
use Rattle.flat_unfolding.proofs.Visits.{limits_law, accepted}
use Rattle.flat_unfolding.proofs.Widths.{well_sized_law}
use Rattle.signal_names.specs.Laws.{IsSourceVisible}
use Rattle.signal_names.proofs.Visits.{names_differ}
use Rattle.flat_design.specs.Flattened.{IsDriven, IsFlattened}

-- where no bit is refused, none of a signal breaks the rule
no_bit_of : (rule : ℕ) (p : ℕ → Signal → ℕ → Bool) (n : ℕ) (xs : List Signal) (u : Unit {0}) → refuse_first rule p n xs ≡ good u
    → (s i : ℕ) (x : Signal) → slice_get xs s ≡ Some x → i < x.width → p (n + s) x i ≡ false
no_bit_of rule p n [] u e s i x g l = absurd (search (rules, g))
no_bit_of rule p n (y ∷ xs) u e zero i x g l =
    let h : n + 0 ≡ n = omega arith in let k : 0 + i ≡ i = omega arith in
    let b = no_bit rule y (first_from (p n y) 0 y.width) (refuse_first rule p (suc n) xs) u e in
    let same = some_is y x g in
    ap (λ m. p m x i) h ∙ sym (ap (λ (z : Signal). p n z i) same) ∙ sym (ap (p n y) k) ∙ none_from (p n y) 0 y.width b.0 i (subst (λ (z : Signal). i < z.width) (sym same) l)
no_bit_of rule p n (y ∷ xs) u e (suc s) i x g l =
    let h : n + suc s ≡ suc n + s = omega arith in
    let b = no_bit rule y (first_from (p n y) 0 y.width) (refuse_first rule p (suc n) xs) u e in
    ap (λ m. p m x i) h ∙ no_bit_of rule p (suc n) xs u b.1 s i x g l

driven : (f : Flat) (resets : List (Option ℕ × Stmt)) (u : Unit {0}) → driven_once f resets ≡ good u → IsDriven f
driven f resets u e s i x g l =
    let d = good_then (refuse_first 309 (λ s x i. is_double f resets s i) 0 f.signals) (λ w. refuse_first 310 (is_undriven f) 0 f.signals) u e in
    let k : 0 + s ≡ s = omega arith in
    sym (ap (λ m. is_undriven f m x i) k) ∙ no_bit_of 310 (is_undriven f) 0 f.signals u d.2 s i x g l

-- an unfolding had its drivers tried
module _ (modules : List ModuleTree) (top : Text) (resets : List ResetPin) (named : List Text) (f : Flat) where
  from_top_driven : (o : Option ModuleTree) → from_top modules resets named top o ≡ good f → IsDriven f
  from_top_driven None e = absurd (search (rules, e))
  from_top_driven (Some m) e =
      let g = good_then (visit modules (length modules) [] (m.name ∷ []) m [] (top_ports (header_of m)) (no_design resets)) (λ (s : Stage). finished named s.design) f e in
      let t = accepted named g.0.design f g.2 in driven f g.0.design.resets t.0 (subst (λ x. driven_once x g.0.design.resets ≡ good t.0) t.2 t.1)

  unfolded_driven : unfolded modules top resets named ≡ good f → IsDriven f
  unfolded_driven e =
      let g = good_then (modules_differ modules) (λ u. from_top modules resets named top (module_named top modules)) f e in
      from_top_driven (module_named top modules) g.2

pub flattened : (modules : List ModuleTree) → IsSourceFormed modules → IsSourceVisible modules → (top : Text) (resets : List ResetPin) (named : List Text) (f : code.Flat)
    → unfolded modules top resets named ≡ good (flat_of f) → KeepsSizes f → IsFlattened f
flattened modules formed visible top resets named f e sizes = record {
  sized = well_sized_law modules formed top resets named f e sizes;
  sound = sound_law modules formed top resets named (flat_of f) e;
  well_clocked = well_clocked_law modules formed top resets named (flat_of f) e;
  driven = unfolded_driven modules top resets named (flat_of f) e;
  names = names_differ modules visible top resets named (flat_of f) e;
  few = (limits_law modules top resets named (flat_of f) e).1;
}

-- so has what flattening answers
pub fact : (modules : List ModuleTree) → IsSourceFormed modules → IsSourceVisible modules → (top : Text) (resets : List ResetPin) (named : List Text) (r : Result code.Flat Stop)
    → IsUnfolding (unfolded modules top resets named) r → IfOk r KeepsSizes → IfOk r IsFlattened
fact modules formed visible top resets named (Ok f) e sizes = flattened modules formed visible top resets named f e sizes
fact modules formed visible top resets named (Err x) e sizes = tt
