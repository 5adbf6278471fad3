-- The reset nets of a source, and its design.
use Rattle.std.proofs.Common.{◌≡◌, ℕ, zero, suc, ◌==◌, Bool, true, false, cond, List, [], ◌∷◌, ◌++◌, length, replicate, Option, Some, None, refl, sym, ap, ap₂, ◌∙◌, subst, rules, slice_get, find, bytes_eq}
use Rattle.std.specs.Prelude.{option_map, option_and_then}
use Rattle.std.specs.List.{Contains}
use Rattle.cdc_base.specs.declared.signal.ResetPin.{ResetPin}
use Rattle.verilog_reading.specs.SourceTree.{ModuleTree}
use Rattle.flat_meaning.specs.Flat.{Expr}
use Rattle.flat_unfolding.specs.Outcome.{Text, Outcome, good, bad}
use Rattle.flat_unfolding.specs.Names.{Entry, width_of}
use Rattle.flat_unfolding.specs.Design.{Design}
use Rattle.flat_design.specs.Chosen.{wires_of}
use Rattle.reset_nets.specs.Nets.{reads_of, IsNet, a_declared, a_made, inactive, level_of, declared_level, made_by, pin_if, further_pins, AreNetsIn}
use Rattle.reset_nets.specs.Designs.{AreResetNets, NetsAreOne}
use Rattle.reset_nets.proofs.Search.{contains-head, some-same}

-- ---- no declared reset

no_net : (declared : ℕ → Option Bool) (made : ℕ → Option Expr) → ((s : ℕ) → declared s ≡ None) → (s : ℕ) (l : Bool) → IsNet declared made s l → ⊥
no_net declared made none s l (a_declared e) = search (rules, sym (none s) ∙ e)
no_net declared made none s l (a_made e levels is some all differ same) = go (reads_of e) refl (λ t c. no_net declared made none t (levels t) (all t c))
  where
    go : (ts : List ℕ) → reads_of e ≡ ts → ((t : ℕ) → Contains (reads_of e) t → ⊥) → ⊥
    go [] f h = some f
    go (t ∷ ts) f h = h t (subst (λ us. Contains us t) (sym f) (contains-head t ts))

nothing_declared : (e : Entry) → level_of [] e ≡ None
nothing_declared e = go (width_of e.range == 1)
  where
    go : (b : Bool) → option_map inactive (cond b (find (λ (r : ResetPin). bytes_eq r.name e.printed) []) None) ≡ None
    go true = refl
    go false = refl

none_declared : (d : Design) (s : ℕ) → declared_level [] d s ≡ None
none_declared d s = go (slice_get d.entries s)
  where
    go : (o : Option Entry) → option_and_then (level_of []) o ≡ None
    go None = refl
    go (Some e) = nothing_declared e

no_level : (n s : ℕ) (l : Bool) → slice_get (replicate n None) s ≡ Some (Some l) → ⊥
no_level zero s l e = search (rules, e)
no_level (suc n) zero l e = search (rules, e)
no_level (suc n) (suc s) l e = no_level n s l e

no_pin : (o : Option Bool) (e : Entry) → pin_if o e None ≡ []
no_pin None e = refl
no_pin (Some b) e = refl

no_pins : (pins : List ResetPin) (es : List Entry) → further_pins pins es (replicate (length es) None) ≡ []
no_pins pins [] = refl
no_pins pins (e ∷ es) = ap₂ (λ xs ys. xs ++ ys) (no_pin (level_of pins e) e) (no_pins pins es)

as_many : (n : ℕ) → length (replicate {A = Option Bool} n None) ≡ n
as_many zero = refl
as_many (suc n) = ap suc (as_many n)

none_of_none : (o : Outcome Design) → AreNetsIn [] o []
none_of_none (bad f) = refl
none_of_none (good d) = record {
  levels = replicate (length d.entries) None;
  size = as_many (length d.entries);
  exact = λ s l. ((λ e. absurd (no_level (length d.entries) s l e)), (λ n. absurd (no_net (declared_level [] d) (made_by [] d) (none_declared d) s l n)));
  listed = sym (no_pins [] d.entries);
}

pub no_resets : (modules : List ModuleTree) (top : Text) (resets : List ResetPin) → length resets ≡ 0 → AreResetNets modules top resets []
no_resets modules top [] e = none_of_none (wires_of modules top)
no_resets modules top (r ∷ rs) e = absurd (search (rules, e))

-- ---- one list

levels_one : (xs ys : List (Option Bool)) → length xs ≡ length ys → ((s : ℕ) (l : Bool) → slice_get xs s ≡ Some (Some l) → slice_get ys s ≡ Some (Some l))
    → ((s : ℕ) (l : Bool) → slice_get ys s ≡ Some (Some l) → slice_get xs s ≡ Some (Some l)) → xs ≡ ys
levels_one [] [] e h k = refl
levels_one [] (y ∷ ys) e h k = absurd (search (rules, e))
levels_one (x ∷ xs) [] e h k = absurd (search (rules, e))
levels_one (x ∷ xs) (y ∷ ys) e h k = ap₂ (λ z zs. z ∷ zs) (head x y (h 0) (k 0)) (levels_one xs ys (search (rules, e)) (λ s. h (suc s)) (λ s. k (suc s)))
  where
    head : (a b : Option Bool) → ((l : Bool) → Some a ≡ Some (Some l) → Some b ≡ Some (Some l)) → ((l : Bool) → Some b ≡ Some (Some l) → Some a ≡ Some (Some l)) → a ≡ b
    head None None h k = refl
    head None (Some l) h k = some-same None (Some l) (k l refl)
    head (Some l) b h k = sym (some-same b (Some l) (h l refl))

one_of_wires : (pins : List ResetPin) (o : Outcome Design) (nets others : List ResetPin) → AreNetsIn pins o nets → AreNetsIn pins o others → nets ≡ others
one_of_wires pins (bad f) nets others h k = h ∙ sym k
one_of_wires pins (good d) nets others h k =
    let same = levels_one h.levels k.levels (h.size ∙ sym k.size) (λ s l e. (k.exact s l).1 ((h.exact s l).0 e)) (λ s l e. (h.exact s l).1 ((k.exact s l).0 e)) in
    h.listed ∙ ap (further_pins pins d.entries) same ∙ sym k.listed

pub one_list : NetsAreOne
one_list modules top resets nets others h k = one_of_wires resets (wires_of modules top) nets others h k
