-- A cell that stands on no clock pin has none in its tree.
use Rattle.std.proofs.Common.{◌≡◌, ◌∙◌, sym, ap, subst, refl, arith, ℕ, zero, suc, ◌+◌, ◌==◌, Bool, true, false, ◌||◌, List, [], ◌∷◌, ◌++◌, Option, Some, None, is_some, slice_get, unwrap_or}
use Rattle.std.specs.List.{AllZip, AllByRecursion}
use Rattle.std.specs.Option.{option_map_or}
use Rattle.std.proofs.lemmas.List.Elements.{All-from_recursion}
use Rattle.std.proofs.lemmas.Bool.Decides.{nat_tests}
use Rattle.cdc_base.specs.declared.bit.Bit.{Bit}
use Rattle.cdc_base.specs.declared.signal.Signal.{Signal}
use Rattle.cell_graph.specs.declared.cell.Cell.{Cell}
use Rattle.cell_graph.specs.declared.cell.Cell.TheVariants.{Var, Const, Not, And, Or, Xor, Add, Sub, Eq, Lt, Shl, Shr, Mux, Concat, Slice, Extend, Reduce}
use Rattle.cell_graph.specs.declared.cell.CellId.{CellId}
use Rattle.cell_graph.specs.declared.cell.ReduceKind.{ReduceKind}
use Rattle.cell_graph.specs.declared.cell.ReduceKind.TheVariants as kind
use Rattle.cell_graph.specs.Cells.{Cells, in_order, signal_width}
use Rattle.cell_graph.specs.Stands.{stands_in}
use Rattle.cell_graph.specs.Tree.{Tree}
use Rattle.cell_graph.specs.Unfolded.{tree_at, tree_of, unfolded, reduced, trees}
use Rattle.domains.proofs.Zips.{zip-push}
use Rattle.domains.specs.Clocks.{Roles, role_at, pin_of, pin_bits}
use Rattle.domains.specs.Cones.{stands, stands_on_pin, cells_on_pins, AreClear}

-- no pin stands in the tree
abbrev IsClean : Roles → Tree → Type 0
IsClean roles t = (sig : ℕ) → is_some (pin_of (role_at roles sig)) ≡ true → stands_in sig t ≡ false

abbrev IsRight : Roles → Tree → Bool → Type 0
IsRight roles t answer = answer ≡ false → IsClean roles t

left : (x y : Bool) → (x || y) ≡ false → x ≡ false
left false y h = refl
left true y h = h

right : (x y : Bool) → (x || y) ≡ false → y ≡ false
right false y h = h
right true y h = absurd (cc)

neither : (x y : Bool) → x ≡ false → y ≡ false → (x || y) ≡ false
neither false y h k = k
neither true y h k = h

module _ (roles : Roles) where
  clean-at : (ts : List Tree) (bs : List Bool) (n : ℕ) → AllZip (IsRight roles) ts bs
      → unwrap_or (slice_get bs n) true ≡ false → IsClean roles (unwrap_or (slice_get ts n) (Tree.Const 1 0))
  clean-at [] [] n z h = absurd (cc)
  clean-at [] (b ∷ bs) n z h = absurd z
  clean-at (t ∷ ts) [] n z h = absurd z
  clean-at (t ∷ ts) (b ∷ bs) zero z h = z.0 h
  clean-at (t ∷ ts) (b ∷ bs) (suc n) z h = clean-at ts bs n z.1 h

  clean-reduced : (k : ReduceKind) (t : Tree) → IsClean roles t → IsClean roles (reduced k t)
  clean-reduced kind.And t h = h
  clean-reduced kind.Or t h = h
  clean-reduced kind.Xor t h = h

  clean-var : (a w : ℕ) → is_some (pin_of (role_at roles a)) ≡ false → IsClean roles (Tree.Var a w)
  clean-var a w h sig pin = go (sig == a) refl
    where
      go : (b : Bool) → (sig == a) ≡ b → b ≡ false
      go false e = refl
      go true e = let same : sig ≡ a = grind (arith, nat_tests) in absurd (let f : true ≡ false = sym pin ∙ ap (λ s. is_some (pin_of (role_at roles s))) same ∙ h in cc)

  module _ (signals : List Signal) (ts : List Tree) (bs : List Bool) (all : AllZip (IsRight roles) ts bs) where
    one : (a : CellId) → stands bs a ≡ false → IsClean roles (tree_at ts a)
    one a h = clean-at ts bs a.0 all h

    two : (a b : CellId) → (stands bs a || stands bs b) ≡ false → (sig : ℕ) → is_some (pin_of (role_at roles sig)) ≡ true
        → (stands_in sig (tree_at ts a) || stands_in sig (tree_at ts b)) ≡ false
    two a b h sig pin = neither (stands_in sig (tree_at ts a)) (stands_in sig (tree_at ts b))
        (one a (left (stands bs a) (stands bs b) h) sig pin) (one b (right (stands bs a) (stands bs b) h) sig pin)

    clean-cell : (c : Cell) → IsRight roles (unfolded signals ts c) (stands_on_pin roles bs c)
    clean-cell (Var sig) h = clean-var sig (signal_width signals sig) h
    clean-cell (Const w value) h = λ sig pin. refl
    clean-cell (Not a) h = one a h
    clean-cell (And a b) h = two a b h
    clean-cell (Or a b) h = two a b h
    clean-cell (Xor a b) h = two a b h
    clean-cell (Add a b) h = two a b h
    clean-cell (Sub a b) h = two a b h
    clean-cell (Eq a b) h = two a b h
    clean-cell (Lt a b) h = two a b h
    clean-cell (Shl a by) h = two a by h
    clean-cell (Shr a by) h = two a by h
    clean-cell (Mux c x y) h = λ sig pin.
        let first = left (stands bs c || stands bs x) (stands bs y) h in
        neither (stands_in sig (tree_at ts c)) (stands_in sig (tree_at ts x) || stands_in sig (tree_at ts y))
        (one c (left (stands bs c) (stands bs x) first) sig pin)
        (neither (stands_in sig (tree_at ts x)) (stands_in sig (tree_at ts y))
        (one x (right (stands bs c) (stands bs x) first) sig pin)
        (one y (right (stands bs c || stands bs x) (stands bs y) h) sig pin))
    clean-cell (Concat high low) h = two high low h
    clean-cell (Slice a at w) h = one a h
    clean-cell (Extend a w) h = one a h
    clean-cell (Reduce k a) h = clean-reduced k (tree_at ts a) (one a h)

  clean-cells : (signals : List Signal) (ts : List Tree) (bs : List Bool) (cs : List Cell) → AllZip (IsRight roles) ts bs
      → AllZip (IsRight roles) (in_order (unfolded signals) ts cs) (in_order (stands_on_pin roles) bs cs)
  clean-cells signals ts bs [] all = all
  clean-cells signals ts bs (c ∷ cs) all =
      clean-cells signals (ts ++ unfolded signals ts c ∷ []) (bs ++ stands_on_pin roles bs c ∷ []) cs
      (zip-push (IsRight roles) ts bs (unfolded signals ts c) (stands_on_pin roles bs c) all (clean-cell signals ts bs all c))

-- what holds of each clock pin holds of each bit of one
pins-all : (P : ℕ → Type 0) (k : ℕ) (rs : Roles) → ((j : ℕ) → is_some (pin_of (role_at rs j)) ≡ true → P (k + j))
    → AllByRecursion (λ (b : Bit). P b.sig) (pin_bits k rs)
pins-all P k [] h = tt
pins-all P k (r ∷ rs) h =
    go (pin_of r) refl (pins-all P (k + 1) rs (λ j pin. let e : k + suc j ≡ (k + 1) + j = omega arith in subst P e (h (suc j) pin)))
  where
    go : (o : Option ℕ) → pin_of r ≡ o → AllByRecursion (λ (b : Bit). P b.sig) (pin_bits (k + 1) rs)
        → AllByRecursion (λ (b : Bit). P b.sig) (option_map_or (λ (clock : ℕ). record { sig = k; at = 0 } ∷ pin_bits (k + 1) rs) o (pin_bits (k + 1) rs))
    go None e rest = rest
    go (Some clock) e rest = (let f : k + 0 ≡ k = omega arith in subst P f (h zero (ap is_some e)), rest)

pub are_clear : (roles : Roles) (g : Cells) → AreClear g (pin_bits 0 roles) (cells_on_pins roles g)
are_clear roles g id h =
    let clean = clean-at roles (trees g) (cells_on_pins roles g) id.0 (clean-cells roles g.signals [] [] g.cells tt) h in
    All-from_recursion (λ (b : Bit). stands_in b.sig (tree_of g id) ≡ false) (pin_bits 0 roles)
    (pins-all (λ sig. stands_in sig (tree_of g id) ≡ false) 0 roles (λ j pin. let z : j ≡ 0 + j = omega arith in subst (λ s. stands_in s (tree_of g id) ≡ false) z (clean j pin)))
