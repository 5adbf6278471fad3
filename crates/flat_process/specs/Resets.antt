-- Resets of clocked processes, side by side with the definition's.
use Rattle.std.specs.Prelude.{◌≡◌, ℕ, zero, suc, ◌+◌, ◌-◌, ◌^◌, ◌/◌, ◌%◌, ◌<◌, ◌≤◌, Bool, true, false, cond, not, ◌==◌, ◌&&◌, List, [], ◌∷◌, ◌++◌, length, Option, Some, None, option_map, Vec, bit_and, bit_or}
use Rattle.std.specs.List.{list_any}
use Rattle.std.specs.Global.{Global}
use Rattle.cdc_base.specs.declared.signal.ResetPin.{ResetPin}
use Rattle.cell_graph.specs.Tree.{bit_at}
use Rattle.flat_meaning.specs.Assigned.{is_within}
use Rattle.flat_meaning.specs.Flat.{Target, Whole, Part, Pick, Group, Targets, no_targets, target, target_size, target_sizes}
use Rattle.flat_unfolding.specs.Names as n
use Rattle.flat_unfolding.specs.Names.{Meaning, a_signal, reset_at, width_at}
use Rattle.flat_unfolding.specs.Constants.{assigned_value, both}
use Rattle.flat_unfolding.specs.Expressions.{Term, is_sound}
use Rattle.flat_unfolding.specs.Targets.{Aim}
use Rattle.flat_unfolding.specs.Resets as q
use Rattle.flat_unfolding.specs.Resets.{is_reset, given_to, given_to_all}
use Rattle.flat_unfolding.specs.Design as u
use Rattle.flat_names.specs.declared.design.Entry.{Entry}
use Rattle.flat_names.specs.declared.scope.Look.{Look}
use Rattle.flat_names.specs.Designs.{IsReset, reset_of}
use Rattle.flat_process.specs.declared.reset.Given.{Given}
use Rattle.flat_process.specs.declared.reset.Signals.{Signals}
use Rattle.flat_process.specs.declared.tested.Tested.{Tested}

-- the resets of a look are pins
abbrev pub ArePins : List ResetPin → Look → n.Look → Type 0
ArePins pins k l = (s : ℕ) → IsReset pins (reset_of k.entries.now s) (reset_at l.entries s)

-- the signals so far, none where another name is among them
abbrev pub signals_of : Signals → Option (List ℕ)
signals_of a = cond a.has_others None (Some a.numbers.items)

abbrev pub joined : Option (List ℕ) → Option (List ℕ) → Option (List ℕ)
joined a b = both (λ x y. x ++ y) a b

-- the look in which resets are at one of their levels
abbrev pub look_at : n.Look → Bool → n.Look
look_at l active = record l { active = active }

abbrev pub items_if : Option (Vec Bool Global) → Option (List Bool)
items_if o = option_map (λ (v : Vec Bool Global). v.items) o

abbrev pub tested_of : Tested → q.Tested
tested_of t = record { signals = t.signals.items; alone = t.is_alone }

-- whether what a name stands for is a reset beside these signals
abbrev pub is_other : n.Look → List ℕ → Option Meaning → Bool
is_other l signals (Some (a_signal s)) = is_reset l s && not (list_any (λ t. t == s) signals)
is_other l signals m = false

-- a target without a variable index, of so many signals
abbrev mutual
  pub IsPlain : ℕ → Target → Type 0
  IsPlain n (Whole s) = s < n
  IsPlain n (Part s at w) = s < n
  IsPlain n (Pick s e) = ⊥
  IsPlain n (Group ts) = ArePlain n ts

  pub ArePlain : ℕ → Targets → Type 0
  ArePlain n no_targets = Unit {0}
  ArePlain n (target t ts) = IsPlain n t × ArePlain n ts

-- the target of an aim is one, and has so many bits
pub record IsPlainAim (l : n.Look) (a : Aim) : Type 0 where
  pub plain : IsPlain (length l.entries) a.target
  pub size : (w : ℕ) → a.bits ≡ Some w → (target_size (width_at l.entries) a.target ≡ w) × (w ≤ 64)

-- what a constant gives an aim, where neither breaks a rule
abbrev pub given_by : n.Look → Term → Aim → List u.Given
given_by l v a = go v a.bits a.target
  where
    go : Term → Option ℕ → Target → List u.Given
    go v None t = []
    go v (Some w) t = cond (is_sound v) (given_to l t (assigned_value v.expr w)) []

-- the lowest bits of a number, given to so many bits of a signal
abbrev pub bits_given : (sig at bits number : ℕ) → u.Given
bits_given s at w m = record { sig = s; at = at; bits = w; value = m % 2 ^ w }

-- what a reset gives some bits of one of so many signals, as a mask and the values in it
pub record IsGiven (n : ℕ) (u : u.Given) (g : Given) : Type 0 where
  pub sig : g.sig ≡ u.sig
  pub declared : u.sig < n
  pub word : g.mask < 2 ^ 64
  pub mask : (i : ℕ) → i < 64 → bit_at g.mask i ≡ is_within u.at u.bits i
  pub value : (i : ℕ) → i < 64 → bit_at g.value i ≡ (is_within u.at u.bits i && bit_at u.value (i - u.at))

abbrev pub AreGiven : ℕ → List u.Given → List Given → Type 0
AreGiven n [] [] = Unit {0}
AreGiven n (u ∷ us) (g ∷ gs) = IsGiven n u g × AreGiven n us gs
AreGiven n us gs = ⊥

abbrev pub AreGivenIf : ℕ → Option (List u.Given) → Option (List Given) → Type 0
AreGivenIf n None None = Unit {0}
AreGivenIf n (Some us) (Some gs) = AreGiven n us gs
AreGivenIf n us gs = ⊥

-- what a row of a reset's branch adds: the answer tells whether it has its form
abbrev pub AddsGiven : ℕ → List u.Given → Option (List u.Given) → Bool → List Given → Type 0
AddsGiven n us None b gs = b ≡ false
AddsGiven n us (Some vs) b gs = (b ≡ true) × AreGiven n (us ++ vs) gs

-- a target got its bits of a word, in which they stand below `top`, and the bits on its right are left
pub record Gives (l : n.Look) (us : List u.Given) (t : Target) (word top rest : ℕ) (gs : List Given) : Type 0 where
  pub left : rest + target_size (width_at l.entries) t ≡ top
  pub given : AreGiven (length l.entries) (us ++ given_to l t (word / 2 ^ rest)) gs

-- so did targets, whose first has the highest bits
pub record GivesAll (l : n.Look) (us : List u.Given) (ts : Targets) (word top rest : ℕ) (gs : List Given) : Type 0 where
  pub left : rest + target_sizes (width_at l.entries) ts ≡ top
  pub given : AreGiven (length l.entries) (us ++ given_to_all l ts (word / 2 ^ rest)) gs

-- an entry with what a reset gives its signal
abbrev pub more_given : Given → Entry → Entry
more_given g x = record x { reset_known = bit_or x.reset_known g.mask; reset_start = bit_or (bit_and x.reset_start (2 ^ 64 - 1 - g.mask)) g.value }

-- the entries once a reset gave one of them something
abbrev pub with_given : ℕ → Given → List Entry → List Entry
with_given s g [] = []
with_given zero g (x ∷ xs) = more_given g x ∷ xs
with_given (suc s) g (x ∷ xs) = x ∷ with_given s g xs
