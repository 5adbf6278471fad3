-- What holds in each state of each run of a justified design, and what further crossings owe.
use Rattle.std.specs.Prelude.{◌≡◌, ◌≢◌, ℕ, ◌+◌, ◌<◌, ◌≤◌, Bool, true, false, not, Some, List, [], ◌∷◌, ◌⊎◌, map, Contains, ⊤, cond, refl}
use Rattle.std.specs.List.{AllByRecursion}
use Rattle.cdc_base.specs.declared.bit.Bit.{Bit}
use Rattle.cell_graph.specs.Reading.{Reading}
use Rattle.cdc_model.specs.Design.{Design, word, flipped, settle_of}
use Rattle.cdc_model.specs.Runs.{State, Trace, Then, now, ticks, AreLoose, IsStep, IsFirst, IsRun, around}
use Rattle.cdc_model.specs.declared.scheme.GrayReg.{GrayReg}
use Rattle.cdc_model.specs.declared.scheme.Shape.{Shape}
use Rattle.cdc_model.specs.declared.scheme.Shape.TheVariants.{G1, G2, G3}
use Rattle.cdc_model.specs.Gray.{increment, gray_code}
use Rattle.cdc_model.specs.Schemes.{IsAt, Sync, flops, is_settling, Ring, request, behind_request}

-- only settling flops are unsettled, each further one for at least a cycle less
abbrev pub OnlySettling : Design → List Sync → State → Type 0
OnlySettling d syncs s = (x : Bit) → 1 ≤ s.left x → (y : Sync) × Contains syncs y × ((j : ℕ) × IsAt j x (flops y) × (j + s.left x ≤ settle_of d y.first))

-- the reading has the state's values, but for unsettled bits
abbrev pub IsSeen : State → Reading → Type 0
IsSeen s v = (b : Bit) → (v b ≡ s.values b) ⊎ (1 ≤ s.left b)

-- read from v on, the values change at most once
abbrev pub TurnsOnce : Bool → List Bool → Type 0
TurnsOnce v [] = ⊤
TurnsOnce v (w ∷ ws) = ((w ≡ v) × TurnsOnce v ws) ⊎ AllByRecursion (λ u. u ≡ not v) (w ∷ ws)

-- read round the ring the values change at most once, whichever unsettled bits are flipped
abbrev pub RingTurnsOnce : Ring → State → Type 0
RingTurnsOnce r s = (v : Reading) → IsSeen s v → TurnsOnce (v (request r)) (map v (behind_request r))

-- the code is that of the count, or in the third shape of the count or the one before
abbrev pub IsCoded : Shape → List Bool → List Bool → Type 0
IsCoded G1 b g = g ≡ gray_code b
IsCoded G2 b g = g ≡ gray_code b
IsCoded G3 b g = (g ≡ gray_code b) ⊎ ((p : List Bool) × (b ≡ increment p) × (g ≡ gray_code p))

-- The carried facts.
pub record Facts (d : Design) (syncs : List Sync) (grays : List GrayReg) (rings : List Ring) (s : State) : Type 0 where
  pub settled : OnlySettling d syncs s
  pub turn : (r : Ring) → Contains rings r → RingTurnsOnce r s
  pub coded : (g : GrayReg) → Contains grays g → IsCoded g.shape (map s.values (word d g.count)) (map s.values (word d g.gray))

-- x takes the same value whichever loose bits are flipped
abbrev pub IsCalm : Design → State → State → Bit → Type 0
IsCalm d old new x = (flips : Bit → Bool) → AreLoose d old new.values x flips → d.next (flipped flips old.values) x ≡ d.next old.values x

-- each ticking register bit of which P holds is calm, but for settling flops
abbrev pub AllCalm : Design → List Sync → (ℕ → Bool) → State → State → (Bit → Type 0) → Type 0
AllCalm d syncs edges old new P = (x : Bit) → d.is_register x ≡ true → ticks d edges x ≡ true → is_settling d syncs x ≡ false → P x → IsCalm d old new x

-- the bit has one of the two values, and is unsettled only where these differ
abbrev pub IsEither : State → Bit → Bool → Bool → Type 0
IsEither s x v w = ((s.values x ≡ v) ⊎ (s.values x ≡ w)) × (1 ≤ s.left x → v ≢ w)

-- the settling flops of a clock at one place, over bits of the word, have the values of these bits in the reading
abbrev pub TakeWord : Design → List Sync → (clock word place : ℕ) → Reading → Reading → Type 0
TakeWord d syncs c word j taken source = (s : Sync) (x : Bit) → Contains syncs s → d.clock s.first ≡ Some c → s.from.sig ≡ word → IsAt j x (flops s) → taken x ≡ source s.from

-- they have the word as it was before or after one step, that many edges ago
abbrev pub IsWhole : Design → List Sync → Trace → Type 0
IsWhole d syncs run = (c word j : ℕ) (before after : State) → j < d.settle c → around c j run ≡ Some (before, after)
    → TakeWord d syncs c word j (now run).values before.values ⊎ TakeWord d syncs c word j (now run).values after.values

-- A fact on states justifies further crossings: it holds at the start, each step keeps it, and under it what these crossings bring makes no difference.
pub record AreJustifiedBy (d : Design) (syncs : List Sync) (grays : List GrayReg) (rings : List Ring) (is_extra : Bit → Bit → Bool) (keeps : State → Type 0) : Type 0 where
  pub start : (s : State) → IsFirst d s → keeps s
  pub step : (past : Trace) (edges : ℕ → Bool) (new : State) → IsRun d (Then past edges new) → keeps (now past) → Facts d syncs grays rings (now past)
      → AllCalm d syncs edges (now past) new (λ x. ⊤) → IsWhole d syncs (Then past edges new) → keeps new
  pub flip : (edges : ℕ → Bool) (old new : State) → IsStep d edges old new → keeps old → Facts d syncs grays rings old
      → AllCalm d syncs edges old new (λ x. (b : Bit) → is_extra b x ≡ false)
      → (x : Bit) → d.is_register x ≡ true → ticks d edges x ≡ true → (flips : Bit → Bool) → AreLoose d old new.values x flips
      → d.next (flipped flips old.values) x ≡ d.next (flipped (λ b. cond (is_extra b x) false (flips b)) old.values) x

-- no further crossing
abbrev pub none_extra : Bit → Bit → Bool
none_extra b x = false

-- whatever is asked of one holds
pub no_extra : {A : Type 0} (b x : Bit) → none_extra b x ≡ true → A
no_extra b x h = cc

-- nothing has to be kept for none
pub none_justified : (d : Design) (syncs : List Sync) (grays : List GrayReg) (rings : List Ring) → AreJustifiedBy d syncs grays rings none_extra (λ s. Unit {0})
none_justified d syncs grays rings = record {
  start = λ s h. tt;
  step = λ past edges new run k f c w. tt;
  flip = λ edges old new s k f c x reg ticking flips loose. refl;
}
