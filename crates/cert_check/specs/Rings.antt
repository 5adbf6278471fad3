-- Listed rings by their parts, and listed synchronizers by their first flops.
use Rattle.std.specs.Prelude.{◌≡◌, ◌<◌, ℕ, suc, cond, Option, Some, None, List, ◌∷◌, ◌++◌, length, slice_get, Contains}
use Rattle.cdc_base.specs.declared.bit.Bit.{Bit}
use Rattle.cdc_base.specs.contracts.bit.BitPartialEq.TheImpl as equality
use Rattle.cdc_model.specs.declared.scheme.Ring.{Ring as RingEntry}
use Rattle.cdc_model.specs.declared.scheme.Sync.{Sync as SyncEntry}
use Rattle.cert_check.specs.declared.rings.Parts.{Parts}

-- the line of a ring with this request, these flops there, this acknowledgement and these flops back
abbrev pub line_of : Bit → List Bit → Bit → List Bit → RingEntry
line_of a fs b gs = record { bits = a ∷ fs ++ b ∷ gs; end = length fs; ack = suc (length fs) }

-- these are the line's parts; none where a ring with flops on both ways has no such line
abbrev pub AreParts : RingEntry → Option Parts → Type 0
AreParts e None = (a f b g : Bit) (fs gs : List Bit) → e ≡ line_of a (f ∷ fs) b (g ∷ gs) → ⊥
AreParts e (Some p) = e ≡ line_of p.request p.there.now p.acknowledge p.back.now

-- the synchronizer's first flop is this one
abbrev pub BeginsAt : Bit → SyncEntry → Type 0
BeginsAt b e = slice_get e.flops 0 ≡ Some b

-- the place of one of the first n synchronizers with this first flop; none of them has it
abbrev pub IsFirstAmong : List SyncEntry → ℕ → Bit → Option ℕ → Type 0
IsFirstAmong entries n b (Some i) = (e : SyncEntry) × (slice_get entries i ≡ Some e) × BeginsAt b e
IsFirstAmong entries n b None = (i : ℕ) (e : SyncEntry) → i < n → slice_get entries i ≡ Some e → BeginsAt b e → ⊥

-- the same of all
abbrev pub IsFirstOf : List SyncEntry → Bit → Option ℕ → Type 0
IsFirstOf entries b o = IsFirstAmong entries (length entries) b o

-- the place after one synchronizer more, by its first flop
abbrev pub place_after : Option Bit → ℕ → Bit → Option ℕ → Option ℕ
place_after None n b old = old
place_after (Some f) n b old = cond (equality.ghosts.eq f b) (Some n) old

-- Each synchronizer has a first flop, and those with one first flop are one.
pub record HaveOwnFirsts (entries : List SyncEntry) : Type 0 where
  pub first : (e : SyncEntry) → Contains entries e → (b : Bit) × BeginsAt b e
  pub own : (e f : SyncEntry) (b : Bit) → Contains entries e → Contains entries f → BeginsAt b e → BeginsAt b f → e ≡ f
