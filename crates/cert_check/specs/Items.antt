-- Tests of listed items, one by one.
use Rattle.std.specs.Prelude.{◌≡◌, ℕ, zero, suc, ◌<◌, ◌&&◌, nat_le, Bool, true, false, is_none, Option, Some, None, List, [], ◌∷◌, length, slice_get, Contains}
use Rattle.cdc_base.specs.declared.bit.Bit.{Bit}
use Rattle.cell_graph.specs.declared.net.Net.{Net}
use Rattle.cell_graph.specs.Reading.{bit_eq}
use Rattle.domains.specs.declared.Domains.{Domains}
use Rattle.domains.specs.Assignment.{clock_of, group_of}
use Rattle.cdc_model.specs.Design.{at_bit, differ}
use Rattle.cdc_model.specs.Nets.{is_register_bit, settle_at}
use Rattle.cdc_model.specs.Readers.{Kept, reader_at, readers_of}
use Rattle.cdc_model.specs.Syncs.{copies, next_flop}
use Rattle.gray_pointer.specs.declared.register.Register.{Register}
use Rattle.gray_pointer.specs.Registers.{Ascend}

-- P holds of all items before a place
abbrev pub AllBefore : {A : Type 0} → (A → Type 0) → List A → ℕ → Type 0
AllBefore {A} P xs n = (i : ℕ) (x : A) → i < n → slice_get xs i ≡ Some x → P x

-- the place is that of the first item of which P doesn't hold; none where it holds of all
abbrev pub IsFirstFailing : {A : Type 0} → (A → Type 0) → List A → Option ℕ → Type 0
IsFirstFailing {A} P xs (Some i) = (x : A) × (slice_get xs i ≡ Some x) × (P x → ⊥) × AllBefore P xs i
IsFirstFailing {A} P xs None = (x : A) → Contains xs x → P x

-- who reads the flops is kept
abbrev pub AreKept : Net → Kept → List Bit → Type 0
AreKept net kept flops = (f : Bit) → Contains flops f → is_register_bit net f ≡ true → reader_at kept f ≡ readers_of net f

-- the flop's next flop is this one
abbrev pub is_next : Net → Domains → Bit → Bit → Bool
is_next net domains f g = at_bit (next_flop net domains f) (λ h. bit_eq h g)

-- these are all flops behind a flop, n at most
abbrev pub is_chain : Net → Domains → ℕ → Bit → List Bit → Bool
is_chain net domains zero f [] = true
is_chain net domains zero f (g ∷ gs) = false
is_chain net domains (suc n) f [] = is_none (next_flop net domains f)
is_chain net domains (suc n) f (g ∷ gs) = is_next net domains f g && is_chain net domains n g gs

-- the flops are those of a synchronizer from the source
abbrev pub is_sync_item : Net → Domains → Bit → List Bit → Bool
is_sync_item net domains from [] = false
is_sync_item net domains from (f ∷ fs) = is_register_bit net f && (copies net f from && (differ (group_of domains from) (group_of domains f)
    && (nat_le (settle_at domains (clock_of domains f)) (length fs) && is_chain net domains 3 f fs)))

-- the register with this signal, or there is none
abbrev pub IsRegisterAt : List Register → ℕ → Option Register → Type 0
IsRegisterAt rs sig None = Ascend rs → (r : Register) → Contains rs r → r.sig ≡ sig → ⊥
IsRegisterAt rs sig (Some r) = Contains rs r × (r.sig ≡ sig)
