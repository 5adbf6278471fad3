-- Whether two sides make a FIFO, and what a search looks up.
use Rattle.std.specs.Prelude.{◌≡◌, ◌↔◌, ℕ, true, Option, Some, None, List, [], slice_get, Contains}
use Rattle.cdc_base.specs.declared.bit.Bit.{Bit}
use Rattle.cell_graph.specs.declared.net.Net.{Net}
use Rattle.cell_graph.specs.Cofactor.{reads}
use Rattle.domains.specs.declared.Domains.{Domains}
use Rattle.cdc_model.specs.declared.scheme.GrayReg.{GrayReg}
use Rattle.cdc_model.specs.Design.{are_async}
use Rattle.cdc_model.specs.Nets.{bits_of_registers, design_of, is_within, next_tree}
use Rattle.cdc_model.specs.Ordered.{IsAscending}
use Rattle.cdc_model.specs.Schemes.{Sync}
use Rattle.fifo_laws.specs.Fifos.{Fifo, IsFifo, one_bit_key}
use Rattle.fifo_scheme.specs.declared.found.Fifo.{Fifo as Entry}
use Rattle.fifo_scheme.specs.declared.index.Reading.{Reading}
use Rattle.fifo_parts.specs.declared.side.Side.{Side as SideEntry}
use Rattle.fifo_scheme.specs.Entries.{IsListedFifo}

-- the two sides make this FIFO, or none
abbrev pub IsJudged : Net → Domains → List Sync → List GrayReg → SideEntry → SideEntry → Option Entry → Type 0
IsJudged net domains syncs grays write read None = (f : Fifo) (k : IsFifo (design_of net domains) (next_tree net) syncs grays f) → k.write.reg ≡ write.reg → k.read.reg ≡ read.reg → ⊥
IsJudged net domains syncs grays write read (Some e) =
    IsListedFifo net domains syncs grays e × (e.wb ≡ write.reg.count) × (e.wg ≡ write.reg.gray) × (e.rb ≡ read.reg.count) × (e.rg ≡ read.reg.gray)

-- Register bits in their order, each with exactly those bits of other groups that it reads, in their order.
pub record AreReadings (net : Net) (domains : Domains) (rs : List Reading) : Type 0 where
  pub only : (r : Reading) → Contains rs r → Contains (bits_of_registers net.graph.signals net.regs) r.bit
  pub reads_are : (r : Reading) (b : Bit) → Contains rs r → Contains r.reads b → reads [] (next_tree net r.bit.sig) r.bit.at b ≡ true
  pub all : (x b : Bit) → Contains (bits_of_registers net.graph.signals net.regs) x → is_within net b ≡ true
      → are_async (design_of net domains) b x ≡ true → reads [] (next_tree net x.sig) x.at b ≡ true
      → (r : Reading) × Contains rs r × (r.bit ≡ x) × Contains r.reads b
  pub ordered : IsAscending (λ (r : Reading). one_bit_key r.bit) rs
  pub each : (r : Reading) → Contains rs r → IsAscending one_bit_key r.reads

-- the places are those of the items of which P holds
abbrev pub ArePlaces : {A : Type 0} → (A → Type 0) → List A → List ℕ → Type 0
ArePlaces {A} P xs places = (n : ℕ) → Contains places n ↔ ((x : A) × (slice_get xs n ≡ Some x) × P x)
