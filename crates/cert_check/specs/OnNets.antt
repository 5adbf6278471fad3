-- What certificates say of a net and its domains.
use Rattle.std.specs.Prelude.{◌≡◌, ℕ, Bool, Option, List, map}
use Rattle.std.specs.List.{list_any}
use Rattle.cdc_base.specs.declared.bit.Bit.{Bit}
use Rattle.cell_graph.specs.declared.net.Net.{Net}
use Rattle.domains.specs.declared.Domains.{Domains}
use Rattle.cdc_model.specs.contracts.scheme.GrayRegPartialEq.TheImpl as equality
use Rattle.cdc_model.specs.declared.scheme.GrayReg.{GrayReg}
use Rattle.cdc_model.specs.Found.{crossings_of}
use Rattle.cdc_model.specs.GrayShape.{IsGrayReg}
use Rattle.cdc_model.specs.Listed.{sync_entry}
use Rattle.cdc_model.specs.Nets.{design_of, net_trees, next_tree}
use Rattle.cdc_model.specs.Ordered.{IsAll}
use Rattle.cdc_model.specs.Schemes.{Trees, Sync}
use Rattle.fifo_scheme.specs.declared.found.Fifo.{Fifo as Entry}
use Rattle.fifo_scheme.specs.declared.found.FifoPair.{FifoPair}
use Rattle.fifo_scheme.specs.Entries.{IsListedFifo, fifo_key}
use Rattle.fifo_scheme.specs.Found.{is_listed}
use Rattle.fifo_scheme.specs.Pairs.{IsStoodFor, StandsForOne}
use Rattle.cert_text.specs.declared.certificate.Certificate.{Certificate}
use Rattle.cert_check.specs.declared.Checked.{Checked}
use Rattle.cert_check.specs.declared.Checked.TheVariants.{Holds, BadItem, Bare, Word}
use Rattle.cert_check.specs.Certified.{IsCertified}
use Rattle.cert_check.specs.Checked.{AreGood, IsChecked, IsFirstBad, IsFoundBad}

-- ---- Gray registers

-- the register is one of the list
abbrev pub is_among : List GrayReg → GrayReg → Bool
is_among grays g = list_any (equality.ghosts.eq g) grays

-- what the trees of a net show, where a certificate's Gray registers are all that there are
abbrev pub trees_by : Net → Certificate → Trees
trees_by net c = net_trees net (is_among c.grays)

-- the two registers are a counter and its Gray code on the net
abbrev pub IsGrayOn : Net → Domains → GrayReg → Type 0
IsGrayOn net domains g = IsGrayReg (design_of net domains) (next_tree net) g

-- ---- FIFOs

-- the pair stands for a FIFO over the certificate's synchronizers and Gray registers
abbrev pub Stands : Net → Domains → Certificate → FifoPair → Type 0
Stands net domains c p = (syncs : List Sync) × (c.syncs ≡ map sync_entry syncs) × StandsForOne net domains syncs c.grays p

-- The FIFOs are exactly those over the certificate's synchronizers and Gray registers for which one of its pairs stands, in order.
pub record AreFifosOf (net : Net) (domains : Domains) (c : Certificate) (fifos : List Entry) : Type 0 where
  pub syncs : List Sync
  pub listed : c.syncs ≡ map sync_entry syncs
  pub exactly : IsAll (λ (e : Entry). IsListedFifo net domains syncs c.grays e × IsStoodFor c.fifos e) fifo_key fifos

-- the crossing from b to x is one of a FIFO's
abbrev pub is_of_fifo : List Entry → Bit → Bit → Bool
is_of_fifo fifos b x = list_any (λ (e : Entry). is_listed e.crossings b x) fifos

-- ---- certificates

-- A certificate certifies a net: with the crossings of its FIFOs its items justify the design, and each pair stands for a FIFO.
pub record IsCertifiedOn (net : Net) (domains : Domains) (c : Certificate) : Type 0 where
  pub fifos : List Entry
  pub are_fifos : AreFifosOf net domains c fifos
  pub certified : IsCertified (design_of net domains) (trees_by net c) (IsGrayOn net domains) (Stands net domains c) (is_of_fifo fifos) c

-- the line is that of the first item that isn't what it is listed as, or of the first pair that stands for no FIFO
abbrev pub IsFirstBadOn : Net → Domains → Certificate → ℕ → Type 0
IsFirstBadOn net domains c line = IsFirstBad (design_of net domains) (trees_by net c) (IsGrayOn net domains) (Stands net domains c) c line

-- the same, where there is one; else all items but pairs are what they are listed as
abbrev pub IsFoundBadOn : Net → Domains → Certificate → Option ℕ → Type 0
IsFoundBadOn net domains c line = IsFoundBad (design_of net domains) (trees_by net c) (IsGrayOn net domains) (Stands net domains c) c line

abbrev pub AreGoodOn : Net → Domains → Certificate → Type 0
AreGoodOn net domains c = AreGood (design_of net domains) (trees_by net c) (IsGrayOn net domains) c

-- what the answer says, with the crossings of the certificate's FIFOs
abbrev pub IsCheckedWithFifos : Net → Domains → Certificate → Checked → Type 0
IsCheckedWithFifos net domains c checked = (fifos : List Entry) × AreFifosOf net domains c fifos
    × IsChecked (design_of net domains) (trees_by net c) (crossings_of net domains) (IsGrayOn net domains) (Stands net domains c) (is_of_fifo fifos) c checked

-- what the answer says: the first bad item; or, each pair standing for a FIFO, the first crossing that nothing serves, the first
-- word and group that meet, or that the certificate certifies the net
abbrev pub IsCheckedOn : Net → Domains → Certificate → Checked → Type 0
IsCheckedOn net domains c (BadItem line) = IsFirstBadOn net domains c line
IsCheckedOn net domains c (Bare k) = IsCheckedWithFifos net domains c (Bare k)
IsCheckedOn net domains c (Word w g) = IsCheckedWithFifos net domains c (Word w g)
IsCheckedOn net domains c (Holds n) = IsCheckedWithFifos net domains c (Holds n)
