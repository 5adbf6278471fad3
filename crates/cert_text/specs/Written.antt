-- Certificates that are read as they were written.
use Rattle.std.specs.Prelude.{◌≡◌, ◌≢◌, ℕ, ◌<◌, ◌^◌, true, false, Some, List, [], map, length, slice_get, Contains, Ok}
use Rattle.cdc_base.specs.declared.bit.Bit.{Bit}
use Rattle.cdc_base.specs.declared.signal.Signal.{Signal}
use Rattle.cdc_model.specs.declared.scheme.GrayReg.{GrayReg}
use Rattle.cdc_model.specs.declared.scheme.Load.{Load}
use Rattle.cdc_model.specs.declared.scheme.Ring.{Ring}
use Rattle.cdc_model.specs.declared.scheme.Sync.{Sync}
use Rattle.fifo_scheme.specs.declared.found.FifoPair.{FifoPair}
use Rattle.report.specs.Names.{bit_of, signal_of}
use Rattle.cert_text.specs.declared.certificate.Certificate.{Certificate}
use Rattle.cert_text.specs.Names.{bit_named, signal_named}
use Rattle.cert_text.specs.Read.{certificate_in, is_bit_name}
use Rattle.cert_text.specs.Texts.{certificate_text}

-- a load as its line tells it
abbrev pub plain_load : Load → Load
plain_load l = record l { recirculating = false }

-- a certificate as its text tells it: whether loads are known to recirculate isn't written
abbrev pub plain : Certificate → Certificate
plain c = record c { loads = map plain_load c.loads }

-- a printed name is that of a bit, and the bit is found by it
abbrev pub IsFound : List Signal → Bit → Type 0
IsFound signals b = (is_bit_name (bit_of signals b) ≡ true) × (bit_named signals (bit_of signals b) ≡ Some b)

abbrev pub AreFound : List Signal → List Bit → Type 0
AreFound signals bs = (b : Bit) → Contains bs b → IsFound signals b

-- the signal is found by its printed name
abbrev pub IsFoundSignal : List Signal → ℕ → Type 0
IsFoundSignal signals sig = signal_named signals (signal_of signals sig) ≡ Some sig

-- A synchronizer that can be written: it has a flop.
pub record CanWriteSync (signals : List Signal) (s : Sync) : Type 0 where
  pub from : IsFound signals s.from
  pub some : s.flops ≢ []
  pub flops : AreFound signals s.flops

-- A ring: it has a bit, and its places lie inside it.
pub record CanWriteRing (signals : List Signal) (r : Ring) : Type 0 where
  pub some : r.bits ≢ []
  pub bits : AreFound signals r.bits
  pub end : (r.end < length r.bits) × (r.end < 2 ^ 32)
  pub ack : (r.ack < length r.bits) × (r.ack < 2 ^ 32)

-- A load: its ring is listed, and its gate lies inside it.
pub record CanWriteLoad (signals : List Signal) (rings : List Ring) (l : Load) : Type 0 where
  pub from : IsFound signals l.from
  pub to : IsFound signals l.to
  pub ring : (r : Ring) × (slice_get rings l.ring ≡ Some r) × (l.gate < length r.bits)
  pub gate : l.gate < 2 ^ 32

-- A certificate that can be written, of bits and signals that are found by their printed names.
pub record CanWrite (signals : List Signal) (c : Certificate) : Type 0 where
  pub syncs : (s : Sync) → Contains c.syncs s → CanWriteSync signals s
  pub grays : (g : GrayReg) → Contains c.grays g → IsFoundSignal signals g.gray × IsFoundSignal signals g.count
  pub rings : (r : Ring) → Contains c.rings r → CanWriteRing signals r
  pub loads : (l : Load) → Contains c.loads l → CanWriteLoad signals c.rings l
  pub fifos : (p : FifoPair) → Contains c.fifos p → IsFoundSignal signals p.wb × IsFoundSignal signals p.rb
  pub few : length c.rings < 2 ^ 32

-- what was written reads as the certificate
abbrev pub WrittenIsRead : Type 0
WrittenIsRead = (signals : List Signal) (c : Certificate) → CanWrite signals c → certificate_in signals (certificate_text signals c) ≡ Ok (plain c)
