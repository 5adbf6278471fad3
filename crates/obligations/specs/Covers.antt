-- What synchronizers and loads cover.
use Rattle.std.specs.Prelude.{◌≤◌, List, ◌++◌, length, map, Contains}
use Rattle.cdc_model.specs.declared.scheme.Cover.{Cover}
use Rattle.cdc_model.specs.declared.scheme.GrayReg.{GrayReg}
use Rattle.cdc_model.specs.declared.scheme.Load.{Load}
use Rattle.cdc_model.specs.Schemes.{Sync, flops}
use Rattle.cdc_model.specs.Verdict.{scheme_of_load, scheme_of_sync}

-- the cover of a first flop, and that of a load
abbrev pub cover_by_sync : List GrayReg → Sync → Cover
cover_by_sync grays s = record { from = s.from; to = s.first; scheme = scheme_of_sync grays s }

abbrev pub cover_by_load : Load → Cover
cover_by_load l = record { from = l.from; to = l.to; scheme = scheme_of_load l }

-- the covers of synchronizers, then those of loads
abbrev pub covers_by : List GrayReg → List Sync → List Load → List Cover
covers_by grays syncs loads = map (cover_by_sync grays) syncs ++ map cover_by_load loads

-- each synchronizer's flops are counted in a byte
abbrev pub AreFew : List Sync → Type 0
AreFew syncs = (s : Sync) → Contains syncs s → length (flops s) ≤ 255
