-- Listed loads by the bits of their rings.
use Rattle.std.specs.Prelude.{◌≡◌, ◌&&◌, not, ℕ, Bool, Option, Some, None, []}
use Rattle.cdc_base.specs.declared.bit.Bit.{Bit}
use Rattle.cell_graph.specs.declared.net.Net.{Net}
use Rattle.domains.specs.declared.Domains.{Domains}
use Rattle.domains.specs.Assignment.{group_of}
use Rattle.cdc_model.specs.declared.scheme.Load.{Load}
use Rattle.cdc_model.specs.declared.scheme.Ring.{Ring as RingEntry}
use Rattle.cdc_model.specs.Design.{are_equal, differ}
use Rattle.cdc_model.specs.Listed.{ring_entry}
use Rattle.cdc_model.specs.Schemes.{Ring, request, acknowledge, last_flop, IsGate}
use Rattle.cdc_model.specs.Nets.{is_register_bit, next_tree}
use Rattle.cdc_model.specs.Syncs.{copies}
use Rattle.cell_graph.specs.Cofactor.{reads}
use Rattle.mux_recirc.specs.Blind.{reads_shut}
use Rattle.mux_recirc.specs.Held.{keeps_between}
use Rattle.cert_check.specs.declared.loads.Ends.{Ends}
use Rattle.cert_check.specs.declared.loads.Gate.{Gate}

-- the ring's request, acknowledgement and last flop back
abbrev pub ends_of : Ring → Ends
ends_of r = record { request = request r; acknowledge = acknowledge r; last = last_flop r.back }

-- the gate at this place of the ring of the line; none where there is none
abbrev pub IsGateAt : RingEntry → ℕ → Option Gate → Type 0
IsGateAt e place None = (r : Ring) (p q : Bit) → e ≡ ring_entry r → IsGate r place p q → ⊥
IsGateAt e place (Some g) = (r : Ring) → e ≡ ring_entry r → IsGate r place g.one g.next

-- the load leads from a register bit with the request's group to one with the acknowledgement's, which is another
abbrev pub is_between : Net → Domains → Ends → Load → Bool
is_between net domains ends l = ((((is_register_bit net l.from && is_register_bit net l.to) && differ (group_of domains l.from) (group_of domains l.to))
    && are_equal (group_of domains l.from) (group_of domains ends.request)) && are_equal (group_of domains l.to) (group_of domains ends.acknowledge))

-- the load's end reads the source, but is no plain copy of it; the source is held, and the end is blind at the gate
abbrev pub is_guarded : Net → Ends → Gate → Load → Bool
is_guarded net ends gate l = ((not (copies net l.to l.from) && reads [] (next_tree net l.to.sig) l.to.at l.from) && keeps_between net ends.request ends.last l.from)
    && not (reads_shut net gate.one gate.next l.to l.from)
