use Rattle.std.proofs.Common.{length, sym, refl, ltb-true, ltb-false}
use Rattle.std.proofs.lemmas.Option.{slice_get_read, slice_get_past}
use Rattle.flat_design.proofs.Places.{place-at, place-none}
use Rattle.flat_design.proofs.instance.port_at.Goals as goal

pub returns-in-Some : goal.returns-in-Some
returns-in-Some c = λ m h e.
    let header = c.args.header.now in
    let k = c.args.place in
    let port = c.in-Some.port.now in
    let there = c.in-Some.ensures.lookup in
    place-at c.args.ports.now m h header k e port c.get_index_of.result (sym (slice_get_read header (length header) k port refl (ltb-true k (length header) (sym there.0)) there.1)) c.get_index_of.ensures.index c.get_index_of.ensures.found

pub returns-in-None : goal.returns-in-None
returns-in-None c = λ m h e.
    let header = c.args.header.now in
    let k = c.args.place in
    place-none c.args.ports.now m h header k e (sym (slice_get_past header k (ltb-false k (length header) (sym c.in-None.ensures.lookup.0))))
