-- One crossing more, if its end is blind, and in the end all.
use Rattle.std.proofs.Common.{◌≡◌, ◌∙◌, ◌↔◌, ◌<◌, sym, ap, subst, arith, Bool, false, true, [], ◌∷◌, ◌++◌, cond, get_or, length, List, Contains}
use Rattle.std.proofs.lemmas.Option.{slice_get-get_or}
use Rattle.cdc_base.specs.declared.bit.Bit.{Bit}
use Rattle.cell_graph.specs.Cofactor.{reads}
use Rattle.cofactor.specs.Order.{AreAscending}
use Rattle.cdc_model.specs.declared.scheme.Crossing.{Crossing}
use Rattle.cdc_model.specs.Nets.{next_tree}
use Rattle.cdc_model.specs.Tables.{ShowsNext}
use Rattle.mux_recirc.specs.declared.blind.Blind.{Blind}
use Rattle.mux_recirc.specs.Shown.{equal}
use Rattle.mux_recirc.proofs.Added.{none_within, one_more}
use Rattle.mux_recirc.proofs.Shutting.{IsBlindThere, there, all_there}
use Rattle.mux_recirc.proofs.blind.Search.add_into.Goals as goal

abbrev none : Crossing
none = record { from = record { sig = 0; at = 0 }; to = record { sig = 0; at = 0 } }

pub loop-crossing-init : goal.loop-crossing-init
loop-crossing-init c = λ p q bits is has sorted low high i l b. none_within c.crossings_into-into.result.0 _

pub loop-crossing-preserved : goal.loop-crossing-preserved
loop-crossing-preserved c = λ p q bits is has sorted low high i l b.
    let net = c.args.self.now.net.now in
    let domains = c.args.self.now.domains.now in
    let crossings = c.args.self.now.crossings.now in
    let gate = c.args.gate in
    let x = c.args.end in
    let n = c.loop-crossing.crossing in
    let k = get_or crossings n none in
    let inside : n < length crossings = let m = c.loop-crossing-test.true in let w = c.crossings_into-into.ensures.within in omega arith in
    let at = slice_get-get_or crossings n none inside in
    let to = (c.crossings_into-into.ensures.exact sorted n k at).1 (c.loop-crossing.auto.crossing, c.loop-crossing-test.true) in
    let keeps = c.keeps-recirculating.ensures p q bits is has (subst (λ t. ShowsNext net (equal p q false) t bits) (sym c.bits_read_under.ensures.unchanged) low)
    (subst (λ t. ShowsNext net (equal p q true) t bits) (sym c.bits_read_under-2.ensures.unchanged) high) i l in
    let test = c.is_blind-holds.ensures (subst AreAscending (sym c.as_slice.ensures) c.in_ok-low.ensures.ascending) (subst AreAscending (sym c.as_slice-in-loop-crossing.ensures) c.in_ok-high.ensures.ascending)
    (λ a. reads (equal p q false) (next_tree net x.sig) x.at a) (λ a. reads (equal p q true) (next_tree net x.sig) x.at a)
    (λ a. subst (λ (bs : List Bit). Contains bs a ↔ (reads (equal p q false) (next_tree net x.sig) x.at a ≡ true)) (sym c.as_slice.ensures) (c.in_ok-low.ensures.exact (equal p q false) bits is has low i l a))
    (λ a. subst (λ (bs : List Bit). Contains bs a ↔ (reads (equal p q true) (next_tree net x.sig) x.at a ≡ true)) (sym c.as_slice-in-loop-crossing.ensures) (c.in_ok-high.ensures.exact (equal p q true) bits is has high i l a)) in
    let blind : Bool → Blind = λ v. record { crossing = n; ring = gate.ring; gate = gate.place; recirculating = v } in
    one_more (λ j. IsBlindThere net domains crossings gate p q x j b) c.crossings_into-into.result.0 n c.loop-crossing.auto.crossing (c.loop-crossing.invariant p q bits is has sorted low high i l b)
    (there net domains crossings gate p q x n k c.loop-crossing.found.items c.add_if.new.found.items c.is_blind-holds.result at to test
    (c.in_ok-add_if.ensures ∙ ap (λ v. c.loop-crossing.found.items ++ cond c.is_blind-holds.result (blind v ∷ []) []) keeps) b)

pub returns-clause-added : goal.returns-clause-added
returns-clause-added c = λ p q bits is has sorted low high i l b.
    all_there c.args.self.now.net.now c.args.self.now.domains.now c.args.self.now.crossings.now c.args.gate p q c.args.end c.crossings_into-into.result.0 c.crossings_into-into.result.1
    c.loop-crossing.crossing b c.loop-crossing-test.false (c.crossings_into-into.ensures.exact sorted) (c.loop-crossing.invariant p q bits is has sorted low high i l b)
