-- The synchronizer of one crossing more.
use Rattle.std.proofs.Common.{◌≡◌, ◌∙◌, ◌++◌, refl, sym, subst, [], map, List, ℕ, Option, get_or, Contains}
use Rattle.std.proofs.lemmas.List.Elements.{Contains-get_or}
use Rattle.cdc_model.specs.declared.scheme.Crossing.{Crossing}
use Rattle.cdc_model.specs.Listed.{sync_entry}
use Rattle.cdc_model.specs.Readers.{IsMarked}
use Rattle.cdc_model.specs.Syncs.{syncs_among}
use Rattle.cdc_model.specs.Tables.{ShowsNet}
use Rattle.two_flop.proofs.Chains.{ends_are, chain_kept, syncs_more}
use Rattle.two_flop.proofs.syncs_with.Goals as goal

abbrev none : Crossing
none = record { from = record { sig = 0; at = 0 }; to = record { sig = 0; at = 0 } }

pub loop-crossing-preserved : goal.loop-crossing-preserved
loop-crossing-preserved c = λ is has shown all.
    let net = c.args.net.now in
    let domains = c.args.domains.now in
    let ks = c.args.crossings.now in
    let k = get_or ks c.loop-crossing.crossing-index none in
    let ends = ends_are net domains is ks all in
    let at : Contains ks k = Contains-get_or ks c.loop-crossing.crossing-index none c.loop-crossing-test.true in
    let marks = c.as_slice.result.now in
    syncs_more net domains (map sync_entry (syncs_among net domains ks)) c.loop-crossing.syncs c.add_sync.new.syncs ks c.loop-crossing.crossing-index none c.loop-crossing-test.true
    (c.loop-crossing.invariant is has shown all)
    (c.in_ok-add_sync.ensures is has (subst (ShowsNet net []) (sym c.in_ok-readers.ensures.unchanged) shown) (ends k at)
    (λ copy. chain_kept net domains is ks marks c.in_ok-readers.readers
    (λ x r. subst (λ (ms : List (Option ℕ)). IsMarked ms x.sig) (sym c.as_slice.ensures.value) (c.in_ok-flops.ensures is has shown ends x r))
    (λ b state m. c.in_ok-readers.ensures.exact is has shown b state m) 3 0 refl k.to (ends k at) (k, at, refl, copy)))
