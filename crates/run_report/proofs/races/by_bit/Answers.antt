use Rattle.std.proofs.Common.{◌≡◌, ◌∙◌, Bor, rules}
use Rattle.std.proofs.lemmas.List.{take_all}
use Rattle.std.proofs.lemmas.List.Sorted.{answers_always}
use Rattle.cdc_base.specs.declared.bit.Bit.{Bit}
use Rattle.cdc_model.specs.declared.record.Race.{Race}
use Rattle.run_report.proofs.ByBit.{sorted-by-bit}
use Rattle.run_report.proofs.races.by_bit.Goals as goal

pub returns : goal.returns
returns c =
    let key = λ (r : Bor Race). r.now.bit in
    sorted-by-bit c.args.races.now c.loop-race.sorted.items c.sort_unstable_by_key.new.self.items (c.loop-race.invariant ∙ take_all c.loop-race.race-index c.args.races.now c.loop-race-test.false)
    c.sort_unstable_by_key.ensures.permutation
    (c.sort_unstable_by_key.ensures.sorted key (answers_always _ (λ (a : Bor (Bor Race) × Unit {0}) (r : Bit). r ≡ key a.0.now) _ (λ f a r f' called. search rules)))
