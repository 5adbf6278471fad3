-- By the place of the first flop.
use Rattle.std.proofs.Common.{◌≡◌, ◌∙◌, sym, ap, Some, true, false}
use Rattle.std.specs.HashMap as hash
use Rattle.std.proofs.lemmas.Option.{slice_get-get_or}
use Rattle.cdc_base.specs.contracts.bit.BitPartialEq.TheImpl as equality
use Rattle.cert_check.proofs.FirstFlops.{none_placed, not_past, other_placed}
use Rattle.cert_check.proofs.rings.listed.Goals as goal

pub returns-in_default : goal.returns-in_default
returns-in_default c = λ own places.
    none_placed c.args.syncs.now own c.args.from c.args.flops.now (hash.get equality.ghosts.eq c.args.firsts.now) places (sym c.first_place.ensures ∙ c.in_default.is)

pub returns-in_default-get : goal.returns-in_default-get
returns-in_default-get c = λ own places e i p q.
    not_past c.args.syncs.now own c.args.from c.args.flops.now (hash.get equality.ghosts.eq c.args.firsts.now) places c.in-Some.place (sym c.first_place.ensures ∙ c.in-Some.is)
    c.in_default-get.ensures.lookup.3

pub returns-else-is_with : goal.returns-else-is_with
returns-else-is_with c = λ own places.
    other_placed c.args.syncs.now own c.args.from c.args.flops.now (hash.get equality.ghosts.eq c.args.firsts.now) places c.in-Some.place c.in-Some-get.sync.now
    (sym c.first_place.ensures ∙ c.in-Some.is)
    (slice_get-get_or c.args.syncs.now c.in-Some.place c.in-Some-get.sync.now c.in-Some-get.ensures.lookup.3.0 ∙ ap Some (sym c.in-Some-get.ensures.lookup.1))
    (λ w. never (sym c.if-is_with.false ∙ c.is_with.ensures.1 w))
  where
    never : false ≡ true → ⊥
    never h = cc
