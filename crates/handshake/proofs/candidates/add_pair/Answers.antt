-- The pair that was found is added, and where none was found there is none.
use Rattle.std.proofs.Common.{◌∙◌, sym, ap, subst, Contains}
use Rattle.std.specs.Result.{is_ok}
use Rattle.handshake.specs.Pairs.{IsPlaceOf}
use Rattle.handshake.proofs.Pairs.{one_added, none_added, none_there, no_place_no_pair, pushed}
use Rattle.handshake.proofs.candidates.add_pair.Goals as goal

pub returns-in_ok-map_err : goal.returns-in_ok-map_err
returns-in_ok-map_err c = λ is ss are own ends p.
    one_added c.args.net.now c.args.domains.now ss c.args.there c.args.found.now.items c.push.new.self.items c.args.last_back c.in-Some.back c.in-Some-pair_of.pair p own
    (subst (IsPlaceOf ss c.args.last_back) (sym c.get.ensures.value ∙ sym c.copied.ensures ∙ c.in-Some.is) (ends c.args.last_back))
    (sym (c.pair_of.ensures is ss are) ∙ c.in-Some-pair_of.is)
    (pushed c.push.result c.args.found.now.items c.push.new.self.items c.in-Some-pair_of.pair (sym c.map_err.ensures.variant ∙ ap is_ok c.in_ok-map_err.was) c.push.ensures.items)

pub returns-in_default : goal.returns-in_default
returns-in_default c = λ is ss are own ends p.
    none_added c.args.net.now c.args.domains.now ss c.args.there (Contains c.args.found.now.items p) c.args.last_back p
    (no_place_no_pair c.args.net.now c.args.domains.now ss c.args.there c.args.last_back p
    (subst (IsPlaceOf ss c.args.last_back) (sym c.get.ensures.value ∙ sym c.copied.ensures ∙ c.in_default.is) (ends c.args.last_back)))

pub returns-in_default-pair_of : goal.returns-in_default-pair_of
returns-in_default-pair_of c = λ is ss are own ends p.
    none_added c.args.net.now c.args.domains.now ss c.args.there (Contains c.args.found.now.items p) c.args.last_back p
    (none_there c.args.net.now c.args.domains.now ss c.args.there c.args.last_back c.in-Some.back p own
    (subst (IsPlaceOf ss c.args.last_back) (sym c.get.ensures.value ∙ sym c.copied.ensures ∙ c.in-Some.is) (ends c.args.last_back))
    (sym (c.pair_of.ensures is ss are) ∙ c.in_default-pair_of.is))
