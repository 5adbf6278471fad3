-- By the synchronizers that bring the far side's code.
use Rattle.std.proofs.Common.{◌∙◌, sym, ap, subst, map}
use Rattle.cdc_model.specs.Schemes.{last_flop}
use Rattle.fifo_parts.specs.Brought.{IsOver}
use Rattle.fifo_scheme.proofs.MetPair.{few_over}
use Rattle.fifo_scheme.proofs.judge.teller_of.Goals as goal

pub returns : goal.returns
returns c = λ meant listed shown sources comparisons width few.
    let net = c.args.shown.net.now in
    let domains = c.args.shown.domains.now in
    let far = c.args.far.now in
    let came = subst (IsOver net domains meant far.reg.gray c.args.near.now.clock) c.in-Some.is (c.in_ok-came.ensures meant listed sources width) in
    record {
      over = came.0;
      brought = came.1;
      given = c.in_ok-teller.ensures.given;
      tells = λ n f of same. c.in_ok-teller.ensures.tells n f shown comparisons of (came.2 ∙ ap (map last_flop) (sym same)) (few_over net domains meant far.reg.gray c.args.near.now.clock far.width c.in-Some.over came.0 came.1 came.2 width few);
    }
