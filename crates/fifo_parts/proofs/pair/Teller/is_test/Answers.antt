-- By the flags, or by the code.
use Rattle.std.proofs.Common.{◌∙◌, ◌≡◌, ◌≤◌, sym, subst, refl, inl, inr, true, false, List, length}
use Rattle.cdc_base.specs.declared.bit.Bit.{Bit}
use Rattle.cofactor.proofs.Places.{if_ok}
use Rattle.cdc_model.specs.Nets.{design_of, next_tree}
use Rattle.fifo_nodes.specs.Terms.{term_of}
use Rattle.fifo_parts.proofs.Tests.{plain_net, says_flag, test_by, test_told, told_test}
use Rattle.fifo_parts.proofs.pair.Teller.is_test.Goals as goal

pub returns-then-has_flag : goal.returns-then-has_flag
returns-then-has_flag c = λ near far shown tells inside.
    let net = c.args.shown.net.now in
    let domains = c.args.shown.domains.now in
    let t = term_of net.graph c.args.term in
    let says = c.has_flag.ensures (plain_net net c.args.shown.table.now shown) tells.flags.ordered inside in (
      λ e. (test_by (design_of net domains) (next_tree net) near far c.args.self.now.apart t).1
          (inr ((says_flag net domains c.args.self.now near far tells t).0 (says.0 c.if-has_flag.true))),
      λ h. refl,
    )

pub returns : goal.returns
returns c = if_ok c.is_test.result
    (λ is h near far shown tells inside.
    let net = c.args.shown.net.now in
    let domains = c.args.shown.domains.now in
    let teller = c.args.self.now in
    let t = term_of net.graph c.args.term in
    let plain = plain_net net c.args.shown.table.now shown in
    let says = c.has_flag.ensures plain tells.flags.ordered inside in
    let over = c.as_slice.result.now in
    let came = c.as_slice.ensures ∙ tells.over in
    let test = h plain shown.shows tells.side.alone.now.1 (subst (λ (bs : List Bit). length bs ≤ 64) (sym c.as_slice.ensures) tells.few) inside in
    let by = test_by (design_of net domains) (next_tree net) near far teller.apart t in (
      λ e. by.1 (inl (told_test net domains teller.side.now near far tells.side over came teller.apart t (test.0 e))),
      λ k. elim (by.0 k) [
        | inl m ↦ test.1 (test_told net domains teller.side.now near far tells.side over came teller.apart t m)
        | inr m ↦ (let no : true ≡ false = sym (says.1 ((says_flag net domains teller near far tells t).1 m)) ∙ c.if-has_flag.false in cc)
      ],
    ))
    c.is_test.ensures
