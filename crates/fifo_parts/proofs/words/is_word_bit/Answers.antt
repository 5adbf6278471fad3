-- By the clock and the terms.
use Rattle.std.proofs.Common.{◌≡◌, ◌∙◌, sym, ap, subst, refl, ℕ, nat_eq, Bool, true, false, not, Option, Some, None, eqb-true}
use Rattle.std.specs.Option.{option_eq}
use Rattle.fifo_nodes.specs.Terms.{AreTermsIn}
use Rattle.fifo_parts.specs.Words.{AreAllowed, HaveCommon, says_all}
use Rattle.fifo_parts.proofs.WordsOfPairs.{all_allowed, all_said, found_within, full_in, have_common, plain, pushed_within, word_bit_is}
use Rattle.fifo_parts.proofs.words.is_word_bit.Goals as goal

one_number : (o : Option ℕ) (n : ℕ) → not (option_eq nat_eq o (Some n)) ≡ false → o ≡ Some n
one_number None n e = cc
one_number (Some k) n e = go (nat_eq k n) refl e
  where
    go : (b : Bool) → nat_eq k n ≡ b → not b ≡ false → Some k ≡ Some n
    go true h f = ap Some (eqb-true k n h)
    go false h f = cc

pub returns-then-not-says_all : goal.returns-then-not-says_all
returns-then-not-says_all c = λ write read shown is takes l.
    let net = c.args.shown.net.now in
    let side = c.args.pair.now.write.side.now in (
      λ e. cc,
      λ h.
          let said = all_said shown is c.args.taking.now takes c.args.word _ h in
          let t : true ≡ false = sym said ∙ ap (λ ts. says_all net.graph side.reg.count side.width ts c.args.word) (sym c.as_slice-terms.ensures)
          ∙ sym c.says_all.ensures ∙ c.if-not-says_all.true in
          cc,
    )

pub returns-then-not-are_allowed : goal.returns-then-not-are_allowed
returns-then-not-are_allowed c = λ write read shown is takes l.
    let net = c.args.shown.net.now in
    let side = c.args.pair.now.write.side.now in
    let t = c.args.taking.now in
    let within = found_within shown is t takes in
    let pushed = pushed_within shown is t takes in
    let p = plain shown is t takes in (
      λ e. cc,
      λ h.
          let allowed = all_allowed shown is t takes c.args.word _ h in
          let k : true ≡ false = sym ((c.are_allowed.ensures p (subst (AreTermsIn net.graph) (sym c.as_slice-terms.ensures) within) pushed).1
          (subst (AreAllowed net.graph side.reg.count side.width c.args.word side.under) (sym c.as_slice-terms.ensures) allowed))
          ∙ c.if-not-are_allowed.true in
          cc,
    )

pub returns : goal.returns
returns c = λ write read shown is takes l.
    let net = c.args.shown.net.now in
    let side = c.args.pair.now.write.side.now in
    let t = c.args.taking.now in
    let within = found_within shown is t takes in
    let pushed = pushed_within shown is t takes in
    let full = full_in shown is t takes in
    let p = plain shown is t takes in
    let terms = subst (AreTermsIn net.graph) (sym c.as_slice-terms.ensures) within in
    let common = c.has_one_of.ensures net.graph p terms (subst (AreTermsIn net.graph) (sym c.as_slice.ensures) full) in (
      λ e. word_bit_is shown is t takes c.args.word (sym c.clock_of.ensures
          ∙ one_number c.clock_of.result side.clock (sym c.ne.ensures ∙ c.if-ne.false))
          (ap (λ xs. says_all net.graph side.reg.count side.width xs c.args.word) (sym c.as_slice-terms.ensures) ∙ sym c.says_all.ensures
          ∙ c.if-not-says_all.false)
          (subst (AreAllowed net.graph side.reg.count side.width c.args.word side.under) c.as_slice-terms.ensures
          ((c.are_allowed.ensures p terms pushed).0 c.if-not-are_allowed.false))
          (subst (HaveCommon net.graph t.taken.under) c.as_slice.ensures (subst (λ xs. HaveCommon net.graph xs c.as_slice.result.now)
          c.as_slice-terms.ensures (common.0 e))),
      λ h. common.1 (subst (λ xs. HaveCommon net.graph xs c.as_slice.result.now) (sym c.as_slice-terms.ensures)
          (subst (HaveCommon net.graph t.taken.under) (sym c.as_slice.ensures)
          (have_common shown is t takes c.args.word _ h))),
    )
