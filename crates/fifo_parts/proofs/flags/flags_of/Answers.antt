-- One candidate more, and in the end all.
use Rattle.std.proofs.Common.{◌≡◌, ◌∙◌, ◌+◌, ◌++◌, sym, subst, true, false, take, drop, List, Contains}
use Rattle.std.proofs.lemmas.Option.{slice_get-get_or}
use Rattle.cdc_model.specs.Nets.{design_of, next_tree}
use Rattle.cdc_model.specs.Ordered.{IsAscending}
use Rattle.cdc_model.proofs.Justify.{slice_in}
use Rattle.fifo_parts.specs.declared.flags.Flag.{Flag}
use Rattle.fifo_parts.specs.Tellers.{flag_entry_key, IsFlagBy}
use Rattle.fifo_parts.proofs.Comparing.{flag_found, found_own}
use Rattle.fifo_parts.proofs.Sifted.{all_sifted, AreSifted, chosen_all, chosen_ascend, others_ascend, sifted_in, sifted_out}
use Rattle.fifo_parts.proofs.flags.flags_of.Goals as goal
use Rattle.fifo_parts.proofs.flags.flags_of.Goals.{then-branch+in_ok-push, else-branch}

no_flag : Flag
no_flag = record { bit = record { sig = 0; at = 0 }; value = false }

pub loop-flag-preserved : goal.loop-flag-preserved
loop-flag-preserved c =
    let net = c.args.shown.net.now in
    let items = c.as_slice-flag-items.result.now in
    let idx = c.loop-flag.flag-index in
    let lt = c.loop-flag-test.true in
    let flags = c.loop-flag.flags in
    record {
      ordered = elim c.if-branch.branch [
        | then-branch+in_ok-push w ↦ subst (λ (fs : List Flag). IsAscending flag_entry_key (fs ++ drop (idx + 1) items)) (sym (w.flags-is
            ∙ w.in_ok-push.ensures.pushed))
            (chosen_ascend flag_entry_key items idx _ lt flags c.loop-flag.invariant.ordered)
        | else-branch w ↦ subst (λ (fs : List Flag). IsAscending flag_entry_key (fs ++ drop (idx + 1) items)) (sym w.flags-is)
            (others_ascend flag_entry_key items idx no_flag lt flags c.loop-flag.invariant.ordered)
      ];
      sifted = λ near far shown owns side came few.
          let P : Flag → Type 0 = λ f. IsFlagBy c.args.apart (design_of net c.args.shown.domains.now) (next_tree net) near far f.bit f.value in
          let so = c.loop-flag.invariant.sifted near far shown owns side came few in
          let is = c.in_ok-is_flag.ensures near far shown side came few (owns _ (slice_in items idx _ (slice_get-get_or items idx _ lt))) in
          elim c.if-branch.branch [
            | then-branch+in_ok-push w ↦ subst (AreSifted P (take (idx + 1) items)) (sym (w.flags-is ∙ w.in_ok-push.ensures.pushed))
                (sifted_in P items idx _ lt flags so (is.0 w.if-branch.true))
            | else-branch w ↦ subst (AreSifted P (take (idx + 1) items)) (sym w.flags-is)
                (sifted_out P items idx _ lt flags so (λ p. let no : true ≡ false = sym (is.1 p) ∙ w.if-branch.false in cc))
          ];
    }

pub returns : goal.returns
returns c = λ near far shown are side came few.
    let net = c.args.shown.net.now in
    let table = c.args.shown.table.now in
    let domains = c.args.shown.domains.now in
    let k = c.args.comparisons.now in
    let e = c.args.side.now in
    let over = c.args.over.now in
    let a = c.args.apart in
    let items = c.as_slice-flag-items.result.now in
    let value = c.as_slice-flag-items.ensures.value in
    let P : Flag → Type 0 = λ f. IsFlagBy a (design_of net domains) (next_tree net) near far f.bit f.value in
    let sifted = all_sifted P items c.loop-flag.flag-index c.loop-flag.flags c.loop-flag-test.false (c.loop-flag.invariant.sifted near far shown
    (λ f i. found_own net table shown domains k are e near far side over came a e.clock f
    ((c.in_ok-candidates.ensures.same f).0 (subst (λ (l : List Flag). Contains l f) value i)))
    side came few) in record {
      all = λ f h. (sifted f).1 (
        subst (λ (l : List Flag). Contains l f) (sym value)
            ((c.in_ok-candidates.ensures.same f).1 (flag_found net table shown domains k are e near far side over came a f h)),
        h,
      );
      only = λ f i. ((sifted f).0 i).1;
      ordered = chosen_all flag_entry_key items c.loop-flag.flag-index c.loop-flag.flags c.loop-flag-test.false c.loop-flag.invariant.ordered;
    }
