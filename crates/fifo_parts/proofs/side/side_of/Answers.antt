-- The counter counts, and the side has both codes; or it doesn't count.
use Rattle.std.proofs.Common.{sym, subst}
use Rattle.cell_graph.specs.Unfolded.{tree_of}
use Rattle.gray_pointer.specs.Words.{IsPlain, word_of}
use Rattle.fifo_nodes.specs.declared.codes.Code.{Code}
use Rattle.fifo_nodes.specs.declared.codes.Moment.TheVariants.{Now}
use Rattle.fifo_nodes.specs.Counts.{IsCounted}
use Rattle.fifo_nodes.specs.Terms.{AreTermsIn}
use Rattle.fifo_parts.specs.Sides.{IsHeldNow, IsNextCode}
use Rattle.fifo_parts.proofs.SidesAlone.{count_signal, count_word, counts_same, gray_word, now_code, side_found}
use Rattle.fifo_parts.proofs.side.side_of.Goals as goal

pub returns-in_default-2-clause-exact : goal.returns-in_default-2-clause-exact
returns-in_default-2-clause-exact c = λ is_net has shared shows vars none o ts makes.
    let net = c.args.net.now in
    let domains = c.args.domains.now in
    let reg = c.args.reg in
    let outline = c.in-Some.outline in
    let is = c.in-Some.ensures.sound is_net in
    let plain : IsPlain net.graph = record { well = is_net.graph; shared = shared } in
    subst (IsCounted net.graph reg.count outline.width (word_of net.graph outline.next outline.width)) c.in_default-2.is
    (c.in_ok-under.ensures plain shows is.wide.0 (count_signal net domains reg outline is) (count_word net domains reg outline is has)) ts
    (counts_same net domains reg outline is o makes.outline ts makes.counts)

pub returns-clause-sound : goal.returns-clause-sound
returns-clause-sound c = λ is_net has shared shows vars.
    let net = c.args.net.now in
    let domains = c.args.domains.now in
    let reg = c.args.reg in
    let outline = c.in-Some.outline in
    let w = outline.width in
    let is = c.in-Some.ensures.sound is_net in
    let plain : IsPlain net.graph = record { well = is_net.graph; shared = shared } in
    let under = c.in-Some-2.under in
    let counts = subst (IsCounted net.graph reg.count w (word_of net.graph outline.next w)) c.in-Some-2.is
    (c.in_ok-under.ensures plain shows is.wide.0 (count_signal net domains reg outline is) (count_word net domains reg outline is has)) in
    let held = subst (IsHeldNow net.graph reg w) c.in-Some-3.is (c.in_ok-held.ensures is_net.graph vars is.wide.0 is.gray_width) in
    let now : Code = record { count = reg.count; width = w; held = c.in-Some-3.held; moment = Now } in
    let gray = gray_word net domains reg outline is has in
    let next = subst (λ ts. IsNextCode net.graph reg w (tree_of net.graph outline.gray_next) ts c.in_ok-next.next) c.as_slice.ensures
    (c.in_ok-next.ensures is_net.graph is.wide.0 is.count_width gray.0 gray.1
    (subst (AreTermsIn net.graph) (sym c.as_slice.ensures) counts.2.within)) in (
      counts.0,
      side_found net domains reg outline is counts.0 under now c.in_ok-next.next counts.1 counts.2
          (now_code net.graph reg w is.wide.0 is.count_width c.in-Some-3.held held) next,
    )
