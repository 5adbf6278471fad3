-- The terms that were found, or the word counts nothing.
use Rattle.std.proofs.Common.{sym, subst, true}
use Rattle.fifo_nodes.specs.Counts.{IsFollowed}
use Rattle.fifo_nodes.specs.Terms.{AreTerms}
use Rattle.gray_pointer.specs.Words.{word_of}
use Rattle.fifo_nodes.proofs.Counting.{counted_found}
use Rattle.fifo_nodes.proofs.counts.counted.Goals as goal

pub returns : goal.returns
returns c = λ plain shown wide signal has.
    let g = c.args.net.now.graph in
    let b = c.args.count in
    let w = c.args.width in
    let n = word_of g c.args.word w in
    let s = c.follow.new.search in
    let f = c.in_ok-follow.ensures plain shown (record { wide = wide; signal = signal; next = has }) in
    counted_found g b w n s c.into_terms.result (subst (λ x. IsFollowed g b w n true x s) c.new-search.ensures
    (subst (λ v. IsFollowed g b w n v c.new-search.result s) c.if-not-branch.false f))
    (λ ts so. subst (AreTerms g ts) (sym c.into_terms.ensures) (c.in_ok-found_terms.ensures ts plain shown so))
