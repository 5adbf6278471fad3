-- Only a choice by a count has reads, and they are by that count.
use Rattle.std.proofs.Common.{◌≡◌, ◌∙◌, sym, subst, Some, None}
use Rattle.cofactor.proofs.Places.{if_ok}
use Rattle.gray_pointer.specs.Words.{IsPlain}
use Rattle.fifo_parts.specs.Words.{IsCountOf}
use Rattle.fifo_parts.proofs.ReadCells.{choice_by_count, cond_node, no_choice, reads_none}
use Rattle.fifo_parts.proofs.reads.add_cell.Goals as goal

pub returns-in_default-clause-reads : goal.returns-in_default-clause-reads
returns-in_default-clause-reads c = λ domains shown inside are before.
    let net = c.args.net.now in
    let plain : IsPlain net.graph = record { well = shown.is_net.graph; shared = shown.is_shared } in
    reads_none net domains plain c.args.cell c.args.reads.now (no_choice net domains plain c.args.cell
    (λ x y z e. c.in_default.not-Mux x y z (c.cell.ensures ∙ e))) before

pub returns-in_default-2-clause-counts : goal.returns-in_default-2-clause-counts
returns-in_default-2-clause-counts c = λ shown inside are.
    let net = c.args.net.now in
    let plain : IsPlain net.graph = record { well = shown.is_net.graph; shared = shown.is_shared } in
    c.in_ok-count.ensures.counts shown (cond_node net.graph plain c.args.cell c.in-Mux.cond c.in-Mux.yes c.in-Mux.other inside
    (sym c.cell.ensures ∙ c.in-Mux.is)) are

pub returns-in_default-2-clause-reads : goal.returns-in_default-2-clause-reads
returns-in_default-2-clause-reads c = λ domains shown inside are before.
    let net = c.args.net.now in
    let plain : IsPlain net.graph = record { well = shown.is_net.graph; shared = shown.is_shared } in
    let is = sym c.cell.ensures ∙ c.in-Mux.is in
    let count = subst (IsCountOf net c.in-Mux.cond) c.in_default-2.is (c.in_ok-count.ensures.count shown
    (cond_node net.graph plain c.args.cell c.in-Mux.cond c.in-Mux.yes c.in-Mux.other inside is) are) in
    reads_none net domains plain c.args.cell c.args.reads.now (λ n s words at there by read.
    let both = choice_by_count net domains plain c.args.cell c.in-Mux.cond c.in-Mux.yes c.in-Mux.other is None count n s words at there by read in
    cc) before

pub returns-clause-counts : goal.returns-clause-counts
returns-clause-counts c = if_ok c.add_reads.result
    (λ u h shown inside are.
    let net = c.args.net.now in
    let plain : IsPlain net.graph = record { well = shown.is_net.graph; shared = shown.is_shared } in
    c.in_ok-count.ensures.counts shown (cond_node net.graph plain c.args.cell c.in-Mux.cond c.in-Mux.yes c.in-Mux.other inside
    (sym c.cell.ensures ∙ c.in-Mux.is)) are)
    c.add_reads.ensures

pub returns-clause-reads : goal.returns-clause-reads
returns-clause-reads c = if_ok c.add_reads.result
    (λ u h domains shown inside are before.
    let net = c.args.net.now in
    let plain : IsPlain net.graph = record { well = shown.is_net.graph; shared = shown.is_shared } in
    let is = sym c.cell.ensures ∙ c.in-Mux.is in
    let count = subst (IsCountOf net c.in-Mux.cond) c.in-Some.is (c.in_ok-count.ensures.count shown
    (cond_node net.graph plain c.args.cell c.in-Mux.cond c.in-Mux.yes c.in-Mux.other inside is) are) in
    h domains shown inside (λ n s words at there by read.
    let both = choice_by_count net domains plain c.args.cell c.in-Mux.cond c.in-Mux.yes c.in-Mux.other is (Some c.in-Some.count) count n s words
    at there by read in
    let same : s.reg.count ≡ c.in-Some.count = cc in same) before)
    c.add_reads.ensures
