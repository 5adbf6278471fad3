-- What one bit more reads.
use Rattle.std.proofs.Common.{◌≡◌, ◌∙◌, ℕ, zero, suc, ◌+◌, ◌<◌, ◌≤◌, Bool, cond, List, [], ◌∷◌, ◌++◌, length, drop, get_or, refl, sym, ap, subst, arith, append_assoc, append-nil}
use Rattle.cdc_base.specs.declared.bit.Bit.{Bit}
use Rattle.cell_graph.specs.declared.net.Net.{Net}
use Rattle.cell_graph.specs.Values.{reading_of}
use Rattle.cofactor.specs.declared.table.Table.{Table}
use Rattle.cdc_model.specs.declared.scheme.Crossing.{Crossing}
use Rattle.cdc_model.specs.Tables.{ShowsNet}
use Rattle.domains.specs.declared.Domains.{Domains}
use Rattle.campaign.specs.Planned.{watched_in, watched_reads}
use Rattle.campaign.proofs.plan.pairs.Goals as goal

pairs-from : (net : Net) (domains : Domains) (test : Bit → Bool) (xs : List Bit) (i : ℕ) (d : Bit) → i < length xs
    → watched_in net domains test (drop i xs) ≡ cond (test (get_or xs i d)) [] (watched_reads net domains test (get_or xs i d)) ++ watched_in net domains test (drop (suc i) xs)
pairs-from net domains test [] i d l = absurd (omega arith)
pairs-from net domains test (x ∷ xs) zero d l = refl
pairs-from net domains test (x ∷ xs) (suc i) d l = pairs-from net domains test xs i d (omega arith)

pairs-end : (net : Net) (domains : Domains) (test : Bit → Bool) (xs : List Bit) (i : ℕ) → length xs ≤ i → watched_in net domains test (drop i xs) ≡ []
pairs-end net domains test [] zero l = refl
pairs-end net domains test [] (suc i) l = refl
pairs-end net domains test (x ∷ xs) zero l = absurd (omega arith)
pairs-end net domains test (x ∷ xs) (suc i) l = pairs-end net domains test xs i (omega arith)

abbrev first : Bit
first = record { sig = 0; at = 0 }

pub loop-bit-preserved : goal.loop-bit-preserved
loop-bit-preserved c =
    let i = c.loop-bit.bit-index in
    let net = c.args.net.now in
    let domains = c.args.domains.now in
    let test = reading_of c.args.settling.now in
    let x = get_or c.args.bits.now i first in
    record {
      shows = λ g. subst (λ (t : Table). ShowsNet net [] t) (sym c.in_ok-add_reads.ensures.unchanged) (c.loop-bit.invariant.shows g);
      added = λ is has all.
          c.loop-bit.invariant.added is has all
          ∙ ap (λ (ps : List Crossing). c.loop-bit.pairs.items ++ ps)
          (pairs-from net domains test c.args.bits.now i first c.loop-bit-test.true
          ∙ ap (λ (k : ℕ). cond (test x) [] (watched_reads net domains test x) ++ watched_in net domains test (drop k c.args.bits.now)) (let e : suc i ≡ i + 1 = omega arith in e))
          ∙ sym (append_assoc c.loop-bit.pairs.items (cond (test x) [] (watched_reads net domains test x)) (watched_in net domains test (drop (i + 1) c.args.bits.now)))
          ∙ ap (λ (ps : List Crossing). ps ++ watched_in net domains test (drop (i + 1) c.args.bits.now))
          (sym (c.in_ok-add_reads.ensures.added is has (c.loop-bit.invariant.shows is.graph) (all i first c.loop-bit-test.true)));
    }

pub returns : goal.returns
returns c = λ is has all.
    sym (c.loop-bit.invariant.added is has all
    ∙ ap (λ (ps : List Crossing). c.loop-bit.pairs.items ++ ps)
    (pairs-end c.args.net.now c.args.domains.now (reading_of c.args.settling.now) c.args.bits.now c.loop-bit.bit-index c.loop-bit-test.false)
    ∙ append-nil c.loop-bit.pairs.items)
