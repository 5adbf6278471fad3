-- By what each side tells of the other.
use Rattle.std.proofs.Common.{◌≡◌, ◌≤◌, ◌∙◌, ◌↔◌, sym, ap, subst, Bool, true, List, length, map, Contains, arith}
use Rattle.cdc_model.specs.declared.scheme.GrayReg.{GrayReg}
use Rattle.cdc_model.specs.Listed.{sync_entry}
use Rattle.cdc_model.specs.Nets.{bit_count, design_of, next_tree}
use Rattle.cdc_model.specs.Schemes.{Sync}
use Rattle.fifo_laws.specs.Sides.{Side}
use Rattle.fifo_nodes.specs.declared.shows.Apart.TheVariants.{Empty, Full}
use Rattle.fifo_nodes.specs.declared.term.Term.{Term}
use Rattle.fifo_nodes.specs.Terms.{AreTermsIn, term_of}
use Rattle.fifo_parts.specs.declared.side.Side.{Side as SideEntry}
use Rattle.fifo_parts.specs.Tellers.{IsShown, IsTeller, IsTestBy}
use Rattle.fifo_scheme.specs.Indexed.{IsIndex}
use Rattle.fifo_scheme.specs.Met.{IsTold, MayTell}
use Rattle.fifo_scheme.proofs.Items.{none_of}
use Rattle.fifo_scheme.proofs.MetPair.{are_alone, AreAlone, matched, no_full, no_groups, no_pop, no_read, no_width, no_write, paired, pops, pushes, read_tells, side_with, write_tells}
use Rattle.fifo_scheme.proofs.judge.pair_of.Goals as goal
use Rattle.fifo_scheme.proofs.judge.pair_of.Goals.{In-Some, In_ok-full, In_ok-read, then-write-read-via-then-write-read, then-write-read-via-else-write-read+then-not-are_of_two_groups, then-len-eq0-via-then-len-eq0, then-len-eq0-via-else-len-eq0+in_ok-has_test+then-not-branch}

-- what the side that writes tells
writes_tell : (c : In-Some) (meant : List Sync) (grays : List GrayReg) → c.args.syncs.now ≡ map sync_entry meant → IsShown c.args.shown.net.now c.args.shown.table.now
    → IsIndex c.args.shown.net.now c.args.shown.domains.now meant grays c.args.index.now → AreAlone c.args.shown.net.now c.args.shown.domains.now grays c.args.write.now c.args.read.now
    → IsTold c.args.shown.net.now c.args.shown.domains.now meant c.args.write.now c.args.read.now Full c.in-Some.write
writes_tell c meant grays listed shown is both =
    subst (MayTell c.args.shown.net.now c.args.shown.domains.now meant c.args.write.now c.args.read.now Full) c.in-Some.is
    (c.in_ok-write.ensures meant listed shown is.sources is.comparisons both.reads.gray_width both.reads.wide.1)

-- what the side that reads tells, if it does
reads_may : (c : In_ok-read) (meant : List Sync) (grays : List GrayReg) → c.args.syncs.now ≡ map sync_entry meant → IsShown c.args.shown.net.now c.args.shown.table.now
    → IsIndex c.args.shown.net.now c.args.shown.domains.now meant grays c.args.index.now → AreAlone c.args.shown.net.now c.args.shown.domains.now grays c.args.write.now c.args.read.now
    → IsTold c.args.shown.net.now c.args.shown.domains.now meant c.args.write.now c.args.read.now Full c.in-Some.write
    → MayTell c.args.shown.net.now c.args.shown.domains.now meant c.args.read.now c.args.write.now Empty c.in_ok-read.field-0
reads_may c meant grays listed shown is both h =
    let side = h.given.0 in
    subst (λ (e : SideEntry). MayTell c.args.shown.net.now c.args.shown.domains.now meant c.args.read.now e Empty c.in_ok-read.field-0) side
    (c.in_ok-read.ensures meant listed shown is.sources is.comparisons
    (subst (λ (e : SideEntry). bit_count c.args.shown.net.now.graph.signals e.reg.gray ≡ e.width) (sym side) both.writes.gray_width)
    (subst (λ (e : SideEntry). e.width ≤ 11) (sym side) both.writes.wide.1))

module _ (c : In_ok-full) (meant : List Sync) (grays : List GrayReg) (shown : IsShown c.args.shown.net.now c.args.shown.table.now)
    (both : AreAlone c.args.shown.net.now c.args.shown.domains.now grays c.args.write.now c.args.read.now)
    (h : IsTold c.args.shown.net.now c.args.shown.domains.now meant c.args.write.now c.args.read.now Full c.in-Some.write)
    (k : IsTold c.args.shown.net.now c.args.shown.domains.now meant c.args.read.now c.args.write.now Empty c.in-Some-2.read) where
  abbrev W : Side
  W = side_with c.args.write.now both.write_terms k.over

  abbrev R : Side
  R = side_with c.args.read.now both.read_terms h.over

  abbrev IsPushTest : Term → Type 0
  IsPushTest x = IsTestBy c.in-Some.write.apart (design_of c.args.shown.net.now c.args.shown.domains.now) (next_tree c.args.shown.net.now) W R (term_of c.args.shown.net.now.graph x)

  abbrev IsPopTest : Term → Type 0
  IsPopTest x = IsTestBy c.in-Some-2.read.apart (design_of c.args.shown.net.now c.args.shown.domains.now) (next_tree c.args.shown.net.now) R W (term_of c.args.shown.net.now.graph x)

  push_tests : (x : Term) → Contains c.in_ok-full.full x ↔ (Contains c.args.write.now.under x × IsPushTest x)
  push_tests =
      let under : c.as_slice-pushes.result.now ≡ c.args.write.now.under = c.as_slice-pushes.ensures ∙ ap (λ (e : SideEntry). e.under) h.given.0 in
      subst (λ (ts : List Term). (x : Term) → Contains c.in_ok-full.full x ↔ (Contains ts x × IsPushTest x)) under
      (c.in_ok-full.ensures W R shown (write_tells both meant c.in-Some.write c.in-Some-2.read h k) (subst (AreTermsIn c.args.shown.net.now.graph) (sym under) both.writes.under.within))

  -- of a search among the terms of a pop
  pop_test : (has : Bool)
      → ((near far : Side) → IsShown c.args.shown.net.now c.args.shown.table.now → IsTeller c.args.shown.net.now c.args.shown.domains.now c.in-Some-2.read near far
      → AreTermsIn c.args.shown.net.now.graph c.as_slice-pops.result.now → (has ≡ true) ↔ ((x : Term) × Contains c.as_slice-pops.result.now x
      × IsTestBy c.in-Some-2.read.apart (design_of c.args.shown.net.now c.args.shown.domains.now) (next_tree c.args.shown.net.now) near far (term_of c.args.shown.net.now.graph x)))
      → (has ≡ true) ↔ ((x : Term) × Contains c.args.read.now.under x × IsPopTest x)
  pop_test has found =
      let needs : c.as_slice-pops.result.now ≡ c.args.read.now.under = c.as_slice-pops.ensures ∙ ap (λ (e : SideEntry). e.under) k.given.0 in
      subst (λ (ts : List Term). (has ≡ true) ↔ ((x : Term) × Contains ts x × IsPopTest x)) needs
      (found R W shown (read_tells both meant c.in-Some.write c.in-Some-2.read h k) (subst (AreTermsIn c.args.shown.net.now.graph) (sym needs) both.reads.under.within))

pub returns-then-write-read : goal.returns-then-write-read
returns-then-write-read c = λ meant grays given shown is iw ir.
    let both = are_alone c.args.shown.net.now c.args.shown.domains.now meant grays c.args.index.now given.fits is c.args.write.now c.args.read.now iw ir in
    elim c.then-write-read.branch [
      | then-write-read-via-then-write-read v ↦ no_width both meant (λ same. omega arith)
      | then-write-read-via-else-write-read+then-not-are_of_two_groups v ↦ no_groups both meant (sym v.are_of_two_groups.ensures ∙ v.if-not-are_of_two_groups.true)
    ]

pub returns-in_default : goal.returns-in_default
returns-in_default c = λ meant grays given shown is iw ir.
    let both = are_alone c.args.shown.net.now c.args.shown.domains.now meant grays c.args.index.now given.fits is c.args.write.now c.args.read.now iw ir in
    no_write both meant
    (subst (MayTell c.args.shown.net.now c.args.shown.domains.now meant c.args.write.now c.args.read.now Full) (none_of c.in_ok-write.field-0 c.in_default.not-Some)
    (c.in_ok-write.ensures meant given.listed shown is.sources is.comparisons both.reads.gray_width both.reads.wide.1))

pub returns-in_default-2 : goal.returns-in_default-2
returns-in_default-2 c = λ meant grays given shown is iw ir.
    let at = goal.at.returns-in_default-2 c in
    let both = are_alone c.args.shown.net.now c.args.shown.domains.now meant grays c.args.index.now given.fits is c.args.write.now c.args.read.now iw ir in
    no_read both meant
    (subst (MayTell c.args.shown.net.now c.args.shown.domains.now meant c.args.read.now c.args.write.now Empty) (none_of c.in_ok-read.field-0 c.in_default-2.not-Some)
    (reads_may at.In_ok-read meant grays given.listed shown is both (writes_tell at.In-Some meant grays given.listed shown is both)))

pub returns-then-len-eq0 : goal.returns-then-len-eq0
returns-then-len-eq0 c = λ meant grays given shown is iw ir.
    let at = goal.at.returns-then-len-eq0 c in
    let both = are_alone c.args.shown.net.now c.args.shown.domains.now meant grays c.args.index.now given.fits is c.args.write.now c.args.read.now iw ir in
    let h = writes_tell at.In-Some meant grays given.listed shown is both in
    let k = subst (MayTell c.args.shown.net.now c.args.shown.domains.now meant c.args.read.now c.args.write.now Empty) c.in-Some-2.is (reads_may at.In_ok-read meant grays given.listed shown is both h) in
    elim c.then-len-eq0.branch [
      | then-len-eq0-via-then-len-eq0 v ↦ no_full both meant c.in-Some.write c.in-Some-2.read h k c.in_ok-full.full (push_tests at.In_ok-full meant grays shown both h k) (sym c.len.ensures ∙ v.if-len-eq0.true)
      | then-len-eq0-via-else-len-eq0+in_ok-has_test+then-not-branch v ↦ no_pop both meant c.in-Some.write c.in-Some-2.read h k v.in_ok-has_test.field-0
          (pop_test at.In_ok-full meant grays shown both h k v.in_ok-has_test.field-0 v.in_ok-has_test.ensures) v.if-not-branch.true
    ]

pub returns : goal.returns
returns c = λ meant grays given shown is iw ir.
    let at = goal.at.returns c in
    let t = c.in-Some.write in
    let u = c.in-Some-2.read in
    let both = are_alone c.args.shown.net.now c.args.shown.domains.now meant grays c.args.index.now given.fits is c.args.write.now c.args.read.now iw ir in
    let h = writes_tell at.In-Some meant grays given.listed shown is both in
    let k = subst (MayTell c.args.shown.net.now c.args.shown.domains.now meant c.args.read.now c.args.write.now Empty) c.in-Some-2.is (reads_may at.In_ok-read meant grays given.listed shown is both h) in
    let full = push_tests at.In_ok-full meant grays shown both h k in
    let empty = pop_test at.In_ok-full meant grays shown both h k c.in_ok-has_test.field-0 c.in_ok-has_test.ensures in
    let same : c.args.write.now.width ≡ c.args.read.now.width = omega arith in
    let some = λ (e : length c.in_ok-full.full ≡ 0). let l = c.len.ensures in let n = c.if-len-eq0.false in let o : ⊥ = omega arith in o in
    paired both meant t u h k c.in_ok-full.full full same
    (matched both meant t u h k same (sym c.are_of_two_groups.ensures ∙ c.if-not-are_of_two_groups.false) (pushes both meant t u h k c.in_ok-full.full full some)
    (pops both meant t u h k c.in_ok-has_test.field-0 empty c.if-not-branch.false))
