-- One place more, and in the end all word bits.
use Rattle.std.proofs.Common.{◌≡◌, ◌∙◌, sym, ap, subst, refl, Some, None, [], get_or, arith}
use Rattle.std.specs.HashMap as hash
use Rattle.fifo_ways.specs.Marked.{same_bit}
use Rattle.fifo_parts.specs.Words.{IsWordOf}
use Rattle.fifo_scheme.specs.Met.{AreGathered, AreNumbers, IsWordAt}
use Rattle.fifo_scheme.proofs.Gathered.{gathered_all, gathered_none, gathered_one, gathered_skip}
use Rattle.fifo_scheme.proofs.Items.{got_none, got_some, none_of}
use Rattle.fifo_scheme.proofs.MetFound.{no_word, taking_met, word_there, words_end}
use Rattle.fifo_scheme.proofs.Numbers.{more_numbers, no_numbers, word_by}
use Rattle.fifo_scheme.proofs.judge.words_of.Goals as goal
use Rattle.fifo_scheme.proofs.judge.words_of.Goals.{in-Some-number+in_ok-add, in_default-number}

pub loop-place-init : goal.loop-place-init
loop-place-init c = λ syncs grays write read met.
    let net = c.args.shown.net.now in
    let domains = c.args.shown.domains.now in (
      subst (AreGathered (IsWordAt net domains c.args.index.now write read) []) (sym c.new.ensures)
          (gathered_none (IsWordAt net domains c.args.index.now write read)),
      no_numbers net domains write read c.new-2.result c.new-2.ensures.empty,
      tt,
    )

-- nothing stands at the place
pub loop-place-preserved-in_default : goal.loop-place-preserved-in_default
loop-place-preserved-in_default c = λ syncs grays write read met.
    let i = c.args.index.now in
    let ns = c.takings_of-place-items.result.now in
    let k = c.loop-place.place-index in
    let n = get_or ns k 0 in
    let F = IsWordAt c.args.shown.net.now c.args.shown.domains.now i write read in
    let so = c.loop-place.invariant syncs grays write read met in
    let none = got_none i.takings c.as_slice.result.now c.as_slice.ensures n c.get.result c.get.ensures.lookup c.in_default.is in (
      gathered_skip F ns k 0 c.loop-place.words.bits c.loop-place.words.bits None c.loop-place-test.true so.0
          (λ b h. let both : Some h.0 ≡ None = sym h.1 ∙ none in cc) refl refl,
      so.1,
      so.2,
    )

pub loop-place-preserved : goal.loop-place-preserved
loop-place-preserved c = λ syncs grays write read met.
    let net = c.args.shown.net.now in
    let domains = c.args.shown.domains.now in
    let table = c.args.shown.table.now in
    let i = c.args.index.now in
    let p = c.args.pair.now in
    let ns = c.takings_of-place-items.result.now in
    let k = c.loop-place.place-index in
    let n = get_or ns k 0 in
    let F = IsWordAt net domains i write read in
    let so = c.loop-place.invariant syncs grays write read met in
    let t = c.in-Some.taking.now in
    let at = got_some i.takings c.as_slice.result.now c.as_slice.ensures n c.get.result c.in-Some.taking c.get.ensures.lookup c.in-Some.is in
    let takes = taking_met net domains table syncs grays i p write read met n t at in
    let told = c.number_after-number.ensures write read met.shown met.pair takes so.2 in
    elim c.match-number.branch [
      | in-Some-number+in_ok-add w ↦
          let word = subst (IsWordOf net domains write read t) w.in-Some-number.is told in
          let one = word_there net domains table syncs grays i p write read met n t at (word_by net domains write read t w.in-Some-number.number word) in (
            gathered_one F ns k 0 c.loop-place.words.bits c.match-number.words.bits (Some t.bit) t.bit c.loop-place-test.true so.0 one refl
                (ap (λ ws. ws.bits) w.words-is ∙ w.in_ok-add.ensures.bits),
            more_numbers net domains write read c.loop-place.words.numbers c.match-number.words.numbers t w.in-Some-number.number so.1 word.1
                (λ b. ap (λ ws. hash.get same_bit ws.numbers b) w.words-is ∙ w.in_ok-add.ensures.numbers b),
            (takes, told),
          )
      | in_default-number w ↦
          let none = no_word net domains table syncs grays i p write read met n t at
          (subst (IsWordOf net domains write read t) (none_of c.number_after-number.result w.in_default-number.not-Some) told) in (
            gathered_skip F ns k 0 c.loop-place.words.bits c.match-number.words.bits None c.loop-place-test.true so.0 none refl
                (ap (λ ws. ws.bits) w.words-is),
            subst (λ ws. AreNumbers net domains write read ws.numbers) (sym w.words-is) so.1,
            (takes, told),
          )
    ]

pub returns : goal.returns
returns c = record {
  bits = λ syncs grays write read met.
      words_end c.args.shown.net.now c.args.shown.domains.now c.args.shown.table.now syncs grays c.args.index.now c.args.pair.now write read met
      c.takings_of-place-items.result.now c.loop-place.words.bits c.takings_of-place-items.ensures
      (gathered_all (IsWordAt c.args.shown.net.now c.args.shown.domains.now c.args.index.now write read) c.takings_of-place-items.result.now
      c.loop-place.place-index c.loop-place.words.bits (let l = c.loop-place-test.false in omega arith) (c.loop-place.invariant syncs grays write read met).0);
  numbers = λ syncs grays write read met. (c.loop-place.invariant syncs grays write read met).1;
}
