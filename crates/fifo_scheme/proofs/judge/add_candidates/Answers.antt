-- One place more, and in the end all that read the word.
use Rattle.std.proofs.Common.{◌≡◌, ◌∙◌, ◌↔◌, ◌⊎◌, ◌++◌, [], ◌∷◌, inl, inr, sym, ap, subst, arith, ℕ, List, Vec, Global, Contains, get_or, true, false, rules}
use Rattle.std.proofs.lemmas.List.{take_all}
use Rattle.fifo_scheme.specs.Met.{IsOwnAt}
use Rattle.fifo_scheme.proofs.MetFound.{own_left, own_put, reads_own}
use Rattle.fifo_scheme.proofs.judge.add_candidates.Goals as goal
use Rattle.fifo_scheme.proofs.judge.add_candidates.Goals.{then-is_own_at+in_ok-map_err, else-is_own_at}

pub loop-place-preserved : goal.loop-place-preserved
loop-place-preserved c = λ shown n.
    let ns = c.readings_of-place-items.result.now in
    let k = c.loop-place.place-index in
    let old = c.loop-place.places.items in
    let Own = IsOwnAt c.args.shown.net.now c.args.shown.domains.now c.args.index.now c.args.clock in
    elim c.if-is_own_at.branch [
      | then-is_own_at+in_ok-map_err w ↦
          let pushed : w.push.new.self.items ≡ old ++ get_or ns k 0 ∷ [] = search rules in
          own_put Own (Contains c.args.places.now.items n) ns k 0 c.loop-place-test.true n old c.if-is_own_at.places.items (c.loop-place.invariant shown n) ((c.is_own_at.ensures shown).0 w.if-is_own_at.true)
          (ap (λ (v : Vec ℕ Global). v.items) w.places-is ∙ pushed)
      | else-is_own_at w ↦
          own_left Own (Contains c.args.places.now.items n) ns k 0 c.loop-place-test.true n old c.if-is_own_at.places.items (c.loop-place.invariant shown n)
          (λ own. let yes = (c.is_own_at.ensures shown).1 own in let e : true ≡ false = sym yes ∙ w.if-is_own_at.false in cc) (ap (λ (v : Vec ℕ Global). v.items) w.places-is)
    ]

pub returns : goal.returns
returns c = λ meant grays shown is n.
    let net = c.args.shown.net.now in
    let domains = c.args.shown.domains.now in
    let i = c.args.index.now in
    let items = c.readings_of-place-items.result.now in
    let inv = subst (λ (ns : List ℕ). Contains c.loop-place.places.items n ↔ (Contains c.args.places.now.items n ⊎ (Contains ns n × IsOwnAt net domains i c.args.clock n)))
    (take_all c.loop-place.place-index items (let l = c.loop-place-test.false in omega arith) ∙ c.readings_of-place-items.ensures) (c.loop-place.invariant shown n) in
    let same = reads_own net domains i c.args.clock c.args.word n (is.readings_at c.args.word) in (
      λ h. elim (inv.0 h) [ inl s ↦ inl s | inr t ↦ inr (same.0 t) ],
      λ h. inv.1 (elim h [ inl s ↦ inl s | inr t ↦ inr (same.1 t) ]),
    )
