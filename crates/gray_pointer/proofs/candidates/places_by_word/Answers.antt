-- One of the operands of the code's lowest bit leads to the counter.
use Rattle.std.proofs.Common.{◌≡◌, ◌∙◌, sym, subst, inl, inr, ◌⊎◌, ℕ, Contains, List, Vec, Global, arith}
use Rattle.gray_pointer.specs.declared.word.Exclusive.{Exclusive}
use Rattle.gray_pointer.proofs.Changes.{IsOfCount, code_leads}
use Rattle.gray_pointer.proofs.candidates.places_by_word.Goals as goal
use Rattle.gray_pointer.proofs.candidates.places_by_word.Goals.{in-Some+in_ok-add_counted+in_ok-add_counted-2, in_default}

pub returns : goal.returns
returns c = λ plain up w two has place count at code.
    let g = c.args.net.now.graph in
    let is = c.exclusive_of.ensures plain has.0 (let l = has.2 in omega arith) in
    let leads = code_leads g count.sig w two c.args.code code c.exclusive_of.result is in
    c.in_ok-places.ensures up place count at (subst (λ (l : List ℕ). Contains l count.sig) (sym c.as_slice.ensures.value) (elim c.match-exclusive_of.branch [
      | in-Some+in_ok-add_counted+in_ok-add_counted-2 p ↦
          let f = sym leads.1 ∙ p.in-Some.is in
          let same : leads.0 ≡ p.in-Some.code = cc in
          subst (λ (v : Vec ℕ Global). Contains v.items count.sig) (sym p.found-is)
          (elim (subst (λ (e : Exclusive). IsOfCount g count.sig w e.one ⊎ IsOfCount g count.sig w e.another) same leads.2) [
            | inl (node, is, inside, lt, own) ↦ p.in_ok-add_counted-2.ensures.kept count.sig (p.in_ok-add_counted.ensures.there plain count.sig w node is inside lt own)
            | inr (node, is, inside, lt, own) ↦ p.in_ok-add_counted-2.ensures.there plain count.sig w node is inside lt own
          ])
      | in_default p ↦ absurd (p.in_default.not-Some leads.0 leads.1)
    ]))
