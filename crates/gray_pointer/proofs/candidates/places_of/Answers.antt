-- One signal more.
use Rattle.std.proofs.Common.{◌≡◌, ◌∙◌, ◌++◌, sym, subst, inl, inr, ℕ, List, [], ◌∷◌, Contains, Vec, Global, get_or, take, arith, rules}
use Rattle.std.proofs.lemmas.List.{take_more, take_all}
use Rattle.std.proofs.lemmas.List.Elements.{Contains-append_left, Contains-push, Contains-push_cases}
use Rattle.gray_pointer.proofs.candidates.places_of.Goals as goal
use Rattle.gray_pointer.proofs.candidates.places_of.Goals.{in-Some+in_ok-map_err, in_default}

pub loop-sig-preserved : goal.loop-sig-preserved
loop-sig-preserved c = λ up place r at h.
    let sigs = c.args.sigs.now in
    let i = c.loop-sig.sig-index in
    let old = c.loop-sig.places.items in
    let cases = Contains-push_cases (take i sigs) (get_or sigs i 0) r.sig (subst (λ (l : List ℕ). Contains l r.sig) (take_more sigs i 0 c.loop-sig-test.true) h) in
    elim c.match-place_of.branch [
      | in-Some+in_ok-map_err w ↦
          let q = w.in-Some.place in
          let pushed : w.push.new.self.items ≡ old ++ q ∷ [] = search rules in
          subst (λ (v : Vec ℕ Global). Contains v.items place) (sym w.places-is) (subst (λ (l : List ℕ). Contains l place) (sym pushed) (elim cases [
            | inl k ↦ Contains-append_left old (q ∷ []) place (c.loop-sig.invariant up place r at k)
            | inr e ↦ let f = sym w.in-Some.is ∙ c.place_of.ensures up place r at (sym e) in let same : q ≡ place = cc in subst (Contains (old ++ q ∷ [])) same (Contains-push old q)
          ]))
      | in_default w ↦ subst (λ (v : Vec ℕ Global). Contains v.items place) (sym w.places-is) (elim cases [
        | inl k ↦ c.loop-sig.invariant up place r at k
        | inr e ↦ absurd (w.in_default.not-Some place (c.place_of.ensures up place r at (sym e)))
      ])
    ]

pub returns : goal.returns
returns c = λ up place r at h. c.loop-sig.invariant up place r at
    (subst (λ (l : List ℕ). Contains l r.sig) (sym (take_all c.loop-sig.sig-index c.args.sigs.now (let l = c.loop-sig-test.false in omega arith))) h)
