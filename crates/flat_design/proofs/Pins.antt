-- Reset pins by name, as far as they were read: the first of each name counts.
use Rattle.std.proofs.Common.{◌≡◌, ◌==◌, ℕ, suc, ◌<◌, Bool, true, false, cond, List, [], ◌∷◌, drop, Option, Some, None, refl, sym, ap, subst, ◌∙◌, arith, rules, find, bytes_eq, nat_lt, ltb-true, ltb-false}
use Rattle.std.specs.Prelude.{slice_get, is_some}
use Rattle.std.specs.Cmp.Lexicographic.{pointwise}
use Rattle.std.proofs.lemmas.Slice.Eq.{bytes_eq-Decides}
use Rattle.indexmap.specs.IndexMap.{IndexMap}
use Rattle.cdc_base.specs.declared.signal.ResetPin.{ResetPin}
use Rattle.flat_unfolding.specs.Outcome.{Text}
use Rattle.flat_unfolding.proofs.Steps.{some_is}
use Rattle.flat_names.specs.declared.design.Reset.{Reset}
use Rattle.flat_names.specs.Designs.{IsPin, IsReset}
use Rattle.flat_design.specs.Visiting.{pin_in, ShowsPins}

abbrev pub pin_named : Text → List ResetPin → Option ResetPin
pin_named x pins = find (λ (r : ResetPin). bytes_eq r.name x) pins

pub record PinsSoFar {S : Type 0} (pins : List ResetPin) (number : ℕ) (table : IndexMap Text Reset S) : Type 0 where
  pub found : (x : Text) (q : Reset) → pin_in table x ≡ Some q → (r : ResetPin) × IsPin pins q r × (pin_named x pins ≡ Some r)
  pub missing : (x : Text) → pin_in table x ≡ None → pin_named x pins ≡ pin_named x (drop number pins)
  pub named : (k : ℕ) (r : ResetPin) → k < number → slice_get pins k ≡ Some r → is_some (pin_in table r.name) ≡ true

pub pins-none : {S : Type 0} (pins : List ResetPin) (table : IndexMap Text Reset S) → ((x : Text) → pin_in table x ≡ None) → PinsSoFar pins 0 table
pins-none pins table h = record {
  found = λ x q e. absurd (let f = sym (h x) ∙ e in search (rules, f));
  missing = λ x e. refl;
  named = λ k r l e. absurd (let n = l in omega arith);
}

is-none : {A : Type 0} (o : Option A) → is_some o ≡ false → o ≡ None
is-none None e = refl
is-none (Some a) e = absurd (search (rules, e))

module _ {S : Type 0} (pins : List ResetPin) (number : ℕ) (r : ResetPin) (rest : List ResetPin) (old new : IndexMap Text Reset S) (h : PinsSoFar pins number old) (next : drop number pins ≡ r ∷ rest)
    (at : slice_get pins number ≡ Some r) (left : rest ≡ drop (suc number) pins) (q : Reset) (pin : q.pin ≡ number) (level : q.is_high ≡ r.high)
    (set : (x : Text) → pin_in new x ≡ cond (is_some (pin_in old r.name)) (pin_in old x) (cond (pointwise ◌==◌ r.name x) (Some q) (pin_in old x))) where
  -- a name that is there
  module _ (there : is_some (pin_in old r.name) ≡ true) where
    same : (x : Text) → pin_in new x ≡ pin_in old x
    same x = set x ∙ ap (λ b. cond b (pin_in old x) (cond (bytes_eq r.name x) (Some q) (pin_in old x))) there

    missing-still : (x : Text) → pin_in new x ≡ None → pin_named x pins ≡ pin_named x (drop (suc number) pins)
    missing-still x e = h.missing x (sym (same x) ∙ e) ∙ ap (pin_named x) next ∙ go (bytes_eq r.name x) refl ∙ ap (pin_named x) left
      where
        go : (b : Bool) → bytes_eq r.name x ≡ b → cond b (Some r) (pin_named x rest) ≡ pin_named x rest
        go false d = refl
        go true d =
            let t : is_some (pin_in old x) ≡ true = ap (λ z. is_some (pin_in old z)) (sym ((bytes_eq-Decides r.name x).0 d)) ∙ there in
            let u : is_some (pin_in old x) ≡ false = ap is_some (sym (same x) ∙ e) in absurd (let v = sym t ∙ u in search (rules, v))

    named-still : (k : ℕ) (p : ResetPin) → k < suc number → slice_get pins k ≡ Some p → is_some (pin_in new p.name) ≡ true
    named-still k p l e = ap is_some (same p.name) ∙ go (nat_lt k number) refl
      where
        go : (c : Bool) → nat_lt k number ≡ c → is_some (pin_in old p.name) ≡ true
        go true f = h.named k p (ltb-true k number f) e
        go false f =
            let g = ltb-false k number f in let i : number ≡ k = omega (arith, g, l) in
            ap (λ (z : ResetPin). is_some (pin_in old z.name)) (sym (some_is r p (sym at ∙ ap (slice_get pins) i ∙ e))) ∙ there

    pins-still : PinsSoFar pins (suc number) new
    pins-still = record { found = λ x p e. h.found x p (sym (same x) ∙ e); missing = missing-still; named = named-still }

  -- a name that is new
  module _ (fresh : is_some (pin_in old r.name) ≡ false) where
    added : (x : Text) → pin_in new x ≡ cond (bytes_eq r.name x) (Some q) (pin_in old x)
    added x = set x ∙ ap (λ b. cond b (pin_in old x) (cond (bytes_eq r.name x) (Some q) (pin_in old x))) fresh

    is-pin : IsPin pins q r
    is-pin = record { pin = ap (slice_get pins) pin ∙ at; level = level; first = λ k p l e. go k p (subst (λ n. k < n) pin l) e (bytes_eq p.name r.name) refl }
      where
        go : (k : ℕ) (p : ResetPin) → k < number → slice_get pins k ≡ Some p → (b : Bool) → bytes_eq p.name r.name ≡ b → bytes_eq p.name r.name ≡ false
        go k p l e false d = d
        go k p l e true d = absurd (let t = sym (h.named k p l e) ∙ ap (λ z. is_some (pin_in old z)) ((bytes_eq-Decides p.name r.name).0 d) ∙ fresh in search (rules, t))

    found-new : (x : Text) (p : Reset) → pin_in new x ≡ Some p → (z : ResetPin) × IsPin pins p z × (pin_named x pins ≡ Some z)
    found-new x p e = go (bytes_eq r.name x) refl (sym (added x) ∙ e)
      where
        go : (b : Bool) → bytes_eq r.name x ≡ b → cond b (Some q) (pin_in old x) ≡ Some p → (z : ResetPin) × IsPin pins p z × (pin_named x pins ≡ Some z)
        go true d f = (
          r,
          subst (λ (w : Reset). IsPin pins w r) (some_is q p f) is-pin,
          h.missing x (ap (pin_in old) (sym ((bytes_eq-Decides r.name x).0 d)) ∙ is-none (pin_in old r.name) fresh) ∙ ap (pin_named x) next ∙ ap (λ b. cond b (Some r) (pin_named x rest)) d,
        )
        go false d f = h.found x p f

    missing-new : (x : Text) → pin_in new x ≡ None → pin_named x pins ≡ pin_named x (drop (suc number) pins)
    missing-new x e = go (bytes_eq r.name x) refl (sym (added x) ∙ e)
      where
        go : (b : Bool) → bytes_eq r.name x ≡ b → cond b (Some q) (pin_in old x) ≡ None → pin_named x pins ≡ pin_named x (drop (suc number) pins)
        go true d f = absurd (search (rules, f))
        go false d f = h.missing x f ∙ ap (pin_named x) next ∙ ap (λ b. cond b (Some r) (pin_named x rest)) d ∙ ap (pin_named x) left

    named-new : (k : ℕ) (p : ResetPin) → k < suc number → slice_get pins k ≡ Some p → is_some (pin_in new p.name) ≡ true
    named-new k p l e = ap is_some (added p.name) ∙ go (bytes_eq r.name p.name) refl (nat_lt k number) refl
      where
        go : (b : Bool) → bytes_eq r.name p.name ≡ b → (c : Bool) → nat_lt k number ≡ c → is_some (cond b (Some q) (pin_in old p.name)) ≡ true
        go true d c f = refl
        go false d true f = h.named k p (ltb-true k number f) e
        go false d false f =
            let g = ltb-false k number f in let i : number ≡ k = omega (arith, g, l) in
            absurd (let t = sym d ∙ (bytes_eq-Decides r.name p.name).1 (ap (λ (z : ResetPin). z.name) (some_is r p (sym at ∙ ap (slice_get pins) i ∙ e))) in search (rules, t))

    pins-new : PinsSoFar pins (suc number) new
    pins-new = record { found = found-new; missing = missing-new; named = named-new }

  pub pins-more : PinsSoFar pins (suc number) new
  pins-more = go (is_some (pin_in old r.name)) refl
    where
      go : (b : Bool) → is_some (pin_in old r.name) ≡ b → PinsSoFar pins (suc number) new
      go true e = pins-still e
      go false e = pins-new e

pub pins-all : {S : Type 0} (pins : List ResetPin) (number : ℕ) (table : IndexMap Text Reset S) → PinsSoFar pins number table → drop number pins ≡ [] → ShowsPins table pins
pins-all pins number table h all x = go (pin_in table x) refl
  where
    go : (o : Option Reset) → pin_in table x ≡ o → IsReset pins o (pin_named x pins)
    go None e = subst (IsReset pins None) (sym (h.missing x e ∙ ap (pin_named x) all)) tt
    go (Some q) e = let f = h.found x q e in subst (IsReset pins (Some q)) (sym f.2) f.1
