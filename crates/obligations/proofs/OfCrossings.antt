-- The findings of uncovered crossings with a number are all findings with that number.
use Rattle.std.proofs.Common.{◌≡◌, ◌∙◌, ◌⊎◌, inl, inr, refl, sym, ap, subst, arith, ℕ, ◌<◌, ◌==◌, Bool, true, false, List, [], ◌∷◌, map, Contains, eqb-true, eq-eqb}
use Rattle.std.specs.List.{AllByRecursion}
use Rattle.std.specs.Prelude.{if◌then◌else◌}
use Rattle.cdc_base.specs.declared.bit.Bit.{Bit}
use Rattle.cdc_model.specs.declared.scheme.GrayReg.{GrayReg}
use Rattle.cdc_model.specs.declared.scheme.Load.{Load}
use Rattle.cdc_model.specs.declared.verdict.Finding.{Finding as FindingEntry}
use Rattle.cdc_model.specs.declared.verdict.Finding.TheVariants as entry
use Rattle.cdc_model.specs.Design.{Design}
use Rattle.cdc_model.specs.Ordered.{IsAll, is_before}
use Rattle.cdc_model.specs.Schemes.{Trees, Sync, Ring}
use Rattle.cdc_model.specs.Verdict.{Finding, V1, V2, V3, V4, V5, V6, V7, V8, IsFinding, finding_key}
use Rattle.cdc_model.proofs.Ascending.{Ascends, ascending, here, later, in_map, from_map, in_filter, from_filter, same_before}
use Rattle.obligations.specs.declared.bare.Lack.{Lack}
use Rattle.obligations.specs.declared.bare.Lack.TheVariants.{Flops, Hold, Gate, Scheme}
use Rattle.obligations.specs.declared.bare.Uncovered.{Uncovered}
use Rattle.obligations.specs.Bare.{AddsCrossings, finding_at, uncovered_key}
use Rattle.obligations.specs.Findings.{AreAdded, IsShownBy, finding_of, number_of}
use Rattle.cdc_model.proofs.Keys.{ascends}
use Rattle.obligations.proofs.Numbered.{with_number}

-- the numbers of findings of crossings
abbrev pub IsOfCrossing : ℕ → Type 0
IsOfCrossing n = (n < 3) ⊎ (6 < n)

other : {A : Type 0} (n k : ℕ) → IsOfCrossing n → 2 < k → k < 7 → k ≡ n → A
other n k (inl l) a b e = absurd (omega (arith, l, a, e))
other n k (inr l) a b e = absurd (omega (arith, l, b, e))

-- such a finding is that of an uncovered crossing, and needs no flops or arrivals
uncovered_of : (n : ℕ) → IsOfCrossing n → (f : Finding) → number_of f ≡ n → (u : Uncovered) × (finding_at u ≡ f)
uncovered_of n h (V1 b x) e = (record { crossing = record { from = b; to = x }; lack = Scheme }, refl)
uncovered_of n h (V2 b x) e = (record { crossing = record { from = b; to = x }; lack = Flops }, refl)
uncovered_of n h (V3 w g) e = other n 3 h (omega arith) (omega arith) e
uncovered_of n h (V4 b g) e = other n 4 h (omega arith) (omega arith) e
uncovered_of n h (V5 w g) e = other n 5 h (omega arith) (omega arith) e
uncovered_of n h (V6 x g) e = other n 6 h (omega arith) (omega arith) e
uncovered_of n h (V7 b x r) e = (record { crossing = record { from = b; to = x }; lack = Hold r }, refl)
uncovered_of n h (V8 b x r) e = (record { crossing = record { from = b; to = x }; lack = Gate r }, refl)

is_shown : (d : Design) (t : Trees) (syncs : List Sync) (n : ℕ) → IsOfCrossing n → (e : FindingEntry) → number_of (finding_of e) ≡ n → IsShownBy d t syncs e
is_shown d t syncs n h (entry.V1 b x path) e = tt
is_shown d t syncs n h (entry.V2 b x path) e = tt
is_shown d t syncs n h (entry.V3 w g flops) e = other n 3 h (omega arith) (omega arith) e
is_shown d t syncs n h (entry.V4 b g flops) e = other n 4 h (omega arith) (omega arith) e
is_shown d t syncs n h (entry.V5 w g flops) e = other n 5 h (omega arith) (omega arith) e
is_shown d t syncs n h (entry.V6 x g arrivals) e = other n 6 h (omega arith) (omega arith) e
is_shown d t syncs n h (entry.V7 b x r path) e = tt
is_shown d t syncs n h (entry.V8 b x r path) e = tt

all_shown : (d : Design) (t : Trees) (syncs : List Sync) (n : ℕ) → IsOfCrossing n → (es : List FindingEntry) → ((f : Finding) → Contains (map finding_of es) f → number_of f ≡ n) → AllByRecursion (IsShownBy d t syncs) es
all_shown d t syncs n h [] k = tt
all_shown d t syncs n h (e ∷ es) k = (
  is_shown d t syncs n h e (k (finding_of e) (here (finding_of e) (map finding_of es))),
  all_shown d t syncs n h es (λ f i. k f (later (finding_of e) (map finding_of es) f i)),
)

-- ---- their order

key_is : (u : Uncovered) → finding_key (finding_at u) ≡ number_of (finding_at u) ∷ uncovered_key u
key_is u = go u.lack
  where
    go : (l : Lack) → finding_key (finding_at (record { crossing = u.crossing; lack = l })) ≡ number_of (finding_at (record { crossing = u.crossing; lack = l })) ∷ uncovered_key u
    go Flops = refl
    go (Hold r) = refl
    go (Gate r) = refl
    go Scheme = refl

before_at : (u w : Uncovered) → number_of (finding_at u) ≡ number_of (finding_at w) → is_before (uncovered_key u) (uncovered_key w) ≡ true → is_before (finding_key (finding_at u)) (finding_key (finding_at w)) ≡ true
before_at u w same before = subst (λ ks. is_before ks (finding_key (finding_at w)) ≡ true) (sym (key_is u)) (subst (λ ks. is_before (number_of (finding_at u) ∷ uncovered_key u) ks ≡ true) (sym (key_is w))
    (same_before (number_of (finding_at u)) (number_of (finding_at w)) (uncovered_key u) (uncovered_key w) same before))

module _ (n : ℕ) where
  from_numbered : (us : List Uncovered) (f : Finding) → Contains (with_number n (map finding_at us)) f → (u : Uncovered) × Contains us u × (finding_at u ≡ f) × (number_of f ≡ n)
  from_numbered us f i =
      let h = from_filter (λ f. number_of f == n) (map finding_at us) f i in
      let u = from_map finding_at us f h.0 in (u.0, u.1, u.2, eqb-true (number_of f) n h.1)

  numbered_ascend : (us : List Uncovered) → Ascends uncovered_key us → Ascends finding_key (with_number n (map finding_at us))
  numbered_ascend [] h = tt
  numbered_ascend (u ∷ us) h = go (number_of (finding_at u) == n) refl (numbered_ascend us h.1)
    where
      go : (v : Bool) → (number_of (finding_at u) == n) ≡ v → Ascends finding_key (with_number n (map finding_at us))
          → Ascends finding_key (if v then finding_at u ∷ with_number n (map finding_at us) else with_number n (map finding_at us))
      go true e ih = (
        λ f i.
            let w = from_numbered us f i in
            let is : number_of (finding_at w.0) ≡ n = ap number_of w.2 ∙ w.3 in
            subst (λ (g : Finding). is_before (finding_key (finding_at u)) (finding_key g) ≡ true) w.2 (before_at u w.0 (eqb-true (number_of (finding_at u)) n e ∙ sym is) (h.0 w.0 w.1)),
        ih,
      )
      go false e ih = ih

module _ (d : Design) (t : Trees) (grays : List GrayReg) (syncs : List Sync) (rings : List Ring) (loads : List Load) (is_extra : Bit → Bit → Bool) where
  pub crossings_added : (n : ℕ) → IsOfCrossing n → (us : List Uncovered) (old new : List FindingEntry) → IsAll (λ u. IsFinding d t grays syncs rings loads is_extra (finding_at u)) uncovered_key us
      → AddsCrossings n us old new → AreAdded d t grays syncs rings loads is_extra n old new
  crossings_added n h us old new every (more, added, numbered) = (
    more,
    added,
    record {
      all = subst (IsAll (λ f. IsFinding d t grays syncs rings loads is_extra f × (number_of f ≡ n)) finding_key) (sym numbered) (record {
        all = λ f is.
            let u = uncovered_of n h f is.1 in
            let i = every.all u.0 (subst (IsFinding d t grays syncs rings loads is_extra) (sym u.1) is.0) in
            in_filter (λ f. number_of f == n) (map finding_at us) f (subst (Contains (map finding_at us)) u.1 (in_map finding_at us u.0 i)) (eq-eqb (number_of f) n is.1);
        only = λ f i. let u = from_numbered n us f i in (subst (IsFinding d t grays syncs rings loads is_extra) u.2 (every.only u.0 u.1), u.3);
        ordered = ascending finding_key (with_number n (map finding_at us)) (numbered_ascend n us (ascends uncovered_key us every.ordered));
      });
      shown = all_shown d t syncs n h more (λ f i. (from_numbered n us f (subst (λ fs. Contains fs f) numbered i)).3);
    },
  )
