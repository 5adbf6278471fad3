-- Values that change at most once along a line of bits go on doing so while each bit takes its own value or its neighbor's.
use Rattle.std.proofs.Common.{◌≡◌, Bool, true, false, not, List, [], ◌∷◌, ◌++◌, ◌⊎◌, inl, inr, refl, sym, ap, subst, ◌∙◌, map}
use Rattle.std.specs.List.{AllByRecursion}
use Rattle.std.specs.Prelude.{⊤}
use Rattle.cdc_base.specs.declared.bit.Bit.{Bit}
use Rattle.cell_graph.specs.Reading.{Reading}
use Rattle.cdc_model.specs.Schemes.{last_of}
use Rattle.cdc_model.specs.Facts.{TurnsOnce}

-- each bit takes its own value, that of the bit before it, or the value that the bit before it takes
abbrev pub Moves : Reading → Reading → Bit → List Bit → Type 0
Moves old new p [] = ⊤
Moves old new p (b ∷ bs) = ((new b ≡ old b) ⊎ ((new b ≡ old p) ⊎ (new b ≡ new p))) × Moves old new b bs

abbrev pub AllAre : Bool → Reading → List Bit → Type 0
AllAre v r bs = AllByRecursion (λ u. u ≡ v) (map r bs)

pub not_not : (v : Bool) → not (not v) ≡ v
not_not true = refl
not_not false = refl

pub not_self : (v : Bool) → v ≡ not v → ⊥
not_self true e = cc
not_self false e = cc

pub one_of_two : (v w : Bool) → (w ≡ v) ⊎ (w ≡ not v)
one_of_two true true = inl refl
one_of_two true false = inr refl
one_of_two false true = inr refl
one_of_two false false = inl refl

pub last_of-append : (c : Bit) (xs : List Bit) (y : Bit) (ys : List Bit) → last_of c (xs ++ y ∷ ys) ≡ last_of y ys
last_of-append c [] y ys = refl
last_of-append c (x ∷ xs) y ys = last_of-append x xs y ys

pub moves-append : (old new : Reading) (p : Bit) (xs : List Bit) (y : Bit) (ys : List Bit) → Moves old new p xs
    → (new y ≡ old y) ⊎ ((new y ≡ old (last_of p xs)) ⊎ (new y ≡ new (last_of p xs))) → Moves old new y ys → Moves old new p (xs ++ y ∷ ys)
moves-append old new p [] y ys m h n = (h, n)
moves-append old new p (x ∷ xs) y ys m h n = (m.0, moves-append old new x xs y ys m.1 h n)

all_same : (v : Bool) (old new : Reading) (p : Bit) (bs : List Bit) → old p ≡ v → new p ≡ v → AllAre v old bs → Moves old new p bs → AllAre v new bs
all_same v old new p [] o n all m = tt
all_same v old new p (b ∷ bs) o n all m =
    let e : new b ≡ v = elim m.0 [ inl h ↦ h ∙ all.0 | inr k ↦ elim k [ inl h ↦ h ∙ o | inr h ↦ h ∙ n ] ] in
    (e, all_same v old new b bs all.0 e all.1 m.1)

pub one_wave : (v : Bool) (old new : Reading) (p : Bit) (bs : List Bit) → old p ≡ v → AllAre v old bs → Moves old new p bs → TurnsOnce (new p) (map new bs)
one_wave v old new p [] o all m = tt
one_wave v old new p (b ∷ bs) o all m = go (one_wave v old new b bs all.0 all.1 m.1) (one_of_two (new p) (new b))
  where
    go : TurnsOnce (new b) (map new bs) → (new b ≡ new p) ⊎ (new b ≡ not (new p)) → TurnsOnce (new p) (map new (b ∷ bs))
    go ih (inl e) = inl (e, subst (λ (u : Bool). TurnsOnce u (map new bs)) e ih)
    go ih (inr e) = inr (subst (λ (u : Bool). AllAre u new (b ∷ bs)) (sym is_v ∙ e) (is_v, all_same v old new b bs all.0 is_v all.1 m.1))
      where
        is_v : new b ≡ v
        is_v = elim m.0 [ inl h ↦ h ∙ all.0 | inr k ↦ elim k [ inl h ↦ h ∙ o | inr h ↦ absurd (not_self (new p) (sym h ∙ e)) ] ]

first_stays : (old new : Reading) (p : Bit) (bs : List Bit) → new p ≡ old p → TurnsOnce (old p) (map old bs) → Moves old new p bs → TurnsOnce (new p) (map new bs)
first_stays old new p [] s h m = tt
first_stays old new p (b ∷ bs) s (inl h) m =
    let e : new b ≡ old p = elim m.0 [ inl k ↦ k ∙ h.0 | inr k ↦ elim k [ inl k ↦ k | inr k ↦ k ∙ s ] ] in
    inl (
      e ∙ sym s,
      subst (λ (u : Bool). TurnsOnce u (map new bs)) (e ∙ sym s)
          (first_stays old new b bs (e ∙ sym h.0) (subst (λ (u : Bool). TurnsOnce u (map old bs)) (sym h.0) h.1) m.1),
    )
first_stays old new p (b ∷ bs) s (inr h) m = go (one_of_two (new p) (new b))
  where
    go : (new b ≡ new p) ⊎ (new b ≡ not (new p)) → TurnsOnce (new p) (map new (b ∷ bs))
    go (inl e) = inl (e, subst (λ (u : Bool). TurnsOnce u (map new bs)) e (one_wave (not (old p)) old new b bs h.0 h.1 m.1))
    go (inr e) = inr (subst (λ (u : Bool). AllAre (not u) new (b ∷ bs)) (sym s)
        (e ∙ ap not s, all_same (not (old p)) old new b bs h.0 (e ∙ ap not s) h.1 m.1))

last_is : (v : Bool) (r : Reading) (p : Bit) (bs : List Bit) → r p ≡ v → AllAre v r bs → r (last_of p bs) ≡ v
last_is v r p [] e all = e
last_is v r p (b ∷ bs) e all = last_is v r b bs all.0 all.1

-- where the ends agree, all agree
pub ends_agree : (v : Bool) (r : Reading) (p : Bit) (bs : List Bit) → r (last_of p bs) ≡ v → TurnsOnce v (map r bs) → AllAre v r bs
ends_agree v r p [] e h = tt
ends_agree v r p (b ∷ bs) e (inl h) = (h.0, ends_agree v r b bs e h.1)
ends_agree v r p (b ∷ bs) e (inr h) = absurd (not_self v (sym e ∙ last_is (not v) r b bs h.0 h.1))

pub turns_kept : (old new : Reading) (p : Bit) (bs : List Bit) → (old p ≡ old (last_of p bs)) ⊎ (new p ≡ old p) → TurnsOnce (old p) (map old bs)
    → Moves old new p bs → TurnsOnce (new p) (map new bs)
turns_kept old new p bs (inl e) h m = one_wave (old p) old new p bs refl (ends_agree (old p) old p bs (sym e) h) m
turns_kept old new p bs (inr e) h m = first_stays old new p bs e h m

-- where all agree and the first keeps its value, all keep it
pub all_kept : (old new : Reading) (p : Bit) (bs : List Bit) → AllAre (old p) old bs → new p ≡ old p → Moves old new p bs → AllAre (old p) new bs
all_kept old new p bs all e m = all_same (old p) old new p bs refl e all m

pub all_last : (v : Bool) (r : Reading) (p : Bit) (bs : List Bit) → r p ≡ v → AllAre v r bs → r (last_of p bs) ≡ v
all_last v r p bs e all = last_is v r p bs e all
