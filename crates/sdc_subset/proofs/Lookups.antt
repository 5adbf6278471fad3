-- Look-ups over lists of names.
use Rattle.std.proofs.Common.{rules, ◌≡◌, ◌∙◌, refl, sym, ap, arith, ℕ, zero, suc, ◌+◌, ◌<◌, Bool, true, false, not, ◌||◌, ◌&&◌, cond, ltb, List, [], ◌∷◌, ◌++◌, map, length, get_or, Option, Some, None, append_assoc, append-nil}
use Rattle.std.specs.Prelude.{position, option_map, slice_get, if◌then◌else◌}
use Rattle.std.specs.List.{list_any, list_all, prefix_len}
use Rattle.std.specs.Str.{bytes_eq}
use Rattle.std.proofs.lemmas.Bool.Decides.{nat_tests}
use Rattle.std.proofs.lemmas.List.{length-map}
use Rattle.std.proofs.lemmas.Slice.Eq.{bytes_eq-Decides}
use Rattle.clock_constraints.proofs.Places.{prefix_len-map}
use Rattle.clock_constraints.specs.Refusals.{Text}
use Rattle.sdc_subset.specs.declared.pins.Meaning.{Meaning}
use Rattle.sdc_subset.specs.declared.groups.Member.{Member}
use Rattle.sdc_subset.specs.Groups.{group_in}
use Rattle.sdc_subset.specs.declared.pins.Pin.{Pin}
use Rattle.sdc_subset.specs.Pins.{meaning_of, unknown_to, or_else, unknown_clock, same_again, named_by, clock_names}
use Rattle.sdc_subset.specs.declared.pins.Meaning.TheVariants.{Clock, Input, Reset}

pub position-map : {X Y : Type 0} (p : Y → Bool) (f : X → Y) (xs : List X) → position p (map f xs) ≡ position (λ x. p (f x)) xs
position-map p f xs = rw (prefix_len-map (λ y. not (p y)) f xs, length-map xs f) refl

placed : (k n : ℕ) → cond (ltb (1 + k) (suc n)) (Some (1 + k)) None ≡ option_map (λ i. suc i) (cond (ltb k n) (Some k) None)
placed k n = go (ltb k n) refl
  where
    go : (b : Bool) → ltb k n ≡ b → cond (ltb (1 + k) (suc n)) (Some (1 + k)) None ≡ option_map (λ i. suc i) (cond b (Some k) None)
    go true e = grind (arith, nat_tests)
    go false e = grind (arith, nat_tests)

first : (n : ℕ) → cond {A = Option ℕ} (ltb 0 (suc n)) (Some 0) None ≡ Some 0
first n = grind (arith, nat_tests)

pub position-cons : {X : Type 0} (p : X → Bool) (x : X) (xs : List X)
    → position p (x ∷ xs) ≡ cond (p x) (Some 0) (option_map (λ i. suc i) (position p xs))
position-cons p x xs = go (p x)
  where
    go : (b : Bool) → cond (ltb (cond (not b) (1 + prefix_len (λ y. not (p y)) xs) 0) (suc (length xs))) (Some (cond (not b) (1 + prefix_len (λ y. not (p y)) xs) 0)) None
        ≡ cond b (Some 0) (option_map (λ i. suc i) (position p xs))
    go true = first (length xs)
    go false = placed (prefix_len (λ y. not (p y)) xs) (length xs)

-- what the pin at a place means
abbrev pub meaning_at : List Pin → Option ℕ → Option Meaning
meaning_at ps None = None
meaning_at ps (Some i) = option_map (λ p. p.meaning) (slice_get ps i)

at-next : (p : Pin) (ps : List Pin) (o : Option ℕ) → meaning_at (p ∷ ps) (option_map (λ i. suc i) o) ≡ meaning_at ps o
at-next p ps None = refl
at-next p ps (Some i) = refl

pub meaning-there : (port : Text) (ps : List Pin) → meaning_at ps (position (bytes_eq port) (map (λ (p : Pin). p.port) ps)) ≡ meaning_of port ps
meaning-there port [] = refl
meaning-there port (p ∷ ps) =
    ap (meaning_at (p ∷ ps)) (position-cons (bytes_eq port) p.port (map (λ (q : Pin). q.port) ps)) ∙ go (bytes_eq port p.port) (meaning-there port ps)
  where
    go : (b : Bool) → meaning_at ps (position (bytes_eq port) (map (λ (q : Pin). q.port) ps)) ≡ meaning_of port ps
        → meaning_at (p ∷ ps) (cond b (Some 0) (option_map (λ i. suc i) (position (bytes_eq port) (map (λ (q : Pin). q.port) ps))))
        ≡ cond b (Some p.meaning) (meaning_of port ps)
    go true e = refl
    go false e = at-next p ps (position (bytes_eq port) (map (λ (q : Pin). q.port) ps)) ∙ e

any-snoc : (p : Text → Bool) (xs : List Text) (y : Text) → list_any p (xs ++ y ∷ []) ≡ (list_any p xs || (p y || false))
any-snoc p [] y = refl
any-snoc p (x ∷ xs) y = go (p x) (any-snoc p xs y)
  where
    go : (b : Bool) → list_any p (xs ++ y ∷ []) ≡ (list_any p xs || (p y || false)) → (b || list_any p (xs ++ y ∷ [])) ≡ ((b || list_any p xs) || (p y || false))
    go true e = refl
    go false e = e

-- a name that is added, unless it is there, is there
pub any-added : (n name : Text) (set before : List Text) (added : Bool) (new : List Text)
    → ((m : Text) → list_any (bytes_eq m) set ≡ list_any (bytes_eq m) before)
    → added ≡ not (list_any (bytes_eq name) set) → new ≡ (if added then set ++ name ∷ [] else set)
    → list_any (bytes_eq n) new ≡ list_any (bytes_eq n) (before ++ name ∷ [])
any-added n name set before true new same a e =
    ap (list_any (bytes_eq n)) e ∙ any-snoc (bytes_eq n) set name ∙ ap (λ b. b || (bytes_eq n name || false)) (same n)
    ∙ sym (any-snoc (bytes_eq n) before name)
any-added n name set before false new same a e =
    ap (list_any (bytes_eq n)) e ∙ go (bytes_eq n name) refl ∙ sym (any-snoc (bytes_eq n) before name)
  where
    there : (b : Bool) → false ≡ not b → b ≡ true
    there true h = refl
    there false h = absurd (cc)

    go : (b : Bool) → bytes_eq n name ≡ b → list_any (bytes_eq n) set ≡ (list_any (bytes_eq n) before || (b || false))
    go false h = same n ∙ search rules
    go true h =
        let eq : n ≡ name = (bytes_eq-Decides n name).0 h in
        let has : list_any (bytes_eq n) set ≡ true = ap (λ (m : Text). list_any (bytes_eq m) set) eq ∙ there (list_any (bytes_eq name) set) a in
        let before-has : list_any (bytes_eq n) before ≡ true = sym (same n) ∙ has in
        has ∙ sym (ap (λ b. b || true) before-has)

-- what is unknown to names is unknown to the same names
pub unknown-same : (a b : List Text) → ((n : Text) → list_any (bytes_eq n) a ≡ list_any (bytes_eq n) b) → (ps : List Pin) → unknown_clock a ps ≡ unknown_clock b ps
unknown-same a b same [] = refl
unknown-same a b same (p ∷ ps) = ap (λ o. or_else o (unknown_clock a ps)) (one p.meaning) ∙ ap (or_else (unknown_to b p.meaning)) (unknown-same a b same ps)
  where
    one : (m : Meaning) → unknown_to a m ≡ unknown_to b m
    one (Input c) = rw (same c) refl
    one (Clock n) = refl
    one (Reset h) = refl

-- a port of which nothing was said is new
pub not-there : (port : Text) (ps : List Pin) → meaning_of port ps ≡ None → list_any (bytes_eq port) (map (λ (p : Pin). p.port) ps) ≡ false
not-there port [] h = refl
not-there port (p ∷ ps) h = go (bytes_eq port p.port) h (not-there port ps)
  where
    go : (b : Bool) → cond b (Some p.meaning) (meaning_of port ps) ≡ None
        → (meaning_of port ps ≡ None → list_any (bytes_eq port) (map (λ (q : Pin). q.port) ps) ≡ false)
        → (b || list_any (bytes_eq port) (map (λ (q : Pin). q.port) ps)) ≡ false
    go true e rest = absurd (cc)
    go false e rest = rest e

-- a clock pin is never said again
pub again-unnamed : (m n : Meaning) → same_again m n ≡ true → named_by n ≡ []
again-unnamed (Input a) (Input b) h = refl
again-unnamed (Reset a) (Reset b) h = refl
again-unnamed m (Clock n) h = absurd (never m h)
  where
    never : (m : Meaning) → same_again m (Clock n) ≡ true → ⊥
    never (Clock k) e = cc
    never (Input k) e = cc
    never (Reset k) e = cc
again-unnamed (Clock k) (Input b) h = refl
again-unnamed (Clock k) (Reset b) h = refl
again-unnamed (Input a) (Reset b) h = refl
again-unnamed (Reset a) (Input b) h = refl

pub names-snoc : (ps : List Pin) (p : Pin) → clock_names (ps ++ p ∷ []) ≡ clock_names ps ++ named_by p.meaning
names-snoc [] p = append-nil (named_by p.meaning)
names-snoc (q ∷ qs) p = ap (λ ns. named_by q.meaning ++ ns) (names-snoc qs p) ∙ sym (append_assoc (named_by q.meaning) (clock_names qs) (named_by p.meaning))

-- the group of the member at a place
abbrev pub group_at : List Member → Option ℕ → Text
group_at ms None = []
group_at ms (Some i) = (get_or ms i (record { clock = []; group = [] })).group

group-next : (m : Member) (ms : List Member) (o : Option ℕ) → group_at (m ∷ ms) (option_map (λ i. suc i) o) ≡ group_at ms o
group-next m ms None = refl
group-next m ms (Some i) = refl

pub group-there : (clock : Text) (ms : List Member) → group_at ms (position (bytes_eq clock) (map (λ (m : Member). m.clock) ms)) ≡ group_in ms clock
group-there clock [] = refl
group-there clock (m ∷ ms) =
    ap (group_at (m ∷ ms)) (position-cons (bytes_eq clock) m.clock (map (λ (q : Member). q.clock) ms)) ∙ go (bytes_eq clock m.clock) (group-there clock ms)
  where
    go : (b : Bool) → group_at ms (position (bytes_eq clock) (map (λ (q : Member). q.clock) ms)) ≡ group_in ms clock
        → group_at (m ∷ ms) (cond b (Some 0) (option_map (λ i. suc i) (position (bytes_eq clock) (map (λ (q : Member). q.clock) ms))))
        ≡ cond b m.group (group_in ms clock)
    go true e = refl
    go false e = group-next m ms (position (bytes_eq clock) (map (λ (q : Member). q.clock) ms)) ∙ e

-- names that are all among some are among the same names
pub among-same : (a b : List Text) → ((n : Text) → list_any (bytes_eq n) a ≡ list_any (bytes_eq n) b) → (ns : List Text)
    → list_all (λ n. list_any (bytes_eq n) a) ns ≡ list_all (λ n. list_any (bytes_eq n) b) ns
among-same a b same [] = refl
among-same a b same (n ∷ ns) = ap (λ t. t && list_all (λ m. list_any (bytes_eq m) a) ns) (same n)
    ∙ ap (λ t. list_any (bytes_eq n) b && t) (among-same a b same ns)

got : (ps : List Pin) (i : ℕ) (d : Pin) → i < length ps → slice_get ps i ≡ Some (get_or ps i d)
got [] i d l = absurd (omega arith)
got (p ∷ ps) zero d l = refl
got (p ∷ ps) (suc i) d l = got ps i d (omega arith)

-- the pin at the place of a port tells its meaning
pub meaning-found : (port : Text) (ps : List Pin) (i : ℕ) (p : Pin) → position (bytes_eq port) (map (λ (q : Pin). q.port) ps) ≡ Some i
    → i < length ps → p ≡ get_or ps i p → Some p.meaning ≡ meaning_of port ps
meaning-found port ps i p there l e =
    ap (λ (q : Pin). Some q.meaning) e ∙ sym (ap (option_map (λ (q : Pin). q.meaning)) (got ps i p l)) ∙ ap (meaning_at ps) (sym there)
    ∙ meaning-there port ps
